use Rattle.std.proofs.Common.{rules, ◌≡◌, ◌∙◌, ap, is_some, refl, subst, sym}
use Rattle.std.specs.String.{string_bytes}
use Rattle.std.proofs.lemmas.Result.{err_from_is_err_and}
use Rattle.ods_paths.specs.Patterns.{has_wildcard}
use Rattle.ods_upkeep.specs.Untarred.{SaysFile, SaysNoFile, closed, nameless, no_way, pattern, unwritten}
use Rattle.ods_upkeep.specs.Wayside.{IsNotOpen, IsOpen, path_of_way}
use Rattle.ods_upkeep.specs.Written.{bytes_of}
use Rattle.ods_upkeep.proofs.Naming.{same_disk}
use Rattle.ods_upkeep.proofs.Packing.{ends}
use Rattle.ods_upkeep.proofs.untarring.untar_one.Goals as goal

pub returns-then-has_wildcard : goal.returns-then-has_wildcard
returns-then-has_wildcard c = pattern (ap has_wildcard (sym c.as_bytes.ensures.value) ∙ sym c.if-has_wildcard.ensures) refl

pub returns-in_err-name : goal.returns-in_err-name
returns-in_err-name c =
    let p = err_from_is_err_and c.from_residual.result c.from_residual.ensures.1 in
    let own : c.is_some.result ≡ is_some c.args.packed.now.owner = search rules in
    let why = c.in_err-name.field-0.0 in
    rw (p.1, p.2) (nameless why c.last_part.ensures.0 c.last_part.result.now c.last_part.ensures.1 (subst (λ o. SaysNoFile o c.last_part.result.now why) own c.in_err-name.ensures) refl)

pub returns-in_err-written : goal.returns-in_err-written
returns-in_err-written c =
    let p = err_from_is_err_and c.from_residual-in_err-written.result c.from_residual-in_err-written.ensures.1 in
    rw (p.1, p.2) (unwritten _ c.in_err-written.ensures refl)

pub returns-in_err-way : goal.returns-in_err-way
returns-in_err-way c =
    let p = err_from_is_err_and c.from_residual-in_err-way.result c.from_residual-in_err-way.ensures.1 in
    let parts = c.last_part.ensures.0 in
    let last = c.last_part.result.now in
    rw (p.1, p.2) (no_way _ parts last c.last_part.ensures.1 (c.in_err-way.ensures.refused parts last c.last_part.ensures.1))

pub returns-in_err-dir : goal.returns-in_err-dir
returns-in_err-dir c =
    let p = err_from_is_err_and c.from_residual-in_err-dir.result c.from_residual-in_err-dir.ensures.1 in
    let parts = c.last_part.ensures.0 in
    let last = c.last_part.result.now in
    let f = c.make_way.new.filing in
    let way = string_bytes c.in_ok-way.way in
    let path : c.path_of_way.result.now ≡ path_of_way way = c.path_of_way.ensures ∙ ap path_of_way c.as_str.ensures.value in
    rw (p.1, p.2)
    (closed _ parts last way c.last_part.ensures.1 (c.in_ok-way.ensures.made parts last c.last_part.ensures.1)
    (subst (λ t. IsNotOpen f.image f.layout t c.in_err-dir.field-0.0) path
    (same_disk (λ I L. IsNotOpen I L c.path_of_way.result.now c.in_err-dir.field-0.0) c.mounted.ensures.0 c.mounted.ensures.1 c.in_err-dir.ensures)))

pub returns : goal.returns
returns c =
    let parts = c.last_part.ensures.0 in
    let last = c.last_part.result.now in
    let f = c.make_way.new.filing in
    let way = string_bytes c.in_ok-way.way in
    let w = c.in_ok-written.written in
    let dir = c.in_ok-dir.dir in
    let path : c.path_of_way.result.now ≡ path_of_way way = c.path_of_way.ensures ∙ ap path_of_way c.as_str.ensures.value in
    let own : c.is_some.result ≡ is_some c.args.packed.now.owner = search rules in
    ends c.file_in.result c.args.stamp c.args.packed.now c.args.filing.now f c.file_in.new.filing parts last c.in_ok-name.name c.in_ok-name.said w.attributes (bytes_of w) way dir
    (ap has_wildcard (sym c.as_bytes.ensures.value) ∙ sym c.if-has_wildcard.ensures) c.last_part.ensures.1 (subst (λ o. SaysFile o last c.in_ok-name.name c.in_ok-name.said) own c.in_ok-name.ensures) c.in_ok-written.ensures
    (c.in_ok-way.ensures.made parts last c.last_part.ensures.1)
    (subst (λ t. IsOpen f.image f.layout t dir) path (same_disk (λ I L. IsOpen I L c.path_of_way.result.now dir) c.mounted.ensures.0 c.mounted.ensures.1 c.in_ok-dir.ensures)) c.file_in.ensures
