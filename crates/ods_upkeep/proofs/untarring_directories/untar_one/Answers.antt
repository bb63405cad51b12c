use Rattle.std.proofs.Common.{◌∙◌, ap, refl, sym}
use Rattle.std.specs.String.{string_bytes}
use Rattle.std.proofs.lemmas.Result.{err_from_is_err_and}
use Rattle.ods_paths.specs.Patterns.{has_wildcard}
use Rattle.ods_upkeep.specs.DirectoryUntarred.{forgotten, several, stopped}
use Rattle.ods_upkeep.proofs.DirectoriesUntarred.{at_end, only_way}
use Rattle.ods_upkeep.proofs.untarring_directories.untar_one.Goals as goal

pub returns-then-has_wildcard : goal.returns-then-has_wildcard
returns-then-has_wildcard c = several (ap has_wildcard (sym c.as_bytes.ensures.value) ∙ sym c.if-has_wildcard.ensures) refl

pub returns-in_err-way : goal.returns-in_err-way
returns-in_err-way c =
    let p = err_from_is_err_and c.from_residual.result c.from_residual.ensures.1 in
    let parts = c.last_part-last.ensures.0 in
    let last = c.last_part-last.result.now in
    rw (p.1, p.2) (stopped _ parts last c.last_part-last.ensures.1 (c.in_err-way.ensures.refused parts last c.last_part-last.ensures.1))

pub returns-then-names_nothing : goal.returns-then-names_nothing
returns-then-names_nothing c =
    let parts = c.last_part-last.ensures.0 in
    let last = c.last_part-last.result.now in
    only_way c.args.run c.args.packed.now c.args.filing.now c.make_way.new.filing parts last (string_bytes c.in_ok-way.way) (ap has_wildcard (sym c.as_bytes.ensures.value) ∙ sym c.if-has_wildcard.ensures)
    c.last_part-last.ensures.1 (c.in_ok-way.ensures.made parts last c.last_part-last.ensures.1) (sym c.if-names_nothing.ensures)

pub returns-in_err-push_part : goal.returns-in_err-push_part
returns-in_err-push_part c =
    let p = err_from_is_err_and c.from_residual-in_err-push_part.result c.from_residual-in_err-push_part.ensures.1 in
    let parts = c.last_part-last.ensures.0 in
    let last = c.last_part-last.result.now in
    rw (p.1, p.2) (forgotten parts last (string_bytes c.in_ok-way.way) c.last_part-last.ensures.1 (c.in_ok-way.ensures.made parts last c.last_part-last.ensures.1))

pub returns : goal.returns
returns c =
    let parts = c.last_part-last.ensures.0 in
    let last = c.last_part-last.result.now in
    at_end c.make_missing.result c.args.run c.args.packed.now c.args.filing.now c.make_way.new.filing c.make_missing.new.filing parts last (string_bytes c.in_ok-way.way) c.as_str.result.now
    (ap has_wildcard (sym c.as_bytes.ensures.value) ∙ sym c.if-has_wildcard.ensures) c.last_part-last.ensures.1 (c.in_ok-way.ensures.made parts last c.last_part-last.ensures.1) (sym c.if-names_nothing.ensures)
    (c.as_str.ensures.value ∙ c.in_ok-push_part.ensures) c.make_missing.ensures
