use Rattle.std.proofs.Common.{◌≡◌, ◌∙◌, true, false, ap, sym}
use Rattle.std.proofs.lemmas.Option.{same_Some}
use Rattle.ods_mount.specs.Tables.{has}
use Rattle.ods_repair.proofs.unsharing.check_header.Goals as goal

pub returns-in-Some-clause-alone : goal.returns-in-Some-clause-alone
returns-in-Some-clause-alone c = λ x e besides.
    let same : c.in-Some.place ≡ x = same_Some c.in-Some.place x (sym c.in-Some.is ∙ c.place.ensures ∙ e) in
    let there : has c.in_ok-held.held x ≡ true = c.in_ok-held.ensures.all x besides in
    let absent : has c.in_ok-held.held c.in-Some.place ≡ false = sym c.contains.ensures ∙ c.if-contains.false in
    absurd (let clash : true ≡ false = sym there ∙ ap (has c.in_ok-held.held) (sym same) ∙ absent in cc)
