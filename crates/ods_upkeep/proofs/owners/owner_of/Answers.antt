use Rattle.std.proofs.Common.{refl, sym, ◌∙◌, subst, inr}
use Rattle.ods_paths.specs.Numbers.{IsNumberedName}
use Rattle.ods_upkeep.specs.Made.{IsOwner}
use Rattle.ods_upkeep.proofs.owners.owner_of.Goals as goal

pub returns-in-None : goal.returns-in-None
returns-in-None c =
    let read = c.as_bytes.ensures.value ∙ c.deref.ensures.0 ∙ c.print_title-title.ensures in
    subst (λ said. IsOwner said c.args.user c.args.dir c.args.name.now c.args.user) (sym c.in_default.is)
    (inr (λ group member numbered. c.in-None.ensures group member (subst (λ t. IsNumberedName t group member) (sym read) numbered.1), refl))
