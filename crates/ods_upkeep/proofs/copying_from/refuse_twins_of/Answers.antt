use Rattle.std.proofs.Common.{[], List, inr, refl, subst}
use Rattle.std.proofs.lemmas.Result.{err_from_is_err_and}
use Rattle.ods_shell.specs.declared.alone.Alone.TheVariants as alone
use Rattle.ods_shell.specs.declared.found.Found.{Found}
use Rattle.ods_shell.specs.Named.{highest}
use Rattle.ods_shell.specs.Twins.{HaveTwins}
use Rattle.ods_upkeep.specs.Sources.{AreOfPath}
use Rattle.ods_upkeep.proofs.Naming.{no_source_by, of_path_by}
use Rattle.ods_upkeep.proofs.copying_from.refuse_twins_of.Goals as goal

pub returns : goal.returns
returns c =
    let I = c.args.other.now.image.now in
    let L = c.args.other.now.layout.now in
    let found : List Found = c.in_ok-found.found.items in
    let named : AreOfPath I L (highest alone.Files) c.args.path.now found =
    of_path_by I L c.highest.result (highest alone.Files) c.args.path.now [] c.in_ok-found.field-0-1.items found c.highest.ensures refl c.in_ok-found.ensures.named in
    (found, named, subst (λ (fs : List Found). ¬ HaveTwins fs) c.deref.ensures.value c.if-have_twins.ensures)

pub returns-in_err-found : goal.returns-in_err-found
returns-in_err-found c =
    let p = err_from_is_err_and c.from_residual.result c.from_residual.ensures.1 in
    rw (p.1, p.2) (inr (no_source_by c.args.other.now.image.now c.args.other.now.layout.now _ _ c.args.path.now _ _ c.highest.ensures refl c.in_err-found.ensures.err))
