use Rattle.std.proofs.Common.{◌≡◌, refl, subst, List, [], ◌∷◌, Some}
use Rattle.ods_shell.specs.declared.alone.Alone.TheVariants as alone
use Rattle.ods_shell.specs.Named.{highest}
use Rattle.ods_shell.specs.declared.found.Found.{Found}
use Rattle.ods_upkeep.specs.Sources.{AreOfPath}
use Rattle.ods_upkeep.proofs.LawsAppended.{open_or_not}
use Rattle.ods_upkeep.proofs.Naming.{just_one, of_path_by}
use Rattle.ods_upkeep.proofs.appending.the_file.Goals as goal

pub returns : goal.returns
returns c =
    let I = c.args.volume.now.image in
    let L = c.args.volume.now.layout in
    let found : List Found = c.in_ok-found.found.items in
    let named : AreOfPath I L (highest alone.Refused) c.args.path.now found = of_path_by I L c.highest.result (highest alone.Refused) c.args.path.now [] c.in_ok-found.field-0-1.items found c.highest.ensures refl c.in_ok-found.ensures.named in
    let one : found ≡ c.one-item.result ∷ [] = just_one c.as_slice.result.now found c.one-item.result c.as_slice.ensures.value c.in-len1.len_at_least c.in-len1.len_below c.one-item.is in
    open_or_not I L c.args.path.now c.one-item.result c.with_open_end.result (subst (AreOfPath I L (highest alone.Refused) c.args.path.now) one named) c.with_open_end.ensures
