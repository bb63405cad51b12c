use Rattle.std.proofs.Common.{refl}
use Rattle.ods_paths.proofs.FileTexts.{whole_before, kind_behind, any_kind}
use Rattle.ods_paths.proofs.files.split_name.Goals as goal

pub returns-in-Some : goal.returns-in-Some
returns-in-Some c = (c.in-Some.ensures.place.1, kind_behind c.args.full.now _ _ c.in-Some.ensures.cut)

pub returns-in-None : goal.returns-in-None
returns-in-None c = (whole_before 46 c.args.full.now c.in-None.ensures.place, any_kind c.args.full.now _ c.in-None.ensures.cut refl)
