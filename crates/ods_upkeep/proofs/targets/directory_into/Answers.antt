use Rattle.std.proofs.Common.{◌≡◌, refl}
use Rattle.ods_paths.specs.Views.{files, folder}
use Rattle.ods_upkeep.specs.Refused.{no_memory}
use Rattle.ods_upkeep.proofs.Directing.{meant_itself, unsaid_by}
use Rattle.ods_upkeep.proofs.Naming.{whether_more}
use Rattle.ods_upkeep.proofs.targets.directory_into.Goals as goal

pub returns : goal.returns
returns c =
    whether_more (λ why. why ≡ no_memory) c.directory_named.result
    (meant_itself c.args.volume.now.image c.args.volume.now.layout c.args.text.now (folder c.args.folder.now) (files c.args.files) (unsaid_by c.args.files.versions c.args.version c.requires c.if-is_some.ensures)
    (c.if-not-may_be_directory.ensures.0 refl))
    c.directory_named.ensures
