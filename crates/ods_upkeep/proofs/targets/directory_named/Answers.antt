use Rattle.std.proofs.Common.{refl, sym, subst, inl, [], None}
use Rattle.ods_paths.specs.Patterns.{capitals}
use Rattle.ods_paths.specs.Views.{folder}
use Rattle.ods_shell.specs.Named.{AreNamed, AreNotNamed}
use Rattle.ods_upkeep.proofs.Directing.{decided, dir_files, none_named}
use Rattle.ods_upkeep.proofs.targets.directory_named.Goals as goal

pub returns-in-Ok : goal.returns-in-Ok
returns-in-Ok c =
    let I = c.args.volume.now.image in
    let L = c.args.volume.now.layout in
    let name = capitals c.args.name.now in
    let are : AreNamed I L [] (folder c.args.folder.now) (dir_files name) None c.in-Ok.found.items = c.in-Ok.ensures.named [] (inl refl) in
    decided I L c.layout.ensures.sound (folder c.args.folder.now) name c.deref.result.now c.one_directory.result (subst (AreNamed I L [] (folder c.args.folder.now) (dir_files name) None) (sym c.deref.ensures.value) are)
    c.one_directory.ensures

pub returns-in-Err-Nothing : goal.returns-in-Err-Nothing
returns-in-Err-Nothing c =
    none_named c.args.volume.now.image c.args.volume.now.layout c.layout.ensures.sound (folder c.args.folder.now) (capitals c.args.name.now)
    (subst (AreNotNamed c.args.volume.now.image c.args.volume.now.layout (folder c.args.folder.now) (dir_files (capitals c.args.name.now)) None) c.in-Err-Nothing.field-0-is c.in-Err-Nothing.ensures.err)
