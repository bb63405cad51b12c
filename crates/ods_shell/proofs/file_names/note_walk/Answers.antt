use Rattle.std.proofs.Common.{rules, ◌<◌, length}
use Rattle.ods_shell.proofs.Noted.{are_directories, none_noted}
use Rattle.ods_shell.proofs.file_names.note_walk.Goals as goal

pub loop-place-init : goal.loop-place-init
loop-place-init c = none_noted c.args.walk.now.directories c.args.first.now.items c.requires.size c.requires.none

pub note_directory-requires-clause-directory : goal.note_directory-requires-clause-directory
note_directory-requires-clause-directory c =
    let within : c.loop-place.place < length c.args.walk.now.directories = search rules in
    are_directories c.args.walk.now.directories c.loop-place.place c.requires.master c.requires.reached within
