use Rattle.std.proofs.Common.{sym, ◌∙◌}
use Rattle.std.specs.Prelude.{string_bytes}
use Rattle.fs_reads.proofs.InArchive.{folder_is}
use Rattle.fs_reads.proofs.tar_folders.folder_of.Goals as goal

pub returns-in-Some-2 : goal.returns-in-Some-2
returns-in-Some-2 c =
    folder_is c.args.directories.now (string_bytes c.args.found.now.path) c.as_str.result.now c.args.found.now.place c.in-Some.place c.in_ok-directory.field-0 c.in-Some-2.directory c.deref.result.now string_bytes
    c.folder_text.result (sym c.place.ensures ∙ c.in-Some.is) c.as_str.ensures.value c.in-Some-2.is c.in_ok-directory.ensures.some c.deref.ensures.value c.folder_text.ensures
