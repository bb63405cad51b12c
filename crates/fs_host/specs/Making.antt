-- New files of the host that are being created.
use Rattle.std.specs.Prelude.{ℕ, List, Option, string_bytes}
use Rattle.std.specs.declared.fs.File.{File}
use Rattle.fs_host.specs.declared.hidden_file.HiddenFile.{HiddenFile}
use Rattle.fs_host.specs.declared.new_file.NewFile.{NewFile}

-- the hidden path of a file
abbrev pub path_hidden : HiddenFile → List ℕ
path_hidden hidden = string_bytes hidden.path

-- the file, which has no name of its own yet
abbrev pub file_made : NewFile → File
file_made new = new.made.file

-- the path that it receives
abbrev pub path_made : NewFile → List ℕ
path_made new = string_bytes new.path

-- the path that it has until then
abbrev pub hidden_made : NewFile → List ℕ
hidden_made new = path_hidden new.made

-- the mode that it receives with its name, if one is given
abbrev pub mode_made : NewFile → Option ℕ
mode_made new = new.mode
