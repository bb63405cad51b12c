use Rattle.std.proofs.Common.{◌≡◌, map, take}
use Rattle.ods_shell.specs.There.{line_path}
use Rattle.fs_reads.specs.Paths.{path_and_file}
use Rattle.fs_reads.proofs.comparing.paths_of.Given as goal

abbrev pub invariant-loop-line : goal.invariant-loop-line
invariant-loop-line l = map path_and_file l.all.items ≡ map (λ line. (line_path l.found.directories.items line, line.entry.file)) (take l.line-index l.line-items)
