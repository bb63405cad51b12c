use Rattle.std.proofs.Common.{◌≤◌, vec_len}
use Rattle.ods_cli.proofs.words.first_paths.Given as goal

abbrev pub invariant-loop-path : goal.invariant-loop-path
invariant-loop-path l = vec_len l.paths ≤ 8
