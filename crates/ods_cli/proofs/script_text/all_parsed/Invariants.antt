use Rattle.std.proofs.Common.{◌≡◌, map, Ok}
use Rattle.ods_cli.proofs.script_text.all_parsed.Given as goal

abbrev pub invariant-loop-one : goal.invariant-loop-one
invariant-loop-one l = l.yielded ≡ map Ok l.scripts.items
