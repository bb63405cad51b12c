use Rattle.std.proofs.Common.{◌≡◌, ◌++◌, map, take}
use Rattle.ods_base.specs.Name.{rad50_char}
use Rattle.ods_base.proofs.print.push_part.Given as goal

abbrev pub invariant-loop-code : goal.invariant-loop-code
invariant-loop-code g l = l.text.bytes ≡ l.initial.text.bytes ++ map rad50_char (take l.code-index l.code-items)
