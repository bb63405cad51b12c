use Rattle.ods_base.proofs.NameCodes.{AreCodes}
use Rattle.ods_base.proofs.parse.part_codes.Given as goal

abbrev pub invariant-loop-i : goal.invariant-loop-i
invariant-loop-i g l = AreCodes l.part l.i g.row.N l.codes
