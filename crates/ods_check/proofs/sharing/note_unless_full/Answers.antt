use Rattle.std.proofs.lemmas.Bool.Decides.{when_true}
use Rattle.ods_check.proofs.sharing.note_unless_full.Goals as goal

pub returns-then-is_full-clause-noted : goal.returns-then-is_full-clause-noted
returns-then-is_full-clause-noted c some = absurd (some (when_true _ _ c.if-is_full.true c.is_full.ensures))
