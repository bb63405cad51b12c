use Rattle.std.proofs.Common.{◌≡◌, sym, subst, ap, List, Bool, ℕ, ◌∷◌}
use Rattle.ods_paths.specs.Rows.{IsRow}
use Rattle.ods_paths.proofs.RowSteps.{runs_row, one_row}
use Rattle.ods_paths.proofs.matching.take_in.Goals as goal

pub returns-then-character-eq42 : goal.returns-then-character-eq42
returns-then-character-eq42 c = λ pattern row. subst (λ (n : ℕ). IsRow c.args.text.now c.open_runs.new.row (n ∷ pattern)) (sym c.if-character-eq42.true) (runs_row c.args.text.now c.args.row.now c.open_runs.new.row pattern c.open_runs.ensures row)

pub returns-else-character-eq42 : goal.returns-else-character-eq42
returns-else-character-eq42 c = λ pattern row. one_row c.args.character c.args.text.now c.args.row.now c.take_one.new.row pattern c.if-character-eq42.false c.take_one.ensures row
