use Rattle.std.proofs.Common.{inl, inr}
use Rattle.ods_space.proofs.Surveys.{found_here, found_apart}
use Rattle.ods_space.proofs.survey.found_with.Goals as goal

pub returns-then-wanted-count : goal.returns-then-wanted-count
returns-then-wanted-count c blocks size is = found_apart blocks c.args.run.now c.args.found c.args.count c.args.wanted size is (inl c.if-wanted-count.true)

pub returns-then-wanted-count-2 : goal.returns-then-wanted-count-2
returns-then-wanted-count-2 c blocks size is = found_here blocks c.args.run.now c.args.count c.args.wanted size c.if-wanted-count.false c.if-wanted-count-2.true

pub returns-else-wanted-count-2 : goal.returns-else-wanted-count-2
returns-else-wanted-count-2 c blocks size is = found_apart blocks c.args.run.now c.args.found c.args.count c.args.wanted size is (inr c.if-wanted-count-2.false)
