use Rattle.std.proofs.Common.{◌+◌, sym, ap, ◌∙◌}
use Rattle.ods_space.proofs.Surveys.{length-with_run}
use Rattle.ods_space.proofs.survey.with_run.Goals as goal

pub returns-clause-noted : goal.returns-clause-noted
returns-clause-noted c blocks old = record {
  count = ap (λ n. n + c.args.run.now.count) old.count ∙ sym (length-with_run blocks c.args.run.now);
  found = c.found_with.ensures blocks old.count old.found;
  past = c.past_with.ensures blocks old.past;
}
