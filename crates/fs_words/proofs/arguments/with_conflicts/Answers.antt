use Rattle.std.proofs.Common.{rules, map}
use Rattle.fs_words.proofs.Listed.{others_all, others_more, same_more}
use Rattle.fs_words.proofs.arguments.with_conflicts.Goals as goal

pub loop-pair-preserved : goal.loop-pair-preserved
loop-pair-preserved c = record {
  same = same_more c.args.arg c.loop-pair.arg c.in_ok-arg.arg c.loop-pair.invariant.same c.in_ok-arg.ensures.same;
  apart = others_more c.args.id.now c.args.conflicts.now c.loop-pair.pair-index _ (map (λ s. s.now) c.args.arg.conflicts.items) (map (λ s. s.now) c.loop-pair.arg.conflicts.items) (map (λ s. s.now) c.in_ok-arg.arg.conflicts.items) (search rules) c.loop-pair.invariant.apart c.in_ok-arg.ensures.apart;
}

pub returns : goal.returns
returns c = record {
  same = c.loop-pair.invariant.same;
  apart = others_all c.args.id.now c.args.conflicts.now c.loop-pair.pair-index (map (λ s. s.now) c.args.arg.conflicts.items) (map (λ s. s.now) c.loop-pair.arg.conflicts.items) (search rules) c.loop-pair.invariant.apart;
}
