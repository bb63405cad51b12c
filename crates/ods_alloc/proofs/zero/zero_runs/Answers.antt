use Rattle.std.proofs.Common.{arith}
use Rattle.ods_space.specs.Draft.{applied}
use Rattle.ods_space.proofs.Drafts.{length-applied}
use Rattle.ods_alloc.proofs.Zeroing.{zeroed_next}
use Rattle.ods_alloc.proofs.zero.zero_runs.Goals as goal

pub loop-run-preserved : goal.loop-run-preserved
loop-run-preserved c = λ I. zeroed_next I (applied I c.args.draft.now) c.loop-run.draft c.zero.new.self c.args.runs.now c.loop-run.run-index (record { lbn = 0; count = 0 })
    (length-applied I c.args.draft.now) (omega arith) (c.in_ok-zero.ensures).ok (c.loop-run.invariant I)
