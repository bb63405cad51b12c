use Rattle.std.proofs.Common.{◌∙◌, sym, arith}
use Rattle.ods_space.proofs.Located.{place_in_run, place_behind_run, no_place}
use Rattle.ods_space.proofs.mapped.mapped_block.Goals as goal

pub returns-then-left-count : goal.returns-then-left-count
returns-then-left-count c = sym (c.loop-k.invariant ∙ place_in_run c.args.header.now c.loop-k.k c.pointer_at-run.result c.pointer_at-run.ensures.value c.loop-k.left (omega arith))

pub loop-k-preserved : goal.loop-k-preserved
loop-k-preserved c = c.loop-k.invariant ∙ place_behind_run c.args.header.now c.loop-k.k c.pointer_at-run.result c.pointer_at-run.ensures.value c.loop-k.left (omega arith)

pub returns : goal.returns
returns c = sym (c.loop-k.invariant ∙ no_place c.args.header.now c.loop-k.k c.loop-k.left (omega arith))
