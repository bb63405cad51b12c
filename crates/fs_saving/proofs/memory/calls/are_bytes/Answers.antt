use Rattle.std.proofs.Common.{sym, ◌∙◌, arith}
use Rattle.fs_saving.proofs.Changes.{stripped, matched}
use Rattle.fs_saving.proofs.memory.calls.are_bytes.Goals as goal

pub loop-lbn-preserved : goal.loop-lbn-preserved
loop-lbn-preserved c =
    stripped c.args.image.now c.loop-lbn.lbn c.args.bytes.now c.loop-lbn.rest.now c.in-Some.left.now c.as_slice.result.now (omega (arith, c.loop-lbn-test.true, c.len-lbn-end.ensures.value))
    (c.as_slice.ensures ∙ c.bytes.ensures.value ∙ c.block.ensures.value) c.loop-lbn.invariant c.in-Some.ensures.cases.0 c.in-Some.ensures.cases.1

pub returns : goal.returns
returns c = λ same. matched c.args.image.now c.loop-lbn.lbn c.args.bytes.now c.loop-lbn.rest.now c.args.behind.now (omega (arith, c.loop-lbn-test.false, c.len-lbn-end.ensures.value)) c.loop-lbn.invariant (sym c.eq.ensures ∙ same)
