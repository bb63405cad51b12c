use Rattle.std.proofs.Common.{◌∙◌, arith}
use Rattle.fs_saving.proofs.Sent.{on_ok, given_next, given_all}
use Rattle.fs_saving.proofs.memory.MemoryFolder.write_all.Goals as goal

pub loop-lbn-preserved : goal.loop-lbn-preserved
loop-lbn-preserved c =
    let before = c.loop-lbn.invariant in
    let step = c.in_default.ensures in
    record {
      named = step.named ∙ before.named;
      given = given_next c.args.image.now c.loop-lbn.lbn c.args.file.now.given.items c.loop-lbn.file.given.items _ c.bytes.result.now
          (omega (arith, c.loop-lbn-test.true, c.len-lbn-end.ensures.value)) (c.bytes.ensures.value ∙ c.block.ensures.value) before.given step.given;
      others = λ other apart held had. step.others other (λ e. apart (e ∙ before.named)) held (before.others other apart held had);
      moments = λ other apart held was. before.moments other apart held (step.moments other (λ e. apart (e ∙ before.named)) held was);
    }

pub returns-clause-given : goal.returns-clause-given
returns-clause-given c =
    on_ok c.write_piece-2.result
    (given_all c.args.image.now c.loop-lbn.lbn c.args.file.now.given.items c.loop-lbn.file.given.items _ c.args.behind.now (omega (arith, c.loop-lbn-test.false, c.len-lbn-end.ensures.value)) c.loop-lbn.invariant.given)
    c.write_piece-2.ensures.given
