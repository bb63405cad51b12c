-- A block more, and all blocks.
use Rattle.std.proofs.Common.{ℕ, ◌++◌, [], List, subst, arith, refl, take}
use Rattle.fs_host.specs.Compared.{Gives}
use Rattle.fs_host.proofs.Comparing.{gives_none, gives_both, blocks_next, blocks_all}
use Rattle.fs_host.proofs.comparing_bytes.gives_image.Goals as goal

pub loop-lbn-init : goal.loop-lbn-init
loop-lbn-init g c = record { room = omega arith; aligned = omega arith; given = ([], gives_none c.args.ends_in_zeros (g.R.Read.remaining c.args.reader.now), refl) }

pub loop-lbn-preserved : goal.loop-lbn-preserved
loop-lbn-preserved g c =
    let remaining = g.R.Read.remaining in
    let before = c.loop-lbn.invariant.given in
    let step = c.in-Some.ensures.given in
    record {
      room = c.in-Some.ensures.room;
      aligned = c.in-Some.ensures.aligned;
      given = (
        before.0 ++ step.0,
        gives_both c.args.ends_in_zeros (remaining c.args.reader.now) (remaining c.loop-lbn.reader) (remaining c.hold.new.reader) before.0 step.0 before.1 step.1,
        blocks_next c.args.image.now c.loop-lbn.lbn before.0 step.0 _ _ _ (omega (arith, c.loop-lbn-test.true, c.len-lbn-end.ensures.value)) c.block.ensures.value before.2 step.2,
      );
    }

pub returns : goal.returns
returns g c = λ t.
    let remaining = g.R.Read.remaining in
    let before = c.loop-lbn.invariant.given in
    let last = gives_both c.args.ends_in_zeros (remaining c.args.reader.now) (remaining c.loop-lbn.reader) (remaining c.gives.new.reader) before.0 _ before.1 (c.gives.ensures t) in
    subst (Gives c.args.ends_in_zeros (remaining c.args.reader.now) (remaining c.gives.new.reader)) (blocks_all c.args.image.now c.loop-lbn.lbn before.0 _ (omega arith) before.2) last
