use Rattle.std.proofs.Common.{◌<◌, ◌+◌, ℕ, List, length, sym, subst, arith}
use Rattle.ods_space.proofs.Drafts.{IsFilled, filled_none, filled_more, filled_all}
use Rattle.ods_space.proofs.fill.fill.Goals as goal

pub put-requires : goal.put-requires
put-requires c = let size = c.loop-lbn.invariant.0.size in omega arith

pub loop-lbn-init : goal.loop-lbn-init
loop-lbn-init c = (filled_none c.args.image.now c.args.filling.now.0 c.args.run.now.lbn, omega arith)

pub loop-lbn-preserved : goal.loop-lbn-preserved
loop-lbn-preserved c =
    let size = c.loop-lbn.invariant.0.size in
    let within : c.loop-lbn.lbn < length c.loop-lbn.image = omega arith in
    let P : List (List ℕ) → Type 0 = λ J. IsFilled c.args.image.now J c.args.filling.now.0 c.args.run.now.lbn (c.loop-lbn.lbn + 1) in (
      subst P (sym c.put.ensures)
          (filled_more c.args.image.now c.loop-lbn.image c.args.filling.now.0 c.args.run.now.lbn c.loop-lbn.lbn c.loop-lbn.auto.lbn within c.loop-lbn.invariant.0),
      omega arith,
    )

pub returns : goal.returns
returns c =
    let size = c.len.ensures.value in
    let small = c.len.ensures.image.size in
    filled_all c.args.image.now c.loop-lbn.image c.args.filling.now.0 c.args.run.now c.loop-lbn.lbn c.loop-lbn.invariant.0 c.loop-lbn.invariant.1 (λ k left below. omega arith)
