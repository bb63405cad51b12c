use Rattle.std.proofs.Common.{◌+◌, ◌<◌, ◌≤◌, ℕ, List, subst, arith}
use Rattle.std.specs.List.{Contains}
use Rattle.ods_space.proofs.Parts.{named_in_run, not_in_run}
use Rattle.ods_space.proofs.Surveys.{first_blocks_all}
use Rattle.ods_mount.proofs.held_twice.names.Goals as goal
use Rattle.ods_mount.proofs.held_twice.names.Goals.{else-run-lbn-via-then-run-lbn+else-lbn-end, else-run-lbn-via-else-run-lbn}

pub returns-then-lbn-end : goal.returns-then-lbn-end
returns-then-lbn-end c = named_in_run c.args.header.now c.loop-k.k c.args.lbn c.pointer_at-run.result c.pointer_at-run.ensures.value c.if-run-lbn.true c.if-lbn-end.true

pub loop-k-preserved : goal.loop-k-preserved
loop-k-preserved c =
    let r = c.pointer_at-run.result in
    let out : ¬ ((r.lbn ≤ c.args.lbn) × (c.args.lbn < r.lbn + r.count)) = elim c.else-run-lbn.branch [
      | else-run-lbn-via-then-run-lbn+else-lbn-end w ↦ λ p. (let past = w.if-lbn-end.false in let high = p.1 in omega arith)
      | else-run-lbn-via-else-run-lbn w ↦ λ p. (let before = w.if-run-lbn.false in let low = p.0 in omega arith)
    ] in
    not_in_run c.args.header.now c.loop-k.k c.args.lbn r c.pointer_at-run.ensures.value c.loop-k.invariant out

pub returns : goal.returns
returns c =
    let all = first_blocks_all c.args.header.now c.loop-k.k (omega (arith, c.pointer_count-k-end.ensures.count, c.loop-k-test.false)) in
    let P : List ℕ → Type 0 = λ l. ¬ Contains l c.args.lbn in
    subst P all c.loop-k.invariant
