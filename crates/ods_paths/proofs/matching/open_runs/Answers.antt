use Rattle.std.proofs.Common.{◌≡◌, ◌+◌, ◌-◌, ℕ, Bool, subst, sym, arith}
use Rattle.ods_paths.proofs.RowLoops.{IsOpening, opening, opened, opens}
use Rattle.ods_paths.proofs.matching.open_runs.Goals as goal

pub loop-place-init : goal.loop-place-init
loop-place-init c = opening c.args.row.now

pub loop-place-preserved : goal.loop-place-preserved
loop-place-preserved c =
    let place : ℕ = c.loop-place.place - 1 in
    let e : c.loop-place.place ≡ place + 1 = omega (arith, c.loop-place-test.true) in
    opened c.args.row.now c.loop-place.row place c.loop-place.seen c.either-seen.result (omega (arith, c.loop-place.invariant.here, c.loop-place.invariant.size, c.loop-place-test.true))
    (subst (λ (n : ℕ). IsOpening c.args.row.now c.loop-place.row n c.loop-place.seen) e c.loop-place.invariant) c.either-seen.ensures

pub returns : goal.returns
returns c = opens c.args.row.now c.loop-place.row c.loop-place.seen c.loop-place.place (omega arith) c.loop-place.invariant
