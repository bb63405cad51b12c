use Rattle.std.proofs.Common.{◌≡◌, ◌≤◌, ◌+◌, inl, inr, subst, sym, arith}
use Rattle.std.specs.List.{Contains}
use Rattle.std.proofs.lemmas.Bool.{cases_lt}
use Rattle.ods_header.specs.Header.{blocks_of}
use Rattle.ods_remains.specs.Deleted.{IsDeleted, former}
use Rattle.ods_remains.proofs.fronts.reach.Goals as goal

pub loop-before-init : goal.loop-before-init
loop-before-init c = λ n lbn up is has. let low = is.low in absurd (omega (arith, up, low))

pub loop-before-preserved : goal.loop-before-preserved
loop-before-preserved c = λ n lbn up is has.
    let I = c.args.disk.now.image.now in
    let L = c.args.disk.now.layout.now in
    let on = c.in_ok-size.ensures in
    elim (cases_lt c.loop-before.before n) [
      | inl last ↦
          let same : n ≡ c.loop-before.before + 1 = omega (arith, up, last) in
          on.1 (subst (IsDeleted I L) same is) lbn (subst (λ k. Contains (blocks_of (former I L k)) lbn) same has)
      | inr earlier ↦ let low = c.loop-before.invariant n lbn earlier is has in let up = on.0 in omega (arith, low, up)
    ]

pub returns : goal.returns
returns c = λ n lbn is has.
    let high = is.high in
    let end = c.last_number-before-end.ensures in
    let past = c.loop-before-test.false in
    c.loop-before.invariant n lbn (omega (arith, high, end, past)) is has
