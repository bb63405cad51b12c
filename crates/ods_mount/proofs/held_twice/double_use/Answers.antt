use Rattle.std.proofs.Common.{◌≡◌, ℕ, inl, inr, subst, arith}
use Rattle.std.proofs.lemmas.Bool.{cases_lt}
use Rattle.ods_space.specs.Files.{Holds}
use Rattle.ods_mount.proofs.Holders.{double_with, double_own, holder_some}
use Rattle.ods_mount.proofs.held_twice.double_use.Goals as goal

pub loop-other-init : goal.loop-other-init
loop-other-init c m v low held = let some = holder_some c.args.disk.now.image.now c.args.disk.now.layout.now m v c.args.lbn held in omega arith

pub returns-then-holds : goal.returns-then-holds
returns-then-holds c =
    let found = c.if-holds.ensures in
    double_with c.args.disk.now.image.now c.args.disk.now.layout.now c.args.number c.args.lbn c.loop-other.other found.0 c.requires.twice c.loop-other-test.true found.1

pub loop-other-preserved : goal.loop-other-preserved
loop-other-preserved c m v low held = elim (cases_lt m c.loop-other.other) [
  | inl less ↦ c.loop-other.invariant m v less held
  | inr more ↦
      let e : m ≡ c.loop-other.other = omega arith in
      let P : ℕ → Type 0 = λ x. Holds c.args.disk.now.image.now c.args.disk.now.layout.now x v c.args.lbn in
      c.if-holds.ensures v (subst P e held)
]

pub returns : goal.returns
returns c =
    let end = c.loop-other-test.false in
    double_own c.args.disk.now.image.now c.args.disk.now.layout.now c.args.number c.args.lbn c.requires.twice (λ m v low. c.loop-other.invariant m v (omega arith))
