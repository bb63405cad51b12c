use Rattle.std.proofs.Common.{rules, ◌≡◌, ◌+◌, ℕ, Some, slice_get, inl, inr, ap, subst, arith}
use Rattle.std.proofs.lemmas.Bool.{cases_lt}
use Rattle.ods_mount.proofs.index.first_misplaced.Goals as goal

pub loop-i-preserved : goal.loop-i-preserved
loop-i-preserved c k low elsewhere = elim (cases_lt k c.loop-i.i) [
  | inl less ↦ c.loop-i.invariant k less elsewhere
  | inr more ↦
      let L = c.args.layout.now in
      let e : c.loop-i.i ≡ k = omega arith in
      let P : ℕ → Type 0 = λ j. slice_get L.index (2 + j) ≡ Some (L.home.index_bitmap_lbn + j) in
      elsewhere.1 (subst P e (search rules))
]

pub returns-clause-none : goal.returns-clause-none
returns-clause-none c k elsewhere =
    let low = elsewhere.0 in
    let end = c.loop-i-test.false in
    let size = ap (λ h. h.index_bitmap_size) c.home.ensures in
    c.loop-i.invariant k (omega arith) elsewhere
