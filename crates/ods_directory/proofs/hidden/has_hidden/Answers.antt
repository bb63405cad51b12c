use Rattle.std.proofs.Common.{◌≡◌, true, false, inl, inr, sym, ◌∙◌, subst, arith, ℕ}
use Rattle.std.proofs.lemmas.Bool.{cases_lt}
use Rattle.ods_directory.specs.Entry.{entry_at, is_used}
use Rattle.ods_directory.proofs.hidden.has_hidden.Goals as goal

pub loop-k-init : goal.loop-k-init
loop-k-init g c = λ j behind low. absurd (omega arith)

pub loop-k-preserved : goal.loop-k-preserved
loop-k-preserved g c = λ j behind low. elim (cases_lt j c.loop-k.k) [
  | inl before ↦ c.loop-k.invariant j behind before
  | inr last ↦
      let here : c.loop-k.k ≡ j = omega arith in
      let P : ℕ → Type 0 = λ i. is_used (entry_at (g.B.DirBlocks.blocks c.args.blocks.now) i) ≡ false in
      subst P here (sym c.is_used_at.ensures ∙ c.if-is_used_at.false)
]

pub returns-then-is_used_at : goal.returns-then-is_used_at
returns-then-is_used_at g c =
    let size = c.count.ensures in
    (c.loop-k.k, record { behind = omega arith; inside = omega arith; used = sym c.is_used_at.ensures ∙ c.if-is_used_at.true })

pub returns : goal.returns
returns g c = λ h.
    let size = c.count.ensures in
    let end = c.loop-k-test.false in
    let inside = h.1.inside in
    let clash : true ≡ false = sym h.1.used ∙ c.loop-k.invariant h.0 h.1.behind (omega arith) in
    absurd cc
