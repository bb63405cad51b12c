-- Where each block that no file holds is freed, none is left.
use Rattle.std.proofs.Common.{◌≡◌, ℕ, ◌<◌, ap, sym, ◌∙◌, subst, true, false, cond, ◌&&◌, List, length, inl, inr}
use Rattle.std.specs.List.{Contains}
use Rattle.std.proofs.lemmas.Bool.{lt-ltb}
use Rattle.ods_space.specs.Layout.{VolumeLayout}
use Rattle.ods_space.specs.Free.{is_covered, is_free_block, storage_bit}
use Rattle.ods_alloc.specs.Extend.{is_one_of}
use Rattle.ods_state.proofs.OnlyBookkeeping.{among_or_not}
use Rattle.ods_amend.specs.Bits.{AreMarked, IsLoose}
use Rattle.ods_check.specs.Findings.{IsHeldByNone}

-- such a block is one that may be freed
pub loose : (I : List (List ℕ)) (L : VolumeLayout) (b : ℕ) → IsHeldByNone I L b → IsLoose I L b
loose I L b h = record { unheld = h.none; behind = λ lbn at place low. h.place place }

module _ (I J : List (List ℕ)) (L : VolumeLayout) (blocks : List ℕ) (all : (b : ℕ) → IsHeldByNone I L b → Contains blocks b) (m : AreMarked I L blocks true J) where
  -- a block that the bitmap covers is free where its bit says so
  free_is : (K : List (List ℕ)) (b : ℕ) → b < length K → is_covered L b ≡ true → is_free_block K L b ≡ storage_bit K L b
  free_is K b inside covered = λ i. lt-ltb b (length K) inside i && (covered i && storage_bit K L b)

  -- one that is found then was found before
  was : (b : ℕ) → is_one_of blocks b ≡ false → IsHeldByNone J L b → IsHeldByNone I L b
  was b other h =
      let inside : b < length I = subst (λ n. b < n) m.long h.marked.inside in
      let same : is_free_block J L b ≡ is_free_block I L b = m.bits b inside h.marked.covered ∙ ap (λ o. cond o true (is_free_block I L b)) other in
      let used : storage_bit I L b ≡ false = sym (free_is I b inside h.marked.covered) ∙ sym same ∙ free_is J b h.marked.inside h.marked.covered ∙ h.marked.used in
      record {
        marked = record { inside = inside; covered = h.marked.covered; used = used };
        other = h.other;
        place = h.place;
        none = λ n v holds. h.none n v ((m.held n v b).0 holds);
      }

  pub none_left : (b : ℕ) → ¬ IsHeldByNone J L b
  none_left b h = elim (among_or_not blocks b) [
    | inl among ↦
        let inside : b < length I = subst (λ n. b < n) m.long h.marked.inside in
        let freed : is_free_block J L b ≡ true = m.bits b inside h.marked.covered ∙ ap (λ o. cond o true (is_free_block I L b)) among.0 in
        let clash : true ≡ false = sym freed ∙ free_is J b h.marked.inside h.marked.covered ∙ h.marked.used in
        absurd (cc clash)
    | inr other ↦
        let there : Contains blocks b = all b (was b other.0 h) in
        other.1 there
  ]
