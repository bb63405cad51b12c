-- What a draft of storage bits makes of a sound volume.
use Rattle.std.proofs.Common.{◌≡◌, ℕ, ◌<◌, refl, ap, sym, ◌∙◌, subst, Bool, true, false, cond, ◌&&◌, List, [], length, inl, inr}
use Rattle.std.specs.Prelude.{◌⊎◌, nat_lt}
use Rattle.std.specs.List.{All, Contains}
use Rattle.std.proofs.lemmas.Bool.{lt-ltb, ltb-true}
use Rattle.std.proofs.lemmas.List.Elements.{All-contains}
use Rattle.ods_space.specs.Layout.{VolumeLayout}
use Rattle.ods_space.specs.Free.{is_covered, is_free_block, storage_bit}
use Rattle.ods_alloc.specs.Extend.{is_one_of}
use Rattle.ods_alloc.specs.Marks.{MarksBlocks}
use Rattle.ods_mount.specs.Sound.{IsSoundBy}
use Rattle.ods_state.proofs.OnlyBookkeeping.{among_or_not}
use Rattle.ods_amend.specs.Bits.{AreMarked, IsLoose}
use Rattle.ods_amend.proofs.BitsSound.{has, headers_same, held_was, holds_now, numbers_same, shows_now, sound_now, still_spent}

first_of : (a b : Bool) → (a && b) ≡ true → a ≡ true
first_of true b e = refl
first_of false b e = absurd (cc e)

second_of : (a b : Bool) → (a && b) ≡ true → b ≡ true
second_of true b e = e
second_of false b e = absurd (cc e)

module _ (I J : List (List ℕ)) (L : VolumeLayout) (blocks : List ℕ) (free : Bool) (S : IsSoundBy I L) (m : MarksBlocks I L blocks free J) (loose : free ≡ true → All (IsLoose I L) blocks) where
  bits : (x : ℕ) → x < length I → is_covered L x ≡ true → is_free_block J L x ≡ cond (is_one_of blocks x) free (is_free_block I L x)
  bits x low covered =
      let here : nat_lt x (length J) ≡ true = lt-ltb x (length J) (subst (λ n. x < n) (sym m.size) low) in
      let was : nat_lt x (length I) ≡ true = lt-ltb x (length I) low in
      let new : is_free_block J L x ≡ cond (is_one_of blocks x) free (storage_bit I L x) = λ i. here i && (covered i && m.bits x covered i) in
      let old : is_free_block I L x ≡ storage_bit I L x = λ i. was i && (covered i && storage_bit I L x) in
      new ∙ ap (cond (is_one_of blocks x) free) (sym old)

  free_was : (x : ℕ) → is_free_block J L x ≡ true → (is_free_block I L x ≡ true) ⊎ IsLoose I L x
  free_was x f =
      let low : x < length I = subst (λ n. x < n) m.size (ltb-true x (length J) (first_of (nat_lt x (length J)) (is_covered L x && storage_bit J L x) f)) in
      let covered : is_covered L x ≡ true = first_of (is_covered L x) (storage_bit J L x) (second_of (nat_lt x (length J)) (is_covered L x && storage_bit J L x) f) in
      let now : cond (is_one_of blocks x) free (is_free_block I L x) ≡ true = sym (bits x low covered) ∙ f in
      elim (among_or_not blocks x) [
        | inl among ↦ (let freed : free ≡ true = subst (λ o. cond o free (is_free_block I L x) ≡ true) among.0 now in inr (All-contains (IsLoose I L) blocks x (loose freed) among.1))
        | inr other ↦ inl (subst (λ o. cond o free (is_free_block I L x) ≡ true) other.0 now)
      ]

  pub are_marked : AreMarked I L blocks free J
  are_marked = record {
    sound = sound_now I J L S m.size m.others free_was;
    shown = shows_now I J L S m.size m.others;
    past = still_spent I J L S m.size m.others;
    held = λ n v x. (holds_now I J L S m.size m.others n v x, held_was I J L S m.size m.others n v x);
    kept = has I J L S m.size m.others;
    headers = headers_same I J L S m.size m.others;
    numbers = numbers_same I J L S m.size m.others;
    bits = bits;
    long = m.size;
    elsewhere = m.others;
  }
