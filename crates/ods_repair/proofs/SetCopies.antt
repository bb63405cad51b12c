-- A set that is copied into one with room.
use Rattle.std.proofs.Common.{◌≡◌, ℕ, ◌+◌, ◌-◌, ◌<◌, ◌≤◌, ◌∙◌, Bool, true, false, List, length, get_or, refl, ap, sym, arith, inl, inr}
use Rattle.std.specs.Prelude.{MatchBool}
use Rattle.std.proofs.lemmas.Bool.{cases_eq, cases_lt}
use Rattle.std.proofs.lemmas.Option.{get_or_from_slice_get, slice_get_within}
use Rattle.ods_space.specs.Layout.{VolumeLayout}
use Rattle.ods_space.specs.Files.{Holds}
use Rattle.ods_check.specs.HeldFree.{IsHeldBesides}
use Rattle.ods_check.specs.Sets.{IsSetOf}
use Rattle.ods_mount.specs.Tables.{IsWith, has}
use Rattle.ods_repair.specs.Settled.{IsCopyTo}

pub one_copied_bit : (others old new : List ℕ) (lbn : ℕ) → IsCopyTo others old lbn → MatchBool (has others lbn) (IsWith new old lbn) (new ≡ old) → IsCopyTo others new (lbn + 1)
one_copied_bit others old new lbn before step = by (has others lbn) refl step
  where
    by : (t : Bool) → has others lbn ≡ t → MatchBool t (IsWith new old lbn) (new ≡ old) → IsCopyTo others new (lbn + 1)
    by true e w = record {
      same = λ b low. elim (cases_eq b lbn) [
        | inl is ↦ ap (has new) is ∙ w.0 ∙ sym e ∙ ap (has others) (sym is)
        | inr other ↦ w.1 b other ∙ before.same b (omega (arith, low, other))
      ];
      none = λ b high. w.1 b (λ is. absurd (omega (arith, is, high))) ∙ before.none b (omega (arith, high));
    }
    by false e w = record {
      same = λ b low. ap (λ s. has s b) w ∙ elim (cases_eq b lbn) [
        | inl is ↦ ap (has old) is ∙ before.none lbn (omega arith) ∙ sym e ∙ ap (has others) (sym is)
        | inr other ↦ before.same b (omega (arith, low, other))
      ];
      none = λ b high. ap (λ s. has s b) w ∙ before.none b (omega (arith, high));
    }

pub all_copied : (I : List (List ℕ)) (L : VolumeLayout) (n : ℕ) (others held : List ℕ) (lbn : ℕ) → length I ≤ lbn → IsSetOf (IsHeldBesides I L n) others → IsCopyTo others held lbn → IsSetOf (IsHeldBesides I L n) held
all_copied I L n others held lbn end set copied = record {
  only = λ b h. elim (cases_lt b lbn) [
    | inl low ↦ set.only b (sym (copied.same b low) ∙ h)
    | inr high ↦ absurd (let clash : true ≡ false = sym h ∙ copied.none b high in cc)
  ];
  all = λ b besides. let inside = held_low besides.0 besides.1.1.0 b besides.1.1.1 in copied.same b (omega (arith, inside, end)) ∙ set.all b besides;
}
  where
    held_low : (m v b : ℕ) → Holds I L m v b → b < length I
    held_low m v b h =
        let within = slice_get_within h.blocks (v - 1) b h.named in
        let is : get_or h.blocks (v - 1) 0 ≡ b = get_or_from_slice_get h.blocks (v - 1) b 0 h.named in
        let low = h.file.whole.inside (v - 1) 0 within in
        omega (arith, is, low)
