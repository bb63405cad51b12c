-- Where a name is entered, and that there is a block for it.
use Rattle.std.proofs.Common.{◌≡◌, ◌≢◌, ℕ, ◌+◌, ◌*◌, ◌/◌, ◌%◌, ◌<◌, ◌≤◌, Bool, true, false, List, [], ◌∷◌, length, nat_le, Option, Some, None, refl, sym, ap, ◌∙◌, arith}
use Rattle.std.proofs.lemmas.Bool.{leb-true, leb-false, not-true}
use Rattle.std.proofs.lemmas.List.{get_or_append_left, get_or_push, length_push}
use Rattle.ods_base.specs.Block.{IsBlock, zeros}
use Rattle.ods_base.specs.Image.{block_at}
use Rattle.ods_base.proofs.Blocks.{IsBlock-zeros}
use Rattle.ods_directory.specs.declared.first.Kind.TheVariants.{Empty}
use Rattle.ods_directory.specs.declared.slot.Slot.{Slot}
use Rattle.ods_directory.specs.Entry.{is_used, entry_at, entry_in}
use Rattle.ods_directory.specs.First.{IsFirst, slot_of}
use Rattle.ods_directory.specs.Mark.{grown}

-- the slot is entry k, whose block is there once the blocks have grown
pub record IsRoom (blocks : List (List ℕ)) (mark : ℕ) (slot : Slot) (k : ℕ) : Type 0 where
  pub at : slot.at ≡ 16 * k
  pub below : k < slot.mark / 16
  pub before : (i : ℕ) → i < slot.mark / 16 → i ≢ k → i < mark / 16
  pub back : (i : ℕ) → i < mark / 16 → i < slot.mark / 16
  pub free : k < mark / 16 → is_used (entry_at blocks k) ≡ false
  pub within : k / 32 < length (grown blocks slot)
  pub size : length (block_at (grown blocks slot) (k / 32)) ≡ 512
  pub same : (i : ℕ) → i < mark / 16 → entry_at (grown blocks slot) i ≡ entry_at blocks i

module _ (blocks : List (List ℕ)) (mark : ℕ) (cut : mark ≤ 512 * length blocks) where
  -- the slot at the mark
  abbrev end_slot : Bool → Slot
  end_slot b = record { at = 16 * (mark / 16); mark = 16 * (mark / 16) + 16; grows = b }

  at_end : (b : Bool) → mark / 16 / 32 < length (grown blocks (end_slot b)) → length (block_at (grown blocks (end_slot b)) (mark / 16 / 32)) ≡ 512
      → ((i : ℕ) → i < mark / 16 → entry_at (grown blocks (end_slot b)) i ≡ entry_at blocks i) → IsRoom blocks mark (end_slot b) (mark / 16)
  at_end b within size same = record {
    at = refl;
    below = omega arith;
    before = λ i below apart. omega arith;
    back = λ i below. omega arith;
    free = λ below. absurd (omega arith);
    within = within;
    size = size;
    same = same;
  }

  -- its block is there, or comes behind the others
  at_mark : (b : Bool) → nat_le (512 * length blocks) (16 * (mark / 16)) ≡ b → (b ≡ false → IsBlock (block_at blocks (16 * (mark / 16) / 512))) → IsRoom blocks mark (end_slot b) (mark / 16)
  at_mark false e whole =
      let inside : 16 * (mark / 16) < 512 * length blocks = leb-false (512 * length blocks) (16 * (mark / 16)) e in
      let position : 16 * (mark / 16) / 512 ≡ mark / 16 / 32 = omega arith in
      at_end false (omega arith) (ap (λ i. length (block_at blocks i)) (sym position) ∙ (whole refl).size) (λ i below. refl)
  at_mark true e whole =
      let outside : 512 * length blocks ≤ 16 * (mark / 16) = leb-true (512 * length blocks) (16 * (mark / 16)) e in
      let position : length blocks ≡ mark / 16 / 32 = omega arith in
      at_end true (omega (arith, length_push blocks zeros)) (ap length (get_or_push blocks zeros [] (mark / 16 / 32) position) ∙ IsBlock-zeros.size)
      (λ i below. ap (λ b. entry_in b (i % 32)) (get_or_append_left blocks (zeros ∷ []) [] (i / 32) (omega arith)))

  pub position_of : Option ℕ → ℕ
  position_of (Some k) = k
  position_of None = mark / 16

  pub room_of : (empty : Option ℕ) → IsFirst Empty (entry_at blocks) (mark / 16) empty
      → ((slot_of empty mark (length blocks)).grows ≡ false → IsBlock (block_at blocks ((slot_of empty mark (length blocks)).at / 512)))
      → IsRoom blocks mark (slot_of empty mark (length blocks)) (position_of empty)
  unfolding position_of
  room_of None h whole = at_mark (nat_le (512 * length blocks) (16 * (mark / 16))) refl whole
  room_of (Some k) h whole =
      let position : 16 * k / 512 ≡ k / 32 = omega arith in
      let inside : k < mark / 16 = h.0 in
      record {
        at = refl;
        below = h.0;
        before = λ i below apart. below;
        back = λ i below. below;
        free = λ below. not-true _ h.1;
        within = omega (arith, inside);
        size = ap (λ i. length (block_at blocks i)) (sym position) ∙ (whole refl).size;
        same = λ i below. refl;
      }
