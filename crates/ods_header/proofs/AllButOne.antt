-- A header whose byte 12 and sum change keeps every field but its user characteristics.
use Rattle.std.proofs.Common.{◌≡◌, ℕ, ◌+◌, ◌-◌, ◌<◌, ◌≤◌, ◌⊎◌, ◌∷◌, [], List, length, inl, inr, sym, ◌∙◌, arith}
use Rattle.std.specs.Prelude.{bit_and}
use Rattle.std.proofs.lemmas.Bool.{cases_lt}
use Rattle.ods_base.specs.Block.{IsBlock, byte, with_bytes}
use Rattle.ods_header.specs.Header.{attributes_of, header_of}
use Rattle.ods_header.specs.Writing.{with_sum}
use Rattle.ods_header.specs.Contiguous.{IsWithoutContiguous, KeepsAllButContiguous}
use Rattle.ods_header.proofs.OtherFront.{IsOtherWithin, fields_kept, set_here, set_others, stays_valid}
use Rattle.ods_header.proofs.Ranges.{same_range}
use Rattle.ods_header.proofs.Summed.{sum_is_right}

-- what setting the byte and the sum makes
pub is_without_contiguous : (b m c : List ℕ) → IsBlock b → IsBlock c → m ≡ with_bytes b 12 (bit_and (byte b 12) 127 ∷ []) → length m ≡ 512 → c ≡ with_sum m → IsWithoutContiguous b c
is_without_contiguous b m c block after middle long last =
    let new : List ℕ = bit_and (byte b 12) 127 ∷ [] in
    record {
      size = after.size ∙ sym block.size;
      cleared = set_here b new m c 12 block (omega arith) middle last 0 (omega arith);
      checksum = sum_is_right m c long last;
      others = λ i other below. set_others b new m c 12 block (omega arith) middle last i (elim (cases_lt i 12) [
        | inl low ↦ inl low
        | inr high ↦ inr (omega (arith, other, high), below)
      ]);
    }

pub one_is_other : (b c : List ℕ) → IsWithoutContiguous b c → IsOtherWithin b c 12 13
one_is_other b c w = record {
  low = omega arith;
  high = omega arith;
  size = w.size;
  system = w.others 13 (λ e. absurd (omega (arith, e))) (omega arith);
  checksum = w.checksum;
  others = λ i away. by i away;
}
  where
    by : (i : ℕ) → (i < 12) ⊎ ((13 ≤ i) × (i < 510)) → byte c i ≡ byte b i
    by i (inl low) = w.others i (λ e. absurd (omega (arith, low, e))) (omega arith)
    by i (inr high) = let from = high.0 in w.others i (λ e. absurd (omega (arith, from, e))) high.1

pub keeps_all : (b c : List ℕ) → IsWithoutContiguous b c → KeepsAllButContiguous b c
keeps_all b c w n v =
    let other : IsOtherWithin b c 12 13 = one_is_other b c w in
    let kept : attributes_of c ≡ attributes_of b = same_range b c 14 (46 - 14) w.size (λ j below. w.others (14 + j) (λ e. absurd (omega (arith, e))) (omega arith)) in
    (stays_valid other n v, fields_kept other n v ∙ (λ i. record (header_of b) { user_char = w.cleared i; attributes = kept i }))
