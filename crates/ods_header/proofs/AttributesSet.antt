-- A header whose bytes 14 to 45 and sum change keeps every field but its attributes.
use Rattle.std.proofs.Common.{◌≡◌, ℕ, ◌+◌, ◌≤◌, List, length, inl, inr, sym, ◌∙◌, arith}
use Rattle.ods_base.specs.Block.{IsBlock, with_bytes}
use Rattle.ods_header.specs.Header.{header_of}
use Rattle.ods_header.specs.Writing.{with_sum}
use Rattle.ods_header.specs.Attributes.{IsWithAttributes, KeepsOtherFields}
use Rattle.ods_header.proofs.OtherFront.{IsOtherWithin, fields_kept, set_here, set_others, stays_valid}
use Rattle.ods_header.proofs.Ranges.{range_is}
use Rattle.ods_header.proofs.Summed.{sum_is_right}

-- what setting the bytes and the sum makes
pub is_with_attributes : (b new m c : List ℕ) → IsBlock b → IsBlock c → length new ≡ 32 → m ≡ with_bytes b 14 new → length m ≡ 512 → c ≡ with_sum m → IsWithAttributes b new c
is_with_attributes b new m c block after size middle long last =
    let fits : 14 + length new ≤ 510 = omega (arith, size) in
    record {
      size = after.size ∙ sym block.size;
      attributes = range_is c new 14 46 (omega (arith, size)) (let s = after.size in omega arith) (set_here b new m c 14 block fits middle last);
      checksum = sum_is_right m c long last;
      others = λ i away. set_others b new m c 14 block fits middle last i (elim away [
        | inl low ↦ inl low
        | inr high ↦ inr (let from = high.0 in omega (arith, size, from), high.1)
      ]);
    }

pub attributes_are_other : (b new c : List ℕ) → IsWithAttributes b new c → IsOtherWithin b c 14 46
attributes_are_other b new c w = record { low = omega arith; high = omega arith; size = w.size; system = w.others 13 (inl (omega arith)); checksum = w.checksum; others = w.others }

pub keeps_fields : (b new c : List ℕ) → IsWithAttributes b new c → KeepsOtherFields b new c
keeps_fields b new c w n v =
    let other : IsOtherWithin b c 14 46 = attributes_are_other b new c w in
    (stays_valid other n v, fields_kept other n v ∙ (λ i. record (header_of b) { user_char = w.others 12 (inl (omega arith)) i; attributes = w.attributes i }))
