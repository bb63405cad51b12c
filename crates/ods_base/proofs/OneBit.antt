-- One bit of a block that is set or cleared.
use Rattle.std.proofs.Common.{◌≡◌, ◌≢◌, ℕ, ◌*◌, ◌/◌, ◌%◌, ◌^◌, ◌<◌, Bool, true, false, cond, nat_eq, List, [], ◌∷◌, sym, ap, ◌∙◌, arith, inl, inr}
use Rattle.std.specs.Prelude.{bit_and, bit_or}
use Rattle.std.specs.Int.{bit_at, bit_not, w8}
use Rattle.std.proofs.lemmas.Bool.{cases_lt, cases_eq, eq-eqb, ne_eqb}
use Rattle.std.proofs.lemmas.Nat.Bits.{bit_at_set_same, bit_at_set_other, bit_at_clear_same, bit_at_clear_other}
use Rattle.ods_base.specs.Block.{IsBlock, byte, has_bit, with_bytes}
use Rattle.ods_base.specs.Bits.{HasBit}
use Rattle.ods_base.proofs.Blocks.{byte-with_bytes, byte-with_bytes_before, byte-with_bytes_behind}

-- a byte is put whose bit has this value, and whose other bits are the old byte's
pub bit_put : (b c : List ℕ) (i new : ℕ) (value : Bool) → IsBlock b → i < 4096 → c ≡ with_bytes b (i / 8) (new ∷ []) → nat_eq (bit_at new (i % 8)) 1 ≡ value
    → ((k : ℕ) → k < 8 → k ≢ i % 8 → bit_at new k ≡ bit_at (byte b (i / 8)) k) → HasBit b i value c
bit_put b c i new value block small is here rest j =
    let size = block.size in
    elim (cases_eq (j / 8) (i / 8)) [
      | inl same ↦
          let put : byte c (j / 8) ≡ new = ap (λ l. byte l (j / 8)) is ∙ byte-with_bytes b (new ∷ []) (i / 8) (j / 8) 0 (omega arith) (omega arith) (omega arith) in
          elim (cases_eq (j % 8) (i % 8)) [
            | inl bit ↦
                let one : j ≡ i = omega arith in
                ap (λ x. nat_eq (bit_at x (j % 8)) 1) put ∙ ap (λ k. nat_eq (bit_at new k) 1) bit ∙ here ∙ sym (ap (λ t. cond t value (has_bit b j)) (eq-eqb j i one))
            | inr other ↦
                let apart : j ≡ i → ⊥ = λ e. other (ap (λ n. n % 8) e) in
                ap (λ x. nat_eq (bit_at x (j % 8)) 1) put ∙ ap (λ x. nat_eq x 1) (rest (j % 8) (omega arith) other)
                ∙ ap (λ k. nat_eq (bit_at (byte b k) (j % 8)) 1) (sym same) ∙ sym (ap (λ t. cond t value (has_bit b j)) (ne_eqb j i apart))
          ]
      | inr other ↦
          let apart : j ≡ i → ⊥ = λ e. other (ap (λ n. n / 8) e) in
          let stays : byte c (j / 8) ≡ byte b (j / 8) = ap (λ l. byte l (j / 8)) is ∙ elim (cases_lt (j / 8) (i / 8)) [
            | inl low ↦ byte-with_bytes_before b (new ∷ []) (i / 8) (j / 8) (omega arith) low
            | inr high ↦ byte-with_bytes_behind b (new ∷ []) (i / 8) (j / 8) (omega arith) (omega arith)
          ] in
          ap (λ x. nat_eq (bit_at x (j % 8)) 1) stays ∙ sym (ap (λ t. cond t value (has_bit b j)) (ne_eqb j i apart))
    ]

pub bit_set : (b c : List ℕ) (i new : ℕ) → IsBlock b → i < 4096 → c ≡ with_bytes b (i / 8) (new ∷ []) → new ≡ bit_or (byte b (i / 8)) (1 * 2 ^ (i % 8) % 2 ^ 8) → HasBit b i true c
bit_set b c i new block small is value =
    bit_put b c i new true block small is (ap (λ x. nat_eq (bit_at x (i % 8)) 1) value ∙ ap (λ x. nat_eq x 1) (bit_at_set_same w8 (byte b (i / 8)) (i % 8) (omega arith)))
    (λ k less other. ap (λ x. bit_at x k) value ∙ bit_at_set_other w8 (byte b (i / 8)) (i % 8) (omega arith) k other)

pub bit_cleared : (b c : List ℕ) (i new : ℕ) → IsBlock b → i < 4096 → c ≡ with_bytes b (i / 8) (new ∷ []) → new ≡ bit_and (byte b (i / 8)) (bit_not w8 (1 * 2 ^ (i % 8) % 2 ^ 8)) → HasBit b i false c
bit_cleared b c i new block small is value =
    bit_put b c i new false block small is (ap (λ x. nat_eq (bit_at x (i % 8)) 1) value ∙ ap (λ x. nat_eq x 1) (bit_at_clear_same w8 (byte b (i / 8)) (i % 8) (omega arith)))
    (λ k less other. ap (λ x. bit_at x k) value ∙ bit_at_clear_other w8 (byte b (i / 8)) (i % 8) (omega arith) k less other)
