-- Pointers written one after another from a place on.
use Rattle.std.proofs.Common.{◌≡◌, ℕ, ◌+◌, ◌*◌, ◌<◌, ◌≤◌, List, slice_get, Some, inl, inr, refl, sym, ap, ◌∙◌, arith}
use Rattle.std.proofs.lemmas.Bool.{cases_lt}
use Rattle.std.proofs.lemmas.Option.{same_Some}
use Rattle.ods_base.specs.Block.{IsBlock, byte, with_bytes}
use Rattle.ods_base.proofs.Blocks.{byte-with_bytes, byte-with_bytes_before, byte-with_bytes_behind}
use Rattle.ods_header.specs.declared.header.Run.{Run}
use Rattle.ods_header.specs.Writing.{pointer_bytes, SameOutside}

-- the first n pointers are written to b, which was `old`
pub record AreWrittenAt (old b : List ℕ) (at : ℕ) (runs : List Run) (n : ℕ) : Type 0 where
  pub pointers : (k j : ℕ) (r : Run) → k < n → slice_get runs k ≡ Some r → j < 4 → byte b (at + 4 * k + j) ≡ byte (pointer_bytes r) j
  pub outside : SameOutside old b at (at + 4 * n)
  pub block : IsBlock b

pub none_written : (b : List ℕ) (at : ℕ) (runs : List Run) → IsBlock b → AreWrittenAt b b at runs 0
none_written b at runs block = record { pointers = λ k j r below is small. absurd (omega arith); outside = λ i apart. refl; block = block }

pub one_more_written : (old b : List ℕ) (at : ℕ) (runs : List Run) (n : ℕ) (r : Run) → AreWrittenAt old b at runs n → slice_get runs n ≡ Some r → at + 4 * n + 4 ≤ 512 →
    IsBlock (with_bytes b (at + 4 * n) (pointer_bytes r)) → AreWrittenAt old (with_bytes b (at + 4 * n) (pointer_bytes r)) at runs (n + 1)
one_more_written old b at runs n r before found fits block =
    let size = before.block.size in
    record {
      pointers = λ k j s below is small. elim (cases_lt k n) [
        | inl earlier ↦ byte-with_bytes_before b (pointer_bytes r) (at + 4 * n) (at + 4 * k + j) (omega arith) (omega arith) ∙ before.pointers k j s earlier is small
        | inr later ↦
            let here : k ≡ n = omega arith in
            let same : s ≡ r = same_Some s r (sym is ∙ ap (slice_get runs) here ∙ found) in
            byte-with_bytes b (pointer_bytes r) (at + 4 * n) (at + 4 * k + j) j (omega arith) (omega arith) small ∙ ap (λ x. byte (pointer_bytes x) j) (sym same)
      ];
      outside = λ i apart. elim apart [
        | inl low ↦ byte-with_bytes_before b (pointer_bytes r) (at + 4 * n) i (omega arith) (omega arith) ∙ before.outside i (inl low)
        | inr high ↦ byte-with_bytes_behind b (pointer_bytes r) (at + 4 * n) i (omega arith) (omega arith) ∙ before.outside i (inr (omega arith))
      ];
      block = block;
    }
