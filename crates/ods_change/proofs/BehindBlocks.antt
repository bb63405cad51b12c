-- A slot behind the last block of a directory: where it lies, and what the blocks are with an entry there.
use Rattle.std.proofs.Common.{◌≡◌, ℕ, ◌+◌, ◌*◌, ◌/◌, ◌%◌, ◌≤◌, ap, sym, ◌∙◌, true, false, cond, List, [], ◌∷◌, ◌++◌, length, get_or, set, arith, inl, inr}
use Rattle.std.specs.Prelude.{nat_le}
use Rattle.std.proofs.Math.Seq.{get_or-append_seam, set-append_seam}
use borrow.Author.Tests.{leb-true}
use Rattle.ods_base.specs.Block.{with_bytes, zeros}
use Rattle.ods_directory.specs.declared.slot.Slot.{Slot}
use Rattle.ods_directory.specs.Mark.{IsSlot, grown, written}

-- a slot that grows stands right behind the last block, and the mark behind its entry
pub slot_behind : (blocks : List (List ℕ)) (mark : ℕ) (slot : Slot) → IsSlot blocks mark slot → slot.grows ≡ true → mark ≤ 512 * length blocks
    → (slot.at ≡ 512 * length blocks) × (slot.mark ≡ 512 * length blocks + 16)
slot_behind blocks mark slot (inl p) grows cut =
    let wrong : true ≡ false = sym grows ∙ ap (λ (s : Slot). s.grows) p.3 in
    absurd (cc)
slot_behind blocks mark slot (inr p) grows cut =
    let at : slot.at ≡ 16 * (mark / 16) = ap (λ (s : Slot). s.at) p.1 in
    let end : slot.mark ≡ 16 * (mark / 16) + 16 = ap (λ (s : Slot). s.mark) p.1 in
    let test : nat_le (512 * length blocks) (16 * (mark / 16)) ≡ true = sym (ap (λ (s : Slot). s.grows) p.1) ∙ grows in
    let past : 512 * length blocks ≤ 16 * (mark / 16) = leb-true (512 * length blocks) (16 * (mark / 16)) test in
    (omega arith, omega arith)

-- the blocks are then those before, and one of zeros with the entry at its begin
pub written_behind : (blocks : List (List ℕ)) (slot : Slot) (bytes : List ℕ) → slot.grows ≡ true → slot.at ≡ 512 * length blocks
    → written (grown blocks slot) slot.at bytes ≡ blocks ++ with_bytes zeros 0 bytes ∷ []
unfolding written
written_behind blocks slot bytes grows at =
    let place : slot.at / 512 ≡ length blocks = omega (arith, at) in
    let first : slot.at % 512 ≡ 0 = omega (arith, at) in
    let more : List (List ℕ) = blocks ++ zeros ∷ [] in
    ap (λ g. set (cond g more blocks) (slot.at / 512) (with_bytes (get_or (cond g more blocks) (slot.at / 512) []) (slot.at % 512) bytes)) grows
    ∙ (λ i. set more (place i) (with_bytes (get_or more (place i) []) (first i) bytes))
    ∙ ap (λ b. set more (length blocks) (with_bytes b 0 bytes)) (get_or-append_seam blocks zeros [] [])
    ∙ set-append_seam blocks zeros [] (with_bytes zeros 0 bytes)
