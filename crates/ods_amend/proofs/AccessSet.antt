-- The header block in which owner, protection, characteristics and sum are set.
use Rattle.std.proofs.Common.{◌≡◌, ℕ, ◌+◌, ◌*◌, ◌/◌, ◌%◌, ◌≤◌, List, [], ◌∷◌, length, Option, inl, inr, sym, ◌∙◌, arith}
use Rattle.std.specs.Prelude.{unwrap_or}
use Rattle.ods_base.specs.Block.{IsBlock, byte, with_bytes}
use Rattle.ods_base.specs.declared.file_id.Uic.{Uic}
use Rattle.ods_header.specs.Header.{owner_of, protection_of, user_char_of}
use Rattle.ods_header.specs.Writing.{with_sum}
use Rattle.ods_header.proofs.OtherFront.{set_here, set_others}
use Rattle.ods_header.proofs.Summed.{sum_is_right}
use Rattle.ods_amend.specs.Access.{IsWithAccess}

-- bytes 8 to 12 of a header
abbrev pub access_bytes : Uic → ℕ → ℕ → List ℕ
access_bytes o q u = o.member ∷ o.group ∷ (q % 256) ∷ (q / 256) ∷ u ∷ []

-- what setting these bytes and the sum makes
pub is_with_access : (b m c : List ℕ) (user : Option Uic) (given flags : Option ℕ) (o : Uic) (q u : ℕ) → IsBlock b → IsBlock c → o ≡ unwrap_or user (owner_of b) → q ≡ unwrap_or given (protection_of b) → u ≡ unwrap_or flags (user_char_of b)
    → m ≡ with_bytes b 8 (access_bytes o q u) → length m ≡ 512 → c ≡ with_sum m → IsWithAccess b user given flags c
is_with_access b m c user given flags o q u block after owner protection chars middle long last =
    let new : List ℕ = access_bytes o q u in
    let fits : 8 + length new ≤ 510 = omega arith in
    let member : byte c 8 ≡ o.member = set_here b new m c 8 block fits middle last 0 (omega arith) in
    let group : byte c 9 ≡ o.group = set_here b new m c 8 block fits middle last 1 (omega arith) in
    let low : byte c 10 ≡ q % 256 = set_here b new m c 8 block fits middle last 2 (omega arith) in
    let high : byte c 11 ≡ q / 256 = set_here b new m c 8 block fits middle last 3 (omega arith) in
    let fifth : byte c 12 ≡ u = set_here b new m c 8 block fits middle last 4 (omega arith) in
    let whole : q % 256 + 256 * (q / 256) ≡ q = omega arith in
    record {
      size = after.size ∙ sym block.size;
      owner = (λ i. record { group = group i; member = member i }) ∙ owner;
      protection = (λ i. low i + 256 * high i) ∙ whole ∙ protection;
      flags = fifth ∙ chars;
      checksum = sum_is_right m c long last;
      others = λ i away. set_others b new m c 8 block fits middle last i (elim away [
        | inl front ↦ inl front
        | inr behind ↦ inr (let from = behind.0 in omega (arith, from), behind.1)
      ]);
    }
