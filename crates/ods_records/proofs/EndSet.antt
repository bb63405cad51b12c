-- The end of file that attributes say after it is set in them.
use Rattle.std.proofs.Common.{◌≡◌, ℕ, ◌+◌, ◌-◌, ◌*◌, ◌/◌, ◌%◌, ◌<◌, Bool, true, false, cond, List, [], ◌∷◌, length, refl, ap, ◌∙◌, arith}
use Rattle.std.specs.Prelude.{◌==◌}
use Rattle.std.proofs.lemmas.Bool.{eqb-true}
use Rattle.ods_records.specs.Attributes.{end_block, end_of, ending_at}
use Rattle.ods_records.specs.Records.{word_at}

-- of a block and a byte
pub by_parts : (n block last : ℕ) → block ≡ n / 512 + 1 → last ≡ n % 512 → cond (block == 0) 0 ((block - 1) * 512 + last) ≡ n
by_parts n block last e g = here (block == 0) refl
  where
    here : (t : Bool) → (block == 0) ≡ t → cond (block == 0) 0 ((block - 1) * 512 + last) ≡ n
    here true h = absurd (omega (arith, eqb-true block 0 h))
    here false h = ap (λ t. cond t 0 ((block - 1) * 512 + last)) h ∙ omega arith

pub block_set : (a b c d : ℕ) (own : List ℕ) (n : ℕ) → n < 536870912 → end_block (ending_at (a ∷ b ∷ c ∷ d ∷ own) n) ≡ n / 512 + 1
block_set a b c d own n few = omega arith

pub byte_set : (a b c d : ℕ) (own : List ℕ) (n : ℕ) → word_at (ending_at (a ∷ b ∷ c ∷ d ∷ own) n) 12 ≡ n % 512
byte_set a b c d own n = omega arith

-- the end is where it was set
pub end_set : (own : List ℕ) (n : ℕ) → length own ≡ 32 → n < 536870912 → end_of (ending_at own n) ≡ n
end_set [] n size few = absurd (omega (arith, size))
end_set (a ∷ []) n size few = absurd (omega (arith, size))
end_set (a ∷ b ∷ []) n size few = absurd (omega (arith, size))
end_set (a ∷ b ∷ c ∷ []) n size few = absurd (omega (arith, size))
end_set (a ∷ b ∷ c ∷ d ∷ own) n size few = by_parts n (end_block (ending_at (a ∷ b ∷ c ∷ d ∷ own) n)) (word_at (ending_at (a ∷ b ∷ c ∷ d ∷ own) n) 12) (block_set a b c d own n few) (byte_set a b c d own n)
