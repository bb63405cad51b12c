-- File IDs that texts name.
use Rattle.std.proofs.Common.{◌≡◌, ℕ, ◌≤◌, List, Some, None, sym, subst, arith}
use Rattle.std.specs.List.{before_first, after_first}
use Rattle.ods_base.specs.declared.file_id.FileId.{FileId}
use Rattle.ods_text.specs.Cuts.{Has, Lacks, is}
use Rattle.ods_text.specs.Numbers.{IsSmallNumber}
use Rattle.ods_text.specs.One.{IsTheOne}
use Rattle.ods_paths.specs.Numbers.{IsId}

pub no_comma : (text : List ℕ) → Lacks 44 text → (y : FileId) → IsId text y → ⊥
no_comma text lacks y p = absurd (omega (arith, lacks, p.0))

pub no_front : (text front : List ℕ) → front ≡ before_first (is 44) text → IsTheOne (IsSmallNumber front) None → (y : FileId) → IsId text y → ⊥
no_front text front e none y p = none y.number (subst (λ (t : List ℕ). IsSmallNumber t y.number) (sym e) p.1)

pub no_back : (text back : List ℕ) → back ≡ after_first (is 44) text → IsTheOne (IsSmallNumber back) None → (y : FileId) → IsId text y → ⊥
no_back text back e none y p = none y.sequence (subst (λ (t : List ℕ). IsSmallNumber t y.sequence) (sym e) p.2)

the_number_is : (text front : List ℕ) (n : ℕ) → front ≡ before_first (is 44) text → IsTheOne (IsSmallNumber front) (Some n) → (y : FileId) → IsId text y → y.number ≡ n
the_number_is text front n e one y p = one.1 y.number (subst (λ (t : List ℕ). IsSmallNumber t y.number) (sym e) p.1)

pub no_zero : (text front : List ℕ) (n : ℕ) → front ≡ before_first (is 44) text → IsTheOne (IsSmallNumber front) (Some n) → n ≡ 0 → (y : FileId) → IsId text y → ⊥
no_zero text front n e one zero y p = absurd (omega (arith, the_number_is text front n e one y p, zero, p.3))

pub the_id : (text front back : List ℕ) (n s : ℕ) → Has 44 text → front ≡ before_first (is 44) text → back ≡ after_first (is 44) text → IsTheOne (IsSmallNumber front) (Some n) → IsTheOne (IsSmallNumber back) (Some s) → 1 ≤ n → IsTheOne (IsId text) (Some (record { number = n; sequence = s }))
the_id text front back n s has e f one two some = (
  (has, subst (λ (t : List ℕ). IsSmallNumber t n) e one.0, subst (λ (t : List ℕ). IsSmallNumber t s) f two.0, some),
  λ y p.
      let number : y.number ≡ n = the_number_is text front n e one y p in
      let sequence : y.sequence ≡ s = two.1 y.sequence (subst (λ (t : List ℕ). IsSmallNumber t y.sequence) (sym f) p.2) in
      λ i. record { number = number i; sequence = sequence i },
)
