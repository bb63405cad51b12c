-- Whether the lines of a text are short enough for records.
use Rattle.std.proofs.Common.{◌≡◌, ◌↔◌, ℕ, ◌≤◌, List, [], ◌∷◌, length, All, sym, subst, arith}
use Rattle.std.specs.Str.Lines.{lines}
use Rattle.std.proofs.lemmas.List.Elements.{All-cons, All-nil, All-tail}

abbrev pub IsShort : List (List ℕ) → Type 0
IsShort ls = All (λ line. length line ≤ 32767) ls

-- a short line is one of short lines
pub short_more : (text rest line behind : List ℕ) → (IsShort (lines text) ↔ IsShort (lines rest)) → lines rest ≡ line ∷ lines behind → length line ≤ 32767 → IsShort (lines text) ↔ IsShort (lines behind)
short_more text rest line behind so first short = (
  λ all. All-tail (λ l. length l ≤ 32767) line (lines behind) (subst IsShort first (so.0 all)),
  λ all. so.1 (subst IsShort (sym first) (All-cons (λ l. length l ≤ 32767) line (lines behind) short all)),
)

-- where nothing is left, all lines are
pub short_all : (text rest : List ℕ) → (IsShort (lines text) ↔ IsShort (lines rest)) → length rest ≡ 0 → IsShort (lines text)
short_all text [] so none = so.1 (All-nil (λ l. length l ≤ 32767))
short_all text (b ∷ rest) so none = absurd (omega arith)
