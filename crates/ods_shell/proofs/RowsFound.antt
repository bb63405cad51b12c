-- The first row of a name, in the table of the code and in that of the definitions.
use Rattle.std.proofs.Common.{◌≡◌, Bool, true, false, List, [], ◌∷◌, map, ℕ, Option, Some, option_map, if◌then◌else◌, refl}
use Rattle.std.specs.List.{find}
use Rattle.std.specs.Str.{bytes_eq}
use Rattle.ods_shell.specs.declared.remedies.Row.{Row}
use Rattle.ods_shell.specs.Remedies.{Row as Words, row_words, advice_words, words_of}

-- with one row before the others
by_case : (b : Bool) (r : Row) (f : Option Row) (g : Option Words) → option_map advice_words (option_map (λ (x : Row). x.advice) f) ≡ option_map row_words g
    → option_map advice_words (option_map (λ (x : Row). x.advice) (if b then Some r else f)) ≡ option_map row_words (if b then Some (words_of r) else g)
by_case true r f g e = refl
by_case false r f g e = e

-- the advice of the first row of a name has the words of that row
pub same_words : (name : List ℕ) (rows : List Row) → option_map advice_words (option_map (λ (x : Row). x.advice) (find (λ r. bytes_eq r.name.now name) rows)) ≡ option_map row_words (find (λ r. bytes_eq r.0 name) (map words_of rows))
same_words name [] = refl
same_words name (r ∷ rows) = by_case (bytes_eq r.name.now name) r _ _ (same_words name rows)
