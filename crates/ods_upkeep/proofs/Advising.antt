-- What the printed texts of a refusal are, by the row of its name.
use Rattle.std.proofs.Common.{◌≡◌, ◌∙◌, refl, sym, ap, ℕ, List, [], codes, Option, Some, None}
use Rattle.std.specs.Option.{option_map}
use Rattle.ods_shell.specs.declared.remedies.Advice.{Advice}
use Rattle.ods_shell.specs.Remedies.{Row, advice_words, row_words}
use Rattle.ods_upkeep.specs.Refused.{reason_text, remedy_text}

-- the first words of two, and the second
abbrev pub first_words : Option (List ℕ × List ℕ) → List ℕ
first_words None = []
first_words (Some words) = words.0

abbrev pub second_words : Option (List ℕ × List ℕ) → List ℕ
second_words None = []
second_words (Some words) = words.1

-- with a row the advice has its words
pub advised : (found : Option Advice) (row : Option Row) (advice : Advice) → option_map advice_words found ≡ option_map row_words row → found ≡ Some advice → (advice.why.now ≡ reason_text row) × (advice.what.now ≡ remedy_text row)
advised found (Some row) advice same is =
    let both : Some (advice_words advice) ≡ Some (row_words row) = ap (option_map advice_words) (sym is) ∙ same in
    (ap first_words both, ap second_words both)
advised found None advice same is = let both : Some (advice_words advice) ≡ None = ap (option_map advice_words) (sym is) ∙ same in absurd (cc)

-- without one there are the words for none
pub unadvised : (found : Option Advice) (row : Option Row) → option_map advice_words found ≡ option_map row_words row → found ≡ None
    → (codes "it is refused" ≡ reason_text row) × (codes "'check --all' says what is wrong with the volume" ≡ remedy_text row)
unadvised found (Some row) same is = let both : None ≡ Some (row_words row) = ap (option_map advice_words) (sym is) ∙ same in absurd (cc)
unadvised found None same is = (refl, refl)
