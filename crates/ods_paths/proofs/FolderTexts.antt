-- The parts of a text of directories.
use Rattle.std.proofs.Common.{◌≡◌, ◌≢◌, ℕ, ◌-◌, ◌<◌, ◌==◌, List, [], ◌∷◌, length, take, Bool, true, false, Some, None, refl, sym, ap, ◌∙◌, arith}
use Rattle.std.specs.Prelude.{if◌then◌else◌}
use Rattle.std.proofs.lemmas.Bool.{eqb-true}
use Rattle.ods_paths.specs.Paths.{has_dots, place_text}
use Rattle.ods_paths.specs.Steps.{unless_empty}

pub some_text : (b : Bool) (text : List ℕ) → b ≡ (length text == 0) → b ≡ false → text ≢ []
some_text b text e f same = let clash : false ≡ true = sym f ∙ e ∙ ap (λ l. length l == 0) same in absurd (cc)

pub some_length : (b : Bool) (text : List ℕ) → b ≡ (length text == 0) → b ≡ false → 0 < length text
some_length b [] e f = let clash : false ≡ true = sym f ∙ e in absurd (cc)
some_length b (x ∷ text) e f = omega arith

-- an empty text is none, and any other is that
pub none_of : (b : Bool) (text : List ℕ) → b ≡ (length text == 0) → b ≡ true → None ≡ unless_empty text
none_of b [] e f = refl
none_of b (x ∷ text) e f = let none : length (x ∷ text) ≡ 0 = eqb-true (length (x ∷ text)) 0 (sym e ∙ f) in absurd (omega (arith, none))

pub some_of : (b : Bool) (text : List ℕ) → b ≡ (length text == 0) → b ≡ false → Some text ≡ unless_empty text
some_of b [] e f = let clash : false ≡ true = sym f ∙ e in absurd (cc)
some_of b (x ∷ text) e f = refl

-- the text of the place
pub place_part : (text part : List ℕ) (b : Bool) → has_dots text ≡ b → part ≡ (if b then take (length text - 3) text else text) → part ≡ place_text text
place_part text part b e f = f ∙ ap (λ (c : Bool). if c then take (length text - 3) text else text) (sym e)
