-- Paths, cut from their end.
use Rattle.std.proofs.Common.{◌≡◌, ◌∙◌, ℕ, true, false, List, [], ◌∷◌, ◌++◌, sym, ap}
use Rattle.std.specs.Prelude.{if◌then◌else◌, reverse}
use Rattle.std.proofs.lemmas.List.{reverse-append}
use Rattle.ods_untar.specs.Below.{from_end, is_idle}

-- a text with one character more, from its end
pub from_last : (front : List ℕ) (last : ℕ) → reverse (front ++ last ∷ []) ≡ last ∷ reverse front
from_last front last = reverse-append front (last ∷ [])

-- the last character names nothing
pub cut_more : (path front : List ℕ) (last : ℕ) → path ≡ front ++ last ∷ [] → is_idle last (reverse front) ≡ true → from_end (reverse path) ≡ from_end (reverse front)
cut_more path front last is idle =
    ap (λ l. from_end (reverse l)) is ∙ ap from_end (from_last front last) ∙ ap (λ b. if b then from_end (reverse front) else last ∷ reverse front) idle

-- it names something
pub cut_none : (path front : List ℕ) (last : ℕ) → path ≡ front ++ last ∷ [] → is_idle last (reverse front) ≡ false → from_end (reverse path) ≡ reverse path
cut_none path front last is idle =
    ap (λ l. from_end (reverse l)) is ∙ ap from_end (from_last front last) ∙ ap (λ b. if b then from_end (reverse front) else last ∷ reverse front) idle
    ∙ sym (from_last front last) ∙ sym (ap reverse is)
