-- A pattern without a wildcard matches one title, or one type: the one that it spells.
use Rattle.std.proofs.Common.{◌≡◌, inl, inr, ℕ, ◌<◌, ◌++◌, refl, sym, ap, ◌∙◌, subst, true, false, List, [], ◌∷◌, append-nil, Option, Some, None, Result, Ok, Err, arith}
use Rattle.std.specs.Prelude.{MatchOption}
use Rattle.std.proofs.lemmas.Bool.{or_parts}
use Rattle.std.proofs.lemmas.List.Elements.{All-cons, All-nil}
use Rattle.std.proofs.lemmas.List.Folds.{list_any-append}
use Rattle.ods_base.specs.Name.{RadName, IsName, Spells, name_text, title, type_text}
use Rattle.ods_base.specs.declared.name.Pick.{Pick}
use Rattle.ods_base.specs.declared.name.Pick.TheVariants.{Highest}
use Rattle.ods_paths.specs.Patterns.{Matches, StandsFor, has_wildcard, is_wildcard}
use Rattle.ods_shell.specs.Matched.{HasTitle, HasType}

-- a character that is no wildcard stands for itself
for_itself : (c : ℕ) (run : List ℕ) → is_wildcard c ≡ false → StandsFor c run → run ≡ c ∷ []
for_itself c run plain (inl star) = let clash : true ≡ false = sym (ap is_wildcard star) ∙ plain in absurd (cc)
for_itself c run plain (inr (inl any)) = let clash : true ≡ false = sym (ap is_wildcard any.0) ∙ plain in absurd (cc)
for_itself c run plain (inr (inr is)) = is

-- a pattern without a wildcard matches itself alone
matches_itself : (pattern text : List ℕ) → has_wildcard pattern ≡ false → Matches pattern text → text ≡ pattern
matches_itself [] text plain is = is
matches_itself (c ∷ pattern) text plain is =
    let parts = or_parts (is_wildcard c) (has_wildcard pattern) plain in
    is.2 ∙ ap (λ run. run ++ is.1) (for_itself c is.0 parts.0 is.3) ∙ ap (λ rest. c ∷ rest) (matches_itself pattern is.1 parts.1 is.4)

-- the words of a name with the type of another
with_type : (n : RadName) → IsName n → IsName (record { words = n.words; ext = 0 })
with_type n good = record { three = good.three; words = good.words; ext = omega arith }

-- a type alone
abbrev bare : ℕ → RadName
bare ext = record { words = 0 ∷ 0 ∷ 0 ∷ []; ext = ext }

bare_is_name : (n : RadName) → IsName n → IsName (bare n.ext)
bare_is_name n good = record {
  three = refl;
  words = All-cons (λ w. w < 64000) 0 (0 ∷ 0 ∷ []) (omega arith) (All-cons (λ w. w < 64000) 0 (0 ∷ []) (omega arith) (All-cons (λ w. w < 64000) 0 [] (omega arith) (All-nil (λ w. w < 64000))));
  ext = good.ext;
}

-- a title that a pattern matches is spelled by it with a dot behind, and a type with a dot before
title_spelled : (pattern : List ℕ) (n : RadName) → has_wildcard (pattern ++ 46 ∷ []) ≡ false → IsName n → Matches pattern (title n) → Spells (pattern ++ 46 ∷ []) (record { words = n.words; ext = 0 }) Highest
unfolding name_text
title_spelled pattern n plain good is =
    let parts = or_parts (has_wildcard pattern) (has_wildcard (46 ∷ [])) (sym (list_any-append is_wildcard pattern (46 ∷ [])) ∙ plain) in
    let same : title n ≡ pattern = matches_itself pattern (title n) parts.0 is in
    record { name = with_type n good; behind = []; whole = ap (λ t. t ++ 46 ∷ []) (sym same) ∙ sym (append-nil (title n ++ 46 ∷ [])); version = inl refl }

type_spelled : (pattern : List ℕ) (n : RadName) → has_wildcard (46 ∷ pattern) ≡ false → IsName n → Matches pattern (type_text n) → Spells (46 ∷ pattern) (bare n.ext) Highest
unfolding name_text
type_spelled pattern n plain good is =
    let same : type_text n ≡ pattern = matches_itself pattern (type_text n) plain is in
    record { name = bare_is_name n good; behind = []; whole = ap (λ t. 46 ∷ t) (sym same) ∙ sym (append-nil (46 ∷ type_text n)); version = inl refl }

-- so it is that of the name that the text spells
pub title_is : (pattern text : List ℕ) (sought : Option RadName) → text ≡ pattern ++ 46 ∷ []
    → MatchOption sought (Unit {0}) (λ name. (has_wildcard text ≡ false) × ((n : RadName) → Spells text n Highest → n ≡ name)) → HasTitle pattern sought
title_is pattern text None is given = tt
title_is pattern text (Some name) is given = λ n good matched.
    ap (λ (m : RadName). m.words)
    (given.1 (record { words = n.words; ext = 0 }) (subst (λ t. Spells t (record { words = n.words; ext = 0 }) Highest) (sym is) (title_spelled pattern n (subst (λ t. has_wildcard t ≡ false) is given.0) good matched)))

pub type_is : (pattern text : List ℕ) (sought : Option RadName) → text ≡ 46 ∷ pattern
    → MatchOption sought (Unit {0}) (λ name. (has_wildcard text ≡ false) × ((n : RadName) → Spells text n Highest → n ≡ name)) → HasType pattern sought
type_is pattern text None is given = tt
type_is pattern text (Some name) is given = λ n good matched.
    ap (λ (m : RadName). m.ext) (given.1 (bare n.ext) (subst (λ t. Spells t (bare n.ext) Highest) (sym is) (type_spelled pattern n (subst (λ t. has_wildcard t ≡ false) is given.0) good matched)))

-- the name that was read, or this one
abbrev named : {E : Type 0} → Result (RadName × Pick) E → RadName → RadName
named (Ok found) other = found.0
named (Err e) other = other

-- a text spells one name
pub name_is : {E : Type 0} (result : Result (RadName × Pick) E) (a n : RadName) (p q : Pick) → result ≡ Ok (a, p) → result ≡ Ok (n, q) → n ≡ a
name_is result a n p q one other = ap (λ r. named r a) (sym other ∙ one)
