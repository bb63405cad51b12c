-- Which paths may name a directory, and which texts have wildcards, in either case.
use Rattle.std.proofs.Common.{◌≡◌, ◌≢◌, ◌≤◌, ◌<◌, ◌↔◌, inl, inr, refl, sym, ap, ◌∙◌, subst, ℕ, Bool, true, false, not, List, [], ◌∷◌, length, map, codes, arith}
use Rattle.std.specs.Prelude.{◌||◌, IsTrue}
use Rattle.std.specs.Char.{to_ascii_lowercase, to_ascii_uppercase}
use Rattle.std.specs.List.{position_or_len}
use Rattle.std.proofs.lemmas.Bool.Decides.{nat_tests}
use Rattle.std.proofs.lemmas.Str.Ascii.{lowercase-uppercase}
use Rattle.ods_text.specs.Cuts.{Has, is}
use Rattle.ods_paths.specs.Patterns.{capitals, has_wildcard, is_wildcard}
use Rattle.ods_upkeep.specs.Pieces.{last_part}
use Rattle.ods_upkeep.specs.Target.{MayBeDirectory}

-- a place is within, or behind the last
place_within : (p : ℕ → Bool) (xs : List ℕ) → position_or_len p xs ≤ length xs
place_within p [] = omega arith
place_within p (x ∷ xs) = let rest = place_within p xs in grind arith

-- with the empty type a path may name one where it has no dot
pub no_type : (path kind : List ℕ) (dot : Bool) → kind ≡ [] → IsTrue dot ↔ Has 46 (last_part path) → IsTrue (not dot) ↔ MayBeDirectory path (capitals kind)
no_type path kind dot none tells = subst (λ k. IsTrue (not dot) ↔ MayBeDirectory path (capitals k)) (sym none) (by dot tells)
  where
    by : (b : Bool) → IsTrue b ↔ Has 46 (last_part path) → IsTrue (not b) ↔ MayBeDirectory path []
    by true told = (λ no. absurd (cc), λ may. elim may [ inl dir ↦ absurd (cc) | inr lacks ↦ (let has : position_or_len (is 46) (last_part path) < length (last_part path) = told.0 refl in absurd (omega (arith, lacks.1))) ])
    by false told = (
      λ yes. inr (
        refl,
        (let fits = place_within (is 46) (last_part path) in
            let not_has : ¬ Has 46 (last_part path) = λ has. (let both : false ≡ true = told.1 has in absurd (cc)) in
            omega (arith, not_has)),
      ),
      λ may. refl,
    )

-- letters are as they were made great or small before
uppercase-lowercase : (c : ℕ) → to_ascii_uppercase (to_ascii_lowercase c) ≡ to_ascii_uppercase c
uppercase-lowercase c = grind (arith, nat_tests)

small_again : (text : List ℕ) → map to_ascii_lowercase (capitals text) ≡ map to_ascii_lowercase text
small_again [] = refl
small_again (c ∷ text) = λ i. lowercase-uppercase c i ∷ small_again text i

great_again : (text : List ℕ) → capitals (map to_ascii_lowercase text) ≡ capitals text
great_again [] = refl
great_again (c ∷ text) = λ i. uppercase-lowercase c i ∷ great_again text i

-- with a type where that is DIR
pub with_type : (path kind : List ℕ) (same : Bool) → kind ≢ [] → IsTrue same ↔ (map to_ascii_lowercase kind ≡ map to_ascii_lowercase (codes "DIR")) → IsTrue same ↔ MayBeDirectory path (capitals kind)
with_type path kind same some tells = (
  λ yes. inl (sym (great_again kind) ∙ ap capitals (tells.0 yes)),
  λ may. elim may [ inl dir ↦ tells.1 (sym (small_again kind) ∙ ap (map to_ascii_lowercase) dir) | inr none ↦ absurd (some (no_capitals kind none.0)) ],
)
  where
    no_capitals : (k : List ℕ) → capitals k ≡ [] → k ≡ []
    no_capitals [] e = refl
    no_capitals (c ∷ k) e = absurd (cc)

-- capitals have the wildcards
wildcard_stays : (c : ℕ) → is_wildcard (to_ascii_uppercase c) ≡ is_wildcard c
wildcard_stays c = grind (arith, nat_tests)

pub wildcards_stay : (text : List ℕ) → has_wildcard (capitals text) ≡ has_wildcard text
wildcards_stay [] = refl
wildcards_stay (c ∷ text) = λ i. wildcard_stays c i || wildcards_stay text i
