-- The text of a name from its parts, and the name that it spells.
use Rattle.std.proofs.Common.{◌≡◌, ◌∙◌, sym, ap, subst, inl, ℕ, List, [], ◌∷◌, ◌++◌, append_assoc, Result, Ok, Err}
use Rattle.std.specs.Prelude.{MatchResult}
use Rattle.ods_base.specs.Name.{RadName, Spells}
use Rattle.ods_base.specs.declared.name.Pick.{Pick}
use Rattle.ods_base.specs.declared.name.Pick.TheVariants.{Highest, Lowest}
use Rattle.ods_upkeep.specs.declared.failure.Why.{Why}
use Rattle.ods_upkeep.specs.declared.failure.Why.TheVariants.{BadName}
use Rattle.ods_upkeep.specs.Target.{IsNoName}

-- what is picked
abbrev pub picked : {E : Type 0} → Result (RadName × Pick) E → Pick
picked (Ok found) = found.1
picked (Err e) = Lowest

-- two answers of one reader pick the same
pub pick_is : {E : Type 0} (result : Result (RadName × Pick) E) (name n : RadName) (pick : Pick) → result ≡ Ok (name, pick) → result ≡ Ok (n, Highest) → pick ≡ Highest
pick_is result name n pick is same = ap picked (sym is ∙ same)

-- a name, a dot and a type, put one behind the other
pub of_parts : (first second third fourth text name kind : List ℕ) → first ≡ [] → second ≡ first ++ name → third ≡ second ++ 46 ∷ [] → fourth ≡ third ++ kind → text ≡ fourth → text ≡ name ++ 46 ∷ kind
of_parts first second third fourth text name kind none named dotted typed is =
    is ∙ typed ∙ ap (λ l. l ++ kind) (dotted ∙ ap (λ l. l ++ 46 ∷ []) (named ∙ ap (λ l. l ++ name) none)) ∙ append_assoc name (46 ∷ []) kind

-- the name that the text spells, or why it spells none
pub name_or_none : (name kind text : List ℕ) (result : Result RadName Why) → text ≡ name ++ 46 ∷ kind
    → MatchResult result (λ n. Spells text n Highest) (λ why. (why ≡ BadName) × ((n : RadName) → ¬ Spells text n Highest)) → MatchResult result (λ n. Spells (name ++ 46 ∷ kind) n Highest) (IsNoName name kind)
name_or_none name kind text (Ok n) is spelled = subst (λ t. Spells t n Highest) is spelled
name_or_none name kind text (Err why) is none = inl (none.0, λ n spelled. none.1 n (subst (λ t. Spells t n Highest) (sym is) spelled))
