-- What is picked among the lines that patterns match is what a path chooses of all lines.
use Rattle.std.proofs.Common.{◌≡◌, ◌⊎◌, inl, inr, suc, zero, refl, sym, subst, List, [], ◌∷◌, unwrap_or, arith}
use Rattle.std.specs.List.{Contains}
use Rattle.ods_base.specs.declared.listed.Listed.{Listed}
use Rattle.ods_paths.specs.declared.versions.Versions.{Versions}
use Rattle.ods_paths.specs.declared.versions.Versions.TheVariants.{Exact, Highest, Lowest, Every}
use Rattle.ods_paths.specs.Patterns.{Matches}
use Rattle.ods_paths.specs.Paths.{Files}
use Rattle.ods_shell.specs.Choosing.{AreThose, IsChosen, IsOneName, IsPicked}
use Rattle.ods_shell.specs.Matched.{IsMatchedLine}

-- an element of a list, or its first
contains_first : {X : Type 0} (x : X) (xs : List X) → Contains (x ∷ xs) x
contains_first x xs = (zero, omega arith, refl)

contains_later : {X : Type 0} (x y : X) (xs : List X) → Contains xs y → Contains (x ∷ xs) y
contains_later x y xs has = (suc has.0, omega (arith, has.1), has.2)

one_of : {X : Type 0} (x y : X) (xs : List X) → Contains (x ∷ xs) y → (x ≡ y) ⊎ Contains xs y
one_of x y xs (zero, within, is) = inl is
one_of x y xs (suc k, within, is) = inr (k, omega (arith, within), is)

-- those are elements of the list
those_within : {X : Type 0} (M : X → Type 0) (xs those : List X) (y : X) → AreThose M xs those → Contains those y → Contains xs y
those_within M [] those y are has = subst (λ ls. Contains ls y) are has
those_within M (x ∷ xs) those y are has = elim are [
  | inl taken ↦ elim (one_of x y taken.1 (subst (λ ls. Contains ls y) taken.2 has)) [
    | inl is ↦ subst (Contains (x ∷ xs)) is (contains_first x xs)
    | inr later ↦ contains_later x y xs (those_within M xs taken.1 y taken.3 later)
  ]
  | inr left ↦ contains_later x y xs (those_within M xs those y left.1 has)
]

-- and each of these that M holds of
those_each : {X : Type 0} (M : X → Type 0) (xs those : List X) (y : X) → AreThose M xs those → Contains xs y → M y → Contains those y
those_each M [] those y are has is = subst (λ ls. Contains ls y) (sym are) has
those_each {X} M (x ∷ xs) those y are has is = elim are [
  | inl taken ↦ subst (λ ls. Contains ls y) (sym taken.2) (elim (one_of x y xs has) [
    | inl same ↦ subst (Contains (x ∷ taken.1)) same (contains_first x taken.1)
    | inr later ↦ contains_later x y taken.1 (those_each M xs taken.1 y taken.3 later is)
  ])
  | inr left ↦ elim (one_of x y xs has) [
    | inl same ↦ absurd (left.0 (subst M (sym same) is))
    | inr later ↦ those_each M xs those y left.1 later is
  ]
]

-- what is chosen of those is chosen of all, where the second choice means the same among those as among all
those_of_those : {X : Type 0} (M P Q : X → Type 0) → ((x : X) → M x → P x → Q x) → ((x : X) → M x → Q x → P x) → (xs some found : List X) → AreThose M xs some → AreThose P some found → AreThose (λ x. M x × Q x) xs found
those_of_those M P Q to back [] some found are chosen = subst (λ ls. AreThose P ls found) are chosen
those_of_those {X} M P Q to back (x ∷ xs) some found are chosen = elim are [
  | inl taken ↦ (
      let here : AreThose P (x ∷ taken.1) found = subst (λ ls. AreThose P ls found) taken.2 chosen in
      elim here [
        | inl both ↦ inl ((taken.0, to x taken.0 both.0), both.1, both.2, those_of_those M P Q to back xs taken.1 both.1 taken.3 both.3)
        | inr one ↦ inr (λ is. one.0 (back x is.0 is.1), those_of_those M P Q to back xs taken.1 found taken.3 one.1)
      ])
  | inr left ↦ inr (λ is. left.0 is.0, those_of_those M P Q to back xs some found left.1 chosen)
]

-- a name is matched as another line of that name is
matched_too : (files : Files) (o e : Listed) → IsOneName o e → IsMatchedLine files e → IsMatchedLine files o
matched_too files o e one is = (subst (Matches files.name) (sym one.0) is.0, subst (Matches files.kind) (sym one.1) is.1)

module _ (files : Files) (lines some : List Listed) (are : AreThose (IsMatchedLine files) lines some) where
  -- a version is picked among those that the patterns match just where it is picked among all
  picked_of_all : (versions : Versions) (e : Listed) → IsMatchedLine files e → IsPicked versions some e → IsPicked versions lines e
  picked_of_all (Exact version) e is picked = picked
  picked_of_all Highest e is picked = λ o has one. picked o (those_each (IsMatchedLine files) lines some o are has (matched_too files o e one is)) one
  picked_of_all Lowest e is picked = λ o has one. picked o (those_each (IsMatchedLine files) lines some o are has (matched_too files o e one is)) one
  picked_of_all Every e is picked = picked

  picked_of_some : (versions : Versions) (e : Listed) → IsMatchedLine files e → IsPicked versions lines e → IsPicked versions some e
  picked_of_some (Exact version) e is picked = picked
  picked_of_some Highest e is picked = λ o has one. picked o (those_within (IsMatchedLine files) lines some o are has) one
  picked_of_some Lowest e is picked = λ o has one. picked o (those_within (IsMatchedLine files) lines some o are has) one
  picked_of_some Every e is picked = picked

  pub chosen_of_all : (unsaid : Versions) (found : List Listed) → AreThose (IsPicked (unwrap_or files.versions unsaid) some) some found → AreThose (IsChosen files unsaid lines) lines found
  chosen_of_all unsaid found picked =
      let versions = unwrap_or files.versions unsaid in
      those_of_those (IsMatchedLine files) (IsPicked versions some) (IsPicked versions lines) (picked_of_all versions) (picked_of_some versions) lines some found are picked
