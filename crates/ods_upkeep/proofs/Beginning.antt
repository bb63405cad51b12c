-- Why put does not begin, by what each of its steps says.
use Rattle.std.proofs.Common.{◌≡◌, ◌∙◌, refl, sym, subst, inl, inr, ℕ, Bool, true, false, List, Option}
use Rattle.std.specs.Prelude.{◌&&◌, not}
use Rattle.std.specs.Borrow.{Bor}
use Rattle.ods_space.specs.Layout.{VolumeLayout}
use Rattle.ods_shell.specs.declared.facts.Facts.{Facts}
use Rattle.ods_upkeep.specs.Begun.{IsLike, count_of, path_to}
use Rattle.ods_upkeep.specs.Refused.{HasPath, IsOutOfMemory}
use Rattle.ods_upkeep.specs.Target.{IsNoTarget, IsTarget}
use Rattle.ods_upkeep.specs.Unbegun.{IsNotBegun, IsNotLike}
use Rattle.ods_upkeep.specs.declared.failure.Failure.{Failure}
use Rattle.ods_upkeep.specs.declared.target.Target.{Target}

-- highest versions are wanted for several files alone
several_are : (several replace : Bool) → (several && not replace) ≡ true → several ≡ true
several_are true replace wanted = refl
several_are false replace wanted = absurd (cc)

-- The target is looked up by this count and this path.
module _ (I : List (List ℕ)) (L : VolumeLayout) (to : Option (Bor (List ℕ))) (several : Bool) (like : Option (Bor (List ℕ))) (replace : Bool) (count : ℕ) (path : List ℕ) (counted : count ≡ count_of several) (said : path ≡ path_to to) (failure : Failure) where
  -- there is none
  pub no_target : IsNoTarget I L count path failure.why × HasPath failure path → IsNotBegun I L to several like replace failure
  no_target none = inl (subst (λ n. IsNoTarget I L n (path_to to) failure.why × HasPath failure (path_to to)) counted
      (subst (λ t. IsNoTarget I L count t failure.why × HasPath failure t) said none))

  is_target : (target : Target) → IsTarget I L count path target → IsTarget I L (count_of several) (path_to to) target
  is_target target is = subst (λ n. IsTarget I L n (path_to to) target) counted (subst (λ t. IsTarget I L count t target) said is)

  -- there is no file that the new ones are to be like
  pub no_like : (target : Target) → IsTarget I L count path target → IsNotLike I L like failure → IsNotBegun I L to several like replace failure
  no_like target is none = inr (target, is_target target is, inl none)

  -- names are not counted
  pub no_names : (target : Target) (facts : Option Facts) → IsTarget I L count path target → IsLike I L like facts → (replace ≡ true) × IsOutOfMemory failure → IsNotBegun I L to several like replace failure
  no_names target facts is liked none = inr (target, is_target target is, inr (facts, liked, (inl none.0, none.1)))

  -- highest versions are not counted
  pub no_versions : (target : Target) (facts : Option Facts) (wanted : Bool) → IsTarget I L count path target → IsLike I L like facts → wanted ≡ (several && not replace) → (wanted ≡ true) × IsOutOfMemory failure
      → IsNotBegun I L to several like replace failure
  no_versions target facts wanted is liked are none = inr (target, is_target target is, inr (facts, liked, (inr (several_are several replace (sym are ∙ none.0)), none.1)))
