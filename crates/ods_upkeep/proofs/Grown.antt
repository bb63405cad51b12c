-- What is left of a file behind whose end bytes are put, and why they are not.
use Rattle.std.proofs.Common.{◌≡◌, ◌⊎◌, inl, inr, ℕ, subst, List, [], length, Result, Ok, Err}
use Rattle.std.specs.Prelude.{◌≢◌, IfErr, OnOk}
use Rattle.ods_filing.specs.Filed.{Filed}
use Rattle.ods_shell.specs.declared.facts.Facts.{Facts}
use Rattle.ods_upkeep.specs.Appended.{AreBehind, HasBytes, IsGrown, IsNotGrown, appends}
use Rattle.ods_upkeep.specs.Refused.{StopsAt}
use Rattle.ods_upkeep.specs.Removed.{Does}
use Rattle.ods_upkeep.specs.declared.failure.Why.{Why}

module _ {A : Type 0} (facts : Facts) (bytes held all attributes : List ℕ) (old new : Filed) (n : ℕ) (shown : List ℕ) (has : HasBytes old.image old.layout facts.file.number held)
    (behind : AreBehind facts.attributes held bytes all attributes) (size : n ≡ length held) (same : shown ≡ all) where
  -- the requests are made
  pub grown : {E : Type 0} (r : Result A E) → bytes ≢ [] → OnOk r (Does old (appends facts n shown attributes) new) → OnOk r (IsGrown facts bytes old new)
  grown (Ok a) some done =
      inr (some, (held, (all, (attributes, has, behind, subst (λ k. Does old (appends facts k all attributes) new) size (subst (λ l. Does old (appends facts n l attributes) new) same done)))))
  grown (Err e) some done = tt

  -- one of them is refused
  pub not_grown : (r : Result A Why) → IfErr r (StopsAt old (appends facts n shown attributes) new) → IfErr r (IsNotGrown facts bytes old new)
  not_grown (Ok a) stops = tt
  not_grown (Err why) stops =
      inr (held, has, inr (all, (attributes, behind, subst (λ k. StopsAt old (appends facts k all attributes) new why) size (subst (λ l. StopsAt old (appends facts n l attributes) new why) same stops))))
