-- A word names one user.
use Rattle.std.proofs.Common.{◌≡◌, ℕ, List, None, sym, subst, inl, inr}
use Rattle.ods_text.specs.One.{IsTheOne}
use Rattle.ods_text.specs.Users.{IsUser, IsUserInBrackets}
use Rattle.fs_words.specs.Users.{IsSaid}

-- nobody
pub nobody : (text a b : List ℕ) → a ≡ text → b ≡ text → IsTheOne (IsUserInBrackets a) None → IsTheOne (IsUser b) None → IsTheOne (IsSaid text) None
nobody text a b e f none other y (inl p) = none (y.group, y.member) (subst (λ (l : List ℕ). IsUserInBrackets l (y.group, y.member)) (sym e) p)
nobody text a b e f none other y (inr p) = other (y.group, y.member) (subst (λ (l : List ℕ). IsUser l (y.group, y.member)) (sym f) p)
