-- Empty directories that rmdir removes, one after another.
use Rattle.std.proofs.Common.{◌≡◌, ◌+◌, ◌<◌, refl, sym, subst, ℕ, List, [], ◌∷◌, ◌++◌, length, take, get_or}
use Rattle.std.specs.List.{All}
use Rattle.std.proofs.lemmas.List.{take_more}
use Rattle.std.proofs.lemmas.List.Elements.{All-append, All-cons, All-nil}
use Rattle.std.specs.Borrow.{Bor}
use Rattle.ods_filing.specs.Filed.{Filed}
use Rattle.ods_upkeep.specs.Emptied.{AreEmptied, IsEmptied}

-- those of one path more have gone
pub one_more : (paths : List (Bor (List ℕ))) (path : Bor (List ℕ)) (old mid new : Filed) → AreEmptied paths old mid → IsEmptied path.now mid new → AreEmptied (paths ++ path ∷ []) old new
one_more [] path old mid new same last = (new, subst (λ f. IsEmptied path.now f new) same last, refl)
one_more (p ∷ paths) path old mid new gone last = (gone.0, gone.1, one_more paths path gone.0 mid new gone.2 last)

-- what is so of the first elements, and of the next one, is so of one more
pub all_more : {X : Type 0} (P : X → Type 0) (xs : List X) (k : ℕ) (x : X) → k < length xs → x ≡ get_or xs k x → All P (take k xs) → P x → All P (take (k + 1) xs)
all_more P xs k x within is before holds =
    subst (All P) (sym (take_more xs k x within)) (All-append P (take k xs) (get_or xs k x ∷ []) before (All-cons P (get_or xs k x) [] (subst P is holds) (All-nil P)))
