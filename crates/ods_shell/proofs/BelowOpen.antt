-- Of directories the open ones, in their order.
use Rattle.std.proofs.Common.{◌≡◌, inl, inr, ℕ, ◌<◌, refl, sym, ap, subst, List, [], ◌∷◌, ◌++◌, true, false, Result, Ok, Err, IfOk, OnOk, arith}
use Rattle.std.specs.List.{Contains}
use Rattle.ods_space.specs.Layout.{VolumeLayout}
use Rattle.ods_paths.specs.Paths.{Folder}
use Rattle.ods_shell.specs.declared.folders.Directory.{Directory}
use Rattle.ods_shell.specs.Ways.{AreAllBelow, AreMeant, AreOpen, AreOpenOrBelow, AreStarts, CountAsClosed}

-- what is none of the closed ones counts as open
pub counts_as_open : (closed shut : List ℕ) (met : List Directory) (n : ℕ) → CountAsClosed closed met shut → ¬ Contains closed n → ¬ Contains shut n
counts_as_open closed shut met n (inl all) is_open = subst (λ c. ¬ Contains c n) (sym all) is_open
counts_as_open closed shut met n (inr none) is_open = λ has.
    let nothing : Contains [] n = subst (λ c. Contains c n) none.1 has in
    let none_below : nothing.0 < 0 = nothing.1 in
    absurd (omega arith)

-- and one more that is open
pub open_more : (closed : List ℕ) (starts found : List Directory) (d : Directory) → ¬ Contains closed d.number → AreOpen closed starts found → AreOpen closed (starts ++ d ∷ []) (found ++ d ∷ [])
open_more closed [] found d is_open are = inr (is_open, [], ap (λ f. f ++ d ∷ []) are, refl)
open_more closed (s ∷ starts) found d is_open are = elim are [
  | inl shut ↦ inl (shut.0, open_more closed starts found d is_open shut.1)
  | inr taken ↦ inr (taken.0, taken.1 ++ d ∷ [], ap (λ f. f ++ d ∷ []) taken.2, open_more closed starts taken.1 d is_open taken.3)
]

-- or that is closed
pub closed_more : (closed : List ℕ) (starts found : List Directory) (d : Directory) → Contains closed d.number → AreOpen closed starts found → AreOpen closed (starts ++ d ∷ []) found
closed_more closed [] found d has are = inl (has, are)
closed_more closed (s ∷ starts) found d has are = elim are [
  | inl shut ↦ inl (shut.0, closed_more closed starts found d has shut.1)
  | inr taken ↦ inr (taken.0, taken.1, taken.2, closed_more closed starts taken.1 d has taken.3)
]

-- what is promised of a value that comes, and of its coming
pub both_ok : {T E : Type 0} (r : Result T E) (P S : T → Type 0) (Q : Type 0) → ((x : T) → P x → Q → S x) → IfOk r P → OnOk r Q → IfOk r S
both_ok (Ok x) P S Q gives p q = gives x p q
both_ok (Err e) P S Q gives p q = tt

-- the directories of a folder, by those of its steps
pub meant_below : (I : List (List ℕ)) (L : VolumeLayout) (closed : List ℕ) (folder : Folder) (starts found : List Directory) → folder.below ≡ true → AreStarts I L closed folder.steps starts → AreAllBelow I L closed starts found → AreMeant I L closed folder found
meant_below I L closed folder starts found below are all = (starts, are, subst (λ b. AreOpenOrBelow I L closed b starts found) (sym below) all)

pub meant_alone : (I : List (List ℕ)) (L : VolumeLayout) (closed : List ℕ) (folder : Folder) (starts found : List Directory) → folder.below ≡ false → AreStarts I L closed folder.steps starts → AreOpen closed starts found → AreMeant I L closed folder found
meant_alone I L closed folder starts found below are some = (starts, are, subst (λ b. AreOpenOrBelow I L closed b starts found) (sym below) some)
