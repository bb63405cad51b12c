-- What a path of mkdir or rmdir means, by the text that is read.
use Rattle.std.proofs.Common.{◌≡◌, ◌≢◌, ◌∙◌, Bool, true, false, ℕ, List, [], ◌∷◌, ◌++◌, Some, None, ap, arith, drop, get_or, length, refl, subst, sym}
use Rattle.std.specs.Prelude.{MatchBool}
use Rattle.std.proofs.lemmas.List.{length-append}
use Rattle.ods_paths.specs.Paths.{File, Folder, Said, Says, Within}
use Rattle.ods_paths.specs.Steps.{Step}
use Rattle.ods_paths.proofs.OneMeaning.{same_said}
use Rattle.ods_upkeep.specs.Meant.{IsBelowAnother, IsLastStep, IsMeant, Means, just_at}

-- what the text means that is read, the path means
pub means_by : (path read : List ℕ) (up : Folder) (name : List ℕ) → read ≡ path → (says : Said) × Says read says × IsMeant read says up name → Means path up name
means_by path read up name is meant = subst (λ t. (says : Said) × Says t says × IsMeant t says up name) is meant

-- what stands before the last of a list
front_of : {A : Type 0} (xs ys : List A) (x y : A) → xs ++ x ∷ [] ≡ ys ++ y ∷ [] → xs ≡ ys
front_of [] [] x y is = refl
front_of [] (b ∷ ys) x y is = let some : 0 ≡ length (ys ++ y ∷ []) = ap (λ l. length (drop 1 l)) is in absurd (omega (arith, some, length-append ys (y ∷ [])))
front_of (a ∷ xs) [] x y is = let some : length (xs ++ x ∷ []) ≡ 0 = ap (λ l. length (drop 1 l)) is in absurd (omega (arith, some, length-append xs (x ∷ [])))
front_of (a ∷ xs) (b ∷ ys) x y is =
    let first : a ≡ b = ap (λ l. get_or l 0 a) is in
    let rest : xs ≡ ys = front_of xs ys x y (ap (drop 1) is) in (λ i. first i ∷ rest i)

-- a first step is one
pub some_steps : (steps rest : List Step) (step : Step) → steps ≡ step ∷ rest → steps ≢ []
some_steps steps rest step cut none = let clash : step ∷ rest ≡ [] = sym cut ∙ none in absurd (cc)

-- steps say a name in one directory
one_last : (steps : List Step) (a b : Folder) (n m : List ℕ) → IsLastStep steps a n → IsLastStep steps b m → a ≡ b
one_last steps a b n m p q = p.1.3 ∙ ap just_at (front_of p.0 q.0 p.1.0 q.1.0 (sym p.1.1 ∙ q.1.1)) ∙ sym q.1.3

-- what is said means a name in one directory
one_folder : (text : List ℕ) (says : Said) (a b : Folder) (n m : List ℕ) → IsMeant text says a n → IsMeant text says b m → a ≡ b
one_folder text (File f) a b n m p q = absurd p
one_folder text (Within d None) a b n m p q = one_last d.steps a b n m p.1 q.1
one_folder text (Within d (Some f)) a b n m p q = p.3 ∙ sym q.3

-- a path means names in one directory
one_above : (path : List ℕ) (a b : Folder) (n m : List ℕ) → Means path a n → Means path b m → a ≡ b
one_above path a b n m p q = one_folder path q.0 a b n m (subst (λ s. IsMeant path s a n) (same_said path p.0 q.0 p.1 q.1) p.2) q.2

-- whether a path lies below another directory than the master, by the one that it means
pub below_another : (path read : List ℕ) (up : Folder) (name : List ℕ) (below : Bool) → read ≡ path → (says : Said) × Says read says × IsMeant read says up name
    → MatchBool below (up.steps ≢ []) (up.steps ≡ []) → MatchBool below (IsBelowAnother path) (¬ IsBelowAnother path)
below_another path read up name true is meant steps = (up, (name, means_by path read up name is meant, steps))
below_another path read up name false is meant none =
    λ below. below.1.2 (ap (λ f. f.steps) (one_above path below.0 up below.1.0 name below.1.1 (means_by path read up name is meant)) ∙ none)
