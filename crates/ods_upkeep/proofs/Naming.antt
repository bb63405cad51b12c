-- What a path names, as the finder tells it.
use Rattle.std.proofs.Common.{◌≡◌, ◌<◌, ◌≤◌, ◌+◌, sym, ap, ◌∙◌, subst, refl, ℕ, List, [], ◌∷◌, ◌++◌, inl, length, get_or, take, drop, reverse, append_assoc, append-nil, Result, Ok, Err, arith}
use Rattle.std.specs.Borrow.{Bor}
use Rattle.std.specs.Prelude.{IfErr, IfOk, MatchResult}
use Rattle.std.proofs.lemmas.List.{take-append-drop}
use Rattle.ods_space.specs.Layout.{VolumeLayout}
use Rattle.ods_paths.specs.Paths.{Said, Says}
use Rattle.ods_shell.specs.declared.alone.Unsaid.{Unsaid}
use Rattle.ods_shell.specs.declared.folders.Directory.{Directory}
use Rattle.ods_shell.specs.declared.found.Found.{Found}
use Rattle.ods_shell.specs.declared.path_fault.PathFault.{PathFault}
use Rattle.ods_shell.specs.Named.{AreNamedBy, IsPathFault}
use Rattle.ods_shell.specs.Ways.{CountAsClosed}
use Rattle.ods_upkeep.specs.declared.failure.Failure.{Failure}
use Rattle.ods_upkeep.specs.declared.failure.Why.{Why}
use Rattle.ods_upkeep.specs.Refused.{HasPath, IsFirstNoSource, IsNoSource, for_fault}
use Rattle.ods_upkeep.specs.Sources.{AreOfPath, AreOfPaths}
use Rattle.ods_upkeep.proofs.Stopping.{left_from}

-- with no directories closed
pub of_path : (I : List (List ℕ)) (L : VolumeLayout) (unsaid : Unsaid) (path : List ℕ) (closed : List ℕ) (met : List Directory) (found : List Found) → closed ≡ []
    → (says : Said) × Says path says × ((shut : List ℕ) → CountAsClosed closed met shut → AreNamedBy I L shut says unsaid found) → AreOfPath I L unsaid path found
of_path I L unsaid path closed met found none named = (named.0, named.1, named.2 [] (inl (sym none)))

-- and with what is meant where the path does not say it
pub of_path_by : (I : List (List ℕ)) (L : VolumeLayout) (given unsaid : Unsaid) (path : List ℕ) (closed : List ℕ) (met : List Directory) (found : List Found) → given ≡ unsaid → closed ≡ []
    → (says : Said) × Says path says × ((shut : List ℕ) → CountAsClosed closed met shut → AreNamedBy I L shut says given found) → AreOfPath I L unsaid path found
of_path_by I L given unsaid path closed met found same none named = subst (λ u. AreOfPath I L u path found) same (of_path I L given path closed met found none named)

-- why it names nothing
pub no_source_by : (I : List (List ℕ)) (L : VolumeLayout) (given unsaid : Unsaid) (path : List ℕ) (fault : PathFault) (why : Why) → given ≡ unsaid → why ≡ for_fault fault → IsPathFault I L path given fault → IsNoSource I L unsaid path why
no_source_by I L given unsaid path fault why same is fails = (fault, is, subst (λ u. IsPathFault I L path u fault) same fails)

-- a list of one element
pub just_one : {X : Type 0} (xs ys : List X) (x : X) → xs ≡ ys → 1 ≤ length xs → length xs < 2 → x ≡ get_or xs 0 x → ys ≡ x ∷ []
just_one [] ys x same low high is = absurd (omega arith)
just_one (y ∷ []) ys x same low high is = sym same ∙ (λ i. sym is i ∷ [])
just_one (y ∷ z ∷ xs) ys x same low high is = absurd (omega arith)

-- a list of none
pub no_one : {X : Type 0} (xs ys : List X) → xs ≡ ys → length xs < 1 → ys ≡ []
no_one [] ys same low = sym same
no_one (x ∷ xs) ys same low = absurd (omega (arith, low))

-- what one path more names
pub paths_more : (I : List (List ℕ)) (L : VolumeLayout) (unsaid : Unsaid) (paths : List (Bor (List ℕ))) (path : Bor (List ℕ)) (all here : List Found) → AreOfPaths I L unsaid paths all
    → AreOfPath I L unsaid path.now here → AreOfPaths I L unsaid (paths ++ path ∷ []) (all ++ reverse here)
paths_more I L unsaid [] path all here same of = (here, [], ap (λ l. l ++ reverse here) same ∙ sym (append-nil (reverse here)), of, refl)
paths_more I L unsaid (p ∷ paths) path all here are of =
    (are.0, are.1 ++ reverse here, ap (λ l. l ++ reverse here) are.2 ∙ append_assoc (reverse are.0) are.1 (reverse here), are.3, paths_more I L unsaid paths path are.1 here are.4 of)

-- what is so of the volume that is lent is so of the volume
pub same_disk : (P : List (List ℕ) → VolumeLayout → Type 0) {J I : List (List ℕ)} {M L : VolumeLayout} → J ≡ I → M ≡ L → P J M → P I L
same_disk P {J = J} {I = I} {M = M} {L = L} image layout holds = subst (λ l. P I l) layout (subst (λ i. P i M) image holds)

-- and so is what is so for what is meant where paths do not say it
pub same_unsaid : (P : List (List ℕ) → VolumeLayout → Unsaid → Type 0) {J I : List (List ℕ)} {M L : VolumeLayout} {given unsaid : Unsaid} → J ≡ I → M ≡ L → given ≡ unsaid → P J M given → P I L unsaid
same_unsaid P {J = J} {I = I} {M = M} {L = L} {given = given} {unsaid = unsaid} image layout same holds = subst (P I L) same (same_disk (λ i l. P i l given) image layout holds)

-- the first path that names nothing
pub first_none : (I : List (List ℕ)) (L : VolumeLayout) (unsaid : Unsaid) (paths : List (Bor (List ℕ))) (k : ℕ) (path : Bor (List ℕ)) (named : List Found) (why : Why) (failure : Failure) → k < length paths → path ≡ get_or paths k path
    → AreOfPaths I L unsaid (take k paths) named → IsNoSource I L unsaid path.now why → failure.why ≡ why → HasPath failure path.now → IsFirstNoSource I L unsaid paths failure
first_none I L unsaid paths k path named why failure within is are none reason said = record {
  before = take k paths;
  path = path;
  behind = drop (k + 1) paths;
  order = sym (take-append-drop k paths) ∙ ap (λ l. take k paths ++ l) (left_from paths k path within is);
  named = named;
  are = are;
  none = subst (IsNoSource I L unsaid path.now) (sym reason) none;
  said = said;
}

-- all promises of a call
pub whether_all : {A E : Type 0} {P Q R : A → Type 0} (S : E → Type 0) (result : Result A E) → ((x : A) → P x → Q x → R x) → IfOk result P → IfOk result Q → IfErr result S → MatchResult result R S
whether_all S (Ok x) both p q s = both x p q
whether_all S (Err e) both p q s = s

-- what follows from the promise of a call where it is done
pub whether_more : {A E : Type 0} {P Q : A → Type 0} (S : E → Type 0) (result : Result A E) → ((x : A) → P x → Q x) → MatchResult result P S → MatchResult result Q S
whether_more S (Ok x) more is = more x is
whether_more S (Err e) more is = is
