-- What of a tree of the host is kept, and paths on the host.
use Rattle.std.specs.Prelude.{◌≡◌, ◌≢◌, ◌⊎◌, ◌==◌, ℕ, ◌-◌, Bool, true, false, List, [], ◌∷◌, ◌++◌, length, drop, take, Option, Some, None, MatchOption, Result, Ok, Err, IfOk, IfSome, is_some, not, string_bytes}
use Rattle.std.specs.List.{All}
use Rattle.std.specs.Str.Pattern.{CutsSuffixes, FindsCharSuffix, IsFullyTrimmed, IsTrimEndMatches}
use Rattle.std.proofs.Common.{refl, sym, ap, subst, ◌∙◌, arith, lit<, inl, inr}
use Rattle.std.proofs.Math.Seq.{drop-length}
use Rattle.std.proofs.lemmas.Bool.Decides.{nat_tests}
use Rattle.std.proofs.lemmas.List.{append_assoc, append-nil, take-append-drop}
use Rattle.std.proofs.lemmas.List.Elements.{All-cons, All-nil}
use Rattle.std.proofs.lemmas.Str.{len_utf8_ascii}
use Rattle.std.proofs.lemmas.Str.Pattern.{drop_at_char, ends_char}
use Rattle.fs_host.specs.declared.host_tree.TreeEntry.{TreeEntry}
use Rattle.ods_upkeep.specs.TreeNames.{SaysPlace}
use Rattle.ods_upkeep.specs.declared.failure.Why.{Why}
use Rattle.f11fs.specs.TreeFaults.{AreKept, IsFault, IsHostPath, IsKept, IsLeft, IsUnplaced, IsWithoutSlashes}
use Rattle.f11fs.specs.declared.judging_tree.TreeFault.{TreeFault}
use Rattle.f11fs.specs.declared.judging_tree.TreeFault.TheVariants as fault_kind

-- one more that is kept, or left out
pub kept_more : (listed kept : List TreeEntry) (entry : TreeEntry) → IsKept entry → AreKept listed kept → AreKept (listed ++ entry ∷ []) (kept ++ entry ∷ [])
kept_more [] kept entry is are = inl (is, [], ap (λ l. l ++ entry ∷ []) are, refl)
kept_more (e ∷ listed) kept entry is are = elim are [
  | inl taken ↦ inl (taken.0, taken.1 ++ entry ∷ [], ap (λ l. l ++ entry ∷ []) taken.2, kept_more listed taken.1 entry is taken.3)
  | inr left ↦ inr (left.0, kept_more listed kept entry is left.1)
]

pub left_more : (listed kept : List TreeEntry) (entry : TreeEntry) → IsLeft entry → AreKept listed kept → AreKept (listed ++ entry ∷ []) kept
left_more [] kept entry is are = inr (is, are)
left_more (e ∷ listed) kept entry is are = elim are [
  | inl taken ↦ inl (taken.0, taken.1, taken.2, left_more listed taken.1 entry is taken.3)
  | inr left ↦ inr (left.0, left_more listed kept entry is left.1)
]

-- slashes at the end are cut off
cut_slashes : (folder ns front : List ℕ) → CutsSuffixes (FindsCharSuffix 47) folder ns front → (slashes : List ℕ) × (folder ≡ front ++ slashes) × All (λ c. c ≡ 47) slashes
cut_slashes folder [] front cut = ([], sym cut ∙ sym (append-nil front), All-nil (λ c. c ≡ 47))
cut_slashes folder (n ∷ ns) front cut =
    let m = cut.0 in
    let before = cut_slashes folder ns m cut.1 in
    let at : drop (length m - n) m ≡ 47 ∷ drop (length m) m = drop_at_char 47 m (length m - n) (length m) cut.2.1 (lit< tt) in
    let whole : take (length m - n) m ++ drop (length m - n) m ≡ m = take-append-drop (length m - n) m in
    let one : m ≡ front ++ 47 ∷ [] = sym whole ∙ ap (λ l. l ++ drop (length m - n) m) (sym cut.3) ∙ ap (λ l. front ++ l) (at ∙ ap (λ l. 47 ∷ l) (drop-length m)) in
    (47 ∷ before.0, before.1 ∙ ap (λ l. l ++ before.0) one ∙ append_assoc front (47 ∷ []) before.0, All-cons (λ c. c ≡ 47) 47 before.0 refl before.2)

no_slash_left : (front : List ℕ) (o : Option ℕ) → FindsCharSuffix 47 front o → IfSome o (λ n. n ≡ 0) → (before : List ℕ) → front ≢ before ++ 47 ∷ []
no_slash_left front None none some before same = let wrong : false ≡ true = (ends_char 47 front false none (lit< tt)).1 before same in absurd (cc)
no_slash_left front (Some n) at some before same = absurd (omega (arith, at.0, len_utf8_ascii 47 (lit< tt), some))

without : (folder front : List ℕ) → IsTrimEndMatches (FindsCharSuffix 47) folder front → IsWithoutSlashes folder front
without folder front trimmed = (cut_slashes folder trimmed.0.0 front trimmed.0.1, no_slash_left front trimmed.1.0 trimmed.1.1 trimmed.1.2)

-- the path of the folder itself
pub path_of_folder : {X E : Type 0} (r : Result X E) (bytes : X → List ℕ) (folder path : List ℕ) (b : Bool) → b ≡ (length path == 0) → b ≡ true → IfOk r (λ t. bytes t ≡ folder) → IfOk r (λ t. IsHostPath folder path (bytes t))
path_of_folder (Ok t) bytes folder [] b is empty same = same
path_of_folder (Ok t) bytes folder (c ∷ path) b is empty same = let wrong : (length (c ∷ path) == 0) ≡ true = sym is ∙ empty in absurd (grind (arith, nat_tests))
path_of_folder (Err e) bytes folder path b is empty same = tt

-- the path of what is in it
pub path_within : {X E : Type 0} (r : Result X E) (bytes : X → List ℕ) (folder front path : List ℕ) (b : Bool) → b ≡ (length path == 0) → b ≡ false → IsTrimEndMatches (FindsCharSuffix 47) folder front
    → IfOk r (λ t. bytes t ≡ front ++ 47 ∷ path) → IfOk r (λ t. IsHostPath folder path (bytes t))
path_within (Ok t) bytes folder front [] b is some trimmed same = let wrong : true ≡ false = sym is ∙ some in absurd (cc)
path_within (Ok t) bytes folder front (c ∷ path) b is some trimmed same = (front, without folder front trimmed, same)
path_within (Err e) bytes folder front path b is some trimmed same = tt

-- a path of which a fault is known says no place
pub unplaced : (path text : List ℕ) (o : Option Why) (b : Bool) → is_some o ≡ not b → b ≡ false → path ≡ text → MatchOption o (SaysPlace path) (IsUnplaced path) → (why : Why) × IsUnplaced text why
unplaced path text None b is some same judged = let wrong : false ≡ true = is ∙ ap not some in absurd (cc)
unplaced path text (Some why) b is some same judged = (why, subst (λ t. IsUnplaced t why) same judged)

module _ (entry : TreeEntry) (skip : Bool) (path_why : Why) (no_place : IsUnplaced (string_bytes entry.path) path_why) where
  -- its own name is none
  pub own_fault : (own : List ℕ) (o : Option Why) (why : Why) (fault : Option TreeFault) → o ≡ Some why → MatchOption o (SaysPlace own) (IsUnplaced own) → (fault ≡ Some fault_kind.Folder) ⊎ (fault ≡ Some (fault_kind.Name why)) → IsFault entry skip fault
  own_fault own o why fault is judged said = inr (path_why, no_place, inr (own, why, subst (λ p. MatchOption p (SaysPlace own) (IsUnplaced own)) is judged, said))

  -- that of a folder on the way is told there
  pub told_before : (fault : Option TreeFault) → fault ≡ None → IsFault entry skip fault
  told_before fault none = inr (path_why, no_place, inl none)
