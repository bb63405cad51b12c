-- The files that no line, or no entry of a directory, names: by flags, number by number.
use Rattle.std.proofs.Common.{◌≡◌, ◌⊎◌, inl, inr, ℕ, ◌+◌, ◌<◌, ◌≤◌, refl, sym, ap, ◌∙◌, subst, Bool, true, false, List, [], ◌∷◌, ◌++◌, map, get_or, append-nil, arith}
use Rattle.std.specs.Prelude.{MatchBool}
use Rattle.std.specs.List.{Contains, flat_map, range_with_len}
use Rattle.std.proofs.lemmas.Bool.{cases_eq}
use Rattle.std.proofs.lemmas.Grind.{flat_map-append}
use Rattle.std.proofs.lemmas.List.Elements.{Contains-append_left, Contains-append_right, Contains-append_cases}
use Rattle.ods_alloc.proofs.Scans.{range-append}
use Rattle.ods_base.specs.declared.file_id.FileId.{FileId}
use Rattle.ods_base.specs.declared.listed.Listed.{Listed}
use Rattle.ods_mount.specs.Faults.{IsDirectoryFile}
use Rattle.ods_space.specs.Layout.{VolumeLayout, last_number}
use Rattle.ods_space.specs.Files.{IsFile}
use Rattle.ods_walk.specs.Complete.{HasEntry}
use Rattle.ods_walk.specs.Listing.{IsListing}
use Rattle.ods_walk.proofs.Completeness.{at_head, contains_map, first_or_other, same_entries}
use Rattle.ods_shell.proofs.Flags.{IsSame, none_of_none}
use Rattle.ods_shell.proofs.OneName.{those_as_before, those_more}
use Rattle.ods_shell.specs.Choosing.{AreThose}
use Rattle.ods_shell.specs.Named.{id_of}
use Rattle.ods_shell.specs.There.{AreFlags, AreNamedIds, AreUnreached, IsAmong, IsNamedByNone, IsNotAmong, IsUnnoted}

-- ---- texts, a number more

-- So far: of the first k numbers those of which P holds, and their texts.
abbrev pub AreTexts : (ℕ → Type 0) → (ℕ → List ℕ) → ℕ → List ℕ → Type 0
AreTexts P line k text = (numbers : List ℕ) × AreThose P (range_with_len 1 k) numbers × (text ≡ flat_map line numbers)

pub texts_none : (P : ℕ → Type 0) (line : ℕ → List ℕ) → AreTexts P line 0 []
texts_none P line = ([], refl, refl)

pub range_next : (k : ℕ) → range_with_len 1 (k + 1) ≡ range_with_len 1 k ++ (k + 1) ∷ []
range_next k = let e : 1 + k ≡ k + 1 = omega arith in range-append 1 k 1 ∙ ap (λ n. range_with_len 1 k ++ n ∷ []) e

pub texts_next : (P : ℕ → Type 0) (line : ℕ → List ℕ) (k : ℕ) (old new : List ℕ) → (P (k + 1) × (new ≡ old ++ line (k + 1))) ⊎ ((¬ P (k + 1)) × (new ≡ old))
    → AreTexts P line k old → AreTexts P line (k + 1) new
texts_next P line k old new adds are = elim adds [
  | inl one ↦ (
    are.0 ++ (k + 1) ∷ [],
    subst (λ r. AreThose P r (are.0 ++ (k + 1) ∷ [])) (sym (range_next k)) (those_more P (range_with_len 1 k) are.0 (k + 1) one.0 are.1),
    one.1 ∙ ap (λ t. t ++ line (k + 1)) are.2 ∙ ap (λ t. flat_map line are.0 ++ t) (sym (append-nil (line (k + 1)))) ∙ sym (flat_map-append line are.0 ((k + 1) ∷ [])),
  )
  | inr none ↦ (are.0, subst (λ r. AreThose P r are.0) (sym (range_next k)) (those_as_before P (range_with_len 1 k) are.0 (k + 1) none.0 are.1), none.1 ∙ are.2)
]

-- those with a reason that says as much
pub those_same : {X : Type 0} (P Q : X → Type 0) (xs found : List X) → ((x : X) → IsSame (P x) (Q x)) → AreThose P xs found → AreThose Q xs found
those_same P Q [] found same are = are
those_same P Q (x ∷ xs) found same are = elim are [
  | inl taken ↦ inl ((same x).on taken.0, taken.1, taken.2, those_same P Q xs taken.1 same taken.3)
  | inr left ↦ inr ((λ q. left.0 ((same x).back q)), those_same P Q xs found same left.1)
]

-- ---- flags

clear_of : (b : Bool) (P : Type 0) → MatchBool b P (¬ P) → ¬ P → b ≡ false
clear_of true P is none = absurd (none is)
clear_of false P is none = refl

none_of : (b : Bool) (P : Type 0) → MatchBool b P (¬ P) → b ≡ false → ¬ P
none_of true P is clear = absurd (cc)
none_of false P is clear = is

contains_map_back : {X Y : Type 0} (f : X → Y) (xs : List X) (y : Y) → Contains (map f xs) y → (x : X) × Contains xs x × (f x ≡ y)
contains_map_back f [] y has = absurd (none_of_none y has)
contains_map_back f (x ∷ xs) y has = elim (first_or_other (f x) (map f xs) y has) [
  | inl one ↦ (x, at_head x xs, one)
  | inr rest ↦ (let found = contains_map_back f xs y rest in (found.0, Contains-append_right (x ∷ []) xs found.0 found.1, found.2))
]

module _ (I : List (List ℕ)) (L : VolumeLayout) where
  -- the entries of a directory name their IDs; what is no directory has none
  pub named_by_entries : (d : ℕ) (entries : List Listed) → IsDirectoryFile I L d → IsListing I L d entries → AreNamedIds I L d (map (λ (e : Listed). e.file) entries)
  named_by_entries d entries is listing = record {
    only = λ id has. (let found = contains_map_back (λ (e : Listed). e.file) entries id has in (is, (found.0, record { lines = entries; listing = listing; among = found.1 }, found.2)));
    all = λ e there has. contains_map (λ (x : Listed). x.file) entries e (same_entries I L d has.lines entries e has.listing listing has.among);
  }

  pub named_by_none : (d : ℕ) → ¬ IsDirectoryFile I L d → AreNamedIds I L d []
  named_by_none d other = record { only = λ id has. absurd (none_of_none id has); all = λ e is has. absurd (other is) }

  -- the IDs that entries of the directories up to this number name
  pub record AreNamedTo (k : ℕ) (ids : List FileId) : Type 0 where
    pub only : (id : FileId) → Contains ids id → (d : ℕ) × ((e : Listed) × IsDirectoryFile I L d × HasEntry I L d e × (e.file ≡ id))
    pub all : (d : ℕ) (e : Listed) → d ≤ k → IsDirectoryFile I L d → HasEntry I L d e → Contains ids e.file

  -- and the flags of the files among these
  abbrev pub AreNoted : ℕ → List Bool → Type 0
  AreNoted k flags = (ids : List FileId) × AreNamedTo k ids × AreFlags (IsAmong I L ids) flags

  pub noted_none : (flags : List Bool) → AreFlags (IsAmong I L []) flags → AreNoted 0 flags
  noted_none flags are = (
    [],
    record {
      only = λ id has. absurd (none_of_none id has);
      all = λ d e low is has. (let first = is.0.first in absurd (omega (arith, low, first)));
    },
    are,
  )

  pub noted_next : (k : ℕ) (old new : List Bool)
      → ((ids : List FileId) → AreFlags (IsAmong I L ids) old → (more : List FileId) × (AreNamedIds I L (k + 1) more × AreFlags (IsAmong I L (ids ++ more)) new))
      → AreNoted k old → AreNoted (k + 1) new
  noted_next k old new adds are =
      let one = adds are.0 are.2 in (
        are.0 ++ one.0,
        record {
          only = λ id has. elim (Contains-append_cases are.0 one.0 id has) [
            | inl before ↦ are.1.only id before
            | inr here ↦ (let by = one.1.0.only id here in (k + 1, (by.1.0, by.0, by.1.1, by.1.2)))
          ];
          all = λ d e low is has. by d e low is has (cases_eq d (k + 1));
        },
        one.1.1,
      )
    where
      by : (d : ℕ) (e : Listed) → d ≤ k + 1 → IsDirectoryFile I L d → HasEntry I L d e → (d ≡ k + 1) ⊎ (d ≡ k + 1 → ⊥) → Contains (are.0 ++ (adds are.0 are.2).0) e.file
      by d e low is has (inl last) =
          Contains-append_right are.0 (adds are.0 are.2).0 e.file ((adds are.0 are.2).1.0.all e (subst (IsDirectoryFile I L) last is) (subst (λ n. HasEntry I L n e) last has))
      by d e low is has (inr other) = Contains-append_left are.0 (adds are.0 are.2).0 e.file (are.1.all d e (omega (arith, low, other)) is has)

  module _ (few : last_number L < 65536) (flags : List Bool) where
    small : (n : ℕ) → IsFile I L n → n < 65536
    small n file = let last = file.last in omega (arith, few, last)

    pub unnoted_not_among : (ids : List FileId) → AreFlags (IsAmong I L ids) flags → (n : ℕ) → IsSame (IsUnnoted I L flags n) (IsNotAmong I L ids n)
    unnoted_not_among ids are n = record {
      on = λ is. (is.0, λ has. none_of (get_or flags n false) (IsAmong I L ids n) (are.each n (small n is.0)) is.1 (is.0, has));
      back = λ is. (is.0, clear_of (get_or flags n false) (IsAmong I L ids n) (are.each n (small n is.0)) (λ among. is.1 among.1));
    }

    pub unnoted_by_none : (k : ℕ) → last_number L ≤ k → AreNoted k flags → (n : ℕ) → IsSame (IsUnnoted I L flags n) (IsNamedByNone I L n)
    unnoted_by_none k all are n = record {
      on = λ is. (
        is.0,
        λ d e dir has same. none_of (get_or flags n false) (IsAmong I L are.0 n) (are.2.each n (small n is.0)) is.1 (is.0, subst (Contains are.0) same (are.1.all d e (let last = dir.0.last in omega (arith, last, all)) dir has)),
      );
      back = λ is. (
        is.0,
        clear_of (get_or flags n false) (IsAmong I L are.0 n) (are.2.each n (small n is.0))
            (λ among. (let by = are.1.only (id_of I L n) among.1 in is.1 by.0 by.1.0 by.1.1 by.1.2 by.1.3)),
      );
    }

  pub unreached_same : (P Q : ℕ → Type 0) (json : Bool) (image text : List ℕ) → ((n : ℕ) → IsSame (P n) (Q n)) → AreUnreached I L P json image text → AreUnreached I L Q json image text
  unreached_same P Q json image text same are = (are.0, those_same P Q (range_with_len 1 (last_number L)) are.0 same are.1, are.2)
