-- Whether a name can be entered in a directory of the catalogue, and under which version.
use Rattle.std.proofs.Common.{◌≡◌, ℕ, ◌+◌, ◌≤◌, refl, ap, ◌∙◌, Bool, true, false, cond, length, Option, Some, None, arith, inl, inr}
use Rattle.std.specs.Prelude.{◌⊎◌, ◌<◌, ◌∷◌, is_none}
use Rattle.std.specs.FinMap as map
use borrow.Author.Tests.{lt-leb, le-leb}
use Rattle.ods_base.specs.Name.{RadName, key_of}
use Rattle.ods_base.specs.Names.{NameMap, IsEntered, IsPicked, HasNone, last_version, entered_version as version_entered}
use Rattle.ods_base.specs.declared.file_id.FileId.{FileId}
use Rattle.ods_base.specs.declared.name.Pick.TheVariants.{Highest}
use Rattle.ods_base.proofs.Picks.{last_of_none, last_is_highest, entered}
use Rattle.ods_directory.specs.declared.fault.DirFault.{DirFault}
use Rattle.ods_directory.specs.declared.fault.DirFault.TheVariants as fault
use Rattle.ods_directory.specs.Faults.{IsEnterFault}
use Rattle.ods_request.specs.declared.refusals.Refusal.TheVariants as refusal
use Rattle.ods_request.specs.declared.requests.Request.TheVariants.{Enter}
use Rattle.ods_request.specs.declared.answers.Answer.TheVariants.{Entered}
use Rattle.ods_request.specs.Catalogue.{Catalogue, File, names_of}
use Rattle.ods_request.specs.Faults.{first_of, on_file, cannot_enter}
use Rattle.ods_request.specs.Steps.{answer_of, file_at}
use Rattle.ods_look.specs.Opening.{Rows}
use Rattle.ods_look.proofs.Rows.{holds, passes}
use Rattle.ods_change.specs.Entering.{refusal_of}

-- the last rows of an Enter
abbrev pub entering : RadName → Option ℕ → Rows
entering name given d = cannot_enter (names_of d.body) name given

-- the file that is entered is looked for behind the directory, and before what the directory is
pub behind_file : (o g : Option File) (rows : Rows) (f : File) → g ≡ Some f → on_file o (λ d. (is_none g, refusal.NoSuchFile) ∷ rows d) ≡ on_file o rows
behind_file None g rows f e = refl
behind_file (Some d) g rows f e = ap (λ p. cond (is_none p) (Some refusal.NoSuchFile) (first_of (rows d))) e

pub no_file_there : (o g : Option File) (rows : Rows) → g ≡ None → on_file o (λ d. (is_none g, refusal.NoSuchFile) ∷ rows d) ≡ Some refusal.NoSuchFile
no_file_there None g rows e = refl
no_file_there (Some d) g rows e = ap (λ p. cond (is_none p) (Some refusal.NoSuchFile) (first_of (rows d))) e

not_there : (b : Bool) → (b ≡ true → ⊥) → b ≡ false
not_there true none = absurd (none refl)
not_there false none = refl

module _ (m : NameMap) (name : RadName) (three : length name.words ≡ 3) where
  -- why the name is not entered
  pub not_entered : (given : Option ℕ) (why : DirFault) → IsEnterFault m name given why → first_of (cannot_enter m name given) ≡ Some (refusal_of why)
  not_entered (Some v) fault.NameTaken h = holds _ h
  not_entered None fault.VersionsFull h =
      let last : last_version m name ≡ 32767 = last_is_highest m name three 32767 h in
      holds _ (le-leb 32767 (last_version m name) (omega arith))
  not_entered None fault.NameTaken h = absurd h
  not_entered (Some v) fault.VersionsFull h = absurd h
  not_entered None fault.NoSuchName h = absurd h
  not_entered (Some v) fault.NoSuchName h = absurd h

  pub may_enter : (given : Option ℕ) (v : ℕ) → IsEntered m name given v → first_of (cannot_enter m name given) ≡ None
  may_enter (Some w) v h = passes _ (not_there (map.contains_key m (key_of name w)) h.1) refl
  may_enter None v h = passes _ (lt-leb 32767 (last_version m name) (below h)) refl
    where
      below : (HasNone m name Highest × (v ≡ 1)) ⊎ ((w : ℕ) × IsPicked m name Highest w × (v ≡ w + 1) × (v ≤ 32767)) → last_version m name < 32767
      below (inl g) = let last : last_version m name ≡ 0 = last_of_none m name three g.0 in omega arith
      below (inr g) =
          let last : last_version m name ≡ g.0 = last_is_highest m name three g.0 g.1 in
          let next : v ≡ g.0 + 1 = g.2 in
          let most : v ≤ 32767 = g.3 in
          omega arith

  -- the answer names the version that is entered
  pub entered_is : (C : Catalogue) (dir : FileId) (given : Option ℕ) (file : FileId) (v : ℕ) → names_of (file_at C dir).body ≡ m → IsEntered m name given v → answer_of C (Enter dir name given file) ≡ Entered v
  unfolding answer_of
  entered_is C dir given file v there h = ap (λ n. Entered (version_entered n name given)) there ∙ ap Entered (entered m name three given v h)
