-- Whether a path means a directory that is there itself.
use Rattle.std.proofs.Common.{◌≡◌, ◌∙◌, refl, subst, ℕ, List, [], ◌∷◌, map, codes, false, is_some, Option, Some, None, Result, Ok, Err}
use Rattle.std.specs.Prelude.{IfOk, MatchOption}
use Rattle.ods_base.specs.declared.file_id.FileId.{FileId}
use Rattle.ods_space.specs.Layout.{VolumeLayout}
use Rattle.ods_mount.specs.Sound.{IsSoundBy}
use Rattle.ods_paths.specs.declared.versions.Versions.{Versions}
use Rattle.ods_paths.specs.declared.versions.Versions.TheVariants.{Highest}
use Rattle.ods_paths.specs.Paths.{Files, Folder}
use Rattle.ods_shell.specs.declared.facts.Facts.{Facts}
use Rattle.ods_shell.specs.declared.folders.Directory.{Directory as Holder}
use Rattle.ods_shell.specs.declared.found.Found.{Found}
use Rattle.ods_shell.specs.Named.{AreNamed}
use Rattle.ods_shell.specs.Ways.{AreMeant}
use Rattle.ods_upkeep.proofs.OneNaming.{same_facts}
use Rattle.ods_upkeep.specs.Target.{IsAlone, IsDirectoryNamed, IsInto, IsTheDirectory, MayBeDirectory, SaysVersion}

-- two promises of a call
pub if_both : {A E : Type 0} {P Q R : A → Type 0} (result : Result A E) → ((x : A) → P x → Q x → R x) → IfOk result P → IfOk result Q → IfOk result R
if_both (Ok x) both p q = both x p q
if_both (Err e) both p q = tt

pub if_more : {A E : Type 0} {P Q : A → Type 0} (result : Result A E) → ((x : A) → P x → Q x) → IfOk result P → IfOk result Q
if_more (Ok x) more p = more x p
if_more (Err e) more p = tt

-- the files of this name and the type DIR
abbrev pub dir_files : List ℕ → Files
dir_files name = record { name = name; kind = codes "DIR"; versions = Some Highest }

-- what was found alone is named
pub named : (I : List (List ℕ)) (L : VolumeLayout) (folder : Folder) (name : List ℕ) (all : List Found) (file : FileId) → AreNamed I L [] folder (dir_files name) None all → IsAlone all file → IsDirectoryNamed I L folder name file
named I L folder name all file are alone = record {
  found = alone.found;
  one = subst (AreNamed I L [] folder (dir_files name) None) alone.one are;
  facts = alone.facts;
  known = alone.known;
  is = alone.is;
  same = alone.same;
}

alone_by : (xs : List Found) (facts : Facts) → map (λ (f : Found). f.facts) xs ≡ Some facts ∷ [] → (x : Found) × (xs ≡ x ∷ []) × (x.facts ≡ Some facts)
alone_by [] facts e = absurd (cc)
alone_by (x ∷ []) facts e = (x, refl, cc)
alone_by (x ∷ y ∷ xs) facts e = absurd (cc)

-- what is named in the one directory that is meant was found alone
pub found_alone : (I : List (List ℕ)) (L : VolumeLayout) → IsSoundBy I L → (folder : Folder) (name : List ℕ) (all : List Found) (d : Holder) (file : FileId) → AreNamed I L [] folder (dir_files name) None all
    → AreMeant I L [] folder (d ∷ []) → IsDirectoryNamed I L folder name file → IsAlone all file
found_alone I L sound folder name all d file are meant named_one =
    let one = alone_by all named_one.facts (same_facts I L sound folder (dir_files name) d all (named_one.found ∷ []) meant are named_one.one ∙ (λ i. named_one.known i ∷ [])) in
    record { found = one.0; one = one.1; facts = named_one.facts; known = one.2; is = named_one.is; same = named_one.same }

-- so one that was not found alone is not named
pub decided : (I : List (List ℕ)) (L : VolumeLayout) → IsSoundBy I L → (folder : Folder) (name : List ℕ) (all : List Found) (alone : Option FileId) → AreNamed I L [] folder (dir_files name) None all
    → MatchOption alone ((file : FileId) → ¬ IsAlone all file) (IsAlone all)
    → MatchOption alone ((d : Holder) → AreMeant I L [] folder (d ∷ []) → (file : FileId) → ¬ IsDirectoryNamed I L folder name file) (IsDirectoryNamed I L folder name)
decided I L sound folder name all None are none = λ d meant file is. none file (found_alone I L sound folder name all d file are meant is)
decided I L sound folder name all (Some file) are alone = named I L folder name all file are alone

-- nor where nothing was found
pub none_named : (I : List (List ℕ)) (L : VolumeLayout) → IsSoundBy I L → (folder : Folder) (name : List ℕ) → AreNamed I L [] folder (dir_files name) None [] → (d : Holder) → AreMeant I L [] folder (d ∷ []) → (file : FileId)
    → ¬ IsDirectoryNamed I L folder name file
none_named I L sound folder name none d meant file is = let alone = found_alone I L sound folder name [] d file none meant is in let clash : [] ≡ alone.found ∷ [] = alone.one in absurd (cc)

-- a directory that is named is meant itself, where no version is said and the path may name one
pub meant_itself : (I : List (List ℕ)) (L : VolumeLayout) (path : List ℕ) (folder : Folder) (files : Files) → SaysVersion files.versions None → MayBeDirectory path files.kind → (found : Option FileId)
    → MatchOption found ((d : Holder) → AreMeant I L [] folder (d ∷ []) → (file : FileId) → ¬ IsDirectoryNamed I L folder files.name file) (IsDirectoryNamed I L folder files.name)
    → MatchOption found ((d : Holder) → AreMeant I L [] folder (d ∷ []) → (file : FileId) → ¬ IsInto I L path folder files file) (IsInto I L path folder files)
meant_itself I L path folder files unsaid may_be None none = λ d meant file into. none d meant file into.there
meant_itself I L path folder files unsaid may_be (Some file) is = record { unsaid = unsaid; may_be = may_be; there = is }

-- no version is said
pub unsaid_by : (versions : Option Versions) (version : Option ℕ) → SaysVersion versions version → false ≡ is_some version → SaysVersion versions None
unsaid_by versions None says none = says
unsaid_by versions (Some v) says none = absurd (cc)

-- in the one directory that the folder means no other is meant
pub not_into : (I : List (List ℕ)) (L : VolumeLayout) (path : List ℕ) (folder : Folder) (files : Files) (found : Option FileId) (there : FileId)
    → MatchOption found ((d : Holder) → AreMeant I L [] folder (d ∷ []) → (file : FileId) → ¬ IsInto I L path folder files file) (IsInto I L path folder files)
    → found ≡ None → IsTheDirectory I L folder there → (file : FileId) → ¬ IsInto I L path folder files file
not_into I L path folder files None there none same directory file = none directory.directory directory.one file
not_into I L path folder files (Some f) there into same directory file = absurd (cc)
