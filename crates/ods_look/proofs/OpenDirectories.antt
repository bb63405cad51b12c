-- The names of a directory that is open: those that its blocks have before its end mark.
use Rattle.std.proofs.Common.{◌≡◌, ℕ, ◌+◌, ◌-◌, ◌*◌, ◌≤◌, refl, ap, sym, ◌∙◌, subst, Bool, true, false, cond, List, [], ◌∷◌, length, Option, Some, None, arith}
use Rattle.std.specs.Prelude.{◌==◌, is_none, unwrap_or, min}
use Rattle.std.specs.FinMap as map
use Rattle.std.proofs.lemmas.List.{length-map}
use Rattle.ods_base.specs.Image.{block_at}
use Rattle.ods_base.specs.Name.{RadName, key_of}
use Rattle.ods_base.specs.Names.{NameMap, picked_version, lines_of, Finds, HasNone}
use Rattle.ods_base.specs.declared.file_id.FileId.{FileId}
use Rattle.ods_base.specs.declared.file_id.Uic.{Uic}
use Rattle.ods_base.specs.declared.name.Pick.{Pick}
use Rattle.ods_base.proofs.Picks.{picked, none_picked}
use Rattle.ods_header.specs.Header.{attributes_of}
use Rattle.ods_space.specs.Layout.{VolumeLayout, header_at}
use Rattle.ods_directory.specs.declared.fault.DirFault.{DirFault}
use Rattle.ods_directory.specs.declared.fault.DirFault.TheVariants.{NoSuchName, NameTaken, VersionsFull}
use Rattle.ods_directory.specs.Faults.{IsLookUpFault}
use Rattle.ods_directory.specs.Mark.{mark_in, end_block, end_byte}
use Rattle.ods_directory.specs.Names.{names_of as names_in}
use Rattle.ods_directory.proofs.Marks.{mark_inside as cut}
use Rattle.ods_mount.specs.Faults.{contents_of}
use Rattle.ods_request.specs.declared.refusals.Refusal.TheVariants as refusal
use Rattle.ods_request.specs.declared.rights.Right.{Right}
use Rattle.ods_request.specs.declared.requests.Request.TheVariants.{LookUp, List as Lines, Remove}
use Rattle.ods_request.specs.declared.answers.Answer.TheVariants.{Found, Names, Removed}
use Rattle.ods_request.specs.Catalogue.{Catalogue, Directory, names_of}
use Rattle.ods_request.specs.Faults.{on_file}
use Rattle.ods_request.specs.Steps.{answer_of, file_at, no_file, no_id, found_version, found_file}
use Rattle.ods_state.specs.Contents.{file_of, body_of, ShowsBy}
use Rattle.ods_look.specs.declared.opening.OpenDirectory.{OpenDirectory}
use Rattle.ods_look.specs.Opening.{Rows, IsDirectoryAt, IsOpenDirectory, directory_checks, file_shown}
use Rattle.ods_look.proofs.Rows.{holds, passes}
use Rattle.ods_look.proofs.FileBodies.{directory_body}

-- the mark is cut to the blocks
pub mark_inside : (attributes : List ℕ) (count mark : ℕ) → mark ≡ mark_in attributes count → mark ≤ 512 * count
mark_inside attributes count mark is = subst (λ m. m ≤ 512 * count) (sym is) (cut attributes count)

-- the body of a directory is its names
pub open_body : {I : List (List ℕ)} {L : VolumeLayout} {n : ℕ} {opened : OpenDirectory} (is : IsDirectoryAt I L n opened)
    → body_of n (header_at I L n) (contents_of I is.lbns) ≡ Directory (names_in opened.blocks opened.mark)
open_body {I = I} {L = L} {n = n} {opened = opened} is =
    directory_body n (header_at I L n) (contents_of I is.lbns) is.kind
    ∙ ap (λ k. Directory (names_in (contents_of I is.lbns) (mark_in (attributes_of (header_at I L n)) k))) (length-map is.lbns (block_at I))
    ∙ (λ i. Directory (names_in (sym is.contents i) (sym is.mark i)))

pub nothing_found : (m : NameMap) (name : RadName) (pick : Pick) (fault : DirFault) → IsLookUpFault m name pick fault → HasNone m name pick
nothing_found m name pick NoSuchName h = h
nothing_found m name pick NameTaken h = absurd h
nothing_found m name pick VersionsFull h = absurd h

-- the last row of a LookUp and of a Remove
abbrev pub name_check : RadName → Pick → Rows
name_check name pick d = (is_none (picked_version (names_of d.body) name pick), refusal.NoSuchName) ∷ []

module _ {I : List (List ℕ)} {L : VolumeLayout} {id : FileId} {who : Uic} {r : Right} {opened : OpenDirectory} (o : IsOpenDirectory I L id who r opened)
    {C : Catalogue} (shown : ShowsBy I L C) where
  abbrev names : NameMap
  names = names_in opened.blocks opened.mark

  pub names_found : names_of (file_shown I L id o.is.lbns).body ≡ names
  unfolding file_of
  names_found = ap names_of (open_body o.is)

  pub names_there : names_of (file_at C id).body ≡ names
  names_there = ap (λ f. names_of (unwrap_or f no_file).body) (o.passes C shown).there ∙ names_found

  pub lines_there : answer_of C (Lines id) ≡ Names (lines_of names)
  unfolding answer_of
  lines_there = ap (λ m. Names (lines_of m)) names_there

  module _ (name : RadName) (three : length name.words ≡ 3) (pick : Pick) where
    picked_there : (v : Option ℕ) → picked_version names name pick ≡ v → picked_version (names_of (file_shown I L id o.is.lbns).body) name pick ≡ v
    picked_there v e = ap (λ m. picked_version m name pick) names_found ∙ e

    pub not_found : (fault : DirFault) → IsLookUpFault names name pick fault → on_file (map.get C.files id) (directory_checks who r (name_check name pick)) ≡ Some refusal.NoSuchName
    not_found fault none = (o.passes C shown).left (name_check name pick) ∙ holds _ (ap is_none (picked_there None (none_picked names name three pick (nothing_found names name pick fault none))))

    module _ (file : FileId) (version : ℕ) (found : Finds names name pick file version) where
      picked_is : picked_version names name pick ≡ Some version
      picked_is = picked names name three pick version found.0

      pub no_fault : on_file (map.get C.files id) (directory_checks who r (name_check name pick)) ≡ None
      no_fault = (o.passes C shown).left (name_check name pick) ∙ passes _ (ap is_none (picked_there (Some version) picked_is)) refl

      pub version_is : found_version C id name pick ≡ version
      version_is = ap (λ m. unwrap_or (picked_version m name pick) 0) names_there ∙ ap (λ v. unwrap_or v 0) picked_is

      file_is : found_file C id name pick ≡ file
      file_is = (λ i. unwrap_or (map.get (names_there i) (key_of name (version_is i))) no_id) ∙ ap (λ f. unwrap_or f no_id) found.1

      pub found_is : answer_of C (LookUp id name pick) ≡ Found file version
      unfolding answer_of
      found_is = λ i. Found (file_is i) (version_is i)

      pub removed_is : answer_of C (Remove id name pick) ≡ Removed file version
      unfolding answer_of
      removed_is = λ i. Removed (file_is i) (version_is i)
