-- The file under an ID that a request names, by the catalogue that the blocks show, and the checks on it.
use Rattle.ods_header.specs.Header.{is_directory_header}
use Rattle.std.proofs.Common.{◌≡◌, ℕ, refl, ap, sym, ◌∙◌, Bool, List, Option, Some, None}
use Rattle.std.specs.Prelude.{not}
use Rattle.std.specs.FinMap as map
use Rattle.ods_base.specs.Block.{byte, word}
use Rattle.ods_base.specs.declared.file_id.FileId.{FileId}
use Rattle.ods_base.specs.declared.file_id.Uic.{Uic}
use Rattle.ods_space.specs.Layout.{VolumeLayout, header_at}
use Rattle.ods_space.specs.Files.{HasBlocks}
use Rattle.ods_mount.specs.Faults.{contents_of}
use Rattle.ods_request.specs.declared.refusals.Refusal.{Refusal}
use Rattle.ods_request.specs.declared.refusals.Refusal.TheVariants as refusal
use Rattle.ods_request.specs.declared.rights.Right.{Right}
use Rattle.ods_request.specs.Rights.{permits}
use Rattle.ods_request.specs.Catalogue.{Catalogue, File, is_directory}
use Rattle.ods_request.specs.Faults.{first_of, on_file, is_denied}
use Rattle.ods_state.specs.Contents.{file_of, ShowsBy}
use Rattle.ods_look.specs.Opening.{Rows, IsFileId, file_shown}
use Rattle.ods_look.proofs.FileBodies.{directory_is}

none_if : (o : Option File) → ((f : File) → o ≡ Some f → ⊥) → o ≡ None
none_if None never = refl
none_if (Some f) never = absurd (never f refl)

-- the number is no file's, or the file has another sequence number
pub no_such_id : (I : List (List ℕ)) (L : VolumeLayout) (C : Catalogue) (shown : ShowsBy I L C) (id : FileId) → ¬ IsFileId I L id → map.get C.files id ≡ None
no_such_id I L C shown id none = none_if (map.get C.files id) (λ f e. none ((shown.there id f e).held.file, (shown.there id f e).sequence))

pub no_such_file : (I : List (List ℕ)) (L : VolumeLayout) (C : Catalogue) (shown : ShowsBy I L C) (id : FileId) → ¬ IsFileId I L id → (rows : Rows) → on_file (map.get C.files id) rows ≡ Some refusal.NoSuchFile
no_such_file I L C shown id none rows = ap (λ o. on_file o rows) (no_such_id I L C shown id none)

-- the file that is found, with its blocks
pub found_there : {I : List (List ℕ)} {L : VolumeLayout} {C : Catalogue} (shown : ShowsBy I L C) (id : FileId) (is : IsFileId I L id) (whole : (blocks : List ℕ) × HasBlocks I L id.number blocks)
    → map.get C.files id ≡ Some (file_shown I L id whole.0)
found_there {I = I} {L = L} shown id is whole = shown.all id (file_shown I L id whole.0) (record { blocks = whole.0; held = whole.1; sequence = is.1; shown = refl })

-- its checks are those of the file that the blocks show
pub checked : {I : List (List ℕ)} {L : VolumeLayout} {C : Catalogue} (shown : ShowsBy I L C) (id : FileId) (is : IsFileId I L id) (whole : (blocks : List ℕ) × HasBlocks I L id.number blocks)
    (rows : Rows) (o : Option Refusal) → first_of (rows (file_shown I L id whole.0)) ≡ o → on_file (map.get C.files id) rows ≡ o
checked shown id is whole rows o e = ap (λ p. on_file p rows) (found_there shown id is whole) ∙ e

-- what the checks see of the file, by its first header b
module _ {I : List (List ℕ)} {L : VolumeLayout} (id : FileId) {b : List ℕ} (header : b ≡ header_at I L id.number) (whole : (blocks : List ℕ) × HasBlocks I L id.number blocks) where
  pub kind_seen : (d k : Bool) → d ≡ is_directory_header id.number b → d ≡ k → is_directory (file_shown I L id whole.0).body ≡ k
  unfolding file_of
  kind_seen d k is e = directory_is id.number (header_at I L id.number) (contents_of I whole.0) ∙ ap (is_directory_header id.number) (sym header) ∙ sym is ∙ e

  pub right_seen : (who : Uic) (r : Right) (granted g : Bool) → granted ≡ permits who (record { group = byte b 9; member = byte b 8 }) (word b 5) r → granted ≡ g
      → is_denied (file_shown I L id whole.0) who r ≡ not g
  unfolding file_of
  right_seen who r granted g is e = ap not ((λ i. permits who (record { group = byte (sym header i) 9; member = byte (sym header i) 8 }) (word (sym header i) 5) r) ∙ sym is ∙ e)
