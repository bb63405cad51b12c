-- The volume as a contract sees it, and its invariant.
use Rattle.std.specs.Prelude.{◌≡◌, ℕ, ◌≤◌, true, List, length, Some}
use Rattle.std.specs.FinSet as set
use Rattle.ods_base.specs.declared.file_id.FileId.{FileId}
use Rattle.ods_header.specs.Header.{sequence_of}
use Rattle.ods_space.specs.Layout.{VolumeLayout, header_at}
use Rattle.ods_mount.specs.Sound.{IsSoundBy}
use Rattle.ods_request.specs.declared.answers.Entry.{Entry}
use Rattle.ods_request.specs.Catalogue.{Catalogue}
use Rattle.ods_request.specs.Steps.{replay}
use Rattle.ods_state.specs.Contents.{ShowsBy, IsCatalogueOf}

-- C is the result of the entries, in order, on the catalogue of the mounted image
pub record IsReplay (M : List (List ℕ)) (E : List Entry) (C : Catalogue) : Type 0 where
  pub first : Catalogue
  pub opening : IsCatalogueOf M first
  pub replayed : replay first E ≡ Some C

-- V is a sound image, by this layout, and shows the result of the entries on the catalogue of the mounted image
pub record IsVersionBy (M : List (List ℕ)) (E : List Entry) (V : List (List ℕ)) (L : VolumeLayout) : Type 0 where
  pub sound : IsSoundBy V L
  pub catalogue : Catalogue
  pub replayed : IsReplay M E catalogue
  pub shown : ShowsBy V L catalogue

-- V is a version of the mounted image, by some layout
abbrev pub IsVersion : List (List ℕ) → List Entry → List (List ℕ) → Type 0
IsVersion M E V = (L : VolumeLayout) × IsVersionBy M E V L

-- no ID of the past can be assigned again: the sequence word of the header block of its number is at least its own
abbrev pub PastIsSpent : List (List ℕ) → VolumeLayout → Catalogue → Type 0
PastIsSpent V L C = (id : FileId) → set.contains C.past id ≡ true → id.sequence ≤ sequence_of (header_at V L id.number)

-- a volume: the mounted image, the accepted requests, the present image with its layout, and the limit of the number of requests
pub record State : Type 0 where
  pub mounted : List (List ℕ)
  pub entries : List Entry
  pub image : List (List ℕ)
  pub layout : VolumeLayout
  pub limit : ℕ

-- C is the present catalogue of a volume
abbrev pub IsPresent : State → Catalogue → Type 0
IsPresent v C = IsReplay v.mounted v.entries C

-- the invariant of each volume
pub record IsLawful (v : State) : Type 0 where
  pub opening : (L : VolumeLayout) × IsSoundBy v.mounted L
  pub version : IsVersionBy v.mounted v.entries v.image v.layout
  pub past : (C : Catalogue) → IsPresent v C → PastIsSpent v.image v.layout C
  pub room : length v.entries ≤ v.limit
