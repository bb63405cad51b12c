-- One header is replaced by one that links alike: the blocks show the same files, but for the header's own.
use Rattle.std.proofs.Common.{◌≡◌, ◌≢◌, ℕ, ap, ◌∙◌, List, Some, inl, inr}
use Rattle.std.specs.Prelude.{◌⊎◌, slice_set, nat_le}
use Rattle.std.proofs.lemmas.Bool.{cases_eq}
use Rattle.ods_base.specs.declared.file_id.FileId.{FileId}
use Rattle.ods_header.specs.Header.{sequence_of}
use Rattle.ods_space.specs.Layout.{VolumeLayout, place_of, header_at}
use Rattle.ods_space.specs.Files.{HasBlocks}
use Rattle.ods_mount.specs.Faults.{contents_of}
use Rattle.ods_mount.specs.Sound.{IsSoundBy}
use Rattle.ods_request.specs.Catalogue.{Catalogue, File}
use Rattle.ods_request.specs.Steps.{put}
use Rattle.ods_state.specs.Contents.{file_of, IsFileIn, ShowsBy}
use Rattle.ods_state.specs.Links.{SameLinks}
use Rattle.ods_state.proofs.HeaderChange.{contents_stay, has_blocks, had_blocks}
use Rattle.ods_state.proofs.OneHeader.{header_here, header_there}
use Rattle.ods_state.proofs.Shown.{IsAlike, one_is_put, same_file}

module _ (I : List (List ℕ)) (L : VolumeLayout) (S : IsSoundBy I L) (id : FileId) (x : ℕ) (b : List ℕ) (place : place_of L id.number ≡ Some x)
    (to : SameLinks (header_at I L id.number) b id.number) (back : SameLinks b (header_at I L id.number) id.number) where
  abbrev J : List (List ℕ)
  J = slice_set I x b

  -- another file shows what it did
  others_shown : (m : ℕ) → m ≢ id.number → (blocks : List ℕ) → HasBlocks I L m blocks
      → file_of m (header_at J L m) (contents_of J blocks) ≡ file_of m (header_at I L m) (contents_of I blocks)
  others_shown m ne blocks file = by_number (cases_eq m 1)
    where
      header : header_at J L m ≡ header_at I L m
      header = header_there I L S id.number x b place m ne

      by_number : (m ≡ 1) ⊎ (m ≢ 1) → file_of m (header_at J L m) (contents_of J blocks) ≡ file_of m (header_at I L m) (contents_of I blocks)
      by_number (inl e) = ap (λ c. file_of m c (contents_of J blocks)) header ∙ same_file m (header_at I L m) (contents_of J blocks) (contents_of I blocks) (inl (ap (λ k. nat_le k 2) e))
      by_number (inr other) = let contents = contents_stay I L S id.number x b place m blocks file other in λ i. file_of m (header i) (contents i)

  other_is_alike : (m : ℕ) → m ≢ id.number → IsAlike I J L m
  other_is_alike m ne = record {
    sequence = ap sequence_of (header_there I L S id.number x b place m ne);
    has = has_blocks I L S id.number x b place to back m;
    had = had_blocks I L S id.number x b place to back m;
    shown = others_shown m ne;
  }

  module _ (sequence : sequence_of (header_at I L id.number) ≡ id.sequence) where
    now : sequence_of (header_at J L id.number) ≡ id.sequence
    now = ap sequence_of (header_here I L S id.number x b place) ∙ to.sequence ∙ sequence

    -- the catalogue is the one with that file put
    pub header_is_shown : (C : Catalogue) (f : File) → ShowsBy I L C → IsFileIn J L id f → ShowsBy J L (put C id f)
    header_is_shown = one_is_put I J L id sequence now other_is_alike
