-- One block of a file is replaced, any but files 1, 2, 3 and 5: nothing moves, and the blocks show the same files, but for that one.
-- This serves each change of a directory's names.
use Rattle.std.proofs.Common.{◌≡◌, ◌≢◌, ℕ, ◌-◌, ◌≤◌, refl, ap, sym, ◌∙◌, subst, List, [], inl, inr}
use Rattle.std.specs.Prelude.{◌⊎◌, slice_set}
use Rattle.std.proofs.lemmas.Bool.{cases_eq}
use Rattle.ods_base.specs.declared.file_id.FileId.{FileId}
use Rattle.ods_header.specs.Header.{sequence_of}
use Rattle.ods_space.specs.Layout.{VolumeLayout, header_at}
use Rattle.ods_space.specs.Chain.{index_for}
use Rattle.ods_space.specs.Files.{HasBlocks, Holds}
use Rattle.ods_directory.specs.Names.{IsDirectory}
use Rattle.ods_mount.specs.Faults.{IsDirectoryFile, contents_of, mark_at}
use Rattle.ods_mount.specs.Sound.{IsSoundBy}
use Rattle.ods_request.specs.Catalogue.{Catalogue}
use Rattle.ods_request.specs.Steps.{put}
use Rattle.ods_state.specs.Change.{disk}
use Rattle.ods_state.specs.Contents.{file_of, IsFileIn, ShowsBy}
use Rattle.ods_state.specs.Moves.{NothingMoves}
use Rattle.ods_state.proofs.Data.{IsDataChange, header_stays, is_still, blocks_stay, blocks_were, sound_stays}
use Rattle.ods_space.proofs.Chains.{same_chain}
use Rattle.ods_state.proofs.OneBlock.{data_changes, others_contents, own_contents}
use Rattle.ods_state.proofs.Shown.{IsAlike, one_is_put}
use Rattle.ods_state.proofs.Still as still

module _ (I : List (List ℕ)) (L : VolumeLayout) (S : IsSoundBy I L) (id : FileId) (vbn x : ℕ) (b : List ℕ) (h : Holds I L id.number vbn x)
    (one : id.number ≢ 1) (two : id.number ≢ 2) (three : id.number ≢ 3) (five : id.number ≢ 5) where
  abbrev J : List (List ℕ)
  J = slice_set I x b

  -- the contents of the file after the change
  abbrev pub contents_now : List (List ℕ)
  contents_now = slice_set (contents_of I h.blocks) (vbn - 1) b

  changes : IsDataChange I J L
  changes = data_changes I L S id.number vbn x b h one two three five

  -- the file keeps its blocks
  pub held_now : HasBlocks J L id.number h.blocks
  held_now = blocks_stay I J L S changes id.number h.blocks h.file

  pub headers_stay : (n : ℕ) → header_at J L n ≡ header_at I L n
  headers_stay = header_stays I J L S changes

  -- no sequence word changes
  pub sequences_stay : (n : ℕ) → sequence_of (header_at I L n) ≤ sequence_of (header_at J L n)
  sequences_stay = still.sequences_stay I J L S (is_still I J L S changes)

  pub nothing_moves : NothingMoves (disk I L) (disk J L)
  nothing_moves = still.nothing_moves I J L S (is_still I J L S changes)

  -- the changed image is sound, where the file is still a directory if it was one
  pub block_is_sound : (IsDirectoryFile I L id.number → IsDirectory contents_now (mark_at I L id.number h.blocks)) → IsSoundBy J L
  block_is_sound own = sound_stays I J L S changes (λ m blocks d held. by_number m blocks d held (cases_eq m id.number))
    where
      by_number : (m : ℕ) (blocks : List ℕ) → IsDirectoryFile I L m → HasBlocks I L m blocks → (m ≡ id.number) ⊎ (m ≢ id.number) → IsDirectory (contents_of J blocks) (mark_at I L m blocks)
      by_number m blocks d held (inr ne) =
          subst (λ c. IsDirectory c (mark_at I L m blocks)) (sym (others_contents I L S id.number vbn x b h m blocks held ne)) (S.directories m blocks d held)
      by_number m blocks d held (inl e) =
          let mine : HasBlocks I L id.number blocks = subst (λ k. HasBlocks I L k blocks) e held in
          let is : blocks ≡ h.blocks = (same_chain I L.home (index_for L id.number) [] 0 id.number mine.others blocks h.file.others h.blocks mine.whole.chain h.file.whole.chain).1 in
          let now : IsDirectory (contents_of J h.blocks) (mark_at I L id.number h.blocks) =
          subst (λ c. IsDirectory c (mark_at I L id.number h.blocks)) (sym (own_contents I L S id.number vbn x b h)) (own (subst (λ k. IsDirectoryFile I L k) e d)) in
          subst (λ k. IsDirectory (contents_of J blocks) (mark_at I L k blocks)) (sym e) (subst (λ bs. IsDirectory (contents_of J bs) (mark_at I L id.number bs)) (sym is) now)

  module _ (sequence : sequence_of (header_at I L id.number) ≡ id.sequence) where
    -- the file that the blocks showed, and the one that they show now
    pub file_was : IsFileIn I L id (file_of id.number (header_at I L id.number) (contents_of I h.blocks))
    file_was = record { blocks = h.blocks; held = h.file; sequence = sequence; shown = refl }

    pub file_now : IsFileIn J L id (file_of id.number (header_at I L id.number) contents_now)
    file_now = record {
      blocks = h.blocks;
      held = held_now;
      sequence = ap sequence_of (headers_stay id.number) ∙ sequence;
      shown = λ i. file_of id.number (headers_stay id.number i) (own_contents I L S id.number vbn x b h i);
    }

    other_is_alike : (m : ℕ) → m ≢ id.number → IsAlike I J L m
    other_is_alike m ne = record {
      sequence = ap sequence_of (headers_stay m);
      has = blocks_stay I J L S changes m;
      had = blocks_were I J L S changes m;
      shown = λ blocks held. let contents = others_contents I L S id.number vbn x b h m blocks held ne in λ i. file_of m (headers_stay m i) (contents i);
    }

    -- the catalogue is the one with that file put
    pub block_is_shown : (C : Catalogue) → ShowsBy I L C → ShowsBy J L (put C id (file_of id.number (header_at I L id.number) contents_now))
    block_is_shown C shown =
        one_is_put I J L id sequence file_now.sequence other_is_alike C (file_of id.number (header_at I L id.number) contents_now) shown file_now
