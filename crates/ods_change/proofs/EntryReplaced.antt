-- An entry of a directory that is open is written over: what the blocks are then, and what they show.
use Rattle.std.proofs.Common.{◌≡◌, ◌≢◌, ℕ, ◌+◌, ◌-◌, ◌*◌, ◌/◌, ◌%◌, ◌<◌, ◌≤◌, ap, sym, ◌∙◌, subst, List, [], length, Some, arith}
use Rattle.std.specs.Prelude.{slice_get, slice_set, unwrap_or}
use Rattle.std.specs.Option.{option_map}
use Rattle.std.proofs.lemmas.Option.{slice_get-map, get_or_from_slice_get}
use Rattle.std.proofs.lemmas.List.{length-set, length-map}
use Rattle.ods_header.proofs.DirectoryHeaders.{is_apart}
use Rattle.ods_base.specs.Block.{with_bytes}
use Rattle.ods_base.specs.Image.{block_at}
use Rattle.ods_base.specs.Names.{NameMap}
use Rattle.ods_base.specs.declared.file_id.FileId.{FileId}
use Rattle.ods_base.specs.declared.file_id.Uic.{Uic}
use Rattle.ods_header.specs.Header.{attributes_of, sequence_of}
use Rattle.ods_space.specs.Layout.{VolumeLayout, header_at}
use Rattle.ods_space.specs.Files.{HasBlocks, Holds}
use Rattle.ods_directory.specs.Mark.{mark_in, written}
use Rattle.ods_directory.specs.Names.{IsDirectory, names_of as names_in}
use Rattle.ods_mount.specs.Faults.{contents_of, mark_at}
use Rattle.ods_mount.specs.Sound.{IsSoundBy}
use Rattle.ods_request.specs.declared.rights.Right.{Right}
use Rattle.ods_request.specs.Catalogue.{Catalogue, Directory}
use Rattle.ods_request.specs.Steps.{put, put_body, file_at, no_file, with_body}
use Rattle.ods_state.specs.Contents.{file_of, ShowsBy}
use Rattle.ods_state.specs.Change.{disk}
use Rattle.ods_state.specs.Moves.{NothingMoves}
use Rattle.ods_state.proofs.BlockShown as block
use Rattle.ods_state.proofs.OneBlock.{own_contents}
use Rattle.ods_look.specs.declared.opening.OpenDirectory.{OpenDirectory}
use Rattle.ods_look.specs.Opening.{IsOpenDirectory, file_shown}
use Rattle.ods_look.proofs.BlockPlaces.{blocks_are_one}
use Rattle.ods_look.proofs.FileBodies.{directory_body, other_contents}
use Rattle.ods_change.proofs.Marks.{directory_before}

-- an entry before the mark lies in one of the blocks, and in that one alone
pub entry_within : (k at mark count : ℕ) → k < mark / 16 → at ≡ 16 * k → mark ≤ 512 * count → at / 512 < count
entry_within k at mark count below is cut = omega (arith, below)

pub entry_inside : (k at : ℕ) → at ≡ 16 * k → at % 512 + 16 ≤ 512
entry_inside k at is = omega (arith, is)

-- directory `id` of a sound volume is open, and the block at `lbn` has its entry at place `at`, where these bytes go
pub record IsEntry (I : List (List ℕ)) (L : VolumeLayout) (id : FileId) (opened : OpenDirectory) (at lbn : ℕ) : Type 0 where
  pub sound : IsSoundBy I L
  pub who : Uic
  pub right : Right
  pub own : IsOpenDirectory I L id who right opened
  pub held : Holds I L id.number (at / 512 + 1) lbn

module _ {I : List (List ℕ)} {L : VolumeLayout} {id : FileId} {opened : OpenDirectory} {at lbn : ℕ} (e : IsEntry I L id opened at lbn) (bytes : List ℕ) where
  abbrev n : ℕ
  n = id.number

  abbrev vbn : ℕ
  vbn = at / 512 + 1

  abbrev b : List ℕ
  b = with_bytes (block_at I lbn) (at % 512) bytes

  abbrev J : List (List ℕ)
  J = slice_set I lbn b

  abbrev header : List ℕ
  header = header_at I L n

  abbrev S : IsSoundBy I L
  S = e.sound

  abbrev o : IsOpenDirectory I L id e.who e.right opened
  o = e.own

  abbrev lbns : List ℕ
  lbns = o.is.lbns

  -- the blocks of the directory with the entry
  abbrev now : List (List ℕ)
  now = written opened.blocks at bytes

  other : (k : ℕ) → k < 6 → k ≢ 4 → n ≢ k
  other = is_apart n header o.is.kind

  pub one : n ≢ 1
  one = other 1 (omega arith) (λ g. absurd (omega arith))

  two : n ≢ 2
  two = other 2 (omega arith) (λ g. absurd (omega arith))

  three : n ≢ 3
  three = other 3 (omega arith) (λ g. absurd (omega arith))

  five : n ≢ 5
  five = other 5 (omega arith) (λ g. absurd (omega arith))

  -- ---- the block of the entry

  named : slice_get lbns (vbn - 1) ≡ Some lbn
  named = ap (λ bs. slice_get bs (vbn - 1)) (blocks_are_one o.is.held e.held.file) ∙ e.held.named

  abbrev here : Holds I L n vbn lbn
  here = record { blocks = lbns; file = o.is.held; first = e.held.first; named = named }

  place_is : (k : ℕ) → k + 1 - 1 ≡ k
  place_is k = omega arith

  block_is : block_at (contents_of I lbns) (at / 512) ≡ block_at I lbn
  block_is = get_or_from_slice_get (contents_of I lbns) (at / 512) (block_at I lbn) []
      (slice_get-map (block_at I) lbns (at / 512) ∙ ap (option_map (block_at I)) (ap (slice_get lbns) (sym (place_is (at / 512))) ∙ named))

  now_is : now ≡ slice_set (contents_of I lbns) (vbn - 1) b
  unfolding written
  now_is =
      (λ i. slice_set (o.is.contents i) (at / 512) (with_bytes (block_at (o.is.contents i) (at / 512)) (at % 512) bytes))
      ∙ (λ i. slice_set (contents_of I lbns) (sym (place_is (at / 512)) i) (with_bytes (block_is i) (at % 512) bytes))

  pub long_now : length now ≡ length lbns
  long_now = ap length now_is ∙ length-set (contents_of I lbns) (vbn - 1) b ∙ length-map lbns (block_at I)

  pub contents_then : contents_of J lbns ≡ now
  contents_then = own_contents I L S n vbn lbn b here ∙ sym now_is

  -- ---- what stays

  pub headers_stay : header_at J L n ≡ header
  headers_stay = block.headers_stay I L S id vbn lbn b here one two three five n

  pub blocks_stay : HasBlocks J L n lbns
  blocks_stay = block.held_now I L S id vbn lbn b here one two three five

  pub moves_nothing : NothingMoves (disk I L) (disk J L)
  moves_nothing = block.nothing_moves I L S id vbn lbn b here one two three five

  pub sequences_stay : (m : ℕ) → sequence_of (header_at I L m) ≤ sequence_of (header_at J L m)
  sequences_stay = block.sequences_stay I L S id vbn lbn b here one two three five

  -- the blocks are sound where they are a directory up to the mark, or up to a later one
  pub still_sound : (m : ℕ) → opened.mark / 16 ≤ m / 16 → IsDirectory now m → IsSoundBy J L
  still_sound m later directory = block.block_is_sound I L S id vbn lbn b here one two three five (λ d.
      subst (λ bs. IsDirectory bs (mark_at I L n lbns)) now_is (directory_before now (mark_at I L n lbns) m (subst (λ k. k / 16 ≤ m / 16) o.is.mark later) directory))

  module _ (C : Catalogue) (shown : ShowsBy I L C) where
    pub there : file_at C id ≡ file_shown I L id lbns
    there = ap (λ f. unwrap_or f no_file) (o.passes C shown).there

    pub put_shown : ShowsBy J L (put C id (file_of n header now))
    put_shown = subst (λ c. ShowsBy J L (put C id (file_of n header c))) (sym now_is) (block.block_is_shown I L S id vbn lbn b here one two three five o.file.1 C shown)

    -- where the mark stays, the directory has the names before it
    pub names_shown : (m : NameMap) → names_in now opened.mark ≡ m → ShowsBy J L (put_body C id (Directory m))
    names_shown m same =
        let mark : mark_in (attributes_of header) (length now) ≡ opened.mark = ap (mark_in (attributes_of header)) long_now ∙ sym o.is.mark in
        let body = directory_body n header now o.is.kind ∙ ap (λ k. Directory (names_in now k)) mark ∙ ap Directory same in
        let is : file_of n header now ≡ with_body (file_at C id) (Directory m) = other_contents n header (contents_of I lbns) now (Directory m) body ∙ ap (λ f. with_body f (Directory m)) (sym there) in
        subst (λ f. ShowsBy J L (put C id f)) is put_shown
