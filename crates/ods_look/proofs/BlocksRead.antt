-- Whether a plain file that is open has a block, and which one it is.
use Rattle.ods_header.specs.Header.{is_directory_header}
use Rattle.std.proofs.Common.{◌≡◌, ◌≢◌, ℕ, get_or, ◌-◌, ◌<◌, ◌≤◌, refl, ap, ◌∙◌, Bool, true, false, List, [], length, Some, None, arith}
use Rattle.std.specs.Prelude.{◌||◌, ◌==◌, nat_lt, slice_get, slice_index_or, unwrap_or}
use Rattle.std.specs.Option.{option_map}
use Rattle.std.specs.FinMap as map
use Rattle.std.proofs.lemmas.Option.{slice_get-map, get_or_from_slice_get, slice_get_within, slice_get-get_or}
use borrow.Author.Tests.{le-ltb, ne_eqb, eqb-false, ltb-false}
use Rattle.std.proofs.lemmas.List.{length-map}
use Rattle.ods_base.specs.Image.{block_at}
use Rattle.ods_base.specs.declared.file_id.FileId.{FileId}
use Rattle.ods_space.specs.Layout.{VolumeLayout, header_at}
use Rattle.ods_space.specs.Files.{HasBlocks, Holds}
use Rattle.ods_mount.specs.Faults.{contents_of}
use Rattle.ods_request.specs.declared.refusals.Refusal.TheVariants as refusal
use Rattle.ods_request.specs.declared.requests.Request.TheVariants.{Read}
use Rattle.ods_request.specs.declared.answers.Answer.TheVariants.{Bytes}
use Rattle.ods_request.specs.Catalogue.{Catalogue, blocks_of}
use Rattle.ods_request.specs.Faults.{on_file}
use Rattle.ods_request.specs.Steps.{answer_of, file_at, no_file}
use Rattle.ods_state.specs.Contents.{file_of}
use Rattle.ods_look.specs.Opening.{Rows, PassesChecks, block_check, file_shown}
use Rattle.ods_look.proofs.BlockPlaces.{blocks_are_one}
use Rattle.ods_look.proofs.FileBodies.{plain_body}
use Rattle.ods_look.proofs.Rows.{holds, passes}

module _ {I : List (List ℕ)} {L : VolumeLayout} {id : FileId} {checks : Rows → Rows} {blocks : List ℕ} (held : HasBlocks I L id.number blocks) {C : Catalogue}
    (p : PassesChecks I L id blocks checks C) (vbn : ℕ) (high : 2 < id.number) (plain : is_directory_header id.number (header_at I L id.number) ≡ false) where
  blocks_shown : blocks_of (file_shown I L id blocks).body ≡ contents_of I blocks
  unfolding file_of
  blocks_shown = ap blocks_of (plain_body id.number (header_at I L id.number) (contents_of I blocks) high plain)

  count_is : length (blocks_of (file_shown I L id blocks).body) ≡ length blocks
  count_is = ap length blocks_shown ∙ length-map blocks (block_at I)

  lacks_by : (z l : Bool) → (vbn == 0) ≡ z → nat_lt (length blocks) vbn ≡ l → ((lbn : ℕ) → ¬ Holds I L id.number vbn lbn) → (z || l) ≡ true
  lacks_by true l ez el none = refl
  lacks_by false true ez el none = refl
  lacks_by false false ez el none =
      let some : vbn ≢ 0 = eqb-false vbn 0 ez in
      let last : vbn ≤ length blocks = ltb-false (length blocks) vbn el in
      let within : vbn - 1 < length blocks = omega arith in
      absurd (none (get_or blocks (vbn - 1) 0) (record { blocks = blocks; file = held; first = omega arith; named = slice_get-get_or blocks (vbn - 1) 0 within }))

  pub has_no_block : ((lbn : ℕ) → ¬ Holds I L id.number vbn lbn) → on_file (map.get C.files id) (checks (block_check vbn)) ≡ Some refusal.NoSuchBlock
  has_no_block none = p.left (block_check vbn) ∙ holds _ (ap (λ c. (vbn == 0) || nat_lt c vbn) count_is ∙ lacks_by (vbn == 0) (nat_lt (length blocks) vbn) refl refl none)

  module _ (lbn : ℕ) (h : Holds I L id.number vbn lbn) where
    named : slice_get blocks (vbn - 1) ≡ Some lbn
    named = ap (λ bs. slice_get bs (vbn - 1)) (blocks_are_one held h.file) ∙ h.named

    pub has_block : on_file (map.get C.files id) (checks (block_check vbn)) ≡ None
    has_block =
        let within : vbn - 1 < length blocks = slice_get_within blocks (vbn - 1) lbn named in
        let low : 1 ≤ vbn = h.first in
        let zero_no : (vbn == 0) ≡ false = ne_eqb vbn 0 (λ e. absurd (omega arith)) in
        let past_no : nat_lt (length blocks) vbn ≡ false = le-ltb (length blocks) vbn (omega arith) in
        p.left (block_check vbn) ∙ passes _ (ap (λ c. (vbn == 0) || nat_lt c vbn) count_is ∙ (λ i. zero_no i || past_no i)) refl

    pub read_block_is : answer_of C (Read id vbn) ≡ Bytes (block_at I lbn)
    unfolding answer_of
    read_block_is =
        let bs : blocks_of (file_at C id).body ≡ contents_of I blocks = ap (λ o. blocks_of (unwrap_or o no_file).body) p.there ∙ blocks_shown in
        let here : slice_get (contents_of I blocks) (vbn - 1) ≡ Some (block_at I lbn) = slice_get-map (block_at I) blocks (vbn - 1) ∙ ap (option_map (block_at I)) named in
        ap Bytes (ap (λ l. slice_index_or l (vbn - 1) []) bs ∙ get_or_from_slice_get (contents_of I blocks) (vbn - 1) (block_at I lbn) [] here)
