-- The first header of a file of a sound volume is replaced by one with other attributes: what the blocks are then, and what they show.
use Rattle.std.proofs.Common.{◌≡◌, ◌≢◌, ℕ, ◌≤◌, ap, sym, ◌∙◌, subst, refl, true, List, [], length, Option, Some, None, arith}
use Rattle.std.specs.Prelude.{◌||◌, ◌&&◌, nat_eq, nat_lt, slice_set, is_some}
use Rattle.std.specs.Option.{option_map_or}
use Rattle.ods_base.specs.Block.{word}
use Rattle.ods_base.specs.Image.{block_at}
use Rattle.ods_base.specs.declared.file_id.FileId.{FileId}
use Rattle.ods_header.specs.Attributes.{IsWithAttributes, KeepsOtherFields, with_attributes}
use Rattle.ods_header.specs.Header.{IsValidHeader, attributes_of, header_of, sequence_of, is_directory_header}
use Rattle.ods_header.specs.declared.header.Header.{Header}
use Rattle.ods_header.proofs.AttributesSet.{attributes_are_other}
use Rattle.ods_header.proofs.OtherFront.{IsOtherWithin, ident_ext_kept}
use Rattle.ods_space.specs.Layout.{VolumeLayout, header_at, place_of}
use Rattle.ods_space.specs.Files.{HasBlocks, IsFile}
use Rattle.ods_directory.specs.Names.{IsDirectory}
use Rattle.ods_directory.specs.Mark.{mark_in}
use Rattle.ods_mount.specs.Faults.{contents_of}
use Rattle.ods_mount.specs.Sound.{IsSoundBy}
use Rattle.ods_request.specs.Catalogue.{Catalogue, Body}
use Rattle.ods_request.specs.Steps.{put, with_body}
use Rattle.ods_state.specs.Contents.{file_of, body_of, IsFileIn, ShowsBy}
use Rattle.ods_state.specs.Change.{disk}
use Rattle.ods_state.specs.Links.{SameLinks}
use Rattle.ods_state.specs.Moves.{NothingMoves}
use Rattle.ods_state.proofs.HeaderChange as change
use Rattle.ods_state.proofs.HeaderShown.{header_is_shown}
use Rattle.ods_state.proofs.OneHeader.{header_here}
use Rattle.ods_state.proofs.OtherFront.{links_back, links_to}
use Rattle.ods_look.proofs.FileBodies.{SaysDirectory}

-- the first header of a file has a place
pub has_place : (I : List (List ℕ)) (L : VolumeLayout) (n : ℕ) → IsFile I L n → is_some (place_of L n) ≡ true
has_place I L n file = by (place_of L n) refl
  where
    by : (o : Option ℕ) → place_of L n ≡ o → is_some o ≡ true
    by (Some x) e = refl
    by None e = let level : 0 ≡ 257 = ap (λ p. word (option_map_or (block_at I) p []) 3) (sym e) ∙ file.valid.header.level in absurd (omega (arith, level))

-- file `id` of a sound volume has the first header `old`, at LBN x, and b is that header with these attributes
pub record HasOtherAttributes (I : List (List ℕ)) (L : VolumeLayout) (id : FileId) (x : ℕ) (old new b : List ℕ) : Type 0 where
  pub sound : IsSoundBy I L
  pub place : place_of L id.number ≡ Some x
  pub was : header_at I L id.number ≡ old
  pub valid : IsValidHeader old id.number
  pub sequence : sequence_of old ≡ id.sequence
  pub changed : IsWithAttributes old new b
  pub fields : KeepsOtherFields old new b

module _ {I : List (List ℕ)} {L : VolumeLayout} {id : FileId} {x : ℕ} {old new b : List ℕ} (h : HasOtherAttributes I L id x old new b) where
  abbrev n : ℕ
  n = id.number

  abbrev S : IsSoundBy I L
  S = h.sound

  abbrev J : List (List ℕ)
  J = slice_set I x b

  kept : header_of b ≡ with_attributes (header_of old) new
  kept = (h.fields n h.valid).1

  other : IsOtherWithin old b 14 46
  other = attributes_are_other old new b h.changed

  to : SameLinks (header_at I L n) b n
  to = subst (λ d. SameLinks d b n) (sym h.was) (links_to other n h.valid)

  back : SameLinks b (header_at I L n) n
  back = subst (λ d. SameLinks b d n) (sym h.was) (links_back other n h.valid)

  header_is : header_at J L n ≡ b
  header_is = header_here I L S n x b h.place

  pub attributes_are : attributes_of (header_at J L n) ≡ new
  attributes_are = ap attributes_of header_is ∙ h.changed.attributes

  -- the header has other attributes, and no other byte of it changes but its sum
  pub changed_here : IsWithAttributes (header_at I L n) new (header_at J L n)
  changed_here = subst (λ d. IsWithAttributes d new (header_at J L n)) (sym h.was) (subst (IsWithAttributes old new) (sym header_is) h.changed)

  -- the file is a directory as before
  pub kind_stays : is_directory_header n b ≡ is_directory_header n old
  kind_stays = ap (λ e. (nat_eq n 4) || (nat_lt 5 n && nat_eq e 6778)) (ident_ext_kept other h.valid.header.layout)

  pub blocks_stay : {blocks : List ℕ} → HasBlocks I L n blocks → HasBlocks J L n blocks
  blocks_stay {blocks = blocks} = change.has_blocks I L S n x b h.place to back n blocks

  pub contents_stay : {blocks : List ℕ} → HasBlocks I L n blocks → n ≢ 1 → contents_of J blocks ≡ contents_of I blocks
  contents_stay {blocks = blocks} = change.contents_stay I L S n x b h.place n blocks

  pub moves_nothing : NothingMoves (disk I L) (disk J L)
  moves_nothing = change.nothing_moves I L S n x b h.place to back

  pub sequences_stay : (m : ℕ) → sequence_of (header_at I L m) ≤ sequence_of (header_at J L m)
  sequences_stay = change.sequences_stay I L S n x b h.place to back

  pub still_sound : (SaysDirectory n b → (blocks : List ℕ) → HasBlocks I L n blocks → IsDirectory (contents_of I blocks) (mark_in (attributes_of b) (length blocks))) → IsSoundBy J L
  still_sound = change.header_is_sound I L S n x b h.place to back (h.fields n h.valid).0.format

  -- with the new header a file has another body, and all else stays
  pub file_is : (cs ds : List (List ℕ)) (body : Body) → body_of n b ds ≡ body → file_of n b ds ≡ with_body (file_of n old cs) body
  unfolding file_of
  file_is cs ds body is =
      let owner = ap (λ (g : Header). g.owner) kept in
      let protection = ap (λ (g : Header). g.protection) kept in
      let user_char = ap (λ (g : Header). g.user_char) kept in
      let system_char = ap (λ (g : Header). g.system_char) kept in
      let ident = ap (λ (g : Header). g.ident) kept in
      λ i. record { owner = owner i; protection = protection i; user_char = user_char i; system_char = system_char i; ident = ident i; body = is i }

  -- the catalogue is the one with that body in the file
  pub body_shown : {C : Catalogue} → ShowsBy I L C → {lbns : List ℕ} → HasBlocks I L n lbns → n ≢ 1 → (cs : List (List ℕ)) (body : Body) → body_of n b (contents_of I lbns) ≡ body
      → ShowsBy J L (put C id (with_body (file_of n old cs) body))
  body_shown {C = C} shown {lbns = lbns} held apart cs body is = header_is_shown I L S id x b h.place to back (ap sequence_of h.was ∙ h.sequence) C (with_body (file_of n old cs) body) shown here
    where
      here : IsFileIn J L id (with_body (file_of n old cs) body)
      here = record {
        blocks = lbns;
        held = blocks_stay held;
        sequence = ap sequence_of header_is ∙ ap (λ (g : Header). g.file.sequence) kept ∙ h.sequence;
        shown = (λ i. file_of n (header_is i) (change.contents_stay I L S n x b h.place n lbns held apart i)) ∙ file_is cs (contents_of I lbns) body is;
      }
