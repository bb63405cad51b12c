-- A file of a sound volume gets another owner or another protection: what the blocks are then, and what they show.
use Rattle.std.proofs.Common.{◌≡◌, ◌≢◌, ℕ, true, refl, ap, sym, ◌∙◌, subst, List, [], ◌∷◌, length, Option, Some, arith, inl, inr}
use Rattle.std.specs.Prelude.{◌⊎◌, MatchOption, nat_le, slice_set, unwrap_or}
use Rattle.std.proofs.lemmas.Bool.{cases_eq}
use Rattle.std.proofs.lemmas.List.{length-set, get_or-set_other}
use Rattle.ods_base.specs.declared.file_id.FileId.{FileId}
use Rattle.ods_base.specs.declared.file_id.Uic.{Uic}
use Rattle.ods_header.specs.Header.{attributes_of, is_directory_header, sequence_of}
use Rattle.ods_space.specs.Draft.{Changes, applied}
use Rattle.ods_space.specs.Layout.{Disk, VolumeLayout, header_at, place_of, with_places}
use Rattle.ods_space.specs.Files.{HasBlocks}
use Rattle.ods_directory.specs.Mark.{mark_in}
use Rattle.ods_directory.specs.Names.{IsDirectory}
use Rattle.ods_mount.specs.Faults.{contents_of}
use Rattle.ods_mount.specs.Sound.{IsSoundBy}
use Rattle.ods_request.specs.declared.refusals.Refusal.{Refusal}
use Rattle.ods_request.specs.declared.refusals.Refusal.TheVariants as refusal
use Rattle.ods_request.specs.Catalogue.{Catalogue}
use Rattle.ods_request.specs.Steps.{file_at, no_file}
use Rattle.ods_state.specs.Contents.{file_of, IsFileIn, ShowsBy}
use Rattle.ods_state.specs.Links.{SameLinks}
use Rattle.ods_state.specs.Version.{PastIsSpent}
use Rattle.ods_space.proofs.Drafts.{applied_set}
use Rattle.ods_state.proofs.GrownMoves.{no_places}
use Rattle.ods_state.proofs.HeaderChange as change
use Rattle.ods_state.proofs.HeaderShown.{header_is_shown}
use Rattle.ods_state.proofs.OneHeader.{header_here}
use Rattle.ods_state.proofs.OtherFront.{links_turned}
use Rattle.ods_state.proofs.Shown.{same_file}
use Rattle.ods_look.specs.Opening.{IsFileId}
use Rattle.ods_look.proofs.FilesFound.{found_there}
use Rattle.ods_amend.specs.Access.{GivesAll, IsAccessFault, IsGiven, IsNotGiven, IsSet, IsWithAccess, MayBeGiven, put_access, with_access}
use Rattle.ods_amend.proofs.OtherAccess.{attributes_kept, file_given, kind_kept, links_alike, stays_valid}

module _ {I : List (List ℕ)} {L : VolumeLayout} (S : IsSoundBy I L) {id : FileId} (file : IsFileId I L id) {owner : Option Uic} {protection flags : Option ℕ}
    (x : ℕ) (b : List ℕ) (place : place_of L id.number ≡ Some x) (w : IsWithAccess (header_at I L id.number) owner protection flags b) where
  abbrev n : ℕ
  n = id.number

  abbrev old : List ℕ
  old = header_at I L n

  abbrev J : List (List ℕ)
  J = slice_set I x b

  to : SameLinks old b n
  to = links_alike w n file.0.valid

  back : SameLinks b old n
  back = links_turned file.0.valid to

  header_is : header_at J L n ≡ b
  header_is = header_here I L S n x b place

  whole : (blocks : List ℕ) × HasBlocks I L n blocks
  whole = S.chains n file.0

  -- what the file shows of its blocks stays: INDEXF.SYS shows nothing of them
  same_contents : (c : List ℕ) → (n ≡ 1) ⊎ (n ≢ 1) → file_of n c (contents_of J whole.0) ≡ file_of n c (contents_of I whole.0)
  same_contents c (inl e) = same_file n c (contents_of J whole.0) (contents_of I whole.0) (inl (ap (λ k. nat_le k 2) e))
  same_contents c (inr other) = same_file n c (contents_of J whole.0) (contents_of I whole.0) (inr (change.contents_stay I L S n x b place n whole.0 whole.1 other))

  -- a directory has the names that it had
  still_directory : is_directory_header n b ≡ true → (blocks : List ℕ) → HasBlocks I L n blocks → IsDirectory (contents_of I blocks) (mark_in (attributes_of b) (length blocks))
  still_directory says blocks held =
      subst (λ a. IsDirectory (contents_of I blocks) (mark_in a (length blocks))) (sym (attributes_kept w n file.0.valid))
      (S.directories n blocks (file.0, sym (kind_kept w n file.0.valid) ∙ says) held)

  module _ (C : Catalogue) (shown : ShowsBy I L C) where
    there : file_at C id ≡ file_of n old (contents_of I whole.0)
    there = ap (λ f. unwrap_or f no_file) (found_there shown id file whole)

    here : IsFileIn J L id (with_access (file_at C id) owner protection flags)
    here = record {
      blocks = whole.0;
      held = change.has_blocks I L S n x b place to back n whole.0 whole.1;
      sequence = ap sequence_of header_is ∙ to.sequence ∙ file.1;
      shown = ap (λ c. file_of n c (contents_of J whole.0)) header_is ∙ same_contents b (cases_eq n 1)
          ∙ file_given w n file.0.valid (contents_of I whole.0) ∙ ap (λ f. with_access f owner protection flags) (sym there);
    }

    given_shown : ShowsBy J L (put_access C id owner protection flags)
    given_shown = header_is_shown I L S id x b place to back file.1 C (with_access (file_at C id) owner protection flags) shown here

  still_spent : (C : Catalogue) → PastIsSpent I L C → PastIsSpent J L C
  still_spent C spent q known = let s = spent q known in let t = change.sequences_stay I L S n x b place to back q.number in omega arith

  pub is_set : IsSet I L id owner protection flags J
  is_set = record {
    there = λ C shown. let found = found_there shown id file whole in found ∙ ap Some (sym (ap (λ f. unwrap_or f no_file) found));
    sound = change.header_is_sound I L S n x b place to back (stays_valid w n file.0.valid).format still_directory;
    shown = given_shown;
    past = still_spent;
    moves = change.nothing_moves I L S n x b place to back;
    long = length-set I x b;
    header = subst (IsWithAccess old owner protection flags) (sym header_is) w;
    elsewhere = λ y other. get_or-set_other I x y b [] (λ e. other (place ∙ ap Some (sym e)));
  }

-- the draft of that one block makes it
pub draft_sets : {I : List (List ℕ)} {L : VolumeLayout} {id : FileId} {owner : Option Uic} {protection flags : Option ℕ} {d : Changes} → IsSoundBy I L → IsFileId I L id
    → (x : ℕ) (b : List ℕ) → place_of L id.number ≡ Some x → IsWithAccess (header_at I L id.number) owner protection flags b → d ≡ (x, b) ∷ [] → IsSet I L id owner protection flags (applied I d)
draft_sets {I = I} {L = L} {id = id} {owner = owner} {protection = protection} {flags = flags} S file x b place w is =
    subst (IsSet I L id owner protection flags) (applied_set I x b ∙ ap (applied I) (sym is)) (is_set S file x b place w)

-- and the volume that comes of it, whose blocks and layout were lent
pub volume_gives : {I : List (List ℕ)} {L : VolumeLayout} {D E : Disk} {who : Uic} {id : FileId} {owner : Option Uic} {protection flags : Option ℕ} (d : Changes)
    → record { image = I; layout = L } ≡ D → IsGiven I L who id owner protection flags (applied I d)
    → E ≡ record { image = applied D.image d; layout = with_places D.layout [] } → GivesAll D who id owner protection flags E
volume_gives {D = D} {who = who} {id = id} {owner = owner} {protection = protection} {flags = flags} d lent g is =
    let here : IsGiven D.image D.layout who id owner protection flags (applied D.image d) = subst (λ (F : Disk). IsGiven F.image F.layout who id owner protection flags (applied F.image d)) lent g in
    (subst (IsGiven D.image D.layout who id owner protection flags) (sym (ap (λ (F : Disk). F.image) is)) here, ap (λ (F : Disk). F.layout) is ∙ no_places D.layout [] refl)

-- the volume that comes of it is sound
pub lent_sound : {I : List (List ℕ)} {L : VolumeLayout} {D : Disk} (d : Changes) → record { image = I; layout = L } ≡ D → IsSoundBy (applied I d) L → IsSoundBy (applied D.image d) (with_places D.layout [])
lent_sound {D = D} d lent sound =
    subst (IsSoundBy (applied D.image d)) (sym (no_places D.layout [] refl)) (subst (λ (F : Disk). IsSoundBy (applied F.image d) F.layout) lent sound)

-- why it was refused
pub lent_refuses : {I : List (List ℕ)} {L : VolumeLayout} {D : Disk} (who : Uic) (id : FileId) (f : Refusal) → record { image = I; layout = L } ≡ D → IsNotGiven I L who id f → IsNotGiven D.image D.layout who id f
lent_refuses who id f lent why = subst (λ (F : Disk). IsNotGiven F.image F.layout who id f) lent why

-- where there is no fault, want of memory is why it is refused
pub memory_refuses : {I : List (List ℕ)} {L : VolumeLayout} {who : Uic} {id : FileId} → MayBeGiven I L who id → IsNotGiven I L who id refusal.NoMemory
memory_refuses m = λ C shown. subst (λ o. MatchOption o (refusal.NoMemory ≡ refusal.NoMemory) (λ g. refusal.NoMemory ≡ g)) (sym (m.allowed C shown)) refl

-- the first fault is why it is refused
pub fault_refuses : (I : List (List ℕ)) (L : VolumeLayout) (who : Uic) (id : FileId) (f : Refusal) → IsAccessFault I L who id f → IsNotGiven I L who id f
fault_refuses I L who id f fault = λ C shown. subst (λ o. MatchOption o (f ≡ refusal.NoMemory) (λ g. f ≡ g)) (sym (fault C shown)) refl
