-- A Delete of a sound volume: its checks, what the blocks are then, and what they show.
use Rattle.std.proofs.Common.{◌≡◌, ℕ, ◌<◌, refl, ap, sym, ◌∙◌, subst, Bool, List, [], ◌∷◌, None, arith, inl, inr}
use Rattle.std.specs.Prelude.{◌==◌, not}
use Rattle.std.specs.FinMap.{len}
use Rattle.ods_base.specs.declared.file_id.FileId.{FileId}
use Rattle.ods_base.specs.declared.file_id.Uic.{Uic}
use Rattle.ods_header.specs.Header.{sequence_of}
use Rattle.ods_space.specs.Layout.{VolumeLayout, header_at}
use Rattle.ods_space.specs.Files.{HasBlocks, IsWhole}
use Rattle.ods_alloc.specs.Extend.{ChangesOnly, GivesBack, GivesBits, IsBookkeeping, IsWellPlaced}
use Rattle.ods_alloc.specs.Marks.{Deletes}
use Rattle.ods_alloc.proofs.Giving.{gives_back}
use Rattle.ods_mount.specs.Faults.{contents_of}
use Rattle.ods_mount.specs.Sound.{IsSoundBy}
use Rattle.ods_request.specs.declared.answers.Answer.TheVariants.{Done}
use Rattle.ods_request.specs.declared.refusals.Refusal.TheVariants as refusal
use Rattle.ods_request.specs.declared.requests.Request.TheVariants.{Delete}
use Rattle.ods_request.specs.declared.rights.Right.TheVariants as right
use Rattle.ods_request.specs.Catalogue.{Catalogue, names_of}
use Rattle.ods_request.specs.Faults.{fault_of, is_denied, is_reserved}
use Rattle.ods_request.specs.Steps.{after, answer_of}
use Rattle.ods_state.specs.Change.{disk}
use Rattle.ods_state.specs.Contents.{file_of, body_of, ShowsBy}
use Rattle.ods_state.specs.Moves.{Touches}
use Rattle.ods_state.specs.Served.{IsStepOf}
use Rattle.ods_state.proofs.GivenBack.{still_sound, sequence_kept, gone, others_alike, are_given_back}
use Rattle.ods_state.proofs.Served.{carried_is_step}
use Rattle.ods_state.proofs.ShownWithout.{shows_removed}
use Rattle.ods_look.specs.Opening.{Rows, IsFileId, file_shown}

-- what a Delete checks of the file
abbrev pub delete_checks : FileId → Uic → Rows
delete_checks id who f =
    (is_reserved id, refusal.Reserved) ∷ (is_denied f who right.Delete, refusal.Denied) ∷ (not (len (names_of f.body) == 0), refusal.NotEmpty) ∷ []

-- whether the file has a name, seen by its first header b
pub names_seen : {I : List (List ℕ)} {L : VolumeLayout} (id : FileId) {b : List ℕ} (header : b ≡ header_at I L id.number) (whole : (blocks : List ℕ) × HasBlocks I L id.number blocks) (d k : Bool)
    → d ≡ not (len (names_of (body_of id.number b (contents_of I whole.0))) == 0) → d ≡ k → not (len (names_of (file_shown I L id whole.0).body) == 0) ≡ k
unfolding file_of
names_seen {I = I} id header whole d k is e =
    ap (λ c. not (len (names_of (body_of id.number c (contents_of I whole.0))) == 0)) (sym header) ∙ sym is ∙ e

-- what is given back where the headers that were noted are deleted, and then the bits are marked of what was noted
pub given_along : (I J M : List (List ℕ)) (L : VolumeLayout) (noted blocks numbers bs ns : List ℕ) → IsWellPlaced L → Deletes I L noted J → blocks ≡ bs → numbers ≡ noted → noted ≡ ns
    → GivesBits J L blocks numbers M → ChangesOnly J L [] M → GivesBack I L bs ns M
given_along I J M L noted blocks numbers bs ns places headers same are noted_all bits only =
    subst (λ l. GivesBack I L l ns M) same (subst (λ l. GivesBack I L blocks l M) (are ∙ noted_all)
    (gives_back I J M L blocks numbers places (subst (λ l. Deletes I L l J) (sym are) headers) bits only))

module _ {I : List (List ℕ)} {L : VolumeLayout} (S : IsSoundBy I L) {id : FileId} (is : IsFileId I L id) (high : 5 < id.number)
    (J : List (List ℕ)) (given : (others blocks : List ℕ) → IsWhole I L id.number others blocks → GivesBack I L blocks (id.number ∷ others) J) where
  abbrev n : ℕ
  n = id.number

  abbrev blocks : List ℕ
  blocks = (S.chains n is.0).0

  abbrev others : List ℕ
  others = (S.chains n is.0).1.others

  whole : IsWhole I L n others blocks
  whole = (S.chains n is.0).1.whole

  back : GivesBack I L blocks (n ∷ others) J
  back = given others blocks whole

  kept : (m : ℕ) → sequence_of (header_at J L m) ≡ sequence_of (header_at I L m)
  kept = sequence_kept I J L S n high others blocks is.0 whole back

  -- a request may touch what is given back
  touched : (x : ℕ) → IsBookkeeping L (n ∷ others) x → Touches (disk I L) (Delete id) (disk J L) x
  touched x (inl p) = inl p
  touched x (inr (inl p)) = inr (inl p)
  touched x (inr (inr p)) = inr (inr (n ∷ others, blocks, (others, refl, whole), p))

  -- the Delete that is not refused is made by giving back the file's blocks and headers
  pub delete_is_step : (who : Uic) → ((C : Catalogue) → ShowsBy I L C → fault_of C who (Delete id) ≡ None) → IsStepOf I L who (Delete id) Done J L
  unfolding answer_of after
  delete_is_step who fine = carried_is_step I L who (Delete id) Done J refl (λ f lacks. lacks.wants) (record {
    answered = λ C shown. (fine C shown, refl);
    sound = still_sound I J L S n high others blocks is.0 whole back;
    shown = shows_removed I J L id is.1 (kept n ∙ is.1) (gone I J L S n high others blocks is.0 whole back) (others_alike I J L S n high others blocks is.0 whole back);
    sequences = λ m. omega (arith, kept m);
    moves = are_given_back I J L S n high others blocks is.0 whole back;
    elsewhere = (back.only.size, λ x untouched. back.only.others x (λ p. untouched (touched x p)));
  })
