-- A SetUser of a sound volume: what the blocks are then, and what they show.
use Rattle.std.proofs.Common.{◌≡◌, ◌≢◌, ℕ, zero, ◌<◌, None, refl, ap, sym, ◌∙◌, subst, List, [], ◌∷◌, Some, arith}
use Rattle.std.specs.Prelude.{slice_set, unwrap_or}
use Rattle.std.specs.List.{Contains}
use Rattle.std.proofs.lemmas.List.{length-set, get_or-set_other}
use Rattle.ods_base.specs.declared.file_id.FileId.{FileId}
use Rattle.ods_base.specs.declared.file_id.Uic.{Uic}
use Rattle.ods_header.specs.Attributes.{IsWithAttributes, KeepsOtherFields}
use Rattle.ods_space.specs.Layout.{VolumeLayout, header_at, place_of}
use Rattle.ods_mount.specs.Faults.{contents_of}
use Rattle.ods_mount.specs.Sound.{IsSoundBy}
use Rattle.ods_request.specs.declared.requests.Request.TheVariants.{SetUser}
use Rattle.ods_request.specs.declared.answers.Answer.TheVariants.{Done}
use Rattle.ods_request.specs.declared.rights.Right.{Right}
use Rattle.ods_request.specs.Catalogue.{Catalogue, Plain, blocks_of}
use Rattle.ods_request.specs.Faults.{fault_of}
use Rattle.ods_request.specs.Steps.{after, answer_of, put, file_at, no_file, with_body}
use Rattle.ods_state.specs.Contents.{file_of, body_of, ShowsBy}
use Rattle.ods_state.specs.Served.{IsStepOf}
use Rattle.ods_state.proofs.Served.{carried_is_step, lacks_nothing}
use Rattle.ods_look.specs.Opening.{IsOpenPlain}
use Rattle.ods_look.proofs.FileBodies.{plain_body, no_directory}
use Rattle.ods_change.proofs.AttributesReplaced.{HasOtherAttributes, kind_stays, still_sound, body_shown, changed_here, sequences_stay, moves_nothing}

module _ {I : List (List ℕ)} {L : VolumeLayout} (S : IsSoundBy I L) {who : Uic} {r : Right} {id : FileId} (o : IsOpenPlain I L id 5 who r) (x : ℕ) (new b : List ℕ)
    (place : place_of L id.number ≡ Some x) (w : IsWithAttributes (header_at I L id.number) new b) (fields : KeepsOtherFields (header_at I L id.number) new b) where
  abbrev n : ℕ
  n = id.number

  abbrev old : List ℕ
  old = header_at I L n

  abbrev contents : List (List ℕ)
  contents = contents_of I o.lbns

  abbrev header_is : HasOtherAttributes I L id x old new b
  header_is = record { sound = S; place = place; was = refl; valid = o.held.file.valid; sequence = o.file.1; changed = w; fields = fields }

  above : 2 < n
  above = let high : 5 < n = o.number in omega arith

  not_index : n ≢ 1
  not_index e = let high : 5 < n = o.number in absurd (omega arith)

  module _ (C : Catalogue) (shown : ShowsBy I L C) where
    there : file_at C id ≡ file_of n old contents
    there = ap (λ f. unwrap_or f no_file) (o.passes C shown).there

    blocks_there : blocks_of (file_at C id).body ≡ contents
    unfolding file_of
    blocks_there = ap (λ f. blocks_of f.body) there ∙ ap blocks_of (plain_body n old contents above o.kind)

    -- by its new header the file is plain too
    body_now : body_of n b contents ≡ Plain new (blocks_of (file_at C id).body)
    body_now = plain_body n b contents above (kind_stays header_is ∙ o.kind) ∙ (λ i. Plain (w.attributes i) (sym blocks_there i))

    set_is_shown : ShowsBy (slice_set I x b) L (after C (SetUser id new))
    unfolding after
    set_is_shown =
        subst (λ f. ShowsBy (slice_set I x b) L (put C id (with_body f (Plain new (blocks_of (file_at C id).body))))) (sym there)
        (body_shown header_is shown o.held not_index contents (Plain new (blocks_of (file_at C id).body)) body_now)

  own : Contains (n ∷ []) n
  own = (zero, omega arith, refl)

  -- the SetUser that is not refused is made by the header with those attributes
  pub set_user_is_step : ((C : Catalogue) → ShowsBy I L C → fault_of C who (SetUser id new) ≡ None) → IsStepOf I L who (SetUser id new) Done (slice_set I x b) L
  unfolding answer_of
  set_user_is_step fine = carried_is_step I L who (SetUser id new) Done (slice_set I x b) refl (lacks_nothing I L (SetUser id new) refl) (record {
    answered = λ C shown. (fine C shown, refl);
    sound = still_sound header_is
        (λ says. absurd (no_directory n b (kind_stays header_is ∙ o.kind) says));
    shown = set_is_shown;
    sequences = sequences_stay header_is;
    moves = (moves_nothing header_is, changed_here header_is);
    elsewhere = (length-set I x b, λ y untouched. get_or-set_other I x y b [] (λ e. untouched (n, own, place ∙ ap Some (sym e))));
  })
