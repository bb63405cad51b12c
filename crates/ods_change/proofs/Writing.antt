-- A Write of a sound volume: what the blocks are then, and what they show.
use Rattle.std.proofs.Common.{◌≡◌, ◌≢◌, ℕ, ◌-◌, ◌<◌, Option, None, refl, ap, sym, ◌∙◌, subst, List, [], arith}
use Rattle.std.specs.Prelude.{slice_set, unwrap_or}
use Rattle.std.proofs.lemmas.List.{length-set, get_or-set_other}
use Rattle.ods_base.specs.declared.file_id.FileId.{FileId}
use Rattle.ods_base.specs.declared.file_id.Uic.{Uic}
use Rattle.ods_header.specs.Header.{attributes_of}
use Rattle.ods_space.specs.Layout.{VolumeLayout, header_at}
use Rattle.ods_space.specs.Files.{Holds}
use Rattle.ods_mount.specs.Faults.{contents_of}
use Rattle.ods_mount.specs.Sound.{IsSoundBy}
use Rattle.ods_request.specs.declared.requests.Request.TheVariants.{Write}
use Rattle.ods_request.specs.declared.answers.Answer.TheVariants.{Done}
use Rattle.ods_request.specs.declared.rights.Right.{Right}
use Rattle.ods_request.specs.Catalogue.{Catalogue, Plain}
use Rattle.ods_request.specs.Faults.{fault_of}
use Rattle.ods_request.specs.Steps.{after, answer_of, put, file_at, no_file, with_body, written}
use Rattle.ods_state.specs.Contents.{file_of, body_of, ShowsBy}
use Rattle.ods_state.specs.declared.known_end.KnownEnd.{KnownEnd}
use Rattle.ods_state.specs.Ends.{IsKnownIn}
use Rattle.ods_state.specs.Served.{IsStepOf}
use Rattle.ods_state.proofs.BlockShown as block
use Rattle.ods_state.proofs.EndsKept.{block_keeps_ends}
use Rattle.ods_state.proofs.Served.{carried_is_step, lacks_nothing}
use Rattle.ods_look.specs.Opening.{IsOpenPlain}
use Rattle.ods_look.proofs.FileBodies.{plain_body, no_directory, other_contents}

module _ {I : List (List ℕ)} {L : VolumeLayout} (S : IsSoundBy I L) {who : Uic} {r : Right} {id : FileId} (o : IsOpenPlain I L id 5 who r) {vbn x : ℕ} (h : Holds I L id.number vbn x)
    (b : List ℕ) where
  abbrev n : ℕ
  n = id.number

  other : (k : ℕ) → k < 6 → n ≢ k
  other k low e = let high : 5 < n = o.number in absurd (omega arith)

  abbrev header : List ℕ
  header = header_at I L n

  abbrev old : List (List ℕ)
  old = contents_of I h.blocks

  abbrev new : List (List ℕ)
  new = slice_set old (vbn - 1) b

  plain : (blocks : List (List ℕ)) → body_of n header blocks ≡ Plain (attributes_of header) blocks
  plain blocks = let high : 5 < n = o.number in plain_body n header blocks (omega arith) o.kind

  module _ (C : Catalogue) (shown : ShowsBy I L C) where
    there : file_at C id ≡ file_of n header old
    there = ap (λ f. unwrap_or f no_file) (shown.all id (file_of n header old)
        (block.file_was I L S id vbn x b h (other 1 (omega arith)) (other 2 (omega arith)) (other 3 (omega arith)) (other 5 (omega arith)) o.file.1))

    body_there : (file_at C id).body ≡ Plain (attributes_of header) old
    unfolding file_of
    body_there = ap (λ f. f.body) there ∙ plain old

    -- the catalogue after the step is the one with the file written
    after_is : after C (Write id vbn b) ≡ put C id (file_of n header new)
    unfolding after
    after_is =
        let body : body_of n header new ≡ written (file_at C id).body vbn b = plain new ∙ ap (λ d. written d vbn b) (sym body_there) in
        ap (λ f. put C id (with_body f (written (file_at C id).body vbn b))) there ∙ ap (put C id) (sym (other_contents n header old new (written (file_at C id).body vbn b) body))

  -- the Write that is not refused is made by setting the block
  pub write_is_step : ((C : Catalogue) → ShowsBy I L C → fault_of C who (Write id vbn b) ≡ None) → IsStepOf I L who (Write id vbn b) Done (slice_set I x b) L
  unfolding answer_of
  write_is_step fine =
      let one = other 1 (omega arith) in
      let two = other 2 (omega arith) in
      let three = other 3 (omega arith) in
      let five = other 5 (omega arith) in
      carried_is_step I L who (Write id vbn b) Done (slice_set I x b) refl (lacks_nothing I L (Write id vbn b) refl) (record {
        answered = λ C shown. (fine C shown, refl);
        sound = block.block_is_sound I L S id vbn x b h one two three five (λ d. absurd (no_directory n header o.kind d.1));
        shown = λ C shown. subst (λ D. ShowsBy (slice_set I x b) L D) (sym (after_is C shown)) (block.block_is_shown I L S id vbn x b h one two three five o.file.1 C shown);
        sequences = block.sequences_stay I L S id vbn x b h one two three five;
        moves = block.nothing_moves I L S id vbn x b h one two three five;
        elsewhere = (length-set I x b, λ y untouched. get_or-set_other I x y b [] (λ e. untouched (subst (λ z. Holds I L n vbn z) (sym e) h)));
      })

  -- and what is noted of where a file's chain ends stays true
  pub write_keeps_ends : (end : Option KnownEnd) → IsKnownIn I L end → IsKnownIn (slice_set I x b) L end
  write_keeps_ends = block_keeps_ends I L S n vbn x b h (other 1 (omega arith)) (other 2 (omega arith)) (other 3 (omega arith)) (other 5 (omega arith))
