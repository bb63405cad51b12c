-- A Remove of a sound volume: what the blocks are then, and what they show.
use Rattle.std.proofs.Common.{◌≡◌, refl, ℕ, ◌+◌, ◌/◌, ◌%◌, ◌*◌, ◌<◌, ◌∙◌, ap, sym, subst, List, [], length, replicate, arith}
use Rattle.std.specs.Prelude.{slice_set, IsTrue}
use Rattle.std.specs.FinMap as map
use Rattle.std.proofs.lemmas.List.{length-set, get_or-set_other}
use Rattle.ods_base.specs.Block.{with_bytes}
use Rattle.ods_base.specs.Image.{block_at}
use Rattle.ods_base.specs.Name.{RadName, key_of}
use Rattle.ods_base.specs.Names.{Finds}
use Rattle.ods_base.specs.declared.file_id.FileId.{FileId}
use Rattle.ods_base.specs.declared.file_id.Uic.{Uic}
use Rattle.ods_base.specs.declared.name.Pick.{Pick}
use Rattle.ods_space.specs.Layout.{VolumeLayout}
use Rattle.ods_space.specs.Files.{Holds}
use Rattle.ods_directory.specs.Entry.{Entry, entry_at, is_used}
use Rattle.ods_directory.specs.Mark.{written}
use Rattle.ods_directory.specs.Names.{IsDirectory, names_of as names_in}
use Rattle.ods_mount.specs.Sound.{IsSoundBy}
use Rattle.ods_request.specs.declared.requests.Request.TheVariants.{Remove}
use Rattle.ods_request.specs.declared.answers.Answer.TheVariants.{Removed}
use Rattle.ods_request.specs.declared.rights.Right.TheVariants as right
use Rattle.ods_request.specs.Catalogue.{Catalogue, names_of}
use Rattle.ods_request.specs.Steps.{after, file_at, found_version}
use Rattle.ods_request.proofs.FaultTable.{fault_remove}
use Rattle.ods_state.specs.Contents.{ShowsBy}
use Rattle.ods_state.specs.Change.{IsAnsweredBy, disk}
use Rattle.ods_state.specs.Made.{IsErased}
use Rattle.ods_state.specs.Served.{IsStepOf}
use Rattle.ods_state.proofs.Served.{carried_is_step, lacks_nothing}
use Rattle.ods_look.specs.declared.opening.OpenDirectory.{OpenDirectory}
use Rattle.ods_look.specs.Opening.{IsOpenDirectory}
use Rattle.ods_look.proofs.OpenDirectories.{names_there, no_fault, removed_is, version_is}
use Rattle.ods_change.proofs.EntryReplaced.{IsEntry}
use Rattle.ods_change.proofs.EntryReplaced as entry

module _ {I : List (List ℕ)} {L : VolumeLayout} (S : IsSoundBy I L) {dir : FileId} {who : Uic} {opened : OpenDirectory} (o : IsOpenDirectory I L dir who right.Write opened)
    (name : RadName) (three : length name.words ≡ 3) (pick : Pick) (file : FileId) (version : ℕ) (found : Finds (names_in opened.blocks opened.mark) name pick file version) where
  pub remove_answered : IsAnsweredBy I L who (Remove dir name pick) (Removed file version)
  remove_answered C shown = (
    fault_remove C who dir name pick ∙ no_fault o shown name three pick file version found,
    removed_is o shown name three pick file version found,
  )

  module _ (at place : ℕ) {lbn : ℕ} (h : Holds I L dir.number (at / 512 + 1) lbn) (below : place < opened.mark / 16) (at_is : at ≡ 16 * place)
      (there : entry_at opened.blocks place ≡ record { file = file; volume = 0; key = key_of name version }) (used : IsTrue (is_used (entry_at opened.blocks place)))
      (names : names_in (written opened.blocks at (replicate 16 0)) opened.mark ≡ map.remove (names_in opened.blocks opened.mark) (key_of name version))
      (stays : IsDirectory (written opened.blocks at (replicate 16 0)) opened.mark) where
    abbrev entry_is : IsEntry I L dir opened at lbn
    entry_is = record { sound = S; who = who; right = right.Write; own = o; held = h }

    abbrev b : List ℕ
    b = with_bytes (block_at I lbn) (at % 512) (replicate 16 0)

    remove_is_shown : (C : Catalogue) → ShowsBy I L C → ShowsBy (slice_set I lbn b) L (after C (Remove dir name pick))
    unfolding after
    remove_is_shown C shown =
        let there = names_there o shown in
        let is : found_version C dir name pick ≡ version = version_is o shown name three pick file version found in
        entry.names_shown entry_is (replicate 16 0) C shown (map.remove (names_of (file_at C dir).body) (key_of name (found_version C dir name pick)))
        (names ∙ (λ i. map.remove (sym there i) (key_of name (sym is i))))

    -- the entry that becomes zeros was that of the name
    erased : IsErased (disk I L) (disk (slice_set I lbn b) L) dir.number (key_of name version)
    erased = record {
      blocks = o.is.lbns;
      held = o.is.held;
      at = place;
      below = subst (λ m. place < m / 16) o.is.mark below;
      found = (
        subst (λ bs. IsTrue (is_used (entry_at bs place))) o.is.contents used,
        ap (λ bs. (entry_at bs place).key) (sym o.is.contents) ∙ ap (λ (e : Entry). e.key) there,
      );
      erased = entry.contents_then entry_is (replicate 16 0) ∙ (λ i. written (o.is.contents i) (at_is i) (replicate 16 0));
    }

    -- the Remove is made by zeros over the entry
    pub remove_is_step : IsStepOf I L who (Remove dir name pick) (Removed file version) (slice_set I lbn b) L
    remove_is_step =
        carried_is_step I L who (Remove dir name pick) (Removed file version) (slice_set I lbn b) refl (lacks_nothing I L (Remove dir name pick) refl) (record {
          answered = remove_answered;
          sound = entry.still_sound entry_is (replicate 16 0) opened.mark (omega arith) stays;
          shown = remove_is_shown;
          sequences = entry.sequences_stay entry_is (replicate 16 0);
          moves = (entry.moves_nothing entry_is (replicate 16 0), entry.headers_stay entry_is (replicate 16 0), erased);
          elsewhere = (
            length-set I lbn b,
            λ y untouched. get_or-set_other I lbn y b [] (λ g. untouched (at / 512 + 1, subst (λ z. Holds I L dir.number (at / 512 + 1) z) (sym g) h)),
          );
        })
