-- What an Enter makes of its directory, and what stays of the directory's header.
use Rattle.std.proofs.Common.{◌≡◌, ◌≢◌, ℕ, refl, ap, sym, ◌∙◌, subst, cond, List, length, Option}
use Rattle.std.specs.Prelude.{◌==◌}
use Rattle.std.proofs.lemmas.Bool.{eq-eqb, ne_eqb}
use Rattle.std.specs.FinMap as map
use Rattle.ods_base.specs.Name.{RadName, key_of}
use Rattle.ods_base.specs.Names.{NameMap}
use Rattle.ods_base.specs.declared.file_id.FileId.{FileId}
use Rattle.ods_base.specs.declared.file_id.Uic.{Uic}
use Rattle.ods_header.specs.Attributes.{IsWithAttributes}
use Rattle.ods_header.specs.Header.{IsValidHeader, attributes_of}
use Rattle.ods_space.specs.Layout.{VolumeLayout, header_at}
use Rattle.ods_space.specs.Files.{HasBlocks}
use Rattle.ods_directory.specs.Entry.{entry_bytes}
use Rattle.ods_directory.specs.Mark.{IsSlot, grown, marked, written}
use Rattle.ods_directory.specs.Names.{names_of as names_in}
use Rattle.ods_mount.specs.Faults.{contents_of, mark_at}
use Rattle.ods_request.specs.declared.requests.Request.TheVariants.{Enter}
use Rattle.ods_request.specs.declared.answers.Answer.TheVariants.{Entered}
use Rattle.ods_request.specs.Catalogue.{Catalogue, names_of}
use Rattle.ods_request.specs.Steps.{answer_of, entered_version, file_at}
use Rattle.ods_state.specs.Contents.{ShowsBy}
use Rattle.ods_state.specs.Change.{disk}
use Rattle.ods_state.specs.Made.{IsEnteredAt}
use Rattle.ods_state.specs.Moves.{ChangesAttributes}
use Rattle.ods_look.proofs.OpenDirectories.{names_there}
use Rattle.ods_change.specs.declared.entry.NewEntry.{NewEntry}
use Rattle.ods_change.specs.Entering.{IsEntryFor}

-- a header that stays has other attributes at most
pub header_kept : (b c : List ℕ) (n : ℕ) → IsValidHeader b n → c ≡ b → ChangesAttributes b c
header_kept b c n valid same = subst (ChangesAttributes b) (sym same) (record { size = refl; attributes = refl; checksum = valid.header.checksum; others = λ i far. refl })

-- and so has one with these attributes
pub header_changed : (b new c : List ℕ) → IsWithAttributes b new c → ChangesAttributes b c
header_changed b new c w = record { size = w.size; attributes = refl; checksum = w.checksum; others = w.others }

-- the version that an Enter answers is the one under which the name is entered
version_answered : (C : Catalogue) (dir : FileId) (name : RadName) (given : Option ℕ) (file : FileId) (version : ℕ)
    → answer_of C (Enter dir name given file) ≡ Entered version → entered_version C dir name given ≡ version
unfolding answer_of
version_answered C dir name given file version e = cc

module _ {I : List (List ℕ)} {L : VolumeLayout} {who : Uic} {dir : FileId} {name : RadName} {given : Option ℕ} {file : FileId} {new : NewEntry}
    (e : IsEntryFor I L who dir name given file new) where
  abbrev n : ℕ
  n = dir.number

  abbrev old : List ℕ
  old = e.own.is.lbns

  -- the attributes that a directory with so many blocks has then
  abbrev attributes_then : ℕ → List ℕ
  attributes_then count = cond (new.slot.mark == mark_at I L n old) (attributes_of (header_at I L n)) (marked (attributes_of (header_at I L n)) new.slot.mark count)

  -- the entry stands at its slot where the blocks of the directory, with one of zeros behind them where the slot grows, have its bytes there
  pub entered_at : (J : List (List ℕ)) (blocks : List ℕ) → HasBlocks J L n blocks → contents_of J blocks ≡ written (grown new.opened.blocks new.slot) new.slot.at new.bytes
      → attributes_of (header_at J L n) ≡ attributes_then (length blocks) → IsEnteredAt (disk I L) (disk J L) n (entry_bytes file (key_of name new.version))
  entered_at J blocks held contents attributes = record {
    old = old;
    new = blocks;
    slot = new.slot;
    held = (e.own.is.held, held);
    place = subst (λ m. IsSlot (contents_of I old) m new.slot) e.own.is.mark (subst (λ bs. IsSlot bs new.opened.mark new.slot) e.own.is.contents e.slot);
    bytes = contents ∙ (λ i. written (grown (e.own.is.contents i) new.slot) new.slot.at (e.bytes i));
    mark = attributes;
  }

  -- the names that the directory of a catalogue has then, and the blocks say so
  abbrev pub names_then_in : Catalogue → NameMap
  names_then_in C = map.insert (names_of (file_at C dir).body) (key_of name (entered_version C dir name given)) file

  pub names_entered : (C : Catalogue) → ShowsBy I L C → names_in (written (grown new.opened.blocks new.slot) new.slot.at new.bytes) new.slot.mark ≡ names_then_in C
  names_entered C shown =
      let there = names_there e.own shown in
      let version = version_answered C dir name given file new.version (e.answered C shown).1 in
      e.names ∙ (λ i. map.insert (sym there i) (key_of name (sym version i)) file)

  -- where the mark stays, or moves
  pub mark_stays : (count : ℕ) → new.slot.mark ≡ new.opened.mark → attributes_then count ≡ attributes_of (header_at I L n)
  mark_stays count same =
      ap (λ b. cond b (attributes_of (header_at I L n)) (marked (attributes_of (header_at I L n)) new.slot.mark count))
      (eq-eqb new.slot.mark (mark_at I L n old) (same ∙ e.own.is.mark))

  pub mark_moves : (count : ℕ) → new.slot.mark ≢ new.opened.mark → attributes_then count ≡ marked (attributes_of (header_at I L n)) new.slot.mark count
  mark_moves count other =
      ap (λ b. cond b (attributes_of (header_at I L n)) (marked (attributes_of (header_at I L n)) new.slot.mark count))
      (ne_eqb new.slot.mark (mark_at I L n old) (λ same. other (same ∙ sym e.own.is.mark)))
