-- A directory that an Enter grows, on the volume with which the request goes on: what was known of it is known still.
use Rattle.std.proofs.Common.{◌≡◌, ℕ, ◌≤◌, ap, sym, ◌∙◌, subst, true, List, [], ◌∷◌, drop, length, None, Some, Option, arith}
use Rattle.ods_base.specs.Image.{IsImage}
use Rattle.ods_base.specs.Name.{RadName}
use Rattle.ods_base.specs.declared.file_id.FileId.{FileId}
use Rattle.ods_base.specs.declared.file_id.Uic.{Uic}
use Rattle.ods_header.specs.Header.{attributes_of, is_directory_header, sequence_of}
use Rattle.ods_header.proofs.DirectoryHeaders.{above_maps}
use Rattle.ods_space.specs.Layout.{VolumeLayout, header_at}
use Rattle.ods_space.specs.Chain.{index_for}
use Rattle.ods_space.specs.Files.{IsWhole}
use Rattle.ods_space.proofs.Chains.{same_chain}
use Rattle.ods_directory.specs.Mark.{mark_in}
use Rattle.ods_mount.specs.Sound.{IsSoundBy}
use Rattle.ods_request.specs.Faults.{first_of, on_file}
use Rattle.ods_request.specs.declared.requests.Request.TheVariants.{Enter}
use Rattle.ods_request.specs.declared.rights.Right.TheVariants as right
use Rattle.ods_state.specs.Contents.{file_of}
use Rattle.ods_state.specs.Wants.{HasHeaders, index_blocks, index_growth, lack_of, allocated_blocks, allocated_numbers}
use Rattle.ods_state.proofs.Chains.{first_in}
use Rattle.ods_look.specs.Opening.{IsDirectoryAt, IsOpenDirectory, Rows, file_shown}
use Rattle.ods_change.specs.declared.entry.NewEntry.{NewEntry}
use Rattle.ods_change.specs.Entering.{IsEntryFor, IsAllocatedFor}
use Rattle.ods_change.proofs.Begun.{IsAsked, IsKept}
use Rattle.ods_change.proofs.GrowingChain.{has_headers}
use Rattle.ods_change.proofs.GrowingDirectory.{wants}

-- what the directory takes it takes still, whatever its headers are said to be
pub taken_then : {I : List (List ℕ)} {L : VolumeLayout} {headers old : List ℕ} {K : List (List ℕ)} {M : VolumeLayout} (k : IsKept I L headers old 1 K M) {n : ℕ} {blocks numbers : List ℕ}
    → HasHeaders K M n headers old → blocks ≡ allocated_blocks I L 1 → numbers ≡ allocated_numbers I L headers 1 → IsAllocatedFor K M n blocks numbers
taken_then {I = I} {L = L} {headers = headers} {old = old} {K = K} {M = M} k {n = n} {blocks = blocks} {numbers = numbers} has b ns hs bs other =
    subst (λ l. (blocks ≡ allocated_blocks K M 1) × (numbers ≡ allocated_numbers K M l 1) × (lack_of K M l 1 ≡ None) × (index_growth M (allocated_numbers K M l 1) ≡ 0)) same
    (b ∙ sym k.wants.blocks, ns ∙ sym k.wants.numbers, k.wants.enough, k.wants.no_growth)
  where
    same : headers ≡ hs
    same = has.1 ∙ ap (λ l. n ∷ l) (same_chain K M.home (index_for M n) [] 0 n has.0 old other.0 bs has.2.chain other.2.chain).0 ∙ sym other.1

module _ {I : List (List ℕ)} {L : VolumeLayout} {who : Uic} {dir : FileId} {name : RadName} {given : Option ℕ} {file : FileId} {new : NewEntry} (e : IsEntryFor I L who dir name given file new) where
  abbrev n : ℕ
  n = dir.number

  abbrev old : List ℕ
  old = e.own.is.lbns

  abbrev headers : List ℕ
  headers = n ∷ e.own.is.held.others

  pub high_directory : 3 ≤ n
  high_directory = above_maps n (header_at I L n) e.own.is.kind

  pub had_by : HasHeaders I L n headers old
  had_by = has_headers e.own.is.held

  -- what an Enter asks
  pub asked_by : IsSoundBy I L → new.slot.grows ≡ true → IsImage I → lack_of I L headers 1 ≡ None → {places : List ℕ} → places ≡ index_blocks I L headers 1 → IsAsked I L (Enter dir name given file) headers old 1 places
  asked_by S grows image enough are = record {
    image = image;
    sound = S;
    wants = wants S e grows;
    file = λ m others is. let same : n ≡ m = cc in subst (λ k. 3 ≤ k) same high_directory;
    enough = enough;
    are = are;
  }

  module _ {K : List (List ℕ)} {M : VolumeLayout} (k : IsKept I L headers old 1 K M) where
    now : HasHeaders K M n headers old
    now = k.has n high_directory had_by

    pub whole_now : IsWhole K M n e.own.is.held.others old
    whole_now = subst (λ l. IsWhole K M n l old) (ap (drop 1) (sym now.1)) now.2

    pub header : header_at K M n ≡ header_at I L n
    header = k.own n (first_in n e.own.is.held.others)

    pub same_shown : file_shown K M dir old ≡ file_shown I L dir old
    same_shown = λ i. file_of n (header i) (k.contents n high_directory had_by i)

    abbrev pub directory_then : IsDirectoryAt K M n new.opened
    directory_then = record {
      kind = ap (is_directory_header n) header ∙ e.own.is.kind;
      header = e.own.is.header ∙ sym header;
      lbns = old;
      held = record { file = k.file n e.own.is.held.file; others = e.own.is.held.others; whole = whole_now };
      contents = e.own.is.contents ∙ sym (k.contents n high_directory had_by);
      few = e.own.is.few;
      mark = e.own.is.mark ∙ ap (λ b. mark_in (attributes_of b) (length old)) (sym header);
      inside = e.own.is.inside;
      directory = e.own.is.directory;
    }

    abbrev pub own_then : IsOpenDirectory K M dir who right.Write new.opened
    own_then = record {
      file = (k.file n e.own.file.0, ap sequence_of header ∙ e.own.file.1);
      is = directory_then;
      passes = λ C shown.
          let p = e.own.passes C (k.shown C shown) in
          record { there = p.there ∙ ap Some (sym same_shown); left = λ rest. p.left rest ∙ ap (λ f. first_of (rest f)) (sym same_shown) };
    }

    -- the entry may be written on the volume with which the request goes on
    abbrev pub entry_then : IsEntryFor K M who dir name given file new
    entry_then = record {
      own = own_then;
      answered = λ C shown. e.answered C (k.shown C shown);
      slot = e.slot;
      bytes = e.bytes;
      names = e.names;
      stays = e.stays;
    }
