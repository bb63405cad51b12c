-- A directory with one name more: the bytes of an entry at the slot.
use Rattle.std.proofs.Common.{◌≡◌, ◌≢◌, ℕ, zero, suc, ◌*◌, ◌<◌, ◌≤◌, true, not, List, [], ◌∷◌, length, slice_index, refl, sym, ap, ◌∙◌, subst, arith}
use Rattle.std.specs.List.{All}
use Rattle.std.proofs.lemmas.Bool.{ne_eqb}
use Rattle.std.specs.FinMap as names
use Rattle.ods_base.specs.Name.{RadName, IsName, key_of}
use Rattle.ods_base.specs.Names.{Has}
use Rattle.ods_base.specs.declared.file_id.FileId.{FileId}
use Rattle.ods_directory.specs.declared.slot.Slot.{Slot}
use Rattle.ods_directory.specs.Entry.{IsGoodEntry, is_used, entry_at, entry_bytes}
use Rattle.ods_directory.specs.Mark.{grown, written}
use Rattle.ods_directory.specs.Names.{IsDirectory, names_of}
use Rattle.ods_directory.proofs.Rooms.{IsRoom}
use Rattle.ods_directory.proofs.Written.{entry_written, entry_kept, entry_of_bytes}
use Rattle.ods_directory.proofs.Changed.{IsSameBut, directory_more, names_more}

-- a key that an entry may have, by its words
record IsGoodKey (key : List ℕ) : Type 0 where
  words : (i : ℕ) → i < 4 → slice_index key i < 64000
  some : 1 ≤ slice_index key 4
  most : slice_index key 4 ≤ 32767
  small : (i : ℕ) → slice_index key i < 65536
  whole : slice_index key 0 ∷ slice_index key 1 ∷ slice_index key 2 ∷ slice_index key 3 ∷ slice_index key 4 ∷ [] ≡ key

good_five : (a b c e v : ℕ) → a < 64000 → b < 64000 → c < 64000 → e < 64000 → 1 ≤ v → v ≤ 32767 → IsGoodKey (a ∷ b ∷ c ∷ e ∷ v ∷ [])
good_five a b c e v low_a low_b low_c low_e some most = record { words = words; some = some; most = most; small = small; whole = refl }
  where
    words : (i : ℕ) → i < 4 → slice_index (a ∷ b ∷ c ∷ e ∷ v ∷ []) i < 64000
    words zero below = low_a
    words (suc zero) below = low_b
    words (suc (suc zero)) below = low_c
    words (suc (suc (suc zero))) below = low_e
    words (suc (suc (suc (suc i)))) below = absurd (omega arith)

    small : (i : ℕ) → slice_index (a ∷ b ∷ c ∷ e ∷ v ∷ []) i < 65536
    small zero = omega arith
    small (suc zero) = omega arith
    small (suc (suc zero)) = omega arith
    small (suc (suc (suc zero))) = omega arith
    small (suc (suc (suc (suc zero)))) = omega arith
    small (suc (suc (suc (suc (suc i))))) = omega arith

good_key_of : (ws : List ℕ) (e v : ℕ) → length ws ≡ 3 → All (λ w. w < 64000) ws → e < 64000 → 1 ≤ v → v ≤ 32767 → IsGoodKey (key_of (record { words = ws; ext = e }) v)
good_key_of [] e v long low low_e some most = absurd (cc)
good_key_of (a ∷ []) e v long low low_e some most = absurd (omega (arith, long))
good_key_of (a ∷ b ∷ []) e v long low low_e some most = absurd (omega (arith, long))
good_key_of (a ∷ b ∷ c ∷ []) e v long low low_e some most = good_five a b c e v (low 0 0 (omega arith)) (low 1 0 (omega arith)) (low 2 0 (omega arith)) low_e some most
good_key_of (a ∷ b ∷ c ∷ d ∷ ws) e v long low low_e some most = absurd (omega (arith, long))

good_key : (n : RadName) (v : ℕ) → IsName n → (1 ≤ v) × (v ≤ 32767) → IsGoodKey (key_of n v)
good_key n v name range = good_key_of n.words n.ext v name.three name.words name.ext range.0 range.1

module _ (blocks : List (List ℕ)) (mark : ℕ) (n : RadName) (version : ℕ) (file : FileId) (slot : Slot) (k : ℕ) (directory : IsDirectory blocks mark) (room : IsRoom blocks mark slot k)
    (name : IsName n) (range : (1 ≤ version) × (version ≤ 32767)) (number : file.number ≢ 0) (file_small : (file.number < 65536) × (file.sequence < 65536)) (new : ¬ Has (names_of blocks mark) n version) where
  good : IsGoodKey (key_of n version)
  good = good_key n version name range

  abbrev after : List (List ℕ)
  after = written (grown blocks slot) (16 * k) (entry_bytes file (key_of n version))

  here : entry_at after k ≡ record { file = file; volume = 0; key = key_of n version }
  here =
      entry_written (grown blocks slot) (entry_bytes file (key_of n version)) k room.within room.size refl
      ∙ entry_of_bytes file (key_of n version) file_small.0 file_small.1 good.small ∙ ap (λ key. record { file = file; volume = 0; key = key }) good.whole

  same : IsSameBut blocks after mark slot.mark k
  same = record {
    kept = λ i below apart. (room.before i below apart, entry_kept (grown blocks slot) (entry_bytes file (key_of n version)) k room.within room.size refl i apart ∙ room.same i (room.before i below apart));
    back = room.back;
  }

  used : is_used (entry_at after k) ≡ true
  used = ap is_used here ∙ ap not (ne_eqb file.number 0 number)

  good_here : IsGoodEntry (entry_at after k)
  good_here = subst IsGoodEntry (sym here) (record { words = good.words; some = good.some; most = good.most; volume = refl })

  stays : IsDirectory after slot.mark
  stays = directory_more blocks after mark slot.mark k (key_of n version) file same directory room.below room.free used (ap (λ e. e.key) here) (ap (λ e. e.file) here) good_here new

  more : names_of after slot.mark ≡ names.insert (names_of blocks mark) (key_of n version) file
  more = names_more blocks after mark slot.mark k (key_of n version) file same directory room.below room.free used (ap (λ e. e.key) here) (ap (λ e. e.file) here) good_here new

  written_there : (bytes : List ℕ) → bytes ≡ entry_bytes file (key_of n version) → written (grown blocks slot) slot.at bytes ≡ after
  written_there bytes e = ap (λ at. written (grown blocks slot) at bytes) room.at ∙ ap (written (grown blocks slot) (16 * k)) e

  -- a directory it stays, with the one name more
  pub entered_so : (bytes : List ℕ) → bytes ≡ entry_bytes file (key_of n version)
      → IsDirectory (written (grown blocks slot) slot.at bytes) slot.mark × (names_of (written (grown blocks slot) slot.at bytes) slot.mark ≡ names.insert (names_of blocks mark) (key_of n version) file)
  entered_so bytes e = (subst (λ J. IsDirectory J slot.mark) (sym (written_there bytes e)) stays, ap (λ J. names_of J slot.mark) (written_there bytes e) ∙ more)
