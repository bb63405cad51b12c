-- A directory without one of its names: 16 zero bytes over its entry.
use Rattle.std.proofs.Common.{◌≡◌, ℕ, ◌*◌, ◌/◌, ◌<◌, ◌≤◌, true, false, List, length, replicate, refl, sym, ap, ◌∙◌, arith}
use Rattle.std.proofs.lemmas.Bool.{and_parts}
use Rattle.std.specs.FinMap as names
use Rattle.ods_base.specs.Block.{IsBlock}
use Rattle.ods_base.specs.Image.{block_at}
use Rattle.ods_base.specs.Name.{RadName, key_of}
use Rattle.ods_base.specs.Names.{is_of}
use Rattle.ods_directory.specs.declared.search.Found.{Found}
use Rattle.ods_directory.specs.Entry.{is_used, entry_at}
use Rattle.ods_directory.specs.Mark.{written}
use Rattle.ods_directory.specs.Names.{IsDirectory, names_of}
use Rattle.ods_directory.specs.Search.{IsEntryOf}
use Rattle.ods_directory.proofs.Used.{by_positions}
use Rattle.ods_directory.proofs.Picked.{key_at}
use Rattle.ods_directory.proofs.Written.{entry_written, entry_kept}
use Rattle.ods_directory.proofs.Changed.{IsSameBut, directory_less, names_less}

module _ (blocks : List (List ℕ)) (mark : ℕ) (n : RadName) (f : Found) (directory : IsDirectory blocks mark) (cut : mark ≤ 512 * length blocks)
    (found : IsEntryOf (entry_at blocks) (mark / 16) n f) (whole : IsBlock (block_at blocks (f.position / 32))) where
  pub used : is_used (entry_at blocks f.position) ≡ true
  used = (and_parts (is_used (entry_at blocks f.position)) (is_of n (entry_at blocks f.position).key) found.named).0

  key : (entry_at blocks f.position).key ≡ key_of n f.version
  key = key_at blocks mark n f.position found.named ∙ ap (key_of n) (sym found.version)

  within : f.position / 32 < length blocks
  within = omega (arith, found.below)

  same : IsSameBut blocks (written blocks (16 * f.position) (replicate 16 0)) mark mark f.position
  same = record {
    kept = λ i below apart. (below, entry_kept blocks (replicate 16 0) f.position within whole.size refl i apart);
    back = λ i below. below;
  }

  gone : is_used (entry_at (written blocks (16 * f.position) (replicate 16 0)) f.position) ≡ false
  gone = ap is_used (entry_written blocks (replicate 16 0) f.position within whole.size refl)

  -- the entry that the position is of
  pub entry_there : entry_at blocks f.position ≡ record { file = f.file; volume = 0; key = key_of n f.version }
  entry_there =
      let file = sym found.file in
      let volume = ((by_positions blocks mark directory).good f.position found.below used).volume in
      let whole_key = key in
      λ i. record { file = file i; volume = volume i; key = whole_key i }

  pub removed_stays : IsDirectory (written blocks (16 * f.position) (replicate 16 0)) mark
  removed_stays = directory_less blocks (written blocks (16 * f.position) (replicate 16 0)) mark f.position same directory found.below used gone

  pub removed_names : names_of (written blocks (16 * f.position) (replicate 16 0)) mark ≡ names.remove (names_of blocks mark) (key_of n f.version)
  removed_names =
      names_less blocks (written blocks (16 * f.position) (replicate 16 0)) mark f.position same directory found.below used gone
      ∙ ap (names.remove (names_of blocks mark)) key
