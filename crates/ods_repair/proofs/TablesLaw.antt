-- Why images with the same tables say the same of their files.
use Rattle.std.proofs.Common.{◌≡◌, ℕ, ◌+◌, ◌/◌, ◌%◌, ◌<◌, refl, ap, sym, ◌∙◌, subst, Bool, true, false, IsTrue, List, length, inl, inr}
use Rattle.std.specs.Prelude.{◌&&◌, ◌↔◌, nat_lt, slice_index}
use Rattle.std.proofs.lemmas.Bool.{ltb-true}
use Rattle.std.proofs.lemmas.List.Elements.{Contains-get_or}
use Rattle.ods_base.specs.Block.{has_bit}
use Rattle.ods_header.specs.Header.{IsFormat1, IsHeader}
use Rattle.ods_space.specs.Layout.{VolumeLayout}
use Rattle.ods_space.specs.Files.{HasBlocks, IsLayoutOf}
use Rattle.ods_space.specs.Free.{is_covered, is_free_block, storage_bit}
use Rattle.ods_directory.specs.Names.{IsDirectory}
use Rattle.ods_mount.specs.declared.fault.MountFault.{MountFault}
use Rattle.ods_mount.specs.declared.fault.MountFault.TheVariants.{NoHome, BadIndex, BadStorageMap, BadMaster, UnsupportedMap, BadChain, OutsideVolume, DoublyUsed, MarkedFree, BadDirectory, DuplicateName, NoMemory}
use Rattle.ods_mount.specs.Faults.{CouldBeWritten, HasBadIndex, IsDirectoryFile, IsTrueOf, contents_of, mark_at}
use Rattle.ods_mount.specs.Sound.{IsSoundBy}
use Rattle.ods_check.specs.Findings.{IsHeldByNone}
use Rattle.ods_repair.specs.Framed.{IsReadAs}
use Rattle.ods_repair.specs.Tables.{HasSameTables, TablesSayAll}
use Rattle.ods_repair.proofs.FaultsKept.{directory_stays, mark_stays, plain_stays}
use Rattle.ods_repair.proofs.FindingsKept.{KeepDirectories, bad_stays, finding_stays, twins_stay, unheld_stays}
use Rattle.ods_repair.proofs.Framed.{contents_stay, kept_back, read_as, read_back}

-- a directory has the same names
names_stay : (I J : List (List ℕ)) (L : VolumeLayout) → HasSameTables I J L → KeepDirectories I J L
names_stay I J L same n blocks dir has = contents_stay I J blocks (λ b in_it. same.directories n b blocks dir has in_it)

-- tables that are the same from one side are so from the other
same_back : (I J : List (List ℕ)) (L : VolumeLayout) → IsLayoutOf I L → HasSameTables I J L → HasSameTables J I L
same_back I J L layout same =
    let r : IsReadAs I J L = read_as I J L layout same.own in
    record {
      own = kept_back I J L same.own;
      bitmap = λ b in_it. sym (same.bitmap b in_it);
      directories = λ n b blocks dir has in_it. sym (same.directories n b blocks (directory_stays J I L (read_back I J L layout r) n dir) ((r.has n blocks).1 has) in_it);
    }

module _ (I J : List (List ℕ)) (L : VolumeLayout) (layout : IsLayoutOf I L) (same : HasSameTables I J L) where
  r : IsReadAs I J L
  r = read_as I J L layout same.own

  bit_stays : (b : ℕ) → is_covered L b ≡ true → storage_bit J L b ≡ storage_bit I L b
  bit_stays b covered =
      let low : 1 + b / 4096 < length L.bitmap = ltb-true (1 + b / 4096) (length L.bitmap) covered in
      ap (λ x. has_bit x (b % 4096)) (same.bitmap (slice_index L.bitmap (1 + b / 4096)) (Contains-get_or L.bitmap (1 + b / 4096) 0 low))

  pub free_stays : (b : ℕ) → is_free_block J L b ≡ is_free_block I L b
  free_stays b = ap (λ n. nat_lt b n && (is_covered L b && storage_bit J L b)) same.own.long ∙ ap (λ t. nat_lt b (length I) && t) (by (is_covered L b) refl)
    where
      by : (c : Bool) → is_covered L b ≡ c → (is_covered L b && storage_bit J L b) ≡ (is_covered L b && storage_bit I L b)
      by true e = ap (λ t. is_covered L b && t) (bit_stays b e)
      by false e = ap (λ t. t && storage_bit J L b) e ∙ sym (ap (λ t. t && storage_bit I L b) e)

  could_stays : (k : ℕ) → CouldBeWritten I L k → CouldBeWritten J L k
  could_stays k (inl free) = inl (subst IsTrue (sym (free_stays k)) free)
  could_stays k (inr (n, vbn, holds, third, fifth, first)) = inr (n, vbn, (r.holds n vbn k).0 holds, third, fifth, first)

  index_stays : HasBadIndex I L → HasBadIndex J L
  index_stays (inl few) = inl few
  index_stays (inr (inl other)) = inr (inl other)
  index_stays (inr (inr (inl (lbn, at, first, second)))) = inr (inr (inl (lbn, (r.homes lbn).0 at, first, second)))
  index_stays (inr (inr (inr (lbn, k, at, place, below, could)))) = inr (inr (inr (lbn, k, (r.homes lbn).0 at, place, below, could_stays k could)))

  names : KeepDirectories I J L
  names = names_stay I J L same

  pub each_stays : (fault : MountFault) → IsTrueOf I L fault → IsTrueOf J L fault
  each_stays BadIndex f = index_stays f
  each_stays (MarkedFree n b) (v, holds, free) = (v, (r.holds n v b).0 holds, subst IsTrue (sym (free_stays b)) free)
  each_stays (BadDirectory n) f = bad_stays I J L r names n f
  each_stays (DuplicateName n) f = twins_stay I J L r names n f
  each_stays BadStorageMap f = plain_stays I J L r BadStorageMap tt f
  each_stays BadMaster f = plain_stays I J L r BadMaster tt f
  each_stays (UnsupportedMap n) f = plain_stays I J L r (UnsupportedMap n) tt f
  each_stays (BadChain n) f = plain_stays I J L r (BadChain n) tt f
  each_stays (OutsideVolume n b) f = plain_stays I J L r (OutsideVolume n b) tt f
  each_stays (DoublyUsed m n b) f = plain_stays I J L r (DoublyUsed m n b) tt f
  each_stays NoHome f = absurd f
  each_stays NoMemory f = absurd f

  pub sound_stays : IsSoundBy I L → IsSoundBy J L
  sound_stays s = record {
    layout = r.layout;
    index_bitmap_size = s.index_bitmap_size;
    index_place = s.index_place;
    home_block = λ lbn at. s.home_block lbn ((r.homes lbn).1 at);
    home_stays = λ lbn k at place below could. s.home_stays lbn k ((r.homes lbn).1 at) place below (could_back k could);
    bitmap_size = s.bitmap_size;
    master = (r.files 4).0 s.master;
    formats = λ n used is. subst IsFormat1 (sym (r.headers n)) (s.formats n (subst IsTrue (r.in_use n) used) (subst (λ b. IsHeader b n) (r.headers n) is));
    chains = λ n file. let c = s.chains n ((r.files n).1 file) in (c.0, (r.has n c.0).0 c.1);
    apart = λ m n ms ns cs bs x p q c d. s.apart m n ms ns cs bs x ((r.files m).1 p) ((r.files n).1 q) ((r.chains m ms cs).1 c) ((r.chains n ns bs).1 d);
    once = λ m n v w b p q. s.once m n v w b ((r.holds m v b).1 p) ((r.holds n w b).1 q);
    not_free = λ n v b p. free_stays b ∙ s.not_free n v b ((r.holds n v b).1 p);
    directories = λ n blocks dir has.
        let was : IsDirectoryFile I L n = directory_stays J I L (read_back I J L layout r) n dir in
        let had : HasBlocks I L n blocks = (r.has n blocks).1 has in
        subst (λ cs. IsDirectory cs (mark_at J L n blocks)) (sym (names n blocks was had)) (subst (IsDirectory (contents_of I blocks)) (sym (mark_stays I J L r n blocks)) (s.directories n blocks was had));
  }
    where
      could_back : (k : ℕ) → CouldBeWritten J L k → CouldBeWritten I L k
      could_back k (inl free) = inl (subst IsTrue (free_stays k) free)
      could_back k (inr (n, vbn, holds, third, fifth, first)) = inr (n, vbn, (r.holds n vbn k).1 holds, third, fifth, first)

pub tables_say_all : TablesSayAll
tables_say_all I J L layout same =
    let r : IsReadAs I J L = read_as I J L layout same.own in
    let there : IsLayoutOf J L = r.layout in
    let back : HasSameTables J I L = same_back I J L layout same in
    let unheld : (b : ℕ) → IsHeldByNone I L b ↔ IsHeldByNone J L b = λ b. (unheld_stays I J L r (bit_stays I J L layout same) b, unheld_stays J I L (read_back I J L layout r) (bit_stays J I L there back) b) in
    let unheld_back : (b : ℕ) → IsHeldByNone J L b ↔ IsHeldByNone I L b = λ b. ((unheld b).1, (unheld b).0) in
    record {
      read = r;
      free = free_stays I J L layout same;
      names = names_stay I J L same;
      faults = λ fault. (each_stays I J L layout same fault, each_stays J I L there back fault);
      findings = λ finding. (
        finding_stays I J L layout r (names_stay I J L same) unheld finding,
        finding_stays J I L there (read_back I J L layout r) (names_stay J I L back) unheld_back finding,
      );
      sound = (sound_stays I J L layout same, sound_stays J I L there back);
    }
