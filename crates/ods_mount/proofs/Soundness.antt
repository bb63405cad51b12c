-- An image that is sound by what it has is sound: no fault is true of it.
use Rattle.std.proofs.Common.{◌≡◌, ℕ, ◌<◌, ◌≤◌, false, eqb, List, [], length, slice_get, Some, inl, inr, refl, ap, subst, arith}
use Rattle.std.specs.List.{All, Contains}
use Rattle.std.specs.Prelude.{IsTrue}
use Rattle.std.proofs.lemmas.Bool.{cases_lt, both_ways, le-leb, lt-leb, ne_eqb}
use Rattle.std.proofs.lemmas.Option.{slice_get_within, get_or_from_slice_get}
use Rattle.ods_header.specs.Header.{IsHeader, IsFormat1}
use Rattle.ods_header.specs.declared.home.Home.{Home}
use Rattle.ods_space.specs.Layout.{VolumeLayout, header_by, is_in_use}
use Rattle.ods_space.specs.Chain.{index_for, IsIndex}
use Rattle.ods_space.specs.Files.{HasIndexHeader}
use Rattle.ods_space.proofs.Chains.{same_chain}
use Rattle.ods_directory.specs.Entry.{Entry, IsGoodEntry}
use Rattle.ods_mount.specs.declared.fault.MountFault.{MountFault}
use Rattle.ods_mount.specs.declared.fault.MountFault.TheVariants.{NoHome, BadIndex, BadStorageMap, BadMaster, UnsupportedMap, BadChain, OutsideVolume, DoublyUsed, MarkedFree, BadDirectory, DuplicateName, NoMemory}
use Rattle.ods_mount.specs.Faults.{IsTrueOf, IsTrueAtHome, IsSound, HasBadIndex}
use Rattle.ods_mount.specs.Sound.{IsSoundBy}
use Rattle.ods_mount.proofs.Layouts.{same_layout, same_home}

pub all_at : (xs : List ℕ) (n b : ℕ) → All (λ lbn. lbn < n) xs → Contains xs b → b < n
all_at xs n b each (k, within, found) = let P : ℕ → Type 0 = λ x. x < n in subst P found (each k b within)

good_at : (es : List Entry) (i : ℕ) (e : Entry) → All IsGoodEntry es → slice_get es i ≡ Some e → IsGoodEntry e
good_at es i e each found = subst IsGoodEntry (get_or_from_slice_get es i e e found) (each i e (slice_get_within es i e found))

no_bad_index : (I : List (List ℕ)) (L : VolumeLayout) → IsSoundBy I L → HasBadIndex I L → ⊥
no_bad_index I L s (inl few) = let size = s.index_bitmap_size in absurd (omega arith)
no_bad_index I L s (inr (inl (i, below, other))) = other (s.index_place i below)
no_bad_index I L s (inr (inr (inl (lbn, at, first, second)))) = elim (s.home_block lbn at) [ inl e ↦ first e | inr e ↦ second e ]
no_bad_index I L s (inr (inr (inr (lbn, k, at, place, below, written)))) = s.home_stays lbn k at place below written

pub none_true_of : (I : List (List ℕ)) (L : VolumeLayout) → IsSoundBy I L → (fault : MountFault) → IsTrueOf I L fault → ⊥
none_true_of I L s BadIndex f = no_bad_index I L s f
none_true_of I L s BadStorageMap (inl f) = f s.layout.bitmap.file
none_true_of I L s BadStorageMap (inr (file, ns, bs, chain, few)) =
    let has = s.layout.bitmap in
    let same = same_chain I L.home (index_for L 2) [] 0 2 ns bs has.others L.bitmap chain has.whole.chain in
    let size = s.bitmap_size in
    absurd (omega (arith, ap length same.1))
none_true_of I L s BadMaster f = f s.master
none_true_of I L s (UnsupportedMap n) (in_use, header, other) = other (s.formats n in_use header)
none_true_of I L s (BadChain n) (file, inl none) = let has = s.chains n file in none has.1.others has.0 has.1.whole.chain
none_true_of I L s (BadChain n) (file, inr (m, ms, ns, cs, bs, x, other, mfile, mchain, nchain, xm, xn)) = other (s.apart m n ms ns cs bs x mfile file mchain nchain xm xn)
none_true_of I L s (OutsideVolume n b) (file, ns, bs, chain, one, past) =
    let has = s.chains n file in
    let same = same_chain I L.home (index_for L n) [] 0 n ns bs has.1.others has.0 chain has.1.whole.chain in
    let P : List ℕ → Type 0 = λ l. Contains l b in
    let inside = all_at has.0 (length I) b has.1.whole.inside (subst P same.1 one) in
    absurd (omega arith)
none_true_of I L s (DoublyUsed m n b) (v, w, x, y, inl other) = other (s.once m n v w b x y).0
none_true_of I L s (DoublyUsed m n b) (v, w, x, y, inr other) = other (s.once m n v w b x y).1
none_true_of I L s (MarkedFree n b) (v, x, free) = both_ways _ (s.not_free n v b x) free
none_true_of I L s (BadDirectory n) (dir, bs, has, bad) = bad.bad (good_at _ bad.i bad.entry (s.directories n bs dir has).good bad.found)
none_true_of I L s (DuplicateName n) (dir, bs, has, twins) = (s.directories n bs dir has).distinct twins.i twins.j twins.apart twins.one twins.other twins.first twins.second twins.same
none_true_of I L s NoHome f = f
none_true_of I L s NoMemory f = f

-- headers 1 to 16 are placed by the home block alone
same_header : (I : List (List ℕ)) (h : Home) (index : List ℕ) (n : ℕ) → n ≤ 16 → header_by I h [] n ≡ header_by I h index n
same_header I h index n low = let e = le-leb n 16 low in rw e refl

-- without an index the others have no place
no_header : (I : List (List ℕ)) (h : Home) (n : ℕ) → 16 < n → header_by I h [] n ≡ []
no_header I h n high = let e = lt-leb n 16 high in let p : eqb n 0 ≡ false = ne_eqb n 0 (λ z. omega arith) in rw (p, e) refl

none_at_home : (I : List (List ℕ)) (L : VolumeLayout) → IsSoundBy I L → (fault : MountFault) → IsTrueAtHome I fault → ⊥
none_at_home I L s NoHome f = let at = s.layout.home.1 in f s.layout.home.0 at.place at.inside at.inside at.home
none_at_home I L s BadIndex (h, of, none) =
    let P : Home → Type 0 = λ g. HasIndexHeader I g → ⊥ in
    let file = s.layout.index.file in
    (subst P (same_home I h L.home of s.layout.home) none) (file.in_use, file.valid, file.segment)
none_at_home I L s (BadChain n) (e, h, of, header, none) =
    let P : Home → Type 0 = λ g. (index : List ℕ) → IsIndex I g index → ⊥ in
    (subst P (same_home I h L.home of s.layout.home) none) L.index (s.layout.index.others, s.layout.index.whole.chain)
none_at_home I L s (UnsupportedMap n) (h, of, in_use, header, other) = elim (cases_lt 16 n) [
  | inl high ↦
      let Q : List ℕ → Type 0 = λ b. IsHeader b n in
      let none : 0 ≡ n = (subst Q (no_header I h n high) header).numbered in
      absurd (omega arith)
  | inr low ↦
      let P : Home → Type 0 = λ g. IsTrue (is_in_use I g n) × IsHeader (header_by I g [] n) n × (IsFormat1 (header_by I g [] n) → ⊥) in
      let own = subst P (same_home I h L.home of s.layout.home) (in_use, header, other) in
      let Q : List ℕ → Type 0 = λ b. IsHeader b n × (IsFormat1 b → ⊥) in
      let placed = subst Q (same_header I L.home L.index n low) (own.1, own.2) in
      placed.1 (s.formats n own.0 placed.0)
]
none_at_home I L s BadStorageMap f = f
none_at_home I L s BadMaster f = f
none_at_home I L s (OutsideVolume n b) f = f
none_at_home I L s (DoublyUsed m n b) f = f
none_at_home I L s (MarkedFree n b) f = f
none_at_home I L s (BadDirectory n) f = f
none_at_home I L s (DuplicateName n) f = f
none_at_home I L s NoMemory f = f

-- a sound image has no fault
pub IsSound-by : (I : List (List ℕ)) (L : VolumeLayout) → IsSoundBy I L → IsSound I
IsSound-by I L s fault (inl f) = none_at_home I L s fault f
IsSound-by I L s fault (inr (M, seen, f)) =
    let P : VolumeLayout → Type 0 = λ N. IsTrueOf I N fault in
    none_true_of I L s fault (subst P (same_layout I L M s.layout seen) f)
