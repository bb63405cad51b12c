-- An image of which all that `used`, `share` and `double` mend is mended is sound, where nothing else was wrong.
use Rattle.std.proofs.Common.{◌≡◌, ◌≢◌, ◌⊎◌, inl, inr, ℕ, zero, suc, ◌≤◌, ap, sym, subst, refl, List, [], ◌∷◌, arith}
use Rattle.std.specs.List.{All, Contains}
use Rattle.std.proofs.lemmas.List.Elements.{All-contains}
use Rattle.std.proofs.lemmas.Bool.{cases_eq, cases_lt}
use Rattle.ods_space.specs.Layout.{VolumeLayout}
use Rattle.ods_space.specs.Files.{IsLayoutOf}
use Rattle.ods_mount.specs.declared.fault.MountFault.{MountFault}
use Rattle.ods_mount.specs.declared.fault.MountFault.TheVariants.{NoHome, BadIndex, BadStorageMap, BadMaster, UnsupportedMap, BadChain, OutsideVolume, DoublyUsed, MarkedFree, BadDirectory, DuplicateName, NoMemory}
use Rattle.ods_mount.specs.Faults.{FaultIsTrue, IsSound, IsTrueAtHome, IsTrueOf}
use Rattle.ods_mount.proofs.Layouts.{same_layout}
use Rattle.ods_mount.proofs.Unlaid.{true_by_layout}
use Rattle.ods_check.specs.Faults.{TellsAll}
use Rattle.ods_check.specs.declared.fault_line.FaultLine.{FaultLine}
use Rattle.ods_check.specs.declared.fault_line.FaultLine.TheVariants.{Index, Plain}
use Rattle.ods_repair.specs.Framed.{IsReadAs}
use Rattle.ods_repair.specs.Used.{AreUsed}
use Rattle.ods_repair.specs.Unshared.{SharesNone}
use Rattle.ods_repair.specs.Wholly.{AreRenumberedIn, AreUnsharedIn, IsMendable, IsMendableLine, MendedIsSound, MendedLinesAreSound}
use Rattle.ods_repair.proofs.AtHome.{at_home, home_fault_stays}
use Rattle.ods_repair.proofs.Framed.{read_back}

-- a fault is seen by the home block alone, or by the layout
by_layout : (I : List (List ℕ)) (L : VolumeLayout) → IsLayoutOf I L → (fault : MountFault) → FaultIsTrue I fault → IsTrueAtHome I fault ⊎ IsTrueOf I L fault
by_layout I L layout fault (inl f) = inl f
by_layout I L layout fault (inr (M, seen, f)) = inr (subst (λ N. IsTrueOf I N fault) (same_layout I L M layout seen) f)

-- one that is seen by the home block alone was there before
home_back : (I J : List (List ℕ)) (L : VolumeLayout) → IsLayoutOf I L → IsReadAs I J L → (fault : MountFault) → IsTrueAtHome J fault → IsTrueAtHome I fault
home_back I J L layout r fault f = home_fault_stays J I L r.layout (read_back I J L layout r) fault f

-- and is none that is mended
not_at_home : (I : List (List ℕ)) (fault : MountFault) → IsMendable fault → ¬ IsTrueAtHome I fault
not_at_home I (MarkedFree n b) of f = f
not_at_home I (DuplicateName d) of f = f
not_at_home I NoHome of f = of
not_at_home I BadIndex of f = of
not_at_home I BadStorageMap of f = of
not_at_home I BadMaster of f = of
not_at_home I (UnsupportedMap n) of f = of
not_at_home I (BadChain n) of f = of
not_at_home I (OutsideVolume n b) of f = of
not_at_home I (DoublyUsed m n b) of f = f
not_at_home I (BadDirectory n) of f = of
not_at_home I NoMemory of f = of

-- the fault is that one of these directories has two names which are one
abbrev IsDoubleOf : List ℕ → MountFault → Type 0
IsDoubleOf ds fault = (d : ℕ) × (fault ≡ DuplicateName d) × Contains ds d

abbrev pub directory_of : MountFault → ℕ
directory_of (DuplicateName d) = d
directory_of NoHome = 0
directory_of BadIndex = 0
directory_of BadStorageMap = 0
directory_of BadMaster = 0
directory_of (UnsupportedMap n) = 0
directory_of (BadChain n) = 0
directory_of (OutsideVolume n b) = 0
directory_of (DoublyUsed m n b) = 0
directory_of (MarkedFree n b) = 0
directory_of (BadDirectory n) = 0
directory_of NoMemory = 0

not_home_double : (I : List (List ℕ)) (ds : List ℕ) (fault : MountFault) → IsDoubleOf ds fault → ¬ IsTrueAtHome I fault
not_home_double I ds fault (d, e, has) f = subst (IsTrueAtHome I) e f

behind_first : (d n : ℕ) (ds : List ℕ) → n ≢ d → Contains (d ∷ ds) n → Contains ds n
behind_first d n ds other (zero, lt, at) = absurd (other (sym at))
behind_first d n ds other (suc k, lt, at) = (k, omega (arith, lt), at)

-- of directories whose names are new one after another none has two names which are one
all_renumbered : (ds : List ℕ) (I J : List (List ℕ)) (L : VolumeLayout) → IsLayoutOf I L → ((fault : MountFault) → FaultIsTrue I fault → IsDoubleOf ds fault) → AreRenumberedIn L ds I J → IsSound J
all_renumbered [] I J L layout only same = λ fault f.
    let one = only fault (subst (λ K. FaultIsTrue K fault) same f) in
    let low = one.2.1 in absurd (omega (arith, low))
all_renumbered (d ∷ ds) I J L layout only (mid, h, rest) = all_renumbered ds mid J L h.read.layout left rest
  where
    was : (fault : MountFault) → fault ≢ DuplicateName d → IsTrueOf mid L fault → IsDoubleOf (d ∷ ds) fault
    was fault other f = only fault (true_by_layout I L fault layout ((h.faults fault other).1 f))

    by : (fault : MountFault) → IsTrueOf mid L fault → IsDoubleOf ds fault
    by (DuplicateName n) f = elim (cases_eq n d) [
      | inl same ↦ absurd (h.none (subst (λ m. IsTrueOf mid L (DuplicateName m)) same f))
      | inr apart ↦
          let one = was (DuplicateName n) (λ e. apart (ap directory_of e)) f in
          let is : n ≡ one.0 = ap directory_of one.1 in
          (n, refl, behind_first d n ds apart (subst (Contains (d ∷ ds)) (sym is) one.2))
    ]
    by NoHome f = absurd f
    by BadIndex f = let one = was BadIndex (λ e. absurd (cc)) f in absurd (cc one.1)
    by BadStorageMap f = let one = was BadStorageMap (λ e. absurd (cc)) f in absurd (cc one.1)
    by BadMaster f = let one = was BadMaster (λ e. absurd (cc)) f in absurd (cc one.1)
    by (UnsupportedMap n) f = let one = was (UnsupportedMap n) (λ e. absurd (cc)) f in absurd (cc one.1)
    by (BadChain n) f = let one = was (BadChain n) (λ e. absurd (cc)) f in absurd (cc one.1)
    by (OutsideVolume n b) f = let one = was (OutsideVolume n b) (λ e. absurd (cc)) f in absurd (cc one.1)
    by (DoublyUsed m n b) f = let one = was (DoublyUsed m n b) (λ e. absurd (cc)) f in absurd (cc one.1)
    by (MarkedFree n b) f = let one = was (MarkedFree n b) (λ e. absurd (cc)) f in absurd (cc one.1)
    by (BadDirectory n) f = let one = was (BadDirectory n) (λ e. absurd (cc)) f in absurd (cc one.1)
    by NoMemory f = absurd f

    left : (fault : MountFault) → FaultIsTrue mid fault → IsDoubleOf ds fault
    left fault f = elim (by_layout mid L h.read.layout fault f) [
      | inl home ↦
          let before = home_back I mid L layout h.read fault home in
          absurd (not_home_double I (d ∷ ds) fault (only fault (inl before)) before)
      | inr seen ↦ by fault seen
    ]

-- a fault that `share` or `double` mends
abbrev IsMendedLater : MountFault → Type 0
IsMendedLater (DoublyUsed m n b) = Unit {0}
IsMendedLater (DuplicateName d) = Unit {0}
IsMendedLater other = ⊥

-- where held blocks are used, these are left
used_then : (I H : List (List ℕ)) (L : VolumeLayout) (blocks : List ℕ) → IsLayoutOf I L → AreUsed I L blocks H → ((fault : MountFault) → FaultIsTrue I fault → IsMendable fault)
    → (fault : MountFault) → FaultIsTrue H fault → IsMendedLater fault
used_then I H L blocks layout u only fault f = elim (by_layout H L u.read.layout fault f) [
  | inl home ↦
      let before = home_back I H L layout u.read fault home in
      absurd (not_at_home I fault (only fault (inl before)) before)
  | inr seen ↦ by fault seen
]
  where
    was : (fault : MountFault) → IsTrueOf I L fault → IsMendable fault
    was fault f = only fault (true_by_layout I L fault layout f)

    by : (fault : MountFault) → IsTrueOf H L fault → IsMendedLater fault
    by (DuplicateName d) f = tt
    by (DoublyUsed m n b) f = tt
    by (MarkedFree n b) f = absurd (u.none n b f)
    by BadIndex f = absurd (was BadIndex (u.index f))
    by NoHome f = absurd f
    by BadStorageMap f = absurd (was BadStorageMap ((u.faults BadStorageMap tt).1 f))
    by BadMaster f = absurd (was BadMaster ((u.faults BadMaster tt).1 f))
    by (UnsupportedMap n) f = absurd (was (UnsupportedMap n) ((u.faults (UnsupportedMap n) tt).1 f))
    by (BadChain n) f = absurd (was (BadChain n) ((u.faults (BadChain n) tt).1 f))
    by (OutsideVolume n b) f = absurd (was (OutsideVolume n b) ((u.faults (OutsideVolume n b) tt).1 f))
    by (BadDirectory n) f = absurd (was (BadDirectory n) ((u.faults (BadDirectory n) tt).1 f))
    by NoMemory f = absurd f

-- Where files have runs of their own one after another, the layout stays and no fault is new.
unshared_faults : (ns : List ℕ) (I J : List (List ℕ)) (L : VolumeLayout) → IsLayoutOf I L → AreUnsharedIn L ns I J → IsLayoutOf J L × ((fault : MountFault) → IsTrueOf J L fault → IsTrueOf I L fault)
unshared_faults [] I J L layout same = (subst (λ K. IsLayoutOf K L) (sym same) layout, λ fault f. subst (λ K. IsTrueOf K L fault) same f)
unshared_faults (n ∷ ns) I J L layout (mid, (told, own, none), rest) =
    let more = unshared_faults ns mid J L own.moves.layout rest in
    (more.0, λ fault f. own.moves.faults fault (more.1 fault f))

-- none of these files shares a block then
unshared_none : (ns : List ℕ) (I J : List (List ℕ)) (L : VolumeLayout) → IsLayoutOf I L → AreUnsharedIn L ns I J → (n : ℕ) → Contains ns n → SharesNone J L n
unshared_none [] I J L layout same n has = let low = has.1 in absurd (omega (arith, low))
unshared_none (k ∷ ns) I J L layout (mid, (told, own, none), rest) n has = elim (cases_eq n k) [
  | inl same ↦ λ m b f.
      let now = (unshared_faults ns mid J L own.moves.layout rest).1 (DoublyUsed m n b) f in
      own.none none m b (subst (λ x. IsTrueOf mid L (DoublyUsed m x b)) same now)
  | inr other ↦ unshared_none ns mid J L own.moves.layout rest n (behind_first k n ns other has)
]

-- two files that share a block do so in either order
other_way : (I : List (List ℕ)) (L : VolumeLayout) (m n b : ℕ) → IsTrueOf I L (DoublyUsed m n b) → IsTrueOf I L (DoublyUsed n m b)
other_way I L m n b (v, w, p, q, apart) = (w, v, q, p, elim apart [ inl files ↦ inl (λ e. files (sym e)) | inr places ↦ inr (λ e. places (sym e)) ])

-- where no block is held twice, directories alone are left that have two names which are one
unshared_then : (ns : List ℕ) (H K : List (List ℕ)) (L : VolumeLayout) → IsLayoutOf H L → ((m n b : ℕ) → m ≤ n → IsTrueOf H L (DoublyUsed m n b) → Contains ns n) → AreUnsharedIn L ns H K
    → ((fault : MountFault) → FaultIsTrue H fault → IsMendedLater fault) → (fault : MountFault) → FaultIsTrue K fault → (d : ℕ) × (fault ≡ DuplicateName d)
unshared_then ns H K L layout all unshared only fault f = elim (by_layout K L stays.0 fault f) [
  | inl home ↦ by fault (at_home K L stays.0 fault home)
  | inr seen ↦ by fault seen
]
  where
    stays : IsLayoutOf K L × ((fault : MountFault) → IsTrueOf K L fault → IsTrueOf H L fault)
    stays = unshared_faults ns H K L layout unshared

    was : (fault : MountFault) → IsTrueOf K L fault → IsMendedLater fault
    was fault f = only fault (true_by_layout H L fault layout (stays.1 fault f))

    none : (m n b : ℕ) → ¬ IsTrueOf K L (DoublyUsed m n b)
    none m n b f = elim (cases_lt n m) [
      | inl less ↦ unshared_none ns H K L layout unshared m (all n m b (omega (arith, less)) (stays.1 (DoublyUsed n m b) (other_way K L m n b f))) n b (other_way K L m n b f)
      | inr more ↦ unshared_none ns H K L layout unshared n (all m n b more (stays.1 (DoublyUsed m n b) f)) m b f
    ]

    by : (fault : MountFault) → IsTrueOf K L fault → (d : ℕ) × (fault ≡ DuplicateName d)
    by (DuplicateName d) f = (d, refl)
    by (DoublyUsed m n b) f = absurd (none m n b f)
    by (MarkedFree n b) f = absurd (was (MarkedFree n b) f)
    by BadIndex f = absurd (was BadIndex f)
    by NoHome f = absurd f
    by BadStorageMap f = absurd (was BadStorageMap f)
    by BadMaster f = absurd (was BadMaster f)
    by (UnsupportedMap n) f = absurd (was (UnsupportedMap n) f)
    by (BadChain n) f = absurd (was (BadChain n) f)
    by (OutsideVolume n b) f = absurd (was (OutsideVolume n b) f)
    by (BadDirectory n) f = absurd (was (BadDirectory n) f)
    by NoMemory f = absurd f

pub mended_is_sound : MendedIsSound
mended_is_sound I H K J only (L, blocks, layout, u) (N, ns, known, shared, unshared) (M, ds, seen, all, names) = all_renumbered ds K J M seen doubles names
  where
    doubles : (fault : MountFault) → FaultIsTrue K fault → IsDoubleOf ds fault
    doubles fault f =
        let d = unshared_then ns H K N known shared unshared (used_then I H L blocks layout u only) fault f in
        let here = subst (FaultIsTrue K) d.1 f in (
          d.0,
          d.1,
          elim (by_layout K M seen (DuplicateName d.0) here) [
            | inl home ↦ absurd home
            | inr is ↦ all d.0 is
          ],
        )

-- where each line is of these kinds, so is each fault
module _ (I : List (List ℕ)) (L : VolumeLayout) (others : List ℕ) (lines : List FaultLine) (layout : IsLayoutOf I L) (tells : TellsAll I L others lines) (each : All IsMendableLine lines) where
  line_is : (line : FaultLine) → Contains lines line → IsMendableLine line
  line_is line has = All-contains IsMendableLine lines line each has

  told_is : (fault : MountFault) → IsTrueOf I L fault → IsMendable fault
  told_is (MarkedFree n b) f = tt
  told_is (DoublyUsed m n b) f = tt
  told_is (DuplicateName d) f = tt
  told_is BadIndex f = let line = tells.bad_index f in absurd (line_is (Index line.0) line.1)
  told_is BadStorageMap f = absurd (line_is (Plain BadStorageMap) (tells.storage f))
  told_is BadMaster f = absurd (line_is (Plain BadMaster) (tells.master f))
  told_is (UnsupportedMap n) f = absurd (line_is (Plain (UnsupportedMap n)) (tells.formats n f))
  told_is (BadChain n) f = absurd (line_is (Plain (BadChain n)) ((tells.files n).chain f))
  told_is (OutsideVolume n b) f = let line = (tells.files n).outside b f in absurd (line_is (Plain (OutsideVolume n line.0)) line.1)
  told_is (BadDirectory n) f = absurd (line_is (Plain (BadDirectory n)) ((tells.files n).whole.names f))
  told_is NoHome f = absurd f
  told_is NoMemory f = absurd f

  all_mendable : (fault : MountFault) → FaultIsTrue I fault → IsMendable fault
  all_mendable fault f = told_is fault (elim (by_layout I L layout fault f) [ inl home ↦ at_home I L layout fault home | inr seen ↦ seen ])

pub mended_lines_are_sound : MendedLinesAreSound
mended_lines_are_sound I H K J L others lines layout tells each used unshared names = mended_is_sound I H K J (all_mendable I L others lines layout tells each) used unshared names
