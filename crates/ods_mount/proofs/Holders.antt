-- Which files hold a block.
use Rattle.std.proofs.Common.{◌≡◌, ◌≢◌, ℕ, ◌+◌, ◌<◌, ◌≤◌, List, [], length, inl, inr, refl, sym, subst, arith}
use Rattle.ods_space.specs.Layout.{VolumeLayout}
use Rattle.ods_space.specs.Chain.{index_for}
use Rattle.ods_space.specs.Files.{IsFile, HasBlocks, Holds, AreInside}
use Rattle.ods_space.specs.Faults.{IsChainFault}
use Rattle.ods_space.specs.declared.fault.ChainFault.{ChainFault}
use Rattle.ods_space.specs.declared.fault.ChainFault.TheVariants.{BadChain, OutsideVolume, NoMemory}
use Rattle.ods_space.proofs.Chains.{same_chain}
use Rattle.ods_mount.specs.Tables.{has, IsNoted, IsThere, IsTable}
use Rattle.ods_space.specs.declared.fault.LayoutFault.TheVariants.{Chain}
use Rattle.ods_mount.specs.declared.fault.MountFault.{MountFault}
use Rattle.ods_mount.specs.declared.fault.MountFault.TheVariants.{DoublyUsed}
use Rattle.ods_mount.specs.Faults.{IsTrueOf}
use Rattle.ods_mount.specs.Checks.{IsFault, IsHeldTwice, mount_fault_of}
use Rattle.ods_mount.proofs.Each.{holds_at, held_at}
use Rattle.ods_mount.proofs.Tables.{table_done}
use Rattle.ods_mount.proofs.Soundness.{all_at}

-- a file with no whole chain holds nothing
pub not_held : (I : List (List ℕ)) (L : VolumeLayout) (n b : ℕ) (fault : ChainFault) → IsChainFault I L n fault → fault ≢ NoMemory → (v : ℕ) → ¬ Holds I L n v b
not_held I L n b BadChain none some v held = none held.file.others held.blocks held.file.whole.chain
not_held I L n b (OutsideVolume lbn) (ns, bs, chain, one, past) some v held =
    let same = same_chain I L.home (index_for L n) [] 0 n ns bs held.file.others held.blocks chain held.file.whole.chain in
    let within : lbn < length I = all_at bs (length I) lbn (let P : List ℕ → Type 0 = λ xs. AreInside I xs in subst P (sym same.1) held.file.whole.inside) one in
    omega arith
not_held I L n b NoMemory none some v held = some refl

-- files are numbered from 1
pub holder_some : (I : List (List ℕ)) (L : VolumeLayout) (n v b : ℕ) → Holds I L n v b → 1 ≤ n
holder_some I L n v b held = held.file.file.first

-- a block that the table has already is held twice
pub held_twice : (I : List (List ℕ)) (L : VolumeLayout) (n : ℕ) (blocks set : List ℕ) (lbn : ℕ) → HasBlocks I L n blocks → IsTable (Holds I L) n set → IsThere set blocks lbn → IsHeldTwice I L n lbn
held_twice I L n blocks set lbn has t found =
    let i = found.index in
    let own = holds_at I L n blocks i lbn has found.named in
    elim found.there [
      | inl before ↦
          let o = t.only lbn before in
          record { vbn = i + 1; own = own; owner = o.0; other = o.1; held = o.3; before = inl o.2 }
      | inr (j, low, at) ↦
          let apart : i + 1 ≢ j + 1 = λ e. omega arith in
          record { vbn = i + 1; own = own; owner = n; other = j + 1; held = holds_at I L n blocks j lbn has at; before = inr (refl, apart) }
    ]

-- the fault with a file before it
pub double_with : (I : List (List ℕ)) (L : VolumeLayout) (n lbn m v : ℕ) → IsHeldTwice I L n lbn → m < n → Holds I L m v lbn → IsTrueOf I L (DoublyUsed m n lbn)
double_with I L n lbn m v twice low held =
    let apart : m ≢ n = λ e. omega arith in
    (v, twice.vbn, held, twice.own, inl apart)

-- no file before it has the block, so it has it twice itself
pub double_own : (I : List (List ℕ)) (L : VolumeLayout) (n lbn : ℕ) → IsHeldTwice I L n lbn → ((m v : ℕ) → m < n → ¬ Holds I L m v lbn) → IsTrueOf I L (DoublyUsed n n lbn)
double_own I L n lbn twice none = elim twice.before [
  | inl low ↦ absurd (none twice.owner twice.other low twice.held)
  | inr (same, apart) ↦
      let P : ℕ → Type 0 = λ x. Holds I L x twice.other lbn in
      (twice.vbn, twice.other, twice.own, subst P same twice.held, inr apart)
]

-- with the blocks of file n the table is that of one file more
pub table_held : (I : List (List ℕ)) (L : VolumeLayout) (n : ℕ) (blocks old new : List ℕ) → HasBlocks I L n blocks → IsTable (Holds I L) n old → IsNoted old new blocks (length blocks) → IsTable (Holds I L) (n + 1) new
table_held I L n blocks old new has t noted = table_done (Holds I L) n blocks old new t noted (λ j. j + 1) (λ v b held. held_at I L n blocks v b has held) (λ j b at. holds_at I L n blocks j b has at)

-- no file has a number above H.FMAX
pub file_small : (I : List (List ℕ)) (L : VolumeLayout) (n : ℕ) → IsFile I L n → n ≤ L.home.max_files
file_small I L n file = let last = file.last in omega arith

-- the fault of a chain, in words of the mount
pub chain_is_fault : (I : List (List ℕ)) (L : VolumeLayout) (n : ℕ) (fault : ChainFault) (e : MountFault) → IsFile I L n → IsChainFault I L n fault → e ≡ mount_fault_of (Chain n fault) → IsFault I L e
chain_is_fault I L n fault e file true_of is some =
    let P : MountFault → Type 0 = λ x. IsFault I L x in
    subst P (sym is) (by fault true_of) some
  where
    by : (f : ChainFault) → IsChainFault I L n f → IsFault I L (mount_fault_of (Chain n f))
    by BadChain none other = (file, inl none)
    by (OutsideVolume lbn) f other = (file, f.0, f.1, f.2, f.3, f.4)
    by NoMemory f other = absurd (other refl)
