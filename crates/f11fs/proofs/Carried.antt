-- The volume of an image in a new one.
use Rattle.std.proofs.Common.{◌≡◌, ℕ, List, [], Bool, true, false, subst, Option, MatchBool, if◌then◌else◌, length}
use Rattle.fs_host.specs.Found.{IsRemark}
use Rattle.fs_host.specs.declared.containers.Extent.{Extent}
use Rattle.fs_host.specs.declared.layers.Layered.{Layered}
use Rattle.fs_reads.specs.Volumes.{LacksBlocks}
use Rattle.f11fs.specs.Stores.{HasEmptyTrack, IsConverted}

-- what is written is what was read
pub converted : (alone lacks : Bool) (l : Layered) (remark : Option Extent) (Has : Layered → Type 0) (Made : List (List ℕ) → List ℕ → Type 0) (behind : List ℕ) → Has l
    → IsRemark l.contained.length (length l.contained.image) l.contained.behind.items remark → MatchBool lacks (LacksBlocks remark l.contained.image) (¬ LacksBlocks remark l.contained.image) → lacks ≡ false
    → (alone ≡ false → HasEmptyTrack l.floppy) → behind ≡ (if alone then [] else l.contained.behind.items) → Made l.contained.image behind → IsConverted alone Has Made
converted alone true l remark Has Made behind has is whole none track same made = absurd (cc)
converted alone false l remark Has Made behind has is whole none track same made = (l, remark, has, is, whole, track, subst (λ (b : List ℕ). Made l.contained.image b) same made)

-- the first track was looked at
pub looked : (has : Bool) (E : Type 0) → MatchBool has (¬ E) E → has ≡ false → E
looked true E is none = absurd (cc)
looked false E is none = is

-- the volume is written alone
pub left_out : (alone : Bool) (E : Type 0) → alone ≡ true → alone ≡ false → E
left_out true E is none = absurd (cc)
left_out false E is none = absurd (cc)

-- the bytes after the volume
pub without : (alone : Bool) (bytes items : List ℕ) → alone ≡ true → bytes ≡ [] → bytes ≡ (if alone then [] else items)
without true bytes items is none = none
without false bytes items is none = absurd (cc)

pub with_them : (alone : Bool) (bytes items : List ℕ) → alone ≡ false → bytes ≡ items → bytes ≡ (if alone then [] else items)
with_them true bytes items is same = absurd (cc)
with_them false bytes items is same = same
