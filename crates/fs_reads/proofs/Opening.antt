-- Images that are opened, sound or not.
use Rattle.std.proofs.Common.{◌≡◌, ℕ, Bool, true, false, List, Option, Result, Ok, sym, subst}
use Rattle.std.specs.Prelude.{MatchBool}
use Rattle.ods_mount.specs.Faults.{FaultIsTrue, IsSound}
use Rattle.ods_space.specs.Files.{IsReadable}
use Rattle.ods_mount.specs.declared.fault.MountFault.{MountFault}
use Rattle.fs_host.specs.declared.containers.Extent.{Extent}
use Rattle.fs_reads.specs.Readable.{IsJudged, IsReadableOf, Opened}
use Rattle.fs_reads.specs.declared.volume.VolumeFault.{VolumeFault}

-- a mount takes the image
pub judged_sound : (I : List (List ℕ)) (r : Opened) → r.image ≡ I → IsReadable I r.layout → r.sound ≡ true → IsSound I → IsJudged I r
judged_sound I r same readable sound holds = (same, readable, subst (λ b. MatchBool b (IsSound I) ((fault : MountFault) × FaultIsTrue I fault)) (sym sound) holds)

-- a mount answers this fault
pub judged_refused : (I : List (List ℕ)) (r : Opened) (fault : MountFault) → r.image ≡ I → IsReadable I r.layout → r.sound ≡ false → FaultIsTrue I fault → IsJudged I r
judged_refused I r fault same readable sound holds = (same, readable, subst (λ b. MatchBool b (IsSound I) ((known : MountFault) × FaultIsTrue I known)) (sym sound) (fault, holds))

-- the volume of the image that was read, by the fields of its value
pub readable_by : (opened : Result (List (List ℕ) × Option Extent) VolumeFault) (I : List (List ℕ)) (extent : Option Extent) (p q : Opened) → opened ≡ Ok (I, extent) → p ≡ q → IsJudged I q → IsReadableOf opened p
readable_by opened I extent p q is same judged =
    subst (λ (v : Opened). IsReadableOf opened v) (sym same)
    (extent, subst (λ (J : List (List ℕ)). opened ≡ Ok (J, extent)) (sym judged.0) is, subst (λ (J : List (List ℕ)). IsJudged J q) (sym judged.0) judged)
