use Rattle.std.proofs.Common.{rules, ◌≡◌, IfOk, ℕ, length, take, [], true, arith, inl, IfSome, List, Option, Some, None, Result, Ok, Err}
use Rattle.std.proofs.lemmas.List.{nil_from_length, length-take}
use Rattle.ods_space.specs.Files.{IsLayoutOf}
use Rattle.ods_space.specs.Layout.{VolumeLayout}
use Rattle.ods_check.specs.Faults.{AreOthers, TellsAll}
use Rattle.ods_mount.specs.Faults.{IsSound}
use Rattle.ods_shell.specs.declared.status.Status.{Status}
use Rattle.ods_shell.specs.declared.status.Status.TheVariants as status
use Rattle.fs_reads.specs.Ends.{EndsCheck}
use Rattle.fs_reads.proofs.checking.tell_all.Goals as goal

-- what is said of a sound image ends a check that found it sound
ends : {E Holds : Type 0} (r : Result Status E) → IfOk r (λ s. s ≡ status.Done) → Holds → IfOk r (EndsCheck Holds)
ends (Ok s) done holds = inl (done, holds)
ends (Err why) done holds = tt

-- the layout that a check found is one of the image
only_layout : (I : List (List ℕ)) (P Q : VolumeLayout → Type 0) (found : Option VolumeLayout) → IfSome found (λ L. IsLayoutOf I L × P L × Q L) → IfSome found (IsLayoutOf I)
only_layout I P Q (Some L) all = all.0
only_layout I P Q None none = tt

pub tell_each-requires : goal.tell_each-requires
tell_each-requires g c =
    let I = c.args.image.now in
    let found = c.in_ok-checked.checked in
    only_layout I (λ L. TellsAll I L found.sharing.0 found.faults.0) (λ L. AreOthers I L found.faults found.sharing.0) found.layout c.in_ok-checked.ensures.layout

pub returns-then-is_empty : goal.returns-then-is_empty
returns-then-is_empty g c =
    let few : length (take c.in_ok-checked.checked.faults.1 c.in_ok-checked.checked.faults.0) ≡ 0 = c.in_ok-tell_each.ensures (search rules) in
    let told : c.in_ok-checked.checked.faults.0 ≡ [] = nil_from_length _ (omega (arith, few, c.in_ok-checked.ensures.most.0, length-take c.in_ok-checked.checked.faults.1 c.in_ok-checked.checked.faults.0)) in
    ends c.tell_sound.result c.tell_sound.ensures (c.in_ok-checked.ensures.sound told)
