use Rattle.std.proofs.Common.{◌≡◌, false, ℕ, List, Some, inr, slice_get, subst, ◌+◌, inl, refl, arith}
use Rattle.ods_mount.specs.declared.fault.MountFault.TheVariants.{BadChain}
use Rattle.ods_mount.specs.Tables.{has}
use Rattle.ods_check.specs.declared.fault_line.FaultLine.TheVariants.{Plain}
use Rattle.ods_check.specs.Lines.{IsLineOf}
use Rattle.ods_check.specs.Marks.{IsFirstIn}
use Rattle.ods_check.proofs.Adding.{adds_one, told_one}
use Rattle.ods_check.proofs.SharedHeaders.{shares, shares_none}
use Rattle.ods_check.specs.Turns.{turn_of, file_turn}
use Rattle.ods_check.proofs.Turning.{turn_none, turn_one}
use Rattle.ods_check.proofs.chains.push_sharing.Goals as goal

pub returns-in_default-clause-shares : goal.returns-in_default-clause-shares
returns-in_default-clause-shares c s =
    let set = c.args.shared.now in
    let P : List ℕ → Type 0 = λ xs. (j x : ℕ) → slice_get xs j ≡ Some x → has set x ≡ false in
    absurd (shares_none c.args.disk.now.image.now c.args.disk.now.layout.now c.args.number c.in_ok-headers.headers.items set c.in_ok-headers.ensures.headers c.requires.shared c.requires.file
    (subst P c.deref.ensures.value c.in_default.ensures.none) s)

pub returns-clause-adds : goal.returns-clause-adds
returns-clause-adds c =
    let set = c.args.shared.now in
    let x = c.in-Some.field-0 in
    let P : List ℕ → Type 0 = λ xs. IsFirstIn xs set x in
    adds_one (IsLineOf c.args.disk.now.image.now c.args.disk.now.layout.now) _ _ (Plain (BadChain c.args.number)) c.in_ok-push.ensures
    (c.requires.file, inr (shares c.args.disk.now.image.now c.args.disk.now.layout.now c.args.number c.in_ok-headers.headers.items set c.in_ok-headers.ensures.headers c.requires.shared x (subst P c.deref.ensures.value c.in-Some.ensures.some)))

pub returns-clause-shares : goal.returns-clause-shares
returns-clause-shares c s = told_one _ _ (Plain (BadChain c.args.number)) c.in_ok-push.ensures

pub returns-in_default-clause-once : goal.returns-in_default-clause-once
returns-in_default-clause-once c = turn_none turn_of _ _ c.args.faults.now

pub returns-in_default-clause-only : goal.returns-in_default-clause-only
returns-in_default-clause-only c = inl refl

pub returns-clause-once : goal.returns-clause-once
returns-clause-once c = turn_one turn_of (file_turn c.args.number) (file_turn c.args.number + 1) _ _ (Plain (BadChain c.args.number)) c.in_ok-push.ensures (omega arith) (omega arith)

pub returns-clause-only : goal.returns-clause-only
returns-clause-only c =
    let set = c.args.shared.now in
    let x = c.in-Some.field-0 in
    let P : List ℕ → Type 0 = λ xs. IsFirstIn xs set x in
    inr (shares c.args.disk.now.image.now c.args.disk.now.layout.now c.args.number c.in_ok-headers.headers.items set c.in_ok-headers.ensures.headers c.requires.shared x (subst P c.deref.ensures.value c.in-Some.ensures.some))
