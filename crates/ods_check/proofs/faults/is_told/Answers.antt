use Rattle.std.proofs.Common.{◌≡◌, true, false, Some, slice_get, inl, inr, sym, ap, ◌∙◌, arith}
use Rattle.std.proofs.lemmas.Bool.{cases_lt}
use Rattle.std.proofs.lemmas.Option.{get_or_from_slice_get, slice_get-get_or}
use Rattle.ods_check.specs.declared.fault_line.FaultLine.TheVariants.{Plain}
use Rattle.ods_check.specs.Lines.{fault_of}
use Rattle.ods_check.proofs.Adding.{some_within}
use Rattle.ods_mount.specs.declared.fault.MountFault.TheVariants.{NoHome}
use Rattle.ods_check.proofs.faults.is_told.Goals as goal

pub loop-i-preserved : goal.loop-i-preserved
loop-i-preserved c j low at = elim (cases_lt j c.loop-i.i) [
  | inl less ↦ c.loop-i.invariant j less at
  | inr more ↦
      let e : c.loop-i.i ≡ j = omega arith in
      let x = Plain c.args.known in
      let is = get_or_from_slice_get c.args.faults.now c.loop-i.i x (Plain NoHome) (ap (slice_get c.args.faults.now) e ∙ at) in
      let same = c.fault.ensures ∙ ap fault_of is in
      let clash : true ≡ false = sym (c.is_same.ensures same) ∙ c.if-is_same.false in
      absurd (cc)
]

pub returns-then-is_same : goal.returns-then-is_same
returns-then-is_same c = some_within c.args.faults.now c.loop-i.i c.loop-i-test.true

pub returns : goal.returns
returns c (k, within, found) =
    let end = c.loop-i-test.false in
    c.loop-i.invariant k (omega arith) (slice_get-get_or c.args.faults.now k (Plain c.args.known) within ∙ ap Some found)
