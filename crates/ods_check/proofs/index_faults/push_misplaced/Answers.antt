use Rattle.std.proofs.Common.{◌≡◌, ◌+◌, ℕ, inl, inr, refl, subst, arith}
use Rattle.std.proofs.lemmas.Bool.{cases_order}
use Rattle.std.specs.List.{Contains}
use Rattle.ods_check.specs.declared.fault_line.FaultLine.TheVariants.{Index}
use Rattle.ods_check.specs.declared.fault_line.IndexFault.TheVariants.{Misplaced}
use Rattle.ods_check.specs.Lines.{IsLineOf}
use Rattle.ods_check.proofs.Adding.{adds_one, told_one}
use Rattle.ods_check.specs.Turns.{turn_of}
use Rattle.ods_check.proofs.Turning.{turn_none, turn_one}
use Rattle.ods_check.proofs.index_faults.push_misplaced.Goals as goal

pub returns-in_default-clause-some : goal.returns-in_default-clause-some
returns-in_default-clause-some c i h = absurd (c.in_default.ensures.none i h)

pub returns-in_default-clause-first : goal.returns-in_default-clause-first
returns-in_default-clause-first c v h = absurd (c.in_default.ensures.none h.0 h.2)

pub returns-clause-adds : goal.returns-clause-adds
returns-clause-adds c =
    let at = c.in-Some.at in
    let first = c.in-Some.ensures.some in
    adds_one (IsLineOf c.args.disk.now.image.now c.args.disk.now.layout.now) _ _ (Index (Misplaced (at + 3))) c.in_ok-push.ensures (at, refl, first.0, first.1)

pub returns-clause-some : goal.returns-clause-some
returns-clause-some c i h = (c.in-Some.at + 3, told_one _ _ (Index (Misplaced (c.in-Some.at + 3))) c.in_ok-push.ensures)

pub returns-clause-first : goal.returns-clause-first
returns-clause-first c v h =
    let at = c.in-Some.at in
    let first = c.in-Some.ensures.some in
    let e = h.1 in
    let same : at ≡ h.0 = elim (cases_order at h.0) [
      | inl is ↦ is
      | inr (inl below) ↦ absurd (h.3 at below first.0)
      | inr (inr above) ↦ absurd (first.1 h.0 above h.2)
    ] in
    let place : at + 3 ≡ v = omega arith in
    let P : ℕ → Type 0 = λ k. Contains c.push.new.self.0 (Index (Misplaced k)) in
    subst P place (told_one _ _ (Index (Misplaced (at + 3))) c.in_ok-push.ensures)

pub returns-in_default-clause-once : goal.returns-in_default-clause-once
returns-in_default-clause-once c = turn_none turn_of _ _ c.args.faults.now

pub returns-clause-once : goal.returns-clause-once
returns-clause-once c = turn_one turn_of 1 2 _ _ (Index (Misplaced (c.in-Some.at + 3))) c.in_ok-push.ensures (omega arith) (omega arith)
