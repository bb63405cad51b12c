use Rattle.std.proofs.Common.{Some, refl, inl, inr, subst, sym}
use Rattle.f11fs.specs.TreeFaults.{IsFault}
use Rattle.f11fs.specs.declared.judging_tree.TreeFault.TheVariants.{Name}
use Rattle.f11fs.proofs.TreesKept.{own_fault, told_before, unplaced}
use Rattle.f11fs.proofs.judging_tree.fault_of.Goals as goal

pub returns-in-Some-BadName : goal.returns-in-Some-BadName
returns-in-Some-BadName c =
    let none = unplaced c.as_str-path.result.now _ c.in_ok-name_fault.field-0 c.is_none.result c.is_none.ensures c.if-is_none.false c.as_str-path.ensures.value c.in_ok-name_fault.ensures in
    own_fault c.args.entry.now c.args.skip none.0 none.1 c.unwrap_or-own.result.now c.in_ok-name_fault-3.field-0 c.in-Some-BadName.field-0 _ c.in-Some-BadName.is c.in_ok-name_fault-3.ensures (inl refl)

pub returns-in-Some : goal.returns-in-Some
returns-in-Some c =
    let none = unplaced c.as_str-path.result.now _ c.in_ok-name_fault.field-0 c.is_none.result c.is_none.ensures c.if-is_none.false c.as_str-path.ensures.value c.in_ok-name_fault.ensures in
    subst (λ w. IsFault c.args.entry.now c.args.skip (Some (Name w))) (sym c.in-Some.why-is)
    (own_fault c.args.entry.now c.args.skip none.0 none.1 c.unwrap_or-own.result.now c.in_ok-name_fault-3.field-0 c.in-Some.why (Some (Name c.in-Some.why)) c.in-Some.is c.in_ok-name_fault-3.ensures (inr refl))

pub returns-in-None : goal.returns-in-None
returns-in-None c =
    let none = unplaced c.as_str-path.result.now _ c.in_ok-name_fault.field-0 c.is_none.result c.is_none.ensures c.if-is_none.false c.as_str-path.ensures.value c.in_ok-name_fault.ensures in
    told_before c.args.entry.now c.args.skip none.0 none.1 _ refl
