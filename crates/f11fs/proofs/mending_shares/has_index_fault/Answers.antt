use Rattle.std.proofs.Common.{sym, subst}
use Rattle.std.specs.List.{Contains}
use Rattle.std.proofs.lemmas.List.{take_all}
use Rattle.ods_check.specs.declared.fault_line.FaultLine.TheVariants.{Index}
use Rattle.f11fs.proofs.Shares.{none_on}
use Rattle.f11fs.proofs.mending_shares.has_index_fault.Goals as goal

pub loop-line-preserved : goal.loop-line-preserved
loop-line-preserved c = none_on c.args.lines.now c.loop-line.line-index _ c.loop-line-test.true c.loop-line.invariant c.if-is_index_fault.ensures

pub returns : goal.returns
returns c = λ why has. c.loop-line.invariant why (subst (λ l. Contains l (Index why)) (sym (take_all c.loop-line.line-index _ c.loop-line-test.false)) has)
