use Rattle.std.proofs.Common.{rules, subst, sym, arith}
use Rattle.std.specs.List.{Contains}
use Rattle.std.proofs.lemmas.List.{take_all}
use Rattle.std.proofs.lemmas.List.Elements.{Contains-get_or}
use Rattle.ods_mount.specs.declared.fault.MountFault.TheVariants.{DuplicateName}
use Rattle.ods_check.specs.declared.fault_line.FaultLine.TheVariants.{Plain}
use Rattle.f11fs.proofs.MoreVersions.{doubled_on}
use Rattle.f11fs.proofs.Whole.{all_told}
use Rattle.f11fs.proofs.mending.doubled_among.Goals as goal

pub loop-line-init : goal.loop-line-init
loop-line-init c = (search rules, λ now. (now, λ d has. let low = has.1 in absurd (omega (arith, low))))

pub loop-line-preserved : goal.loop-line-preserved
loop-line-preserved c = (
  doubled_on c.args.lines.now _ c.loop-line.doubled.items c.push_doubled.new.doubled.items c.loop-line.invariant.0
      (Contains-get_or c.args.lines.now c.loop-line.line-index _ c.loop-line-test.true) c.in_ok-push_doubled.ensures.adds,
  λ now.
      let second = c.in_ok-push_doubled.ensures.whole now in
      let first = c.loop-line.invariant.1 second.0 in
      (first.0, all_told c.args.lines.now c.loop-line.line-index _ c.loop-line.doubled.items c.push_doubled.new.doubled.items c.loop-line-test.true first.1 c.in_ok-push_doubled.ensures.adds second.1),
)

pub returns-clause-whole : goal.returns-clause-whole
returns-clause-whole c = λ now.
    let all = c.loop-line.invariant.1 now in
    (all.0, λ d has. all.1 d (subst (λ l. Contains l (Plain (DuplicateName d))) (sym (take_all c.loop-line.line-index _ c.loop-line-test.false)) has))
