use Rattle.std.proofs.Common.{rules, subst, true, ◌≡◌, ℕ, List, IfOk}
use Rattle.std.specs.List.{All, Contains}
use Rattle.ods_mount.specs.declared.fault.MountFault.TheVariants.{DuplicateName}
use Rattle.ods_check.specs.Faults.{TellsAll}
use Rattle.ods_check.specs.declared.fault_line.FaultLine.TheVariants.{Plain}
use Rattle.ods_space.specs.Files.{IsLayoutOf}
use Rattle.ods_repair.specs.Wholly.{AreRenumberedIn}
use Rattle.f11fs.specs.Mended.{LeavesDirectories, Wholly}
use Rattle.f11fs.proofs.MoreVersions.{directories_true, double_left}
use Rattle.f11fs.proofs.Whole.{double_whole}
use Rattle.f11fs.proofs.mending.mend_double.Goals as goal

pub returns-clause-leaves : goal.returns-clause-leaves
returns-clause-leaves c =
    let asked : c.args.wishes.now.kinds.double ≡ true = search rules in
    let layout : IsLayoutOf c.args.image c.in-Some.layout = search rules in
    double_left c.args.wishes.now.kinds.double c.args.image c.in-Some.layout c.in_ok-doubled.doubled.items c.renumber_each.result asked layout
    (directories_true c.args.image c.in-Some.layout c.in_ok-layout.field-0.faults.0 c.in_ok-layout.field-0.faults.1 c.in_ok-doubled.doubled.items layout c.in_ok-layout.ensures.true_of
    (subst (λ lines. All (λ d. Contains lines (Plain (DuplicateName d))) c.in_ok-doubled.doubled.items) c.kept_lines.ensures c.in_ok-doubled.ensures.each))
    (subst (λ (ds : List ℕ). IfOk c.renumber_each.result (LeavesDirectories c.in-Some.layout ds c.args.image)) c.deref.ensures.value c.renumber_each.ensures.leaves)

pub returns-clause-whole : goal.returns-clause-whole
returns-clause-whole c =
    let asked : c.args.wishes.now.kinds.double ≡ true = search rules in
    let layout : IsLayoutOf c.args.image c.in-Some.layout = search rules in
    let tells : TellsAll c.args.image c.in-Some.layout c.in_ok-layout.field-0.sharing.0 c.in_ok-layout.field-0.faults.0 = search rules in
    double_whole c.args.wishes.now.kinds.double c.args.image c.in-Some.layout c.in_ok-layout.field-0.faults.1 c.more.result c.in_ok-layout.field-0.sharing.0 c.in_ok-layout.field-0.faults.0
    c.kept_lines.result.now c.in_ok-doubled.doubled.items _ _ _ _ c.renumber_each.result asked layout tells c.kept_lines.ensures c.more.ensures c.in_ok-doubled.ensures.whole c.tell_more.ensures.left
    (subst (λ (ds : List ℕ). IfOk c.renumber_each.result (λ J. Wholly c.tell_more.new.self.is_left c.renumber_each.new.report.is_left (AreRenumberedIn c.in-Some.layout ds c.args.image J))) c.deref.ensures.value c.renumber_each.ensures.whole)
