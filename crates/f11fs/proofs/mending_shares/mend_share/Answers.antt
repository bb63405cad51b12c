use Rattle.std.proofs.Common.{rules, subst, sym, true, false, [], ◌≡◌, ◌∙◌, ℕ, List, IfOk}
use Rattle.std.specs.List.{All, Contains}
use Rattle.ods_check.specs.Faults.{TellsAll}
use Rattle.ods_check.specs.declared.fault_line.FaultLine.TheVariants.{Index}
use Rattle.ods_check.specs.declared.fault_line.IndexFault.{IndexFault}
use Rattle.ods_space.specs.Files.{IsLayoutOf}
use Rattle.ods_repair.specs.Wholly.{AreUnsharedIn}
use Rattle.f11fs.specs.Mended.{IsToldAsShared, LeavesFiles, Wholly}
use Rattle.f11fs.proofs.Shares.{good_index, none_left, none_whole, share_left, share_whole, shares_true}
use Rattle.f11fs.proofs.mending_shares.mend_share.Goals as goal

pub returns-then-not-are_all_kept-clause-leaves : goal.returns-then-not-are_all_kept-clause-leaves
returns-then-not-are_all_kept-clause-leaves c = none_left c.args.wishes.now.kinds.share c.args.image c.in-Some.layout (search rules) (search rules)

pub returns-then-len-eq0-clause-leaves : goal.returns-then-len-eq0-clause-leaves
returns-then-len-eq0-clause-leaves c = none_left c.args.wishes.now.kinds.share c.args.image c.in-Some.layout (search rules) (search rules)

pub returns-then-has_index_fault-clause-leaves : goal.returns-then-has_index_fault-clause-leaves
returns-then-has_index_fault-clause-leaves c = none_left c.args.wishes.now.kinds.share c.args.image c.in-Some.layout (search rules) (search rules)

pub returns-then-len-eq0-clause-whole : goal.returns-then-len-eq0-clause-whole
returns-then-len-eq0-clause-whole c =
    let asked : c.args.wishes.now.kinds.share ≡ true = search rules in
    let layout : IsLayoutOf c.args.image c.in-Some.layout = search rules in
    let tells : TellsAll c.args.image c.in-Some.layout c.in_ok-layout.field-0.sharing.0 c.in_ok-layout.field-0.faults.0 = search rules in
    let kept : c.are_all_kept.result ≡ true = search rules in
    none_whole c.args.wishes.now.kinds.share c.args.image c.in-Some.layout c.in_ok-layout.field-0.sharing.0 c.in_ok-layout.field-0.faults.0 c.in_ok-files.files.items _ _ asked layout tells
    (c.are_all_kept.ensures.others kept c.in_ok-layout.ensures.most.1) (search rules)
    (subst (λ lines. Wholly c.args.report.now.is_left c.sharing_files.new.report.is_left ((n : ℕ) → IsToldAsShared lines n → Contains c.in_ok-files.files.items n))
    (c.kept_lines-lines.ensures ∙ c.are_all_kept.ensures.lines kept) c.in_ok-files.ensures.whole)

pub unshare_each-requires-clause-index : goal.unshare_each-requires-clause-index
unshare_each-requires-clause-index c =
    let tells : TellsAll c.args.image c.in-Some.layout c.in_ok-layout.field-0.sharing.0 c.in_ok-layout.field-0.faults.0 = search rules in
    let kept : c.are_all_kept.result ≡ true = search rules in
    let none : (why : IndexFault) → ¬ Contains c.kept_lines-lines.result.now (Index why) = search rules in
    good_index c.args.image c.in-Some.layout c.in_ok-layout.field-0.sharing.0 c.in_ok-layout.field-0.faults.0 tells
    (subst (λ lines. (why : IndexFault) → ¬ Contains lines (Index why)) (c.kept_lines-lines.ensures ∙ c.are_all_kept.ensures.lines kept) none)

pub returns-clause-leaves : goal.returns-clause-leaves
returns-clause-leaves c =
    let asked : c.args.wishes.now.kinds.share ≡ true = search rules in
    let layout : IsLayoutOf c.args.image c.in-Some.layout = search rules in
    let kept : c.are_all_kept.result ≡ true = search rules in
    share_left c.args.wishes.now.kinds.share c.args.image c.in-Some.layout c.in_ok-files.files.items c.unshare_each.result asked layout
    (shares_true c.args.image c.in-Some.layout c.in_ok-layout.field-0.faults.0 c.in_ok-files.files.items layout c.in_ok-layout.ensures.lines
    (subst (λ lines. All (IsToldAsShared lines) c.in_ok-files.files.items) (c.kept_lines-lines.ensures ∙ c.are_all_kept.ensures.lines kept) c.in_ok-files.ensures.each))
    (subst (λ (ns : List ℕ). IfOk c.unshare_each.result (LeavesFiles c.in-Some.layout ns c.args.image)) c.deref.ensures.value c.unshare_each.ensures.leaves)

pub returns-clause-whole : goal.returns-clause-whole
returns-clause-whole c =
    let asked : c.args.wishes.now.kinds.share ≡ true = search rules in
    let layout : IsLayoutOf c.args.image c.in-Some.layout = search rules in
    let tells : TellsAll c.args.image c.in-Some.layout c.in_ok-layout.field-0.sharing.0 c.in_ok-layout.field-0.faults.0 = search rules in
    let kept : c.are_all_kept.result ≡ true = search rules in
    share_whole c.args.wishes.now.kinds.share c.args.image c.in-Some.layout c.in_ok-layout.field-0.sharing.0 c.in_ok-layout.field-0.faults.0 c.in_ok-files.files.items _ _ _
    c.unshare_each.result asked layout tells (c.are_all_kept.ensures.others kept c.in_ok-layout.ensures.most.1)
    (subst (λ lines. Wholly c.args.report.now.is_left c.sharing_files.new.report.is_left ((n : ℕ) → IsToldAsShared lines n → Contains c.in_ok-files.files.items n))
    (c.kept_lines-lines.ensures ∙ c.are_all_kept.ensures.lines kept) c.in_ok-files.ensures.whole)
    (subst (λ (ns : List ℕ). IfOk c.unshare_each.result (λ J. Wholly c.sharing_files.new.report.is_left c.unshare_each.new.report.is_left (AreUnsharedIn c.in-Some.layout ns c.args.image J))) c.deref.ensures.value c.unshare_each.ensures.whole)
