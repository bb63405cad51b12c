use Rattle.std.proofs.Common.{◌≡◌, ◌∙◌, inl, inr, sym, ap, subst, true, false}
use Rattle.ods_mount.specs.declared.fault.MountFault.TheVariants.{BadIndex}
use Rattle.ods_mount.specs.Faults.{HasBadIndex}
use Rattle.ods_space.specs.Files.{IsLayoutOf}
use Rattle.f11fs.specs.declared.repair_lines.Report.{Report}
use Rattle.f11fs.proofs.Whole.{none_more}
use Rattle.f11fs.proofs.mending_shares.unshare_one.Goals.{in-Ok+in_ok-tell_shared-in-Ok, in-Err+in_ok-tell_left-in-Err}
use Rattle.f11fs.proofs.mending_shares.unshare_one.Goals as goal

pub returns-clause-left : goal.returns-clause-left
returns-clause-left c = elim c.match-unshare.branch [
  | in-Ok+in_ok-tell_shared-in-Ok w ↦ inl (w.in-Ok.told, w.in-Ok.ensures.own)
  | in-Err+in_ok-tell_left-in-Err w ↦ inr (w.in-Err.ensures.unchanged, (w.in-Err.fault, w.in_ok-tell_left-in-Err.ensures.reported, w.in-Err.ensures.refused))
]

pub returns-clause-whole : goal.returns-clause-whole
returns-clause-whole c = elim c.match-unshare.branch [
  | in-Ok+in_ok-tell_shared-in-Ok w ↦ λ now.
      let both = none_more w.in-Ok.told.left c.args.report.now.is_left w.tell_shared.new.self.is_left w.tell_shared.ensures.left (sym (ap (λ (r : Report). r.is_left) w.report-is) ∙ now) in
      (both.1, (w.in-Ok.told, w.in-Ok.ensures.own, both.0))
  | in-Err+in_ok-tell_left-in-Err w ↦ λ now. let clash : true ≡ false = sym w.tell_left.ensures.left ∙ sym (ap (λ (r : Report). r.is_left) w.report-is) ∙ now in absurd (cc clash)
]

pub returns-clause-layout : goal.returns-clause-layout
returns-clause-layout c = elim c.match-unshare.branch [
  | in-Ok+in_ok-tell_shared-in-Ok w ↦ w.in-Ok.ensures.own.moves.layout
  | in-Err+in_ok-tell_left-in-Err w ↦ subst (λ I. IsLayoutOf I c.args.layout.now) (sym w.in-Err.ensures.unchanged) c.requires.layout
]

pub returns-clause-index : goal.returns-clause-index
returns-clause-index c = elim c.match-unshare.branch [
  | in-Ok+in_ok-tell_shared-in-Ok w ↦ λ bad. c.requires.index (w.in-Ok.ensures.own.moves.faults BadIndex bad)
  | in-Err+in_ok-tell_left-in-Err w ↦ λ bad. c.requires.index (subst (λ I. HasBadIndex I c.args.layout.now) w.in-Err.ensures.unchanged bad)
]
