use Rattle.std.proofs.Common.{◌≡◌, ◌∙◌, inl, inr, sym, ap, true, false}
use Rattle.f11fs.specs.declared.repair_lines.Report.{Report}
use Rattle.f11fs.proofs.mending.mark_held.Goals.{in-Ok+in_ok-push_used-in-Ok, in-Err+in_ok-tell_left-in-Err}
use Rattle.f11fs.proofs.mending.mark_held.Goals as goal

pub returns-clause-leaves : goal.returns-clause-leaves
returns-clause-leaves c = (
  c.args.layout.now,
  c.requires,
  elim c.match-mark_used.branch [
    | in-Ok+in_ok-push_used-in-Ok w ↦ inl (w.in-Ok.blocks.items, w.in-Ok.ensures.used)
    | in-Err+in_ok-tell_left-in-Err w ↦ inr (w.in-Err.ensures.unchanged, (w.in-Err.fault, w.in_ok-tell_left-in-Err.ensures.reported, w.in-Err.ensures.refused))
  ],
)

pub returns-clause-whole : goal.returns-clause-whole
returns-clause-whole c = elim c.match-mark_used.branch [
  | in-Ok+in_ok-push_used-in-Ok w ↦ λ now. (sym (ap (λ (r : Report). r.is_left) w.report-is) ∙ now, (c.args.layout.now, w.in-Ok.blocks.items, c.requires, w.in-Ok.ensures.used))
  | in-Err+in_ok-tell_left-in-Err w ↦ λ now. let clash : true ≡ false = sym w.tell_left.ensures.left ∙ sym (ap (λ (r : Report). r.is_left) w.report-is) ∙ now in absurd (cc clash)
]
