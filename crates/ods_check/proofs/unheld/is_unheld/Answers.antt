use Rattle.std.proofs.Common.{sym, ◌∙◌}
use Rattle.ods_check.proofs.unheld.is_unheld.Goals as goal
use Rattle.ods_check.proofs.unheld.is_unheld.Goals.{then-lbn-eq0-via-then-lbn-eq0, then-lbn-eq0-via-else-lbn-eq0+then-is_home_place, then-lbn-eq0-via-else-lbn-eq0+else-is_home_place+then-contains}

pub returns-then-lbn-eq0 : goal.returns-then-lbn-eq0
returns-then-lbn-eq0 c h = elim c.then-lbn-eq0.branch [
  | then-lbn-eq0-via-then-lbn-eq0 w ↦ h.other w.if-lbn-eq0.true
  | then-lbn-eq0-via-else-lbn-eq0+then-is_home_place w ↦ h.place (w.is_home_place.ensures.0 w.if-is_home_place.true)
  | then-lbn-eq0-via-else-lbn-eq0+else-is_home_place+then-contains w ↦
      let held = c.requires.only c.args.lbn (sym w.contains.ensures ∙ w.if-contains.true) in
      h.none held.0 held.1.0 held.1.1
]
