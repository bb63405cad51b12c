use Rattle.std.proofs.Common.{refl, ap, ◌∙◌}
use Rattle.ods_check.specs.declared.finding.Finding.{Finding}
use Rattle.ods_check.specs.declared.finding.Finding.TheVariants.{NamesNone, LostFile, LostHeader, EndPast, HiddenEntries, MarkedDeleted, Locked}
use Rattle.ods_check.specs.Lists.{Adds}
use Rattle.ods_check.specs.Findings.{IsFound, IsOtherFound, IsHeldByNone, id_at, unheld_line}
use Rattle.ods_check.proofs.Adding.{adds_more, adds_most, all_added, told_still}
use Rattle.ods_check.proofs.StillTold.{told_header_still, told_strays_still}
use Rattle.ods_check.proofs.Sweeping.{each_adds, each_told}
use Rattle.ods_check.proofs.Running.{run_adds}
use Rattle.ods_check.proofs.UnheldLines.{unheld_found, unheld_told}
use Rattle.ods_check.proofs.RisingRuns.{found_too, rising_found}
use Rattle.ods_check.proofs.all_findings.findings.Goals as goal
use Rattle.ods_check.proofs.all_findings.findings.Goals.{In_ok-push_each-6}

abbrev Is : In_ok-push_each-6 → Finding → Type 0
Is c = IsFound c.args.disk.now.image.now c.args.disk.now.layout.now

abbrev Other : In_ok-push_each-6 → Finding → Type 0
Other c = IsOtherFound c.args.disk.now.image.now c.args.disk.now.layout.now

-- what is added behind each step
after_locked : (c : In_ok-push_each-6) → Adds (Other c) c.push_each-5.new.told c.push_each-6.new.told
after_locked c = each_adds _ _ _ _ c.in_ok-push_each-6.ensures.each (Other c) (λ n h. (h, refl))

after_marked : (c : In_ok-push_each-6) → Adds (Other c) c.push_each-4.new.told c.push_each-6.new.told
after_marked c = adds_more (Other c) _ _ _ (each_adds _ _ _ _ c.in_ok-push_each-5.ensures.each (Other c) (λ n h. ((h, refl), refl))) (after_locked c)

after_hidden : (c : In_ok-push_each-6) → Adds (Other c) c.push_each-3.new.told c.push_each-6.new.told
after_hidden c = adds_more (Other c) _ _ _ (each_adds _ _ _ _ c.in_ok-push_each-4.ensures.each (Other c) (λ n h. ((h, refl), refl))) (after_marked c)

after_ends : (c : In_ok-push_each-6) → Adds (Other c) c.push_each-2.new.told c.push_each-6.new.told
after_ends c = adds_more (Other c) _ _ _ (each_adds _ _ _ _ c.in_ok-push_each-3.ensures.each (Other c) (λ n h. (h, refl))) (after_hidden c)

after_naming : (c : In_ok-push_each-6) → Adds (Other c) c.push_naming.new.findings c.push_each-6.new.told
after_naming c = adds_more (Other c) _ _ _ (each_adds _ _ _ _ c.in_ok-push_each-2.ensures.each (Other c) (λ n h. ((h, refl), refl))) (after_ends c)

after_unheld : (c : In_ok-push_each-6) → Adds (Other c) c.push_unheld.new.findings c.push_each-6.new.told
after_unheld c = adds_more (Other c) _ _ _ c.in_ok-push_naming.ensures.adds (after_naming c)

after_lost : (c : In_ok-push_each-6) → Adds (Is c) c.push_each.new.told c.push_each-6.new.told
after_lost c =
    let I = c.args.disk.now.image.now in
    let L = c.args.disk.now.layout.now in
    adds_more (Is c) _ _ _ (run_adds (IsHeldByNone I L) unheld_line _ _ c.in_ok-push_unheld.ensures (Is c) (unheld_found I L)) (found_too I L _ _ (after_unheld c))

lost_added : (c : In_ok-push_each-6) → Adds (Other c) c.push_strays.new.findings c.push_each.new.told
lost_added c = each_adds _ _ _ _ c.in_ok-push_each.ensures.each (Other c) (λ n h. ((h, refl), refl))

after_strays : (c : In_ok-push_each-6) → Adds (Is c) c.push_strays.new.findings c.push_each-6.new.told
after_strays c = adds_more (Is c) _ _ _ (found_too c.args.disk.now.image.now c.args.disk.now.layout.now _ _ (lost_added c)) (after_lost c)

after_bad : (c : In_ok-push_each-6) → Adds (Is c) c.push_bad_headers.new.findings c.push_each-6.new.told
after_bad c = adds_more (Is c) _ _ _ (found_too c.args.disk.now.image.now c.args.disk.now.layout.now _ _ c.in_ok-push_strays.ensures.adds) (after_strays c)

all_adds : (c : In_ok-push_each-6) → Adds (Is c) c.new-found.result c.push_each-6.new.told
all_adds c = adds_more (Is c) _ _ _ (found_too c.args.disk.now.image.now c.args.disk.now.layout.now _ _ c.in_ok-push_bad_headers.ensures.adds) (after_bad c)

pub returns-clause-each : goal.returns-clause-each
returns-clause-each c =
    let all = (goal.at.returns-clause-each c).In_ok-push_each-6 in
    all_added (Is all) c.new-found.result c.push_each-6.new.told (ap (λ l. l.0) c.new-found.ensures) (all_adds all)

pub returns-clause-all : goal.returns-clause-all
returns-clause-all c =
    let I = c.args.disk.now.image.now in
    let L = c.args.disk.now.layout.now in
    let all = (goal.at.returns-clause-all c).In_ok-push_each-6 in
    record {
      headers = λ n small. told_header_still (Is all) I L n _ _ (after_bad all) (c.in_ok-push_bad_headers.ensures.all n small);
      strays = told_strays_still (Is all) I L _ _ (after_strays all) c.in_ok-push_strays.ensures.told;
      lost_headers = λ n h. told_still (Is all) _ _ (LostHeader (id_at I L n)) (after_lost all) (each_told _ _ _ _ c.in_ok-push_each.ensures.each n h);
      unheld = unheld_told I L _ _ _ c.in_ok-push_unheld.ensures (found_too I L _ _ (after_unheld all));
      rising = rising_found I L _ _ _ _ (ap (λ l. l.0) c.new-found.ensures) (adds_more (Other all) _ _ _ c.in_ok-push_bad_headers.ensures.adds (adds_more (Other all) _ _ _ c.in_ok-push_strays.ensures.adds (lost_added all))) c.in_ok-push_unheld.ensures (after_unheld all);
      names = λ d line h. told_still (Other all) _ _ (NamesNone d line) (after_naming all) (c.in_ok-push_naming.ensures.names d line h);
      lost = λ wanted n h. told_still (Other all) _ _ (LostFile (id_at I L n)) (after_naming all) (c.in_ok-push_naming.ensures.lost wanted n h);
      ends = λ n h. told_still (Other all) _ _ (EndPast (id_at I L n)) (after_ends all) (each_told _ _ _ _ c.in_ok-push_each-2.ensures.each n h);
      hidden = λ n h. told_still (Other all) _ _ (HiddenEntries n) (after_hidden all) (each_told _ _ _ _ c.in_ok-push_each-3.ensures.each n h);
      marked = λ n h. told_still (Other all) _ _ (MarkedDeleted (id_at I L n)) (after_marked all) (each_told _ _ _ _ c.in_ok-push_each-4.ensures.each n h);
      locked = λ n h. told_still (Other all) _ _ (Locked (id_at I L n)) (after_locked all) (each_told _ _ _ _ c.in_ok-push_each-5.ensures.each n h);
      unnamed = each_told _ _ _ _ c.in_ok-push_each-6.ensures.each;
    }

pub returns-clause-most : goal.returns-clause-most
returns-clause-most c =
    let all = (goal.at.returns-clause-most c).In_ok-push_each-6 in
    adds_most (Is all) c.new-found.result c.push_each-6.new.told (all_adds all) ∙ ap (λ l. l.1) c.new-found.ensures
