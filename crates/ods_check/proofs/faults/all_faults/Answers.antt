use Rattle.std.proofs.Common.{ap, ◌∙◌, rules, sym, subst, arith, ◌≡◌}
use Rattle.std.specs.List.{All}
use Rattle.ods_check.specs.declared.fault_line.FaultLine.TheVariants.{Plain}
use Rattle.ods_check.specs.Lines.{IsLineOf, LineIsTrue}
use Rattle.ods_check.proofs.Adding.{adds_more, adds_as, adds_either, adds_most, all_added}
use Rattle.ods_check.proofs.Lines.{line_by_layout, all_faults_true}
use Rattle.ods_check.proofs.Telling.{told_all_still}
use Rattle.ods_check.proofs.Others.{others_still}
use Rattle.ods_check.specs.Lists.{AreDistinct}
use Rattle.ods_check.specs.Turns.{turn_of, last_turn}
use Rattle.ods_check.proofs.Turning.{turn_once, distinct_nil}
use Rattle.ods_check.proofs.faults.all_faults.Goals as goal
use Rattle.ods_check.proofs.faults.all_faults.Goals.{In_ok-tell-in-Ok}

-- each line that is told in the end is true
lines_true : (c : In_ok-tell-in-Ok) → All (LineIsTrue c.args.image.now) c.tell.new.faults.0
lines_true c =
    let I = c.args.image.now in
    let L = c.in-Ok.found in
    let start = c.new-faults.result in
    let middle = c.push_all.new.faults in
    let end = c.tell.new.faults in
    let added = adds_as (IsLineOf I L) (LineIsTrue I) start middle (line_by_layout I L c.in-Ok.ensures.layout) c.in_ok-push_all-in-Ok.ensures.adds in
    let told = adds_either (LineIsTrue I) middle end (Plain c.args.known) c.in_ok-tell-in-Ok.ensures.added c.requires in
    all_added (LineIsTrue I) start end (ap (λ l. l.0) c.new-faults.ensures) (adds_more (LineIsTrue I) start middle end added told)

pub returns-in_ok-tell-in-Ok-clause-lines : goal.returns-in_ok-tell-in-Ok-clause-lines
returns-in_ok-tell-in-Ok-clause-lines c = lines_true (goal.at.returns-in_ok-tell-in-Ok-clause-lines c).In_ok-tell-in-Ok

pub returns-in_ok-tell-in-Ok-clause-true_of : goal.returns-in_ok-tell-in-Ok-clause-true_of
returns-in_ok-tell-in-Ok-clause-true_of c = all_faults_true c.args.image.now c.tell.new.faults.0 (lines_true (goal.at.returns-in_ok-tell-in-Ok-clause-true_of c).In_ok-tell-in-Ok)

pub returns-in_ok-tell-in-Ok-clause-layout : goal.returns-in_ok-tell-in-Ok-clause-layout
returns-in_ok-tell-in-Ok-clause-layout c =
    let I = c.args.image.now in
    let L = c.in-Ok.found in
    let middle = c.push_all.new.faults in
    let end = c.tell.new.faults in
    let told = adds_either (LineIsTrue I) middle end (Plain c.args.known) c.in_ok-tell-in-Ok.ensures.added c.requires in
    (c.in-Ok.ensures.layout, told_all_still (LineIsTrue I) I L _ middle end told c.in_ok-push_all-in-Ok.ensures.all, others_still I L (LineIsTrue I) middle end _ told c.in_ok-push_all-in-Ok.ensures.others)

pub returns-in_ok-tell-in-Ok-clause-most : goal.returns-in_ok-tell-in-Ok-clause-most
returns-in_ok-tell-in-Ok-clause-most c =
    let I = c.args.image.now in
    let L = c.in-Ok.found in
    let start = c.new-faults.result in
    let middle = c.push_all.new.faults in
    let end = c.tell.new.faults in
    let told = adds_either (LineIsTrue I) middle end (Plain c.args.known) c.in_ok-tell-in-Ok.ensures.added c.requires in (
      adds_most (LineIsTrue I) middle end told ∙ adds_most (IsLineOf I L) start middle c.in_ok-push_all-in-Ok.ensures.adds ∙ ap (λ l. l.1) c.new-faults.ensures,
      c.in_ok-push_all-in-Ok.ensures.most ∙ ap (λ l. l.1) c.new-sharing.ensures,
    )

pub returns-in_ok-tell-in-Ok-clause-once : goal.returns-in_ok-tell-in-Ok-clause-once
returns-in_ok-tell-in-Ok-clause-once c = c.in_ok-tell-in-Ok.ensures.once (turn_once turn_of 0 last_turn c.new-faults.result c.push_all.new.faults (ap (λ l. l.0) c.new-faults.ensures) c.in_ok-push_all-in-Ok.ensures.once)

pub returns-in_ok-tell-in-Err-clause-once : goal.returns-in_ok-tell-in-Err-clause-once
returns-in_ok-tell-in-Err-clause-once c = c.in_ok-tell-in-Err.ensures.once (subst AreDistinct (sym (ap (λ l. l.0) c.new-faults.ensures)) distinct_nil)

pub returns-in_ok-tell-in-Err-clause-none : goal.returns-in_ok-tell-in-Err-clause-none
returns-in_ok-tell-in-Err-clause-none c = c.in-Err.ensures.none (search rules)

pub tell-requires : goal.tell-requires
tell-requires c =
    let I = c.args.image.now in
    let L = c.in-Ok.found in
    let most : c.push_all.new.faults.1 ≡ 10000 = adds_most (IsLineOf I L) c.new-faults.result c.push_all.new.faults c.in_ok-push_all-in-Ok.ensures.adds ∙ ap (λ l. l.1) c.new-faults.ensures in
    omega arith

pub tell-requires-in-Err : goal.tell-requires-in-Err
tell-requires-in-Err c = let most : c.new-faults.result.1 ≡ 10000 = ap (λ l. l.1) c.new-faults.ensures in omega arith
