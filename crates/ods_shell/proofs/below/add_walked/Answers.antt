use Rattle.std.proofs.Common.{◌≡◌, sym, subst}
use Rattle.std.specs.List.{Contains}
use Rattle.ods_shell.specs.Ways.{AreMet}
use Rattle.ods_shell.proofs.BelowAll.{AreAdded, nothing_more, walk_of, walked_more}
use Rattle.ods_shell.proofs.BelowClosed.{IsStop, all_count, is_closed, is_open, met_by_stop, met_then, same_now}
use Rattle.ods_shell.proofs.below.add_walked.Goals as goal
use Rattle.ods_shell.proofs.below.add_walked.Goals.{In_ok-stops}

stop : (c : In_ok-stops) → IsStop c.args.closed.now.numbers.now c.args.start.now.number c.in_ok-stops.field-0 c.args.closed.now.met.items c.stops.new.self.met.items
stop c = record { value = c.in_ok-stops.ensures.value; passed = c.in_ok-stops.ensures.open; noted = c.in_ok-stops.ensures.met }

pub returns-then-branch-clause-found : goal.returns-then-branch-clause-found
returns-then-branch-clause-found c = λ shut before counts are.
    let closed = c.args.closed.now.numbers.now in
    let stopped = subst (λ b. IsStop closed c.args.start.now.number b c.args.closed.now.met.items c.stops.new.self.met.items) c.if-branch.true (stop (goal.at.returns-then-branch-clause-found c).In_ok-stops) in
    let all : shut ≡ closed = all_count shut stopped counts in
    nothing_more c.args.disk.now.image.now c.args.disk.now.layout.now shut before c.args.found.now.items c.args.start.now
    (λ not_shut there. not_shut (subst (λ n. Contains n c.args.start.now.number) (sym all) (is_closed stopped))) are

pub returns-then-branch-clause-met : goal.returns-then-branch-clause-met
returns-then-branch-clause-met c = met_by_stop c.in_ok-stops.field-0 (stop (goal.at.returns-then-branch-clause-met c).In_ok-stops)

pub returns-then-not-is_directory_file-clause-found : goal.returns-then-not-is_directory_file-clause-found
returns-then-not-is_directory_file-clause-found c = λ shut before counts are.
    nothing_more c.args.disk.now.image.now c.args.disk.now.layout.now shut before c.args.found.now.items c.args.start.now (λ not_shut there. c.if-not-is_directory_file.ensures there) are

pub returns-then-not-is_directory_file-clause-met : goal.returns-then-not-is_directory_file-clause-met
returns-then-not-is_directory_file-clause-met c = met_by_stop c.in_ok-stops.field-0 (stop (goal.at.returns-then-not-is_directory_file-clause-met c).In_ok-stops)

pub returns-clause-found : goal.returns-clause-found
returns-clause-found c = λ shut before counts are.
    let I = c.args.disk.now.image.now in
    let L = c.args.disk.now.layout.now in
    let closed = c.args.closed.now.numbers.now in
    let start = c.args.start.now in
    let w = c.in_ok-walk.walk in
    let same = same_now c.stops.new.self.numbers c.args.closed.now.numbers c.in_ok-stops.ensures.same in
    let walk = walk_of I L c.stops.new.self.numbers.now closed start.number w same
    c.in_ok-walk.ensures.walk c.in_ok-walk.ensures.reached in
    let stopped = subst (λ b. IsStop closed start.number b c.args.closed.now.met.items c.stops.new.self.met.items) c.if-branch.false (stop (goal.at.returns-clause-found c).In_ok-stops) in
    let added : AreAdded start w.directories c.args.found.now.items c.add_entered.new.found.items = record {
      grows = c.in_ok-add_entered.ensures.grows;
      only = c.in_ok-add_entered.ensures.only;
      all = c.in_ok-add_entered.ensures.all;
      once = c.in_ok-add_entered.ensures.once;
    } in
    walked_more I L closed start w walk.0 walk.1 (is_open stopped) c.args.found.now.items c.add_entered.new.found.items added c.note_closed.new.closed.met.items
    (λ none l has names. subst (λ n. ¬ Contains n l.entry.file.number) same (c.in_ok-note_closed.ensures.none none l has names)) shut before counts are

pub returns-clause-met : goal.returns-clause-met
returns-clause-met c =
    let closed = c.args.closed.now.numbers.now in
    let same = same_now c.stops.new.self.numbers c.args.closed.now.numbers c.in_ok-stops.ensures.same in
    met_then closed c.args.closed.now.met.items c.stops.new.self.met.items c.note_closed.new.closed.met.items (met_by_stop c.in_ok-stops.field-0 (stop (goal.at.returns-clause-met c).In_ok-stops))
    (subst (λ n. AreMet n c.stops.new.self.met.items c.note_closed.new.closed.met.items) same c.in_ok-note_closed.ensures.met)
