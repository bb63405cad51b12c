use Rattle.std.proofs.Common.{◌≡◌, ◌∷◌, ◌++◌, [], sym, subst, List}
use Rattle.std.specs.List.{Contains}
use Rattle.ods_shell.specs.declared.folders.Directory.{Directory}
use Rattle.ods_shell.specs.Ways.{AreOpen}
use Rattle.ods_shell.proofs.BelowClosed.{IsStop, all_count, is_closed, is_open, met_by_stop}
use Rattle.ods_shell.proofs.BelowOpen.{closed_more, counts_as_open, open_more}
use Rattle.ods_shell.proofs.folders.add_open.Goals as goal
use Rattle.ods_shell.proofs.folders.add_open.Goals.{In_ok-stops}

stop : (c : In_ok-stops) → IsStop c.args.closed.now.numbers.now c.args.start.number c.in_ok-stops.field-0 c.args.closed.now.met.items c.stops.new.self.met.items
stop c = record { value = c.in_ok-stops.ensures.value; passed = c.in_ok-stops.ensures.open; noted = c.in_ok-stops.ensures.met }

pub returns-in_ok-push-clause-found : goal.returns-in_ok-push-clause-found
returns-in_ok-push-clause-found c = λ shut before counts are.
    let closed = c.args.closed.now.numbers.now in
    let stopped = subst (λ b. IsStop closed c.args.start.number b c.args.closed.now.met.items c.stops.new.self.met.items) c.if-not-branch.true (stop (goal.at.returns-in_ok-push-clause-found c).In_ok-stops) in
    subst (λ (ds : List Directory). AreOpen shut (before ++ c.args.start ∷ []) ds) (sym c.in_ok-push.ensures.items)
    (open_more shut before c.args.found.now.items c.args.start (counts_as_open closed shut c.stops.new.self.met.items c.args.start.number counts (is_open stopped)) are)

pub returns-else-not-branch-clause-found : goal.returns-else-not-branch-clause-found
returns-else-not-branch-clause-found c = λ shut before counts are.
    let closed = c.args.closed.now.numbers.now in
    let stopped = subst (λ b. IsStop closed c.args.start.number b c.args.closed.now.met.items c.stops.new.self.met.items) c.if-not-branch.false (stop (goal.at.returns-else-not-branch-clause-found c).In_ok-stops) in
    let all : shut ≡ closed = all_count shut stopped counts in
    closed_more shut before c.args.found.now.items c.args.start (subst (λ n. Contains n c.args.start.number) (sym all) (is_closed stopped)) are

pub returns-else-not-branch-clause-met : goal.returns-else-not-branch-clause-met
returns-else-not-branch-clause-met c = met_by_stop c.in_ok-stops.field-0 (stop (goal.at.returns-else-not-branch-clause-met c).In_ok-stops)
