use Rattle.std.proofs.Common.{subst}
use Rattle.std.specs.List.{Contains}
use Rattle.ods_shell.proofs.BelowClosed.{IsStop, met_by_stop, open_where_none}
use Rattle.ods_shell.proofs.below.note_line.Goals as goal
use Rattle.ods_shell.proofs.below.note_line.Goals.{In_ok-stops}

stop : (c : In_ok-stops) → IsStop c.args.closed.now.numbers.now c.in-Some.number c.in_ok-stops.field-0 c.args.closed.now.met.items c.stops.new.self.met.items
stop c = record { value = c.in_ok-stops.ensures.value; passed = c.in_ok-stops.ensures.open; noted = c.in_ok-stops.ensures.met }

pub returns-clause-none : goal.returns-clause-none
returns-clause-none c =
    let here = (goal.at.returns-clause-none c).In_ok-stops in
    λ none names. subst (λ n. ¬ Contains c.args.closed.now.numbers.now n) c.in-Some.ensures.1 (open_where_none c.in_ok-stops.field-0 (stop here) none)

pub returns-clause-met : goal.returns-clause-met
returns-clause-met c =
    let here = (goal.at.returns-clause-met c).In_ok-stops in
    met_by_stop c.in_ok-stops.field-0 (stop here)
