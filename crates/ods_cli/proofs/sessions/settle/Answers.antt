use Rattle.std.proofs.Common.{◌≡◌, ◌∙◌, ℕ, List, ◌++◌, length, ap, sym, arith}
use Rattle.std.specs.String.{string_bytes}
use Rattle.std.proofs.lemmas.Result.{err_from_is_err_and}
use Rattle.std.proofs.lemmas.List.{length-map}
use Rattle.ods_space.specs.Free.{free_blocks, free_numbers}
use Rattle.ods_share.specs.declared.keeping.Ended.{Ended}
use Rattle.ods_cli.specs.declared.printed.Printed.{Printed}
use Rattle.ods_cli.specs.Printed.{printed_text}
use Rattle.ods_cli.specs.Serve.{totals_text}
use Rattle.ods_cli.proofs.Serving.{not_said, served_to}
use Rattle.ods_cli.proofs.sessions.settle.Goals as goal

pub returns-clause-ok : goal.returns-clause-ok
returns-clause-ok c = λ stamp each.
    let printed = c.in_ok-calls.printed.items in
    let totals = c.in_ok-totals.totals in
    let lines : string_bytes totals ≡ totals_text (length c.args.volume.entries) (length (free_blocks c.args.volume.image c.args.volume.layout)) (length (free_numbers c.args.volume.image c.args.volume.layout)) =
    rw (c.len.ensures, c.entries.ensures, c.free_count.ensures, c.number_count.ensures) at c.in_ok-totals.ensures in
    served_to stamp c.args.scripts.now c.args.volume c.args.ended.items c.in_ok-calls.calls.items printed c.in_ok-report.report (printed_text 1 printed ++ string_bytes totals)
    c.is_lawful.ensures c.requires.some (sym c.args.ended.ok.0 ∙ c.requires.count) each c.in_ok-calls.ensures.calls c.in_ok-calls.ensures.printed c.in_ok-report.ensures.ok
    (ap (λ (t : List ℕ). printed_text 1 printed ++ t) lines)

-- the list is no longer than the limit of its volume
pub returns-clause-limit : goal.returns-clause-limit
returns-clause-limit c = omega (arith, c.in_ok-report.ensures.ok.1.all, c.is_lawful.ensures.room)

pub returns-clause-few : goal.returns-clause-few
returns-clause-few c =
    let same = ap length c.in_ok-calls.ensures.printed ∙ length-map c.args.ended.items (λ (e : Ended Printed). e.kept) in
    omega (arith, same, c.args.ended.ok.0, c.requires.count, c.requires.few)

pub returns-in_err-calls-clause-err : goal.returns-in_err-calls-clause-err
returns-in_err-calls-clause-err c = λ stamp each.
    let p = err_from_is_err_and c.from_residual.result c.from_residual.ensures.1 in
    rw (p.1, p.2) tt

pub returns-in_err-report-clause-err : goal.returns-in_err-report-clause-err
returns-in_err-report-clause-err c = λ stamp each.
    let p = err_from_is_err_and c.from_residual-in_err-report.result c.from_residual-in_err-report.ensures.1 in
    rw (p.1, p.2)
    (not_said stamp c.args.scripts.now c.args.volume c.args.ended.items c.in_ok-calls.calls.items c.in_err-report.field-0.0
    c.is_lawful.ensures (sym c.args.ended.ok.0 ∙ c.requires.count) each c.in_ok-calls.ensures.calls c.in_err-report.ensures.err)

pub returns-in_err-totals-clause-err : goal.returns-in_err-totals-clause-err
returns-in_err-totals-clause-err c = λ stamp each.
    let p = err_from_is_err_and c.from_residual-in_err-totals.result c.from_residual-in_err-totals.ensures.1 in
    rw (p.1, p.2) tt
