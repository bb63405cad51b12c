use Rattle.std.proofs.Common.{◌+◌, ◌/◌, ◌≤◌, ◌∙◌, length, ap, sym, subst, arith}
use Rattle.std.proofs.lemmas.Option.{same_Some}
use Rattle.ods_header.specs.declared.header.Run.{Run}
use Rattle.ods_header.specs.Header.{run_at, used_words_of}
use Rattle.ods_header.proofs.RunsAt.{length-runs_of, slice_get-runs_of}
use Rattle.ods_repair.proofs.OwnRun.{run_inside}
use Rattle.ods_repair.proofs.unsharing.run_of.Goals as goal

pub pointer_at-requires-clause-inside : goal.pointer_at-requires-clause-inside
pointer_at-requires-clause-inside c =
    let used = ap (λ b. used_words_of b / 2) c.first_header.ensures in
    let low = c.requires.inside in
    omega (arith, used, low, length-runs_of c.first_header.result.now)

pub returns-clause-run : goal.returns-clause-run
returns-clause-run c =
    let b = c.first_header.result.now in
    let used = ap (λ x. used_words_of x / 2) c.first_header.ensures in
    let low = c.requires.inside in
    let e = slice_get-runs_of b c.args.at (omega (arith, used, low, length-runs_of b)) in
    same_Some c.pointer_at.result (run_at b c.args.at) (sym c.pointer_at.ensures.value ∙ e) ∙ ap (λ x. run_at x c.args.at) c.first_header.ensures

pub returns-clause-inside : goal.returns-clause-inside
returns-clause-inside c =
    subst (λ (r : Run). r.lbn + r.count ≤ length c.args.image.now) (sym (returns-clause-run c)) (run_inside c.args.image.now c.args.layout.now c.args.file c.args.at c.requires.can c.requires.inside)

pub returns-clause-small : goal.returns-clause-small
returns-clause-small c = let inside = returns-clause-inside c in let size = c.len.ensures.value in let few = c.len.type_inv in omega (arith, inside, size, few)
