use Rattle.std.proofs.Common.{◌≡◌, ℕ, ◌+◌, ◌/◌, ◌<◌, ◌∙◌, List, length, ap, sym, subst, arith}
use Rattle.ods_header.specs.declared.header.Run.{Run}
use Rattle.ods_header.specs.Header.{used_words_of}
use Rattle.ods_header.proofs.RunsAt.{length-runs_of}
use Rattle.ods_space.specs.Layout.{header_at}
use Rattle.ods_repair.specs.Settled.{AreSettled}
use Rattle.ods_repair.proofs.Settling.{none_settled, one_settled}
use Rattle.ods_repair.proofs.unsharing.settle_runs.Goals as goal

pub loop-at-init : goal.loop-at-init
loop-at-init c = record { settled = none_settled c.args.image.now c.args.layout.now c.args.file c.args.seen.now c.requires.can c.requires.held c.requires.room; few = omega arith }

-- the count is that of the first header
counted : (n used : ℕ) (b c : List ℕ) → n ≡ length (Rattle.ods_header.specs.Header.runs_of b) → b ≡ c → n ≡ used_words_of c / 2
counted n used b c long same = long ∙ length-runs_of b ∙ ap (λ x. used_words_of x / 2) same

pub run_of-run-requires-clause-can : goal.run_of-run-requires-clause-can
run_of-run-requires-clause-can c = c.loop-at.invariant.settled.can

pub run_of-run-requires-clause-inside : goal.run_of-run-requires-clause-inside
run_of-run-requires-clause-inside c =
    let count = counted c.pointer_count-count.result 0 c.first_header.result.now (header_at c.args.image.now c.args.layout.now c.args.file) c.pointer_count-count.ensures.count c.first_header.ensures in
    subst (λ u. c.loop-at.at < u / 2) (sym c.loop-at.invariant.settled.used) (subst (λ k. c.loop-at.at < k) count c.loop-at-test.true)

pub settle_run-outcome-requires-clause-can : goal.settle_run-outcome-requires-clause-can
settle_run-outcome-requires-clause-can c = c.loop-at.invariant.settled.can

pub settle_run-outcome-requires-clause-inside : goal.settle_run-outcome-requires-clause-inside
settle_run-outcome-requires-clause-inside c =
    let count = counted c.pointer_count-count.result 0 c.first_header.result.now (header_at c.args.image.now c.args.layout.now c.args.file) c.pointer_count-count.ensures.count c.first_header.ensures in
    subst (λ u. c.loop-at.at < u / 2) (sym c.loop-at.invariant.settled.used) (subst (λ k. c.loop-at.at < k) count c.loop-at-test.true)

pub settle_run-outcome-requires-clause-room : goal.settle_run-outcome-requires-clause-room
settle_run-outcome-requires-clause-room c = c.loop-at.invariant.settled.room

pub overflow_add-mapped : goal.overflow_add-mapped
overflow_add-mapped c =
    let few = c.loop-at.invariant.few in
    let top = c.pointer_count-count.ensures.few in
    let low = c.loop-at-test.true in
    let run = c.run_of-run.ensures.few in
    omega (arith, few, top, low, run)

pub loop-at-preserved : goal.loop-at-preserved
loop-at-preserved c =
    let I = c.args.image.now in
    let L = c.args.layout.now in
    let count = counted c.pointer_count-count.result 0 c.first_header.result.now (header_at I L c.args.file) c.pointer_count-count.ensures.count c.first_header.ensures in
    let low : c.loop-at.at < used_words_of (header_at I L c.args.file) / 2 = subst (λ k. c.loop-at.at < k) count c.loop-at-test.true in
    let settled = one_settled I c.loop-at.image L c.args.file c.loop-at.at c.loop-at.told c.loop-at.mapped c.loop-at.seen c.requires.can low c.loop-at.invariant.settled c.settle_run-outcome.result c.settle_run-outcome.new.image c.told_of-told.result c.settle_run-outcome.new.seen
    c.settle_run-outcome.ensures.settled c.told_of-told.ensures c.settle_run-outcome.ensures.room in
    record {
      settled = subst (λ (r : Run). AreSettled I L c.args.file (c.loop-at.at + 1) c.told_of-told.result (c.loop-at.mapped + r.count) c.settle_run-outcome.new.seen c.settle_run-outcome.new.image) (sym c.run_of-run.ensures.run) settled;
      few = let few = c.loop-at.invariant.few in let run = c.run_of-run.ensures.few in omega (arith, few, run);
    }

pub returns : goal.returns
returns c =
    let I = c.args.image.now in
    let L = c.args.layout.now in
    let count = counted c.pointer_count-count.result 0 c.first_header.result.now (header_at I L c.args.file) c.pointer_count-count.ensures.count c.first_header.ensures in
    let end = c.loop-at-test.false in
    let most = c.loop-at.auto.at-end in
    subst (λ k. AreSettled I L c.args.file k c.loop-at.told c.loop-at.mapped c.loop-at.seen c.loop-at.image) (omega (arith, count, end, most)) c.loop-at.invariant.settled
