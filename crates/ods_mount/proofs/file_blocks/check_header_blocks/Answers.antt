use Rattle.std.proofs.Common.{ℕ, ◌+◌, List, length, ap, ◌∙◌, arith}
use Rattle.std.proofs.lemmas.List.{length-append}
use Rattle.std.proofs.lemmas.List.FromFn.{length-range_with_len}
use Rattle.ods_header.specs.Header.{run_blocks}
use Rattle.ods_space.proofs.Surveys.{first_blocks, first_blocks_more, first_blocks_all}
use Rattle.ods_mount.proofs.Passing.{names_run}
use Rattle.ods_mount.proofs.file_blocks.check_header_blocks.Goals as goal

pub check_run-requires-clause-names : goal.check_run-requires-clause-names
check_run-requires-clause-names c =
    names_run c.args.disk.now.image.now c.args.disk.now.layout.now c.args.number c.args.first c.loop-k.next c.args.header.now c.loop-k.k c.pointer_at-run.result
    c.pointer_at-run.ensures.value c.loop-k.invariant.next c.requires.names

pub loop-k-preserved : goal.loop-k-preserved
loop-k-preserved c =
    let b : List ℕ = c.args.header.now in
    let run = c.pointer_at-run.result in
    let more = ap length (first_blocks_more b c.loop-k.k run c.pointer_at-run.ensures.value) in
    let sum = length-append (first_blocks b c.loop-k.k) (run_blocks run) in
    let size = length-range_with_len run.lbn run.count in
    let most = c.pointer_at-run.ensures.run.most in
    let before = c.loop-k.invariant.next in
    let small = c.loop-k.invariant.small in
    record { passed = c.in_default.ensures.ok; next = omega arith; small = omega arith; room = c.in_default.ensures.room ∙ c.loop-k.invariant.room }

pub returns-clause-next : goal.returns-clause-next
returns-clause-next c =
    let b : List ℕ = c.args.header.now in
    let end = c.loop-k-test.false in
    let few = c.pointer_count-k-end.ensures.few in
    let within = c.loop-k.auto.k-end in
    let small = c.loop-k.invariant.small in
    let all = first_blocks_all b c.loop-k.k (omega (arith, c.pointer_count-k-end.ensures.count, end)) in (
      c.loop-k.invariant.next ∙ ap (λ l. c.args.first + length l) all,
      omega arith,
    )
