use Rattle.std.proofs.Common.{◌++◌, ap, sym, ◌∙◌, append_assoc, arith}
use Rattle.std.proofs.lemmas.List.{append-nil}
use Rattle.ods_header.specs.Header.{run_blocks}
use Rattle.ods_space.proofs.Surveys.{first_blocks, first_blocks_more, first_blocks_all}
use Rattle.ods_space.proofs.collect.push_header.Goals as goal

pub loop-k-init : goal.loop-k-init
loop-k-init c = sym (append-nil c.args.named.now.items)

pub loop-k-preserved : goal.loop-k-preserved
loop-k-preserved c =
    let before = c.args.named.now.items in
    let block = c.args.block.now in
    let run = c.pointer_at.result in
    c.in_ok-push_run.ensures ∙ ap (λ l. l ++ run_blocks run) c.loop-k.invariant ∙ append_assoc before (first_blocks block c.loop-k.k) (run_blocks run)
    ∙ ap (λ l. before ++ l) (sym (first_blocks_more block c.loop-k.k run c.pointer_at.ensures.value))

pub returns : goal.returns
returns c =
    c.loop-k.invariant
    ∙ ap (λ l. c.args.named.now.items ++ l) (first_blocks_all c.args.block.now c.loop-k.k (omega (arith, c.pointer_count-k-end.ensures.count, c.loop-k-test.false)))
