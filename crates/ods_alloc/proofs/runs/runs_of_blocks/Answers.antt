use Rattle.std.proofs.Common.{◌≡◌, List, ◌∙◌, ap, sym, subst, arith, get_or, false}
use Rattle.std.specs.List.{All, flat_map}
use Rattle.ods_header.specs.declared.header.Run.{Run}
use Rattle.ods_header.specs.Header.{IsRun, run_blocks}
use Rattle.ods_alloc.specs.Extend.{cut}
use Rattle.ods_alloc.proofs.Cuts.{cut_nil, cut_first, longer_now, next_now, ends_apart, ends_full, cut_ended, cut_blocks, cut_runs, goes_on}
use Rattle.ods_alloc.proofs.runs.runs_of_blocks.Goals as goal
use Rattle.ods_alloc.proofs.runs.runs_of_blocks.Goals.{then-block-open+then-open-lt256, else-block-open+in_ok-push, else-block-open-via-then-block-open+else-open-lt256, else-block-open-via-else-block-open}

pub returns-in_default-clause-cut : goal.returns-in_default-clause-cut
returns-in_default-clause-cut c = c.new-runs.ensures.items ∙ cut_nil c.args.blocks.now c.in_default.ensures.cases

pub loop-block-init : goal.loop-block-init
loop-block-init c = record {
  built = cut_first c.new-runs.result.items c.in-Some.first.now c.in-Some.rest.now c.args.blocks.now c.new-runs.ensures.items c.in-Some.ensures.cases.0;
  some = omega arith;
  few = omega arith;
}

pub loop-block-preserved : goal.loop-block-preserved
loop-block-preserved c =
    let done = c.loop-block.runs.items in
    let last = c.loop-block.open in
    let rest = c.in-Some.rest.now in
    let i = c.loop-block.block-index in
    let all = c.args.blocks.now in
    let before = c.loop-block.invariant.built in
    let within = c.loop-block-test.true in
    elim c.if-block-open.branch [
      | then-block-open+then-open-lt256 w ↦ rw (w.runs-is, w.open-is) (record {
        built = longer_now done last rest i all within w.if-block-open.true w.if-open-lt256.true before;
        some = omega arith;
        few = let few = w.if-open-lt256.true in omega arith;
      })
      | else-block-open+in_ok-push w ↦
          let ends : goes_on last (get_or rest i 0) ≡ false = elim w.else-block-open.branch [
            | else-block-open-via-then-block-open+else-open-lt256 v ↦ ends_full last _ v.if-open-lt256.false
            | else-block-open-via-else-block-open v ↦ ends_apart last _ v.if-block-open.false
          ] in
          rw (w.runs-is, w.open-is, w.in_ok-push.ensures.items) (record { built = next_now done last rest i all within ends before; some = omega arith; few = omega arith })
    ]

whole : (c : goal.In_ok-push-2) → c.push-2.new.self.items ≡ cut c.args.blocks.now
whole c = c.in_ok-push-2.ensures.items ∙ cut_ended c.loop-block.runs.items c.loop-block.open c.in-Some.rest.now c.loop-block.block-index c.args.blocks.now c.loop-block-test.false c.loop-block.invariant.built

pub returns-clause-cut : goal.returns-clause-cut
returns-clause-cut c = whole c

pub returns-clause-blocks : goal.returns-clause-blocks
returns-clause-blocks c = ap (flat_map run_blocks) (whole c) ∙ cut_blocks c.args.blocks.now

pub returns-clause-runs : goal.returns-clause-runs
returns-clause-runs c = λ small.
    let P : List Run → Type 0 = λ rs. All IsRun rs in
    subst P (sym (whole c)) (cut_runs c.args.blocks.now small)
