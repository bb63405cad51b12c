use Rattle.std.proofs.Common.{ℕ, List, ◌∷◌, [], ◌++◌, ap, ◌∙◌}
use Rattle.ods_records.proofs.SizedLines.{lines_more, lines_all}
use Rattle.ods_records.proofs.sized.fixed_to_text.Goals as goal

pub loop-at-preserved : goal.loop-at-preserved
loop-at-preserved c =
    lines_more c.args.blocked c.args.size c.args.bytes.now c.loop-at.at c.loop-at.text.items c.line_at.result.now c.push.new.self.items c.next_line-at.result c.loop-at.invariant
    c.loop-at-test.true c.line_at.ensures c.next_line-at.ensures.value
    (c.in_ok-push.ensures.items ∙ ap (λ (l : List ℕ). l ++ 10 ∷ []) c.in_ok-extend_from_slice.ensures.items)

pub returns : goal.returns
returns c = lines_all c.args.blocked c.args.size c.args.bytes.now c.loop-at.at c.loop-at.text.items c.loop-at.invariant c.loop-at-test.false
