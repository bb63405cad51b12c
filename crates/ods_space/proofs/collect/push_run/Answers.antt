use Rattle.std.proofs.Common.{◌≡◌, ◌+◌, ◌++◌, ◌∷◌, [], ap, sym, ◌∙◌, append_assoc, arith}
use Rattle.std.specs.List.{range_with_len}
use Rattle.ods_space.proofs.Surveys.{range_push}
use Rattle.ods_space.proofs.collect.push_run.Goals as goal

pub loop-i-preserved : goal.loop-i-preserved
loop-i-preserved c =
    let before = c.args.named.now.items in
    let run = c.args.run.now in
    c.in_ok-push.ensures.items ∙ ap (λ l. l ++ (run.lbn + c.loop-i.i) ∷ []) c.loop-i.invariant
    ∙ append_assoc before (range_with_len run.lbn c.loop-i.i) ((run.lbn + c.loop-i.i) ∷ []) ∙ ap (λ l. before ++ l) (sym (range_push run.lbn c.loop-i.i))

pub returns : goal.returns
returns c =
    let all : c.loop-i.i ≡ c.args.run.now.count = omega (arith, c.loop-i.auto.i-end, c.loop-i-test.false) in
    c.loop-i.invariant ∙ ap (λ n. c.args.named.now.items ++ range_with_len c.args.run.now.lbn n) all
