use Rattle.std.proofs.Common.{◌≡◌, ◌∷◌, sym, ap, ◌∙◌, nat_eq, drop, ◌+◌}
use Rattle.std.specs.FinMap.{find}
use lib.Pointwise.{pointwise}
use Rattle.ods_base.specs.Name.{key_of}
use Rattle.ods_plain.specs.Lines.{entries_of}
use Rattle.ods_plain.proofs.LineLists.{key_cmp, left_at, found, passed}
use Rattle.ods_plain.proofs.names.find.Goals as goal
use Rattle.ods_plain.proofs.names.find.Goals.{After-eq}

-- the line that was read is the first one of those that are left
here : (c : After-eq) → drop c.loop-line.line-index c.args.lines.now ≡ c.line-item.result ∷ drop (c.loop-line.line-index + 1) c.args.lines.now
here c = left_at c.args.lines.now c.loop-line.line-index c.line-item.result c.loop-line-test.true ∙ ap (λ y. y ∷ drop (c.loop-line.line-index + 1) c.args.lines.now) (sym c.line-item.is)

-- whether its key is the one that is wanted
test : (c : After-eq) → pointwise nat_eq (key_of c.line-item.result.name c.line-item.result.version) c.args.wanted.now ≡ c.eq.result
test c = ap (λ k. pointwise nat_eq k c.args.wanted.now) (sym c.key.ensures.value) ∙ sym c.eq.ensures

pub loop-line-preserved : goal.loop-line-preserved
loop-line-preserved c =
    let at = (goal.at.loop-line-preserved c).After-eq in
    sym (passed c.args.wanted.now c.line-item.result (drop (c.loop-line.line-index + 1) c.args.lines.now) (test at ∙ c.if-eq.false))
    ∙ ap (λ ls. find key_cmp c.args.wanted.now (entries_of ls)) (sym (here at)) ∙ c.loop-line.invariant

pub returns-then-eq : goal.returns-then-eq
returns-then-eq c =
    let at = (goal.at.returns-then-eq c).After-eq in
    sym (found c.args.wanted.now c.line-item.result (drop (c.loop-line.line-index + 1) c.args.lines.now) (test at ∙ c.if-eq.true))
    ∙ ap (λ ls. find key_cmp c.args.wanted.now (entries_of ls)) (sym (here at)) ∙ c.loop-line.invariant
