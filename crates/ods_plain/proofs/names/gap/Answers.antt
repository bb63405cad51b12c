use Rattle.std.proofs.Common.{◌≡◌, ◌∷◌, ◌+◌, suc, sym, ap, ◌∙◌, drop, arith}
use Rattle.std.specs.Ordering.{is_lt}
use Rattle.ods_base.specs.Name.{key_of}
use Rattle.ods_plain.specs.Lines.{gap_for}
use Rattle.ods_plain.proofs.LineLists.{key_cmp, left_at, gap-here, gap-later}
use Rattle.ods_plain.proofs.names.gap.Goals as goal
use Rattle.ods_plain.proofs.names.gap.Goals.{After-is_lt}

-- the gap of those that are left, by the first one of them
gap_left : (c : After-is_lt) → let x = c.index-lines-i.result in let rest = drop (c.loop-i.i + 1) c.args.lines.now in
    gap_for c.args.wanted.now (drop c.loop-i.i c.args.lines.now) ≡ gap_for c.args.wanted.now (x ∷ rest)
gap_left c =
    ap (gap_for c.args.wanted.now) (left_at c.args.lines.now c.loop-i.i c.index-lines-i.result c.loop-i-test.true ∙ ap (λ y. y ∷ drop (c.loop-i.i + 1) c.args.lines.now) (sym c.index-lines-i.is))

-- whether its key is higher
test : (c : After-is_lt) → is_lt (key_cmp c.args.wanted.now (key_of c.index-lines-i.result.name c.index-lines-i.result.version)) ≡ c.is_lt.result
test c = ap (λ q. is_lt (key_cmp c.args.wanted.now q)) (sym c.key.ensures.value) ∙ ap is_lt (sym c.cmp.ensures) ∙ sym c.is_lt.ensures

pub returns-then-is_lt-clause-value : goal.returns-then-is_lt-clause-value
returns-then-is_lt-clause-value c =
    let at = (goal.at.returns-then-is_lt-clause-value c).After-is_lt in
    let gap : gap_for c.args.wanted.now (drop c.loop-i.i c.args.lines.now) ≡ 0 = gap_left at ∙ gap-here c.args.wanted.now c.index-lines-i.result (drop (c.loop-i.i + 1) c.args.lines.now) (test at ∙ c.if-is_lt.true) in
    omega (arith, c.loop-i.invariant, gap)

pub loop-i-preserved : goal.loop-i-preserved
loop-i-preserved c =
    let at = (goal.at.loop-i-preserved c).After-is_lt in
    let rest = drop (c.loop-i.i + 1) c.args.lines.now in
    let gap : gap_for c.args.wanted.now (drop c.loop-i.i c.args.lines.now) ≡ suc (gap_for c.args.wanted.now rest) = gap_left at ∙ gap-later c.args.wanted.now c.index-lines-i.result rest (test at ∙ c.if-is_lt.false) in
    omega (arith, c.loop-i.invariant, gap)
