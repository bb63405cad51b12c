use Rattle.std.proofs.Common.{Some, sym, ap, ◌∙◌, arith}
use Rattle.std.proofs.lemmas.Option.{slice_get-get_or}
use Rattle.ods_check.specs.Findings.{IsLineOf}
use Rattle.ods_check.proofs.NamedLines.{none_before, one_more, one_at, none_of}
use Rattle.ods_check.proofs.unnamed.is_named.Goals as goal

pub loop-i-init : goal.loop-i-init
loop-i-init c = none_before (IsLineOf c.args.words.now c.args.number c.args.sequence) c.args.lines.now

pub loop-i-preserved : goal.loop-i-preserved
loop-i-preserved c =
    one_more (IsLineOf c.args.words.now c.args.number c.args.sequence) c.args.lines.now c.loop-i.i c.index-lines-i.result (slice_get-get_or c.args.lines.now c.loop-i.i c.index-lines-i.result c.loop-i-test.true ∙ ap Some (sym c.index-lines-i.is)) c.loop-i.invariant
    c.if-is_line.ensures

pub returns-then-is_line : goal.returns-then-is_line
returns-then-is_line c = one_at (IsLineOf c.args.words.now c.args.number c.args.sequence) c.args.lines.now c.loop-i.i c.index-lines-i.result c.loop-i-test.true c.index-lines-i.is c.if-is_line.ensures

pub returns : goal.returns
returns c = let end = c.loop-i-test.false in none_of (IsLineOf c.args.words.now c.args.number c.args.sequence) c.args.lines.now c.loop-i.i (omega arith) c.loop-i.invariant
