use Rattle.std.proofs.Common.{[], sym, append-nil}
use Rattle.ods_paths.specs.Patterns.{capitals}
use Rattle.ods_paths.proofs.FirstRow.{end_row, one_before, whole_row}
use Rattle.ods_paths.proofs.matching.matches.Goals as goal

pub loop-character-init : goal.loop-character-init
loop-character-init c = ([], sym (append-nil c.args.pattern.now), end_row c.args.text.now c.requires)

pub loop-character-preserved : goal.loop-character-preserved
loop-character-preserved c =
    let inv = c.loop-character.invariant in
    one_before c.args.pattern.now c.loop-character.left.now c.in-Some.before.now inv.0 c.in-Some.character.now c.to_ascii_uppercase.result c.args.text.now c.take_in.new.row inv.1 c.in-Some.ensures.cases.0 c.to_ascii_uppercase.ensures.value (c.take_in.ensures (capitals inv.0) inv.2)

pub returns : goal.returns
returns c = let inv = c.loop-character.invariant in whole_row c.args.pattern.now c.loop-character.left.now inv.0 c.args.text.now c.loop-character.row c.in_default.ensures.cases inv.1 inv.2
