use Rattle.std.proofs.Common.{◌≡◌, ◌+◌, ◌∙◌, length, map, sym, ap, subst, arith}
use Rattle.std.proofs.lemmas.List.{length-map}
use Rattle.std.specs.List.{filter_map}
use Rattle.ods_directory.specs.Entry.{used_entries}
use Rattle.ods_directory.specs.Lines.{good_line, good_lines}
use Rattle.ods_directory.proofs.GoodLines.{good_rows, few_rows}
use Rattle.ods_directory.proofs.listing.good_entries.Goals as goal

pub overflow_sub-bad : goal.overflow_sub-bad
overflow_sub-bad g c =
    let few = few_rows c.deref.result.now in
    let kept = ap length c.in_ok-good.ensures in
    omega (arith, few, kept, c.len.ensures, c.len-2.ensures, ap length c.deref.ensures.value)

pub returns-clause-good : goal.returns-clause-good
returns-clause-good g c =
    let used = used_entries (g.B.DirBlocks.blocks c.args.blocks.now) c.args.mark in
    c.in_ok-good.ensures ∙ ap (filter_map (λ row. row)) (c.deref.ensures.value ∙ c.in_ok-rows.ensures) ∙ good_rows used

pub returns-clause-bad : goal.returns-clause-bad
returns-clause-bad g c =
    let used = used_entries (g.B.DirBlocks.blocks c.args.blocks.now) c.args.mark in
    let rows : length c.in_ok-rows.rows.items ≡ length used = ap length c.in_ok-rows.ensures ∙ length-map used good_line in
    let few = few_rows c.deref.result.now in
    let kept = ap length c.in_ok-good.ensures in
    omega (arith, few, kept, c.len.ensures, c.len-2.ensures, ap length c.deref.ensures.value, rows)
