use Rattle.std.proofs.Common.{◌≡◌, ◌*◌, ◌+◌, ◌/◌, ◌++◌, ◌∙◌, sym, ap, subst, map, min, arith}
use Rattle.std.proofs.lemmas.List.{map-append}
use Rattle.ods_directory.specs.Entry.{is_used, entry_at, entry_in}
use Rattle.ods_directory.proofs.Used.{used_from, used_entries-is, all_by_positions}
use Rattle.ods_directory.proofs.Blockwise.{entry_of_block, used_before_next}
use Rattle.ods_directory.proofs.lines.read_rows.Goals as goal

pub returns-then-count-eq0 : goal.returns-then-count-eq0
returns-then-count-eq0 g c =
    let blocks = g.B.DirBlocks.blocks c.args.blocks.now in
    let all : min (32 * c.loop-i.i) (c.args.mark / 16) ≡ c.args.mark / 16 = omega arith in
    c.loop-i.invariant ∙ ap (λ n. map g.R.Row.row_of (used_from (entry_at blocks) 0 n)) all ∙ ap (map g.R.Row.row_of) (sym (used_entries-is blocks c.args.mark))

pub push_rows-requires-clause-fit : goal.push_rows-requires-clause-fit
push_rows-requires-clause-fit g c =
    let blocks = g.B.DirBlocks.blocks c.args.blocks.now in
    λ k below used.
    let same : entry_in c.block.result.now k ≡ entry_at blocks (32 * c.loop-i.i + k) = ap (λ b. entry_in b k) c.block.ensures.value ∙ entry_of_block blocks c.loop-i.i k (omega arith) in
    subst g.R.Row.fits (sym same) (all_by_positions g.R.Row.fits blocks c.args.mark c.requires.fit (32 * c.loop-i.i + k) (omega arith) (ap is_used (sym same) ∙ used))

pub loop-i-preserved : goal.loop-i-preserved
loop-i-preserved g c =
    let blocks = g.B.DirBlocks.blocks c.args.blocks.now in
    let next = used_before_next blocks c.block.result.now c.args.mark c.loop-i.i c.entries_in-count.result c.block.ensures.value c.entries_in-count.ensures (omega arith) in
    c.in_ok-push_rows.ensures ∙ ap (λ l. l ++ map g.R.Row.row_of (used_from (entry_in c.block.result.now) 0 c.entries_in-count.result)) c.loop-i.invariant
    ∙ sym (map-append g.R.Row.row_of (used_from (entry_at blocks) 0 (min (32 * c.loop-i.i) (c.args.mark / 16))) (used_from (entry_in c.block.result.now) 0 c.entries_in-count.result))
    ∙ ap (map g.R.Row.row_of) (sym next)

pub returns : goal.returns
returns g c =
    let blocks = g.B.DirBlocks.blocks c.args.blocks.now in
    let all : min (32 * c.loop-i.i) (c.args.mark / 16) ≡ c.args.mark / 16 = omega arith in
    c.loop-i.invariant ∙ ap (λ n. map g.R.Row.row_of (used_from (entry_at blocks) 0 n)) all ∙ ap (map g.R.Row.row_of) (sym (used_entries-is blocks c.args.mark))
