use Rattle.std.proofs.Common.{◌≡◌, ◌*◌, ◌/◌, ◌∙◌, sym, ap, min, length, arith, length-append}
use Rattle.ods_directory.specs.Entry.{entry_at, entry_in}
use Rattle.ods_directory.proofs.Used.{used_from, used_entries-is}
use Rattle.ods_directory.proofs.Lookups.{len_names}
use Rattle.ods_directory.proofs.Blockwise.{used_before_next}
use Rattle.ods_directory.proofs.count.name_count.Goals as goal

pub returns-then-count-eq0 : goal.returns-then-count-eq0
returns-then-count-eq0 g c =
    let blocks = g.B.DirBlocks.blocks c.args.blocks.now in
    let all : min (32 * c.loop-i.i) (c.args.mark / 16) ≡ c.args.mark / 16 = omega arith in
    c.loop-i.invariant.0 ∙ ap (λ n. length (used_from (entry_at blocks) 0 n)) all ∙ ap length (sym (used_entries-is blocks c.args.mark)) ∙ sym (len_names blocks c.args.mark c.requires.directory)

pub loop-i-preserved : goal.loop-i-preserved
loop-i-preserved g c =
    let blocks = g.B.DirBlocks.blocks c.args.blocks.now in
    let next = ap length (used_before_next blocks c.block.result.now c.args.mark c.loop-i.i c.entries_in-count.result c.block.ensures.value c.entries_in-count.ensures (omega arith))
    ∙ length-append (used_from (entry_at blocks) 0 (min (32 * c.loop-i.i) (c.args.mark / 16))) (used_from (entry_in c.block.result.now) 0 c.entries_in-count.result) in
    (omega (arith, next), omega arith)

pub returns : goal.returns
returns g c =
    let blocks = g.B.DirBlocks.blocks c.args.blocks.now in
    let all : min (32 * c.loop-i.i) (c.args.mark / 16) ≡ c.args.mark / 16 = omega arith in
    c.loop-i.invariant.0 ∙ ap (λ n. length (used_from (entry_at blocks) 0 n)) all ∙ ap length (sym (used_entries-is blocks c.args.mark)) ∙ sym (len_names blocks c.args.mark c.requires.directory)
