use Rattle.std.proofs.Common.{◌≡◌, ◌*◌, ◌+◌, ◌/◌, ◌∙◌, subst, ap, min, drop, fold, arith}
use Rattle.std.specs.List.{range_with_len}
use Rattle.ods_base.specs.Image.{block_at}
use Rattle.ods_directory.specs.Entry.{entry_at}
use Rattle.ods_directory.proofs.Folds.{fold_stopped}
use Rattle.ods_directory.proofs.Blockwise.{one_block_more, blocks_from}
use Rattle.ods_directory.proofs.scan.scan_all.Goals as goal
use Rattle.ods_directory.proofs.scan.scan_all.Goals.{then-count-eq0-via-then-count-eq0, then-count-eq0-via-else-count-eq0+then-is_done}

pub returns-then-count-eq0-clause-after : goal.returns-then-count-eq0-clause-after
returns-then-count-eq0-clause-after g c =
    let blocks = g.B.DirBlocks.blocks c.args.blocks.now in
    let step = λ (s : g.row.G.Denot) (k : _). g.G.Pass.after s k (entry_at blocks k) in
    elim c.then-count-eq0.branch [
      | then-count-eq0-via-then-count-eq0 w ↦
          let all : min (32 * c.loop-i.i) (c.args.mark / 16) ≡ c.args.mark / 16 = omega arith in
          c.loop-i.invariant.0 ∙ ap (λ n. fold step c.args.into.now (range_with_len 0 n)) all
      | then-count-eq0-via-else-count-eq0+then-is_done w ↦
          fold_stopped step c.args.into.now c.loop-i.into (min (32 * c.loop-i.i) (c.args.mark / 16)) (c.args.mark / 16) (omega arith) c.loop-i.invariant.0
          (λ k. w.is_done.ensures w.if-is_done.true k (entry_at blocks k))
    ]

pub next-requires : goal.next-requires
next-requires g c =
    let blocks = g.B.DirBlocks.blocks c.args.blocks.now in
    let i = c.loop-i.i in
    (block_at blocks i, drop (i + 1) blocks, subst (g.B.DirBlocks.leads c.args.blocks.now c.loop-i.cursor) (blocks_from blocks i (omega arith)) c.loop-i.invariant.1)

pub loop-i-preserved : goal.loop-i-preserved
loop-i-preserved g c =
    let blocks = g.B.DirBlocks.blocks c.args.blocks.now in
    let step = λ (s : g.row.G.Denot) (k : _). g.G.Pass.after s k (entry_at blocks k) in
    let first : min (32 * c.loop-i.i) (c.args.mark / 16) ≡ 32 * c.from.result = omega arith in
    let next : 32 * c.from.result + c.entries_in-count.result ≡ min (32 * (c.loop-i.i + 1)) (c.args.mark / 16) = omega arith in
    let i = c.loop-i.i in
    let block = c.next.ensures (block_at blocks i) (drop (i + 1) blocks) (subst (g.B.DirBlocks.leads c.args.blocks.now c.loop-i.cursor) (blocks_from blocks i (omega arith)) c.loop-i.invariant.1) in (
      one_block_more g.G.Pass.after blocks c.next.result.now c.args.into.now c.loop-i.into c.scan_block.new.into c.loop-i.i (32 * c.from.result) c.entries_in-count.result (omega arith) (omega arith)
          block.0 (c.loop-i.invariant.0 ∙ ap (λ n. fold step c.args.into.now (range_with_len 0 n)) first) c.scan_block.ensures
          ∙ ap (λ n. fold step c.args.into.now (range_with_len 0 n)) next,
      block.1,
    )
