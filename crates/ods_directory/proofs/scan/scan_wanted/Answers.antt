use Rattle.std.proofs.Common.{◌≡◌, ◌*◌, ◌+◌, ◌/◌, ◌∙◌, ap, min, fold, arith}
use Rattle.std.specs.List.{range_with_len}
use Rattle.ods_directory.specs.Entry.{entry_at}
use Rattle.ods_directory.proofs.Blockwise.{one_block_more}
use Rattle.ods_directory.proofs.Folds.{fold_stopped}
use Rattle.ods_directory.proofs.Tagged.{skipped}
use Rattle.ods_directory.proofs.scan.scan_wanted.Goals as goal

pub loop-at-init : goal.loop-at-init
loop-at-init g c =
    let blocks = g.B.DirBlocks.blocks c.args.blocks.now in
    let step = λ (s : g.row.G.Denot) (k : _). g.G.Pass.after s k (entry_at blocks k) in
    let none : 0 ≡ min (32 * 0) (c.args.mark / 16) = omega arith in
    record {
      most = c.next_wanted-at.ensures.end;
      taken = skipped g.G.Pass.after blocks c.args.tags.now c.wanted.result c.args.into.now c.args.into.now 0 c.next_wanted-at.result (c.args.mark / 16) (omega arith) (omega arith) c.requires.tags
          c.next_wanted-at.ensures.none c.wanted.ensures (ap (λ n. fold step c.args.into.now (range_with_len 0 n)) none);
    }

pub returns-then-is_done-clause-after : goal.returns-then-is_done-clause-after
returns-then-is_done-clause-after g c =
    let blocks = g.B.DirBlocks.blocks c.args.blocks.now in
    let step = λ (s : g.row.G.Denot) (k : _). g.G.Pass.after s k (entry_at blocks k) in
    let first : min (32 * c.loop-at.at) (c.args.mark / 16) ≡ 32 * c.from.result = omega arith in
    let more = one_block_more g.G.Pass.after blocks c.block.result.now c.args.into.now c.loop-at.into c.scan_block.new.into c.loop-at.at (32 * c.from.result) c.entries_in.result (omega arith) (omega arith)
    c.block.ensures.value (c.loop-at.invariant.taken ∙ ap (λ n. fold step c.args.into.now (range_with_len 0 n)) first) c.scan_block.ensures in
    fold_stopped step c.args.into.now c.scan_block.new.into (32 * c.from.result + c.entries_in.result) (c.args.mark / 16) (omega arith) more
    (λ k. c.is_done.ensures c.if-is_done.true k (entry_at blocks k))

pub loop-at-preserved : goal.loop-at-preserved
loop-at-preserved g c =
    let blocks = g.B.DirBlocks.blocks c.args.blocks.now in
    let step = λ (s : g.row.G.Denot) (k : _). g.G.Pass.after s k (entry_at blocks k) in
    let first : min (32 * c.loop-at.at) (c.args.mark / 16) ≡ 32 * c.from.result = omega arith in
    let next : 32 * c.from.result + c.entries_in.result ≡ min (32 * (c.loop-at.at + 1)) (c.args.mark / 16) = omega arith in
    let more = one_block_more g.G.Pass.after blocks c.block.result.now c.args.into.now c.loop-at.into c.scan_block.new.into c.loop-at.at (32 * c.from.result) c.entries_in.result (omega arith) (omega arith)
    c.block.ensures.value (c.loop-at.invariant.taken ∙ ap (λ n. fold step c.args.into.now (range_with_len 0 n)) first) c.scan_block.ensures
    ∙ ap (λ n. fold step c.args.into.now (range_with_len 0 n)) next in
    record {
      most = c.next_wanted-at-in-loop-at.ensures.end;
      taken = skipped g.G.Pass.after blocks c.args.tags.now c.wanted-in-loop-at.result c.args.into.now c.scan_block.new.into (c.loop-at.at + 1) c.next_wanted-at-in-loop-at.result (c.args.mark / 16)
          c.next_wanted-at-in-loop-at.ensures.from (omega arith) c.requires.tags c.next_wanted-at-in-loop-at.ensures.none c.wanted-in-loop-at.ensures more;
    }

pub returns-clause-after : goal.returns-clause-after
returns-clause-after g c =
    let blocks = g.B.DirBlocks.blocks c.args.blocks.now in
    let step = λ (s : g.row.G.Denot) (k : _). g.G.Pass.after s k (entry_at blocks k) in
    let all : min (32 * c.loop-at.at) (c.args.mark / 16) ≡ c.args.mark / 16 = omega arith in
    c.loop-at.invariant.taken ∙ ap (λ n. fold step c.args.into.now (range_with_len 0 n)) all
