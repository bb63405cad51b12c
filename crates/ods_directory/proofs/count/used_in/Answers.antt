use Rattle.std.proofs.Common.{◌∙◌, sym, ap, length, arith}
use Rattle.std.proofs.lemmas.List.{length_push}
use Rattle.ods_directory.specs.Entry.{entry_in}
use Rattle.ods_directory.proofs.Used.{used_from}
use Rattle.ods_directory.proofs.Blockwise.{used_from_used, used_from_unused}
use Rattle.ods_directory.proofs.count.used_in.Goals as goal
use Rattle.ods_directory.proofs.count.used_in.Goals.{then-is_used, else-is_used}

pub loop-k-preserved : goal.loop-k-preserved
loop-k-preserved c =
    let entry = entry_in c.args.block.now in
    elim c.if-is_used.branch [
      | then-is_used w ↦
          let more = ap length (used_from_used entry c.loop-k.k (sym c.is_used.ensures ∙ w.if-is_used.true)) ∙ length_push (used_from entry 0 c.loop-k.k) (entry c.loop-k.k) in
          (omega (arith, more), omega arith)
      | else-is_used w ↦
          let same = ap length (used_from_unused entry c.loop-k.k (sym c.is_used.ensures ∙ w.if-is_used.false)) in
          (omega (arith, same), omega arith)
    ]
