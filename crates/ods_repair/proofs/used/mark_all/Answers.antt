use Rattle.std.proofs.Common.{ℕ, ◌<◌, List, false, length, get_or, sym, subst}
use Rattle.std.proofs.lemmas.List.{take_all}
use Rattle.ods_alloc.specs.Marks.{MarksBlocks}
use Rattle.ods_repair.proofs.Cleared.{none_cleared, one_more}
use Rattle.ods_repair.proofs.used.mark_all.Goals as goal

pub loop-lbn-init : goal.loop-lbn-init
loop-lbn-init c = none_cleared c.args.image.now c.args.layout.now c.requires.once

pub mark_one-requires : goal.mark_one-requires
mark_one-requires c = record { inside = subst (λ n. (j : ℕ) (d : ℕ) → j < length c.args.layout.now.bitmap → get_or c.args.layout.now.bitmap j d < n) (sym c.loop-lbn.invariant.size) c.requires.inside }

pub loop-lbn-preserved : goal.loop-lbn-preserved
loop-lbn-preserved c =
    one_more c.args.image.now c.args.layout.now c.requires.once c.loop-lbn.image c.mark_one.new.image c.args.blocks.now c.loop-lbn.lbn-index c.loop-lbn-test.true c.loop-lbn.invariant c.mark_one.ensures

pub returns : goal.returns
returns c =
    let P : List ℕ → Type 0 = λ xs. MarksBlocks c.args.image.now c.args.layout.now xs false c.loop-lbn.image in
    subst P (take_all c.loop-lbn.lbn-index c.args.blocks.now c.loop-lbn-test.false) c.loop-lbn.invariant
