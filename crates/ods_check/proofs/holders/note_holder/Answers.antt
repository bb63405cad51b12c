use Rattle.std.proofs.Common.{◌∙◌, refl, arith}
use Rattle.std.proofs.lemmas.Option.{slice_get_within}
use Rattle.std.proofs.lemmas.List.{length-set}
use Rattle.ods_check.proofs.Holding.{noted_still, noted_more}
use Rattle.ods_check.proofs.holders.note_holder.Goals as goal

pub loop-i-preserved : goal.loop-i-preserved
loop-i-preserved c =
    let lists = c.loop-i.lists in
    let inside = c.requires c.loop-i.i 0 c.loop-i-test.true in
    let size = c.loop-i.invariant.size in
    record {
      added = noted_more lists _ c.index-lists-lbns.result c.add_last.new.list (omega arith) (λ m there. c.in_ok-add_last.ensures.kept m there) c.args.lbns.now c.loop-i.i c.args.number refl c.loop-i-test.true c.in_ok-add_last.ensures.added c.loop-i.invariant.added;
      kept = λ b m there. noted_still lists _ c.index-lists-lbns.result c.add_last.new.list (omega arith) (λ m there. c.in_ok-add_last.ensures.kept m there) b m (c.loop-i.invariant.kept b m there);
      size = length-set lists _ _ ∙ size;
    }

pub returns-clause-noted : goal.returns-clause-noted
returns-clause-noted c j b there =
    let end = c.loop-i-test.false in
    let within = slice_get_within c.args.lbns.now j b there in
    c.loop-i.invariant.added j b (omega arith) there
