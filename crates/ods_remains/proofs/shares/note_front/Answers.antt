use Rattle.std.proofs.Common.{subst}
use Rattle.ods_remains.specs.Shared.{IsFilled, AreMarked}
use Rattle.ods_remains.proofs.shares.note_front.Goals as goal

pub returns : goal.returns
returns c =
    let n = c.args.number in
    let front = c.in_ok-front.front in
    record {
      headers = front.headers.items;
      blocks = front.blocks.items;
      deleted = c.requires.deleted;
      front = c.in_ok-front.ensures;
      filled = subst (λ xs. IsFilled n xs c.args.table.now c.fill.new.table) c.deref.ensures.value c.fill.ensures.filled;
      size = c.fill.ensures.size;
      marked = subst (λ xs. AreMarked xs c.args.seen.now c.mark_all.new.seen) c.deref-2.ensures.value c.mark_all.ensures;
    }
