use Rattle.std.proofs.Common.{sym, subst, ◌∙◌, ap, ◌/◌}
use Rattle.ods_directory.specs.declared.first.Kind.TheVariants.{Empty}
use Rattle.ods_directory.specs.Entry.{entry_at}
use Rattle.ods_directory.specs.First.{slot_of}
use Rattle.ods_directory.specs.Mark.{IsSlot}
use Rattle.ods_directory.proofs.Firsts.{first_below, slot_of_first}
use Rattle.ods_directory.proofs.slots.slot_for.Goals as goal

pub slot_at-requires-clause-empty : goal.slot_at-requires-clause-empty
slot_at-requires-clause-empty g c = first_below Empty (entry_at (g.B.DirBlocks.blocks c.args.blocks.now)) (c.args.mark / 16) c.first_entry-empty.result c.first_entry-empty.ensures

pub returns : goal.returns
returns g c =
    let blocks = g.B.DirBlocks.blocks c.args.blocks.now in
    subst (IsSlot blocks c.args.mark) (sym (c.slot_at.ensures ∙ ap (slot_of c.first_entry-empty.result c.args.mark) c.count.ensures)) (slot_of_first blocks c.args.mark c.first_entry-empty.result c.first_entry-empty.ensures)
