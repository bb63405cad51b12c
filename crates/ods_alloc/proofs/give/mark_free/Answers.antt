use Rattle.ods_space.specs.Draft.{applied}
use Rattle.ods_alloc.proofs.Giving.{gives_bits, only_bits}
use Rattle.ods_alloc.proofs.give.mark_free.Goals as goal

pub returns-clause-bits : goal.returns-clause-bits
returns-clause-bits c =
    let I = c.args.disk.now.image.now in
    gives_bits (applied I c.args.draft) (applied I c.mark_numbers.new.draft) (applied I c.mark_blocks.new.draft) c.args.disk.now.layout.now c.args.blocks.now c.args.numbers.now
    c.requires.places.places c.in_ok-mark_numbers.ensures c.in_ok-mark_blocks.ensures

pub returns-clause-only : goal.returns-clause-only
returns-clause-only c =
    let I = c.args.disk.now.image.now in
    only_bits (applied I c.args.draft) (applied I c.mark_numbers.new.draft) (applied I c.mark_blocks.new.draft) c.args.disk.now.layout.now c.args.blocks.now c.args.numbers.now
    c.requires.places.places c.in_ok-mark_numbers.ensures c.in_ok-mark_blocks.ensures
