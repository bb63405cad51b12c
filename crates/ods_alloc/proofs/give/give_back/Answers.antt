use Rattle.ods_space.specs.Draft.{applied}
use Rattle.ods_alloc.proofs.Places.{has_places}
use Rattle.ods_alloc.proofs.Giving.{gives_back}
use Rattle.ods_alloc.proofs.give.give_back.Goals as goal

pub delete_headers-requires-clause-places : goal.delete_headers-requires-clause-places
delete_headers-requires-clause-places c = has_places c.args.disk.now.image.now c.args.draft.now c.args.disk.now.layout.now c.requires.layout c.requires.places

pub mark_free-requires : goal.mark_free-requires
mark_free-requires c = record { places = has_places c.args.disk.now.image.now c.args.draft.now c.args.disk.now.layout.now c.requires.layout c.requires.places }

pub returns-clause-ok : goal.returns-clause-ok
returns-clause-ok c =
    let I = c.args.disk.now.image.now in
    gives_back (applied I c.args.draft.now) (applied I c.delete_headers.new.draft) (applied I c.in_ok-draft.field-0) c.args.disk.now.layout.now c.args.blocks.now c.args.numbers.now
    c.requires.places c.in_ok-delete_headers.ensures c.in_ok-draft.ensures.bits c.in_ok-draft.ensures.only
