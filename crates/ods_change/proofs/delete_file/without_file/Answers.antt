use Rattle.std.proofs.Common.{◌∙◌, ◌∷◌, ◌++◌, ap}
use Rattle.ods_space.specs.Chain.{named_by}
use Rattle.ods_space.specs.Draft.{applied}
use Rattle.ods_state.proofs.Bookkeeping.{well_placed}
use Rattle.ods_change.proofs.Deleting.{given_along}
use Rattle.ods_change.proofs.HeldByFiles.{chain_noted, chain_read, places_in}
use Rattle.ods_change.proofs.delete_file.without_file.Goals as goal

pub from-headers-requires-clause-chain : goal.from-headers-requires-clause-chain
from-headers-requires-clause-chain c = let whole = c.requires.sound.chains c.args.number c.requires.file in (whole.1.others, whole.0, whole.1.whole.chain)

pub delete_headers-requires-clause-places : goal.delete_headers-requires-clause-places
delete_headers-requires-clause-places c = well_placed c.args.disk.now.image.now c.args.disk.now.layout.now c.requires.sound

pub delete_headers-requires-clause-read : goal.delete_headers-requires-clause-read
delete_headers-requires-clause-read c =
    let whole = c.requires.sound.chains c.args.number c.requires.file in
    chain_read c.args.disk.now.image.now c.args.disk.now.layout.now c.args.number c.from-headers.result whole.1.others whole.0 c.len.ensures.image c.requires.sound.layout whole.1.whole.chain c.from-headers.ensures

pub mark_free-requires : goal.mark_free-requires
mark_free-requires c =
    let I = c.args.disk.now.image.now in
    record { places = places_in I c.args.disk.now.layout.now c.requires.sound.layout (well_placed I c.args.disk.now.layout.now c.requires.sound) }

pub returns : goal.returns
returns c = λ others all whole.
    let I = c.args.disk.now.image.now in
    let L = c.args.disk.now.layout.now in
    let own = chain_noted I L c.args.number c.from-headers.result c.in_ok-held.held.lbns.items c.in_ok-held.held.numbers.items c.len.ensures.image c.requires.sound.layout c.from-headers.ensures
    (c.in_ok-held.ensures.held.0 ∙ ap (λ l. l ++ named_by c.from-headers.result) c.new.ensures.items) c.in_ok-held.ensures.held.1 others all whole.chain in
    given_along I (applied I c.delete_headers.new.draft) (applied I c.in_ok-given.given) L _ c.deref.result.now c.deref-2.result.now all (c.args.number ∷ others) (well_placed I L c.requires.sound)
    c.in_ok-held.ensures.deleted (c.deref.ensures.value ∙ own.0) c.deref-2.ensures.value own.1 c.in_ok-given.ensures.bits c.in_ok-given.ensures.only
