use Rattle.std.proofs.Common.{◌≡◌, ◌+◌, ◌∙◌, ap, sym, arith}
use Rattle.ods_header.specs.Header.{sequence_of}
use Rattle.ods_space.specs.Layout.{header_at}
use Rattle.ods_space.specs.Draft.{applied}
use Rattle.ods_alloc.proofs.NewHeaders.{header_read}
use Rattle.ods_alloc.proofs.Places.{place_inside}
use Rattle.ods_alloc.proofs.chain.new_sequence.Goals as goal

value : (c : goal.After-file_sequence) → c.file_sequence.result ≡ sequence_of (header_at (applied c.args.disk.now.image.now c.args.draft.now) c.args.disk.now.layout.now c.args.number)
value c =
    let L = c.args.disk.now.layout.now in
    let found = sym c.place.ensures ∙ c.in-Some.is in
    c.file_sequence.ensures ∙ ap sequence_of (header_read c.args.disk.now.image.now c.args.draft.now L c.args.number c.in-Some.lbn c.block.result.now (place_inside _ L c.args.number c.in-Some.lbn c.requires.places found) found c.block.ensures.value)

pub block-requires : goal.block-requires
block-requires c = place_inside _ c.args.disk.now.layout.now c.args.number c.in-Some.lbn c.requires.places (sym c.place.ensures ∙ c.in-Some.is)

pub overflow_add-result : goal.overflow_add-result
overflow_add-result c = omega (arith, value c, c.requires.below)

pub returns-in-Some : goal.returns-in-Some
returns-in-Some c = ap (λ n. n + 1) (value c)
