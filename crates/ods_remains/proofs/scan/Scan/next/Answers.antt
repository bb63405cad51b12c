use Rattle.std.proofs.Common.{◌≡◌, ◌+◌, ◌∙◌, refl, sym, arith}
use Rattle.ods_header.specs.Header.{next_number_of, next_sequence_of, segment_of}
use Rattle.ods_remains.specs.Keys.{place_in_chain}
use Rattle.ods_remains.proofs.Going.{next_by, none_by_last}
use Rattle.ods_remains.proofs.scan.Scan.next.Goals as goal

pub returns-then-segment : goal.returns-then-segment
returns-then-segment c =
    none_by_last c.self.inside.image.now c.args.self.now c.args.lbn c.block-block.result.now c.len.ensures.image c.self.view_is c.block-block.ensures.value (sym c.segment.ensures ∙ c.if-segment.true)

pub returns : goal.returns
returns c =
    let b = c.block-block.result.now in
    let value = c.place_in_chain-place.ensures.value in
    let number = c.next_number.ensures in
    let sequence = c.next_sequence.ensures in
    let segment = c.segment-2.ensures in
    let place : c.place_in_chain-place.result ≡ place_in_chain (next_number_of b) (next_sequence_of b) (segment_of b + 1) = omega (arith, value, number, sequence, segment) in
    next_by c.self.inside.image.now c.args.self.now c.self.inside.keys.items c.deref.result.now c.args.lbn b c.place_in_chain-place.result c.nearest.result c.len.ensures.image c.self.view_is c.self.invariant
    c.deref.ensures.value c.block-block.ensures.value (c.if-not-is_candidate.ensures.0 refl) (sym c.next_volume.ensures ∙ c.if-next_volume-ne0.false) (λ same. c.if-segment.false (c.segment.ensures ∙ same)) place c.nearest.ensures
