use Rattle.std.proofs.Common.{ℕ, List, ap, sym, subst, refl, arith}
use Rattle.std.specs.List.{All}
use Rattle.ods_header.specs.declared.header.Run.{Run}
use Rattle.ods_header.specs.Header.{IsRun, segment_of}
use Rattle.ods_space.specs.Draft.{applied}
use Rattle.ods_space.proofs.Drafts.{length-applied}
use Rattle.ods_alloc.specs.Extend.{with_in_use}
use Rattle.ods_alloc.specs.Extension.{WritesHeaders}
use Rattle.ods_alloc.proofs.Places.{has_places}
use Rattle.ods_alloc.proofs.Cuts.{cut_runs}
use Rattle.ods_alloc.proofs.Chained.{ends_found}
use Rattle.ods_alloc.proofs.Extending.{extends}
use Rattle.ods_alloc.proofs.Written.{free_can_be_made}
use Rattle.ods_alloc.proofs.extend.extend_from.Goals as goal

pub write_headers-requires-clause-places : goal.write_headers-requires-clause-places
write_headers-requires-clause-places g c = has_places c.args.disk.now.image.now c.args.draft c.args.disk.now.layout.now c.requires.0 c.requires.1.0

pub mark_numbers-requires : goal.mark_numbers-requires
mark_numbers-requires g c = record { places = has_places c.args.disk.now.image.now c.args.draft c.args.disk.now.layout.now c.requires.0 c.requires.1.0 }

pub mark_numbers-requires-2 : goal.mark_numbers-requires-2
mark_numbers-requires-2 g c = record { places = has_places c.args.disk.now.image.now c.args.draft c.args.disk.now.layout.now c.requires.0 c.requires.1.0 }

pub mark_blocks-requires : goal.mark_blocks-requires
mark_blocks-requires g c = record { places = has_places c.args.disk.now.image.now c.args.draft c.args.disk.now.layout.now c.requires.0 c.requires.1.0 }

pub write_headers-requires-clause-first : goal.write_headers-requires-clause-first
write_headers-requires-clause-first g c = (ends_found (applied c.args.disk.now.image.now c.args.draft) c.args.disk.now.layout.now c.args.number g.chain.0 g.chain.1 c.args.blocks.now c.args.numbers.now c.args.first.now c.args.end.now c.last_header-last.result.now c.requires.1.0 c.requires.1.1.0 c.requires.1.1.1.0 c.requires.1.1.1.1.0 c.last_header-last.ensures.one c.last_header-last.ensures.other).first

pub write_headers-requires-clause-new : goal.write_headers-requires-clause-new
write_headers-requires-clause-new g c = free_can_be_made _ c.args.disk.now.layout.now c.args.numbers.now c.requires.1.1.1.0.free

pub write_headers-requires-clause-last : goal.write_headers-requires-clause-last
write_headers-requires-clause-last g c = (ends_found (applied c.args.disk.now.image.now c.args.draft) c.args.disk.now.layout.now c.args.number g.chain.0 g.chain.1 c.args.blocks.now c.args.numbers.now c.args.first.now c.args.end.now c.last_header-last.result.now c.requires.1.0 c.requires.1.1.0 c.requires.1.1.1.0 c.requires.1.1.1.1.0 c.last_header-last.ensures.one c.last_header-last.ensures.other).last

pub write_headers-requires-clause-apart : goal.write_headers-requires-clause-apart
write_headers-requires-clause-apart g c = (ends_found (applied c.args.disk.now.image.now c.args.draft) c.args.disk.now.layout.now c.args.number g.chain.0 g.chain.1 c.args.blocks.now c.args.numbers.now c.args.first.now c.args.end.now c.last_header-last.result.now c.requires.1.0 c.requires.1.1.0 c.requires.1.1.1.0 c.requires.1.1.1.1.0 c.last_header-last.ensures.one c.last_header-last.ensures.other).new

pub write_headers-requires-clause-segments : goal.write_headers-requires-clause-segments
write_headers-requires-clause-segments g c =
    let found = (ends_found (applied c.args.disk.now.image.now c.args.draft) c.args.disk.now.layout.now c.args.number g.chain.0 g.chain.1 c.args.blocks.now c.args.numbers.now c.args.first.now c.args.end.now c.last_header-last.result.now c.requires.1.0 c.requires.1.1.0 c.requires.1.1.1.0 c.requires.1.1.1.1.0 c.last_header-last.ensures.one c.last_header-last.ensures.other) in
    omega (arith, found.segment, ap segment_of found.last.is, c.requires.1.1.1.0.segments)

pub write_headers-requires-clause-runs : goal.write_headers-requires-clause-runs
write_headers-requires-clause-runs g c =
    let P : List Run → Type 0 = λ rs. All IsRun rs in
    subst P (sym c.requires.1.1.1.1.1) (cut_runs c.args.blocks.now (λ k d below.
    let inside = c.requires.1.1.1.0.inside k d below in
    let size = length-applied c.args.disk.now.image.now c.args.draft in
    omega (arith, inside, size, c.len.ensures.image.size)))

pub returns : goal.returns
returns g c =
    let image = c.args.disk.now.image.now in
    let I = applied image c.args.draft in
    let L = c.args.disk.now.layout.now in
    let n = c.args.number in
    let P : ℕ → Type 0 = λ x. WritesHeaders I L n x c.args.numbers.now c.args.runs.now (applied image c.write_headers.new.draft) in
    extends I (with_in_use I L.home n) (applied image c.write_headers.new.draft) (applied image c.mark_numbers.new.draft) (applied image c.mark_numbers-2.new.draft) (applied image c.mark_blocks.new.draft) L n g.chain.0 g.chain.1 c.args.blocks.now c.args.numbers.now c.args.runs.now
    c.requires.1.0 refl c.requires.1.1.0 c.requires.1.1.1.0 (c.requires.1.1.1.1.1) (subst P c.requires.1.1.1.1.0.number c.in_ok-write_headers.ensures) c.in_ok-mark_numbers.ensures c.in_ok-mark_numbers-2.ensures c.in_ok-mark_blocks.ensures
