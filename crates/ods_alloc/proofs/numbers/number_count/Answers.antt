use Rattle.std.proofs.Common.{◌++◌, ◌∷◌, [], refl, subst, arith}
use Rattle.std.proofs.lemmas.Option.{slice_get_within}
use Rattle.ods_space.specs.Layout.{last_number}
use Rattle.ods_space.specs.Free.{is_free_number, is_open_number, free_numbers}
use Rattle.ods_alloc.specs.Scan.{IsNext, NoneIsNext}
use Rattle.ods_alloc.proofs.Scans.{one_more_found, all_found}
use Rattle.ods_alloc.proofs.FreeTests.{free_number}
use Rattle.ods_alloc.proofs.numbers.number_count.Goals as goal

pub overflow_add-count : goal.overflow_add-count
overflow_add-count c = omega (arith, c.loop-number.invariant.1.few, c.in-Some.ensures.some.above)

pub loop-number-preserved : goal.loop-number-preserved
loop-number-preserved c =
    let found = c.loop-number.invariant in
    let next = subst (λ m. IsNext (is_open_number c.args.disk.now.image.now c.args.disk.now.layout.now m) c.loop-number.from c.in-Some.number) c.last_number-last.ensures c.in-Some.ensures.some in
    let inside = (free_number c.args.disk.now.image.now c.args.disk.now.layout.now c.in-Some.number next.passes).high in (
      found.0 ++ c.in-Some.number ∷ [],
      one_more_found (is_free_number c.args.disk.now.image.now c.args.disk.now.layout.now) 1 (last_number c.args.disk.now.layout.now) found.0 _ c.loop-number.from c.loop-number.count c.in-Some.number (omega (arith, inside)) found.1 next refl,
    )

pub returns : goal.returns
unfolding free_numbers
returns c =
    let found = c.loop-number.invariant in
    all_found (is_free_number c.args.disk.now.image.now c.args.disk.now.layout.now) 1 (last_number c.args.disk.now.layout.now) found.0 c.loop-number.from c.loop-number.count found.1
    (subst (λ m. NoneIsNext (is_open_number c.args.disk.now.image.now c.args.disk.now.layout.now m) c.loop-number.from) c.last_number-last.ensures c.in_default.ensures.none)

pub next_open_number-requires-clause-counts : goal.next_open_number-requires-clause-counts
next_open_number-requires-clause-counts c = λ k shown. let inside = slice_get_within [] k 0 shown in absurd (omega (arith, inside))
