use Rattle.std.proofs.Common.{◌≡◌, inl, inr, ◌+◌, ◌<◌, ◌≤◌, sym, ap, length, Some, arith}
use Rattle.std.specs.List.{slice_get}
use Rattle.std.specs.Option.{option_map_or}
use Rattle.std.proofs.lemmas.Option.{slice_get_within}
use Rattle.ods_walk.specs.declared.tables.Entered.{Entered}
use Rattle.ods_shell.proofs.BelowAdded.{one_more, past_end, room_for_next}
use Rattle.ods_shell.proofs.below.add_entered.Goals as goal

pub overflow_add-place : goal.overflow_add-place
overflow_add-place c =
    let table = c.args.walk.now.directories in
    let e : Entered = c.in-Some.entered.now in
    let at : slice_get table c.places.place ≡ Some e = sym c.in-Some.ensures in
    let few : c.places.place + 1 ≤ 65536 =
    room_for_next c.args.start.now table c.places.place c.places.is_added c.args.found.now.items c.places.found.items e.number (slice_get_within table c.places.place e at)
    (ap (λ o. option_map_or (λ (x : Entered). x.number) o 0) at) c.add_one.ensures.word c.places.invariant c.requires.once in
    omega arith

pub places-smaller : goal.places-smaller
places-smaller c =
    let table = c.args.walk.now.directories in
    let e : Entered = c.in-Some.entered.now in
    let within : c.places.place < length table = slice_get_within table c.places.place e (sym c.in-Some.ensures) in
    omega arith

pub places-preserved : goal.places-preserved
places-preserved c =
    let table = c.args.walk.now.directories in
    let e : Entered = c.in-Some.entered.now in
    let at : slice_get table c.places.place ≡ Some e = sym c.in-Some.ensures in
    one_more c.args.start.now table c.places.place c.places.is_added c.add_one.new.is_added c.args.found.now.items c.places.found.items c.add_one.new.found.items e.number (slice_get_within table c.places.place e at)
    (ap (λ o. option_map_or (λ (x : Entered). x.number) o 0) at) c.add_one.ensures.word c.places.invariant c.in_ok-add_one.ensures.flags c.in_ok-add_one.ensures.one

pub returns-clause-only : goal.returns-clause-only
returns-clause-only c = λ d has.
    elim (c.places.invariant.only d has) [
      | inl old ↦ inl old
      | inr new ↦ (
          let low : new.0 < c.places.place = new.1 in
          let all : c.places.place ≤ length c.args.walk.now.directories = c.places.invariant.inside in
          inr (new.0, omega arith, new.2, new.3))
    ]

pub returns-clause-all : goal.returns-clause-all
returns-clause-all c = λ place within.
    let past : length c.args.walk.now.directories ≤ c.places.place = past_end c.args.walk.now.directories c.places.place (sym c.in_default.ensures) in
    c.places.invariant.all place (omega arith)
