use Rattle.std.proofs.Common.{refl, ap, subst, arith}
use Rattle.ods_header.specs.declared.header.Run.{Run}
use Rattle.ods_amend.specs.Runs.{HasNoRun, IsFreeRun}
use Rattle.ods_repair.specs.Settled.{HasRunToo, MeetsRun, MissesRun}
use Rattle.ods_repair.proofs.OwnRun.{new_inside}
use Rattle.ods_repair.proofs.unsharing.settle_run.Goals as goal

pub insert_run-requires-clause-room : goal.insert_run-requires-clause-room
insert_run-requires-clause-room c = let inside = c.run_of-run.ensures.inside in let room = c.requires.room in omega (arith, inside, room)

pub returns-then-not-meets_run-clause-settled : goal.returns-then-not-meets_run-clause-settled
returns-then-not-meets_run-clause-settled c =
    let is = c.run_of-run.ensures.run in (
      refl,
      subst (λ (r : Run). MissesRun c.args.seen.now r) is c.if-not-meets_run.ensures,
      subst (λ (r : Run). HasRunToo c.insert_run.new.set c.args.seen.now r) is c.insert_run.ensures.with,
    )

pub insert_run-requires-in_default-clause-room : goal.insert_run-requires-in_default-clause-room
insert_run-requires-in_default-clause-room c = let inside = c.run_of-run.ensures.inside in let room = c.requires.room in omega (arith, inside, room)

pub returns-in_default-clause-settled : goal.returns-in_default-clause-settled
returns-in_default-clause-settled c =
    let is = c.run_of-run.ensures.run in (
      refl,
      subst (λ (r : Run). MeetsRun c.args.seen.now r) is c.if-not-meets_run.ensures,
      subst (λ (r : Run). HasNoRun c.args.image.now c.args.layout.now r.count) is c.in_default.ensures.none,
      subst (λ (r : Run). HasRunToo c.insert_run-in_default.new.set c.args.seen.now r) is c.insert_run-in_default.ensures.with,
    )

pub move_run-requires-clause-free : goal.move_run-requires-clause-free
move_run-requires-clause-free c = subst (λ (r : Run). IsFreeRun c.args.image.now c.args.layout.now c.in-Some.to r.count) c.run_of-run.ensures.run c.in-Some.ensures.some.free

pub insert_run-requires-2-clause-small : goal.insert_run-requires-2-clause-small
insert_run-requires-2-clause-small c =
    let free = subst (λ (r : Run). IsFreeRun c.args.image.now c.args.layout.now c.in-Some.to r.count) c.run_of-run.ensures.run c.in-Some.ensures.some.free in
    let inside = new_inside c.args.image.now c.args.layout.now c.args.file c.args.at c.requires.can c.requires.inside c.in-Some.to free in
    let same = ap (λ (r : Run). r.count) c.run_of-run.ensures.run in
    let size = c.len.ensures.value in let few = c.len.type_inv in
    omega (arith, inside, same, size, few)

pub insert_run-requires-2-clause-room : goal.insert_run-requires-2-clause-room
insert_run-requires-2-clause-room c =
    let free = subst (λ (r : Run). IsFreeRun c.args.image.now c.args.layout.now c.in-Some.to r.count) c.run_of-run.ensures.run c.in-Some.ensures.some.free in
    let inside = new_inside c.args.image.now c.args.layout.now c.args.file c.args.at c.requires.can c.requires.inside c.in-Some.to free in
    let same = ap (λ (r : Run). r.count) c.run_of-run.ensures.run in
    let room = c.requires.room in
    omega (arith, inside, same, room)

pub returns-clause-settled : goal.returns-clause-settled
returns-clause-settled c =
    let is = c.run_of-run.ensures.run in
    let free = subst (λ (r : Run). IsFreeRun c.args.image.now c.args.layout.now c.in-Some.to r.count) is c.in-Some.ensures.some.free in (
      c.in-Some.to,
      subst (λ (r : Run). MeetsRun c.args.seen.now r) is c.if-not-meets_run.ensures,
      free,
      c.move_run.ensures,
      subst (λ (r : Run). HasRunToo c.insert_run-2.new.set c.args.seen.now (record { lbn = c.in-Some.to; count = r.count })) is c.insert_run-2.ensures.with,
    )
