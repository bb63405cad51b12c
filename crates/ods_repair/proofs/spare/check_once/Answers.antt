use Rattle.std.proofs.Common.{ℕ, ◌*◌, ◌<◌, ◌≤◌, ◌∙◌, length, get_or, refl, sym, subst, arith}
use Rattle.std.proofs.lemmas.Option.{slice_get-get_or}
use Rattle.ods_repair.proofs.Apart.{all_seen, came_before, one_seen}
use Rattle.ods_repair.proofs.spare.check_once.Goals as goal

pub returns-then-contains-clause-err : goal.returns-then-contains-clause-err
returns-then-contains-clause-err c =
    let xs = c.args.blocks.now in
    let i = c.loop-i.i in
    let at = slice_get-get_or xs i 0 c.loop-i-test.true in
    let twice = came_before xs i (get_or xs i 0) c.loop-i.seen c.loop-i.invariant.seen at (sym c.contains.ensures ∙ c.if-contains.true) in
    λ first. (refl, twice.0, twice.1, twice.2, twice.3, twice.4)

pub insert-requires : goal.insert-requires
insert-requires c =
    let inside : get_or c.args.blocks.now c.loop-i.i 0 < length c.args.disk.now.image.now = c.requires c.loop-i.i 0 c.loop-i-test.true in
    let room = c.loop-i.invariant.room in
    omega (arith, inside, room)

pub loop-i-preserved : goal.loop-i-preserved
loop-i-preserved c =
    let xs = c.args.blocks.now in
    let i = c.loop-i.i in
    let Q : ℕ → Type 0 = λ l. length c.args.disk.now.image.now ≤ 64 * l in
    record {
      seen = one_seen xs i (get_or xs i 0) c.loop-i.seen c.insert.new.self c.loop-i.invariant.seen (slice_get-get_or xs i 0 c.loop-i-test.true) (sym c.contains.ensures ∙ c.if-contains.false) c.insert.ensures.with;
      room = subst Q (sym c.insert.ensures.room) c.loop-i.invariant.room;
    }

pub returns-clause-ok : goal.returns-clause-ok
returns-clause-ok c = all_seen c.args.blocks.now c.loop-i.i c.loop-i.seen (let end = c.loop-i-test.false in omega (arith, end)) c.loop-i.invariant.seen
