use Rattle.std.proofs.Common.{rules, ◌≤◌, length, refl, arith}
use Rattle.std.proofs.lemmas.Option.{slice_get_read}
use Rattle.ods_walk.proofs.TableGrows.{begin_reading, seen_on, directory_read}
use Rattle.ods_walk.proofs.entering.enter_each.Goals as goal

pub loop-entry-init : goal.loop-entry-init
loop-entry-init c = (begin_reading c.args.is_entered.now c.args.directories.now.items c.args.place c.args.entries.now c.requires.so c.requires.within, omega arith)

pub loop-entry-preserved : goal.loop-entry-preserved
loop-entry-preserved c =
    let e = c.entry-item.result in
    let here = slice_get_read c.args.entries.now _ c.loop-entry.entry-index e refl c.loop-entry-test.true c.entry-item.is in
    let inv = c.loop-entry.invariant in
    let on = seen_on inv.0 c.requires.listing e c.enter_by.new.is_entered c.enter_by.new.directories.items here c.enter_by.ensures.word c.in_ok-enter_by.ensures.seen in
    let before = inv.1 in
    let after = on.1 in
    (on.0, omega (arith, before, after))

pub returns-clause-so : goal.returns-clause-so
returns-clause-so c =
    let past : length c.args.entries.now ≤ c.loop-entry.entry-index = search rules in
    directory_read c.loop-entry.invariant.0 c.requires.listing past

pub returns-clause-bounded : goal.returns-clause-bounded
returns-clause-bounded c = c.loop-entry.invariant.1
