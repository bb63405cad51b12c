use Rattle.std.proofs.Common.{◌≡◌, sym, subst, arith}
use Rattle.ods_space.specs.Layout.{last_number}
use Rattle.ods_remains.proofs.FormerFiles.{AreUpTo, none_yet, one_more, all_of_them}
use Rattle.ods_remains.proofs.deletions.deleted_files.Goals as goal

pub loop-before-init : goal.loop-before-init
loop-before-init c =
    let D = c.args.disk.now in
    subst (AreUpTo D.image.now D.layout.now 0) (sym c.new-numbers.ensures.items) (none_yet D.image.now D.layout.now)

pub loop-before-preserved : goal.loop-before-preserved
loop-before-preserved c =
    let D = c.args.disk.now in
    one_more D.image.now D.layout.now c.loop-before.before c.loop-before.numbers.items c.push_deleted.new.numbers.items c.loop-before.invariant c.in_ok-push_deleted.ensures

pub returns : goal.returns
returns c =
    let D = c.args.disk.now in
    let end = c.last_number-before-end.ensures in
    let past = c.loop-before-test.false in
    let within = c.loop-before.auto.before-end in
    let same : c.loop-before.before ≡ last_number D.layout.now = omega (arith, end, past, within) in
    all_of_them D.image.now D.layout.now c.loop-before.numbers.items (subst (λ n. AreUpTo D.image.now D.layout.now n c.loop-before.numbers.items) same c.loop-before.invariant)
