use Rattle.std.proofs.Common.{subst, sym}
use Rattle.std.proofs.lemmas.Option.{slice_get-get_or}
use Rattle.ods_repair.proofs.NamedLost.{AreUpTo, is_file, up_to_all, up_to_more, up_to_none}
use Rattle.ods_repair.proofs.entering.with_names.Goals as goal

pub loop-i-init : goal.loop-i-init
loop-i-init c are =
    subst (λ xs. AreUpTo c.args.disk.now.image.now c.args.disk.now.layout.now c.args.lost.now are 0 xs) (sym c.new-found.ensures.items) (up_to_none c.args.disk.now.image.now c.args.disk.now.layout.now c.args.lost.now are)

pub push_if_named-requires : goal.push_if_named-requires
push_if_named-requires c =
    is_file c.args.disk.now.image.now c.args.disk.now.layout.now c.args.lost.now c.requires c.loop-i.i _ (slice_get-get_or c.args.lost.now c.loop-i.i (record { number = 0; sequence = 0 }) c.loop-i-test.true)

pub loop-i-preserved : goal.loop-i-preserved
loop-i-preserved c are =
    up_to_more c.args.disk.now.image.now c.args.disk.now.layout.now c.args.lost.now are c.loop-i.i _ c.loop-i.found.items c.push_if_named.new.found.items
    (slice_get-get_or c.args.lost.now c.loop-i.i (record { number = 0; sequence = 0 }) c.loop-i-test.true) (c.loop-i.invariant are) c.in_ok-push_if_named.ensures

pub returns : goal.returns
returns c = up_to_all c.args.disk.now.image.now c.args.disk.now.layout.now c.args.lost.now c.requires c.loop-i.i c.loop-i.found.items c.loop-i-test.false (c.loop-i.invariant c.requires)
