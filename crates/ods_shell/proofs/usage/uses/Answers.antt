use Rattle.std.proofs.Common.{rules, ◌≡◌, false, [], refl, take}
use Rattle.std.specs.Prelude.{replicate}
use Rattle.std.proofs.lemmas.Option.{slice_get_read}
use Rattle.ods_shell.specs.Usage.{IsCounted}
use Rattle.ods_shell.proofs.Flags.{flags_none, none_of_none}
use Rattle.ods_shell.proofs.Uses.{uses_next}
use Rattle.ods_shell.proofs.usage.uses.Goals as goal

pub loop-line-init : goal.loop-line-init
loop-line-init c =
    let clear : c.in_ok-is_seen.is_seen.items ≡ replicate 65536 false = c.in_ok-is_seen.ensures.items_if_clones_equal (λ y same. same) in
    let empty : c.new-all.result.items ≡ [] = search rules in
    (empty, flags_none (IsCounted c.args.disk.now.image.now c.args.disk.now.layout.now []) c.in_ok-is_seen.is_seen.items 65536 clear refl (λ n counted. none_of_none _ counted.2))

pub loop-line-preserved : goal.loop-line-preserved
loop-line-preserved c =
    let at = slice_get_read c.deref-line-items.result.now _ c.loop-line.line-index c.line-item.result refl c.loop-line-test.true c.line-item.is in
    uses_next c.args.disk.now.image.now c.args.disk.now.layout.now c.deref-line-items.result.now c.loop-line.line-index c.line-item.result c.loop-line.is_seen.items c.add_use.new.is_seen.items
    c.loop-line.all.items c.add_use.new.all.items at (c.in_ok-add_use.ensures (take c.loop-line.line-index c.deref-line-items.result.now)) c.loop-line.invariant
