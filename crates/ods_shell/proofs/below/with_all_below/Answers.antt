use Rattle.std.proofs.Common.{◌≡◌, false, ◌∙◌, refl}
use Rattle.std.specs.Prelude.{replicate}
use Rattle.ods_walk.proofs.Flagged.{entered_none}
use Rattle.ods_shell.proofs.below.with_all_below.Goals as goal

pub gather-requires : goal.gather-requires
gather-requires c =
    let clear : c.in_ok-is_added.is_added.items ≡ replicate 65536 false = c.in_ok-is_added.ensures.items_if_clones_equal (λ y same. same) in
    entered_none c.deref_mut.result.now 65536 (c.deref_mut.ensures.value ∙ clear) refl
