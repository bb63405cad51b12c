use Rattle.std.proofs.Common.{◌≡◌, ◌∙◌, ◌<◌, ℕ, ap, length, get_or, refl, subst, sym}
use Rattle.std.specs.Prelude.{replicate}
use Rattle.std.proofs.lemmas.List.{get_or-replicate, length-replicate, length-set}
use Rattle.std.proofs.lemmas.Option.{slice_get_read}
use Rattle.ods_shell.proofs.Uses.{blocks_next}
use Rattle.ods_shell.proofs.usage.sums_of.Goals as goal

pub loop-used-init : goal.loop-used-init
loop-used-init c =
    let clear : c.in_ok-sums.sums.items ≡ replicate c.args.many 0 = c.in_ok-sums.ensures.items_if_clones_equal (λ y same. same) in
    (ap length clear ∙ length-replicate {A = ℕ} c.args.many 0, λ place small. ap (λ l. get_or l place 0) clear ∙ get_or-replicate {A = ℕ} c.args.many place 0 0 small)

pub loop-used-preserved : goal.loop-used-preserved
loop-used-preserved c =
    let at = slice_get_read c.args.uses.now _ c.loop-used.used-index c.used-item.result refl c.loop-used-test.true c.used-item.is in (
      ap length c.add_blocks.ensures ∙ length-set c.loop-used.sums.items _ _ ∙ c.loop-used.invariant.0,
      λ place small. blocks_next c.args.uses.now c.loop-used.used-index c.used-item.result place c.loop-used.sums.items c.add_blocks.new.sums.items at
          (subst (λ n. place < n) (sym c.loop-used.invariant.0) small) c.add_blocks.ensures (c.loop-used.invariant.1 place small),
    )
