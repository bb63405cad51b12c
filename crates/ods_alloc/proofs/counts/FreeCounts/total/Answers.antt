use Rattle.std.proofs.Common.{◌∙◌, ap}
use Rattle.std.specs.List.{sum}
use Rattle.std.proofs.lemmas.List.{take_all}
use Rattle.ods_alloc.proofs.Counted.{free_total}
use Rattle.ods_alloc.proofs.counts.FreeCounts.total.Goals as goal

pub returns : goal.returns
returns c = λ I L layout is.
    c.loop-count.invariant
    ∙ ap sum (take_all c.loop-count.count-index c.deref-count-items.result.now c.loop-count-test.false ∙ c.deref-count-items.ensures.value)
    ∙ ap (λ v. sum v.blocks) (c.self.view_is ∙ is)
    ∙ free_total I L
