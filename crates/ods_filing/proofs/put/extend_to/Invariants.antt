use Rattle.std.specs.Prelude.{◌-◌, ◌≤◌, replicate}
use Rattle.ods_request.specs.Catalogue.{Plain}
use Rattle.ods_request.specs.Steps.{zero_blocks}
use Rattle.ods_filing.specs.Filed.{Filed}
use Rattle.ods_filing.specs.Led.{Fills, IsLed}
use Rattle.ods_filing.specs.Put.{Heading, IsAdded}
use Rattle.ods_filing.proofs.put.extend_to.Given as goal

abbrev pub invariant-loop-have : goal.invariant-loop-have
invariant-loop-have l = (l.have ≤ l.count) × (l.fn.first ≤ l.have) × ((old : Filed) (heading : Heading) → IsAdded old heading l.id (Plain (replicate 32 0) (zero_blocks l.fn.first)) l.fn.filing
    → IsAdded old heading l.id (Plain (replicate 32 0) (zero_blocks l.have)) l.filing) × IsLed Fills l.fn.filing l.filing

abbrev pub decreases-loop-have : goal.decreases-loop-have
decreases-loop-have l = l.count - l.have
