use Rattle.std.specs.Prelude.{replicate}
use Rattle.ods_request.specs.Catalogue.{Plain}
use Rattle.ods_request.specs.Steps.{zero_blocks}
use Rattle.ods_filing.specs.Contiguous.{KeepsBlocks}
use Rattle.ods_filing.specs.Filed.{Filed}
use Rattle.ods_filing.specs.Led.{Fills, IsLed}
use Rattle.ods_filing.specs.Put.{Heading, IsAdded, block_count, so_far}
use Rattle.ods_filing.proofs.put.fill.Given as goal

abbrev pub invariant-loop-k : goal.invariant-loop-k
invariant-loop-k l = ((old : Filed) (heading : Heading) → IsAdded old heading l.id (Plain (replicate 32 0) (zero_blocks (block_count l.bytes))) l.fn.filing
    → IsAdded old heading l.id (Plain (replicate 32 0) (so_far l.bytes (block_count l.bytes) l.k)) l.filing) × IsLed Fills l.fn.filing l.filing × KeepsBlocks l.fn.filing l.filing
