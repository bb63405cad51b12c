use Rattle.std.proofs.Common.{◌≡◌, ◌≤◌, ◌<◌, ℕ, ap, arith}
use Rattle.std.specs.Prelude.{◌↔◌}
use Rattle.ods_filing.specs.Put.{block_count}
use Rattle.ods_shell.specs.Space.{HasFreeRun}
use Rattle.ods_upkeep.specs.declared.failure.Why.TheVariants.{Put}
use Rattle.ods_upkeep.specs.declared.put_fault.PutFault.TheVariants.{NoRun}
use Rattle.ods_upkeep.proofs.Naming.{same_disk}
use Rattle.ods_upkeep.proofs.asking.find_place.Goals as goal
use Rattle.ods_upkeep.proofs.asking.find_place.Goals.{else-count-le-HEADER_BLOCKS-via-then-count-le-HEADER_BLOCKS+else-longest-count, else-count-le-HEADER_BLOCKS-via-else-count-le-HEADER_BLOCKS}

pub returns-then-longest-count-clause-refused : goal.returns-then-longest-count-clause-refused
returns-then-longest-count-clause-refused c =
    let longest = c.space_of-longest.result.longest in
    let runs : (n : ℕ) → (n ≤ longest) ↔ HasFreeRun c.args.filing.now.image c.args.filing.now.layout n =
    same_disk (λ J M. (n : ℕ) → (n ≤ longest) ↔ HasFreeRun J M n) c.mounted.ensures.0 c.mounted.ensures.1 c.space_of-longest.ensures.run in
    (longest, record { few = omega (arith, c.if-count-le-HEADER_BLOCKS.true); short = omega (arith, c.if-longest-count.true); runs = runs }, ap (λ (n : ℕ). Put (NoRun longest n)) c.blocks_for-count.ensures)

pub returns-clause-found : goal.returns-clause-found
returns-clause-found c =
    let longest = c.space_of-longest.result.longest in
    let count = block_count c.args.bytes.now in
    let runs : (n : ℕ) → (n ≤ longest) ↔ HasFreeRun c.args.filing.now.image c.args.filing.now.layout n =
    same_disk (λ J M. (n : ℕ) → (n ≤ longest) ↔ HasFreeRun J M n) c.mounted.ensures.0 c.mounted.ensures.1 c.space_of-longest.ensures.run in
    elim c.else-count-le-HEADER_BLOCKS.branch [
      | else-count-le-HEADER_BLOCKS-via-then-count-le-HEADER_BLOCKS+else-longest-count w ↦ λ other none.
          let enough : count ≤ longest = omega (arith, w.if-longest-count.false) in
          let there : count ≤ other = (none.runs count).1 ((runs count).0 enough) in
          absurd (omega (arith, there, none.short))
      | else-count-le-HEADER_BLOCKS-via-else-count-le-HEADER_BLOCKS w ↦ λ other none. absurd (omega (arith, w.if-count-le-HEADER_BLOCKS.false, none.few))
    ]
