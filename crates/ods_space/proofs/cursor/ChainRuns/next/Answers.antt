use Rattle.std.proofs.Common.{◌+◌, ◌++◌, ◌∙◌, ap, append_assoc}
use Rattle.ods_header.specs.Header.{run_blocks}
use Rattle.ods_space.specs.Chain.{named_by}
use Rattle.ods_space.proofs.Located.{blocks_from, blocks_from_next}
use Rattle.ods_space.proofs.cursor.ChainRuns.next.Goals as goal

pub returns-clause-some : goal.returns-clause-some
returns-clause-some c =
    let b = c.loop-self.self-inside.header.now in
    let k = c.loop-self.self-inside.pointer in
    let r = c.pointer_at-run.result in
    let rest = named_by c.loop-self.self-inside.headers in (
      c.pointer_at-run.ensures.run,
      c.loop-self.invariant.2 ∙ ap (λ l. l ++ rest) (blocks_from_next b k r c.pointer_at-run.ensures.value) ∙ append_assoc (run_blocks r) (blocks_from b (k + 1)) rest,
    )
