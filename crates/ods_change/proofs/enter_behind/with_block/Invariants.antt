use Rattle.ods_space.specs.Draft.{applied}
use Rattle.ods_change.proofs.GrowingChain.{blocks_before, headers_behind}
use Rattle.ods_change.proofs.enter_behind.with_block.Given as goal

-- the chain as it is before it grows
abbrev pub ghost-extend_from : goal.ghost-extend_from
ghost-extend_from a = (headers_behind (applied a.disk.now.image.now a.draft) a.disk.now.layout.now a.number, blocks_before (applied a.disk.now.image.now a.draft) a.disk.now.layout.now a.number)
