use Rattle.std.proofs.Common.{◌∙◌}
use Rattle.fs_saving.specs.Memory.{changes_of}
use Rattle.fs_saving.proofs.Changes.{held_put, held_beside, moments_put, moments_here}
use Rattle.fs_saving.proofs.memory.MemoryFolder.put.Goals as goal

pub returns-clause-ok : goal.returns-clause-ok
returns-clause-ok c =
    held_put (changes_of c.args.self.now) _ _ _ c.args.name.now c.push_reserved.ensures.items c.in_ok-reserve.ensures.items c.in_ok-name.ensures.items

pub returns-clause-others : goal.returns-clause-others
returns-clause-others c = λ other apart held had.
    held_beside (changes_of c.args.self.now) _ _ _ c.args.name.now other c.push_reserved.ensures.items c.in_ok-reserve.ensures.items c.in_ok-name.ensures.items apart ∙ had

pub returns-clause-moments : goal.returns-clause-moments
returns-clause-moments c = λ other apart held was.
    moments_put (changes_of c.args.self.now) _ _ _ c.args.name.now other c.push_reserved.ensures.items c.in_ok-reserve.ensures.items c.in_ok-name.ensures.items apart held was

pub returns-clause-own : goal.returns-clause-own
returns-clause-own c = λ held was.
    moments_here (changes_of c.args.self.now) _ _ _ c.args.name.now c.push_reserved.ensures.items c.in_ok-reserve.ensures.items c.in_ok-name.ensures.items held was
