-- The parts of a path.
use Rattle.fs_host.proofs.Slashes.{parts_in, parts_at_root, parts_alone}
use Rattle.fs_host.proofs.names.parts.Goals as goal

pub returns-then-is_empty : goal.returns-then-is_empty
returns-then-is_empty c = parts_at_root _ _ _ c.is_empty.result c.in-Some.ensures.cases c.is_empty.ensures c.if-is_empty.true

pub returns-else-is_empty : goal.returns-else-is_empty
returns-else-is_empty c = parts_in _ _ _ c.is_empty.result c.in-Some.ensures.cases c.is_empty.ensures c.if-is_empty.false

pub returns-in-None : goal.returns-in-None
returns-in-None c = parts_alone _ c.in-None.ensures.cases
