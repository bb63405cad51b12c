use Rattle.std.proofs.Common.{inl}
use Rattle.ods_container.proofs.size.believed_size.Goals as goal

pub returns-clause-none : goal.returns-clause-none
returns-clause-none c =
    let other = c.if-is_memory.ensures in
    inl (c.in-Err.fault, other, c.in-Err.ensures.err other)
