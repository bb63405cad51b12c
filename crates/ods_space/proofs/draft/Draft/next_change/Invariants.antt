use Rattle.std.proofs.Common.{take}
use Rattle.ods_space.specs.Draft.{IsNextChange}
use Rattle.ods_space.specs.Changes.{changes_of}
use Rattle.ods_space.proofs.draft.Draft.next_change.Given as goal

abbrev pub invariant-loop-change : goal.invariant-loop-change
invariant-loop-change l = IsNextChange (changes_of (take l.change-index l.change-items)) l.from l.to l.at
