use Rattle.std.proofs.Common.{◌≡◌, take}
use Rattle.ods_space.specs.Draft.{applied}
use Rattle.ods_space.specs.Changes.{changes_of}
use Rattle.ods_space.proofs.draft.Draft.apply.Given as goal

abbrev pub invariant-loop-change : goal.invariant-loop-change
invariant-loop-change l = l.image ≡ applied l.initial.image (changes_of (take l.change-index l.change-items))
