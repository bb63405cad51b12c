use Rattle.std.proofs.Common.{take}
use Rattle.ods_base.specs.Image.{IsImage}
use Rattle.ods_space.specs.Draft.{applied}
use Rattle.ods_space.specs.Changes.{changes_of}
use Rattle.ods_space.proofs.draft.Draft.makes_image.Given as goal

abbrev pub invariant-loop-change : goal.invariant-loop-change
invariant-loop-change l = IsImage (applied l.image (changes_of (take l.change-index l.change-items)))
