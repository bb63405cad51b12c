-- Answers that contain lines of a directory.
use Rattle.std.specs.Prelude.{◌≡◌, List}
use Rattle.ods_base.specs.declared.listed.Listed.{Listed}
use Rattle.ods_request.specs.declared.answers.Answer.{Answer}
use Rattle.ods_request.specs.declared.answers.Answer.TheVariants.{Names}

-- the answer has the lines of a directory
abbrev pub HasLines : Answer → Type 0
HasLines a = (lines : List Listed) × (a ≡ Names lines)
