-- Which answers a compact answer keeps in a box.
use Rattle.std.specs.Prelude.{Bool, true, false}
use Rattle.ods_request.specs.declared.answers.Answer.{Answer}
use Rattle.ods_request.specs.declared.answers.Answer.TheVariants as answer

-- the answer has a block, or the facts about a file
abbrev pub is_long : Answer → Bool
is_long (answer.Bytes block) = true
is_long (answer.Info stat) = true
is_long _ = false
