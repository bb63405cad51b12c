-- The answers of changes, and the ends of chains that they give.
use Rattle.std.specs.Prelude.{Option, None, Some}
use Rattle.ods_request.specs.declared.answers.Answer.{Answer}
use Rattle.ods_request.specs.declared.answers.Answer.TheVariants as answer
use Rattle.ods_state.specs.declared.known_end.KnownEnd.{KnownEnd}
use Rattle.ods_volume.specs.declared.prepare.Made.{Made}
use Rattle.ods_volume.specs.declared.prepare.Made.TheVariants.{Created, Extended, Truncated, Done, Entered, Removed}

-- the answer of a change
abbrev pub answer_of : Made → Answer
answer_of (Created file) = answer.Created file
answer_of (Extended end) = answer.Extended end.blocks
answer_of (Truncated count end) = answer.Truncated count
answer_of Done = answer.Done
answer_of (Entered version) = answer.Entered version
answer_of (Removed file version) = answer.Removed file version

-- The end of a chain that a change gives: an Extend gives that of its file, and a Truncate may.
abbrev pub end_of : Made → Option KnownEnd
end_of (Created file) = None
end_of (Extended end) = Some end
end_of (Truncated count end) = end
end_of Done = None
end_of (Entered version) = None
end_of (Removed file version) = None
