-- The tests of equality for two answers and for two requests.
use Rattle.std.specs.Prelude.{ℕ, Bool, true, false, ◌&&◌, ◌==◌, nat_eq, List, Option, Some, None}
use lib.Pointwise.{pointwise}
use Rattle.ods_base.specs.declared.file_id.Uic.{Uic}
use Rattle.ods_base.specs.declared.file_id.FileId.{FileId}
use Rattle.ods_base.specs.Name.{RadName}
use Rattle.ods_base.specs.declared.listed.Listed.{Listed}
use Rattle.ods_base.specs.declared.name.Pick.{Pick}
use Rattle.ods_base.specs.declared.name.Pick.TheVariants.{Exact, Highest, Lowest}
use Rattle.ods_request.specs.declared.requests.Request.{Request}
use Rattle.ods_request.specs.declared.requests.Request.TheVariants.{Create, Extend, Truncate, Delete, Enter, LookUp, Remove, Read, Write, List as Lines, Stat as Show, SetUser}
use Rattle.ods_request.specs.declared.answers.Answer.{Answer}
use Rattle.ods_request.specs.declared.answers.Answer.TheVariants.{Created, Extended, Truncated, Done, Entered, Found, Removed, Bytes, Names, Info}
use Rattle.ods_request.specs.declared.answers.Stat.{Stat}
use Rattle.ods_request.specs.declared.answers.Kind.{Kind}
use Rattle.ods_request.specs.declared.answers.Kind.TheVariants.{Plain, Directory, System}

-- the two lists have the same numbers
abbrev pub same_bytes : List ℕ → List ℕ → Bool
same_bytes = pointwise nat_eq

-- the two file IDs are equal
abbrev pub same_id : FileId → FileId → Bool
same_id a b = (a.number == b.number) && (a.sequence == b.sequence)

-- the two users are equal
abbrev pub same_user : Uic → Uic → Bool
same_user a b = (a.group == b.group) && (a.member == b.member)

-- the two names are equal
abbrev pub same_name : RadName → RadName → Bool
same_name a b = same_bytes a.words b.words && (a.ext == b.ext)

-- the two lines are equal
abbrev pub same_line : Listed → Listed → Bool
same_line a b = same_name a.name b.name && ((a.version == b.version) && same_id a.file b.file)

-- the two kinds are equal
abbrev pub same_kind : Kind → Kind → Bool
same_kind (Plain m a) (Plain n b) = (m == n) && same_bytes a b
same_kind (Directory m) (Directory n) = m == n
same_kind System System = true
same_kind _ _ = false

-- the two sets of facts about a file are equal
abbrev pub same_stat : Stat → Stat → Bool
same_stat a b = same_id a.file b.file && (same_bytes a.ident b.ident && (same_user a.owner b.owner && ((a.protection == b.protection)
    && ((a.user_char == b.user_char) && ((a.system_char == b.system_char) && same_kind a.kind b.kind)))))

-- the two answers are equal
abbrev pub same_answer : Answer → Answer → Bool
same_answer (Created a) (Created b) = same_id a b
same_answer (Extended m) (Extended n) = m == n
same_answer (Truncated m) (Truncated n) = m == n
same_answer Done Done = true
same_answer (Entered m) (Entered n) = m == n
same_answer (Found a m) (Found b n) = same_id a b && (m == n)
same_answer (Removed a m) (Removed b n) = same_id a b && (m == n)
same_answer (Bytes a) (Bytes b) = same_bytes a b
same_answer (Names a) (Names b) = pointwise same_line a b
same_answer (Info a) (Info b) = same_stat a b
same_answer _ _ = false

-- the two versions are equal, or neither is given
abbrev pub same_given : Option ℕ → Option ℕ → Bool
same_given None None = true
same_given None (Some n) = false
same_given (Some m) None = false
same_given (Some m) (Some n) = m == n

-- the two picks are equal
abbrev pub same_pick : Pick → Pick → Bool
same_pick (Exact m) (Exact n) = m == n
same_pick Highest Highest = true
same_pick Lowest Lowest = true
same_pick _ _ = false

-- the two requests are equal
abbrev pub same_request : Request → Request → Bool
same_request (Create a b c d) (Create a2 b2 c2 d2) = same_name a a2 && ((b == b2) && ((c == c2) && same_bytes d d2))
same_request (Extend a b) (Extend a2 b2) = same_id a a2 && (b == b2)
same_request (Truncate a b) (Truncate a2 b2) = same_id a a2 && (b == b2)
same_request (Delete a) (Delete a2) = same_id a a2
same_request (Enter a b c d) (Enter a2 b2 c2 d2) = same_id a a2 && (same_name b b2 && (same_given c c2 && same_id d d2))
same_request (LookUp a b c) (LookUp a2 b2 c2) = same_id a a2 && (same_name b b2 && same_pick c c2)
same_request (Remove a b c) (Remove a2 b2 c2) = same_id a a2 && (same_name b b2 && same_pick c c2)
same_request (Read a b) (Read a2 b2) = same_id a a2 && (b == b2)
same_request (Write a b c) (Write a2 b2 c2) = same_id a a2 && ((b == b2) && same_bytes c c2)
same_request (Lines a) (Lines a2) = same_id a a2
same_request (Show a) (Show a2) = same_id a a2
same_request (SetUser a b) (SetUser a2 b2) = same_id a a2 && same_bytes b b2
same_request _ _ = false
