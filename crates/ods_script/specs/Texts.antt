-- The printed text of a session: a line for each command, by its reply.
use Rattle.std.specs.Prelude.{ℕ, ◌+◌, ◌-◌, ◌==◌, take, map, List, [], ◌∷◌, ◌++◌, length, codes}
use Rattle.std.specs.List.{flat_map, suffix_len}
use Rattle.std.specs.Fmt.{decimal}
use Rattle.std.specs.declared.vec.Vec.{Vec}
use Rattle.std.specs.declared.alloc.Global.{Global}
use Rattle.hex.specs.Hex.{encode_lower}
use Rattle.ods_base.specs.Name.{RadName, name_version_text}
use Rattle.ods_base.specs.declared.file_id.FileId.{FileId}
use Rattle.ods_base.specs.declared.listed.Listed.{Listed}
use Rattle.ods_header.specs.Text.{file_id_text, ident_text, owner_text}
use Rattle.ods_request.specs.Refusals.{refusal_row}
use Rattle.ods_request.specs.declared.answers.Answer.{Answer}
use Rattle.ods_request.specs.declared.answers.Answer.TheVariants as answer
use Rattle.ods_request.specs.declared.answers.Stat.{Stat}
use Rattle.ods_request.specs.declared.answers.Kind.{Kind}
use Rattle.ods_request.specs.declared.answers.Kind.TheVariants as kind
use Rattle.ods_ask.specs.declared.outcome.Outcome.{Outcome}
use Rattle.ods_ask.specs.declared.outcome.Reply.{Reply}
use Rattle.ods_ask.specs.declared.outcome.Reply.TheVariants as reply
use Rattle.ods_ask.specs.declared.script.Action.{Action}
use Rattle.ods_ask.specs.declared.script.Action.TheVariants as action
use Rattle.ods_ask.specs.declared.script.Ask.{Ask}
use Rattle.ods_ask.specs.declared.script.Ask.TheVariants as ask
use Rattle.ods_ask.specs.declared.script.Command.{Command}
use Rattle.ods_ask.specs.declared.script.Look.{Look}
use Rattle.ods_ask.specs.declared.script.Look.TheVariants as look
use Rattle.ods_ask.specs.declared.script.Script.{Script}

-- a refusal as it is printed: NO, its number and its name, and a line feed
abbrev pub refusal_line : ℕ → List ℕ → List ℕ
refusal_line number name = codes "NO " ++ decimal number ++ 32 ∷ name ++ 10 ∷ []

-- the bytes without their trailing zeros
abbrev pub without_zeros : List ℕ → List ℕ
without_zeros bytes = take (length bytes - suffix_len (λ b. b == 0) bytes) bytes

-- bytes in hex; if there are none, 00
abbrev pub shown_bytes : List ℕ → List ℕ
shown_bytes [] = codes "00"
shown_bytes (b ∷ bytes) = encode_lower (b ∷ bytes)

-- a block in hex, without its trailing zeros; a block of zeros is 00
abbrev pub block_text : List ℕ → List ℕ
block_text block = shown_bytes (without_zeros block)

-- n,s NAME;V
abbrev pub found_text : FileId → RadName → ℕ → List ℕ
found_text file name version = file_id_text file ++ 32 ∷ name_version_text name version

-- a line of a directory, after a line feed: NAME;V n,s
abbrev pub listed_text : Listed → List ℕ
listed_text l = 10 ∷ name_version_text l.name l.version ++ 32 ∷ file_id_text l.file

-- the kind of a file: PLAIN count attributes, DIRECTORY names or SYSTEM
abbrev pub kind_text : Kind → List ℕ
kind_text (kind.Plain blocks attributes) = codes "PLAIN " ++ decimal blocks ++ 32 ∷ encode_lower attributes
kind_text (kind.Directory names) = codes "DIRECTORY " ++ decimal names
kind_text kind.System = codes "SYSTEM"

-- n,s NAME;V [g,m] pppppp uuu,ccc and the kind
abbrev pub stat_text : Stat → List ℕ
stat_text s = file_id_text s.file ++ 32 ∷ ident_text s.ident ++ owner_text s.owner s.protection s.user_char s.system_char ++ 32 ∷ kind_text s.kind

-- the name of blanks, for a command without a name
abbrev pub no_name : RadName
no_name = record { words = 0 ∷ 0 ∷ 0 ∷ []; ext = 0 }

-- the name in a request
abbrev pub asked_name : Ask → RadName
asked_name (ask.Create name version blocks) = name
asked_name (ask.Extend file blocks) = no_name
asked_name (ask.Truncate file blocks) = no_name
asked_name (ask.Delete file) = no_name
asked_name (ask.Enter dir name version file) = name
asked_name (ask.LookUp dir name pick) = name
asked_name (ask.Remove dir name pick) = name
asked_name (ask.Read file vbn) = no_name
asked_name (ask.Write file vbn block) = no_name
asked_name (ask.List dir) = no_name
asked_name (ask.Stat file) = no_name
asked_name (ask.SetUser file attributes) = no_name

-- the name in a VIEW
abbrev pub looked_name : Look → RadName
looked_name (look.LookUp dir name pick) = name
looked_name (look.Read file vbn) = no_name
looked_name (look.Stat file) = no_name

-- the name in a command
abbrev pub spoken_name : Action → RadName
spoken_name (action.User who) = no_name
spoken_name (action.Submit a) = asked_name a
spoken_name (action.View l) = looked_name l
spoken_name action.Bad = no_name

-- the text after OK: the answer to a command with this name
abbrev pub answer_text : RadName → Answer → List ℕ
answer_text name (answer.Created id) = 32 ∷ file_id_text id
answer_text name (answer.Extended count) = 32 ∷ decimal count
answer_text name (answer.Truncated count) = 32 ∷ decimal count
answer_text name answer.Done = []
answer_text name (answer.Entered version) = 32 ∷ name_version_text name version
answer_text name (answer.Found file version) = 32 ∷ found_text file name version
answer_text name (answer.Removed file version) = 32 ∷ found_text file name version
answer_text name (answer.Bytes block) = 32 ∷ block_text block
answer_text name (answer.Names lines) = 32 ∷ decimal (length lines) ++ flat_map listed_text lines
answer_text name (answer.Info stat) = 32 ∷ stat_text stat

-- the reply to a command, with its line feed
abbrev pub reply_text : Command → Reply → List ℕ
reply_text c reply.User = codes "OK" ++ 10 ∷ []
reply_text c (reply.Got a) = codes "OK" ++ answer_text (spoken_name c.action) a ++ 10 ∷ []
reply_text c (reply.No f) = refusal_line (refusal_row f).0 (refusal_row f).1
reply_text c reply.Closed = refusal_line 61 (codes "Closed")
reply_text c reply.Bad = codes "BAD " ++ decimal c.nth ++ 10 ∷ []

-- the replies to a script's commands, in order
abbrev pub replies_text : List Command → List Reply → List ℕ
replies_text [] rs = []
replies_text (c ∷ cs) [] = []
replies_text (c ∷ cs) (r ∷ rs) = reply_text c r ++ replies_text cs rs

-- session k, and its replies
abbrev pub session_text : ℕ → Script → List Reply → List ℕ
session_text k s rs = codes "session " ++ decimal k ++ 10 ∷ replies_text s.commands.items rs

-- the sessions from session k on, in order
abbrev pub sessions_text : ℕ → List Script → List Outcome → List ℕ
sessions_text k [] os = []
sessions_text k (s ∷ ss) [] = []
sessions_text k (s ∷ ss) (o ∷ os) = session_text k s o.replies.items ++ sessions_text (k + 1) ss os

-- the sessions from session k on, by only their replies
abbrev pub replied_text : ℕ → List Script → List (Vec Reply Global) → List ℕ
replied_text k [] lists = []
replied_text k (s ∷ ss) [] = []
replied_text k (s ∷ ss) (rs ∷ lists) = session_text k s rs.items ++ replied_text (k + 1) ss lists
