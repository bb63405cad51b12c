-- The results of sessions that print their replies, and the part of them that is written.
use Rattle.std.specs.Prelude.{ℕ, ◌+◌, List, [], ◌∷◌, ◌++◌, codes, map}
use Rattle.std.specs.Fmt.{decimal}
use Rattle.std.specs.String.{string_bytes}
use Rattle.ods_share.specs.declared.keeping.Ended.{Ended}
use Rattle.ods_share.specs.Settles.{Calls}
use Rattle.ods_cli.specs.declared.printed.Printed.{Printed}
use Rattle.ods_cli.specs.declared.sessions.Said.{Said}

-- the list of calls of each session
abbrev pub calls_kept : List (Ended Printed) → List Calls
calls_kept es = map (λ (e : Ended Printed). e.calls) es

-- what each session printed
abbrev pub printed_of : List (Ended Printed) → List Printed
printed_of es = map (λ (e : Ended Printed). e.kept) es

-- the line of session k
abbrev pub session_line : ℕ → List ℕ
session_line k = codes "session " ++ decimal k ++ 10 ∷ []

-- session k: its line, and what it printed
abbrev pub printed_session : ℕ → Printed → List ℕ
printed_session k p = session_line k ++ string_bytes p.text

-- the sessions from session k on, in order
abbrev pub printed_text : ℕ → List Printed → List ℕ
printed_text k [] = []
printed_text k (p ∷ ps) = printed_session k p ++ printed_text (k + 1) ps

-- the text that a run writes: the replies of its sessions, and the totals
abbrev pub said_text : Said → List ℕ
said_text s = printed_text 1 s.printed.items ++ string_bytes s.totals
