-- Lists of requests that commands make.
use Rattle.std.proofs.Common.{◌≡◌, ℕ, Bool, true, Result, Ok, Err}
use Rattle.std.specs.Prelude.{OnOk}
use Rattle.ods_base.specs.declared.file_id.FileId.{FileId}
use Rattle.ods_base.specs.declared.name.Pick.{Pick}
use Rattle.ods_base.specs.declared.name.Pick.TheVariants.{Exact}
use Rattle.ods_base.specs.Name.{RadName}
use Rattle.ods_request.specs.declared.requests.Request.{Request}
use Rattle.ods_request.specs.declared.requests.Request.TheVariants.{Create, Extend, Truncate, Delete, Enter, LookUp, Remove, Read, Write, List as Lines, Stat, SetUser}
use Rattle.ods_filing.specs.Filed.{Filed}
use Rattle.ods_filing.specs.Led.{IsAsked, IsLed, IsObeyed, Fills}
use Rattle.ods_filing.proofs.Led.{asked, then_led, then_obeyed}
use Rattle.ods_upkeep.specs.Kinds.{Copies, Puts, Removes}

-- what fills a file is asked for by cp
pub fills_copies : (r : Request) → Fills r → Copies r
fills_copies (Create name version blocks stamp) h = tt
fills_copies (Extend file blocks) h = tt
fills_copies (Write file vbn block) h = tt
fills_copies (SetUser file attributes) h = tt
fills_copies (Truncate file blocks) h = absurd h
fills_copies (Delete file) h = absurd h
fills_copies (Enter dir name version file) h = absurd h
fills_copies (LookUp dir name pick) h = absurd h
fills_copies (Remove dir name pick) h = absurd h
fills_copies (Read file vbn) h = absurd h
fills_copies (Lines dir) h = absurd h
fills_copies (Stat file) h = absurd h

-- and what cp asks for, put does
pub copies_puts : (replaces : Bool) (r : Request) → Copies r → Puts replaces r
copies_puts replaces (Create name version blocks stamp) h = tt
copies_puts replaces (Extend file blocks) h = tt
copies_puts replaces (Write file vbn block) h = tt
copies_puts replaces (SetUser file attributes) h = tt
copies_puts replaces (LookUp dir name pick) h = tt
copies_puts replaces (Enter dir name version file) h = tt
copies_puts replaces (Truncate file blocks) h = absurd h
copies_puts replaces (Delete file) h = absurd h
copies_puts replaces (Remove dir name pick) h = absurd h
copies_puts replaces (Read file vbn) h = absurd h
copies_puts replaces (Lines dir) h = absurd h
copies_puts replaces (Stat file) h = absurd h

-- what goes where the entries alone are meant, goes else
pub removes_more : (entry_alone : Bool) (r : Request) → Removes true r → Removes entry_alone r
removes_more entry_alone (Remove dir name pick) h = tt
removes_more entry_alone (Delete file) h = absurd (cc)
removes_more entry_alone (Create name version blocks stamp) h = absurd h
removes_more entry_alone (Extend file blocks) h = absurd h
removes_more entry_alone (Truncate file blocks) h = absurd h
removes_more entry_alone (Enter dir name version file) h = absurd h
removes_more entry_alone (LookUp dir name pick) h = absurd h
removes_more entry_alone (Read file vbn) h = absurd h
removes_more entry_alone (Write file vbn block) h = absurd h
removes_more entry_alone (Lines dir) h = absurd h
removes_more entry_alone (Stat file) h = absurd h
removes_more entry_alone (SetUser file attributes) h = absurd h

-- what follows from the promise of a call, where it succeeds
pub if_done : {A E P Q : Type 0} (result : Result A E) → (P → Q) → OnOk result P → OnOk result Q
if_done (Ok a) so done = so done
if_done (Err e) so done = tt

-- a file that is to be replaced is looked up and looked at, and its name goes
pub room_made : (replaces : Bool) → replaces ≡ true → (old seen known new : Filed) (dir : FileId) (name : RadName) (pick : Pick) (file : FileId) (version : ℕ)
    → IsAsked old (LookUp dir name pick) seen → IsAsked seen (Stat file) known → IsObeyed known (Remove dir name (Exact version)) new → IsLed (Puts replaces) old new
room_made replaces does old seen known new dir name pick file version looked shown gone =
    let first : IsLed (Puts replaces) old seen = asked (LookUp dir name pick) tt looked in
    let second : IsLed (Puts replaces) seen known = asked (Stat file) does shown in
    then_obeyed (Remove dir name (Exact version)) does (then_led first second) gone
