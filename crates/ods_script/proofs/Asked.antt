-- Each command that a line spells may be asked of a desk.
use Rattle.std.proofs.Common.{ℕ, List, [], ◌∷◌, Option, Some, None, MatchOption, suc, zero, arith}
use Rattle.ods_base.specs.declared.file_id.FileId.{FileId}
use Rattle.std.specs.Option.{option_map, option_and_then}
use Rattle.ods_request.specs.declared.requests.Request.{Request}
use Rattle.ods_request.specs.declared.requests.Request.TheVariants as request
use Rattle.ods_state.specs.Outcome.{CanBeAsked}
use Rattle.ods_ask.specs.Asked.{CanBeObeyed, CanBeRun, request_of, resolved}
use Rattle.ods_ask.specs.declared.script.Ask.{Ask}
use Rattle.ods_ask.specs.declared.script.Ask.TheVariants as ask
use Rattle.ods_ask.specs.declared.script.Action.{Action}
use Rattle.ods_ask.specs.declared.script.Action.TheVariants as action
use Rattle.ods_ask.specs.declared.script.Command.{Command}
use Rattle.ods_script.specs.Commands.{IsCommand, HasVersions}
use Rattle.ods_script.specs.Numbered.{AreOfLines}
use Rattle.ods_script.specs.Said.{said, said_by}
use Rattle.ods_text.specs.One.{IsTheOne}
use Rattle.ods_script.proofs.Lawful.{behind_lawful}

-- a request on the file that is meant, if one is
on_one : (o : Option FileId) (f : FileId → Request) → ((x : FileId) → CanBeAsked (f x)) → MatchOption (option_map f o) (Unit {0}) CanBeAsked
on_one None f can = tt
on_one (Some x) f can = can x

-- a request on both files that are meant, if both are
on_both : (o p : Option FileId) (f : FileId → FileId → Request) → ((x y : FileId) → CanBeAsked (f x y)) →
    MatchOption (option_and_then (λ d. option_map (f d) p) o) (Unit {0}) CanBeAsked
on_both None p f can = tt
on_both (Some x) p f can = on_one p (f x) (can x)

-- a request whose versions are versions
asked : (a : Ask) → HasVersions (said_by a) → (stamp : List ℕ) (last : Option FileId) → MatchOption (request_of stamp last a) (Unit {0}) CanBeAsked
asked (ask.Create name version blocks) h stamp last = h
asked (ask.Extend file blocks) h stamp last = on_one (resolved last file) (λ f. request.Extend f blocks) (λ f. tt)
asked (ask.Truncate file blocks) h stamp last = on_one (resolved last file) (λ f. request.Truncate f blocks) (λ f. tt)
asked (ask.Delete file) h stamp last = on_one (resolved last file) (λ f. request.Delete f) (λ f. tt)
asked (ask.Enter dir name None file) h stamp last = on_both (resolved last dir) (resolved last file) (λ d f. request.Enter d name None f) (λ d f. tt)
asked (ask.Enter dir name (Some version) file) h stamp last = on_both (resolved last dir) (resolved last file) (λ d f. request.Enter d name (Some version) f) (λ d f. h)
asked (ask.LookUp dir name pick) h stamp last = on_one (resolved last dir) (λ d. request.LookUp d name pick) (λ d. tt)
asked (ask.Remove dir name pick) h stamp last = on_one (resolved last dir) (λ d. request.Remove d name pick) (λ d. tt)
asked (ask.Read file vbn) h stamp last = on_one (resolved last file) (λ f. request.Read f vbn) (λ f. tt)
asked (ask.Write file vbn block) h stamp last = on_one (resolved last file) (λ f. request.Write f vbn block.value) (λ f. tt)
asked (ask.List dir) h stamp last = on_one (resolved last dir) (λ d. request.List d) (λ d. tt)
asked (ask.Stat file) h stamp last = on_one (resolved last file) (λ f. request.Stat f) (λ f. tt)
asked (ask.SetUser file attributes) h stamp last = on_one (resolved last file) (λ f. request.SetUser f attributes) (λ f. tt)

-- the command of a line
of_line : (line : List ℕ) (a : Action) → IsTheOne (IsCommand line) (said a) → CanBeObeyed a
of_line line (action.User who) is = tt
of_line line (action.Submit a) is = let p = is.0 in asked a (behind_lawful p.0 p.1 (said_by a) p.3)
of_line line (action.View look) is = tt
of_line line action.Bad is = tt

-- the first of these commands, and each behind it
first_of : (c : Command) (cs : List Command) → CanBeObeyed c.action → CanBeRun cs → CanBeRun (c ∷ cs)
first_of c cs one rest zero d h = one
first_of c cs one rest (suc k) d h = rest k d (omega arith)

-- the commands of lines
pub of_lines : (cs : List Command) (ls : List (ℕ × List ℕ)) → AreOfLines cs ls → CanBeRun cs
of_lines [] ls are = λ k d h. absurd (omega (arith, h))
of_lines (c ∷ cs) [] are = absurd are
of_lines (c ∷ cs) (l ∷ ls) are = first_of c cs (of_line l.1 c.action are.0.1) (of_lines cs ls are.1)
