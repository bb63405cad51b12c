-- The requests of the commands of a script, and the value of `$`.
use Rattle.std.specs.Prelude.{ℕ, List, Option, Some, All, MatchOption}
use Rattle.std.specs.Option.{option_map, option_and_then}
use Rattle.ods_base.specs.declared.file_id.FileId.{FileId}
use Rattle.ods_request.specs.declared.requests.Request.{Request}
use Rattle.ods_request.specs.declared.requests.Request.TheVariants as request
use Rattle.ods_request.specs.declared.requests.Query.{Query}
use Rattle.ods_request.specs.declared.requests.Query.TheVariants as query
use Rattle.ods_request.specs.declared.answers.Answer.{Answer}
use Rattle.ods_request.specs.declared.answers.Answer.TheVariants as answer
use Rattle.ods_state.specs.Outcome.{CanBeAsked}
use Rattle.ods_ask.specs.declared.script.Id.{Id}
use Rattle.ods_ask.specs.declared.script.Id.TheVariants.{Given, Last}
use Rattle.ods_ask.specs.declared.script.Ask.{Ask}
use Rattle.ods_ask.specs.declared.script.Ask.TheVariants as ask
use Rattle.ods_ask.specs.declared.script.Look.{Look}
use Rattle.ods_ask.specs.declared.script.Look.TheVariants as look
use Rattle.ods_ask.specs.declared.script.Action.{Action}
use Rattle.ods_ask.specs.declared.script.Action.TheVariants as action
use Rattle.ods_ask.specs.declared.script.Command.{Command}

-- the file of the ID, if `$` stands for one
abbrev pub resolved : Option FileId → Id → Option FileId
resolved last (Given id) = Some id
resolved last Last = last

-- the request of the command, with this stamp; none if `$` stands for no file
abbrev pub request_of : List ℕ → Option FileId → Ask → Option Request
request_of stamp last (ask.Create name version blocks) = Some (request.Create name version blocks stamp)
request_of stamp last (ask.Extend file blocks) = option_map (λ f. request.Extend f blocks) (resolved last file)
request_of stamp last (ask.Truncate file blocks) = option_map (λ f. request.Truncate f blocks) (resolved last file)
request_of stamp last (ask.Delete file) = option_map (λ f. request.Delete f) (resolved last file)
request_of stamp last (ask.Enter dir name version file) =
    option_and_then (λ d. option_map (λ f. request.Enter d name version f) (resolved last file)) (resolved last dir)
request_of stamp last (ask.LookUp dir name pick) = option_map (λ d. request.LookUp d name pick) (resolved last dir)
request_of stamp last (ask.Remove dir name pick) = option_map (λ d. request.Remove d name pick) (resolved last dir)
request_of stamp last (ask.Read file vbn) = option_map (λ f. request.Read f vbn) (resolved last file)
request_of stamp last (ask.Write file vbn block) = option_map (λ f. request.Write f vbn block.value) (resolved last file)
request_of stamp last (ask.List dir) = option_map (λ d. request.List d) (resolved last dir)
request_of stamp last (ask.Stat file) = option_map (λ f. request.Stat f) (resolved last file)
request_of stamp last (ask.SetUser file attributes) = option_map (λ f. request.SetUser f attributes) (resolved last file)

-- the query of the view; none if `$` stands for no file
abbrev pub query_of : Option FileId → Look → Option Query
query_of last (look.LookUp dir name pick) = option_map (λ d. query.LookUp d name pick) (resolved last dir)
query_of last (look.Read file vbn) = option_map (λ f. query.Read f vbn) (resolved last file)
query_of last (look.Stat file) = option_map (λ f. query.Stat f) (resolved last file)

-- the value of `$` after an answer: the file that was made, found or removed
abbrev pub last_after : Option FileId → Answer → Option FileId
last_after last (answer.Created id) = Some id
last_after last (answer.Extended count) = last
last_after last (answer.Truncated count) = last
last_after last answer.Done = last
last_after last (answer.Entered version) = last
last_after last (answer.Found file version) = Some file
last_after last (answer.Removed file version) = Some file
last_after last (answer.Bytes block) = last
last_after last (answer.Names lines) = last
last_after last (answer.Info stat) = last

-- for each value of `$`, the request of the command can be asked
abbrev pub CanBeObeyed : Action → Type 0
CanBeObeyed (action.User who) = Unit {0}
CanBeObeyed (action.Submit a) = (stamp : List ℕ) (last : Option FileId) → MatchOption (request_of stamp last a) (Unit {0}) CanBeAsked
CanBeObeyed (action.View l) = Unit {0}
CanBeObeyed action.Bad = Unit {0}

-- each command of the script can be obeyed
abbrev pub CanBeRun : List Command → Type 0
CanBeRun cs = All (λ c. CanBeObeyed c.action) cs
