use Rattle.serde_json.specs.View.{members_view}
use Rattle.ods_shell.proofs.Places.{on_ok}
use Rattle.ods_shell.proofs.RunObjects.{runs_put}
use Rattle.ods_shell.proofs.info_runs.add_runs.Goals as goal

pub returns-clause-members : goal.returns-clause-members
returns-clause-members c =
    on_ok c.add.result (λ there. runs_put c.args.lbns.now c.in_ok-runs.runs (members_view c.args.members.now.entries) (members_view c.add.new.members.entries) c.in_ok-runs.ensures there) c.add.ensures
