use Rattle.serde_json.specs.View.{members_view}
use Rattle.ods_shell.proofs.Objects.{number_put}
use Rattle.ods_shell.proofs.Places.{on_ok}
use Rattle.ods_shell.proofs.json.add_number.Goals as goal

pub returns-clause-members : goal.returns-clause-members
returns-clause-members c = on_ok c.add.result (λ there. number_put c.args.name.now c.args.number c.from.result (members_view c.args.members.now.entries) (members_view c.add.new.members.entries) c.from.ensures there) c.add.ensures
