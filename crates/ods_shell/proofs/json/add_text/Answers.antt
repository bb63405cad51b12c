use Rattle.serde_json.specs.View.{members_view}
use Rattle.ods_shell.proofs.Objects.{text_put}
use Rattle.ods_shell.proofs.Places.{on_ok}
use Rattle.ods_shell.proofs.json.add_text.Goals as goal

pub returns-clause-members : goal.returns-clause-members
returns-clause-members c = on_ok c.add.result (λ there. text_put c.args.name.now c.args.text.now c.in_ok-from_str.field-0 (members_view c.args.members.now.entries) (members_view c.add.new.members.entries) c.in_ok-from_str.ensures.ok there) c.add.ensures
