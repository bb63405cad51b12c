use Rattle.serde_json.specs.View.{members_view}
use Rattle.ods_shell.proofs.Objects.{file_numbers_put}
use Rattle.ods_shell.proofs.Places.{on_ok}
use Rattle.ods_shell.proofs.json.add_file_numbers.Goals as goal

pub returns-clause-members : goal.returns-clause-members
returns-clause-members c = on_ok c.add_number-3.result (λ there. file_numbers_put c.args.space.now c.from.result c.from-2.result c.from-3.result
    (members_view c.args.members.now.entries) (members_view c.add_number.new.members.entries) (members_view c.add_number-2.new.members.entries) (members_view c.add_number-3.new.members.entries)
    c.from.ensures c.from-2.ensures c.from-3.ensures c.in_ok-add_number.ensures.members c.in_ok-add_number-2.ensures.members there) c.add_number-3.ensures.members
