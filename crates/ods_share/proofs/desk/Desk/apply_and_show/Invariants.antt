use Rattle.ods_share.proofs.desk.Desk.apply_and_show.Given as goal

abbrev pub ghosts-publish_change : goal.ghosts-publish_change
ghosts-publish_change g a = record { entry = a.plan.value.entry }
