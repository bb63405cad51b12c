use Rattle.ods_views.proofs.viewer.Viewer.ask_into.Given as goal

abbrev pub ghosts-enter : goal.ghosts-enter
ghosts-enter g a = record { least = a.least }
