use Rattle.std.proofs.Common.{[], None, inl, refl, subst}
use Rattle.ods_paths.specs.Patterns.{capitals}
use Rattle.ods_paths.specs.Views.{folder}
use Rattle.ods_shell.specs.Named.{AreNamed}
use Rattle.ods_upkeep.specs.Made.{directories_named}
use Rattle.ods_upkeep.proofs.Unmaking.{none_met}
use Rattle.ods_upkeep.proofs.directories.find_meant.Goals as goal

pub returns-clause-named : goal.returns-clause-named
returns-clause-named c =
    subst (λ name. AreNamed c.args.volume.now.image c.args.volume.now.layout [] (folder c.args.meant.now.folder) (directories_named (capitals name) c.args.versions) None c.in_ok-found.found.items) c.deref.ensures.value
    (c.in_ok-found.ensures.named [] (inl refl))

pub returns-clause-some : goal.returns-clause-some
returns-clause-some c = λ none. c.in_ok-found.ensures.some none (none_met c.in_ok-found.field-0-1.items c.in_ok-found.ensures.met)
