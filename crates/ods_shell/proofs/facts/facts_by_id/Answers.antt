use Rattle.std.proofs.Common.{subst, MatchOption}
use Rattle.ods_space.specs.Files.{IsFile}
use Rattle.ods_shell.specs.Facts.{AreFacts}
use Rattle.ods_shell.specs.declared.facts.Facts.{Facts}
use Rattle.ods_shell.proofs.facts.facts_by_id.Goals as goal

pub returns-in_default-2 : goal.returns-in_default-2
returns-in_default-2 c =
    let None : Type 0 = ¬ IsFile c.args.disk.now.image.now c.args.disk.now.layout.now c.args.file.number in
    let Known : Facts → Type 0 = AreFacts c.args.disk.now.image.now c.args.disk.now.layout.now c.args.file.number in
    let none : None = subst (λ o. MatchOption o None Known) c.in_default.is c.facts_of.ensures in
    λ facts known same. none known.file
