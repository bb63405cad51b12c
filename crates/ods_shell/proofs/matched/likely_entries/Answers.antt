use Rattle.std.proofs.Common.{subst}
use Rattle.std.proofs.lemmas.Result.{IfOk-weaker}
use Rattle.ods_paths.specs.Views.{files}
use Rattle.ods_walk.specs.Listing.{AreEntriesOf}
use Rattle.ods_shell.specs.Matched.{AreLikely, IsOnly}
use Rattle.ods_shell.proofs.OneNamed.{only_likely}
use Rattle.ods_shell.proofs.matched.likely_entries.Goals as goal

pub returns-in-Some : goal.returns-in-Some
returns-in-Some c =
    let I = c.args.disk.now.image.now in
    let L = c.args.disk.now.layout.now in
    let said = files c.args.files.now in
    let only = subst (IsOnly said) c.in-Some.is c.in_ok-name.ensures in
    IfOk-weaker c.entries_of.result (λ found. AreEntriesOf I L c.args.number c.in-Some.name found.items) _ (λ found are. only_likely I L said c.args.number c.in-Some.name are.0 found.items only are.1 are.2) c.entries_of.ensures
