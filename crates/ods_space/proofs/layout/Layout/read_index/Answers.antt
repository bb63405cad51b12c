use Rattle.std.proofs.Common.{[], List, ℕ, refl, subst, sym}
use Rattle.ods_space.specs.Files.{FindsFiles}
use Rattle.ods_space.proofs.Layouts.{finds_files}
use Rattle.ods_space.proofs.layout.Layout.read_index.Goals as goal

pub returns-in-Ok-clause-ok : goal.returns-in-Ok-clause-ok
returns-in-Ok-clause-ok c =
    let I = c.args.image.now in
    let found = c.in-Ok.ensures.ok in
    let P : List ℕ → Type 0 = λ bits. FindsFiles I (record { home = c.args.home; index = c.in-Ok.index.items; bitmap = bits }) in
    let finds = finds_files I (record { home = c.args.home; index = c.in-Ok.index.items; bitmap = [] }) c.requires found.0 found.1 found.2 in
    (subst P (sym c.none.ensures) finds, refl, c.none.ensures)
