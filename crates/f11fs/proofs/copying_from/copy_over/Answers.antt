use Rattle.std.proofs.Common.{rules, ◌≡◌, ◌∙◌, Option, [], ◌∷◌, ◌++◌, ap, is_some, subst}
use Rattle.ods_base.specs.declared.file_id.Uic.{Uic}
use Rattle.ods_upkeep.proofs.Naming.{same_disk}
use Rattle.ods_upkeep.specs.CopiedFrom.{IsCopiedFrom}
use Rattle.ods_upkeep.specs.declared.asked.CopyFrom.{CopyFrom}
use Rattle.f11fs.specs.CopiedOver.{copying_said, reader_for}
use Rattle.f11fs.proofs.copying_from.copy_over.Goals as goal

pub returns-in-Ok-clause-done : goal.returns-in-Ok-clause-done
returns-in-Ok-clause-done g c =
    let paths = c.in-Some.paths.now in
    let to = c.in-Some.to.now in
    let old = c.args.filing.now in
    let new = c.copy_from.new.filing in
    let split : c.args.words.now.paths.items ≡ paths ++ to ∷ [] = search rules in
    let reader : c.reader_for.result ≡ reader_for (is_some c.args.words.now.user) old.user = search rules in
    let how = c.how_to_copy-how.ensures ∙ ap (λ (r : Option Uic). copying_said r c.args.how) reader in
    let disk = c.disk-disk.result in
    let volume = c.in_ok-opened.opened in
    let copied = subst (λ (h : CopyFrom). IsCopiedFrom disk.image.now disk.layout.now h c.args.stamp paths to.now old new) how c.in-Ok.ensures.done in (
      paths,
      to,
      volume.image,
      volume.layout,
      split,
      c.in_ok-opened.ensures.given,
      same_disk (λ I L. IsCopiedFrom I L (copying_said (reader_for (is_some c.args.words.now.user) old.user) c.args.how) c.args.stamp paths to.now old new) c.disk-disk.ensures.image c.disk-disk.ensures.layout copied,
    )
