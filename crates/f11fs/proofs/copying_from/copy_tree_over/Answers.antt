use Rattle.std.proofs.Common.{rules, ◌≡◌, ◌∙◌, List, Option, ℕ, [], ◌∷◌, ◌++◌, ap, is_some, subst}
use Rattle.std.specs.Borrow.{Bor}
use Rattle.ods_base.specs.declared.file_id.Uic.{Uic}
use Rattle.ods_upkeep.proofs.Naming.{same_disk}
use Rattle.ods_upkeep.specs.CopiedTree.{IsTreeCopied}
use Rattle.ods_upkeep.specs.declared.asked.CopyFrom.{CopyFrom}
use Rattle.f11fs.specs.CopiedOver.{copying_said, reader_for}
use Rattle.f11fs.proofs.Opened.{no_words}
use Rattle.f11fs.proofs.copying_from.copy_tree_over.Goals as goal

pub returns-in-Ok-clause-done : goal.returns-in-Ok-clause-done
returns-in-Ok-clause-done g c =
    let words = c.args.words.now.paths.items in
    let path : Bor (List ℕ) = c.in-Some-split_first.path.now in
    let to : Bor (List ℕ) = c.in-Some.to.now in
    let old = c.args.filing.now in
    let new = c.copy_tree_from.new.filing in
    let split : words ≡ c.in-Some.paths.now ++ to ∷ [] = search rules in
    let first : c.in-Some.paths.now ≡ path ∷ c.in-Some-split_first.others.now = search rules in
    let none : c.in-Some-split_first.others.now ≡ [] = search (rules, no_words) in
    let two : words ≡ path ∷ to ∷ [] = split ∙ ap (λ (ps : List (Bor (List ℕ))). ps ++ to ∷ []) first ∙ ap (λ (os : List (Bor (List ℕ))). path ∷ (os ++ to ∷ [])) none in
    let reader : c.reader_for.result ≡ reader_for (is_some c.args.words.now.user) old.user = search rules in
    let how = c.how_to_copy-how.ensures ∙ ap (λ (r : Option Uic). copying_said r c.args.how) reader in
    let disk = c.disk-disk.result in
    let volume = c.in_ok-opened.opened in
    let copied = subst (λ (h : CopyFrom). IsTreeCopied disk.image.now disk.layout.now h c.args.stamp path.now to.now old new) how c.in-Ok.ensures.done in (
      path,
      to,
      volume.image,
      volume.layout,
      two,
      c.in_ok-opened.ensures.given,
      same_disk (λ I L. IsTreeCopied I L (copying_said (reader_for (is_some c.args.words.now.user) old.user) c.args.how) c.args.stamp path.now to.now old new) c.disk-disk.ensures.image c.disk-disk.ensures.layout copied,
    )
