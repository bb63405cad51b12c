use Rattle.std.proofs.Common.{◌≡◌, ◌∙◌, sym, ap, subst, Option, Bool}
use Rattle.std.specs.Prelude.{MatchBool}
use Rattle.ods_base.specs.declared.file_id.FileId.{FileId}
use Rattle.ods_header.specs.Header.{attributes_of}
use Rattle.ods_remains.specs.Deleted.{IsDeletedFile, former}
use Rattle.ods_remains.specs.Shared.{IsWhole}
use Rattle.ods_remains.specs.Summary.{HasSummary}
use Rattle.ods_remains.specs.declared.summary.Summary.{Summary}
use Rattle.ods_remains.proofs.Summing.{sharer_deleted}
use Rattle.ods_shell.specs.Deleted.{deletion_by}
use Rattle.ods_shell.specs.Facts.{bytes_by}
use Rattle.ods_shell.specs.declared.deleted.Deletion.{Deletion}
use Rattle.ods_shell.proofs.deleted.known.Goals as goal

pub summary-requires : goal.summary-requires
summary-requires c =
    let D = c.args.disk.now in
    let n = c.args.number in
    subst (λ I. IsDeletedFile I c.args.shares.now.layout n) (sym c.requires.image) (subst (λ L. IsDeletedFile D.image.now L n) (sym c.requires.layout) c.requires.deleted)

pub id_of_sharer-sharer-requires : goal.id_of_sharer-sharer-requires
id_of_sharer-sharer-requires c =
    let D = c.args.disk.now in
    let S = c.args.shares.now in
    let n = c.args.number in
    let s = c.in_ok-summary.summary in
    let here : HasSummary D.image.now D.layout.now n s = subst (λ L. HasSummary D.image.now L n s) c.requires.layout (subst (λ I. HasSummary I S.layout n s) c.requires.image c.in_ok-summary.ensures) in
    sharer_deleted D.image.now D.layout.now n here.1 s.sharer c.requires.deleted.0 here.3.shared

pub returns : goal.returns
returns c =
    let D = c.args.disk.now in
    let S = c.args.shares.now in
    let n = c.args.number in
    let s : Summary = c.in_ok-summary.summary in
    let here : HasSummary D.image.now D.layout.now n s = subst (λ L. HasSummary D.image.now L n s) c.requires.layout (subst (λ I. HasSummary I S.layout n s) c.requires.image c.in_ok-summary.ensures) in
    let so = here.3 in
    let first = former D.image.now D.layout.now n in
    let sharer : Option FileId = c.id_of_sharer-sharer.result in
    let is : c.told.result ≡ deletion_by n first s sharer = c.told.ensures ∙ ap (λ h. deletion_by n h s sharer) c.in-Some.ensures.1 in
    let Whole : Type 0 = IsWhole D.image.now D.layout.now n here.1 here.2 in (
      here.0,
      here.1,
      here.2,
      record {
        follows = so.follows;
        id = ap (λ (d : Deletion). d.file) is;
        named = ap (λ (d : Deletion). d.ident) is;
        held = ap (λ (d : Deletion). d.blocks) is ∙ so.blocks;
        sized = ap (λ (d : Deletion). d.bytes) is ∙ ap (bytes_by (attributes_of first)) (sym (ap (λ (d : Deletion). d.blocks) is));
        reused = ap (λ (d : Deletion). d.used) is ∙ so.used;
        cut = ap (λ (d : Deletion). d.missing) is ∙ so.missing;
        shared = (s.sharer, ap (λ (d : Deletion). d.sharer) is ∙ c.id_of_sharer-sharer.ensures, so.shared);
        complete = subst (λ (b : Bool). MatchBool b Whole (¬ Whole)) (sym (ap (λ (d : Deletion). d.whole) is)) so.complete;
      },
    )
