use Rattle.std.proofs.Common.{List, ap, ◌∙◌}
use Rattle.std.specs.FinMap as map
use Rattle.ods_base.specs.declared.file_id.FileId.{FileId}
use Rattle.ods_request.specs.Catalogue.{Catalogue, File}
use Rattle.ods_request.specs.Steps.{after}
use Rattle.ods_plain.specs.Rows.{catalogue_in}
use Rattle.ods_plain.proofs.RowLists.{rows_without}
use Rattle.ods_plain.proofs.catalogue.Catalogue.delete.Goals as goal

pub returns : goal.returns
unfolding after
returns c =
    let past = c.self.inside.past.items in
    ap (λ (rows : List (FileId × File)). catalogue_in rows past c.self.inside.default) c.take_out.ensures
    ∙ ap (λ m. let D : Catalogue = record { files = m; past = (catalogue_in c.self.inside.rows.items past c.self.inside.default).past; default = c.self.inside.default } in D) (rows_without c.args.file c.self.inside.rows.items)
    ∙ ap (λ (C : Catalogue). let D : Catalogue = record { files = map.remove C.files c.args.file; past = C.past; default = C.default } in D) c.self.view_is
