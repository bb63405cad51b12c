use Rattle.std.proofs.Common.{◌≡◌, [], ◌∷◌, ◌++◌, None, sym, ap, ◌∙◌}
use Rattle.std.specs.FinMap as map
use Rattle.std.specs.FinMap.{find}
use Rattle.std.specs.FinSet as set
use Rattle.ods_request.specs.Catalogue.{Catalogue, file_cmp}
use Rattle.ods_request.specs.Steps.{created}
use Rattle.ods_request.proofs.Orders.{file_cmp-total, file_cmp-antisymmetric}
use Rattle.ods_plain.specs.Files.{file_of}
use Rattle.ods_plain.specs.Rows.{catalogue_in}
use Rattle.ods_plain.proofs.RowLists.{get-rows}
use Rattle.ods_plain.proofs.catalogue.Catalogue.add.Goals as goal

pub returns-clause-ok : goal.returns-clause-ok
returns-clause-ok c =
    let rows = c.self.inside.rows.items in
    let past = c.self.inside.past.items in
    let none : find file_cmp c.args.id rows ≡ None = sym (get-rows rows c.args.id) ∙ ap (λ (C : Catalogue). map.get C.files c.args.id) c.self.view_is ∙ c.requires.absent in
    let new_rows : c.push.new.self.items ≡ rows ++ (c.args.id, file_of c.args.file) ∷ [] = c.in_ok-push.ensures.items ∙ (λ i. c.reserve.ensures.items i ++ c.new.ensures i ∷ []) in
    let new_past : c.push-2.new.self.items ≡ past ++ c.args.id ∷ [] = c.in_ok-push-2.ensures.items ∙ ap (λ ids. ids ++ c.args.id ∷ []) c.reserve-2.ensures.items in
    (λ i. catalogue_in (new_rows i) (new_past i) c.self.inside.default)
    ∙ (λ i. let D : Catalogue = record {
      files = map.from_entries_push file_cmp-total file_cmp-antisymmetric rows c.args.id (file_of c.args.file) none i;
      past = set.from_list_push file_cmp-total file_cmp-antisymmetric past c.args.id i;
      default = c.self.inside.default;
    } in D)
    ∙ ap (λ (C : Catalogue). created C c.args.id (file_of c.args.file)) c.self.view_is
