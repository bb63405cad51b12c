use Rattle.std.proofs.Common.{◌≡◌, ◌<◌, ◌≤◌, length, Some, sym, ap, ◌∙◌, get_or, arith}
use Rattle.std.specs.FinMap as map
use Rattle.ods_request.specs.Catalogue.{Catalogue}
use Rattle.ods_plain.specs.Rows.{place_of}
use Rattle.ods_plain.proofs.RowLists.{get-rows, find-place, find-none}
use Rattle.ods_plain.proofs.catalogue.Catalogue.file.Goals as goal

pub returns-then-at-rows : goal.returns-then-at-rows
returns-then-at-rows c =
    let rows = c.self.inside.rows.items in
    let id = c.args.id in
    let place : c.place-at.result ≡ place_of id rows = c.place-at.ensures.value ∙ ap (place_of id) c.as_slice-rows.ensures.value in
    let within : place_of id rows < length rows = omega (arith, c.if-at-rows.true, place, ap length c.as_slice-rows.ensures.value) in
    ap (λ (C : Catalogue). map.get C.files id) (sym c.self.view_is) ∙ get-rows rows id ∙ find-place id rows c.index-rows-at.result within
    ∙ ap Some ((λ i. (get_or (sym c.as_slice-rows.ensures.value i) (sym place i) c.index-rows-at.result).1) ∙ ap (λ r. r.1) (sym c.index-rows-at.is) ∙ sym c.file.ensures)

pub returns-else-at-rows : goal.returns-else-at-rows
returns-else-at-rows c =
    let rows = c.self.inside.rows.items in
    let id = c.args.id in
    let place : c.place-at.result ≡ place_of id rows = c.place-at.ensures.value ∙ ap (place_of id) c.as_slice-rows.ensures.value in
    let past : length rows ≤ place_of id rows = omega (arith, c.if-at-rows.false, place, ap length c.as_slice-rows.ensures.value) in
    ap (λ (C : Catalogue). map.get C.files id) (sym c.self.view_is) ∙ get-rows rows id ∙ find-none id rows past
