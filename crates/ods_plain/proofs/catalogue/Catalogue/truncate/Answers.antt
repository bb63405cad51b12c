use Rattle.std.proofs.Common.{length, sym, ap, ◌∙◌, arith, set}
use Rattle.ods_request.specs.Faults.{is_reserved}
use Rattle.ods_request.specs.Catalogue.{File, is_directory}
use Rattle.ods_request.specs.Steps.{after, first_blocks, put, with_body}
use Rattle.ods_request.proofs.FaultTable.{passed, fault_truncate}
use Rattle.ods_plain.specs.Rows.{place_of}
use Rattle.ods_plain.proofs.Changes.{FoundBy, found_at, within_at}
use Rattle.ods_plain.proofs.catalogue.Catalogue.truncate.Goals as goal
use Rattle.ods_plain.proofs.catalogue.Catalogue.truncate.Goals.{After-index_mut-row}

pub index_mut-row-requires : goal.index_mut-row-requires
index_mut-row-requires c =
    let within = within_at c.self.inside.rows.items c.self.inside.past.items c.self.inside.default c.args.self.now c.args.file c.place-at.result _ c.self.view_is
    (c.place-at.ensures.value ∙ ap (place_of c.args.file) c.as_slice.ensures.value) (passed _ _ (sym (fault_truncate c.args.self.now c.requires.who c.args.file c.args.blocks) ∙ c.requires.allowed)) in
    omega (arith, within, ap length c.as_slice.ensures.value, c.as_slice.ensures.len)

found : (c : After-index_mut-row) → FoundBy c.self.inside.rows.items c.self.inside.past.items c.self.inside.default c.args.self.now c.args.file c.place-at.result c.index_mut-row.result.now _ _
    (fault_truncate c.args.self.now c.requires.who c.args.file c.args.blocks)
found c = found_at _ _ _ _ _ _ _ _ c.self.view_is (c.place-at.ensures.value ∙ ap (place_of c.args.file) c.as_slice.ensures.value) c.index_mut-row.ensures.value (passed _ _ (sym (fault_truncate c.args.self.now c.requires.who c.args.file c.args.blocks) ∙ c.requires.allowed))

pub keep-requires-clause-own : goal.keep-requires-clause-own
keep-requires-clause-own c = ap (λ r. is_reserved r.0) (found c).row_is ∙ (found c).none.0

pub keep-requires-clause-no_directory : goal.keep-requires-clause-no_directory
keep-requires-clause-no_directory c = ap (λ r. is_directory r.1.body) (found c).row_is ∙ (found c).none.1.0

pub returns : goal.returns
unfolding after
returns c =
    let at = (goal.at.returns c).After-index_mut-row in
    let change : File → File = λ f. with_body f (first_blocks f.body c.args.blocks) in
    (found at).puts (change (found at).file) _ (ap (set c.self.inside.rows.items c.place-at.result) (c.keep.ensures ∙ ap (λ r. (r.0, change r.1)) (found at).row_is))
    ∙ ap (λ f. put c.args.self.now c.args.file (change f)) (sym (found at).file_is)
