use Rattle.std.proofs.Common.{◌+◌, length, sym, ap, ◌∙◌, arith, set}
use Rattle.ods_request.specs.Faults.{is_reserved}
use Rattle.ods_request.specs.Catalogue.{File, is_directory, blocks_of}
use Rattle.ods_request.specs.Steps.{after, answer_of, put, grown}
use Rattle.ods_request.specs.declared.answers.Answer.TheVariants.{Extended}
use Rattle.ods_request.proofs.FaultTable.{passed, fault_extend}
use Rattle.ods_plain.specs.Rows.{place_of}
use Rattle.ods_plain.proofs.Changes.{FoundBy, found_at, within_at, if_ok}
use Rattle.ods_plain.proofs.catalogue.Catalogue.extend.Goals as goal
use Rattle.ods_plain.proofs.catalogue.Catalogue.extend.Goals.{After-index_mut-row}

pub index_mut-row-requires : goal.index_mut-row-requires
index_mut-row-requires c =
    let within = within_at c.self.inside.rows.items c.self.inside.past.items c.self.inside.default c.args.self.now c.args.file c.place-at.result _ c.self.view_is
    (c.place-at.ensures.value ∙ ap (place_of c.args.file) c.as_slice.ensures.value) (passed _ _ (sym (fault_extend c.args.self.now c.requires.who c.args.file c.args.blocks) ∙ c.requires.allowed)) in
    omega (arith, within, ap length c.as_slice.ensures.value, c.as_slice.ensures.len)

found : (c : After-index_mut-row) → FoundBy c.self.inside.rows.items c.self.inside.past.items c.self.inside.default c.args.self.now c.args.file c.place-at.result c.index_mut-row.result.now _ _
    (fault_extend c.args.self.now c.requires.who c.args.file c.args.blocks)
found c = found_at _ _ _ _ _ _ _ _ c.self.view_is (c.place-at.ensures.value ∙ ap (place_of c.args.file) c.as_slice.ensures.value) c.index_mut-row.ensures.value (passed _ _ (sym (fault_extend c.args.self.now c.requires.who c.args.file c.args.blocks) ∙ c.requires.allowed))

pub grow-requires-clause-own : goal.grow-requires-clause-own
grow-requires-clause-own c = ap (λ r. is_reserved r.0) (found c).row_is ∙ (found c).none.0

pub grow-requires-clause-no_directory : goal.grow-requires-clause-no_directory
grow-requires-clause-no_directory c = ap (λ r. is_directory r.1.body) (found c).row_is ∙ (found c).none.1.0

pub returns-clause-count : goal.returns-clause-count
unfolding answer_of
returns-clause-count c =
    let at = (goal.at.returns-clause-count c).After-index_mut-row in
    if_ok c.grow.result _ _ (λ n e. ap Extended (e ∙ ap (λ r. length (blocks_of r.1.body) + c.args.blocks) (found at).row_is ∙ ap (λ (f : File). length (blocks_of f.body) + c.args.blocks) (sym (found at).file_is))) c.grow.ensures.count

pub returns-clause-ok : goal.returns-clause-ok
unfolding after
returns-clause-ok c =
    let at = (goal.at.returns-clause-ok c).After-index_mut-row in
    let file = (found at).file in
    if_ok c.grow.result _ _ (λ _ e.
    (found at).puts (grown file c.args.blocks) _ (ap (set c.self.inside.rows.items c.place-at.result) (e ∙ ap (λ r. (r.0, grown r.1 c.args.blocks)) (found at).row_is))
    ∙ ap (λ f. put c.args.self.now c.args.file (grown f c.args.blocks)) (sym (found at).file_is)) c.grow.ensures.ok
