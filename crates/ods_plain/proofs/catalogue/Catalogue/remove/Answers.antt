use Rattle.std.proofs.Common.{◌≡◌, ℕ, length, sym, ap, ◌∙◌, arith, set, not}
use Rattle.std.specs.FinMap as map
use Rattle.ods_base.specs.Name.{key_of}
use Rattle.ods_request.specs.Catalogue.{File, Directory, is_directory, names_of}
use Rattle.ods_request.specs.Steps.{after, answer_of, file_at, put, with_body}
use Rattle.ods_request.specs.declared.answers.Answer.TheVariants.{Removed}
use Rattle.ods_request.proofs.FaultTable.{passed, fault_remove}
use Rattle.ods_plain.specs.Files.{file_of}
use Rattle.ods_plain.specs.Rows.{place_of}
use Rattle.ods_plain.proofs.Changes.{FoundBy, found_at, within_at, found_in, not_false}
use Rattle.ods_plain.proofs.catalogue.Catalogue.remove.Goals as goal
use Rattle.ods_plain.proofs.catalogue.Catalogue.remove.Goals.{After-file}

pub index_mut-row-requires : goal.index_mut-row-requires
index_mut-row-requires c =
    let within = within_at c.self.inside.rows.items c.self.inside.past.items c.self.inside.default c.args.self.now c.args.dir c.place-at.result _ c.self.view_is
    (c.place-at.ensures.value ∙ ap (place_of c.args.dir) c.as_slice.ensures.value) (passed _ _ (sym (fault_remove c.args.self.now c.requires.who c.args.dir c.args.name.now c.args.pick) ∙ c.requires.allowed)) in
    omega (arith, within, ap length c.as_slice.ensures.value, c.as_slice.ensures.len)

found : (c : After-file) → FoundBy c.self.inside.rows.items c.self.inside.past.items c.self.inside.default c.args.self.now c.args.dir c.place-at.result c.index_mut-row.result.now _ _
    (fault_remove c.args.self.now c.requires.who c.args.dir c.args.name.now c.args.pick)
found c = found_at _ _ _ _ _ _ _ _ c.self.view_is (c.place-at.ensures.value ∙ ap (place_of c.args.dir) c.as_slice.ensures.value) c.index_mut-row.ensures.value (passed _ _ (sym (fault_remove c.args.self.now c.requires.who c.args.dir c.args.name.now c.args.pick) ∙ c.requires.allowed))

file_is : (c : After-file) → file_of c.file.result.now ≡ file_at c.args.self.now c.args.dir
file_is c = c.file.ensures ∙ ap (λ r. r.1) (found c).row_is ∙ sym (found c).file_is

pub remove-requires : goal.remove-requires
remove-requires c =
    let at = (goal.at.remove-requires c).After-file in
    not_false (is_directory c.index_mut-row.result.now.1.body) (ap (λ r. not (is_directory r.1.body)) (found at).row_is ∙ (found at).none.0)

pub returns-clause-answer : goal.returns-clause-answer
unfolding answer_of
returns-clause-answer c =
    let body = ap (λ (f : File). f.body) (file_is (goal.at.returns-clause-answer c).After-file) in
    let said = found_in c.args.self.now c.args.dir c.args.name.now c.args.pick _ _ _ body c.find-version.ensures.version c.find-version.ensures.file in
    λ i. Removed (said.0 i) (said.1 i)

pub returns-clause-left : goal.returns-clause-left
unfolding after
returns-clause-left c =
    let at = (goal.at.returns-clause-left c).After-file in
    let body = ap (λ (f : File). f.body) (file_is at) in
    let said = found_in c.args.self.now c.args.dir c.args.name.now c.args.pick _ _ _ body c.find-version.ensures.version c.find-version.ensures.file in
    let change : File → ℕ → File = λ f v. with_body f (Directory (map.remove (names_of f.body) (key_of c.args.name.now v))) in
    (found at).puts (change (found at).file c.find-version.result.1) _ (ap (set c.self.inside.rows.items c.place-at.result) (c.remove.ensures ∙ ap (λ r. (r.0, change r.1 c.find-version.result.1)) (found at).row_is))
    ∙ (λ i. put c.args.self.now c.args.dir (change (sym (found at).file_is i) (said.1 i)))
