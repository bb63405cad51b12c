use Rattle.std.proofs.Common.{◌≡◌, ℕ, ◌<◌, length, sym, ap, subst, ◌∙◌, arith, set, not}
use Rattle.std.specs.FinMap as map
use Rattle.ods_base.specs.Name.{key_of}
use Rattle.ods_base.specs.Names.{last_version, entered_version as version_entered}
use Rattle.ods_request.specs.Catalogue.{File, Directory, is_directory, names_of}
use Rattle.ods_request.specs.Steps.{after, answer_of, file_at, put, with_body}
use Rattle.ods_request.specs.declared.answers.Answer.TheVariants.{Entered}
use Rattle.ods_request.proofs.FaultTable.{passed, fault_enter}
use Rattle.ods_plain.specs.Files.{file_of}
use Rattle.ods_plain.specs.Rows.{place_of}
use Rattle.ods_plain.proofs.Changes.{FoundBy, found_at, within_at, has_room, is_absent, not_false}
use Rattle.ods_plain.proofs.catalogue.Catalogue.enter.Goals as goal
use Rattle.ods_plain.proofs.catalogue.Catalogue.enter.Goals.{After-file, After-entered_version-version}

pub index_mut-row-requires : goal.index_mut-row-requires
index_mut-row-requires c =
    let within = within_at c.self.inside.rows.items c.self.inside.past.items c.self.inside.default c.args.self.now c.args.dir c.place-at.result _ c.self.view_is
    (c.place-at.ensures.value ∙ ap (place_of c.args.dir) c.as_slice.ensures.value) (passed _ _ (sym (fault_enter c.args.self.now c.requires.who c.args.dir c.args.name c.args.given c.args.file) ∙ c.requires.allowed)) in
    omega (arith, within, ap length c.as_slice.ensures.value, c.as_slice.ensures.len)

found : (c : After-file) → FoundBy c.self.inside.rows.items c.self.inside.past.items c.self.inside.default c.args.self.now c.args.dir c.place-at.result c.index_mut-row.result.now _ _
    (fault_enter c.args.self.now c.requires.who c.args.dir c.args.name c.args.given c.args.file)
found c = found_at _ _ _ _ _ _ _ _ c.self.view_is (c.place-at.ensures.value ∙ ap (place_of c.args.dir) c.as_slice.ensures.value) c.index_mut-row.ensures.value (passed _ _ (sym (fault_enter c.args.self.now c.requires.who c.args.dir c.args.name c.args.given c.args.file) ∙ c.requires.allowed))

file_is : (c : After-file) → file_of c.file.result.now ≡ file_at c.args.self.now c.args.dir
file_is c = c.file.ensures ∙ ap (λ r. r.1) (found c).row_is ∙ sym (found c).file_is

version_is : (c : After-entered_version-version) → file_of c.file.result.now ≡ file_at c.args.self.now c.args.dir
    → c.entered_version-version.result ≡ version_entered (names_of (file_at c.args.self.now c.args.dir).body) c.args.name c.args.given
version_is c is = c.entered_version-version.ensures ∙ ap (λ (f : File). version_entered (names_of f.body) c.args.name c.args.given) is

pub entered_version-version-requires : goal.entered_version-version-requires
entered_version-version-requires c =
    let at = (goal.at.entered_version-version-requires c).After-file in
    λ none. subst (λ (f : File). last_version (names_of f.body) c.args.name < 65535) (sym (file_is at ∙ (found at).file_is))
    (has_room (names_of (found at).file.body) c.args.name c.args.given (found at).none.1.1.1 none)

pub enter-requires-clause-directory : goal.enter-requires-clause-directory
enter-requires-clause-directory c =
    let at = (goal.at.enter-requires-clause-directory c).After-file in
    not_false (is_directory c.index_mut-row.result.now.1.body) (ap (λ r. not (is_directory r.1.body)) (found at).row_is ∙ (found at).none.1.0)

pub enter-requires-clause-absent : goal.enter-requires-clause-absent
enter-requires-clause-absent c =
    let at = (goal.at.enter-requires-clause-absent c).After-file in
    let f = found at in
    let version = version_is (goal.at.enter-requires-clause-absent c).After-entered_version-version (file_is at) ∙ ap (λ (g : File). version_entered (names_of g.body) c.args.name c.args.given) f.file_is in
    (λ i. map.contains_key (names_of (f.row_is i).1.body) (key_of c.args.name (version i)))
    ∙ is_absent (names_of f.file.body) c.args.name c.args.given c.words.ensures.name.three f.none.1.1.1

pub returns-clause-version : goal.returns-clause-version
unfolding answer_of
returns-clause-version c = ap Entered (version_is (goal.at.returns-clause-version c).After-entered_version-version (file_is (goal.at.returns-clause-version c).After-file))

pub returns-clause-ok : goal.returns-clause-ok
unfolding after
returns-clause-ok c =
    let at = (goal.at.returns-clause-ok c).After-file in
    let version = version_is (goal.at.returns-clause-ok c).After-entered_version-version (file_is at) in
    let change : File → ℕ → File = λ f v. with_body f (Directory (map.insert (names_of f.body) (key_of c.args.name v) c.args.file)) in
    (found at).puts (change (found at).file c.entered_version-version.result) _
    (ap (set c.self.inside.rows.items c.place-at.result) (c.in_ok-enter.ensures.ok ∙ ap (λ r. (r.0, change r.1 c.entered_version-version.result)) (found at).row_is))
    ∙ (λ i. put c.args.self.now c.args.dir (change (sym (found at).file_is i) (version i)))
