use Rattle.std.proofs.Common.{◌≡◌, ℕ, List, [], length, Option, Some, sym, ap, ◌∙◌, subst}
use Rattle.ods_header.specs.declared.home.Home.{Home}
use Rattle.ods_space.specs.Chain.{IsSegment, index_for, most}
use Rattle.ods_space.specs.Reach.{Reaches}
use Rattle.ods_space.proofs.Surveyed.{index_for_other, as_asked}
use Rattle.ods_space.proofs.reaching.count_other.Goals as goal

pub returns-clause-some : goal.returns-clause-some
returns-clause-some c =
    let I = c.args.disk.now.image.now in
    let L = c.args.disk.now.layout.now in
    let new = c.new-surveyor.ensures in
    let index = c.new-surveyor.result.index.now in
    let first = c.in-Some.ensures.some.0 in
    let A : ℕ → Type 0 = λ m. IsSegment I c.home-home.result c.args.index.now m c.args.number 0 in
    let B : List ℕ → Type 0 = λ l. IsSegment I c.home-home.result l (most c.home-home.result (Some l) []) c.args.number 0 in
    let got = c.in-Ok.ensures.reached (subst B (sym new.0) (subst A c.most-greatest.ensures first)) in
    let noted = got.2 in
    let P : Home → Type 0 = λ h. Reaches I h (Some index) c.args.number got.0 c.in-Ok.is_whole in
    let Q : List ℕ → Type 0 = λ l. Reaches I L.home (Some l) c.args.number got.0 c.in-Ok.is_whole in
    let R : Option (List ℕ) → Type 0 = λ o. Reaches I L.home o c.args.number got.0 c.in-Ok.is_whole in
    let reached = subst R (sym (index_for_other L c.args.number c.requires.other)) (subst Q (new.0 ∙ c.requires.index) (subst P c.home-home.ensures got.1)) in
    let survey = as_asked c.walk.new.notes.survey got.0 c.walk.new.notes.len (length I) c.walk.new.notes.wanted 0 noted.3 (noted.1 ∙ new.1 ∙ c.requires.len) (noted.2 ∙ new.2) in
    (got.0, reached, record { count = survey.count; past = survey.past })
