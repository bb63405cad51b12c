use Rattle.std.proofs.Common.{ℕ, List, [], length, Option, None, Some, sym, ap, ◌∙◌, subst, arith}
use Rattle.ods_header.specs.declared.home.Home.{Home}
use Rattle.ods_space.specs.Chain.{Follows}
use Rattle.ods_space.proofs.Sizes.{chain_size}
use Rattle.ods_space.proofs.Surveyed.{index_for_other, of_index, as_asked}
use Rattle.ods_space.proofs.files.survey.Goals as goal

pub survey_index-requires : goal.survey_index-requires
survey_index-requires c =
    let own = c.requires.index in
    let few = chain_size c.args.disk.now.image.now c.args.disk.now.layout.now.home None 1 own.others c.args.disk.now.layout.now.index c.len-len.ensures.image own.whole.chain in
    let size = ap length c.index-index.ensures in
    omega arith

pub returns-then-number-eq1-clause-some : goal.returns-then-number-eq1-clause-some
returns-then-number-eq1-clause-some c =
    let found = c.survey_index.ensures in
    of_index c.args.disk.now.image.now c.args.disk.now.layout.now c.args.number c.args.wanted c.index-index.result.now c.survey_index.result c.requires c.if-number-eq1.true c.index-index.ensures found.count found.found found.past

pub returns-then-whole-clause-some : goal.returns-then-whole-clause-some
returns-then-whole-clause-some c =
    let I = c.args.disk.now.image.now in
    let L = c.args.disk.now.layout.now in
    let new = c.new-surveyor.ensures in
    let got = rw c.if-whole.true at c.in-Ok.ensures.whole in
    let noted = got.3 in
    let P : Home → Type 0 = λ h. Follows I h (Some c.new-surveyor.result.index.now) [] 0 c.args.number got.0 got.1 in
    let Q : List ℕ → Type 0 = λ index. Follows I L.home (Some index) [] 0 c.args.number got.0 got.1 in
    let R : Option (List ℕ) → Type 0 = λ o. Follows I L.home o [] 0 c.args.number got.0 got.1 in
    let chain = subst R (sym (index_for_other L c.args.number c.if-number-eq1.false)) (subst Q (new.0 ∙ c.index-index.ensures) (subst P c.home.ensures got.2)) in
    (got.0, got.1, chain, as_asked c.walk.new.notes.survey got.1 c.walk.new.notes.len (length I) c.walk.new.notes.wanted c.args.wanted noted.3 (noted.1 ∙ new.1 ∙ c.len-len.ensures.value) (noted.2 ∙ new.2))

pub returns-else-whole-clause-none : goal.returns-else-whole-clause-none
returns-else-whole-clause-none c others blocks chain =
    let I = c.args.disk.now.image.now in
    let L = c.args.disk.now.layout.now in
    let got = rw c.if-whole.false at c.in-Ok.ensures.whole in
    let P : Home → Type 0 = λ h. Follows I h (Some c.new-surveyor.result.index.now) [] 0 c.args.number others blocks in
    let Q : List ℕ → Type 0 = λ index. Follows I L.home (Some index) [] 0 c.args.number others blocks in
    let R : Option (List ℕ) → Type 0 = λ o. Follows I L.home o [] 0 c.args.number others blocks in
    got others blocks (subst P (sym c.home.ensures) (subst Q (sym (c.new-surveyor.ensures.0 ∙ c.index-index.ensures)) (subst R (index_for_other L c.args.number c.if-number-eq1.false) chain)))
