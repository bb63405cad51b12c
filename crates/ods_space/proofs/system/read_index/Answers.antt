use Rattle.std.proofs.Common.{[], List, ℕ, Some, refl, inl, subst, ap, ◌∙◌, arith}
use Rattle.std.specs.List.{Contains}
use Rattle.ods_space.specs.Chain.{most}
use Rattle.ods_space.specs.Files.{AreInside}
use Rattle.ods_space.proofs.Layouts.{index_is_file, header_1_inside}
use Rattle.ods_space.proofs.system.read_index.Goals as goal

pub returns-in-Some-outside-clause-err : goal.returns-in-Some-outside-clause-err
returns-in-Some-outside-clause-err c =
    let I = c.args.image.now in
    let h = c.args.home.now in
    let index = c.in-Ok.index.items in
    let leads = c.in-Ok.ensures.ok in
    let limit = c.most-2.ensures ∙ ap (λ l. most h (Some l) []) c.deref.ensures.value in
    let past = c.in-Some-outside.ensures.some in
    let P : List ℕ → Type 0 = λ l. Contains l c.in-Some-outside.lbn in
    (inl refl, index, leads, index_is_file I h index c.most-2.result leads limit c.if-most-eq0.false, (leads.0, index, leads.1, subst P c.deref-2.ensures.value past.0, past.1))

pub returns-in-None-clause-ok : goal.returns-in-None-clause-ok
returns-in-None-clause-ok c =
    let I = c.args.image.now in
    let h = c.args.home.now in
    let index = c.in-Ok.index.items in
    let leads = c.in-Ok.ensures.ok in
    let limit = c.most-2.ensures ∙ ap (λ l. most h (Some l) []) c.deref.ensures.value in
    let file = index_is_file I h index c.most-2.result leads limit c.if-most-eq0.false in
    let P : List ℕ → Type 0 = λ l. AreInside I l in
    (leads, subst P c.deref-2.ensures.value c.in-None.ensures.none, file, omega (arith, header_1_inside I h index file.valid, c.in-None.ensures.few))
