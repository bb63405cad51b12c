use Rattle.std.proofs.Common.{◌≡◌, ℕ, List, Option, subst}
use Rattle.std.specs.List.{Contains}
use Rattle.ods_header.specs.declared.home.Home.{Home}
use Rattle.ods_space.specs.Files.{AreInside}
use Rattle.ods_space.specs.Walk.{Leads, IsDeadEnd}
use Rattle.ods_space.proofs.Surveyed.{dead_end_fault, has_of_chain}
use Rattle.ods_space.proofs.files.chain.Goals as goal

-- what holds of the home block and the index at hand holds of those of the layout
of_layout : (P : Home → Option (List ℕ) → Type 0) (at_hand home : Home) (known index : Option (List ℕ)) → at_hand ≡ home → known ≡ index → P at_hand known → P home index
of_layout P at_hand home known index same is fact = subst (P home) is (subst (λ h. P h known) same fact)

pub returns-in-Err-clause-err : goal.returns-in-Err-clause-err
returns-in-Err-clause-err c =
    dead_end_fault c.args.disk.now.image.now c.args.disk.now.layout.now c.args.number c.in-Err.fault
    (of_layout (λ h index. IsDeadEnd c.args.disk.now.image.now h index c.args.number c.in-Err.fault) _ _ _ _ c.home.ensures c.index_for-index.ensures c.in-Err.ensures.err)

pub returns-in-Some-clause-err : goal.returns-in-Some-clause-err
returns-in-Some-clause-err c =
    let blocks = c.in-Ok.blocks.items in
    let leads = of_layout (λ h index. Leads c.args.disk.now.image.now h index c.args.number blocks) _ _ _ _ c.home.ensures c.index_for-index.ensures c.in-Ok.ensures.ok in
    let past = c.in-Some.ensures.some in
    let R : List ℕ → Type 0 = λ l. Contains l c.in-Some.lbn in
    (leads.0, blocks, leads.1, subst R c.deref.ensures.value past.0, past.1)

pub returns-in-None-clause-ok : goal.returns-in-None-clause-ok
returns-in-None-clause-ok c =
    let blocks = c.in-Ok.blocks.items in
    let leads = of_layout (λ h index. Leads c.args.disk.now.image.now h index c.args.number blocks) _ _ _ _ c.home.ensures c.index_for-index.ensures c.in-Ok.ensures.ok in
    let R : List ℕ → Type 0 = λ l. AreInside c.args.disk.now.image.now l in
    has_of_chain c.args.disk.now.image.now c.args.disk.now.layout.now c.args.number leads.0 blocks c.requires leads.1 (subst R c.deref.ensures.value c.in-None.ensures.none)
