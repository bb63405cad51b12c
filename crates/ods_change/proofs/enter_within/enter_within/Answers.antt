use Rattle.std.proofs.Common.{◌≡◌, refl, ℕ, ◌≤◌, ◌∙◌, ap, sym, subst, List, [], ◌∷◌, length, arith}
use Rattle.std.specs.Prelude.{is_some, slice_set}
use Rattle.ods_header.specs.Attributes.{IsWithAttributes, KeepsOtherFields}
use Rattle.ods_header.specs.Header.{attributes_of}
use Rattle.ods_space.specs.Draft.{applied}
use Rattle.ods_space.proofs.Drafts.{applied_set, applied-applied}
use Rattle.ods_directory.specs.Mark.{marked}
use Rattle.ods_request.specs.declared.answers.Answer.TheVariants.{Entered}
use Rattle.ods_request.specs.declared.requests.Request.TheVariants.{Enter}
use Rattle.ods_state.specs.Served.{IsStepOf}
use Rattle.ods_state.proofs.Served.{refused_for_memory}
use Rattle.ods_space.specs.Chain.{chain_blocks}
use Rattle.ods_change.proofs.AttributesReplaced.{has_place}
use Rattle.ods_change.proofs.EntryReplaced.{entry_inside}
use Rattle.ods_change.proofs.EnteringName.{lies, enter_kept, enter_moved}
use Rattle.ods_change.proofs.enter_within.enter_within.Goals as goal

pub with_entry-lbn-requires-clause-directory : goal.with_entry-lbn-requires-clause-directory
with_entry-lbn-requires-clause-directory c = c.requires.entry.4.own.is

pub with_entry-lbn-requires-clause-within : goal.with_entry-lbn-requires-clause-within
with_entry-lbn-requires-clause-within c = (lies c.requires.sound c.requires.entry.4 c.requires.within).within

pub with_entry-lbn-requires-clause-whole : goal.with_entry-lbn-requires-clause-whole
with_entry-lbn-requires-clause-whole c =
    let inside = lies c.requires.sound c.requires.entry.4 c.requires.within in
    entry_inside inside.place c.args.entry.now.slot.at inside.at

pub returns-in-Ok : goal.returns-in-Ok
returns-in-Ok c = λ who name given file e.
    let I = c.args.entry.now.disk.image.now in
    let L = c.args.entry.now.disk.layout.now in
    let x : ℕ = c.with_entry-lbn.result.0 in
    let b : List ℕ = c.with_entry-lbn.result.1 in
    subst (λ J. IsStepOf I L who (Enter c.args.entry.now.dir name given file) (Entered c.args.entry.now.version) J L)
    (ap (slice_set I x) (sym c.with_entry-lbn.ensures.block) ∙ applied_set I x b ∙ ap (applied I) (sym c.in-Ok.ensures))
    (enter_kept c.requires.sound e c.requires.within c.with_entry-lbn.ensures.held c.if-entry.true)

pub returns-in-Err : goal.returns-in-Err
returns-in-Err c = λ who name given file e. refused_for_memory c.args.entry.now.disk.image.now c.args.entry.now.disk.layout.now who (Enter c.args.entry.now.dir name given file) refl (λ C shown. (e.answered C shown).0)

pub marked_header-header-requires : goal.marked_header-header-requires
marked_header-header-requires c =
    let e = c.requires.entry.4 in
    let inside = lies c.requires.sound e c.requires.within in
    let few : length c.args.entry.now.opened.blocks ≤ chain_blocks = e.own.is.few in
    omega (arith, inside.end, few)

pub unwrap-first-requires : goal.unwrap-first-requires
unwrap-first-requires c = ap is_some c.place.ensures ∙ has_place c.args.entry.now.disk.image.now c.args.entry.now.disk.layout.now c.args.entry.now.dir.number c.requires.entry.4.own.file.0

pub returns-in-Ok-two_blocks : goal.returns-in-Ok-two_blocks
returns-in-Ok-two_blocks c = λ who name given file e.
    let I = c.args.entry.now.disk.image.now in
    let L = c.args.entry.now.disk.layout.now in
    let entry = c.args.entry.now in
    let x : ℕ = c.with_entry-lbn.result.0 in
    let b : List ℕ = c.with_entry-lbn.result.1 in
    let y : ℕ = c.unwrap-first.result in
    let count : ℕ = c.count-count.result in
    let h : List ℕ = c.marked_header-header.result in
    subst (λ J. IsStepOf I L who (Enter c.args.entry.now.dir name given file) (Entered entry.version) J L)
    (ap (λ d. slice_set (slice_set I x d) y h) (sym c.with_entry-lbn.ensures.block)
    ∙ ap (λ K. slice_set K y h) (applied_set I x b)
    ∙ applied_set (applied I ((x, b) ∷ [])) y h
    ∙ applied-applied I ((y, h) ∷ []) ((x, b) ∷ [])
    ∙ ap (applied I) (sym c.in-Ok-two_blocks.ensures))
    (enter_moved c.requires.sound e c.requires.within c.with_entry-lbn.ensures.held y count h (sym c.place.ensures ∙ c.unwrap-first.ensures) c.count-count.ensures
    (subst (λ d. length (attributes_of d) ≡ 32) e.own.is.header c.marked_header-header.ensures.size)
    (subst (λ d. IsWithAttributes d (marked (attributes_of d) entry.slot.mark count) h) e.own.is.header c.marked_header-header.ensures.changed)
    (subst (λ d. KeepsOtherFields d (marked (attributes_of d) entry.slot.mark count) h) e.own.is.header c.marked_header-header.ensures.fields)
    c.if-entry.false)

pub returns-in-Err-two_blocks : goal.returns-in-Err-two_blocks
returns-in-Err-two_blocks c = λ who name given file e. refused_for_memory c.args.entry.now.disk.image.now c.args.entry.now.disk.layout.now who (Enter c.args.entry.now.dir name given file) refl (λ C shown. (e.answered C shown).0)
