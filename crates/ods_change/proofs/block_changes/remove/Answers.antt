use Rattle.std.proofs.Common.{refl, ◌∙◌, ap, sym, subst, List, ℕ}
use Rattle.std.specs.Prelude.{slice_set}
use Rattle.ods_request.specs.declared.answers.Answer.TheVariants.{Removed}
use Rattle.ods_request.specs.declared.refusals.Refusal.TheVariants as refusal
use Rattle.ods_request.specs.declared.requests.Request.TheVariants.{Remove}
use Rattle.ods_request.proofs.FaultTable.{fault_remove}
use Rattle.ods_space.specs.Draft.{applied}
use Rattle.ods_space.proofs.Drafts.{applied_set}
use Rattle.ods_state.specs.Served.{IsStepOf}
use Rattle.ods_state.proofs.Served.{refused_by_fault, refused_for_memory}
use Rattle.ods_look.proofs.OpenDirectories.{name_check, not_found}
use Rattle.ods_change.proofs.EntryReplaced.{entry_within, entry_inside}
use Rattle.ods_change.proofs.RemovingName.{remove_answered, remove_is_step}
use Rattle.ods_change.proofs.block_changes.remove.Goals as goal

pub returns-in-Err : goal.returns-in-Err
returns-in-Err c =
    refused_by_fault c.args.disk.now.image.now c.args.disk.now.layout.now c.args.who (Remove c.args.dir c.args.name c.args.pick) c.in-Err.refusal
    (λ C shown. fault_remove C c.args.who c.args.dir c.args.name c.args.pick ∙ c.in-Err.ensures.err C (name_check c.args.name c.args.pick) shown)

pub returns-in-Err-remove : goal.returns-in-Err-remove
returns-in-Err-remove c =
    refused_by_fault c.args.disk.now.image.now c.args.disk.now.layout.now c.args.who (Remove c.args.dir c.args.name c.args.pick) refusal.NoSuchName (λ C shown.
    fault_remove C c.args.who c.args.dir c.args.name c.args.pick
    ∙ not_found c.in-Ok.ensures.ok shown c.args.name c.words.ensures.name.three c.args.pick c.in-Err-remove.field-0 c.in-Err-remove.ensures.err)

pub with_entry-lbn-requires-clause-within : goal.with_entry-lbn-requires-clause-within
with_entry-lbn-requires-clause-within c = let place = c.in-Ok-remove.ensures.position in entry_within place.0 _ _ _ place.1 place.2 c.in-Ok.ensures.ok.is.inside

pub with_entry-lbn-requires-clause-whole : goal.with_entry-lbn-requires-clause-whole
with_entry-lbn-requires-clause-whole c = let place = c.in-Ok-remove.ensures.position in entry_inside place.0 _ place.2

pub returns-in-Ok-one_block : goal.returns-in-Ok-one_block
returns-in-Ok-one_block c =
    let I = c.args.disk.now.image.now in
    let L = c.args.disk.now.layout.now in
    let entry = c.in-Ok-remove.entry in
    let removed = c.in-Ok-remove.ensures in
    let place = removed.position in
    let x : ℕ = c.with_entry-lbn.result.0 in
    let b : List ℕ = c.with_entry-lbn.result.1 in
    subst (λ J. IsStepOf I L c.args.who (Remove c.args.dir c.args.name c.args.pick) (Removed entry.0 entry.1) J L)
    (ap (slice_set I x) (sym c.with_entry-lbn.ensures.block) ∙ applied_set I x b ∙ ap (applied I) (sym c.in-Ok-one_block.ensures))
    (remove_is_step c.requires.sound c.in-Ok.ensures.ok c.args.name c.words.ensures.name.three c.args.pick entry.0 entry.1 removed.found entry.2 place.0 c.with_entry-lbn.ensures.held place.1 place.2 place.3 place.4 removed.names removed.stays)

pub returns-in-Err-one_block : goal.returns-in-Err-one_block
returns-in-Err-one_block c =
    let entry = c.in-Ok-remove.entry in
    refused_for_memory c.args.disk.now.image.now c.args.disk.now.layout.now c.args.who (Remove c.args.dir c.args.name c.args.pick) refl (λ C shown.
    (remove_answered c.requires.sound c.in-Ok.ensures.ok c.args.name c.words.ensures.name.three c.args.pick entry.0 entry.1 c.in-Ok-remove.ensures.found C shown).0)
