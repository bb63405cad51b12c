use Rattle.std.proofs.Common.{ℕ, List, length, refl, ap, sym, ◌∙◌, ◌∷◌, Option, subst}
use Rattle.ods_base.specs.Name.{RadName}
use Rattle.ods_base.specs.declared.file_id.FileId.{FileId}
use Rattle.ods_base.specs.declared.file_id.Uic.{Uic}
use Rattle.ods_request.specs.declared.requests.Request.TheVariants.{Enter}
use Rattle.ods_request.specs.declared.answers.Answer.TheVariants.{Entered}
use Rattle.ods_space.specs.Draft.{applied}
use Rattle.ods_space.specs.Layout.{VolumeLayout, with_places}
use Rattle.ods_alloc.specs.Ends.{IsEndOf}
use Rattle.ods_alloc.specs.Extend.{cut}
use Rattle.ods_state.specs.Served.{IsStepOf}
use Rattle.ods_state.specs.Wants.{room_in}
use Rattle.ods_state.proofs.Served.{refused_for_memory}
use Rattle.ods_change.specs.Beginning.{IsBegun}
use Rattle.ods_change.specs.Entering.{IsEntering, IsEntryFor, IsAllocatedFor}
use Rattle.ods_change.specs.Taking.{IsAllocatedBy}
use Rattle.ods_change.proofs.Begun.{IsAsked, IsKept, kept, step_of}
use Rattle.ods_change.proofs.BegunDirectories.{asked_by, entry_then, high_directory, taken_then}
use Rattle.ods_change.proofs.BegunFiles.{end_kept}
use Rattle.ods_change.proofs.GrowingChain.{has_headers}
use Rattle.ods_change.proofs.GrowingDirectory.{refused}
use Rattle.ods_change.proofs.AllocatingBlocks.{by_numbers}
use Rattle.ods_change.proofs.enter_behind.enter_behind.Goals as goal
use Rattle.ods_change.proofs.enter_behind.enter_behind.Goals.{After-layout_then-then}

pub of-end-requires-clause-whole : goal.of-end-requires-clause-whole
of-end-requires-clause-whole c = let own = c.requires.entry.4.own.is in (own.held.others, own.lbns, own.held.whole)

pub returns-in-Err : goal.returns-in-Err
returns-in-Err c = λ who name given file e.
    refused c.requires.sound e c.requires.grows c.in-Err.refusal c.of-end.result.headers c.of-end.result.room
    (let end = c.of-end.ensures.end e.own.is.held.others e.own.is.lbns e.own.is.held.whole in (end.0, end.2))
    c.in-Err.ensures.err

-- the directory, on the volume with which the request goes on
module _ (c : After-layout_then-then) where
  abbrev I : List (List ℕ)
  I = c.args.entry.now.disk.image.now

  abbrev L : VolumeLayout
  L = c.args.entry.now.disk.layout.now

  abbrev K : List (List ℕ)
  K = applied I c.in-Ok.begun.1.draft

  abbrev M : VolumeLayout
  M = c.layout_then-then.result.now

  abbrev dir : FileId
  dir = c.args.entry.now.dir

  abbrev places : List ℕ
  places = c.in-Ok.begun.1.places.items

  begun : IsBegun I L places K M
  begun = subst (IsBegun I L places K) (sym c.layout_then-then.ensures) c.in-Ok.ensures.begun

  module _ {who : Uic} {name : RadName} {given : Option ℕ} {file : FileId} (e : IsEntryFor I L who dir name given file c.args.entry.now) where
    abbrev headers : List ℕ
    headers = dir.number ∷ e.own.is.held.others

    got : IsAllocatedBy I L (length headers) (room_in I L headers) 1 c.in-Ok.begun.0 places
    got = let end = c.of-end.ensures.end e.own.is.held.others e.own.is.lbns e.own.is.held.whole in by_numbers (λ h r. IsAllocatedBy I L h r 1 c.in-Ok.begun.0 places) end.0 end.2 c.in-Ok.ensures.ok

    asked : IsAsked I L (Enter dir name given file) headers e.own.is.lbns 1 places
    asked = asked_by e c.requires.sound c.requires.grows c.len.ensures.image got.enough got.places

    k : IsKept I L headers e.own.is.lbns 1 K M
    k = kept asked begun

    now : IsEntryFor K M who dir name given file c.args.entry.now
    now = entry_then e k

    entered : (J : List (List ℕ)) → IsEntering K M dir c.args.entry.now J M → IsStepOf I L who (Enter dir name given file) (Entered c.args.entry.now.version) J (with_places L places)
    entered J step = step_of asked begun J who (Entered c.args.entry.now.version) (step who name given file now)

  some : IsEntryFor I L c.requires.entry.0 dir c.requires.entry.1 c.requires.entry.2 c.requires.entry.3 c.args.entry.now
  some = c.requires.entry.4

  end_is : IsEndOf K M dir.number c.of-end.result
  end_is =
      let has = has_headers some.own.is.held in
      end_kept c.of-end.result has ((k some).has dir.number (high_directory some) has) (k some).own c.of-end.ensures.last

  taken : IsAllocatedFor K M dir.number c.in-Ok.begun.0.blocks.items c.in-Ok.begun.0.numbers.items
  taken = taken_then (k some) ((k some).has dir.number (high_directory some) (has_headers some.own.is.held)) (got some).blocks (got some).numbers

pub with_block-requires-clause-sound : goal.with_block-requires-clause-sound
with_block-requires-clause-sound c = let at = (goal.at.with_block-requires-clause-sound c).After-layout_then-then in (k at (some at)).sound

pub with_block-requires-clause-image : goal.with_block-requires-clause-image
with_block-requires-clause-image c = let at = (goal.at.with_block-requires-clause-image c).After-layout_then-then in (k at (some at)).image

pub with_block-requires-clause-entry : goal.with_block-requires-clause-entry
with_block-requires-clause-entry c =
    let at = (goal.at.with_block-requires-clause-entry c).After-layout_then-then in
    (c.requires.entry.0, c.requires.entry.1, c.requires.entry.2, c.requires.entry.3, now at (some at))

pub with_block-requires-clause-end : goal.with_block-requires-clause-end
with_block-requires-clause-end c = end_is (goal.at.with_block-requires-clause-end c).After-layout_then-then

pub with_block-requires-clause-taken : goal.with_block-requires-clause-taken
with_block-requires-clause-taken c =
    let at = (goal.at.with_block-requires-clause-taken c).After-layout_then-then in
    subst (λ ns. IsAllocatedFor (K at) (M at) (dir at).number c.deref.result.now ns) (sym c.deref-2.ensures.value)
    (subst (λ bs. IsAllocatedFor (K at) (M at) (dir at).number bs c.in-Ok.begun.0.numbers.items) (sym c.deref.ensures.value) (taken at))

pub with_block-requires-clause-runs : goal.with_block-requires-clause-runs
with_block-requires-clause-runs c = c.deref-3.ensures.value ∙ c.in-Ok.ensures.runs ∙ ap cut (sym c.deref.ensures.value)

pub returns-in-Ok-with_block : goal.returns-in-Ok-with_block
returns-in-Ok-with_block c = λ who name given file e.
    entered (goal.at.returns-in-Ok-with_block c).After-layout_then-then e (applied c.args.entry.now.disk.image.now c.in-Ok-with_block.draft) c.in-Ok-with_block.ensures

pub returns : goal.returns
returns c = λ who name given file e.
    refused_for_memory c.args.entry.now.disk.image.now c.args.entry.now.disk.layout.now who (Enter c.args.entry.now.dir name given file) refl (λ C shown. (e.answered C shown).0)
