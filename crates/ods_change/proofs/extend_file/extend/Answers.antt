use Rattle.std.proofs.Common.{◌≡◌, ℕ, ◌+◌, List, ◌≤◌, ◌∷◌, ◌++◌, Some, length, ap, sym, ◌∙◌, refl, subst, inl, inr, arith}
use Rattle.ods_request.specs.declared.answers.Answer.TheVariants.{Extended}
use Rattle.ods_request.specs.declared.requests.Request.TheVariants.{Extend}
use Rattle.ods_space.specs.Chain.{IsChain}
use Rattle.ods_space.specs.Draft.{applied}
use Rattle.ods_space.specs.Layout.{VolumeLayout, header_at, with_places}
use Rattle.ods_alloc.specs.Ends.{IsEndOf}
use Rattle.ods_alloc.specs.Extend.{last_of}
use Rattle.ods_state.specs.declared.known_end.KnownEnd.{KnownEnd}
use Rattle.ods_state.specs.Ends.{IsEndKnown}
use Rattle.ods_state.specs.Wants.{lack_for, room_in, allocated_blocks}
use Rattle.ods_state.specs.Served.{IsRefusalOf, IsStepOf}
use Rattle.ods_state.proofs.Chains.{first_in}
use Rattle.ods_state.proofs.GrownContents.{so_many_blocks}
use Rattle.ods_state.proofs.Served.{refused_by_fault, refused_for_memory}
use Rattle.ods_change.specs.Beginning.{IsBegun}
use Rattle.ods_change.specs.Extending.{IsExtensible, IsGrownBy, IsWanted}
use Rattle.ods_change.specs.Taking.{IsAllocatedBy}
use Rattle.ods_change.proofs.Begun.{IsAsked, IsKept, kept, step_of}
use Rattle.ods_change.proofs.BegunFiles.{above_reserved, asked_of_extend, end_kept, extensible_then}
use Rattle.ods_change.proofs.ExtendingFile.{extend_is_step, has, refused_for_lack}
use Rattle.ods_change.proofs.KnownEnds.{grown_known}
use Rattle.ods_change.proofs.AllocatingBlocks.{by_numbers}
use Rattle.ods_change.proofs.extend_file.extend.Goals as goal
use Rattle.ods_change.proofs.extend_file.extend.Goals.{After-layout_then-then, After-known_end-end}

pub returns-in-Err-clause-step : goal.returns-in-Err-clause-step
returns-in-Err-clause-step c = refused_by_fault c.args.disk.now.image.now c.args.disk.now.layout.now c.args.who (Extend c.args.file c.args.count) c.in-Err.refusal c.in-Err.ensures.err

pub known_end-end-requires-clause-whole : goal.known_end-end-requires-clause-whole
known_end-end-requires-clause-whole c = let o = c.in-Ok.ensures.ok.0 in (o.held.others, o.lbns, o.held.whole)

-- how the chain of the file ends
ends : (c : After-known_end-end) → let o = c.in-Ok.ensures.ok.0 in
    (c.known_end-end.result.headers ≡ length (c.args.file.number ∷ o.held.others)) × (c.known_end-end.result.blocks ≡ length o.lbns)
    × (c.known_end-end.result.room ≡ room_in c.args.disk.now.image.now c.args.disk.now.layout.now (c.args.file.number ∷ o.held.others))
ends c = let o = c.in-Ok.ensures.ok.0 in c.known_end-end.ensures.end o.held.others o.lbns o.held.whole

pub returns-in-Err-begin-clause-step : goal.returns-in-Err-begin-clause-step
returns-in-Err-begin-clause-step c =
    let I = c.args.disk.now.image.now in
    let L = c.args.disk.now.layout.now in
    let r = Extend c.args.file c.args.count in
    let o = c.in-Ok.ensures.ok.0 in
    let end = ends (goal.at.returns-in-Err-begin-clause-step c).After-known_end-end in
    elim c.in-Err-begin.ensures.err [
      | inl none ↦ subst (IsRefusalOf I L c.args.who r) (sym none) (refused_for_memory I L c.args.who r refl o.fine)
      | inr lacks ↦ refused_for_lack I L c.args.who r c.in-Err-begin.refusal (record {
        headers = c.args.file.number ∷ o.held.others;
        blocks = o.lbns;
        count = c.args.count;
        wants = (has c.requires.sound o, refl);
        lacking = by_numbers (λ h r. lack_for I L h r c.args.count ≡ Some c.in-Err-begin.refusal) end.0 end.2 lacks;
      }) o.fine
    ]

-- the file that grows, on the volume with which the request goes on
module _ (c : After-layout_then-then) where
  abbrev I : List (List ℕ)
  I = c.args.disk.now.image.now

  abbrev L : VolumeLayout
  L = c.args.disk.now.layout.now

  abbrev K : List (List ℕ)
  K = applied I c.in-Ok-begin.begun.1.draft

  abbrev M : VolumeLayout
  M = c.layout_then-then.result.now

  abbrev n : ℕ
  n = c.args.file.number

  abbrev count : ℕ
  count = c.args.count

  o : IsExtensible I L c.args.who c.args.file count
  o = c.in-Ok.ensures.ok.0

  abbrev headers : List ℕ
  headers = n ∷ o.held.others

  abbrev places : List ℕ
  places = c.in-Ok-begin.begun.1.places.items

  end : (c.known_end-end.result.headers ≡ length headers) × (c.known_end-end.result.blocks ≡ length o.lbns) × (c.known_end-end.result.room ≡ room_in I L headers)
  end = c.known_end-end.ensures.end o.held.others o.lbns o.held.whole

  got : IsAllocatedBy I L (length headers) (room_in I L headers) count c.in-Ok-begin.begun.0 places
  got = by_numbers (λ h r. IsAllocatedBy I L h r count c.in-Ok-begin.begun.0 places) end.0 end.2 c.in-Ok-begin.ensures.ok

  asked : IsAsked I L (Extend c.args.file count) headers o.lbns count places
  asked = asked_of_extend o c.len.ensures.image c.requires.sound got.enough got.places

  begun : IsBegun I L places K M
  begun = subst (IsBegun I L places K) (sym c.layout_then-then.ensures) c.in-Ok-begin.ensures.begun

  k : IsKept I L headers o.lbns count K M
  k = kept asked begun

  wanted : IsWanted K M n headers o.lbns count c.in-Ok-begin.begun.0
  wanted = record {
    file = k.file n o.file.0;
    has = k.has n (above_reserved o) (has c.requires.sound o);
    blocks = got.blocks ∙ sym k.wants.blocks;
    runs = c.in-Ok-begin.ensures.runs;
    numbers = got.numbers ∙ sym k.wants.numbers;
    enough = k.wants.enough;
    no_growth = k.wants.no_growth;
  }

  first_is : c.in-Ok.first.now ≡ header_at K M n
  first_is = c.in-Ok.ensures.ok.1 ∙ sym (k.own n (first_in n o.held.others))

  end_is : IsEndOf K M n c.known_end-end.result
  end_is = end_kept c.known_end-end.result (has c.requires.sound o) (k.has n (above_reserved o) (has c.requires.sound o)) k.own c.known_end-end.ensures.last

  made : (J : List (List ℕ)) → IsGrownBy K M n headers o.lbns count c.in-Ok-begin.begun.0.numbers.items J → (total : ℕ) → total ≡ c.known_end-end.result.blocks + count
      → IsStepOf I L c.args.who (Extend c.args.file count) (Extended total) J (with_places L places)
  made J g total is =
      step_of asked begun J c.args.who (Extended total)
      (extend_is_step k.sound (extensible_then o k) g k.image total (is ∙ ap (λ b. b + count) end.1) k.wants.enough)

  -- where the chain ends then
  known_then : (J : List (List ℕ)) → IsGrownBy K M n headers o.lbns count c.in-Ok-begin.begun.0.numbers.items J → (numbers : List ℕ) → numbers ≡ c.in-Ok-begin.begun.0.numbers.items
      → (now : KnownEnd) → now.file ≡ n → now.headers ≡ c.known_end-end.result.headers + length numbers → now.blocks ≡ c.known_end-end.result.blocks + count
      → now.last ≡ last_of c.known_end-end.result.number numbers → IsEndKnown J (with_places L places) now
  known_then J g numbers same now own many blocks last =
      let long = so_many_blocks k.sound g.grown in
      subst (λ N. IsEndKnown J N now) begun.layout
      (grown_known J M now n o.held.others numbers o.lbns (allocated_blocks K M count) (subst (λ l. IsChain J M n (o.held.others ++ l) (o.lbns ++ allocated_blocks K M count)) (sym same) g.grown.chain)
      own (omega (arith, many, end.0)) (omega (arith, blocks, end.1, long))
      (last ∙ ap (λ m. last_of m numbers) (c.known_end-end.ensures.last.number o.held.others o.lbns o.held.whole.chain)))

pub begin-requires-clause-small : goal.begin-requires-clause-small
begin-requires-clause-small c = c.in-Ok.ensures.ok.0.count_fits

pub grow_file-requires-clause-sound : goal.grow_file-requires-clause-sound
grow_file-requires-clause-sound c = (k (goal.at.grow_file-requires-clause-sound c).After-layout_then-then).sound

pub grow_file-requires-clause-image : goal.grow_file-requires-clause-image
grow_file-requires-clause-image c = (k (goal.at.grow_file-requires-clause-image c).After-layout_then-then).image

pub grow_file-requires-clause-first : goal.grow_file-requires-clause-first
grow_file-requires-clause-first c = first_is (goal.at.grow_file-requires-clause-first c).After-layout_then-then

pub grow_file-requires-clause-end : goal.grow_file-requires-clause-end
grow_file-requires-clause-end c = end_is (goal.at.grow_file-requires-clause-end c).After-layout_then-then

pub grow_file-requires-clause-wanted : goal.grow_file-requires-clause-wanted
grow_file-requires-clause-wanted c =
    let at = (goal.at.grow_file-requires-clause-wanted c).After-layout_then-then in
    (headers at, (o at).lbns, c.args.count, wanted at)

pub returns-in-Ok-grow_file-clause-step : goal.returns-in-Ok-grow_file-clause-step
returns-in-Ok-grow_file-clause-step c =
    let at = (goal.at.returns-in-Ok-grow_file-clause-step c).After-layout_then-then in
    made at (applied c.args.disk.now.image.now c.in-Ok-grow_file.draft) (c.in-Ok-grow_file.ensures (headers at) (o at).lbns c.args.count (wanted at)) c.grown_end-end.result.blocks c.grown_end-end.ensures.blocks

pub grown_end-end-requires-clause-few : goal.grown_end-end-requires-clause-few
grown_end-end-requires-clause-few c = subst (λ l. c.known_end-end.result.headers + length l ≤ 256) (sym c.deref.ensures.value) c.in-Ok-begin.ensures.few

pub returns-in-Ok-grow_file-clause-end : goal.returns-in-Ok-grow_file-clause-end
returns-in-Ok-grow_file-clause-end c =
    let at = (goal.at.returns-in-Ok-grow_file-clause-end c).After-layout_then-then in
    known_then at (applied c.args.disk.now.image.now c.in-Ok-grow_file.draft) (c.in-Ok-grow_file.ensures (headers at) (o at).lbns c.args.count (wanted at)) c.deref.result.now c.deref.ensures.value
    c.grown_end-end.result c.grown_end-end.ensures.file c.grown_end-end.ensures.headers c.grown_end-end.ensures.blocks c.grown_end-end.ensures.last

pub returns-clause-step : goal.returns-clause-step
returns-clause-step c = refused_for_memory c.args.disk.now.image.now c.args.disk.now.layout.now c.args.who (Extend c.args.file c.args.count) refl c.in-Ok.ensures.ok.0.fine
