use Rattle.std.proofs.Common.{◌≡◌, ℕ, ◌+◌, ◌-◌, ◌≤◌, refl, ap, sym, ◌∙◌, subst, List, [], length, take, drop, get_or, None, Some, arith, rules, inl, inr}
use Rattle.std.specs.Prelude.{slice_get}
use Rattle.std.proofs.lemmas.List.{length-drop, take_all}
use Rattle.ods_base.specs.declared.file_id.FileId.{FileId}
use Rattle.ods_header.specs.declared.home.Home.{Home}
use Rattle.ods_space.specs.Draft.{applied}
use Rattle.ods_space.specs.Layout.{VolumeLayout, greatest_number, with_places}
use Rattle.ods_alloc.specs.Extend.{cut}
use Rattle.ods_alloc.proofs.FreeTests.{IsOpenNumber}
use Rattle.ods_request.specs.declared.answers.Answer.TheVariants.{Created}
use Rattle.ods_request.specs.declared.refusals.Refusal.TheVariants as refusal
use Rattle.ods_request.specs.declared.requests.Request.{Request}
use Rattle.ods_request.specs.declared.requests.Request.TheVariants.{Create}
use Rattle.ods_state.specs.Served.{IsRefusalOf, IsStepOf}
use Rattle.ods_state.specs.Wants.{lack_of, allocated_blocks, allocated_numbers}
use Rattle.ods_state.specs.Growth.{IsTaking}
use Rattle.ods_state.proofs.Served.{refused_by_fault, refused_for_memory}
use Rattle.ods_change.specs.Beginning.{IsBegun}
use Rattle.ods_change.specs.Creating.{IsMadeFile, IsNewHeaderFor, new_id}
use Rattle.ods_change.proofs.Begun.{IsAsked, IsKept, kept, step_of}
use Rattle.ods_change.proofs.CreatingFile.{create_is_step, no_fault, refused_for_lack, too_many}
use Rattle.ods_change.proofs.NewHeaders.{new_first}
use Rattle.ods_change.proofs.AllocatedNumbers.{all_blocks, first_is_open, first_is_taken, new_taking, numbers_there}
use Rattle.ods_change.proofs.create_file.create.Goals as goal
use Rattle.ods_change.proofs.create_file.create.Goals.{After-as_slice-numbers, After-layout_then-then}

pub returns-then-count-gt65535 : goal.returns-then-count-gt65535
returns-then-count-gt65535 c =
    refused_by_fault c.args.disk.now.image.now c.args.disk.now.layout.now c.args.who (Create c.args.name c.args.version c.args.count c.args.stamp) refusal.BadCount
    (λ C shown. too_many c.args.disk.now.image.now c.args.disk.now.layout.now c.args.who c.args.name c.args.version c.args.count c.args.stamp c.if-count-gt65535.true C)

pub returns-in-Err : goal.returns-in-Err
returns-in-Err c = elim c.in-Err.ensures.err [
  | inl e ↦
      subst (IsRefusalOf c.args.disk.now.image.now c.args.disk.now.layout.now c.args.who (Create c.args.name c.args.version c.args.count c.args.stamp)) (sym e)
      (refused_for_memory c.args.disk.now.image.now c.args.disk.now.layout.now c.args.who (Create c.args.name c.args.version c.args.count c.args.stamp) refl
      (λ C shown. no_fault c.args.disk.now.image.now c.args.disk.now.layout.now c.args.who c.args.name c.args.version c.args.count c.args.stamp c.if-count-gt65535.false C))
  | inr lack ↦
      refused_for_lack c.args.disk.now.image.now c.args.disk.now.layout.now c.args.who c.args.name c.args.version c.args.count c.args.stamp c.in-Err.refusal c.if-count-gt65535.false
      lack
]

-- the numbers that are taken: there is a first one, and it is open
module _ (c : After-as_slice-numbers) where
  abbrev ns : List ℕ
  ns = c.as_slice-numbers.result.now

  enough : lack_of c.args.disk.now.image.now c.args.disk.now.layout.now [] c.args.count ≡ None
  enough = c.in-Ok.ensures.ok.enough

  numbers_are : ns ≡ allocated_numbers c.args.disk.now.image.now c.args.disk.now.layout.now [] c.args.count
  numbers_are = c.as_slice-numbers.ensures.value ∙ c.in-Ok.ensures.ok.numbers

  some : 1 ≤ length ns
  some = numbers_there c.args.disk.now.image.now c.args.disk.now.layout.now c.args.count enough ns numbers_are

  first_open : IsOpenNumber c.args.disk.now.image.now c.args.disk.now.layout.now (greatest_number c.args.disk.now.layout.now.home) (get_or ns 0 0)
  first_open = first_is_open c.args.disk.now.image.now c.args.disk.now.layout.now c.args.count enough ns numbers_are

  word : (id : FileId) → id ≡ new_id c.args.disk.now.image.now c.args.disk.now.layout.now (get_or ns 0 0) → id.number ≤ 65535
  word id is = omega (arith, ap (λ (f : FileId). f.number) is, c.type_inv.numbers 0)

pub bounds-numbers-0 : goal.bounds-numbers-0
bounds-numbers-0 c = some (goal.at.bounds-numbers-0 c).After-as_slice-numbers

pub new_id-file-requires : goal.new_id-file-requires
new_id-file-requires c = (first_open (goal.at.new_id-file-requires c).After-as_slice-numbers).below

pub slice_bounds-others-count : goal.slice_bounds-others-count
slice_bounds-others-count c = some (goal.at.slice_bounds-others-count c).After-as_slice-numbers

pub slice_bounds-others-start : goal.slice_bounds-others-start
slice_bounds-others-start c =
    let within = some (goal.at.slice_bounds-others-start c).After-as_slice-numbers in
    search rules

-- the file that is made of what is taken, on the volume with which the request goes on
module _ (c : After-layout_then-then) where
  abbrev I : List (List ℕ)
  I = c.args.disk.now.image.now

  abbrev L : VolumeLayout
  L = c.args.disk.now.layout.now

  abbrev K : List (List ℕ)
  K = applied I c.in-Ok.begun.1.draft

  abbrev M : VolumeLayout
  M = c.layout_then-then.result.now

  abbrev r : Request
  r = Create c.args.name c.args.version c.args.count c.args.stamp

  abbrev count : ℕ
  count = c.args.count

  abbrev n : ℕ
  n = c.new_id-file.result.number

  abbrev all : List ℕ
  all = c.as_slice-numbers.result.now

  abbrev others : List ℕ
  others = take (length all - 1) (drop 1 all)

  abbrev blocks : List ℕ
  blocks = c.as_slice-blocks.result.now

  abbrev places : List ℕ
  places = c.in-Ok.begun.1.places.items

  there : lack_of I L [] count ≡ None
  there = c.in-Ok.ensures.ok.enough

  asked : IsAsked I L r [] [] count places
  asked = record {
    image = c.len.ensures.image;
    sound = c.requires.sound;
    wants = (refl, refl, refl);
    file = λ m behind none. absurd (cc);
    enough = there;
    are = c.in-Ok.ensures.ok.places;
  }

  begun : IsBegun I L places K M
  begun = subst (IsBegun I L places K) (sym c.layout_then-then.ensures) c.in-Ok.ensures.begun

  k : IsKept I L [] [] count K M
  k = kept asked begun

  all_are : all ≡ allocated_numbers I L [] count
  all_are = c.as_slice-numbers.ensures.value ∙ c.in-Ok.ensures.ok.numbers

  all_now : all ≡ allocated_numbers K M [] count
  all_now = all_are ∙ sym k.wants.numbers

  blocks_are : blocks ≡ allocated_blocks K M count
  blocks_are = c.as_slice-blocks.ensures.value ∙ c.in-Ok.ensures.ok.blocks ∙ sym k.wants.blocks

  many : length blocks ≡ count
  many = ap length blocks_are ∙ all_blocks K M count k.wants.enough

  n_is : n ≡ get_or all 0 0
  n_is = ap (λ (f : FileId). f.number) c.new_id-file.ensures

  id_is : c.new_id-file.result ≡ new_id K M n
  id_is = c.new_id-file.ensures ∙ ap (new_id I L) (sym n_is) ∙ (λ i. record { number = n; sequence = sym (k.sequences n) i + 1 })

  others_are : others ≡ drop 1 all
  others_are = let size = length-drop 1 all in take_all (length all - 1) (drop 1 all) (omega arith)

  taking : IsTaking K M n [] [] count others
  taking =
      subst (λ m. IsTaking K M m [] [] count others) (sym n_is)
      (subst (IsTaking K M (get_or all 0 0) [] [] count) (sym others_are) (new_taking K M count k.wants.enough all all_now k.wants.no_growth))

  high : 6 ≤ n
  high = subst (λ m. 6 ≤ m) (sym n_is) (first_is_open K M count k.wants.enough all all_now).low

  first : slice_get (allocated_numbers K M [] 0) 0 ≡ Some n
  first = first_is_taken K M count k.wants.enough all all_now ∙ ap Some (sym n_is)

  header_is : IsNewHeaderFor c.args.who M.home.protection (new_id K M n) c.args.name c.args.version count c.args.stamp c.new_header-header.result
  header_is =
      subst (λ id. IsNewHeaderFor c.args.who M.home.protection id c.args.name c.args.version count c.args.stamp c.new_header-header.result) id_is
      (subst (λ (o : Home). IsNewHeaderFor c.args.who o.protection c.new_id-file.result c.args.name c.args.version count c.args.stamp c.new_header-header.result) (c.home-protection.ensures ∙ sym k.home)
      c.new_header-header.ensures)

  made : n ≤ 65535 → (J : List (List ℕ)) → IsMadeFile K M n c.new_header-header.result (length blocks) others J → IsStepOf I L c.args.who r (Created c.new_id-file.result) J (with_places L places)
  made word J m =
      subst (λ id. IsStepOf I L c.args.who r (Created id) J (with_places L places)) (sym id_is)
      (step_of asked begun J c.args.who (Created (new_id K M n))
      (create_is_step k.sound c.args.who c.args.name c.words.ensures.name.three c.args.version count c.if-count-gt65535.false c.args.stamp
      n high word first others taking c.new_header-header.result header_is (subst (λ m. IsMadeFile K M n c.new_header-header.result m others J) many m) k.image))

pub new_file-requires-clause-sound : goal.new_file-requires-clause-sound
new_file-requires-clause-sound c = (k (goal.at.new_file-requires-clause-sound c).After-layout_then-then).sound

pub new_file-requires-clause-image : goal.new_file-requires-clause-image
new_file-requires-clause-image c = (k (goal.at.new_file-requires-clause-image c).After-layout_then-then).image

pub new_file-requires-clause-taking : goal.new_file-requires-clause-taking
new_file-requires-clause-taking c =
    let at = (goal.at.new_file-requires-clause-taking c).After-layout_then-then in
    subst (λ m. IsTaking (K at) (M at) (n at) [] [] m (others at)) (sym (many at)) (taking at)

pub new_file-requires-clause-lowest : goal.new_file-requires-clause-lowest
new_file-requires-clause-lowest c =
    let at = (goal.at.new_file-requires-clause-lowest c).After-layout_then-then in
    blocks_are at ∙ ap (allocated_blocks (K at) (M at)) (sym (many at))

pub new_file-requires-clause-runs : goal.new_file-requires-clause-runs
new_file-requires-clause-runs c = c.as_slice-runs.ensures.value ∙ c.in-Ok.ensures.runs ∙ ap cut (sym c.as_slice-blocks.ensures.value)

pub new_file-requires-clause-header : goal.new_file-requires-clause-header
new_file-requires-clause-header c =
    let at = (goal.at.new_file-requires-clause-header c).After-layout_then-then in
    new_first (K at) (M at) (n at) c.args.who (M at).home.protection (new_id (K at) (M at) (n at)) c.args.name c.args.version c.args.count c.args.stamp c.new_header-header.result refl (header_is at)

pub returns-in-Ok-new_file : goal.returns-in-Ok-new_file
returns-in-Ok-new_file c = made (goal.at.returns-in-Ok-new_file c).After-layout_then-then (word (goal.at.returns-in-Ok-new_file c).After-as_slice-numbers c.new_id-file.result c.new_id-file.ensures) (applied c.args.disk.now.image.now c.in-Ok-new_file.draft) c.in-Ok-new_file.ensures

pub returns : goal.returns
returns c =
    refused_for_memory c.args.disk.now.image.now c.args.disk.now.layout.now c.args.who (Create c.args.name c.args.version c.args.count c.args.stamp) refl
    (λ C shown. no_fault c.args.disk.now.image.now c.args.disk.now.layout.now c.args.who c.args.name c.args.version c.args.count c.args.stamp c.if-count-gt65535.false C)
