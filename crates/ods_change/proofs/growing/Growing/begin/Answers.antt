use Rattle.std.proofs.Common.{◌≡◌, ◌<◌, ◌≤◌, ℕ, List, Some, length, take, sym, ap, ◌∙◌, inl, inr, subst, arith}
use Rattle.std.proofs.lemmas.List.{length-take-le}
use Rattle.ods_space.specs.Free.{free_blocks, open_numbers}
use Rattle.ods_alloc.specs.Extend.{cut}
use Rattle.ods_state.specs.Wants.{count_for, index_growth, numbers_for}
use Rattle.ods_change.specs.Taking.{HasPlaces, LacksPlaces}
use Rattle.ods_change.proofs.AllocatingBlocks.{cut_few, lacks_blocks, lacks_none, lacks_numbers, lacks_places, lacks_segments, short_blocks, short_numbers, wanted_is, within_most}
use Rattle.ods_change.proofs.growing.Growing.begin.Goals as goal
use Rattle.ods_change.proofs.growing.Growing.begin.Goals.{After-headers_wanted-needed, After-index_growth-growth}

pub returns-in-Err-clause-err : goal.returns-in-Err-clause-err
returns-in-Err-clause-err c =
    let I = c.args.disk.now.image.now in
    let L = c.args.disk.now.layout.now in
    elim (short_blocks c.in-Err.fault (length (free_blocks I L)) c.args.count c.in-Err.ensures.err) [
      | inl none ↦ inl (c.refusal_for.ensures ∙ none)
      | inr few ↦ inr (lacks_blocks I L c.args.headers c.args.room c.args.count few.1 ∙ ap Some (sym (c.refusal_for.ensures ∙ few.0)))
    ]

pub headers_wanted-needed-requires : goal.headers_wanted-needed-requires
headers_wanted-needed-requires c =
    let runs = ap length (c.as_slice.ensures.value ∙ c.in-Ok-runs_of_blocks.ensures.cut) in
    let few = cut_few c.deref.result.now in
    let got = c.in-Ok.ensures.ok in
    let long = ap length (c.deref.ensures.value ∙ got.0) ∙ length-take-le c.args.count (free_blocks c.args.disk.now.image.now c.args.disk.now.layout.now) got.1 in
    let most = c.ranges.count.fits in
    omega (arith, runs, few, long, most)

-- how many numbers are asked for
needed_is : (c : After-headers_wanted-needed) → c.headers_wanted-needed.result ≡ count_for c.args.disk.now.image.now c.args.disk.now.layout.now c.args.headers c.args.room c.args.count
needed_is c =
    wanted_is c.args.disk.now.image.now c.args.disk.now.layout.now c.args.headers c.args.room c.args.count c.headers_wanted-needed.result c.deref.result.now c.as_slice.result.now (c.deref.ensures.value ∙ c.in-Ok.ensures.ok.0)
    (c.as_slice.ensures.value ∙ c.in-Ok-runs_of_blocks.ensures.cut) c.headers_wanted-needed.ensures.wanted

pub returns-in-Err-pick_open_numbers-clause-err : goal.returns-in-Err-pick_open_numbers-clause-err
returns-in-Err-pick_open_numbers-clause-err c =
    let I = c.args.disk.now.image.now in
    let L = c.args.disk.now.layout.now in
    elim (short_numbers c.in-Err-pick_open_numbers.fault (length (open_numbers I L)) c.headers_wanted-needed.result c.in-Err-pick_open_numbers.ensures.err) [
      | inl none ↦ inl (c.refusal_for-in-Err-pick_open_numbers.ensures ∙ none)
      | inr few ↦ inr (
          lacks_numbers I L c.args.headers c.args.room c.args.count c.in-Ok.ensures.ok.1 (subst (λ n. length (open_numbers I L) < n) (needed_is (goal.at.returns-in-Err-pick_open_numbers-clause-err c).After-headers_wanted-needed) few.1)
          ∙ ap Some (sym (c.refusal_for-in-Err-pick_open_numbers.ensures ∙ few.0)))
    ]

-- the blocks that INDEXF.SYS gets, for the numbers that are taken
numbers_are : (c : After-headers_wanted-needed) → (numbers given : List ℕ) → numbers ≡ take c.headers_wanted-needed.result (open_numbers c.args.disk.now.image.now c.args.disk.now.layout.now) → given ≡ numbers
    → given ≡ numbers_for c.args.disk.now.image.now c.args.disk.now.layout.now c.args.headers c.args.room c.args.count
numbers_are c numbers given picked is = is ∙ picked ∙ ap (λ n. take n (open_numbers c.args.disk.now.image.now c.args.disk.now.layout.now)) (needed_is c)

many_blocks : (c : After-index_growth-growth) → length c.in-Ok.blocks.items ≡ c.args.count
many_blocks c = let got = c.in-Ok.ensures.ok in ap length got.0 ∙ length-take-le c.args.count (free_blocks c.args.disk.now.image.now c.args.disk.now.layout.now) got.1

pub begin-requires-clause-lowest : goal.begin-requires-clause-lowest
begin-requires-clause-lowest c =
    let F = free_blocks c.args.disk.now.image.now c.args.disk.now.layout.now in
    let same = c.deref-3.ensures.value in
    same ∙ c.in-Ok.ensures.ok.0 ∙ ap (λ k. take k F) (sym (ap length same ∙ many_blocks (goal.at.begin-requires-clause-lowest c).After-index_growth-growth))

pub begin-requires-clause-most : goal.begin-requires-clause-most
begin-requires-clause-most c =
    within_most c.args.disk.now.image.now c.args.disk.now.layout.now c.headers_wanted-needed.result c.index_growth-growth.result c.in-Ok-pick_open_numbers.numbers.items c.deref-2.result.now
    c.in-Ok-pick_open_numbers.ensures.ok.0 c.deref-2.ensures.value c.index_growth-growth.ensures.growth

-- what is said of the blocks and numbers that are there is said of those that are taken
as_taken : (c : After-index_growth-growth) (P : ℕ → ℕ → Type 0) (blocks numbers : List ℕ) → blocks ≡ c.in-Ok.blocks.items → c.deref-2.result.now ≡ numbers → P (length blocks) c.index_growth-growth.result
    → P c.args.count (index_growth c.args.disk.now.layout.now numbers)
as_taken c P blocks numbers same given p =
    subst (P c.args.count) (c.index_growth-growth.ensures.growth ∙ ap (index_growth c.args.disk.now.layout.now) given)
    (subst (λ k. P k c.index_growth-growth.result) (ap length same ∙ many_blocks c) p)

pub returns-in-Err-begin-clause-err : goal.returns-in-Err-begin-clause-err
returns-in-Err-begin-clause-err c =
    let I = c.args.disk.now.image.now in
    let L = c.args.disk.now.layout.now in
    let at = goal.at.returns-in-Err-begin-clause-err c in
    let same = numbers_are at.After-headers_wanted-needed c.in-Ok-pick_open_numbers.numbers.items c.deref-2.result.now c.in-Ok-pick_open_numbers.ensures.ok.0 c.deref-2.ensures.value in
    elim c.in-Err-begin.ensures.err [
      | inl none ↦ inl none
      | inr lacks ↦ inr (
          lacks_places I L c.args.headers c.args.room c.args.count c.in-Ok.ensures.ok.1
          (as_taken at.After-index_growth-growth (LacksPlaces I L) c.deref-3.result.now (numbers_for I L c.args.headers c.args.room c.args.count) c.deref-3.ensures.value same lacks.1)
          ∙ ap Some (sym lacks.0))
    ]

pub returns-then-headers-needed-gt-CHAIN_HEADERS-clause-err : goal.returns-then-headers-needed-gt-CHAIN_HEADERS-clause-err
returns-then-headers-needed-gt-CHAIN_HEADERS-clause-err c = inr (
    let I = c.args.disk.now.image.now in
    let L = c.args.disk.now.layout.now in
    let at = goal.at.returns-then-headers-needed-gt-CHAIN_HEADERS-clause-err c in
    let needed = needed_is at.After-headers_wanted-needed in
    let same = numbers_are at.After-headers_wanted-needed c.in-Ok-pick_open_numbers.numbers.items c.deref-2.result.now c.in-Ok-pick_open_numbers.ensures.ok.0 c.deref-2.ensures.value in
    let many = c.if-headers-needed-gt-CHAIN_HEADERS.true in
    let places = c.in-Ok-begin.begun.0.places.items in
    lacks_segments I L c.args.headers c.args.room c.args.count c.in-Ok.ensures.ok.1 (subst (λ n. n ≤ length (open_numbers I L)) needed c.in-Ok-pick_open_numbers.ensures.ok.1) places
    (as_taken at.After-index_growth-growth (λ k g. HasPlaces I L k g places) c.deref-3.result.now (numbers_for I L c.args.headers c.args.room c.args.count) c.deref-3.ensures.value same c.in-Ok-begin.ensures.ok) (omega (arith, many, needed)))

pub returns-clause-ok : goal.returns-clause-ok
returns-clause-ok c =
    let I = c.args.disk.now.image.now in
    let L = c.args.disk.now.layout.now in
    let at = goal.at.returns-clause-ok c in
    let needed = needed_is at.After-headers_wanted-needed in
    let same = numbers_are at.After-headers_wanted-needed c.in-Ok-pick_open_numbers.numbers.items c.deref-2.result.now c.in-Ok-pick_open_numbers.ensures.ok.0 c.deref-2.ensures.value in
    let few = c.if-headers-needed-gt-CHAIN_HEADERS.false in
    let places = c.in-Ok-begin.begun.0.places.items in
    let has = as_taken at.After-index_growth-growth (λ k g. HasPlaces I L k g places) c.deref-3.result.now (numbers_for I L c.args.headers c.args.room c.args.count) c.deref-3.ensures.value same c.in-Ok-begin.ensures.ok in record {
      blocks = c.in-Ok.ensures.ok.0;
      numbers = c.in-Ok-pick_open_numbers.ensures.ok.0 ∙ ap (λ n. take n (open_numbers I L)) needed;
      places = has.are;
      enough = lacks_none I L c.args.headers c.args.room c.args.count c.in-Ok.ensures.ok.1 (subst (λ n. n ≤ length (open_numbers I L)) needed c.in-Ok-pick_open_numbers.ensures.ok.1) places has (omega (arith, few, needed));
    }

pub returns-clause-runs : goal.returns-clause-runs
returns-clause-runs c = c.in-Ok-runs_of_blocks.ensures.cut ∙ ap cut c.deref.ensures.value

pub returns-clause-few : goal.returns-clause-few
returns-clause-few c =
    let few = c.if-headers-needed-gt-CHAIN_HEADERS.false in
    let got = c.in-Ok-pick_open_numbers.ensures.ok in
    omega (arith, few, ap length got.0 ∙ length-take-le c.headers_wanted-needed.result (open_numbers c.args.disk.now.image.now c.args.disk.now.layout.now) got.1)
