use Rattle.std.proofs.Common.{◌≡◌, ◌≢◌, ℕ, ◌+◌, ◌/◌, ◌<◌, ◌≤◌, [], ap, sym, ◌∙◌, subst, inl, inr, List, length, take, drop, get_or, refl, arith}
use Rattle.std.specs.List.{All, Contains}
use Rattle.std.proofs.lemmas.List.{length-drop, length-take}
use Rattle.std.proofs.lemmas.List.Elements.{Contains-get_or}
use Rattle.ods_base.specs.Image.{IsImage}
use Rattle.ods_header.specs.Header.{IsValidHeader, room_of}
use Rattle.ods_space.specs.Draft.{applied}
use Rattle.ods_space.specs.Free.{free_blocks}
use Rattle.ods_space.specs.Layout.{VolumeLayout, header_at, with_places}
use Rattle.ods_space.proofs.Drafts.{applied_none}
use Rattle.ods_alloc.specs.Extend.{cut}
use Rattle.ods_alloc.specs.Zeroed.{AppendsBlocks}
use Rattle.ods_alloc.proofs.FreeTests.{free_inside}
use Rattle.ods_state.specs.IndexGrowth.{CanGrowIndex}
use Rattle.ods_state.specs.Wants.{index_end}
use Rattle.ods_state.proofs.Bookkeeping.{bitmap_holds, index_holds, well_placed}
use Rattle.ods_state.proofs.IndexEnd.{end_valid}
use Rattle.ods_state.proofs.IndexGrown.{new_free, new_not_held}
use Rattle.ods_state.proofs.GrownMoves.{no_places}
use Rattle.ods_state.proofs.Rising.{stands_at}
use Rattle.ods_change.specs.Taking.{HasPlaces}
use Rattle.ods_change.proofs.Begun.{can_grow_by}
use Rattle.ods_change.proofs.AllocatingBlocks.{cut_few}
use Rattle.ods_change.proofs.beginning.begin.Goals as goal
use Rattle.ods_change.proofs.beginning.begin.Goals.{After-as_slice}

pub returns-then-growth-eq0-clause-ok : goal.returns-then-growth-eq0-clause-ok
returns-then-growth-eq0-clause-ok c =
    let F = free_blocks c.args.disk.now.image.now c.args.disk.now.layout.now in
    let none : c.args.growth ≡ 0 = c.if-growth-eq0.true in
    let places : c.still-still.result.places.items ≡ [] = c.still-still.ensures.places in
    record {
      are = places ∙ sym (ap (λ k. take k (drop (length c.args.lowest.now) F)) none);
      enough = omega (arith, none, ap length c.requires.lowest, length-take (length c.args.lowest.now) F);
      room = omega (arith, cut_few c.still-still.result.places.items, ap length places);
    }

pub returns-then-growth-eq0-clause-begun : goal.returns-then-growth-eq0-clause-begun
returns-then-growth-eq0-clause-begun c =
    let I = c.args.disk.now.image.now in
    let same : applied I c.still-still.result.draft ≡ I = ap (applied I) (c.still-still.ensures.draft ∙ c.new.ensures) ∙ sym (applied_none I) in
    let none : c.still-still.result.places.items ≡ [] = c.still-still.ensures.places in
    record {
      layout = sym (no_places c.args.disk.now.layout.now c.still-still.result.places.items none);
      image = subst IsImage (sym same) c.len.ensures.image;
      blocks = inl (none, same);
    }

-- the blocks that are picked
module _ (c : After-as_slice) where
  abbrev I : List (List ℕ)
  I = c.args.disk.now.image.now

  abbrev L : VolumeLayout
  L = c.args.disk.now.layout.now

  abbrev places : List ℕ
  places = c.in-Ok.places.items

  runs_are : length c.as_slice.result.now ≡ length (cut places)
  runs_are = ap length (c.as_slice.ensures.value ∙ c.in-Ok-runs_of_blocks.ensures.cut ∙ ap cut c.deref.ensures.value)

  has : length c.as_slice.result.now ≤ c.index_end-end.result.room / 2 → HasPlaces I L (length c.args.lowest.now) c.args.growth places
  has fits = record {
    are = c.in-Ok.ensures.ok.0;
    enough = c.in-Ok.ensures.ok.1;
    room = omega (arith, fits, c.index_end-end.ensures.room, runs_are);
  }

  can : length c.as_slice.result.now ≤ c.index_end-end.result.room / 2 → CanGrowIndex I L places
  can fits = can_grow_by (length c.args.lowest.now) c.args.growth c.requires.sound (has fits) c.requires.most

pub returns-then-room-as_slice-clause-err : goal.returns-then-room-as_slice-clause-err
returns-then-room-as_slice-clause-err c =
    let full = c.if-room-as_slice.true in
    let at = (goal.at.returns-then-room-as_slice-clause-err c).After-as_slice in
    inr (refl, inr (omega (arith, full, c.index_end-end.ensures.room, runs_are at, ap (λ l. length (cut l)) c.in-Ok.ensures.ok.0)))

pub grow_index-requires-clause-places : goal.grow_index-requires-clause-places
grow_index-requires-clause-places c = well_placed c.args.disk.now.image.now c.args.disk.now.layout.now c.requires.sound

pub grow_index-requires-clause-last : goal.grow_index-requires-clause-last
grow_index-requires-clause-last c =
    let I = c.args.disk.now.image.now in
    let L = c.args.disk.now.layout.now in
    let e = c.index_end-end.ensures in
    record {
      is = e.last ∙ ap (header_at I L) (sym e.number);
      valid = subst (λ b. IsValidHeader b c.index_end-end.result.number) (sym e.last) (subst (IsValidHeader (header_at I L (index_end I L))) (sym e.number) (end_valid I L c.len.ensures.image c.requires.sound));
    }

pub grow_index-requires-clause-runs : goal.grow_index-requires-clause-runs
grow_index-requires-clause-runs c = c.deref-3.ensures.value ∙ c.in-Ok-runs_of_blocks.ensures.cut ∙ ap cut (c.deref.ensures.value ∙ sym c.deref-2.ensures.value)

pub grow_index-requires-clause-room : goal.grow_index-requires-clause-room
grow_index-requires-clause-room c =
    let at = (goal.at.grow_index-requires-clause-room c).After-as_slice in
    let fits = (has at (omega (arith, c.if-room-as_slice.false))).room in
    subst (λ l. length (cut l) ≤ room_of c.index_end-end.result.last.now / 2) (sym c.deref-2.ensures.value)
    (subst (λ b. length (cut c.in-Ok.places.items) ≤ room_of b / 2) (sym c.index_end-end.ensures.last) fits)

pub grow_index-requires-clause-inside : goal.grow_index-requires-clause-inside
grow_index-requires-clause-inside c =
    let I = c.args.disk.now.image.now in
    let can_now = can (goal.at.grow_index-requires-clause-inside c).After-as_slice (omega (arith, c.if-room-as_slice.false)) in
    subst (All (λ b. b < length I)) (sym c.deref-2.ensures.value) (λ i d low.
    let x : ℕ = get_or c.in-Ok.places.items i d in
    free_inside I c.args.disk.now.layout.now x (new_free can_now x (Contains-get_or c.in-Ok.places.items i d low)))

pub grow_index-requires-clause-apart : goal.grow_index-requires-clause-apart
grow_index-requires-clause-apart c = λ b among.
    let I = c.args.disk.now.image.now in
    let L = c.args.disk.now.layout.now in
    let S = c.requires.sound in
    let can_now = can (goal.at.grow_index-requires-clause-apart c).After-as_slice (omega (arith, c.if-room-as_slice.false)) in
    let own = subst (λ l. Contains l b) c.deref-2.ensures.value among in (
      λ held. let at = stands_at L.index b held in new_not_held S can_now 1 (at.0 + 1) b (index_holds I L S at.0 b at.1) own,
      λ held. let at = stands_at L.bitmap b held in new_not_held S can_now 2 (at.0 + 1) b (bitmap_holds I L S at.0 b at.1) own,
    )

pub returns-clause-ok : goal.returns-clause-ok
returns-clause-ok c = has (goal.at.returns-clause-ok c).After-as_slice (omega (arith, c.if-room-as_slice.false))

pub returns-clause-begun : goal.returns-clause-begun
returns-clause-begun c =
    let I = c.args.disk.now.image.now in
    let L = c.args.disk.now.layout.now in
    let places = c.in-Ok.places.items in
    let made = applied I c.in-Ok-grow_index.draft in
    let F = free_blocks I L in
    let enough = c.in-Ok.ensures.ok.1 in
    let long : length places ≡ c.args.growth = omega (arith, enough, ap length c.in-Ok.ensures.ok.0, length-take c.args.growth (drop (length c.args.lowest.now) F), length-drop (length c.args.lowest.now) F) in
    let some : places ≢ [] = (λ none. absurd (omega (arith, long, ap length none, c.if-growth-eq0.false))) in
    record {
      layout = c.grow.ensures ∙ (λ i. with_places (c.in-Ok-copy.ensures i) (c.deref-4.ensures.value i));
      image = c.in-Ok-grow_index.ensures.image;
      blocks = inr (
        some,
        subst (λ n. AppendsBlocks I L n places made) c.index_end-end.ensures.number
            (subst (λ l. AppendsBlocks I L c.index_end-end.result.number l made) c.deref-2.ensures.value c.in-Ok-grow_index.ensures.appends),
      );
    }
