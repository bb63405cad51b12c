use Rattle.std.proofs.Common.{◌≡◌, ◌+◌, ◌-◌, ◌*◌, ◌≤◌, List, ℕ, Some, length, take, drop, get_or, sym, ap, subst, ◌∙◌, arith}
use Rattle.std.specs.List.{All}
use Rattle.std.proofs.lemmas.List.{length-take}
use Rattle.std.proofs.lemmas.List.Elements.{All-take, All-drop}
use Rattle.ods_header.specs.declared.header.Run.{Run}
use Rattle.ods_header.specs.Header.{IsRun}
use Rattle.ods_space.specs.Layout.{place_of}
use Rattle.ods_space.specs.Draft.{Changes, applied}
use Rattle.ods_alloc.specs.Extension.{MakesHeaders, first_number, first_sequence}
use Rattle.ods_alloc.proofs.Places.{place_inside}
use Rattle.ods_alloc.proofs.NewHeaders.{none_made, one_made, free_has_place, made_block, rest_is, sequence_fits, still_sequence}
use Rattle.ods_alloc.proofs.chain.write_extensions.Goals as goal
use Rattle.ods_alloc.proofs.chain.write_extensions.Goals.{After-place, in-Some+in_ok-set, in_default}

pub loop-i-init : goal.loop-i-init
loop-i-init c = none_made (applied c.args.disk.now.image.now c.args.draft.now) c.args.disk.now.layout.now c.args.first.now (c.args.segment + 1) c.args.numbers.now c.args.runs.now

-- the sequence numbers of headers that are not written yet are what they were, so one more is a word
unwritten : (c : After-place) → (j : ℕ) → c.loop-i.i ≤ j
    → first_sequence (applied c.args.disk.now.image.now c.loop-i.draft) c.args.disk.now.layout.now (drop j c.args.numbers.now) ≡ first_sequence (applied c.args.disk.now.image.now c.args.draft.now) c.args.disk.now.layout.now (drop j c.args.numbers.now)
unwritten c j from =
    let I = c.args.disk.now.image.now in
    still_sequence (applied I c.args.draft.now) (applied I c.loop-i.draft) c.args.disk.now.layout.now c.args.first.now (c.args.segment + 1) c.args.numbers.now c.args.runs.now c.loop-i.i c.requires.places.places c.requires.rising c.loop-i.invariant j from

fits : (c : After-place) → (j : ℕ) → c.loop-i.i ≤ j
    → first_sequence (applied c.args.disk.now.image.now c.loop-i.draft) c.args.disk.now.layout.now (take (length c.args.numbers.now - j) (drop j c.args.numbers.now)) ≤ 65535
fits c j from =
    let J = applied c.args.disk.now.image.now c.loop-i.draft in
    let L = c.args.disk.now.layout.now in
    let numbers = c.args.numbers.now in
    omega (arith, ap (first_sequence J L) (rest_is numbers j), unwritten c j from, sequence_fits (applied c.args.disk.now.image.now c.args.draft.now) L numbers j c.requires.new)

pub first_id-file-requires-clause-few : goal.first_id-file-requires-clause-few
first_id-file-requires-clause-few c = fits (goal.at.first_id-file-requires-clause-few c).After-place c.loop-i.i (omega arith)

pub first_id-next-requires-clause-few : goal.first_id-next-requires-clause-few
first_id-next-requires-clause-few c = fits (goal.at.first_id-next-requires-clause-few c).After-place (c.loop-i.i + 1) (omega arith)

pub extension_block-block-requires-clause-few : goal.extension_block-block-requires-clause-few
extension_block-block-requires-clause-few c = omega (arith, ap length c.piece-pointers.ensures, length-take 102 (drop (102 * c.loop-i.i) c.args.runs.now))

pub extension_block-block-requires-clause-runs : goal.extension_block-block-requires-clause-runs
extension_block-block-requires-clause-runs c =
    let rs = c.args.runs.now in
    let P : List Run → Type 0 = λ l. All IsRun l in
    subst P (sym c.piece-pointers.ensures) (All-take IsRun 102 (drop (102 * c.loop-i.i) rs) (All-drop IsRun (102 * c.loop-i.i) rs c.requires.runs))

pub loop-i-preserved : goal.loop-i-preserved
loop-i-preserved c =
    let I = c.args.disk.now.image.now in
    let L = c.args.disk.now.layout.now in
    let k = c.loop-i.i in
    let numbers = c.args.numbers.now in
    let rs = c.args.runs.now in
    let x = get_or numbers k 0 in
    let K = applied I c.args.draft.now in
    let J = applied I c.loop-i.draft in
    let P : Changes → Type 0 = λ d. MakesHeaders K L c.args.first.now (c.args.segment + 1) numbers rs (k + 1) (applied I d) in
    let still = unwritten (goal.at.loop-i-preserved c).After-place in
    elim c.match-place.branch [
      | in-Some+in_ok-set w ↦
          let found : place_of L x ≡ Some w.in-Some.lbn = sym c.place.ensures ∙ w.in-Some.is in
          subst P (sym w.draft-is) (one_made I K c.loop-i.draft w.set.new.self L c.args.first.now (c.args.segment + 1) numbers rs k w.in-Some.lbn w.extension_block-block.result c.requires.places.places c.requires.rising
          c.loop-i-test.true (place_inside _ L x w.in-Some.lbn c.requires.places found) found w.in_ok-set.ensures.ok
          (λ f e. made_block K L f w.extension_block-block.result c.args.first.now w.first_id-file.result (c.args.segment + 1) _ w.first_id-next.result rs w.piece-pointers.result.now numbers k c.loop-i-test.true
          w.extension_block-block.ensures.fields w.extension_block-block.ensures.valid (w.extension_block-block.ensures.made f e) (omega arith)
          (w.first_id-file.ensures.number ∙ ap first_number (rest_is numbers k)) (w.first_id-file.ensures.sequence ∙ ap (first_sequence J L) (rest_is numbers k) ∙ still k (omega arith))
          (w.first_id-next.ensures.number ∙ ap first_number (rest_is numbers (k + 1))) (w.first_id-next.ensures.sequence ∙ ap (first_sequence J L) (rest_is numbers (k + 1)) ∙ still (k + 1) (omega arith)) w.piece-pointers.ensures)
          c.loop-i.invariant)
      | in_default w ↦
          let new = c.requires.new k 0 c.loop-i-test.true in
          absurd (free_has_place L x new.some new.last (sym c.place.ensures ∙ w.in_default.is))
    ]

pub returns : goal.returns
returns c =
    let I = c.args.disk.now.image.now in
    let P : ℕ → Type 0 = λ k. MakesHeaders (applied I c.args.draft.now) c.args.disk.now.layout.now c.args.first.now (c.args.segment + 1) c.args.numbers.now c.args.runs.now k (applied I c.loop-i.draft) in
    let all : c.loop-i.i ≡ length c.args.numbers.now = omega (arith, c.loop-i.auto.i-end, c.loop-i-test.false) in
    subst P all c.loop-i.invariant
