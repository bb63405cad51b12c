use Rattle.std.proofs.Common.{rules, ◌≡◌, ◌∙◌, ◌-◌, ◌<◌, ◌≤◌, suc, length, set, ap, sym, subst}
use Rattle.std.specs.Prelude.{slice_index}
use Rattle.std.proofs.lemmas.List.{get_or_read}
use Rattle.ods_base.specs.Overlay.{overlaid, IsOverlay}
use Rattle.ods_base.proofs.Overlays.{has_room, pushed_overlay, pushed_changed, renewed_changed}
use Rattle.ods_base.proofs.seats.put_block.Goals as goal
use Rattle.ods_base.proofs.seats.put_block.Goals.{After-index}

-- the seat that is read
read : (c : After-index) → c.index.result.now ≡ slice_index c.reach.new.seats.items c.args.at
read c = get_or_read c.reach.new.seats.items c.args.at c.index.result.now c.reach.ensures.reached c.index.ensures 0

room : (c : After-index) → c.index.result.now < 2 → length c.args.own.now.items ≤ c.args.count
room c free =
    has_room c.args.count c.args.seats.now.items c.reach.new.seats.items c.args.own.now.items c.args.at c.args.block.now c.requires.overlay c.reach.ensures.same c.requires.inside c.reach.ensures.reached
    (subst (λ s. s < 2) (read c) free)

pub push_reserved-requires : goal.push_reserved-requires
push_reserved-requires c = let few = room (goal.at.push_reserved-requires c).After-index c.if-seat-lt2.true in let enough = c.requires.room in search (rules, few, enough)

pub overflow_cast-len : goal.overflow_cast-len
overflow_cast-len c = let few = room (goal.at.overflow_cast-len c).After-index c.if-seat-lt2.true in let size = c.requires.small in search (rules, few, size)

pub returns-then-seat-lt2-clause-overlay : goal.returns-then-seat-lt2-clause-overlay
returns-then-seat-lt2-clause-overlay c =
    let last : c.len.result ≡ suc (length c.args.own.now.items) = search (rules) in
    subst (IsOverlay c.args.count (set c.reach.new.seats.items c.args.at c.len.result)) (sym c.push_reserved.ensures.items)
    (pushed_overlay c.args.count c.args.seats.now.items c.reach.new.seats.items c.args.own.now.items c.args.at c.args.block.now c.requires.overlay c.reach.ensures.same c.requires.inside c.reach.ensures.reached
    (subst (λ s. s < 2) (read (goal.at.returns-then-seat-lt2-clause-overlay c).After-index) c.if-seat-lt2.true) c.len.result last)

pub returns-then-seat-lt2-clause-changed : goal.returns-then-seat-lt2-clause-changed
returns-then-seat-lt2-clause-changed c B =
    let last : c.len.result ≡ suc (length c.args.own.now.items) = search (rules) in
    ap (overlaid B (set c.reach.new.seats.items c.args.at c.len.result)) c.push_reserved.ensures.items
    ∙ pushed_changed c.args.count c.args.seats.now.items c.reach.new.seats.items c.args.own.now.items c.args.at c.args.block.now c.requires.overlay c.reach.ensures.same c.requires.inside c.reach.ensures.reached
    (subst (λ s. s < 2) (read (goal.at.returns-then-seat-lt2-clause-changed c).After-index) c.if-seat-lt2.true) c.len.result last B

pub returns-else-seat-lt2-clause-changed : goal.returns-else-seat-lt2-clause-changed
returns-else-seat-lt2-clause-changed c B =
    let some : 1 < slice_index c.reach.new.seats.items c.args.at = search (rules, read (goal.at.returns-else-seat-lt2-clause-changed c).After-index) in
    ap (λ p. overlaid B c.reach.new.seats.items (set c.args.own.now.items (p - 1) c.args.block.now)) (read (goal.at.returns-else-seat-lt2-clause-changed c).After-index)
    ∙ renewed_changed c.args.count c.args.seats.now.items c.reach.new.seats.items c.args.own.now.items c.args.at c.args.block.now c.requires.overlay c.reach.ensures.same c.requires.inside c.reach.ensures.reached some B
