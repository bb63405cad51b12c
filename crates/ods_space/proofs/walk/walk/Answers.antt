use Rattle.std.proofs.Common.{◌≡◌, ◌+◌, ◌++◌, [], refl, sym, ◌∙◌, arith}
use Rattle.ods_header.specs.Header.{next_number_of, blocks_of}
use Rattle.ods_space.proofs.Walks.{walk_none, walk_no_first, walk_last, walk_reached_last, walk_next, walk_end, walk_reached_end, few_more}
use Rattle.ods_space.proofs.walk.walk.Goals as goal

pub returns-in_default-clause-whole : goal.returns-in_default-clause-whole
returns-in_default-clause-whole g c others blocks chain =
    walk_none c.args.image.now c.args.home.now (g.N.Notes.placed_by c.args.notes.now) c.args.number c.most.result c.known_index.result.now (c.known_index.ensures c.args.notes.now [] c.requires) (c.most.ensures c.args.notes.now [] c.requires) c.in_default.ensures.none blocks (others, chain)

pub returns-then-next_number-eq0-clause-whole : goal.returns-then-next_number-eq0-clause-whole
returns-then-next_number-eq0-clause-whole g c =
    let w = c.loop-segment.invariant.way in
    let noted = c.in_default-note.ensures c.args.notes.now w.front w.noted in
    let all = w.front ++ blocks_of c.loop-segment.block.now in
    let last : next_number_of c.loop-segment.block.now ≡ 0 = sym c.next_number.ensures ∙ c.if-next_number-eq0.true in
    let leads = walk_last c.args.image.now c.args.home.now (g.N.Notes.placed_by c.args.notes.now) c.args.number c.most.result c.known_index.result.now
    w.front c.loop-segment.segment w.here c.loop-segment.block.now w.at all refl last in
    (leads.0, all, leads.1, noted)

pub loop-segment-preserved : goal.loop-segment-preserved
loop-segment-preserved g c =
    let w = c.loop-segment.invariant.way in
    let index = g.N.Notes.placed_by c.args.notes.now in
    let all = w.front ++ blocks_of c.loop-segment.block.now in
    let noted = c.in_default-note.ensures c.args.notes.now w.front w.noted in
    let link = c.in-Some-next_block.ensures.some in
    record {
      short = link.2;
      way = record {
        front = all;
        here = next_number_of c.loop-segment.block.now;
        at = walk_next c.args.image.now c.args.home.now index c.args.number c.most-most.result c.known_index-in-loop-segment.result.now w.front c.loop-segment.segment w.here c.loop-segment.block.now w.at
            all refl c.in-Some-next_block.next.now (c.loop-segment.segment + 1) (omega arith) (c.known_index-in-loop-segment.ensures c.args.notes.now all noted) (c.most-most.ensures c.args.notes.now all noted)
            (λ e. c.if-next_number-eq0.false (c.next_number.ensures ∙ e)) link.0 link.1;
        noted = noted;
        few = few_more c.args.image.now c.args.home.now index c.args.number (g.N.Notes.has c.args.notes.now c.loop-segment.notes) c.loop-segment.segment c.loop-segment.block.now c.len.ensures.image w;
      };
    }

pub returns-in_default-next_block-clause-whole : goal.returns-in_default-next_block-clause-whole
returns-in_default-next_block-clause-whole g c others blocks chain =
    let w = c.loop-segment.invariant.way in
    let index = g.N.Notes.placed_by c.args.notes.now in
    let all = w.front ++ blocks_of c.loop-segment.block.now in
    let noted = c.in_default-note.ensures c.args.notes.now w.front w.noted in
    walk_end c.args.image.now c.args.home.now index c.args.number c.most-most.result c.known_index-in-loop-segment.result.now w.front c.loop-segment.segment w.here c.loop-segment.block.now w.at
    all refl (c.loop-segment.segment + 1) (omega arith) (c.known_index-in-loop-segment.ensures c.args.notes.now all noted) (c.most-most.ensures c.args.notes.now all noted)
    (λ e. c.if-next_number-eq0.false (c.next_number.ensures ∙ e)) c.in_default-next_block.ensures.none blocks (others, chain)

pub returns-in_default-clause-reached : goal.returns-in_default-clause-reached
returns-in_default-clause-reached g c first =
    absurd (walk_no_first c.args.image.now c.args.home.now (g.N.Notes.placed_by c.args.notes.now) c.args.number c.most.result c.known_index.result.now (c.known_index.ensures c.args.notes.now [] c.requires) (c.most.ensures c.args.notes.now [] c.requires) c.in_default.ensures.none first)

pub returns-then-next_number-eq0-clause-reached : goal.returns-then-next_number-eq0-clause-reached
returns-then-next_number-eq0-clause-reached g c first =
    let w = c.loop-segment.invariant.way in
    let noted = c.in_default-note.ensures c.args.notes.now w.front w.noted in
    let all = w.front ++ blocks_of c.loop-segment.block.now in
    let last : next_number_of c.loop-segment.block.now ≡ 0 = sym c.next_number.ensures ∙ c.if-next_number-eq0.true in
    let reached = walk_reached_last c.args.image.now c.args.home.now (g.N.Notes.placed_by c.args.notes.now) c.args.number c.most.result c.known_index.result.now
    w.front c.loop-segment.segment w.here c.loop-segment.block.now w.at all refl last in
    let few = few_more c.args.image.now c.args.home.now (g.N.Notes.placed_by c.args.notes.now) c.args.number (g.N.Notes.has c.args.notes.now c.loop-segment.notes) c.loop-segment.segment c.loop-segment.block.now c.len.ensures.image w in
    let short = c.loop-segment.invariant.short in
    (all, reached, noted, omega (arith, few, short))

pub returns-in_default-next_block-clause-reached : goal.returns-in_default-next_block-clause-reached
returns-in_default-next_block-clause-reached g c first =
    let w = c.loop-segment.invariant.way in
    let index = g.N.Notes.placed_by c.args.notes.now in
    let all = w.front ++ blocks_of c.loop-segment.block.now in
    let noted = c.in_default-note.ensures c.args.notes.now w.front w.noted in
    let reached = walk_reached_end c.args.image.now c.args.home.now index c.args.number c.most-most.result c.known_index-in-loop-segment.result.now w.front c.loop-segment.segment w.here c.loop-segment.block.now w.at
    all refl (c.loop-segment.segment + 1) (omega arith) (c.known_index-in-loop-segment.ensures c.args.notes.now all noted) (c.most-most.ensures c.args.notes.now all noted)
    (λ e. c.if-next_number-eq0.false (c.next_number.ensures ∙ e)) c.in_default-next_block.ensures.none in
    let few = few_more c.args.image.now c.args.home.now (g.N.Notes.placed_by c.args.notes.now) c.args.number (g.N.Notes.has c.args.notes.now c.loop-segment.notes) c.loop-segment.segment c.loop-segment.block.now c.len.ensures.image w in
    let short = c.loop-segment.invariant.short in
    (all, reached, noted, omega (arith, few, short))
