use Rattle.std.proofs.Common.{◌≡◌, ap, sym, ◌∙◌}
use Rattle.ods_header.specs.Header.{room_of}
use Rattle.ods_space.specs.Layout.{header_at}
use Rattle.ods_space.proofs.Wholes.{chain_seen}
use Rattle.ods_alloc.specs.Extend.{last_of}
use Rattle.ods_state.specs.Wants.{index_end}
use Rattle.ods_change.proofs.beginning.index_end.Goals as goal
use Rattle.ods_change.proofs.beginning.index_end.Goals.{After-of}

pub of-requires-clause-whole : goal.of-requires-clause-whole
of-requires-clause-whole c = (c.requires.index.others, c.args.disk.now.layout.now.index, c.requires.index.whole)

-- the headers that are walked along are those of the chain
is_end : (c : After-of) → index_end c.args.disk.now.image.now c.args.disk.now.layout.now ≡ last_of 1 c.requires.index.others
is_end c =
    let own = c.requires.index in
    ap (last_of 0) (chain_seen c.args.disk.now.image.now c.args.disk.now.layout.now 1 own.others c.args.disk.now.layout.now.index c.len.ensures.image c.requires own.whole.chain).numbers

number_is : (c : After-of) → c.of.result.number ≡ index_end c.args.disk.now.image.now c.args.disk.now.layout.now
number_is c = let own = c.requires.index in c.of.ensures.last.number own.others c.args.disk.now.layout.now.index own.whole.chain ∙ sym (is_end c)

pub returns-clause-number : goal.returns-clause-number
returns-clause-number c = number_is (goal.at.returns-clause-number c).After-of

pub returns-clause-last : goal.returns-clause-last
returns-clause-last c = c.of.ensures.last.last ∙ ap (header_at c.args.disk.now.image.now c.args.disk.now.layout.now) (number_is (goal.at.returns-clause-last c).After-of)

pub returns-clause-room : goal.returns-clause-room
returns-clause-room c =
    let own = c.requires.index in
    (c.of.ensures.end own.others c.args.disk.now.layout.now.index own.whole).2
    ∙ ap (λ n. room_of (header_at c.args.disk.now.image.now c.args.disk.now.layout.now n)) (sym (is_end (goal.at.returns-clause-room c).After-of))
