use Rattle.std.proofs.Common.{◌≡◌, ◌≤◌, ℕ, List, length, ap, sym, subst, ◌∙◌, arith}
use Rattle.ods_header.specs.Header.{IsLaidOut, room_of}
use Rattle.ods_space.specs.Chain.{IsChain, chain_blocks, headers_of, named_by}
use Rattle.ods_space.specs.Layout.{header_at}
use Rattle.ods_alloc.specs.Extend.{last_of}
use Rattle.ods_alloc.proofs.EndWalks.{passed_all, passed_few, passed_first, passed_next, walked, walked_few, walked_first, walked_last}
use Rattle.ods_alloc.proofs.end.ChainEnd.of.Goals as goal
use Rattle.ods_alloc.proofs.end.ChainEnd.of.Goals.{After-from-headers, In_default}

pub loop-at-init : goal.loop-at-init
loop-at-init c =
    let has = c.requires.whole in
    passed_first (c.args.number, c.args.first.now) (headers_of c.args.disk.now.image.now c.args.disk.now.layout.now c.args.number) c.from-headers.result c.from-headers.ensures
    (subst IsLaidOut (sym c.requires.first) (walked_first c.args.disk.now.image.now c.args.disk.now.layout.now c.args.number has.0 has.1 c.len.ensures.image c.requires.layout has.2))

-- the headers of the chain are few, and so are their blocks
few : (c : After-from-headers) → (length (headers_of c.args.disk.now.image.now c.args.disk.now.layout.now c.args.number) ≤ 256) × (length (named_by (headers_of c.args.disk.now.image.now c.args.disk.now.layout.now c.args.number)) ≤ chain_blocks)
few c =
    let has = c.requires.whole in
    walked_few c.args.disk.now.image.now c.args.disk.now.layout.now c.args.number has.0 has.1 c.len.ensures.image c.requires.layout has.2

pub overflow_add-count : goal.overflow_add-count
overflow_add-count c =
    let w = c.loop-at in
    let met = (passed_few (c.args.number, c.args.first.now) (headers_of c.args.disk.now.image.now c.args.disk.now.layout.now c.args.number) w.headers w.count w.blocks (w.end, w.last.now) w.invariant).0 in
    let most = (few (goal.at.overflow_add-count c).After-from-headers).0 in
    omega (arith, met, most)

pub overflow_add-blocks : goal.overflow_add-blocks
overflow_add-blocks c =
    let w = c.loop-at in
    let met = (passed_few (c.args.number, c.args.first.now) (headers_of c.args.disk.now.image.now c.args.disk.now.layout.now c.args.number) w.headers w.count w.blocks (w.end, w.last.now) w.invariant).1 in
    let most = (few (goal.at.overflow_add-blocks c).After-from-headers).1 in
    let more = c.pointer_sum-blocks.ensures.few in
    omega (arith, met, most, more)

pub loop-at-preserved : goal.loop-at-preserved
loop-at-preserved c =
    let w = c.loop-at in
    passed_next (c.args.number, c.args.first.now) (headers_of c.args.disk.now.image.now c.args.disk.now.layout.now c.args.number) w.headers w.count w.blocks (w.end, w.last.now) w.invariant
    (c.in-Some.at, c.in-Some.header.now) c.next.new.self c.pointer_sum-blocks.result c.in-Some.ensures.some.0 c.pointer_sum-blocks.ensures.count c.in-Some.ensures.some.1.header.layout

all : (c : In_default) → (c.loop-at.count ≡ length (headers_of c.args.disk.now.image.now c.args.disk.now.layout.now c.args.number)) × (c.loop-at.blocks ≡ length (named_by (headers_of c.args.disk.now.image.now c.args.disk.now.layout.now c.args.number)))
    × ((others blocks : List ℕ) → IsChain c.args.disk.now.image.now c.args.disk.now.layout.now c.args.number others blocks → ◌≡◌ {A = ℕ × List ℕ} (c.loop-at.end, c.loop-at.last.now) (last_of c.args.number others, header_at c.args.disk.now.image.now c.args.disk.now.layout.now (last_of c.args.number others)))
all c =
    let w = c.loop-at in
    let a = passed_all (c.args.number, c.args.first.now) (headers_of c.args.disk.now.image.now c.args.disk.now.layout.now c.args.number) w.headers w.count w.blocks (w.end, w.last.now) w.invariant c.in_default.ensures.none in
    (a.0, a.1, λ others blocks chain. a.2 ∙ walked_last c.args.disk.now.image.now c.args.disk.now.layout.now c.args.number others blocks (c.args.number, c.args.first.now) c.len.ensures.image c.requires.layout chain)

pub returns-clause-end : goal.returns-clause-end
returns-clause-end c = λ others blocks whole.
    let I = c.args.disk.now.image.now in
    let L = c.args.disk.now.layout.now in
    let a = all (goal.at.returns-clause-end c).In_default in
    let b = walked I L c.args.number others blocks c.len.ensures.image c.requires.layout whole in
    (a.0 ∙ b.0, a.1 ∙ b.1, c.room_words.ensures ∙ ap (λ h. room_of h.1) (a.2 others blocks whole.chain))

pub returns-clause-few : goal.returns-clause-few
returns-clause-few c = let is = (all (goal.at.returns-clause-few c).In_default).0 in let most = (few (goal.at.returns-clause-few c).After-from-headers).0 in omega (arith, is, most)

pub returns-clause-small : goal.returns-clause-small
returns-clause-small c = let is = (all (goal.at.returns-clause-small c).In_default).1 in let most = (few (goal.at.returns-clause-small c).After-from-headers).1 in omega (arith, is, most)

pub returns-clause-last : goal.returns-clause-last
returns-clause-last c =
    let a = all (goal.at.returns-clause-last c).In_default in
    let has = c.requires.whole in
    let is = a.2 has.0 has.1 has.2.chain in
    record {
      number = λ others blocks chain. ap (λ h. h.0) (a.2 others blocks chain);
      last = ap (λ h. h.1) is ∙ ap (header_at c.args.disk.now.image.now c.args.disk.now.layout.now) (sym (ap (λ h. h.0) is));
    }

pub room_words-requires : goal.room_words-requires
room_words-requires c = c.loop-at.invariant.laid_out
