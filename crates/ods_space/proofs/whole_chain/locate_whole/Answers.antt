use Rattle.std.proofs.Common.{◌-◌, ap, slice_get, sym, ◌∙◌, arith}
use Rattle.ods_space.proofs.Onward.{named_all}
use Rattle.ods_space.proofs.Surveyed.{not_held}
use Rattle.ods_space.proofs.Located.{named_within, named_behind, none_named, held_there}
use Rattle.ods_space.proofs.whole_chain.locate_whole.Goals as goal

pub returns-then-index-count-clause-found : goal.returns-then-index-count-clause-found
returns-then-index-count-clause-found c =
    let whole = c.requires.whole in
    let all = named_all c.args.disk.now.image.now c.args.disk.now.layout.now c.args.number whole.0 c.len.ensures.image c.requires.layout whole.1 in
    let here = named_within c.loop-header.headers c.next.new.self (c.in-Some.field-0-0, c.in-Some.header.now) c.in-Some.ensures.some.0 c.pointer_sum-count.result c.pointer_sum-count.ensures.count c.loop-header.index (omega arith) in
    held_there c.args.disk.now.image.now c.args.disk.now.layout.now c.args.number c.args.vbn c.mapped_block.result whole.0 whole.1 (omega arith)
    (c.mapped_block.ensures ∙ sym (ap (λ l. slice_get l (c.args.vbn - 1)) all ∙ c.loop-header.invariant ∙ here))

pub returns-then-index-count-clause-none : goal.returns-then-index-count-clause-none
returns-then-index-count-clause-none c =
    let whole = c.requires.whole in
    let all = named_all c.args.disk.now.image.now c.args.disk.now.layout.now c.args.number whole.0 c.len.ensures.image c.requires.layout whole.1 in
    let here = named_within c.loop-header.headers c.next.new.self (c.in-Some.field-0-0, c.in-Some.header.now) c.in-Some.ensures.some.0 c.pointer_sum-count.result c.pointer_sum-count.ensures.count c.loop-header.index (omega arith) in
    not_held c.args.disk.now.image.now c.args.disk.now.layout.now c.args.number c.args.vbn c.mapped_block.result whole.0 whole.1
    (c.mapped_block.ensures ∙ sym (ap (λ l. slice_get l (c.args.vbn - 1)) all ∙ c.loop-header.invariant ∙ here))

pub loop-header-preserved : goal.loop-header-preserved
loop-header-preserved c =
    c.loop-header.invariant ∙ named_behind c.loop-header.headers c.next.new.self (c.in-Some.field-0-0, c.in-Some.header.now) c.in-Some.ensures.some.0 c.pointer_sum-count.result c.pointer_sum-count.ensures.count c.loop-header.index (omega arith)

pub returns-clause-none : goal.returns-clause-none
returns-clause-none c =
    let whole = c.requires.whole in
    let all = named_all c.args.disk.now.image.now c.args.disk.now.layout.now c.args.number whole.0 c.len.ensures.image c.requires.layout whole.1 in
    let none = none_named c.loop-header.headers c.loop-header.index c.in_default.ensures.none in
    not_held c.args.disk.now.image.now c.args.disk.now.layout.now c.args.number c.args.vbn _ whole.0 whole.1 (sym (ap (λ l. slice_get l (c.args.vbn - 1)) all ∙ c.loop-header.invariant ∙ none))
