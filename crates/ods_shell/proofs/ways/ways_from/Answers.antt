use Rattle.std.proofs.Common.{◌≡◌, ◌==◌, ◌∙◌, true, false, sym, subst, List, take, ℕ}
use Rattle.std.specs.List.{list_any}
use Rattle.std.proofs.lemmas.List.{take_all}
use Rattle.ods_base.specs.declared.listed.Listed.{Listed}
use Rattle.ods_shell.specs.Choosing.{AreThose}
use Rattle.ods_shell.specs.Found.{AreLinesOf}
use Rattle.ods_shell.specs.Ways.{LeadsOn}
use Rattle.ods_shell.proofs.WaysLists.{front_more, those_sorted}
use Rattle.ods_shell.proofs.WaysShut.{closed_is_there, closed_ways, met_none, met_one, open_ways}
use Rattle.ods_shell.proofs.ways.ways_from.Goals as goal

pub returns-then-branch-clause-ways : goal.returns-then-branch-clause-ways
returns-then-branch-clause-ways c =
    let closed : list_any (λ n. n == c.args.number) c.args.closed.now.numbers.now ≡ true = sym c.in_ok-stops.ensures.value ∙ c.if-branch.true in
    let met = c.in_ok-stops.ensures.met c.if-branch.true in
    closed_ways c.args.disk.now.image.now c.args.disk.now.layout.now c.args.closed.now.numbers.now c.args.number c.args.closed.now.met.items c.stops.new.self.met.items met.0 c.new-ways.result.items
    (closed_is_there c.args.closed.now.numbers.now c.args.number closed) met.2 c.new-ways.ensures.items

pub returns-then-branch-clause-met : goal.returns-then-branch-clause-met
returns-then-branch-clause-met c =
    let closed : list_any (λ n. n == c.args.number) c.args.closed.now.numbers.now ≡ true = sym c.in_ok-stops.ensures.value ∙ c.if-branch.true in
    let met = c.in_ok-stops.ensures.met c.if-branch.true in
    met_one c.args.closed.now.numbers.now c.args.closed.now.met.items c.stops.new.self.met.items met.0 c.args.number (closed_is_there c.args.closed.now.numbers.now c.args.number closed) met.1 met.2

pub loop-line-preserved : goal.loop-line-preserved
loop-line-preserved c =
    let all : List Listed = c.deref-line-items.result.now in
    let n : ℕ = c.loop-line.line-index in
    let x : Listed = c.line-item.result in
    subst (λ (ls : List Listed). AreThose (LeadsOn c.args.disk.now.image.now c.args.disk.now.layout.now) ls c.add_way.new.ways.items) (sym (front_more all n x c.loop-line-test.true c.line-item.is)) (c.in_ok-add_way.ensures (take n all) c.loop-line.invariant)

pub returns-clause-ways : goal.returns-clause-ways
returns-clause-ways c =
    let all : List Listed = c.deref-line-items.result.now in
    let shut : list_any (λ n. n == c.args.number) c.args.closed.now.numbers.now ≡ false = sym c.in_ok-stops.ensures.value ∙ c.if-branch.false in
    let lines : AreLinesOf c.args.disk.now.image.now c.args.disk.now.layout.now c.args.number all =
    subst (AreLinesOf c.args.disk.now.image.now c.args.disk.now.layout.now c.args.number) (sym c.deref-line-items.ensures.value) (c.in_ok-lines.ensures.there, c.in_ok-lines.ensures.none) in
    let those : AreThose (LeadsOn c.args.disk.now.image.now c.args.disk.now.layout.now) all c.loop-line.ways.items =
    subst (λ (ls : List Listed). AreThose (LeadsOn c.args.disk.now.image.now c.args.disk.now.layout.now) ls c.loop-line.ways.items) (take_all c.loop-line.line-index all c.loop-line-test.false) c.loop-line.invariant in
    open_ways c.args.disk.now.image.now c.args.disk.now.layout.now c.args.closed.now.numbers.now c.args.number c.stops.new.self.met.items all c.loop-line.ways.items shut lines those

pub returns-clause-sorted : goal.returns-clause-sorted
returns-clause-sorted c =
    let all : List Listed = c.deref-line-items.result.now in
    let those : AreThose (LeadsOn c.args.disk.now.image.now c.args.disk.now.layout.now) c.in_ok-lines.lines.items c.loop-line.ways.items =
    subst (λ (ls : List Listed). AreThose (LeadsOn c.args.disk.now.image.now c.args.disk.now.layout.now) ls c.loop-line.ways.items) (take_all c.loop-line.line-index all c.loop-line-test.false ∙ c.deref-line-items.ensures.value) c.loop-line.invariant in
    those_sorted (LeadsOn c.args.disk.now.image.now c.args.disk.now.layout.now) c.in_ok-lines.lines.items c.loop-line.ways.items those c.in_ok-lines.ensures.sorted

pub returns-clause-met : goal.returns-clause-met
returns-clause-met c = met_none c.args.closed.now.numbers.now c.args.closed.now.met.items c.stops.new.self.met.items (c.in_ok-stops.ensures.open c.if-branch.false)
