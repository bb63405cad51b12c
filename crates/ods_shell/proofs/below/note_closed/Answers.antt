use Rattle.std.proofs.Common.{rules, ◌≡◌, ◌≤◌, refl, sym, ◌∙◌, subst, length, take, Some}
use Rattle.std.specs.List.{All, Contains, slice_get}
use Rattle.std.proofs.lemmas.List.{take_all}
use Rattle.std.proofs.lemmas.List.Elements.{All-contains}
use Rattle.std.proofs.lemmas.Option.{slice_get_read}
use Rattle.ods_walk.specs.declared.tables.Line.{Line as Placed}
use Rattle.ods_walk.specs.Walk.{NamesDirectory}
use Rattle.ods_shell.specs.Ways.{AreMet}
use Rattle.ods_shell.proofs.BelowClosed.{all_more, front_of_none, met_then, same_now}
use Rattle.ods_shell.proofs.below.note_closed.Goals as goal

pub loop-line-preserved : goal.loop-line-preserved
loop-line-preserved c =
    let I = c.args.disk.now.image.now in
    let L = c.args.disk.now.layout.now in
    let closed = c.args.closed.now.numbers.now in
    let inv = c.loop-line.invariant in
    let line : Placed = c.line-item.result in
    let same = same_now c.loop-line.closed.numbers c.args.closed.now.numbers inv.same in
    let more : AreMet closed c.loop-line.closed.met.items c.note_line.new.closed.met.items =
    subst (λ n. AreMet n c.loop-line.closed.met.items c.note_line.new.closed.met.items) same c.in_ok-note_line.ensures.met in
    let items = c.lines-line-items.result.now in
    let at : slice_get items c.loop-line.line-index ≡ Some line = slice_get_read items _ c.loop-line.line-index line refl c.loop-line-test.true c.line-item.is in
    record {
      same = c.in_ok-note_line.ensures.same ∙ inv.same;
      met = met_then closed c.args.closed.now.met.items c.loop-line.closed.met.items c.note_line.new.closed.met.items inv.met more;
      none = λ none. all_more (λ (x : Placed). NamesDirectory I L x.entry → ¬ Contains closed x.entry.file.number) items c.loop-line.line-index line at
          (inv.none (front_of_none c.loop-line.closed.met.items more.0 (sym more.1 ∙ none)))
          (subst (λ n. NamesDirectory I L line.entry → ¬ Contains n line.entry.file.number) same (c.in_ok-note_line.ensures.none none));
    }

pub returns-clause-none : goal.returns-clause-none
returns-clause-none c = λ none l has.
    let P = λ (x : Placed). NamesDirectory c.args.disk.now.image.now c.args.disk.now.layout.now x.entry → ¬ Contains c.args.closed.now.numbers.now x.entry.file.number in
    let items = c.lines-line-items.result.now in
    let past : length items ≤ c.loop-line.line-index = search rules in
    let all : take c.loop-line.line-index items ≡ c.args.walk.now.lines = take_all c.loop-line.line-index items past ∙ c.lines-line-items.ensures in
    All-contains P c.args.walk.now.lines l (subst (All P) all (c.loop-line.invariant.none none)) has
