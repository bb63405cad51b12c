use Rattle.std.proofs.Common.{rules, ◌≡◌, ◌∷◌, [], List, ℕ, true, refl, sym, subst, map, length, Bor}
use Rattle.std.specs.Str.Lines.{lines}
use Rattle.std.proofs.lemmas.List.{map-append}
use Rattle.std.proofs.lemmas.Iterator.Splits.{YieldsList-from_lines}
use Rattle.std.proofs.lemmas.Iterator.Consumers.{YieldsList-end, YieldsList-so_far, YieldsList-turn}
use Rattle.f11fs.specs.Changed.{AreAllDone}
use Rattle.f11fs.proofs.Leading.{all_next, goes_still, lines_ended, stands_still, why_ended}
use Rattle.f11fs.proofs.command_files.obey_lines.Goals as goal

pub loop-line-init : goal.loop-line-init
loop-line-init g c = (c.requires, ([], (refl, refl), refl))

pub loop-line-preserved : goal.loop-line-preserved
loop-line-preserved g c =
    let stands : c.obey_line-done.result.1 ≡ true = stands_still c.args.run.now.keep_going c.obey_line-done.result.1 c.ends_run.result c.obey_line-done.result.0 c.ends_run.ensures c.if-ends_run.false in
    let goes = goes_still c.args.run.now.keep_going c.obey_line-done.result.1 c.ends_run.result c.obey_line-done.result.0 c.ends_run.ensures c.if-ends_run.false in (
      c.obey_line-done.ensures.taken,
      subst (λ (ls : List (List ℕ)). AreAllDone (g.R.Host.gives c.args.rt.now) c.args.run.now.outer.now.image c.args.run.now.asker.stamp c.args.run.now.asker.user c.args.run.now.keep_going ls c.or-status.result c.args.filing.now c.obey_line-done.new.filing)
          (sym (map-append (λ (x : Bor (List ℕ)). x.now) c.loop-line.yielded (c.in-Some.line ∷ [])))
          (all_next (g.R.Host.gives c.args.rt.now) c.args.run.now.outer.now.image c.args.run.now.asker.stamp c.args.run.now.asker.user c.args.run.now.keep_going (map (λ x. x.now) c.loop-line.yielded) c.in-Some.line.now c.obey_line-done.result.0
          c.loop-line.status c.or-status.result c.args.filing.now c.loop-line.filing c.obey_line-done.new.filing
          c.loop-line.invariant.1 goes (c.obey_line-done.ensures.done stands) c.or-status.ensures.done c.or-status.ensures.fault),
    )

pub returns-clause-done : goal.returns-clause-done
returns-clause-done g c =
    let t = YieldsList-end (YieldsList-from_lines c.args.text.now (search rules)) c.loop-line.yielded _ c.loop-line.yielded_by _ _ c.in-None.is c.next.ensures.steps in
    λ _. subst (λ (ls : List (List ℕ)). AreAllDone (g.R.Host.gives c.args.rt.now) c.args.run.now.outer.now.image c.args.run.now.asker.stamp c.args.run.now.asker.user c.args.run.now.keep_going ls c.loop-line.status c.args.filing.now c.loop-line.filing) t.0 c.loop-line.invariant.1

pub returns-then-ends_run-clause-ended : goal.returns-then-ends_run-clause-ended
returns-then-ends_run-clause-ended g c = λ _.
    let all = YieldsList-from_lines c.args.text.now (search rules) in
    let front = YieldsList-so_far all c.loop-line.yielded _ c.loop-line.yielded_by in
    let turn = YieldsList-turn all c.loop-line.yielded _ c.loop-line.yielded_by _ _ c.in-Some.line c.in-Some.is c.next.ensures.steps in
    lines_ended (g.R.Host.gives c.args.rt.now) c.args.run.now.outer.now.image c.args.run.now.asker.stamp c.args.run.now.asker.user c.args.run.now.keep_going (lines c.args.text.now) (map (λ x. x.now) c.loop-line.yielded) c.in-Some.line.now (length c.loop-line.yielded)
    c.obey_line-done.result.0 c.loop-line.status c.args.filing.now c.loop-line.filing front turn.0 turn.1 c.loop-line.invariant.1
    (why_ended c.args.run.now.outer.now.image c.args.run.now.keep_going c.obey_line-done.result.1 c.ends_run.result c.in-Some.line.now c.obey_line-done.result.0 c.ends_run.ensures c.if-ends_run.true c.obey_line-done.ensures.ended c.obey_line-done.ensures.refused)
