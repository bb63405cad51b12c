use Rattle.std.proofs.Common.{rules, ◌≡◌, ◌≤◌, ◌+◌, [], ◌∷◌, ◌++◌, refl, sym, ◌∙◌, subst, List, length, map, take, Some}
use Rattle.std.specs.List.{slice_get}
use Rattle.std.proofs.lemmas.List.{take_all}
use Rattle.std.proofs.lemmas.Option.{slice_get_read}
use Rattle.ods_walk.specs.Steps.{AreEntered}
use Rattle.ods_shell.specs.declared.folders.Directory.{Directory}
use Rattle.ods_shell.specs.Ways.{AreAllBelow, AreMet, CountAsClosed}
use Rattle.ods_shell.proofs.BelowAll.{none_below}
use Rattle.ods_shell.proofs.BelowClosed.{counts_before, met_none, met_then, same_now, took_more}
use Rattle.ods_shell.proofs.below.gather.Goals as goal

pub loop-start-init : goal.loop-start-init
loop-start-init c =
    let I = c.args.disk.now.image.now in
    let L = c.args.disk.now.layout.now in
    let empty : c.new-found.result.items ≡ [] = c.new-found.ensures.items in
    record {
      same = refl;
      met = met_none c.args.closed.now.numbers.now c.args.closed.now.met.items;
      flags = subst (λ (ds : List Directory). AreEntered c.args.is_added.now (map (λ d. d.number) ds)) (sym empty) c.requires;
      below = λ shut counts. subst (λ (ds : List Directory). AreAllBelow I L shut [] ds) (sym empty) (none_below I L shut);
    }

pub loop-start-preserved : goal.loop-start-preserved
loop-start-preserved c =
    let I = c.args.disk.now.image.now in
    let L = c.args.disk.now.layout.now in
    let closed = c.args.closed.now.numbers.now in
    let inv = c.loop-start.invariant in
    let same = same_now c.loop-start.closed.numbers c.args.closed.now.numbers inv.same in
    let more : AreMet closed c.loop-start.closed.met.items c.add_walked.new.closed.met.items =
    subst (λ n. AreMet n c.loop-start.closed.met.items c.add_walked.new.closed.met.items) same c.in_ok-add_walked.ensures.met in
    let start : Directory = c.start-item.result in
    let starts = c.args.starts.now in
    let at : slice_get starts c.loop-start.start-index ≡ Some start = slice_get_read starts _ c.loop-start.start-index start refl c.loop-start-test.true c.start-item.is in
    let took : take (c.loop-start.start-index + 1) starts ≡ take c.loop-start.start-index starts ++ start ∷ [] = took_more starts c.loop-start.start-index start at in
    record {
      same = c.in_ok-add_walked.ensures.same ∙ inv.same;
      met = met_then closed c.args.closed.now.met.items c.loop-start.closed.met.items c.add_walked.new.closed.met.items inv.met more;
      flags = c.in_ok-add_walked.ensures.flags;
      below = λ shut counts.
          subst (λ (ds : List Directory). AreAllBelow I L shut ds c.add_walked.new.found.items) (sym took)
          (c.in_ok-add_walked.ensures.found shut (take c.loop-start.start-index starts) (subst (λ n. CountAsClosed n c.add_walked.new.closed.met.items shut) (sym same) counts)
          (inv.below shut (counts_before closed shut c.loop-start.closed.met.items c.add_walked.new.closed.met.items more counts)));
    }

pub returns-clause-found : goal.returns-clause-found
returns-clause-found c = λ shut counts.
    let starts = c.args.starts.now in
    let past : length starts ≤ c.loop-start.start-index = search rules in
    subst (λ (ds : List Directory). AreAllBelow c.args.disk.now.image.now c.args.disk.now.layout.now shut ds c.loop-start.found.items) (take_all c.loop-start.start-index starts past) (c.loop-start.invariant.below shut counts)
