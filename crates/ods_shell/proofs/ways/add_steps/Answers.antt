use Rattle.ods_paths.specs.Views.{step as said_step}
use Rattle.ods_shell.proofs.Places.{on_ok}
use Rattle.ods_shell.proofs.WaysLists.{step_is}
use Rattle.ods_shell.proofs.ways.add_steps.Goals as goal

pub returns-clause-found : goal.returns-clause-found
returns-clause-found c =
    on_ok c.add_named.result
    (λ added. (
      added.0,
      added.1,
      step_is c.args.disk.now.image.now c.args.disk.now.layout.now c.args.closed.now.numbers.now c.ways_from.new.closed.met.items c.in_ok-ways.ways.items c.deref-2.result.now c.in_ok-those.those.items c.deref-4.result.now
          c.deref-2.ensures.value c.deref-4.ensures.value c.deref-3.result.now (said_step c.args.step.now) c.args.from.now added.0 c.deref-3.ensures.value c.in_ok-ways.ensures.ways c.in_ok-those.ensures added.2,
    ))
    c.add_named.ensures
