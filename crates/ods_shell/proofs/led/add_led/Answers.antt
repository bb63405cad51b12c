use Rattle.ods_paths.specs.Views.{step as said_step}
use Rattle.ods_shell.proofs.Places.{on_ok}
use Rattle.ods_shell.proofs.WaysLists.{led_is}
use Rattle.ods_shell.proofs.led.add_led.Goals as goal

pub returns-clause-found : goal.returns-clause-found
returns-clause-found c =
    on_ok c.add_entries.result
    (λ added. (
      added.0,
      added.1,
      led_is c.args.disk.now.image.now c.args.disk.now.layout.now c.args.closed.now.numbers.now c.ways_from.new.closed.met.items c.in_ok-ways.ways.items c.deref-2.result.now c.in_ok-those.those.items c.deref-3.result.now
          c.deref-2.ensures.value c.deref-3.ensures.value (said_step c.args.step.now) c.args.from.now added.0 c.in_ok-ways.ensures.ways c.in_ok-those.ensures added.2,
    ))
    c.add_entries.ensures
