use Rattle.std.proofs.Common.{◌≡◌, ◌∙◌, refl, ap, subst, ℕ, List}
use Rattle.std.proofs.lemmas.List.{take_all}
use Rattle.ods_paths.specs.Views.{step as said_step}
use Rattle.ods_shell.specs.declared.folders.Directory.{Directory}
use Rattle.ods_shell.specs.Choosing.{AreEach}
use Rattle.ods_shell.specs.Named.{AreLedBy}
use Rattle.ods_shell.proofs.WaysLists.{shut_next}
use Rattle.ods_shell.proofs.WaysShut.{met_none, met_on}
use Rattle.ods_shell.proofs.led.led_from.Goals as goal

pub loop-directory-preserved : goal.loop-directory-preserved
loop-directory-preserved c =
    let closed : List ℕ = c.args.closed.now.numbers.now in
    let numbers : List ℕ = c.loop-directory.closed.numbers.now in
    let same : numbers ≡ closed = ap (λ b. b.now) c.loop-directory.invariant.1 in
    let on = c.in_ok-add_led.ensures.found in (
      shut_next (λ shut. AreLedBy c.args.disk.now.image.now c.args.disk.now.layout.now shut (said_step c.args.step.now)) c.args.from.now c.loop-directory.directory-index c.directory-item.result c.loop-directory.found.items on.0 c.add_led.new.found.items
          closed numbers c.loop-directory.closed.met.items c.add_led.new.closed.met.items c.loop-directory-test.true c.directory-item.is same on.1 c.in_ok-add_led.ensures.met c.loop-directory.invariant.0 on.2,
      c.in_ok-add_led.ensures.same ∙ c.loop-directory.invariant.1,
      met_on closed numbers c.args.closed.now.met.items c.loop-directory.closed.met.items c.add_led.new.closed.met.items same c.loop-directory.invariant.2 c.in_ok-add_led.ensures.met,
    )

pub loop-directory-init : goal.loop-directory-init
loop-directory-init c = (λ shut counts. c.new-found.ensures.items, refl, met_none c.args.closed.now.numbers.now c.args.closed.now.met.items c.args.closed.now.met.items refl)

pub returns-clause-found : goal.returns-clause-found
returns-clause-found c = λ shut counts.
    subst (λ (ds : List Directory). AreEach (AreLedBy c.args.disk.now.image.now c.args.disk.now.layout.now shut (said_step c.args.step.now)) ds c.loop-directory.found.items)
    (take_all c.loop-directory.directory-index c.args.from.now c.loop-directory-test.false) (c.loop-directory.invariant.0 shut counts)
