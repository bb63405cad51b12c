use Rattle.std.proofs.Common.{◌≡◌, ap, subst, List, [], ℕ}
use Rattle.ods_paths.specs.Views.{step as said_step}
use Rattle.ods_shell.specs.declared.folders.Directory.{Directory}
use Rattle.ods_shell.specs.Choosing.{AreEach}
use Rattle.ods_shell.specs.Named.{AreLedBy}
use Rattle.ods_shell.specs.Ways.{AreMet}
use Rattle.ods_shell.proofs.WaysShut.{counts_before, counts_with, met_on}
use Rattle.ods_shell.proofs.led.find_led.Goals as goal

pub returns-clause-led : goal.returns-clause-led
returns-clause-led c = λ shut counts.
    let closed : List ℕ = c.args.closed.now in
    let numbers : List ℕ = c.find_starts.new.closed.numbers.now in
    let same : numbers ≡ closed = ap (λ b. b.now) c.in_ok-starts.ensures.same in
    let mid = c.find_starts.new.closed.met.items in
    let last = c.led_from.new.closed.met.items in (
      c.in_ok-starts.starts.items,
      c.in_ok-starts.ensures.found shut (counts_before closed numbers mid last shut c.in_ok-all.ensures.met counts),
      subst (λ (ds : List Directory). AreEach (AreLedBy c.args.disk.now.image.now c.args.disk.now.layout.now shut (said_step c.args.step.now)) ds c.in_ok-all.all.items) c.deref.ensures.value
          (c.in_ok-all.ensures.found shut (counts_with closed numbers last shut same counts)),
    )

pub returns-clause-met : goal.returns-clause-met
returns-clause-met c =
    let closed : List ℕ = c.args.closed.now in
    let numbers : List ℕ = c.find_starts.new.closed.numbers.now in
    let same : numbers ≡ closed = ap (λ b. b.now) c.in_ok-starts.ensures.same in
    let first : AreMet closed [] c.find_starts.new.closed.met.items = subst (λ (ds : List Directory). AreMet closed ds c.find_starts.new.closed.met.items) c.new.ensures.items c.in_ok-starts.ensures.met in
    met_on closed numbers [] c.find_starts.new.closed.met.items c.led_from.new.closed.met.items same first c.in_ok-all.ensures.met
