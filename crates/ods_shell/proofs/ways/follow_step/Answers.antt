use Rattle.std.proofs.Common.{◌≡◌, ◌∙◌, ap, ℕ, List}
use Rattle.ods_paths.specs.Views.{step as said_step}
use Rattle.ods_shell.specs.Ways.{IsStep}
use Rattle.ods_shell.proofs.WaysLists.{shut_next}
use Rattle.ods_shell.proofs.WaysShut.{met_on}
use Rattle.ods_shell.proofs.ways.follow_step.Goals as goal

pub loop-directory-preserved : goal.loop-directory-preserved
loop-directory-preserved c =
    let closed : List ℕ = c.args.closed.now.numbers.now in
    let numbers : List ℕ = c.loop-directory.closed.numbers.now in
    let same : numbers ≡ closed = ap (λ b. b.now) c.loop-directory.invariant.1 in
    let on = c.in_ok-add_steps.ensures.found in (
      shut_next (λ shut. IsStep c.args.disk.now.image.now c.args.disk.now.layout.now shut (said_step c.args.step.now)) c.args.from.now c.loop-directory.directory-index c.directory-item.result c.loop-directory.found.items on.0 c.add_steps.new.found.items closed numbers
          c.loop-directory.closed.met.items c.add_steps.new.closed.met.items c.loop-directory-test.true c.directory-item.is same on.1 c.in_ok-add_steps.ensures.met c.loop-directory.invariant.0 on.2,
      c.in_ok-add_steps.ensures.same ∙ c.loop-directory.invariant.1,
      met_on closed numbers c.args.closed.now.met.items c.loop-directory.closed.met.items c.add_steps.new.closed.met.items same c.loop-directory.invariant.2 c.in_ok-add_steps.ensures.met,
    )
