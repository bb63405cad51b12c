use Rattle.std.proofs.Common.{◌≡◌, ◌++◌, ◌∙◌, [], ◌∷◌, refl, sym, ap, subst, ℕ, List, length, arith}
use Rattle.ods_paths.specs.Steps.{Step}
use Rattle.ods_paths.specs.Views.{step as said_step, steps as said_steps}
use Rattle.ods_shell.specs.declared.folders.Directory.{Directory}
use Rattle.ods_shell.specs.Ways.{AreLedTo}
use Rattle.ods_shell.proofs.WaysLists.{starts_next}
use Rattle.ods_shell.proofs.WaysShut.{met_none, met_on}
use Rattle.ods_shell.proofs.ways.find_starts.Goals as goal

pub loop-step-init : goal.loop-step-init
loop-step-init c =
    let alone : c.push.new.self.items ≡ c.master.result ∷ [] = c.in_ok-push.ensures.items ∙ ap (λ (ds : List Directory). ds ++ c.master.result ∷ []) c.new-found.ensures.items in (
      λ shut counts last led. (c.push.new.self.items, (c.master.result, alone, c.master.ensures.number, c.master.ensures.names), led),
      refl,
      met_none c.args.closed.now.numbers.now c.args.closed.now.met.items c.args.closed.now.met.items refl,
    )

pub loop-step-smaller : goal.loop-step-smaller
loop-step-smaller c = let cut = c.in-Some.ensures in omega (arith, ap length cut)

pub loop-step-preserved : goal.loop-step-preserved
loop-step-preserved c =
    let closed : List ℕ = c.args.closed.now.numbers.now in
    let numbers : List ℕ = c.loop-step.closed.numbers.now in
    let same : numbers ≡ closed = ap (λ b. b.now) c.loop-step.invariant.1 in (
      starts_next c.args.disk.now.image.now c.args.disk.now.layout.now (said_steps c.args.steps.now) (said_steps c.loop-step.rest) (said_steps c.in-Some.behind) (said_step c.in-Some.step) c.loop-step.found.items
          c.deref.result.now c.in_ok-found.found.items closed numbers c.loop-step.closed.met.items c.follow_step.new.closed.met.items c.in-Some.ensures c.deref.ensures.value same c.in_ok-found.ensures.met c.loop-step.invariant.0
          c.in_ok-found.ensures.found,
      c.in_ok-found.ensures.same ∙ c.loop-step.invariant.1,
      met_on closed numbers c.args.closed.now.met.items c.loop-step.closed.met.items c.follow_step.new.closed.met.items same c.loop-step.invariant.2 c.in_ok-found.ensures.met,
    )

pub returns-clause-found : goal.returns-clause-found
returns-clause-found c = λ shut counts.
    let found = c.loop-step.found.items in
    c.loop-step.invariant.0 shut counts found (subst (λ (steps : List Step). AreLedTo c.args.disk.now.image.now c.args.disk.now.layout.now shut steps found found) (sym c.in_default.ensures) refl)
