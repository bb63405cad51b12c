use Rattle.std.proofs.Common.{inr, refl, ap, ◌∙◌, ◌++◌}
use Rattle.ods_walk.specs.Paths.{path_to}
use Rattle.ods_shell.proofs.BelowAdded.{flags_more, not_entered}
use Rattle.ods_shell.proofs.below.add_one.Goals as goal

pub returns-clause-flags : goal.returns-clause-flags
returns-clause-flags c = flags_more c.args.is_added.now c.args.found.now.items c.push.new.self.items _ c.ranges.number.fits c.in_ok-push.ensures.items c.requires

pub returns-clause-one : goal.returns-clause-one
returns-clause-one c = inr (
  not_entered c.args.is_added.now _ c.args.number c.ranges.number.fits c.requires c.if-is_added-number.false,
  _,
  c.in_ok-push.ensures.items,
  refl,
  c.in_ok-names.ensures ∙ ap (λ b. b ++ path_to c.args.walk.now.directories c.args.place) c.deref.ensures.value,
)
