use Rattle.std.proofs.Common.{◌<◌, map, rules, None, sym, subst, ◌≡◌}
use Rattle.ods_volume.specs.Ends.{kept_by}
use Rattle.ods_volume.proofs.NotedEnds.{mapped_by, nothing_falls}
use Rattle.ods_volume.proofs.ends.KnownEnds.forget.Goals as goal

pub returns-in-Nothing : goal.returns-in-Nothing
returns-in-Nothing c = subst (λ f. c.args.self.now.ends ≡ map (kept_by f) c.args.self.now.ends) (sym c.in-Nothing.is) (nothing_falls c.args.self.now.ends)

pub returns : goal.returns
returns c =
    mapped_by (kept_by c.args.falls) None None c.args.self.now.ends c.loop-place.self.ends c.loop-place.invariant.2
    (λ i low. let passed : i < c.loop-place.place = search rules in c.loop-place.invariant.0 i passed)
