use Rattle.std.proofs.Common.{sym, subst}
use Rattle.ods_space.specs.Files.{IsLayoutOf}
use Rattle.f11fs.proofs.MoreVersions.{layout_after}
use Rattle.f11fs.proofs.mending.renumber_one.Goals.{in-Ok+in_ok-tell_double-in-Ok, in-Err+in_ok-tell_left-in-Err}
use Rattle.f11fs.proofs.mending.renumber_one.Goals as goal

pub returns-clause-layout : goal.returns-clause-layout
returns-clause-layout c = elim c.match-renumber_doubles.branch [
  | in-Ok+in_ok-tell_double-in-Ok w ↦ layout_after c.args.image c.renumber_doubles.new.image c.args.layout.now c.args.directory w.in-Ok.ensures.done
  | in-Err+in_ok-tell_left-in-Err w ↦ subst (λ I. IsLayoutOf I c.args.layout.now) (sym w.in-Err.ensures.unchanged) c.requires
]
