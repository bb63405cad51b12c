use Rattle.std.proofs.Common.{ℕ, List, sym, subst}
use Rattle.std.proofs.lemmas.Result.{on_ok_weaker}
use Rattle.ods_upkeep.specs.Appended.{IsOpened}
use Rattle.ods_upkeep.proofs.Naming.{same_disk}
use Rattle.f11fs.specs.Given.{Bytes}
use Rattle.f11fs.proofs.appending.append_to.Goals as goal

pub returns-clause-done : goal.returns-clause-done
returns-clause-done g c =
    on_ok_weaker c.append_read.result (λ grown. (c.in-Ok.facts, (c.as_slice.result.now, subst (λ (b : List ℕ). g.R.Host.gives c.args.rt.now c.args.host.now (Bytes b)) (sym c.as_slice.ensures.value) c.in_ok-bytes.ensures.given, same_disk (λ J M. IsOpened J M c.args.path.now c.in-Ok.facts) c.mounted.ensures.0 c.mounted.ensures.1 c.in-Ok.ensures, grown))) c.append_read.ensures.done
