use Rattle.std.proofs.Common.{refl, subst, sym}
use Rattle.std.proofs.lemmas.List.{drop_all}
use Rattle.f11fs.specs.Readings.{MayAddReadings}
use Rattle.f11fs.proofs.Reading.{readings_on}
use Rattle.f11fs.proofs.early.Early.read_all.Goals as goal

pub loop-path-init : goal.loop-path-init
loop-path-init g c = λ new rest. rest

pub loop-path-preserved : goal.loop-path-preserved
loop-path-preserved g c =
    readings_on (g.R.Host.gives c.args.rt.now) c.args.paths.now c.loop-path.path-index _ c.loop-path.self _ (λ new. MayAddReadings (g.R.Host.gives c.args.rt.now) c.args.paths.now c.args.self.now new)
    c.loop-path-test.true c.loop-path.invariant c.in_ok-read_stream.ensures

pub returns : goal.returns
returns g c =
    c.loop-path.invariant c.loop-path.self
    (subst (λ l. MayAddReadings (g.R.Host.gives c.args.rt.now) l c.loop-path.self c.loop-path.self) (sym (drop_all c.loop-path.path-index _ c.loop-path-test.false)) refl)
