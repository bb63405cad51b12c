use Rattle.std.proofs.Common.{[], inl, refl, subst}
use Rattle.ods_shell.specs.Named.{AreNamedBy}
use Rattle.f11fs.specs.Mended.{IsOneDirectory}
use Rattle.f11fs.proofs.mending_sound.directory_of.Goals as goal

pub returns-in-Some : goal.returns-in-Some
returns-in-Some c =
    let n = c.in-Ok.ensures.named in (
      n.0,
      n.1,
      (
        c.in-Ok.found.items,
        subst (λ u. AreNamedBy c.args.filing.now.image c.args.filing.now.layout [] n.0 u c.in-Ok.found.items) c.highest-unsaid.ensures
            (subst (λ I. AreNamedBy I c.args.filing.now.layout [] n.0 c.highest-unsaid.result c.in-Ok.found.items) c.mounted.ensures.0
            (subst (λ L. AreNamedBy c.mounted.result.now.image L [] n.0 c.highest-unsaid.result c.in-Ok.found.items) c.mounted.ensures.1 (n.2 [] (inl refl)))),
        subst (λ all. IsOneDirectory all c.in-Some.dir) c.deref.ensures.value c.in-Some.ensures,
      ),
    )
