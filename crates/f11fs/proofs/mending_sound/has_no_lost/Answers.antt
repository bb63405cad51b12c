use Rattle.std.specs.List.{Contains}
use Rattle.std.proofs.Common.{sym, subst}
use Rattle.ods_check.specs.Findings.{IsLostFile, id_at}
use Rattle.f11fs.proofs.MoreVersions.{contains_none}
use Rattle.f11fs.proofs.mending_sound.has_no_lost.Goals as goal

pub returns : goal.returns
returns c = λ is n lost.
    let there = subst (λ I. IsLostFile I c.disk.result.layout.now n) (sym c.disk.ensures.image) (subst (λ L. IsLostFile c.args.filing.now.image L n) (sym c.disk.ensures.layout) lost) in
    let id = id_at c.disk.result.image.now c.disk.result.layout.now n in
    contains_none c.deref.result.now id c.in-None.ensures.value (subst (λ ids. Contains ids id) (sym c.deref.ensures.value) (c.in_ok-lost.ensures.all n there))
