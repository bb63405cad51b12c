use Rattle.std.proofs.Common.{sym, subst, ◌∙◌}
use Rattle.std.specs.List.{Contains}
use Rattle.ods_check.specs.Findings.{IsLostFile, id_at}
use Rattle.f11fs.proofs.Whole.{none_lost, none_there}
use Rattle.f11fs.proofs.mending_sound.enter_in.Goals as goal

pub returns-in_ok-tell_nameless-in-Ok-clause-whole : goal.returns-in_ok-tell_nameless-in-Ok-clause-whole
returns-in_ok-tell_nameless-in-Ok-clause-whole c = λ now.
    let none = none_lost c.args.report.now.is_left c.deref-in-Ok.result.now (sym c.tell_nameless.ensures.left ∙ now) in (
      none.0,
      λ n lost.
          let there = subst (λ I. IsLostFile I c.disk.result.layout.now n) (sym c.disk.ensures.image) (subst (λ L. IsLostFile c.enter_lost.new.filing.image L n) (sym c.disk.ensures.layout) lost) in
          let id = id_at c.disk.result.image.now c.disk.result.layout.now n in
          none_there c.deref-in-Ok.result.now id none.1 (subst (λ ids. Contains ids id) (sym c.deref-in-Ok.ensures.value) (c.in_ok-find_lost-in-Ok.ensures.all n there)),
    )
