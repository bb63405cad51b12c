use Rattle.std.proofs.Common.{sym, ◌∙◌, subst}
use Rattle.std.specs.Prelude.{IfSome}
use Rattle.ods_volume.specs.Struck.{AreNamesThen}
use Rattle.ods_volume.proofs.NamesThen.{known_again, known_still}
use Rattle.ods_volume.proofs.noted.checked.Goals as goal

pub returns-then-not-may_grow : goal.returns-then-not-may_grow
returns-then-not-may_grow c =
    let known = subst (λ o. IfSome o (AreNamesThen c.args.disk.now.image.now c.args.disk.now.layout.now c.args.falls)) c.in-Some.is c.requires.names in
    known_still known (sym c.may_grow.ensures ∙ c.if-not-may_grow.true)

pub returns-then-has_so_many : goal.returns-then-has_so_many
returns-then-has_so_many c =
    let known = subst (λ o. IfSome o (AreNamesThen c.args.disk.now.image.now c.args.disk.now.layout.now c.args.falls)) c.in-Some.is c.requires.names in
    let many = c.has_so_many.ensures c.if-has_so_many.true in
    known_again known (sym c.may_grow.ensures ∙ c.if-not-may_grow.false) many.0 many.1 (many.2 ∙ c.len.ensures ∙ c.in-Some.known.blocks.ok.0)
