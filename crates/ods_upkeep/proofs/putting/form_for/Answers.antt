use Rattle.std.proofs.Common.{◌≡◌, rules, true}
use Rattle.ods_upkeep.proofs.Hosts.{form_kept, former_kept}
use Rattle.ods_upkeep.proofs.putting.form_for.Goals as goal

pub returns-clause-ok : goal.returns-clause-ok
returns-clause-ok c =
    let is : c.args.keeps ≡ true = search (rules, c.if-not-keeps.false) in
    form_kept c.args.keeps c.args.form c.args.like.now c.args.dir c.args.name.now c.args.names.now c.args.said c.replaced_version-said.result c.args.bytes.now c.args.filing.now c.disk-disk.result.image.now c.disk-disk.result.layout.now
    c.in_ok-before.before c.kept_form.result.0 c.kept_form.result.1 is c.disk-disk.ensures.image c.disk-disk.ensures.layout c.replaced_version-said.ensures c.in_ok-before.ensures c.kept_form.ensures.kept

pub returns-clause-former : goal.returns-clause-former
returns-clause-former c =
    let is : c.args.keeps ≡ true = search (rules, c.if-not-keeps.false) in
    former_kept c.args.keeps c.args.dir c.args.name.now c.args.names.now c.args.said c.replaced_version-said.result c.args.bytes.now c.args.filing.now c.disk-disk.result.image.now c.disk-disk.result.layout.now
    c.in_ok-before.before c.kept_form.result.2 is c.disk-disk.ensures.image c.disk-disk.ensures.layout c.replaced_version-said.ensures c.in_ok-before.ensures c.kept_form.ensures.former
