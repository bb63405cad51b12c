use Rattle.std.proofs.Common.{◌∙◌, List, ℕ, ap, subst, length, is_some, nat_lt, Bor}
use Rattle.ods_upkeep.specs.Begun.{IsBegun}
use Rattle.f11fs.specs.Changed.{hosts_among, path_among}
use Rattle.f11fs.proofs.PutAll.{put_all}
use Rattle.f11fs.proofs.putting.put.Goals as goal

pub returns-clause-done : goal.returns-clause-done
returns-clause-done g c =
    put_all (g.R.Host.gives c.args.rt.now) (is_some c.args.words.now.stamp) (is_some c.read_where-zone.result) c.args.how c.args.words.now.paths.items c.hosts-hosts.result.now c.path_among-to.result c.form_of.result c.placing_of.result c.args.stamp c.in-Ok.putting c.put_each.new.putting
    c.args.filing.now c.make_ready.new.filing c.put_each.new.filing c.put_each.result
    (subst (λ (v : _). IsBegun v c.args.filing.now.layout c.args.stamp c.path_among-to.result (nat_lt 1 (length c.hosts-hosts.result.now)) c.form_of.result c.args.how.like c.placing_of.result c.args.how.replace c.args.how.owner c.in-Ok.putting) c.mounted.ensures.0 (subst (λ (v : _). IsBegun c.mounted.result.now.image v c.args.stamp c.path_among-to.result (nat_lt 1 (length c.hosts-hosts.result.now)) c.form_of.result c.args.how.like c.placing_of.result c.args.how.replace c.args.how.owner c.in-Ok.putting) c.mounted.ensures.1 c.in-Ok.ensures))
    (c.read_where-zone.ensures ∙ c.takes_times.ensures)
    (c.path_among-to.ensures ∙ ap (λ (ws : List (Bor (List ℕ))). path_among ws) c.as_slice-2.ensures.value)
    (c.hosts-hosts.ensures ∙ ap (λ (ws : List (Bor (List ℕ))). hosts_among ws) c.as_slice.ensures.value)
    c.form_of.ensures c.placing_of.ensures c.make_ready.ensures c.put_each.ensures.done
