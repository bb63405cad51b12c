use Rattle.std.proofs.Common.{◌≡◌, List, ℕ, rules, subst}
use Rattle.ods_request.specs.declared.answers.Entry.{Entry}
use Rattle.ods_request.specs.Lists.{Begins}
use Rattle.ods_views.specs.Viewers.{LeadsOn}
use Rattle.ods_views.proofs.told.Told.of.Goals as goal

pub invariant_of-result : goal.invariant_of-result
invariant_of-result g c =
    let v = c.args.volume.now in
    let version = c.image.ensures.version in
    let same : v.entries ≡ c.of.result.value.entries = search rules in
    let leads = subst (λ (m : List (List ℕ)). LeadsOn m v.entries) c.requires.named (version.catalogue, version.replayed) in
    (search rules, subst (LeadsOn g.J.Naming.mounted) same leads, subst (λ (l : List Entry). Begins g.J.Naming.opening l) same c.requires.begun)
