use Rattle.std.proofs.Common.{◌≡◌, ℕ, List, length, rules, sym, ap, ◌∙◌, subst}
use Rattle.ods_space.specs.Layout.{VolumeLayout}
use Rattle.ods_request.specs.declared.answers.Entry.{Entry}
use Rattle.ods_state.specs.Version.{IsVersionBy}
use Rattle.ods_views.proofs.Begun.{opens}
use Rattle.ods_views.proofs.writing.open_writer.Goals as goal

pub new-requires-clause-rule : goal.new-requires-clause-rule
new-requires-clause-rule g c =
    let M = g.J.Naming.mounted in
    let o = g.J.Naming.opening in
    let v = c.args.volume.now in
    let blocks : v.image ≡ c.in_ok-first.first = search rules in
    let places : v.layout ≡ c.in_ok-one.one = search rules in
    let count : length o ≡ c.len-count.result = sym (ap length c.requires.named.1) ∙ (ap length (sym c.entries.ensures) ∙ sym c.len-count.ensures) in
    let one = subst (λ (l : List (List ℕ)). IsVersionBy l v.entries v.image v.layout) c.requires.named.0 c.image.ensures.version in
    let two = subst (λ (l : List Entry). IsVersionBy M l v.image v.layout) c.requires.named.1 one in
    let three = subst (λ (l : List (List ℕ)). IsVersionBy M o l v.layout) blocks two in
    let four = subst (λ (l : VolumeLayout). IsVersionBy M o c.in_ok-first.first l) places three in
    opens M o (record { image = c.in_ok-first.first; layout = c.in_ok-one.one; count = c.len-count.result }) four count
