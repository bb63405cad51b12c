use Rattle.std.proofs.Common.{ap, sym, subst, arith, ◌∙◌}
use Rattle.ods_space.specs.Layout.{Disk}
use Rattle.ods_state.specs.Version.{IsLawful}
use Rattle.ods_state.proofs.Opening.{new_is_lawful}
use Rattle.ods_volume.specs.Entries.{EntryList}
use Rattle.ods_volume.proofs.volume.Volume.new.Goals as goal

pub invariant_of-result : goal.invariant_of-result
invariant_of-result c =
    let m = c.args.mounted in
    let none = ap (λ (l : EntryList). l.items) c.in-Ok.ensures in
    let parts = c.in-Ok-split.ensures.ok in
    let now = c.in-Ok-new.ensures.ok in
    let image = ap (λ (d : Disk). d.image) now ∙ (c.of.ensures.0 ∙ parts.1) in
    let layout = ap (λ (d : Disk). d.layout) now ∙ (c.of.ensures.1 ∙ parts.2) in
    record {
      lawful = subst IsLawful (λ i. record { mounted = sym parts.0 i; entries = sym none i; image = sym image i; layout = sym layout i; limit = c.args.limit })
          (new_is_lawful m.image m.layout c.in-Ok-split.ensures.sound c.args.limit);
      low = c.requires.low;
      high = c.requires.high;
      reserved = omega (arith, ap (λ (l : EntryList). l.room) c.in-Ok.ensures);
    }
