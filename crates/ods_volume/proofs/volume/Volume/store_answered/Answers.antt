use Rattle.std.proofs.Common.{◌≡◌, ap, refl, sym, ◌∙◌, subst, arith}
use Rattle.ods_base.specs.Image.{IsImage}
use Rattle.ods_space.specs.Layout.{Disk}
use Rattle.ods_state.specs.Version.{IsLawful, State}
use Rattle.ods_state.specs.Outcome.{Plan, carried_out}
use Rattle.ods_volume.specs.Entries.{EntryList}
use Rattle.ods_volume.specs.Kept.{state_of}
use Rattle.ods_volume.specs.Preparing.{plan_of}
use Rattle.ods_volume.proofs.Carried.{carried_is, change_of_plan}
use Rattle.ods_volume.proofs.volume.Volume.store_answered.Goals as goal
use Rattle.ods_volume.proofs.volume.Volume.store_answered.Goals.{After-apply}

pub apply-requires : goal.apply-requires
apply-requires c =
    let p : Plan = plan_of c.args.session c.args.nth c.args.who c.args.request c.args.answer.now c.args.change in
    change_of_plan (state_of c.self.inside) c.args.self.now p p c.args.change.falls c.self.view_is refl c.self.invariant.lawful (subst IsImage c.disk.ensures.image c.len.ensures.image) c.requires.falls c.requires.plan

-- the volume is that with the plan made
now : (c : After-apply) → record { mounted = c.self.inside.mounted; entries = c.push_answered.new.self.items; image = c.apply.new.self.image; layout = c.apply.new.self.layout; limit = c.self.inside.limit }
    ≡ carried_out c.args.self.now (plan_of c.args.session c.args.nth c.args.who c.args.request c.args.answer.now c.args.change)
now c =
    let p : Plan = plan_of c.args.session c.args.nth c.args.who c.args.request c.args.answer.now c.args.change in
    let listed = ap (λ (l : EntryList). l.items) c.push_answered.ensures in
    carried_is (state_of c.self.inside) p c.push_answered.new.self.items c.apply.new.self.image c.apply.new.self.layout listed (ap (λ (d : Disk). d.image) c.apply.ensures) (ap (λ (d : Disk). d.layout) c.apply.ensures)
    ∙ ap (λ (v : State). carried_out v p) c.self.view_is

pub invariant_of-self : goal.invariant_of-self
invariant_of-self c = record {
  lawful = subst IsLawful (sym (now c)) c.requires.plan.lawful;
  low = c.self.invariant.low;
  high = c.self.invariant.high;
  reserved = omega (arith, c.self.invariant.reserved, ap (λ (l : EntryList). l.room) c.push_answered.ensures);
}

pub returns : goal.returns
returns c = now c
