use Rattle.std.proofs.Common.{ap, ◌∙◌}
use Rattle.ods_base.specs.Block.{with_bytes}
use Rattle.ods_init.specs.Label.{zero_padded}
use Rattle.ods_amend.proofs.LabelSet.{AreLabelSteps, is_relabelled}
use Rattle.ods_amend.proofs.label.with_label.Goals as goal

pub returns : goal.returns
returns c =
    let steps : AreLabelSteps c.args.home.now c.args.label.now c.zero_padded-name.result c.set_bytes.new.self c.renew_sum.new.block c.set_bytes-2.new.self c.renew_sum-2.new.block = record {
      s1 = c.set_bytes.ensures.changed;
      s2 = c.renew_sum.ensures.changed;
      s3 = c.set_bytes-2.ensures.changed ∙ ap (with_bytes c.renew_sum.new.block 472) c.text-text.ensures.value;
      s4 = c.renew_sum-2.ensures.changed;
      k0 = c.bytes.ensures.block;
      k1 = c.set_bytes.ensures.stays;
      k2 = c.renew_sum.ensures.stays;
      k3 = c.set_bytes-2.ensures.stays;
      k4 = c.renew_sum-2.ensures.stays;
      padded = c.zero_padded-name.ensures.value ∙ ap zero_padded c.text-text.ensures.value;
      short = c.zero_padded-name.ensures.size;
      twelve = c.text-text.ensures.label.size;
    } in
    is_relabelled steps
