use Rattle.std.proofs.Common.{◌∙◌, refl}
use Rattle.ods_base.specs.Block.{with_bytes}
use Rattle.ods_init.proofs.HomeBuilt.{AreHomeSteps, home_is, text_is_whole}
use Rattle.ods_init.proofs.home.home_block.Goals as goal

pub returns : goal.returns
returns c =
    let W = c.args.blueprint.now in
    let T = c.home_text-text.result in
    let steps : AreHomeSteps T W.places.index_bitmap_size W.places.most_files c.set_bytes.new.self c.set_bytes-2.new.self c.set_bytes-3.new.self c.set_word.new.block c.set_bytes-4.new.self c.set_bytes-5.new.self c.set_bytes-6.new.self c.set_word-2.new.block c.sum-first.result c.sum-second.result = record {
      s0 = c.set_bytes.ensures.changed ∙ (λ i. with_bytes (c.zeros-block.ensures.value i) 0 (c.front.ensures i));
      s1 = c.set_bytes-2.ensures.changed;
      s2 = c.set_bytes-3.ensures.changed;
      one = c.sum-first.ensures;
      s3 = c.set_word.ensures.changed;
      s4 = c.set_bytes-4.ensures.changed;
      s5 = c.set_bytes-5.ensures.changed;
      s6 = c.set_bytes-6.ensures.changed;
      two = c.sum-second.ensures;
      s7 = c.set_word-2.ensures.changed;
      k0 = c.set_bytes.ensures.stays;
      k1 = c.set_bytes-2.ensures.stays;
      k2 = c.set_bytes-3.ensures.stays;
      k3 = c.set_word.ensures.stays;
      k4 = c.set_bytes-4.ensures.stays;
      k5 = c.set_bytes-5.ensures.stays;
      k6 = c.set_bytes-6.ensures.stays;
      k7 = c.set_word-2.ensures.stays;
      whole = text_is_whole W T c.home_text-text.ensures.value c.home_text-text.ensures.name c.home_text-text.ensures.stamp c.home_text-text.ensures.label;
    } in
    home_is steps W c.requires.size.0 c.requires.files.0 refl refl c.home_text-text.ensures.value
