use Rattle.std.proofs.Common.{◌≡◌, ◌∙◌, ap, arith, take, drop, ◌*◌, ◌+◌, ◌-◌, ◌++◌, ◌∷◌, [], refl}
use Rattle.std.proofs.lemmas.Slice.{pushed}
use Rattle.ods_base.proofs.Images.{none_stored, one_more_stored}
use Rattle.ods_base.proofs.read.store_whole_blocks.Goals as goal

pub loop-i-init : goal.loop-i-init
loop-i-init c = none_stored c.args.blocks.now.items c.args.bytes.now c.requires

pub loop-i-preserved : goal.loop-i-preserved
loop-i-preserved c =
    let size : 512 * c.loop-i.i + 512 - 512 * c.loop-i.i ≡ 512 = omega arith in
    let cut : c.from_slice-block.result ≡ take 512 (drop (512 * c.loop-i.i) c.args.bytes.now) = c.from_slice-block.ensures.value ∙ ap (λ n. take n (drop (512 * c.loop-i.i) c.args.bytes.now)) size in
    let more = one_more_stored c.args.blocks.now.items c.loop-i.blocks.items c.loop-i.i c.args.bytes.now c.from_slice-block.result c.loop-i.invariant c.from_slice-block.ensures.block cut in
    let grown : c.push.new.self.items ≡ c.loop-i.blocks.items ++ c.from_slice-block.result ∷ [] = pushed (c.from_slice-block.result ∷ []) refl c.in_ok-push.was c.push.ensures.items in
    rw grown more
