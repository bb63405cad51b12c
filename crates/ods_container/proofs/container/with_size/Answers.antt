use Rattle.std.proofs.Common.{◌*◌, List, ℕ, sym, ap, arith, subst}
use Rattle.ods_base.specs.Image.{image_bytes}
use Rattle.ods_container.specs.Container.{HoldsVolume}
use Rattle.ods_container.proofs.Containers.{holds_first, holds_longer}
use Rattle.ods_container.proofs.container.with_size.Goals as goal

pub returns-then-count-len : goal.returns-then-count-len
returns-then-count-len c =
    holds_first c.args.image c.in_ok-image.image c.args.count (512 * c.len.result) c.in_ok-image.behind.items c.len.ensures.image c.len-then-count-len.ensures.image
    (omega (arith, c.if-count-len.true, c.len-2.ensures.value)) c.in_ok-image.ensures.image c.in_ok-image.ensures.behind (ap (λ k. 512 * k) c.len.ensures.value)

pub returns : goal.returns
returns c =
    let n : ℕ = 512 * c.len.result in
    let P : List ℕ → Type 0 = λ rest. HoldsVolume (image_bytes c.args.image) c.args.count c.in_ok-image-2.image rest n in
    subst P (sym c.new.ensures.items)
    (holds_longer c.args.image c.in_ok-image-2.image c.args.count n c.len.ensures.image c.len-3.ensures.image (omega (arith, c.if-count-len.false, c.len-2.ensures.value)) c.in_ok-image-2.ensures (ap (λ k. 512 * k) c.len.ensures.value))
