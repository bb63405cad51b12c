-- The volume in a container: how long it is, and its sectors.
use Rattle.std.proofs.Common.{◌≡◌, ℕ, ◌+◌, ◌-◌, ◌*◌, ◌/◌, ◌%◌, ◌<◌, ◌≤◌, List, ◌++◌, length, take, drop, sym, ap, ◌∙◌, subst, arith, length-drop, length-take-le}
use Rattle.std.proofs.Math.Seq.{drop-append-add}
use Rattle.std.proofs.lemmas.List.{drop-append-le, take-append-le}
use Rattle.ods_base.specs.Image.{IsImage, image_bytes, block_at}
use Rattle.ods_base.proofs.Images.{length-concat}
use Rattle.ods_order.specs.declared.order.Order.{Order}
use Rattle.ods_order.specs.Order.{sector_size, sector_count, block_count, container_size, place}
use Rattle.ods_order.specs.Volumes.{sector_at, sector_of, volume_of}
use Rattle.ods_order.proofs.Places.{inside, sectors_are_blocks, falls_into_block}
use Rattle.ods_order.proofs.Pieces.{piece_of, length-pieces, part_of_block}

-- each sector that the container has is whole
pub length-sector : (order : Order) (container : List ℕ) (n : ℕ) → length container ≡ container_size order → n < sector_count order → length (sector_at order container n) ≡ sector_size order
length-sector order container n size low =
    let within = inside order n low in
    length-take-le (sector_size order) (drop (place order n) container) (omega (arith, length-drop (place order n) container))

-- the bytes of the volume are those of its blocks
pub length-volume : (order : Order) (container : List ℕ) → length container ≡ container_size order → length (volume_of order container) ≡ 512 * block_count order
unfolding volume_of
length-volume order container size =
    length-pieces (sector_at order container) (sector_size order) 0 (sector_count order) (λ m from to. length-sector order container m size (omega arith)) ∙ sectors_are_blocks order

-- sector n of the volume is the one in its place
pub sector_of_volume : (order : Order) (container : List ℕ) (n : ℕ) → length container ≡ container_size order → n < sector_count order →
    sector_of order (volume_of order container) n ≡ sector_at order container n
unfolding volume_of
sector_of_volume order container n size low =
    let here : 0 + n ≡ n = omega arith in
    piece_of (sector_at order container) (sector_size order) 0 (sector_count order) n (λ m from to. length-sector order container m size (omega arith)) low
    ∙ ap (sector_at order container) here

-- sector n of an image, with others behind it, is a part of a block
pub sector_in_block : (order : Order) (I : List (List ℕ)) (behind block : List ℕ) (n z k : ℕ) → z ≡ sector_size order → k ≡ z → block ≡ block_at I (z * n / 512) →
    IsImage I → z * n < 512 * length I → n < sector_count order → take k (drop (z * n % 512) block) ≡ sector_of order (image_bytes I ++ behind) n
sector_in_block order I behind block n z k size same is image within low =
    let falls = falls_into_block order n low in
    let at : ℕ = z * n in
    let P : ℕ → Type 0 = λ s. s * n % 512 + s ≤ 512 in
    let fits : at % 512 + z ≤ 512 = subst P (sym size) falls.within in
    let whole : 512 * (at / 512) + at % 512 ≡ at = omega arith in
    let long : length (image_bytes I) ≡ 512 * length I = length-concat I image.blocks in
    let ends : at + z ≤ length (image_bytes I) = omega arith in
    let rest : z ≤ length (drop at (image_bytes I)) = omega (arith, length-drop at (image_bytes I)) in
    ap (λ m. take m (drop (at % 512) block)) same ∙ ap (λ b. take z (drop (at % 512) b)) is ∙ part_of_block I (at / 512) (at % 512) z image.blocks (omega arith) fits
    ∙ ap (λ i. take z (drop i (image_bytes I))) whole
    ∙ sym (ap (take z) (drop-append-le at (image_bytes I) behind (omega arith)) ∙ take-append-le z (drop at (image_bytes I)) behind rest)
    ∙ ap (λ s. take s (drop (s * n) (image_bytes I ++ behind))) size

-- or of what stands behind it
pub sector_behind : (order : Order) (I : List (List ℕ)) (behind : List ℕ) (n z k end : ℕ) → z ≡ sector_size order → k ≡ z → end ≡ 512 * length I →
    IsImage I → end ≤ z * n → take k (drop (z * n - end) behind) ≡ sector_of order (image_bytes I ++ behind) n
sector_behind order I behind n z k end size same is image past =
    let long : length (image_bytes I) ≡ 512 * length I = length-concat I image.blocks in
    let on : length (image_bytes I) + (z * n - end) ≡ z * n = omega arith in
    ap (λ m. take m (drop (z * n - end) behind)) same ∙ ap (take z) (sym (drop-append-add (image_bytes I) behind (z * n - end)))
    ∙ ap (λ i. take z (drop i (image_bytes I ++ behind))) on ∙ ap (λ s. take s (drop (s * n) (image_bytes I ++ behind))) size
