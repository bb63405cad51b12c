-- The blocks of the volume in a container, each gathered from its sectors.
use Rattle.std.proofs.Common.{◌≡◌, ℕ, ◌+◌, ◌*◌, ◌/◌, ◌<◌, ◌≤◌, List, [], ◌∷◌, ◌++◌, length, take, drop, map, get_or, set, inl, inr, refl, sym, ap, ◌∙◌, subst, arith, append_assoc, length-append, length-take-le, length-set}
use Rattle.std.proofs.lemmas.Bool.{cases_eq}
use Rattle.std.proofs.lemmas.List.{drop-drop, take_all, take_at, get_or-set_same, get_or-set_other}
use Rattle.std.proofs.lemmas.List.Concat.{concat_is}
use Rattle.std.proofs.lemmas.List.FromFn.{fill_by_all}
use Rattle.std.specs.List.{concat, flat_map, range_with_len}
use Rattle.ods_base.specs.Block.{IsBlock, with_bytes}
use Rattle.ods_base.specs.Image.{IsImage, image_bytes, block_at}
use Rattle.ods_base.proofs.Images.{take_more, length-concat}
use Rattle.ods_order.specs.declared.order.Order.{Order}
use Rattle.ods_order.specs.Order.{sector_size, block_count, container_size}
use Rattle.ods_order.specs.Volumes.{sector_at, volume_of, block_in, IsVolumeOf}
use Rattle.ods_order.proofs.Places.{sector_of_block, block_is_whole, volume_inside}
use Rattle.ods_order.proofs.Pieces.{front_of_pieces}
use Rattle.ods_order.proofs.Volumes.{length-sector, length-volume, sector_of_volume}

-- the first k sectors of block lbn are gathered
pub record IsGathered (order : Order) (container : List ℕ) (lbn k : ℕ) (block : List ℕ) : Type 0 where
  pub whole : IsBlock block
  pub front : take (sector_size order * k) block ≡ take (sector_size order * k) (drop (512 * lbn) (volume_of order container))

-- the bytes up to the end of those that were put
front_of_put : (i : ℕ) (b s : List ℕ) → i ≤ length b → take (i + length s) (with_bytes b i s) ≡ take i b ++ s
front_of_put i b s within =
    let size : length (take i b ++ s) ≡ i + length s = length-append (take i b) s ∙ ap (λ n. n + length s) (length-take-le i b within) in
    ap (take (i + length s)) (sym (append_assoc (take i b) s (drop (i + length s) b))) ∙ take_at (take i b ++ s) (drop (i + length s) b) (i + length s) size

-- one sector more
pub one_more_gathered : (order : Order) (container : List ℕ) (lbn k : ℕ) (old sector new : List ℕ) → length container ≡ container_size order → lbn < block_count order → k < 512 / sector_size order →
    sector ≡ sector_at order container (512 / sector_size order * lbn + k) → new ≡ with_bytes old (sector_size order * k) sector → IsBlock new →
    IsGathered order container lbn k old → IsGathered order container lbn (k + 1) new
one_more_gathered order container lbn k old sector new size low few here is block gathered =
    let z : ℕ = sector_size order in
    let n : ℕ = 512 / z * lbn + k in
    let W : List ℕ = drop (512 * lbn) (volume_of order container) in
    let place = sector_of_block order lbn k low few in
    let next : z * k + z ≡ z * (k + 1) = omega arith in
    let long : length sector ≡ z = ap length here ∙ length-sector order container n size place.low in
    let old_size = gathered.whole.size in
    let part : sector ≡ take z (drop (z * k) W) =
    here ∙ sym (sector_of_volume order container n size place.low) ∙ ap (λ i. take z (drop i (volume_of order container))) place.at ∙ ap (take z) (sym (drop-drop (z * k) (512 * lbn) (volume_of order container))) in
    record {
      whole = block;
      front =
          ap (λ i. take i new) (sym next) ∙ ap (λ m. take (z * k + m) new) (sym long) ∙ ap (take (z * k + length sector)) is
          ∙ front_of_put (z * k) old sector (omega (arith, place.fits)) ∙ (λ i. gathered.front i ++ part i) ∙ sym (take_more (z * k) z W) ∙ ap (λ i. take i W) next;
    }

-- the same, by a size that is that of the sectors
pub gathered_next : (order : Order) (container : List ℕ) (lbn k z : ℕ) (old sector new : List ℕ) → z ≡ sector_size order → length container ≡ container_size order → lbn < block_count order → k < 512 / z →
    sector ≡ sector_at order container (512 / z * lbn + k) → new ≡ with_bytes old (z * k) sector → IsBlock new → IsGathered order container lbn k old → IsGathered order container lbn (k + 1) new
gathered_next order container lbn k z old sector new is size low =
    let P : ℕ → Type 0 = λ s. k < 512 / s → sector ≡ sector_at order container (512 / s * lbn + k) → new ≡ with_bytes old (s * k) sector → IsBlock new → IsGathered order container lbn k old → IsGathered order container lbn (k + 1) new in
    subst P (sym is) (λ few. one_more_gathered order container lbn k old sector new size low few)

-- all sectors of the block are gathered
pub all_gathered : (order : Order) (container : List ℕ) (lbn k : ℕ) (block : List ℕ) → k ≡ 512 / sector_size order → IsGathered order container lbn k block → block ≡ block_in (volume_of order container) lbn
all_gathered order container lbn k block all gathered =
    let whole : sector_size order * k ≡ 512 = ap (λ i. sector_size order * i) all ∙ block_is_whole order in
    let size = gathered.whole.size in
    let P : ℕ → Type 0 = λ n. take n block ≡ take n (drop (512 * lbn) (volume_of order container)) in
    sym (take_all 512 block (omega arith)) ∙ subst P whole gathered.front

-- as many bytes as the volume has make an image of as many blocks
pub has_room : (order : Order) (container : List ℕ) (I : List (List ℕ)) (n : ℕ) → length container ≡ container_size order → n ≡ 512 * block_count order → IsImage I → image_bytes I ≡ take n container → length I ≡ block_count order
has_room order container I n size is image bytes =
    let within = volume_inside order in
    let long = length-concat I image.blocks in
    let same : length (image_bytes I) ≡ n = ap length bytes ∙ length-take-le n container (omega arith) in
    omega arith

-- the first n blocks of an image are those of the volume
pub record ArePut (order : Order) (container : List ℕ) (I : List (List ℕ)) (n : ℕ) : Type 0 where
  pub count : length I ≡ block_count order
  pub put : (k : ℕ) → k < n → block_at I k ≡ block_in (volume_of order container) k

-- one block more
pub one_more_put : (order : Order) (container : List ℕ) (I J : List (List ℕ)) (n : ℕ) (block : List ℕ) → n < block_count order → block ≡ block_in (volume_of order container) n → J ≡ set I n block →
    ArePut order container I n → ArePut order container J (n + 1)
one_more_put order container I J n block low here is before =
    let P : List (List ℕ) → Type 0 = λ K. ArePut order container K (n + 1) in
    subst P (sym is) (record {
      count = length-set I n block ∙ before.count;
      put = λ k below. elim (cases_eq k n) [
        | inl same ↦
            let Q : ℕ → Type 0 = λ m. get_or (set I n block) m [] ≡ block_in (volume_of order container) m in
            subst Q (sym same) (get_or-set_same I n block [] (omega (arith, before.count)) ∙ here)
        | inr other ↦ get_or-set_other I n k block [] other ∙ before.put k (omega arith)
      ];
    })

joined : (f : ℕ → List ℕ) (xs : List ℕ) → flat_map (λ (x : List ℕ). x) (map f xs) ≡ flat_map f xs
joined f [] = refl
joined f (x ∷ xs) = ap (λ l. f x ++ l) (joined f xs)

-- all blocks are, so the image is the volume
pub all_put : (order : Order) (container : List ℕ) (I : List (List ℕ)) (n : ℕ) → length container ≡ container_size order → n ≡ block_count order → IsImage I → ArePut order container I n → IsVolumeOf order container I
all_put order container I n size all image are =
    let V : List ℕ = volume_of order container in
    let N : ℕ = block_count order in
    let whole : length V ≤ 512 * N = omega (arith, length-volume order container size) in
    let blocks : I ≡ map (block_in V) (range_with_len 0 N) = fill_by_all (block_in V) I N [] are.count (λ k low. are.put k (omega arith)) in
    record {
      whole = size;
      image = image;
      count = are.count;
      bytes = ap concat blocks ∙ concat_is (map (block_in V) (range_with_len 0 N)) ∙ joined (block_in V) (range_with_len 0 N) ∙ front_of_pieces 512 N V ∙ take_all (512 * N) V whole;
    }
