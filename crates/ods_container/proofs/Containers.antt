-- The first blocks of some bytes, with zeros where they end, and the bytes behind them.
use Rattle.std.proofs.Common.{◌≡◌, ℕ, ◌+◌, ◌-◌, ◌*◌, ◌/◌, ◌^◌, ◌<◌, ◌≤◌, List, [], ◌++◌, length, take, drop, replicate, min, Option, inl, inr, refl, sym, ap, ◌∙◌, subst, arith, length-append, length-take, length-drop}
use Rattle.std.proofs.lemmas.Bool.{cases_lt}
use Rattle.std.proofs.lemmas.List.{append-nil, take_all, length-replicate, drop_all}
use Rattle.ods_base.specs.Image.{IsImage, image_bytes}
use Rattle.ods_base.specs.Block.{zeros}
use Rattle.ods_base.proofs.Images.{length-concat, concat_first, concat_behind, concat_longer}
use Rattle.ods_container.specs.Container.{volume_bytes, bytes_behind, blocks_begun, HoldsVolume, IsContained, IsSeen, IsSize}

-- S blocks are 512 * S bytes
pub length-volume : (bytes : List ℕ) (S : ℕ) → length (volume_bytes bytes S) ≡ 512 * S
length-volume bytes S =
    let rest : List ℕ = replicate (512 * S - length bytes) 0 in
    let front : length (take (512 * S) bytes) ≡ min (512 * S) (length bytes) = length-take (512 * S) bytes in
    let zeros : length rest ≡ 512 * S - length bytes = length-replicate (512 * S - length bytes) 0 in
    length-append (take (512 * S) bytes) rest ∙ omega (arith, front, zeros)

-- an image of these bytes has S blocks
pub volume_count : (I : List (List ℕ)) (bytes : List ℕ) (S : ℕ) → IsImage I → image_bytes I ≡ volume_bytes bytes S → length I ≡ S
volume_count I bytes S image is =
    let size = length-concat I image.blocks in
    let same : length (image_bytes I) ≡ 512 * S = ap length is ∙ length-volume bytes S in
    omega arith

-- an image is the volume in its own bytes
pub volume_whole : (I : List (List ℕ)) → IsImage I → image_bytes I ≡ volume_bytes (image_bytes I) (length I)
volume_whole I image =
    let size = length-concat I image.blocks in
    let none : 512 * length I - length (image_bytes I) ≡ 0 = omega arith in
    let all : length (image_bytes I) ≤ 512 * length I = omega arith in
    sym (ap (λ n. take (512 * length I) (image_bytes I) ++ replicate n 0) none ∙ append-nil (take (512 * length I) (image_bytes I)) ∙ take_all (512 * length I) (image_bytes I) all)

-- and nothing stands behind it
pub behind_whole : (I : List (List ℕ)) → IsImage I → [] ≡ bytes_behind (image_bytes I) (length I)
behind_whole I image =
    let size = length-concat I image.blocks in
    let all : length (image_bytes I) ≤ 512 * length I = omega arith in
    sym (drop_all (512 * length I) (image_bytes I) all)

-- it is what is seen of its bytes
pub seen_whole : (I : List (List ℕ)) → IsImage I → IsSeen (image_bytes I) I
seen_whole I image =
    let size = length-concat I image.blocks in
    let few = image.size in
    let begun : length I ≡ blocks_begun (image_bytes I) = omega arith in
    (image, volume_whole I image ∙ ap (volume_bytes (image_bytes I)) begun)

-- the first blocks of an image are a volume in its bytes, and the others stand behind it
pub holds_first : (I J : List (List ℕ)) (S n : ℕ) (rest : List ℕ) → IsImage I → IsImage J → S ≤ length I → J ≡ take S I → rest ≡ image_bytes (drop S I) → n ≡ 512 * length I → HoldsVolume (image_bytes I) S J rest n
holds_first I J S n rest image part few is behind size =
    let long = length-concat I image.blocks in
    let first : image_bytes J ≡ take (512 * S) (image_bytes I) = ap image_bytes is ∙ concat_first I S image.blocks in
    let none : 512 * S - length (image_bytes I) ≡ 0 = omega arith in
    record {
      image = part;
      count = ap length is ∙ length-take S I ∙ omega arith;
      volume = first ∙ sym (ap (λ k. take (512 * S) (image_bytes I) ++ replicate k 0) none ∙ append-nil (take (512 * S) (image_bytes I)));
      behind = behind ∙ concat_behind I S image.blocks;
      size = size ∙ sym long;
    }

-- an image with blocks of zeros behind its own is a volume in its bytes, and nothing stands behind it
pub holds_longer : (I J : List (List ℕ)) (S n : ℕ) → IsImage I → IsImage J → length I ≤ S → J ≡ I ++ replicate (S - length I) zeros → n ≡ 512 * length I → HoldsVolume (image_bytes I) S J [] n
holds_longer I J S n image part few is size =
    let long = length-concat I image.blocks in
    let all : length (image_bytes I) ≤ 512 * S = omega arith in
    let more : 512 * (S - length I) ≡ 512 * S - length (image_bytes I) = omega arith in
    let count : length (replicate (S - length I) zeros) ≡ S - length I = length-replicate (S - length I) zeros in
    record {
      image = part;
      count = ap length is ∙ length-append I (replicate (S - length I) zeros) ∙ omega (arith, count);
      volume =
          ap image_bytes is ∙ concat_longer I (S - length I) ∙ ap (λ k. image_bytes I ++ replicate k 0) more
          ∙ ap (λ l. l ++ replicate (512 * S - length (image_bytes I)) 0) (sym (take_all (512 * S) (image_bytes I) all));
      behind = sym (drop_all (512 * S) (image_bytes I) all);
      size = size ∙ sym long;
    }

-- what holds the volume of these bytes and this size
pub holds_as : (a b : List ℕ) (s t : ℕ) (I : List (List ℕ)) (rest : List ℕ) (n : ℕ) → a ≡ b → s ≡ t → HoldsVolume a s I rest n → HoldsVolume b t I rest n
holds_as a b s t I rest n same size holds =
    let P : List ℕ → Type 0 = λ bytes. HoldsVolume bytes s I rest n in
    let Q : ℕ → Type 0 = λ k. HoldsVolume b k I rest n in
    subst Q size (subst P same holds)

-- the volume of a size that is that of the bytes
pub contained_by : (bytes : List ℕ) (given : Option ℕ) (S : ℕ) (I : List (List ℕ)) (rest : List ℕ) (n : ℕ) → IsSize bytes given S → HoldsVolume bytes S I rest n → IsContained bytes given I rest n
contained_by bytes given S I rest n size holds =
    let P : ℕ → Type 0 = λ k. IsSize bytes given k × HoldsVolume bytes k I rest n in
    subst P (sym holds.count) (size, holds)

-- the bytes of an image
pub image_size : (I : List (List ℕ)) → IsImage I → length (image_bytes I) ≡ 512 * length I
image_size I image = length-concat I image.blocks

-- what was made of the blocks that the bytes begin is what is seen of them
pub seen_begun : (bytes : List ℕ) (n : ℕ) (I : List (List ℕ)) → n ≡ blocks_begun bytes → IsImage I → image_bytes I ≡ volume_bytes bytes n → IsSeen bytes I × (length I ≡ n)
seen_begun bytes n I begun image is = ((image, is ∙ ap (volume_bytes bytes) begun), volume_count I bytes n image is)
