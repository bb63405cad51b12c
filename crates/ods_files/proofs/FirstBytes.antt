-- The first bytes of blocks, one block after another.
use Rattle.std.proofs.Common.{◌≡◌, ℕ, zero, suc, Bool, true, false, ◌+◌, ◌-◌, ◌*◌, ◌<◌, ◌≤◌, min, List, [], ◌∷◌, ◌++◌, length, take, get_or, refl, sym, ap, ◌∙◌, subst, arith, append_assoc, length-take-le}
use Rattle.std.proofs.Math.Seq.{take-append-add}
use Rattle.std.proofs.lemmas.List.{take-take, length-map, take-append-le}
use Rattle.std.specs.List.{All, concat}
use Rattle.std.specs.Prelude.{nat_lt, if◌then◌else◌}
use Rattle.std.proofs.lemmas.Bool.{ltb-true, lt-ltb}
use Rattle.ods_base.specs.Block.{IsBlock, zeros}
use Rattle.ods_base.specs.Image.{block_at, image_bytes}
use Rattle.ods_base.proofs.Blocks.{IsBlock-zeros}
use Rattle.ods_base.proofs.Images.{length-concat}
use Rattle.ods_space.specs.Files.{AreInside}
use Rattle.ods_mount.specs.Faults.{contents_of}
use Rattle.ods_files.specs.Body.{block_or_zeros, padded}

tail_of : (b : List ℕ) (bs : List (List ℕ)) → All IsBlock (b ∷ bs) → All IsBlock bs
tail_of b bs each k d h = each (suc k) d (omega arith)

-- the first bytes of one block more
pub part_of : (I : List (List ℕ)) (i n : ℕ) → All IsBlock I → i < length I → n ≤ 512 → take (512 * i + n) (concat I) ≡ take (512 * i) (concat I) ++ take n (get_or I i [])
part_of [] i n each inside few = absurd (omega arith)
part_of (b ∷ bs) zero n each inside few =
    let size = (each 0 [] (omega arith)).size in
    let none : 512 * 0 + n ≡ n = omega arith in
    ap (λ m. take m (b ++ concat bs)) none ∙ take-append-le n b (concat bs) (omega arith)
part_of (b ∷ bs) (suc i) n each inside few =
    let size = (each 0 [] (omega arith)).size in
    let rest = part_of bs i n (tail_of b bs each) (omega arith) few in
    let more : 512 * suc i + n ≡ length b + (512 * i + n) = omega arith in
    let so_far : length b + 512 * i ≡ 512 * suc i = omega arith in
    ap (λ m. take m (b ++ concat bs)) more ∙ take-append-add b (concat bs) (512 * i + n) ∙ ap (λ l. b ++ l) rest
    ∙ sym (append_assoc b (take (512 * i) (concat bs)) (take n (get_or bs i [])))
    ∙ ap (λ l. l ++ take n (get_or bs i [])) (sym (take-append-add b (concat bs) (512 * i)) ∙ ap (λ m. take m (b ++ concat bs)) so_far)

-- a block of an image is whole, and so is one of zeros
whole_block : (I : List (List ℕ)) (lbn : ℕ) → All IsBlock I → IsBlock (block_or_zeros I lbn)
whole_block I lbn each = by (nat_lt lbn (length I)) refl
  where
    by : (b : Bool) → nat_lt lbn (length I) ≡ b → IsBlock (if b then block_at I lbn else zeros)
    by true inside = each lbn [] (ltb-true lbn (length I) inside)
    by false past = IsBlock-zeros

-- the blocks are whole
pub whole_blocks : (I : List (List ℕ)) (lbns : List ℕ) → All IsBlock I → All IsBlock (padded I lbns)
whole_blocks I [] each k d h = absurd (omega arith)
whole_blocks I (x ∷ xs) each zero d h = whole_block I x each
whole_blocks I (x ∷ xs) each (suc k) d h = whole_blocks I xs each k d (omega arith)

-- block k is the one at the LBN with that number
pub block_of : (I : List (List ℕ)) (lbns : List ℕ) (k e : ℕ) → k < length lbns → get_or (padded I lbns) k [] ≡ block_or_zeros I (get_or lbns k e)
block_of I [] k e h = absurd (omega arith)
block_of I (x ∷ xs) zero e h = refl
block_of I (x ∷ xs) (suc k) e h = block_of I xs k e (omega arith)

-- the blocks have so many bytes
pub bytes_count : (I : List (List ℕ)) (lbns : List ℕ) → All IsBlock I → length (image_bytes (padded I lbns)) ≡ 512 * length lbns
bytes_count I lbns each = length-concat (padded I lbns) (whole_blocks I lbns each) ∙ ap (λ n. 512 * n) (length-map lbns (block_or_zeros I))

-- block k brings the bytes from 512 k on, of those that are wanted
pub next_bytes : (I : List (List ℕ)) (lbns : List ℕ) (k e size count : ℕ) (block : List ℕ) → All IsBlock I → k < length lbns → 512 * k < size
    → count ≡ min (size - 512 * k) 512 → block ≡ block_or_zeros I (get_or lbns k e)
    → take (512 * k + count) (take size (image_bytes (padded I lbns))) ≡ take (512 * k) (take size (image_bytes (padded I lbns))) ++ take count block
next_bytes I lbns k e size count block each small under is here =
    let B = padded I lbns in
    let within : k < length B = omega (arith, length-map lbns (block_or_zeros I)) in
    let step = part_of B k count (whole_blocks I lbns each) within (omega arith) in
    take-take (512 * k + count) size (concat B) (omega arith) ∙ step
    ∙ ap (λ l. take (512 * k) (concat B) ++ take count l) (block_of I lbns k e small ∙ sym here)
    ∙ ap (λ l. l ++ take count block) (sym (take-take (512 * k) size (concat B) (omega arith)))

-- as many bytes as are wanted
pub sized : (I : List (List ℕ)) (lbns : List ℕ) (size : ℕ) → All IsBlock I → size ≤ 512 * length lbns → length (take size (image_bytes (padded I lbns))) ≡ size
sized I lbns size each few = length-take-le size (image_bytes (padded I lbns)) (omega (arith, bytes_count I lbns each))

-- what block k brings, from where the blocks before it end
pub next_at : (I : List (List ℕ)) (lbns : List ℕ) (k e size count : ℕ) (block : List ℕ) → All IsBlock I → k < length lbns → 512 * k < size
    → count ≡ min (size - 512 * k) 512 → block ≡ block_or_zeros I (get_or lbns k e)
    → (take (min (512 * k) size + count) (take size (image_bytes (padded I lbns))) ≡ take (min (512 * k) size) (take size (image_bytes (padded I lbns))) ++ take count block)
    × (min (512 * k) size + count ≡ min (512 * (k + 1)) size)
next_at I lbns k e size count block each small under is here =
    let bytes = take size (image_bytes (padded I lbns)) in
    let at : 512 * k ≡ min (512 * k) size = omega arith in
    let P : ℕ → Type 0 = λ n. take (n + count) bytes ≡ take n bytes ++ take count block in
    (subst P at (next_bytes I lbns k e size count block each small under is here), omega arith)

-- where all blocks are of the image, none is of zeros
pub inside_blocks : (I : List (List ℕ)) (lbns : List ℕ) → AreInside I lbns → padded I lbns ≡ contents_of I lbns
inside_blocks I [] inside = refl
inside_blocks I (x ∷ xs) inside =
    let first : nat_lt x (length I) ≡ true = lt-ltb x (length I) (inside 0 0 (omega arith)) in
    let rest = inside_blocks I xs (λ j e g. inside (suc j) e (omega arith)) in
    ap (λ b. (if b then block_at I x else zeros) ∷ padded I xs) first ∙ ap (λ l. block_at I x ∷ l) rest
