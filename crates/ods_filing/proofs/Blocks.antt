-- Bytes as blocks: one block, the blocks that are written so far, and the bytes of all.
use Rattle.std.proofs.Common.{◌≡◌, ℕ, zero, suc, ◌+◌, ◌-◌, ◌*◌, ◌<◌, ◌≤◌, min, List, [], ◌∷◌, ◌++◌, length, map, take, drop, set, replicate, refl, sym, ap, ◌∙◌, subst, arith, append_assoc, length-take-le, length-drop, inl, inr}
use Rattle.std.specs.Prelude.{slice_set, ◌⊎◌}
use Rattle.std.specs.List.{concat, range_with_len}
use Rattle.std.proofs.lemmas.List.{append-nil, take-take, take-append-le, drop-append-le, drop-replicate, take-replicate}
use Rattle.std.proofs.lemmas.List.Folds.{concat-append}
use Rattle.std.proofs.lemmas.List.FromFn.{map-range_with_len_more, length-map-range_with_len}
use Rattle.std.proofs.Math.Seq.{take-append-add, take-append_seam, take-add, take-length, set-append_seam}
use Rattle.ods_base.specs.Block.{zeros, with_bytes}
use Rattle.ods_filing.specs.Put.{block_count, block_with, blocks_with, so_far}

-- no zeros are left where the bytes fill the block
drop_zeros : (n : ℕ) → drop n zeros ≡ replicate (512 - n) 0
unfolding zeros
drop_zeros n = drop-replicate n 512 0

take_zeros : (n : ℕ) → n ≤ 512 → take n zeros ≡ replicate n 0
unfolding zeros
take_zeros n few = take-replicate n 512 0 few

-- at most 512 bytes over zeros are these bytes with zeros behind
short : (xs : List ℕ) → length xs ≤ 512 → with_bytes zeros 0 xs ≡ take 512 (xs ++ zeros)
short xs few =
    let start : 0 + length xs ≡ length xs = omega arith in
    let whole : 512 ≡ length xs + (512 - length xs) = omega arith in
    ap (λ n. xs ++ drop n zeros) start ∙ ap (λ l. xs ++ l) (drop_zeros (length xs) ∙ sym (take_zeros (512 - length xs) (omega arith)))
    ∙ sym (take-append-add xs zeros (512 - length xs)) ∙ ap (λ n. take n (xs ++ zeros)) (sym whole)

pub filled : (ys here : List ℕ) → here ≡ take (min (length ys) 512) ys → with_bytes zeros 0 here ≡ take 512 (ys ++ zeros)
filled ys here is = by (cases)
  where
    cases : (length ys ≤ 512) ⊎ (512 < length ys)
    cases = grind arith

    by : (length ys ≤ 512) ⊎ (512 < length ys) → with_bytes zeros 0 here ≡ take 512 (ys ++ zeros)
    by (inl few) =
        let all : min (length ys) 512 ≡ length ys = omega arith in
        let same : here ≡ ys = is ∙ ap (λ n. take n ys) all ∙ take-length ys in
        subst (λ l. with_bytes zeros 0 l ≡ take 512 (ys ++ zeros)) (sym same) (short ys few)
    by (inr many) =
        let first : min (length ys) 512 ≡ 512 = omega arith in
        let same : here ≡ take 512 ys = is ∙ ap (λ n. take n ys) first in
        let size : length (take 512 ys) ≡ 512 = length_is ys many in
        subst (λ l. with_bytes zeros 0 l ≡ take 512 (ys ++ zeros)) (sym same)
        (short (take 512 ys) (omega (arith, size)) ∙ ap (λ n. take n (take 512 ys ++ zeros)) (sym size) ∙ take-append_seam (take 512 ys) zeros ∙ sym (take-append-le 512 ys zeros (omega arith)))
      where
        length_is : (xs : List ℕ) → 512 < length xs → length (take 512 xs) ≡ 512
        length_is xs many = length-take-le 512 xs (omega arith)

-- all of them are written
pub all_so_far : (bytes : List ℕ) → so_far bytes (block_count bytes) (block_count bytes) ≡ blocks_with bytes
all_so_far bytes =
    let none : block_count bytes - block_count bytes ≡ 0 = omega arith in
    ap (λ n. blocks_with bytes ++ replicate n zeros) none ∙ append-nil (blocks_with bytes)

-- one more is written
pub one_more : (bytes : List ℕ) (count k : ℕ) → k < count → slice_set (so_far bytes count k) k (block_with bytes k) ≡ so_far bytes count (k + 1)
one_more bytes count k under =
    let front = map (block_with bytes) (range_with_len 0 k) in
    let size : length front ≡ k = length-map-range_with_len (block_with bytes) 0 k in
    let left : count - k ≡ suc (count - (k + 1)) = omega arith in
    let more = map-range_with_len_more (block_with bytes) 0 k k (omega arith) in
    ap (λ n. set (front ++ replicate n zeros) k (block_with bytes k)) left
    ∙ ap (λ n. set (front ++ zeros ∷ replicate (count - (k + 1)) zeros) n (block_with bytes k)) (sym size)
    ∙ set-append_seam front zeros (replicate (count - (k + 1)) zeros) (block_with bytes k)
    ∙ sym (append_assoc front (block_with bytes k ∷ []) (replicate (count - (k + 1)) zeros))
    ∙ ap (λ l. l ++ replicate (count - (k + 1)) zeros) (sym more)

-- the bytes of the first m blocks
joined : (bytes : List ℕ) (m : ℕ) → 512 * m ≤ length bytes + 511 → concat (map (block_with bytes) (range_with_len 0 m)) ≡ take (512 * m) (bytes ++ zeros)
joined bytes zero within = refl
joined bytes (suc m) within =
    let before = map (block_with bytes) (range_with_len 0 m) in
    let last : suc m ≡ m + 1 = omega arith in
    let more : 512 * suc m ≡ 512 * m + 512 = omega arith in
    ap (λ n. concat (map (block_with bytes) (range_with_len 0 n))) last
    ∙ ap concat (map-range_with_len_more (block_with bytes) 0 m m (omega arith))
    ∙ concat-append before (block_with bytes m ∷ [])
    ∙ ap (λ l. concat before ++ l) (append-nil (block_with bytes m))
    ∙ ap (λ l. l ++ block_with bytes m) (joined bytes m (omega arith))
    ∙ ap (λ l. take (512 * m) (bytes ++ zeros) ++ take 512 l) (sym (drop-append-le (512 * m) bytes zeros (omega arith)))
    ∙ sym (take-add (512 * m) 512 (bytes ++ zeros))
    ∙ ap (λ n. take n (bytes ++ zeros)) (sym more)

-- their blocks begin with the bytes
pub bytes_of_blocks : (bytes : List ℕ) → take (length bytes) (concat (blocks_with bytes)) ≡ bytes
bytes_of_blocks bytes =
    ap (take (length bytes)) (joined bytes (block_count bytes) (omega arith))
    ∙ take-take (length bytes) (512 * block_count bytes) (bytes ++ zeros) (omega arith)
    ∙ take-append_seam bytes zeros

-- all that is left of a list is the rest of it
pub rest_is : (n : ℕ) (xs : List ℕ) → take (length xs - n) (drop n xs) ≡ drop n xs
rest_is n xs = ap (λ m. take m (drop n xs)) (sym (length-drop n xs)) ∙ take-length (drop n xs)
