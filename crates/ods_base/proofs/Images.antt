-- Images, block by block.
use Rattle.std.proofs.Common.{◌≡◌, ℕ, zero, suc, ◌+◌, ◌*◌, ◌≤◌, List, [], ◌∷◌, ◌++◌, length, take, drop, replicate, refl, sym, ap, ◌∙◌, arith, append_assoc, length-append, inl, inr}
use Rattle.std.proofs.lemmas.Bool.{cases_lt}
use Rattle.std.proofs.lemmas.List.{append-nil, get_or_append_left, get_or_push, length_push, take-append-drop, take-take, take_all, drop-take, drop_all, replicate-append-replicate}
use Rattle.std.proofs.Math.Seq.{drop-append-add, take-append-add}
use Rattle.std.proofs.lemmas.List.Folds.{concat-append}
use Rattle.std.specs.List.{All, concat}
use Rattle.ods_base.specs.Block.{IsBlock, zeros}

-- the first i blocks of the bytes stand behind the old blocks
pub record AreStored (old blocks : List (List ℕ)) (i : ℕ) (bytes : List ℕ) : Type 0 where
  pub whole : concat blocks ≡ concat old ++ take (512 * i) bytes
  pub count : length blocks ≡ length old + i
  pub each : All IsBlock blocks

concat_push : (bs : List (List ℕ)) (b : List ℕ) → concat (bs ++ b ∷ []) ≡ concat bs ++ b
concat_push [] b = append-nil b
concat_push (x ∷ xs) b = ap (λ l. x ++ l) (concat_push xs b) ∙ sym (append_assoc x (concat xs) b)

All_push : (bs : List (List ℕ)) (b : List ℕ) → All IsBlock bs → IsBlock b → All IsBlock (bs ++ b ∷ [])
All_push bs b each block k d h = elim (cases_lt k (length bs)) [
  | inl below ↦ rw (get_or_append_left bs (b ∷ []) d k below) (each k d below)
  | inr above ↦ let n = length_push bs b in rw (get_or_push bs b d k (omega arith)) block
]

-- a longer front of a list is a shorter one and what follows
pub take_more : (n m : ℕ) (xs : List ℕ) → take (n + m) xs ≡ take n xs ++ take m (drop n xs)
take_more n m xs =
    let within : n ≤ n + m = omega arith in
    sym (take-append-drop n (take (n + m) xs)) ∙ ap (λ l. l ++ drop n (take (n + m) xs)) (take-take n (n + m) xs within) ∙ ap (λ l. take n xs ++ l) (drop-take n m xs)

-- no block is stored yet
pub none_stored : (old : List (List ℕ)) (bytes : List ℕ) → All IsBlock old → AreStored old old 0 bytes
none_stored old bytes each = record { whole = sym (append-nil (concat old)); count = omega arith; each = each }

-- the next 512 bytes are stored
pub one_more_stored : (old blocks : List (List ℕ)) (i : ℕ) (bytes b : List ℕ) → AreStored old blocks i bytes → IsBlock b → b ≡ take 512 (drop (512 * i) bytes) → AreStored old (blocks ++ b ∷ []) (i + 1) bytes
one_more_stored old blocks i bytes b stored block e = record {
  whole =
      concat_push blocks b ∙ ap (λ l. l ++ b) stored.whole ∙ append_assoc (concat old) (take (512 * i) bytes) b
      ∙ ap (λ l. concat old ++ (take (512 * i) bytes ++ l)) e ∙ ap (λ l. concat old ++ l) (sym (take_more (512 * i) 512 bytes))
      ∙ ap (λ n. concat old ++ take n bytes) (omega arith);
  count = length_push blocks b ∙ ap (λ n. n + 1) stored.count ∙ omega arith;
  each = All_push blocks b stored.each block;
}

all_tail : (b : List ℕ) (bs : List (List ℕ)) → All IsBlock (b ∷ bs) → All IsBlock bs
all_tail b bs each k d h = each (suc k) d (omega arith)

-- n lists of 512 bytes have 512 * n bytes
pub concat_sized : (bs : List (List ℕ)) → All (λ b. length b ≡ 512) bs → length (concat bs) ≡ 512 * length bs
concat_sized [] sized = refl
concat_sized (b ∷ bs) sized =
    let size : length b ≡ 512 = sized 0 [] (omega arith) in
    let rest : length (concat bs) ≡ 512 * length bs = concat_sized bs (λ k d small. sized (suc k) d (omega (arith, small))) in
    length-append b (concat bs) ∙ omega (arith, size, rest)

-- an image of n blocks has 512 * n bytes
pub length-concat : (bs : List (List ℕ)) → All IsBlock bs → length (concat bs) ≡ 512 * length bs
length-concat bs each = concat_sized bs (λ k d small. (each k d small).size)

-- the bytes of the first blocks
pub concat_first : (bs : List (List ℕ)) (c : ℕ) → All IsBlock bs → concat (take c bs) ≡ take (512 * c) (concat bs)
concat_first bs zero each = refl
concat_first [] (suc c) each = sym (take_all (512 * suc c) [] (omega arith))
concat_first (b ∷ bs) (suc c) each =
    let size = (each 0 [] (omega arith)).size in
    let more : length b + 512 * c ≡ 512 * suc c = omega arith in
    ap (λ l. b ++ l) (concat_first bs c (all_tail b bs each)) ∙ sym (take-append-add b (concat bs) (512 * c)) ∙ ap (λ n. take n (b ++ concat bs)) more

-- and of those behind them
pub concat_behind : (bs : List (List ℕ)) (c : ℕ) → All IsBlock bs → concat (drop c bs) ≡ drop (512 * c) (concat bs)
concat_behind bs zero each = refl
concat_behind [] (suc c) each = sym (drop_all (512 * suc c) [] (omega arith))
concat_behind (b ∷ bs) (suc c) each =
    let size = (each 0 [] (omega arith)).size in
    let more : length b + 512 * c ≡ 512 * suc c = omega arith in
    concat_behind bs c (all_tail b bs each) ∙ sym (drop-append-add b (concat bs) (512 * c)) ∙ ap (λ n. drop n (b ++ concat bs)) more

-- blocks of zeros are bytes of zeros
pub concat_zeros : (n : ℕ) → concat (replicate n zeros) ≡ replicate (512 * n) 0
unfolding zeros
concat_zeros zero = refl
concat_zeros (suc n) =
    let more : 512 + 512 * n ≡ 512 * suc n = omega arith in
    ap (λ l. replicate 512 0 ++ l) (concat_zeros n) ∙ replicate-append-replicate 512 (512 * n) 0 ∙ ap (λ k. replicate k 0) more

-- an image with blocks of zeros behind its own
pub concat_longer : (bs : List (List ℕ)) (n : ℕ) → concat (bs ++ replicate n zeros) ≡ concat bs ++ replicate (512 * n) 0
concat_longer bs n = concat-append bs (replicate n zeros) ∙ ap (λ l. concat bs ++ l) (concat_zeros n)
