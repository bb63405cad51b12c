-- The entries of a directory are those of its blocks, 32 in each.
use Rattle.std.proofs.Common.{◌≡◌, ℕ, ◌+◌, ◌*◌, ◌/◌, ◌%◌, ◌<◌, ◌≤◌, ◌-◌, min, zero, suc, Bool, true, false, cond, List, [], ◌∷◌, ◌++◌, length, drop, fold, refl, sym, ap, ◌∙◌, arith}
use Rattle.std.specs.List.{range_with_len}
use Rattle.std.proofs.lemmas.List.{append-nil}
use Rattle.std.proofs.lemmas.List.FromFn.{filter_of_map_range_with_len_more}
use Rattle.ods_base.specs.Image.{block_at}
use Rattle.ods_directory.specs.Entry.{Entry, is_used, entry_in, entry_at}
use Rattle.ods_directory.proofs.Folds.{fold_onward}
use Rattle.ods_directory.proofs.Used.{used_from}

-- entry k of block i
pub entry_of_block : (blocks : List (List ℕ)) (i k : ℕ) → k < 32 → entry_in (block_at blocks i) k ≡ entry_at blocks (32 * i + k)
entry_of_block blocks i k below =
    let position : i ≡ (32 * i + k) / 32 = omega arith in
    let rest : k ≡ (32 * i + k) % 32 = omega arith in
    λ t. entry_in (block_at blocks (position t)) (rest t)

-- a pass that took the entries before block i, and then n of that block
pub one_block_more : {S : Type 0} (after : S → ℕ → Entry → S) (blocks : List (List ℕ)) (b : List ℕ) (s t u : S) (i first n : ℕ) → first ≡ 32 * i → n ≤ 32 → b ≡ block_at blocks i
    → t ≡ fold (λ s k. after s k (entry_at blocks k)) s (range_with_len 0 first)
    → u ≡ fold (λ s k. after s (first + k) (entry_in b k)) t (range_with_len 0 n)
    → u ≡ fold (λ s k. after s k (entry_at blocks k)) s (range_with_len 0 (first + n))
one_block_more after blocks b s t u i first n position few same before now =
    now ∙ ap (λ v. fold (λ s k. after s (first + k) (entry_in b k)) v (range_with_len 0 n)) before
    ∙ fold_onward (λ s k. after s k (entry_at blocks k)) (λ s k. after s (first + k) (entry_in b k)) s first n
    (λ v k below. ap (after v (first + k)) (ap (λ c. entry_in c k) same ∙ entry_of_block blocks i k (omega arith) ∙ ap (λ j. entry_at blocks (j + k)) (sym position)))

kept_append : (b : Bool) (e : Entry) (es fs : List Entry) → cond b (e ∷ (es ++ fs)) (es ++ fs) ≡ cond b (e ∷ es) es ++ fs
kept_append true e es fs = refl
kept_append false e es fs = refl

-- the used entries of two stretches
pub used_from-split : (entry : ℕ → Entry) (a m n : ℕ) → used_from entry a (m + n) ≡ used_from entry a m ++ used_from entry (a + m) n
used_from-split entry a zero n =
    let here : a ≡ a + 0 = omega arith in
    let none : 0 + n ≡ n = omega arith in
    ap (used_from entry a) none ∙ ap (λ j. used_from entry j n) here
used_from-split entry a (suc m) n =
    let more : suc m + n ≡ suc (m + n) = omega arith in
    let position : a + 1 + m ≡ a + suc m = omega arith in
    ap (used_from entry a) more
    ∙ ap (λ es. cond (is_used (entry a)) (entry a ∷ es) es) (used_from-split entry (a + 1) m n ∙ ap (λ j. used_from entry (a + 1) m ++ used_from entry j n) position)
    ∙ kept_append (is_used (entry a)) (entry a) (used_from entry (a + 1) m) (used_from entry (a + suc m) n)

used_alike : (f g : ℕ → Entry) (a b n : ℕ) → ((k : ℕ) → k < n → f (a + k) ≡ g (b + k)) → used_from f a n ≡ used_from g b n
used_alike f g a b zero same = refl
used_alike f g a b (suc n) same =
    let at_a : a ≡ a + 0 = omega arith in
    let at_b : b + 0 ≡ b = omega arith in
    let head : f a ≡ g b = ap f at_a ∙ same 0 (omega arith) ∙ ap g at_b in
    let rest : used_from f (a + 1) n ≡ used_from g (b + 1) n = used_alike f g (a + 1) (b + 1) n (λ k below.
    let left : a + 1 + k ≡ a + (k + 1) = omega arith in
    let right : b + (k + 1) ≡ b + 1 + k = omega arith in
    ap f left ∙ same (k + 1) (omega arith) ∙ ap g right) in
    λ i. cond (is_used (head i)) (head i ∷ rest i) (rest i)

-- the used entries of block i are a stretch of the directory's
pub used_of_block : (blocks : List (List ℕ)) (i n : ℕ) → n ≤ 32 → used_from (entry_in (block_at blocks i)) 0 n ≡ used_from (entry_at blocks) (32 * i) n
used_of_block blocks i n few = used_alike (entry_in (block_at blocks i)) (entry_at blocks) 0 (32 * i) n (λ k below.
    let position : 0 + k ≡ k = omega arith in
    ap (entry_in (block_at blocks i)) position ∙ entry_of_block blocks i k (omega arith))

-- the used entries before the mark and before block i + 1
pub used_before_next : (blocks : List (List ℕ)) (b : List ℕ) (mark i n : ℕ) → b ≡ block_at blocks i → n ≡ min (mark / 16 - 32 * i) 32 → 0 < n
    → used_from (entry_at blocks) 0 (min (32 * (i + 1)) (mark / 16)) ≡ used_from (entry_at blocks) 0 (min (32 * i) (mark / 16)) ++ used_from (entry_in b) 0 n
used_before_next blocks b mark i n same e some =
    let whole : min (32 * (i + 1)) (mark / 16) ≡ 32 * i + n = omega arith in
    let front : 32 * i ≡ min (32 * i) (mark / 16) = omega arith in
    let position : 0 + 32 * i ≡ 32 * i = omega arith in
    ap (used_from (entry_at blocks) 0) whole ∙ used_from-split (entry_at blocks) 0 (32 * i) n
    ∙ ap (λ j. used_from (entry_at blocks) 0 j ++ used_from (entry_at blocks) (0 + 32 * i) n) front
    ∙ ap (λ es. used_from (entry_at blocks) 0 (min (32 * i) (mark / 16)) ++ es)
    (ap (λ j. used_from (entry_at blocks) j n) position ∙ sym (used_of_block blocks i n (omega arith)) ∙ ap (λ c. used_from (entry_in c) 0 n) (sym same))

-- one more entry
used_from_more : (entry : ℕ → Entry) (n : ℕ) → used_from entry 0 (n + 1) ≡ used_from entry 0 n ++ cond (is_used (entry n)) (entry n ∷ []) []
used_from_more entry n = filter_of_map_range_with_len_more is_used entry 0 n n (omega arith)

pub used_from_used : (entry : ℕ → Entry) (n : ℕ) → is_used (entry n) ≡ true → used_from entry 0 (n + 1) ≡ used_from entry 0 n ++ entry n ∷ []
used_from_used entry n used = used_from_more entry n ∙ ap (λ b. used_from entry 0 n ++ cond b (entry n ∷ []) []) used

pub used_from_unused : (entry : ℕ → Entry) (n : ℕ) → is_used (entry n) ≡ false → used_from entry 0 (n + 1) ≡ used_from entry 0 n
used_from_unused entry n unused = used_from_more entry n ∙ ap (λ b. used_from entry 0 n ++ cond b (entry n ∷ []) []) unused ∙ append-nil (used_from entry 0 n)

-- the blocks from i on begin with block i
pub blocks_from : (blocks : List (List ℕ)) (i : ℕ) → i < length blocks → drop i blocks ≡ block_at blocks i ∷ drop (i + 1) blocks
blocks_from [] i within = absurd (omega arith)
blocks_from (b ∷ blocks) zero within = refl
blocks_from (b ∷ blocks) (suc i) within =
    let next : suc (i + 1) ≡ suc i + 1 = omega arith in
    blocks_from blocks i (omega arith) ∙ ap (λ j. block_at blocks i ∷ drop j (b ∷ blocks)) next
