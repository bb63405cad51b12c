-- Ranges of a block, by their bytes.
use Rattle.std.proofs.Common.{◌≡◌, ℕ, ◌+◌, ◌-◌, ◌<◌, ◌≤◌, List, length, take, drop, sym, ◌∙◌, arith}
use Rattle.std.proofs.lemmas.List.{ext_get_or, length-take, length-drop, get_or-take, get_or-drop}
use Rattle.std.specs.Prelude.{slice_range}
use Rattle.ods_base.specs.Block.{byte}

-- a range of a block by its bytes
pub range_is : (b xs : List ℕ) (a e : ℕ) → a + length xs ≡ e → e ≤ length b → ((j : ℕ) → j < length xs → byte b (a + j) ≡ byte xs j) → slice_range b a e ≡ xs
range_is b xs a e size within each =
    let long : length (take (e - a) (drop a b)) ≡ length xs = simp (length-take, length-drop) (omega arith) in
    ext_get_or 0 (take (e - a) (drop a b)) xs long (λ i below. get_or-take (e - a) (drop a b) i 0 (omega arith) ∙ get_or-drop a b i 0 ∙ each i (omega arith))

-- two blocks of one size have a range alike where they have its bytes alike
pub same_range : (b c : List ℕ) (a n : ℕ) → length c ≡ length b → ((j : ℕ) → j < n → byte c (a + j) ≡ byte b (a + j)) → take n (drop a c) ≡ take n (drop a b)
same_range b c a n size each =
    let long : length (take n (drop a c)) ≡ length (take n (drop a b)) = simp (length-take, length-drop) (omega arith) in
    ext_get_or 0 (take n (drop a c)) (take n (drop a b)) long (λ i below.
    let few : i < n = below_take i (drop a c) below in
    get_or-take n (drop a c) i 0 few ∙ get_or-drop a c i 0 ∙ each i few ∙ sym (get_or-drop a b i 0) ∙ sym (get_or-take n (drop a b) i 0 few))
  where
    below_take : (i : ℕ) (xs : List ℕ) → i < length (take n xs) → i < n
    below_take i xs h = omega (arith, length-take n xs)
