-- Lists that are joined from pieces of one length, and cut into them again.
use Rattle.std.proofs.Common.{◌≡◌, ℕ, zero, suc, ◌+◌, ◌*◌, ◌<◌, ◌≤◌, List, [], ◌∷◌, ◌++◌, length, take, drop, get_or, refl, sym, ap, ◌∙◌, arith, length-append, length-drop}
use Rattle.std.proofs.Math.Nat.{mul-suc}
use Rattle.std.proofs.Math.Seq.{drop-append-add}
use Rattle.std.proofs.lemmas.List.{append-nil, map-id, take_at, take-append-le, drop-append-le}
use Rattle.std.proofs.lemmas.List.Concat.{flat_map-append}
use Rattle.std.proofs.lemmas.List.FromFn.{map-range_with_len_more}
use Rattle.std.specs.List.{All, concat, flat_map, range_with_len}
use Rattle.ods_base.specs.Block.{IsBlock}
use Rattle.ods_base.proofs.Images.{take_more}

range_push : (n : ℕ) → range_with_len 0 (n + 1) ≡ range_with_len 0 n ++ n ∷ []
range_push n = sym (map-id (range_with_len 0 (n + 1))) ∙ map-range_with_len_more (λ (x : ℕ). x) 0 n n (omega arith) ∙ ap (λ l. l ++ n ∷ []) (map-id (range_with_len 0 n))

-- one piece more at the end
pub pieces_more : (f : ℕ → List ℕ) (n : ℕ) → flat_map f (range_with_len 0 (n + 1)) ≡ flat_map f (range_with_len 0 n) ++ f n
pieces_more f n =
    ap (flat_map f) (range_push n) ∙ flat_map-append f (range_with_len 0 n) (n ∷ []) ∙ ap (λ l. flat_map f (range_with_len 0 n) ++ l) (append-nil (f n))

-- the same pieces are joined to the same list
pub same_pieces : (f g : ℕ → List ℕ) (a n : ℕ) → ((m : ℕ) → a ≤ m → m < a + n → f m ≡ g m) → flat_map f (range_with_len a n) ≡ flat_map g (range_with_len a n)
same_pieces f g a zero same = refl
same_pieces f g a (suc n) same =
    let rest = same_pieces f g (a + 1) n (λ m from to. same m (omega arith) (omega arith)) in
    ap (λ l. l ++ flat_map f (range_with_len (a + 1) n)) (same a (omega arith) (omega arith)) ∙ ap (λ l. g a ++ l) rest

-- the first n pieces of a list are its front
pub front_of_pieces : (z n : ℕ) (xs : List ℕ) → flat_map (λ m. take z (drop (z * m) xs)) (range_with_len 0 n) ≡ take (z * n) xs
front_of_pieces z zero xs = let none : 0 ≡ z * 0 = omega arith in ap (λ k. take k xs) none
front_of_pieces z (suc n) xs =
    let f : ℕ → List ℕ = λ m. take z (drop (z * m) xs) in
    let one : suc n ≡ n + 1 = omega arith in
    ap (λ k. flat_map f (range_with_len 0 k)) one ∙ pieces_more f n ∙ ap (λ l. l ++ f n) (front_of_pieces z n xs)
    ∙ sym (take_more (z * n) z xs) ∙ ap (λ k. take k xs) (sym (mul-suc z n))

-- pieces of z bytes each are as many times z bytes
pub length-pieces : (f : ℕ → List ℕ) (z a n : ℕ) → ((m : ℕ) → a ≤ m → m < a + n → length (f m) ≡ z) → length (flat_map f (range_with_len a n)) ≡ z * n
length-pieces f z a zero size = let none : 0 ≡ z * 0 = omega arith in none
length-pieces f z a (suc n) size =
    let rest = length-pieces f z (a + 1) n (λ m from to. size m (omega arith) (omega arith)) in
    let first = size a (omega arith) (omega arith) in
    length-append (f a) (flat_map f (range_with_len (a + 1) n)) ∙ omega (arith, mul-suc z n)

-- piece k of those from a on
pub piece_of : (f : ℕ → List ℕ) (z a n k : ℕ) → ((m : ℕ) → a ≤ m → m < a + n → length (f m) ≡ z) → k < n →
    take z (drop (z * k) (flat_map f (range_with_len a n))) ≡ f (a + k)
piece_of f z a zero k size low = absurd (omega arith)
piece_of f z a (suc n) zero size low =
    let first = size a (omega arith) (omega arith) in
    let none : z * 0 ≡ 0 = omega arith in
    let here : a ≡ a + 0 = omega arith in
    ap (λ i. take z (drop i (f a ++ flat_map f (range_with_len (a + 1) n)))) none ∙ take_at (f a) (flat_map f (range_with_len (a + 1) n)) z first ∙ ap f here
piece_of f z a (suc n) (suc k) size low =
    let first = size a (omega arith) (omega arith) in
    let rest = piece_of f z (a + 1) n k (λ m from to. size m (omega arith) (omega arith)) (omega arith) in
    let on : z * suc k ≡ length (f a) + z * k = omega (arith, mul-suc z k) in
    let there : a + 1 + k ≡ a + suc k = omega arith in
    ap (λ i. take z (drop i (f a ++ flat_map f (range_with_len (a + 1) n)))) on
    ∙ ap (take z) (drop-append-add (f a) (flat_map f (range_with_len (a + 1) n)) (z * k)) ∙ rest ∙ ap f there

tail_of : (b : List ℕ) (bs : List (List ℕ)) → All IsBlock (b ∷ bs) → All IsBlock bs
tail_of b bs each k d h = each (suc k) d (omega arith)

-- a part of block k stands behind the blocks before it
pub part_of_block : (I : List (List ℕ)) (k from z : ℕ) → All IsBlock I → k < length I → from + z ≤ 512 →
    take z (drop from (get_or I k [])) ≡ take z (drop (512 * k + from) (concat I))
part_of_block [] k from z each low within = absurd (omega arith)
part_of_block (b ∷ bs) zero from z each low within =
    let size = (each 0 [] (omega arith)).size in
    let start : from ≡ 512 * 0 + from = omega arith in
    let long : z ≤ length (drop from b) = omega (arith, length-drop from b) in
    sym (ap (take z) (drop-append-le from b (concat bs) (omega arith)) ∙ take-append-le z (drop from b) (concat bs) long) ∙ ap (λ i. take z (drop i (b ++ concat bs))) start
part_of_block (b ∷ bs) (suc k) from z each low within =
    let size = (each 0 [] (omega arith)).size in
    let rest = part_of_block bs k from z (tail_of b bs each) (omega arith) within in
    let on : 512 * suc k + from ≡ length b + (512 * k + from) = omega arith in
    rest ∙ sym (ap (λ i. take z (drop i (b ++ concat bs))) on ∙ ap (take z) (drop-append-add b (concat bs) (512 * k + from)))
