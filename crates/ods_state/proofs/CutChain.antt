-- A chain that is cut behind one of its headers: the numbers before and behind are apart, and it ends there.
use Rattle.std.proofs.Common.{◌≡◌, ◌≢◌, ℕ, zero, suc, ◌+◌, ◌-◌, ◌*◌, ◌<◌, ◌≤◌, refl, ap, sym, ◌∙◌, subst, List, [], ◌∷◌, ◌++◌, length, take, drop, get_or, Option, Some, None, arith, inl, inr}
use Rattle.std.specs.Prelude.{◌⊎◌}
use Rattle.std.specs.List.{All, Contains, flat_map}
use Rattle.std.proofs.lemmas.List.{append_assoc, append-nil, length-append, take-append-le}
use Rattle.std.proofs.Math.Seq.{take-append-add}
use Rattle.std.proofs.lemmas.Grind.{flat_map-append}
use Rattle.std.proofs.lemmas.List.Elements.{All-append}
use Rattle.ods_header.specs.declared.header.Run.{Run}
use Rattle.ods_header.specs.Header.{blocks_of, run_blocks, runs_of, segment_of, sequence_of, next_number_of, next_sequence_of, next_volume_of}
use Rattle.ods_header.specs.Cutting.{first_runs}
use Rattle.ods_header.proofs.Cutting.{each_maps, first_behind}
use Rattle.ods_space.specs.Layout.{VolumeLayout, header_at, last_number}
use Rattle.ods_space.specs.Chain.{Follows, IsSegment}
use Rattle.ods_space.proofs.Chains.{head_of}
use Rattle.ods_alloc.specs.Extend.{chain_runs}
use Rattle.ods_state.specs.Cutting.{mapped_by}
use Rattle.ods_state.proofs.Links.{LinkedAt, linked_segment}
use Rattle.ods_state.proofs.OnlyBookkeeping.{first_or_later}
use Rattle.ods_state.proofs.Taken.{none_empty}

-- what is in a list stands between two parts of it
pub parted : (xs : List ℕ) (x : ℕ) → Contains xs x → (a : List ℕ) × (b : List ℕ) × (xs ≡ a ++ x ∷ b)
parted [] x c = absurd (none_empty x c)
parted (y ∷ ys) x c = elim (first_or_later y ys x c) [
  | inl is ↦ ([], ys, ap (λ z. z ∷ ys) is)
  | inr later ↦ let rest = parted ys x later in (y ∷ rest.0, rest.1, ap (λ l. y ∷ l) rest.2)
]

-- each header of a chain is the segment of its place
pub segment_in : (I : List (List ℕ)) (L : VolumeLayout) (front : List ℕ) (k n : ℕ) (ms all : List ℕ) → Follows I L.home (Some L.index) front k n ms all
    → (xs ys : List ℕ) (m : ℕ) → n ∷ ms ≡ xs ++ m ∷ ys → segment_of (header_at I L m) ≡ k + length xs
segment_in I L front k n ms all f [] ys m is =
    let same : n ≡ m = ap (λ l. get_or l 0 0) is in
    let here = (head_of I L.home (Some L.index) front k n ms all f).segment in
    let none : k ≡ k + 0 = omega arith in
    ap (λ x. segment_of (header_at I L x)) (sym same) ∙ here ∙ none
segment_in I L front k n [] all f (x ∷ xs) ys m is = absurd (let long = ap length is in let more = length-append xs (m ∷ ys) in omega (arith, long, more))
segment_in I L front k n (y ∷ zs) all f (x ∷ xs) ys m is =
    let next : suc k + length xs ≡ k + suc (length xs) = omega arith in
    segment_in I L (front ++ blocks_of (header_at I L n)) (suc k) y zs all f.4 xs ys m (ap (drop 1) is) ∙ next

-- so none stands twice
pub chain_once : (I : List (List ℕ)) (L : VolumeLayout) (front : List ℕ) (k n : ℕ) (ms all : List ℕ) → Follows I L.home (Some L.index) front k n ms all
    → (xs ys : List ℕ) (x : ℕ) → n ∷ ms ≡ xs ++ ys → Contains xs x → Contains ys x → ⊥
chain_once I L front k n ms all f xs ys x is before behind =
    let p = parted xs x before in
    let q = parted ys x behind in
    let one = segment_in I L front k n ms all f p.0 (p.1 ++ ys) x (is ∙ ap (λ l. l ++ ys) p.2 ∙ append_assoc p.0 (x ∷ p.1) ys) in
    let two = segment_in I L front k n ms all f (xs ++ q.0) q.1 x (is ∙ ap (λ l. xs ++ l) q.2 ∙ sym (append_assoc xs q.0 (x ∷ q.1))) in
    let long = length-append xs q.0 in
    let parts = ap length p.2 ∙ length-append p.0 (x ∷ p.1) in
    absurd (omega (arith, one, two, long, parts))

-- the blocks of a chain are those that its headers name
pub chain_maps : (I : List (List ℕ)) (L : VolumeLayout) (front : List ℕ) (k n : ℕ) (ms all : List ℕ) → Follows I L.home (Some L.index) front k n ms all → all ≡ front ++ mapped_by I L (n ∷ ms)
chain_maps I L front k n [] all f = f.2 ∙ ap (λ l. front ++ l) (sym (append-nil (blocks_of (header_at I L n))))
chain_maps I L front k n (m ∷ ms) all f =
    chain_maps I L (front ++ blocks_of (header_at I L n)) (suc k) m ms all f.4 ∙ append_assoc front (blocks_of (header_at I L n)) (mapped_by I L (m ∷ ms))

-- headers that stay map what they did
pub mapped_same : (I J : List (List ℕ)) (L : VolumeLayout) (xs : List ℕ) → ((m : ℕ) → Contains xs m → header_at J L m ≡ header_at I L m) → mapped_by J L xs ≡ mapped_by I L xs
mapped_same I J L [] same = refl
mapped_same I J L (x ∷ xs) same =
    (λ i. blocks_of (same x (zero, omega arith, refl) i) ++ mapped_by J L xs)
    ∙ ap (λ l. blocks_of (header_at I L x) ++ l) (mapped_same I J L xs (λ m c. same m (suc c.0, omega (arith, c.1), c.2)))

pub runs_same : (I J : List (List ℕ)) (L : VolumeLayout) (xs : List ℕ) → ((m : ℕ) → Contains xs m → header_at J L m ≡ header_at I L m) → chain_runs J L xs ≡ chain_runs I L xs
runs_same I J L [] same = refl
runs_same I J L (x ∷ xs) same =
    (λ i. runs_of (same x (zero, omega arith, refl) i) ++ chain_runs J L xs)
    ∙ ap (λ l. runs_of (header_at I L x) ++ l) (runs_same I J L xs (λ m c. same m (suc c.0, omega (arith, c.1), c.2)))

-- the first part of a list of two parts, and what it is when it ends in the second
pub take_within : (xs ys zs : List ℕ) (count : ℕ) → length xs ≤ count → count ≤ length (xs ++ ys) → take count (xs ++ (ys ++ zs)) ≡ xs ++ take (count - length xs) ys
take_within xs ys zs count low high =
    let long = length-append xs ys in
    let whole : count ≡ length xs + (count - length xs) = omega (arith, low) in
    ap (λ k. take k (xs ++ (ys ++ zs))) whole ∙ take-append-add xs (ys ++ zs) (count - length xs)
    ∙ ap (λ l. xs ++ l) (take-append-le (count - length xs) ys zs (omega (arith, low, high, long)))

-- What stays of a chain up to its last header, where each header before that one stays, and that one is the same segment and names no next one.
module _ (I J : List (List ℕ)) (L : VolumeLayout) (last : ℕ) (gone : List ℕ)
    (sequences : (m : ℕ) → sequence_of (header_at J L m) ≡ sequence_of (header_at I L m))
    (ends : (k : ℕ) → IsSegment I L.home L.index (last_number L) last k → IsSegment J L.home L.index (last_number L) last k)
    (none : next_number_of (header_at J L last) ≡ 0) where
  pub cut_follows : (xs front : List ℕ) (k n : ℕ) (ms all : List ℕ) → n ∷ ms ≡ xs ++ last ∷ gone → ((m : ℕ) → Contains xs m → LinkedAt I J L.home L.index m)
      → Follows I L.home (Some L.index) front k n ms all
      → (ks : List ℕ) × (n ∷ ks ≡ xs ++ last ∷ []) × Follows J L.home (Some L.index) front k n ks (front ++ mapped_by J L (n ∷ ks))
  cut_follows [] front k n ms all is linked f =
      let same : n ≡ last = ap (λ l. get_or l 0 0) is in
      let head : IsSegment I L.home L.index (last_number L) n k = head_of I L.home (Some L.index) front k n ms all f in (
        [],
        ap (λ x. x ∷ []) same,
        (
          subst (λ x. IsSegment J L.home L.index (last_number L) x k) (sym same) (ends k (subst (λ x. IsSegment I L.home L.index (last_number L) x k) same head)),
          ap (λ x. next_number_of (header_at J L x)) same ∙ none,
          ap (λ l. front ++ l) (append-nil (blocks_of (header_at J L n))),
        ),
      )
  cut_follows (x ∷ xs) front k n [] all is linked f = absurd (let long = ap length is in let more = length-append xs (last ∷ gone) in omega (arith, long, more))
  cut_follows (x ∷ xs) front k n (m ∷ ms) all is linked f =
      let same : n ≡ x = ap (λ l. get_or l 0 0) is in
      let here : LinkedAt I J L.home L.index n = linked n (zero, omega arith, sym same) in
      let old = blocks_of (header_at I L n) in
      let rest = cut_follows xs (front ++ old) (suc k) m ms all (ap (drop 1) is) (λ y c. linked y (suc c.0, omega (arith, c.1), c.2)) f.4 in
      let blocks : blocks_of (header_at J L n) ≡ old = here.links.blocks in
      let all_now : front ++ old ++ mapped_by J L (m ∷ rest.0) ≡ front ++ mapped_by J L (n ∷ m ∷ rest.0) = append_assoc front old (mapped_by J L (m ∷ rest.0)) ∙ ap (λ b. front ++ (b ++ mapped_by J L (m ∷ rest.0))) (sym blocks) in (
        m ∷ rest.0,
        (λ i. same i ∷ rest.1 i),
        (
          linked_segment I J L.home L.index (last_number L) n k here f.0,
          here.links.next_number ∙ f.1,
          here.links.next_volume ∙ f.2,
          sequences m ∙ f.3 ∙ sym here.links.next_sequence,
          subst (λ b. Follows J L.home (Some L.index) (front ++ b) (suc k) m rest.0 (front ++ mapped_by J L (n ∷ m ∷ rest.0))) (sym blocks)
              (subst (Follows J L.home (Some L.index) (front ++ old) (suc k) m rest.0) all_now rest.2),
        ),
      )

-- the blocks of a chain's pointers, each of which maps one
runs_map : (I : List (List ℕ)) (L : VolumeLayout) (xs : List ℕ) → flat_map run_blocks (chain_runs I L xs) ≡ mapped_by I L xs
runs_map I L [] = refl
runs_map I L (x ∷ xs) = flat_map-append run_blocks (runs_of (header_at I L x)) (chain_runs I L xs) ∙ ap (λ l. blocks_of (header_at I L x) ++ l) (runs_map I L xs)

all_map : (I : List (List ℕ)) (L : VolumeLayout) (xs : List ℕ) → All (λ (r : Run). 1 ≤ r.count) (chain_runs I L xs)
all_map I L [] = λ k d within. absurd (omega (arith, within))
all_map I L (x ∷ xs) = All-append (λ (r : Run). 1 ≤ r.count) (runs_of (header_at I L x)) (chain_runs I L xs) (each_maps (header_at I L x)) (all_map I L xs)

-- the pointers of a chain that is cut
pub runs_cut : (I : List (List ℕ)) (L : VolumeLayout) (xs : List ℕ) (more : List Run) (count : ℕ) → length (mapped_by I L xs) ≤ count
    → first_runs count (chain_runs I L xs ++ more) ≡ chain_runs I L xs ++ first_runs (count - length (mapped_by I L xs)) more
runs_cut I L xs more count few =
    first_behind count (chain_runs I L xs) more (all_map I L xs) (omega (arith, few, ap length (runs_map I L xs)))
    ∙ ap (λ l. chain_runs I L xs ++ first_runs (count - length l) more) (runs_map I L xs)
