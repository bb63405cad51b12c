-- Whether a file has a whole chain is decided: a chain has at most 256 headers.
use Rattle.std.proofs.Common.{◌≡◌, ◌≢◌, ℕ, zero, suc, ◌+◌, ◌*◌, ◌%◌, ◌<◌, ◌≤◌, ◌⊎◌, Bool, true, false, List, [], ◌∷◌, ◌++◌, length, get_or, Some, inl, inr, refl, sym, subst, arith}
use Rattle.std.specs.Prelude.{IsTrue}
use Rattle.std.specs.List.{All}
use Rattle.std.proofs.lemmas.Bool.{cases_lt, cases_eq}
use Rattle.ods_base.specs.Block.{word, sum_of}
use Rattle.ods_base.specs.Image.{IsImage}
use Rattle.ods_header.specs.declared.home.Home.{Home}
use Rattle.ods_header.specs.Header.{IsLaidOut, IsValidHeader, ident_word, map_word, used_words_of, most_words_of, number_of, count_size_of, lbn_size_of, segment_of, sequence_of, next_volume_of, next_number_of, next_sequence_of, blocks_of}
use Rattle.ods_space.specs.Layout.{VolumeLayout, header_by, place_by, is_in_use}
use Rattle.ods_space.specs.Chain.{most, IsSegment, Follows}
use Rattle.ods_space.specs.Files.{AreInside, HasBlocks}
use Rattle.ods_space.proofs.Chains.{head_of, same_chain, small_of}

-- a fact that holds or does not
abbrev pub Decided : Type 0 → Type 0
Decided P = P ⊎ (¬ P)

both : {P Q : Type 0} → Decided P → Decided Q → Decided (P × Q)
both (inl p) (inl q) = inl (p, q)
both (inl p) (inr none) = inr (λ x. none x.1)
both (inr none) q = inr (λ x. none x.0)

through : {P Q : Type 0} → (P → Q) → (Q → P) → Decided P → Decided Q
through to back (inl p) = inl (to p)
through to back (inr none) = inr (λ q. none (back q))

decide_le : (a b : ℕ) → Decided (a ≤ b)
decide_le a b = elim (cases_lt b a) [
  | inl less ↦ inr (λ low. (let clash : ⊥ = omega arith in clash))
  | inr low ↦ inl low
]

decide_true : (t : Bool) → Decided (IsTrue t)
decide_true true = inl refl
decide_true false = inr (λ e. let clash : false ≡ true = e in cc)

decide_laid_out : (b : List ℕ) → Decided (IsLaidOut b)
decide_laid_out b = through
    (λ p. record { ident = p.0; map = p.1.0; low = p.1.1.0; even = p.1.1.1.0; room = p.1.1.1.1.0; fits = p.1.1.1.1.1 })
    (λ l. (l.ident, (l.map, (l.low, (l.even, (l.room, l.fits))))))
    (both (decide_le 23 (ident_word b)) (both (decide_le (ident_word b + 23) (map_word b)) (both (decide_le (map_word b) 250) (both (cases_eq (used_words_of b % 2) 0)
    (both (decide_le (used_words_of b) (most_words_of b)) (decide_le (2 * map_word b + 10 + 2 * used_words_of b) 510))))))

decide_valid : (b : List ℕ) (n : ℕ) → Decided (IsValidHeader b n)
decide_valid b n = through
    (λ p. record { header = record { checksum = p.0; numbered = p.1.0; level = p.1.1.0; layout = p.1.1.1.0 }; format = (p.1.1.1.1.0, p.1.1.1.1.1) })
    (λ v. (v.header.checksum, (v.header.numbered, (v.header.level, (v.header.layout, (v.format.0, v.format.1))))))
    (both (cases_eq (word b 255) (sum_of b 255)) (both (cases_eq (number_of b) n) (both (cases_eq (word b 3) 257) (both (decide_laid_out b) (both (cases_eq (count_size_of b) 1) (cases_eq (lbn_size_of b) 3))))))

pub decide_segment : (I : List (List ℕ)) (h : Home) (index : List ℕ) (last n k : ℕ) → Decided (IsSegment I h index last n k)
decide_segment I h index last n k = through
    (λ p. record { first = p.0; last = p.1.0; in_use = p.1.1.0; valid = p.1.1.1.0; segment = p.1.1.1.1 })
    (λ s. (s.first, (s.last, (s.in_use, (s.valid, s.segment)))))
    (both (decide_le 1 n) (both (decide_le n last) (both (decide_true (is_in_use I h n)) (both (decide_valid (header_by I h index n) n) (cases_eq (segment_of (header_by I h index n)) k)))))

module _ (I : List (List ℕ)) (h : Home) (index : List ℕ) (image : IsImage I) where
  abbrev Leads_from : List ℕ → ℕ → ℕ → Type 0
  Leads_from front k n = (others : List ℕ) × (all : List ℕ) × Follows I h (Some index) front k n others all

  -- a chain that goes on has a next header, which this one names
  next_of : (front : List ℕ) (k n : ℕ) (others all : List ℕ) → next_number_of (header_by I h index n) ≢ 0 → Follows I h (Some index) front k n others all
      → (next_volume_of (header_by I h index n) ≡ 0) × ((sequence_of (header_by I h index (next_number_of (header_by I h index n))) ≡ next_sequence_of (header_by I h index n))
      × Leads_from (front ++ blocks_of (header_by I h index n)) (suc k) (next_number_of (header_by I h index n)))
  next_of front k n [] all some f = absurd (some f.1)
  next_of front k n (m ∷ ms) all some f =
      let b = header_by I h index n in
      let P : ℕ → Type 0 = λ x. sequence_of (header_by I h index x) ≡ next_sequence_of b in
      let Q : ℕ → Type 0 = λ x. Leads_from (front ++ blocks_of b) (suc k) x in
      (f.2, (subst P (sym f.1) f.3, subst Q (sym f.1) (ms, all, f.4)))

  -- a chain is this header, and either no next one or a chain from that on
  joined : (front : List ℕ) (k n : ℕ) → Decided (IsSegment I h index (most h (Some index) front) n k) → Decided (next_number_of (header_by I h index n) ≡ 0)
      → Decided ((next_volume_of (header_by I h index n) ≡ 0) × ((sequence_of (header_by I h index (next_number_of (header_by I h index n))) ≡ next_sequence_of (header_by I h index n))
      × Leads_from (front ++ blocks_of (header_by I h index n)) (suc k) (next_number_of (header_by I h index n))))
      → Decided (Leads_from front k n)
  joined front k n (inr none) end rest = inr (λ chain. none (head_of I h (Some index) front k n chain.0 chain.1 chain.2))
  joined front k n (inl good) (inl end) rest = inl ([], front ++ blocks_of (header_by I h index n), (good, end, refl))
  joined front k n (inl good) (inr some) (inl (volume, (sequence, (ms, all, f)))) = inl (next_number_of (header_by I h index n) ∷ ms, all, (good, refl, volume, sequence, f))
  joined front k n (inl good) (inr some) (inr none) = inr (λ chain. none (next_of front k n chain.0 chain.1 some chain.2))

  decide_leads : (fuel : ℕ) (front : List ℕ) (k n : ℕ) → 256 ≤ fuel + k → Decided (Leads_from front k n)
  decide_leads zero front k n far = inr (λ chain.
      let head = head_of I h (Some index) front k n chain.0 chain.1 chain.2 in
      let place = head.segment in
      let small = small_of I (place_by h index n) (2 * map_word (header_by I h index n)) image in
      (let clash : ⊥ = omega arith in clash))
  decide_leads (suc fuel) front k n far =
      let b : List ℕ = header_by I h index n in
      joined front k n (decide_segment I h index (most h (Some index) front) n k) (cases_eq (next_number_of b) 0)
      (both (cases_eq (next_volume_of b) 0) (both (cases_eq (sequence_of (header_by I h index (next_number_of b))) (next_sequence_of b)) (decide_leads fuel (front ++ blocks_of b) (suc k) (next_number_of b) (omega arith))))

decide_inside : (n : ℕ) (xs : List ℕ) → Decided (All (λ x. x < n) xs)
decide_inside n [] = inl (λ i d low. absurd (omega arith))
decide_inside n (x ∷ xs) = through (λ p. each p.0 p.1) (λ all. (all 0 x (omega arith), λ i d low. all (suc i) d (omega arith))) (both (decide_le (suc x) n) (decide_inside n xs))
  where
    each : x < n → All (λ y. y < n) xs → (i : ℕ) (d : ℕ) → i < length (x ∷ xs) → get_or (x ∷ xs) i d < n
    each first rest zero d low = first
    each first rest (suc i) d low = rest i d (omega arith)

-- whether file 2 has a whole chain
pub decide_bitmap : (I : List (List ℕ)) (L : VolumeLayout) → IsImage I → ((blocks : List ℕ) × HasBlocks I L 2 blocks) ⊎ ((blocks : List ℕ) → ¬ HasBlocks I L 2 blocks)
decide_bitmap I L image = elim (decide_leads I L.home L.index image 256 [] 0 2 (omega arith)) [
  | inr none ↦ inr (λ blocks has. none (has.others, blocks, has.whole.chain))
  | inl (others, all, chain) ↦ elim (decide_inside (length I) all) [
    | inl inside ↦ inl (all, record { file = head_of I L.home (Some L.index) [] 0 2 others all chain; others = others; whole = record { chain = chain; inside = inside } })
    | inr past ↦ inr (λ blocks has.
        let same = same_chain I L.home (Some L.index) [] 0 2 has.others blocks others all has.whole.chain chain in
        let P : List ℕ → Type 0 = λ xs. AreInside I xs in
        past (subst P same.1 has.whole.inside))
  ]
]
