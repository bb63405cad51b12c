-- Images over blocks that others share: what each block is, and what a changed block leaves.
use Rattle.std.proofs.Common.{◌≡◌, ◌≢◌, ℕ, zero, suc, ◌+◌, ◌-◌, ◌<◌, ◌≤◌, ◌==◌, cond, List, [], ◌∷◌, ◌++◌, length, set, get_or, refl, sym, ap, subst, ◌∙◌, arith, inl, inr}
use Rattle.std.specs.Prelude.{slice_index}
use Rattle.std.proofs.lemmas.Bool.{cases_eq, ne_eqb}
use Rattle.std.proofs.lemmas.List.{length-set, length_push, get_or-set_same, get_or-set_other, get_or_append_left, get_or_push}
use Rattle.std.proofs.lemmas.List.FromFn.{fill_by_all, length-map-range_with_len, get_or-map-range_with_len}
use Rattle.ods_base.specs.Block.{IsBlock, zeros}
use Rattle.ods_base.specs.Image.{IsImage, block_at}
use Rattle.ods_base.specs.Overlay.{overlaid, overlaid_at, used, IsOverlay, HasReached, IsHeld}

pub length-overlaid : (B : List (List ℕ)) (P : List ℕ) (C : List (List ℕ)) → length (overlaid B P C) ≡ length B
unfolding overlaid
length-overlaid B P C = length-map-range_with_len (overlaid_at B P C) 0 (length B)

pub block_at-overlaid : (B : List (List ℕ)) (P : List ℕ) (C : List (List ℕ)) (lbn : ℕ) → lbn < length B → block_at (overlaid B P C) lbn ≡ overlaid_at B P C lbn
unfolding overlaid
block_at-overlaid B P C lbn inside = get_or-map-range_with_len (overlaid_at B P C) 0 (length B) lbn lbn [] inside (omega arith)

-- the image of these blocks
overlaid_is : (B : List (List ℕ)) (P : List ℕ) (C J : List (List ℕ)) → length J ≡ length B → ((k : ℕ) → k < length B → block_at J k ≡ overlaid_at B P C k) → J ≡ overlaid B P C
unfolding overlaid
overlaid_is B P C J size each = fill_by_all (overlaid_at B P C) J (length B) [] size each

-- nothing changed yet
pub overlaid_none : (B C : List (List ℕ)) → B ≡ overlaid B [] C
overlaid_none B C = overlaid_is B [] C B refl (λ k inside. refl)

-- how many seats are in use
used-le : (P : List ℕ) → used P ≤ length P
used-le [] = omega arith
used-le (zero ∷ ps) = let rest = used-le ps in omega arith
used-le (suc zero ∷ ps) = let rest = used-le ps in omega arith
used-le (suc (suc p) ∷ ps) = let rest = used-le ps in omega arith

used-push : (P : List ℕ) → used (P ++ 0 ∷ []) ≡ used P
used-push [] = refl
used-push (zero ∷ ps) = used-push ps
used-push (suc zero ∷ ps) = used-push ps
used-push (suc (suc p) ∷ ps) = ap suc (used-push ps)

-- a seat that is taken, and one that goes on as that of the zeros
used-set : (P : List ℕ) (k v : ℕ) → k < length P → slice_index P k < 2 → used (set P k (suc (suc v))) ≡ suc (used P)
used-set [] k v inside free = absurd (omega (arith, inside))
used-set (zero ∷ ps) zero v inside free = refl
used-set (suc zero ∷ ps) zero v inside free = refl
used-set (suc (suc p) ∷ ps) zero v inside free = absurd (omega (arith, free))
used-set (zero ∷ ps) (suc k) v inside free = used-set ps k v (omega arith) free
used-set (suc zero ∷ ps) (suc k) v inside free = used-set ps k v (omega arith) free
used-set (suc (suc p) ∷ ps) (suc k) v inside free = ap suc (used-set ps k v (omega arith) free)

used-one : (P : List ℕ) (k : ℕ) → k < length P → slice_index P k < 2 → used (set P k 1) ≡ used P
used-one [] k inside free = refl
used-one (zero ∷ ps) zero inside free = refl
used-one (suc zero ∷ ps) zero inside free = refl
used-one (suc (suc p) ∷ ps) zero inside free = absurd (omega (arith, free))
used-one (zero ∷ ps) (suc k) inside free = used-one ps k (omega arith) free
used-one (suc zero ∷ ps) (suc k) inside free = used-one ps k (omega arith) free
used-one (suc (suc p) ∷ ps) (suc k) inside free = ap suc (used-one ps k (omega arith) free)

-- where a seat is free, there are fewer in use than there are
used-room : (P : List ℕ) (k : ℕ) → k < length P → slice_index P k < 2 → used P < length P
used-room P k inside free = omega (arith, used-set P k 0 inside free, used-le (set P k 2), length-set P k 2)

index-push : (Q : List ℕ) (k : ℕ) → slice_index (Q ++ 0 ∷ []) k ≡ slice_index Q k
index-push [] zero = refl
index-push [] (suc k) = refl
index-push (x ∷ xs) zero = refl
index-push (x ∷ xs) (suc k) = index-push xs k

pub reached_more : (size : ℕ) (P Q : List ℕ) → length Q < size → HasReached size P Q → HasReached size P (Q ++ 0 ∷ [])
reached_more size P Q room reached = record {
  few = λ n enough few. let more = length_push Q 0 in omega arith;
  count = used-push Q ∙ reached.count;
  same = λ k. index-push Q k ∙ reached.same k;
}

-- which block stands at an LBN, by its seat
abbrev chosen : List (List ℕ) → List (List ℕ) → ℕ → ℕ → List ℕ
chosen B C p k = cond (p == 0) (block_at B k) (block_at C (p - 1))

chosen_base : (B C : List (List ℕ)) (p k : ℕ) → p ≡ 0 → chosen B C p k ≡ block_at B k
chosen_base B C p k e = ap (λ q. chosen B C q k) e

chosen_own : (B C : List (List ℕ)) (p k : ℕ) → 0 < p → chosen B C p k ≡ block_at C (p - 1)
chosen_own B C p k some = ap (λ t. cond t (block_at B k) (block_at C (p - 1))) (ne_eqb p 0 (λ e. absurd (omega (arith, e, some))))

-- by its seat, for those who read
module _ (B : List (List ℕ)) (P : List ℕ) (C : List (List ℕ)) (lbn : ℕ) (inside : lbn < length B) where
  pub reads_base : slice_index P lbn ≡ 0 → block_at (overlaid B P C) lbn ≡ block_at B lbn
  reads_base e = block_at-overlaid B P C lbn inside ∙ chosen_base B C (slice_index P lbn) lbn e

  pub reads_own : 0 < slice_index P lbn → block_at (overlaid B P C) lbn ≡ block_at C (slice_index P lbn - 1)
  reads_own some = block_at-overlaid B P C lbn inside ∙ chosen_own B C (slice_index P lbn) lbn some

-- a block more leaves the others
chosen_more : (B C : List (List ℕ)) (b : List ℕ) (p k : ℕ) → p ≤ length C → chosen B (C ++ b ∷ []) p k ≡ chosen B C p k
chosen_more B C b zero k small = refl
chosen_more B C b (suc p) k small =
    chosen_own B (C ++ b ∷ []) (suc p) k (omega arith) ∙ get_or_append_left C (b ∷ []) [] (suc p - 1) (omega (arith, small)) ∙ sym (chosen_own B C (suc p) k (omega arith))

-- another block in place of one leaves those of other seats
chosen_other : (B C : List (List ℕ)) (b : List ℕ) (p q k : ℕ) → (q ≡ p → 0 < q → ⊥) → 0 < p → chosen B (set C (p - 1) b) q k ≡ chosen B C q k
chosen_other B C b p zero k apart some = refl
chosen_other B C b p (suc q) k apart some =
    chosen_own B (set C (p - 1) b) (suc q) k (omega arith) ∙ get_or-set_other C (p - 1) (suc q - 1) b [] (λ e. apart (omega (arith, e, some)) (omega arith)) ∙ sym (chosen_own B C (suc q) k (omega arith))

module _ (n : ℕ) (P Q : List ℕ) (C : List (List ℕ)) (at : ℕ) (b : List ℕ) (old : IsOverlay n P C) (reached : HasReached (at + 1) P Q) (inside : at < n) (within : at < length Q) where
  few : length Q ≤ n
  few = reached.few n (omega arith) old.few

  count : length C ≡ suc (used Q)
  count = old.count ∙ ap suc (sym reached.count)

  each : (k : ℕ) → slice_index Q k ≤ length C
  each k = rw (reached.same k) (old.within k)

  apart : (i k : ℕ) → slice_index Q i ≡ slice_index Q k → 1 < slice_index Q i → i ≡ k
  apart i k e some = old.apart i k (sym (reached.same i) ∙ e ∙ reached.same k) (subst (λ x. 1 < x) (reached.same i) some)

  -- the block at another LBN, as it was
  was : (B : List (List ℕ)) (k : ℕ) → k < length B → k ≢ at → block_at (set (overlaid B P C) at b) k ≡ chosen B C (slice_index Q k) k
  was B k small other =
      get_or-set_other (overlaid B P C) at k b [] other ∙ block_at-overlaid B P C k small
      ∙ ap (λ p. chosen B C p k) (sym (reached.same k))

  -- and at this one
  now : (B : List (List ℕ)) (k : ℕ) → k < length B → k ≡ at → block_at (set (overlaid B P C) at b) k ≡ b
  now B k small e =
      ap (λ x. block_at (set (overlaid B P C) at b) x) e
      ∙ get_or-set_same (overlaid B P C) at b [] (omega (arith, length-overlaid B P C, e, small))

  size : (B : List (List ℕ)) → length (set (overlaid B P C) at b) ≡ length B
  size B = length-set (overlaid B P C) at b ∙ length-overlaid B P C

  -- a block with no seat of its own
  module _ (free : slice_index Q at < 2) where
    -- there is room for one
    pub has_room : length C ≤ n
    has_room = omega (arith, count, used-room Q at within free, few)

  module _ (free : slice_index Q at < 2) (v : ℕ) (last : v ≡ suc (length C)) where
    at_other : (k : ℕ) → k ≢ at → slice_index (set Q at v) k ≡ slice_index Q k
    at_other k other = get_or-set_other Q at k v 0 other

    at_same : (k : ℕ) → k ≡ at → slice_index (set Q at v) k ≡ suc (length C)
    at_same k e = ap (λ x. slice_index (set Q at v) x) e ∙ get_or-set_same Q at v 0 within ∙ last

    pub pushed_overlay : IsOverlay n (set Q at v) (C ++ b ∷ [])
    pushed_overlay = record {
      few = omega (arith, length-set Q at v, few);
      first = get_or_append_left C (b ∷ []) [] 0 (omega (arith, count)) ∙ old.first;
      count =
          length_push C b ∙ omega (arith, count, used-set Q at (used Q) within free, ap (λ x. used (set Q at x)) (last ∙ ap suc count));
      within = λ k. let more = length_push C b in elim (cases_eq k at) [
        | inl e ↦ let s = at_same k e in omega (arith, s, more)
        | inr other ↦ let s = at_other k other in let w = each k in omega (arith, s, w, more)
      ];
      apart = λ i k e some. elim (cases_eq i at) [
        | inl ei ↦ elim (cases_eq k at) [
          | inl ek ↦ ei ∙ sym ek
          | inr nk ↦ let s = at_same i ei in let t = at_other k nk in let w = each k in absurd (omega (arith, s, t, w, e))
        ]
        | inr ni ↦ elim (cases_eq k at) [
          | inl ek ↦ let s = at_same k ek in let t = at_other i ni in let w = each i in absurd (omega (arith, s, t, w, e))
          | inr nk ↦ apart i k (sym (at_other i ni) ∙ e ∙ at_other k nk) (subst (λ x. 1 < x) (at_other i ni) some)
        ]
      ];
    }

    pub pushed_changed : (B : List (List ℕ)) → overlaid B (set Q at v) (C ++ b ∷ []) ≡ set (overlaid B P C) at b
    pushed_changed B = sym (overlaid_is B (set Q at v) (C ++ b ∷ []) (set (overlaid B P C) at b) (size B) at_each)
      where
        at_each : (k : ℕ) → k < length B → block_at (set (overlaid B P C) at b) k ≡ overlaid_at B (set Q at v) (C ++ b ∷ []) k
        at_each k small = elim (cases_eq k at) [
          | inl e ↦ now B k small e ∙ sym (ap (λ p. chosen B (C ++ b ∷ []) p k) (at_same k e) ∙ chosen_own B (C ++ b ∷ []) (suc (length C)) k (omega arith) ∙ get_or_push C b [] (suc (length C) - 1) (omega arith))
          | inr other ↦ was B k small other ∙ sym (chosen_more B C b (slice_index Q k) k (each k)) ∙ ap (λ p. chosen B (C ++ b ∷ []) p k) (sym (at_other k other))
        ]

  -- a block that gets the seat of the zeros
  module _ (free : slice_index Q at < 2) where
    one_other : (k : ℕ) → k ≢ at → slice_index (set Q at 1) k ≡ slice_index Q k
    one_other k other = get_or-set_other Q at k 1 0 other

    one_same : (k : ℕ) → k ≡ at → slice_index (set Q at 1) k ≡ 1
    one_same k e = ap (λ x. slice_index (set Q at 1) x) e ∙ get_or-set_same Q at 1 0 within

    pub zeroed_overlay : IsOverlay n (set Q at 1) C
    zeroed_overlay = record {
      few = omega (arith, length-set Q at 1, few);
      first = old.first;
      count = count ∙ ap suc (sym (used-one Q at within free));
      within = λ k. elim (cases_eq k at) [
        | inl e ↦ let s = one_same k e in omega (arith, s, count)
        | inr other ↦ let s = one_other k other in let w = each k in omega (arith, s, w)
      ];
      apart = λ i k e some. elim (cases_eq i at) [
        | inl ei ↦ let s = one_same i ei in absurd (omega (arith, s, some))
        | inr ni ↦ elim (cases_eq k at) [
          | inl ek ↦ let s = one_same k ek in absurd (omega (arith, s, e, some))
          | inr nk ↦ apart i k (sym (one_other i ni) ∙ e ∙ one_other k nk) (subst (λ x. 1 < x) (one_other i ni) some)
        ]
      ];
    }

    pub zeroed_changed : (B : List (List ℕ)) → b ≡ zeros → overlaid B (set Q at 1) C ≡ set (overlaid B P C) at b
    zeroed_changed B z = sym (overlaid_is B (set Q at 1) C (set (overlaid B P C) at b) (size B) at_each)
      where
        at_each : (k : ℕ) → k < length B → block_at (set (overlaid B P C) at b) k ≡ overlaid_at B (set Q at 1) C k
        at_each k small = elim (cases_eq k at) [
          | inl e ↦ now B k small e ∙ z ∙ sym old.first ∙ sym (ap (λ p. chosen B C p k) (one_same k e))
          | inr other ↦ was B k small other ∙ ap (λ p. chosen B C p k) (sym (one_other k other))
        ]

  -- a block with a seat of its own
  module _ (some : 1 < slice_index Q at) where
    pub in_place : slice_index Q at - 1 < length C
    in_place = omega (arith, each at, some)

    pub renewed_overlay : IsOverlay n Q (set C (slice_index Q at - 1) b)
    renewed_overlay =
        let same = length-set C (slice_index Q at - 1) b in
        record {
          few = few;
          first = get_or-set_other C (slice_index Q at - 1) 0 b [] (λ e. absurd (omega (arith, e, some))) ∙ old.first;
          count = same ∙ count;
          within = λ k. let w = each k in omega (arith, same, w);
          apart = apart;
        }

    pub renewed_changed : (B : List (List ℕ)) → overlaid B Q (set C (slice_index Q at - 1) b) ≡ set (overlaid B P C) at b
    renewed_changed B = sym (overlaid_is B Q (set C (slice_index Q at - 1) b) (set (overlaid B P C) at b) (size B) at_each)
      where
        at_each : (k : ℕ) → k < length B → block_at (set (overlaid B P C) at b) k ≡ overlaid_at B Q (set C (slice_index Q at - 1) b) k
        at_each k small = elim (cases_eq k at) [
          | inl e ↦
              now B k small e
              ∙ sym (ap (λ x. chosen B (set C (slice_index Q at - 1) b) (slice_index Q x) x) e
              ∙ chosen_own B (set C (slice_index Q at - 1) b) (slice_index Q at) at (omega (arith, some))
              ∙ get_or-set_same C (slice_index Q at - 1) b [] in_place)
          | inr other ↦
              was B k small other
              ∙ sym (chosen_other B C b (slice_index Q at) (slice_index Q k) k (λ e more. other (apart k at e (omega (arith, e, some)))) (omega (arith, some)))
        ]

-- an image of these blocks, with nothing changed
pub held_new : (B : List (List ℕ)) (P : List ℕ) (C : List (List ℕ)) (seats own : ℕ) → IsImage B → P ≡ [] → C ≡ zeros ∷ [] → length B ≤ seats → length B < own → IsHeld B P C seats own
held_new B P C seats own image p c seat_room room = rw (p, c) (record {
  image = subst IsImage (overlaid_none B (zeros ∷ [])) image;
  overlay = record { few = omega arith; first = refl; count = refl; within = λ k. omega arith; apart = λ i k e some. absurd (omega (arith, some)) };
  seat_room = seat_room;
  room = room;
})

image_set : (I : List (List ℕ)) (k : ℕ) (b : List ℕ) → IsImage I → IsBlock b → IsImage (set I k b)
image_set I k b image block = record {
  size = rw (length-set I k b) image.size;
  blocks = λ i d inside. let small : i < length I = omega (arith, inside, length-set I k b) in elim (cases_eq i k) [
    | inl e ↦ subst IsBlock (sym (ap (λ x. get_or (set I k b) x d) e ∙ get_or-set_same I k b d (omega (arith, e, small)))) block
    | inr other ↦ subst IsBlock (sym (get_or-set_other I k i b d other)) (image.blocks i d small)
  ];
}

-- with one block changed
pub held_set : (B : List (List ℕ)) (P Q : List ℕ) (C D : List (List ℕ)) (seats own seats2 own2 n at : ℕ) (b : List ℕ) → IsHeld B P C seats own → IsBlock b → n ≡ length B
    → overlaid B Q D ≡ set (overlaid B P C) at b → IsOverlay n Q D → seats2 ≡ seats → own2 ≡ own → IsHeld B Q D seats2 own2
held_set B P Q C D seats own seats2 own2 n at b old block size changed overlay p o = record {
  image = subst IsImage (sym changed) (image_set (overlaid B P C) at b old.image block);
  overlay = subst (λ m. IsOverlay m Q D) size overlay;
  seat_room = rw p old.seat_room;
  room = rw o old.room;
}
