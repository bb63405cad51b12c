-- Where headers change, each file stays that has none of them. This serves every request: H are the headers of the one file whose chain
-- changes, with those that it gains or gives back. Where no chain changes H is empty.
use Rattle.std.proofs.Common.{◌≡◌, ℕ, zero, suc, get_or, ◌+◌, ◌-◌, ◌<◌, refl, ap, sym, ◌∙◌, subst, Bool, true, false, cond, List, [], ◌∷◌, ◌++◌, length, Option, Some, None, arith, inl, inr}
use Rattle.std.specs.Prelude.{◌⊎◌, ◌==◌, nat_le, slice_get}
use Rattle.std.specs.Option.{option_map_or}
use Rattle.std.specs.List.{Contains}
use Rattle.std.proofs.lemmas.Bool.{eqb-true}
use Rattle.ods_space.proofs.Growing.{still_there}
use Rattle.ods_base.specs.Image.{block_at}
use Rattle.ods_header.specs.declared.home.Home.{Home}
use Rattle.ods_header.specs.Header.{blocks_of}
use Rattle.ods_space.specs.Layout.{VolumeLayout, place_by, header_by, last_number}
use Rattle.ods_space.specs.Chain.{Follows, IsChain, index_for}
use Rattle.ods_space.specs.Files.{IsFile, HasBlocks, Holds}
use Rattle.ods_mount.specs.Sound.{IsSoundBy}
use Rattle.ods_state.specs.Links.{SameLinks}
use Rattle.ods_space.proofs.Chains.{same_chain, front_begins}
use Rattle.ods_state.proofs.Links.{LinkedAt, LinkedAlong, itself, linked_chain, linked_segment}

-- each header but those of H links as it did, and has its index bit; and a file whose first header is none of H has none of them
pub record IsLinkedBut (I J : List (List ℕ)) (L : VolumeLayout) (H : ℕ → Type 0) : Type 0 where
  pub long : length J ≡ length I
  pub linked : (n : ℕ) → ¬ H n → LinkedAt I J L.home L.index n
  pub back : (n : ℕ) → ¬ H n → LinkedAt J I L.home L.index n
  pub apart : (n : ℕ) (others blocks : List ℕ) → IsFile I L n → IsChain I L n others blocks → ¬ H n → (m : ℕ) → Contains (n ∷ others) m → ¬ H m

-- the first of a list is one of it, and so is each that is one of the rest
pub first_in : (m : ℕ) (ms : List ℕ) → Contains (m ∷ ms) m
first_in m ms = (zero, omega arith, refl)

pub later_in : (m : ℕ) (ms : List ℕ) (x : ℕ) → Contains ms x → Contains (m ∷ ms) x
later_in m ms x c = (suc c.0, omega (arith, c.1), c.2)

-- a place that is found by the first blocks of INDEXF.SYS stays
same_place : (h : Home) (front rest : List ℕ) (n p : ℕ) (z l : Bool)
    → cond z None (cond l (Some (h.index_bitmap_lbn + h.index_bitmap_size + n - 1)) (slice_get front (1 + h.index_bitmap_size + n))) ≡ Some p
    → cond z None (cond l (Some (h.index_bitmap_lbn + h.index_bitmap_size + n - 1)) (slice_get (front ++ rest) (1 + h.index_bitmap_size + n))) ≡ Some p
same_place h front rest n p true l e = absurd (cc)
same_place h front rest n p false true e = e
same_place h front rest n p false false e = still_there front rest (1 + h.index_bitmap_size + n) p e

-- by the first blocks of INDEXF.SYS a header is not found, or is the one that all of them find
pub by_front : (h : Home) (front rest : List ℕ) (n : ℕ) (o : Option ℕ) → place_by h front n ≡ o
    → (o ≡ None) ⊎ ((X : List (List ℕ)) → header_by X h front n ≡ header_by X h (front ++ rest) n)
by_front h front rest n None e = inl refl
by_front h front rest n (Some p) e = inr (λ X.
    ap (λ q. option_map_or (block_at X) q []) e
    ∙ sym (ap (λ q. option_map_or (block_at X) q []) (same_place h front rest n p (n == 0) (nat_le n 16) e)))

linked_front : (I J : List (List ℕ)) (h : Home) (front rest : List ℕ) (n : ℕ) → LinkedAt I J h (front ++ rest) n → LinkedAt I J h front n
linked_front I J h front rest n a = by_case (by_front h front rest n (place_by h front n) refl)
  where
    by_case : (place_by h front n ≡ None) ⊎ ((X : List (List ℕ)) → header_by X h front n ≡ header_by X h (front ++ rest) n) → LinkedAt I J h front n
    by_case (inl e) = record {
      links = subst (λ o. SameLinks (option_map_or (block_at I) o []) (option_map_or (block_at J) o []) n) (sym e) (itself [] n);
      used = a.used;
    }
    by_case (inr same) = record {
      links = subst (λ b. SameLinks b (header_by J h front n) n) (sym (same I)) (subst (λ c. SameLinks (header_by I h (front ++ rest) n) c n) (sym (same J)) a.links);
      used = a.used;
    }

module _ (I J : List (List ℕ)) (L : VolumeLayout) (S : IsSoundBy I L) (H : ℕ → Type 0) (F : IsLinkedBut I J L H) where
  -- none of these headers is one of H
  abbrev AreFar : ℕ → List ℕ → Type 0
  AreFar n others = (m : ℕ) → Contains (n ∷ others) m → ¬ H m

  along : (front : List ℕ) (n : ℕ) (ms : List ℕ) → AreFar n ms → LinkedAlong I J L.home (Some L.index) front n ms
  along front n [] far = F.linked n (far n (first_in n []))
  along front n (m ∷ ms) far = (F.linked n (far n (first_in n (m ∷ ms))), along (front ++ blocks_of (header_by I L.home L.index n)) m ms (λ x c. far x (later_in n (m ∷ ms) x c)))

  -- the chain of INDEXF.SYS itself, whose headers are found by the blocks before
  along_index : (front : List ℕ) (k n : ℕ) (ms : List ℕ) → Follows I L.home None front k n ms L.index → AreFar n ms → LinkedAlong I J L.home None front n ms
  along_index front k n [] f far =
      let r = front_begins I L.home None front k n [] L.index f in
      linked_front I J L.home front r.0 n (subst (λ i. LinkedAt I J L.home i n) r.1 (F.linked n (far n (first_in n []))))
  along_index front k n (m ∷ ms) f far =
      let r = front_begins I L.home None front k n (m ∷ ms) L.index f in (
        linked_front I J L.home front r.0 n (subst (λ i. LinkedAt I J L.home i n) r.1 (F.linked n (far n (first_in n (m ∷ ms))))),
        along_index (front ++ blocks_of (header_by I L.home front n)) (suc k) m ms f.4 (λ x c. far x (later_in n (m ∷ ms) x c)),
      )

  chain_by : (n : ℕ) (others blocks : List ℕ) (z : Bool) → (n == 1) ≡ z → AreFar n others
      → Follows I L.home (cond z None (Some L.index)) [] 0 n others blocks → Follows J L.home (cond z None (Some L.index)) [] 0 n others blocks
  chain_by n others blocks false e far f = linked_chain I J L.home (Some L.index) [] 0 n others blocks (along [] n others far) f
  chain_by n others blocks true e far f =
      let one : n ≡ 1 = eqb-true n 1 e in
      let at_one : Follows I L.home None [] 0 1 others blocks = subst (λ m. Follows I L.home None [] 0 m others blocks) one f in
      let is : blocks ≡ L.index = (same_chain I L.home None [] 0 1 others blocks S.layout.index.others L.index at_one S.layout.index.whole.chain).1 in
      let to_index : Follows I L.home None [] 0 1 others L.index = subst (λ bs. Follows I L.home None [] 0 1 others bs) is at_one in
      subst (λ m. Follows J L.home None [] 0 m others blocks) (sym one)
      (linked_chain I J L.home None [] 0 1 others blocks (along_index [] 0 1 others to_index (subst (λ m. AreFar m others) one far)) at_one)

  -- a chain without a header of H stays
  pub chain_stays : (n : ℕ) (others blocks : List ℕ) → AreFar n others → IsChain I L n others blocks → IsChain J L n others blocks
  chain_stays n others blocks far c = chain_by n others blocks (n == 1) refl far c

  pub file_stays : (n : ℕ) → ¬ H n → IsFile I L n → IsFile J L n
  file_stays n far f = linked_segment I J L.home L.index (last_number L) n 0 (F.linked n far) f

  pub file_was : (n : ℕ) → ¬ H n → IsFile J L n → IsFile I L n
  file_was n far f = linked_segment J I L.home L.index (last_number L) n 0 (F.back n far) f

  -- the blocks of a file whose first header is none of H are as before
  pub blocks_stay : (n : ℕ) (blocks : List ℕ) → ¬ H n → HasBlocks I L n blocks → HasBlocks J L n blocks
  blocks_stay n blocks far b = record {
    file = file_stays n far b.file;
    others = b.others;
    whole = record {
      chain = chain_stays n b.others blocks (F.apart n b.others blocks b.file b.whole.chain far) b.whole.chain;
      inside = subst (λ k. (i : ℕ) (d : ℕ) → i < length blocks → get_or blocks i d < k) (sym F.long) b.whole.inside;
    };
  }

  -- its chain was its chain
  pub chain_was : (n : ℕ) (others blocks : List ℕ) → ¬ H n → IsFile J L n → IsChain J L n others blocks → IsChain I L n others blocks × HasBlocks I L n blocks
  chain_was n others blocks far f c =
      let old = S.chains n (file_was n far f) in
      let chain : IsChain I L n old.1.others old.0 = old.1.whole.chain in
      let now = chain_stays n old.1.others old.0 (F.apart n old.1.others old.0 old.1.file chain far) chain in
      let is = same_chain J L.home (index_for L n) [] 0 n old.1.others old.0 others blocks now c in
      (subst (λ ms. IsChain I L n ms blocks) is.0 (subst (λ bs. IsChain I L n old.1.others bs) is.1 chain), subst (λ bs. HasBlocks I L n bs) is.1 old.1)

  pub blocks_were : (n : ℕ) (blocks : List ℕ) → ¬ H n → HasBlocks J L n blocks → HasBlocks I L n blocks
  blocks_were n blocks far b = (chain_was n b.others blocks far b.file b.whole.chain).1

  pub holds_stays : (n v x : ℕ) → ¬ H n → Holds I L n v x → Holds J L n v x
  holds_stays n v x far h = record { blocks = h.blocks; file = blocks_stay n h.blocks far h.file; first = h.first; named = h.named }

  pub held_before : (n v x : ℕ) → ¬ H n → Holds J L n v x → Holds I L n v x
  held_before n v x far h = record { blocks = h.blocks; file = blocks_were n h.blocks far h.file; first = h.first; named = h.named }
