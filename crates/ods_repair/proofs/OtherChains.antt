-- Where one first header changes in its pointers, each other chain stays, and its own has the same headers.
use Rattle.std.proofs.Common.{◌≡◌, ◌≢◌, ℕ, suc, ◌<◌, ◌≤◌, refl, ap, sym, ◌∙◌, subst, Bool, true, false, cond, List, [], ◌∷◌, ◌++◌, length, get_or, Some, None, arith, inl, inr}
use Rattle.std.specs.Prelude.{◌⊎◌, ◌==◌}
use Rattle.std.specs.Option.{option_map_or}
use Rattle.std.proofs.lemmas.Bool.{eqb-true, ne_eqb}
use Rattle.std.proofs.lemmas.List.{append_assoc, append-nil}
use Rattle.ods_base.specs.Image.{block_at}
use Rattle.ods_header.specs.Header.{IsValidHeader, blocks_of, segment_of}
use Rattle.ods_space.specs.Layout.{VolumeLayout, header_at, header_by, last_number, place_by}
use Rattle.ods_space.specs.Chain.{Follows, IsChain, IsSegment}
use Rattle.ods_space.specs.Files.{HasBlocks, IsFile}
use Rattle.ods_space.proofs.Chains.{front_begins, same_chain}
use Rattle.ods_state.proofs.Chains.{by_front}
use Rattle.ods_state.proofs.Links.{LinkedAlong, LinkedAt, linked_chain, linked_first, linked_segment}
use Rattle.ods_state.specs.Links.{SameLinks}
use Rattle.ods_repair.specs.Repointed.{KeepsFile}
use Rattle.ods_repair.proofs.Repointed.{same_next_number, same_next_sequence, same_next_volume}

-- the same chain, whatever was named before it
other_front : (X : List (List ℕ)) (L : VolumeLayout) (front other : List ℕ) (k q : ℕ) (ms all : List ℕ) → Follows X L.home (Some L.index) front k q ms all
    → (rest : List ℕ) × (all ≡ front ++ rest) × Follows X L.home (Some L.index) other k q ms (other ++ rest)
other_front X L front other k q [] all f = (blocks_of (header_at X L q), f.2, (f.0, f.1, refl))
other_front X L front other k q (m ∷ ms) all f =
    let bs : List ℕ = blocks_of (header_at X L q) in
    let next = other_front X L (front ++ bs) (other ++ bs) (suc k) m ms all f.4 in (
      bs ++ next.0,
      next.1 ∙ append_assoc front bs next.0,
      (f.0, f.1, f.2, f.3, subst (λ l. Follows X L.home (Some L.index) (other ++ bs) (suc k) m ms l) (append_assoc other bs next.0) next.2),
    )

module _ (X Y : List (List ℕ)) (L : VolumeLayout) (n : ℕ) (linked : (q : ℕ) → q ≢ n → LinkedAt X Y L.home L.index q) (first : segment_of (header_at X L n) ≡ 0) (index : HasBlocks X L 1 L.index) where
  -- a later header of a chain is not n, which is a first one
  is_other : (k q : ℕ) → segment_of (header_at X L q) ≡ k → (k ≢ 0) ⊎ (q ≢ n) → q ≢ n
  is_other k q at (inr other) = other
  is_other k q at (inl later) = λ e. absurd (later (sym at ∙ ap (λ z. segment_of (header_at X L z)) e ∙ first))

  along : (front : List ℕ) (k q : ℕ) (ms all : List ℕ) → Follows X L.home (Some L.index) front k q ms all → (k ≢ 0) ⊎ (q ≢ n) → LinkedAlong X Y L.home (Some L.index) front q ms
  along front k q [] all f o = linked q (is_other k q f.0.segment o)
  along front k q (m ∷ ms) all f o =
      (linked q (is_other k q f.0.segment o), along (front ++ blocks_of (header_at X L q)) (suc k) m ms all f.4 (inl (λ e. absurd (omega (arith, e)))))

  -- by the first blocks of INDEXF.SYS too
  linked_front : (front rest : List ℕ) (k q : ℕ) → L.index ≡ front ++ rest → IsValidHeader (header_by X L.home front q) q → segment_of (header_by X L.home front q) ≡ k → 1 ≤ q → (k ≢ 0) ⊎ (q ≢ n)
      → LinkedAt X Y L.home front q
  linked_front front rest k q is valid at some o = by_case (by_front L.home front rest q (place_by L.home front q) refl)
    where
      by_case : (place_by L.home front q ≡ None) ⊎ ((Z : List (List ℕ)) → header_by Z L.home front q ≡ header_by Z L.home (front ++ rest) q) → LinkedAt X Y L.home front q
      by_case (inl e) =
          let none : IsValidHeader [] q = subst (λ o. IsValidHeader (option_map_or (block_at X) o []) q) e valid in
          let clash : 0 ≡ q = none.header.numbered in
          absurd (omega (arith, clash, some))
      by_case (inr same) =
          let here : (Z : List (List ℕ)) → header_by Z L.home front q ≡ header_at Z L q = λ Z. same Z ∙ sym (ap (λ xs. header_by Z L.home xs q) is) in
          let link : LinkedAt X Y L.home L.index q = linked q (is_other k q (ap segment_of (sym (here X)) ∙ at) o) in
          record {
            links = subst (λ b. SameLinks b (header_by Y L.home front q) q) (sym (here X)) (subst (λ c. SameLinks (header_at X L q) c q) (sym (here Y)) link.links);
            used = link.used;
          }

  along_index : (front : List ℕ) (k q : ℕ) (ms : List ℕ) → Follows X L.home None front k q ms L.index → (k ≢ 0) ⊎ (q ≢ n) → LinkedAlong X Y L.home None front q ms
  along_index front k q [] f o = let r = front_begins X L.home None front k q [] L.index f in linked_front front r.0 k q r.1 f.0.valid f.0.segment f.0.first o
  along_index front k q (m ∷ ms) f o =
      let r = front_begins X L.home None front k q (m ∷ ms) L.index f in (
        linked_front front r.0 k q r.1 f.0.valid f.0.segment f.0.first o,
        along_index (front ++ blocks_of (header_by X L.home front q)) (suc k) m ms f.4 (inl (λ e. absurd (omega (arith, e)))),
      )

  chain_by : (q : ℕ) (others blocks : List ℕ) (z : Bool) → (q == 1) ≡ z → q ≢ n
      → Follows X L.home (cond z None (Some L.index)) [] 0 q others blocks → Follows Y L.home (cond z None (Some L.index)) [] 0 q others blocks
  chain_by q others blocks false e o f = linked_chain X Y L.home (Some L.index) [] 0 q others blocks (along [] 0 q others blocks f (inr o)) f
  chain_by q others blocks true e o f =
      let one : q ≡ 1 = eqb-true q 1 e in
      let at_one : Follows X L.home None [] 0 1 others blocks = subst (λ m. Follows X L.home None [] 0 m others blocks) one f in
      let is : blocks ≡ L.index = (same_chain X L.home None [] 0 1 others blocks index.others L.index at_one index.whole.chain).1 in
      let to_index : Follows X L.home None [] 0 1 others L.index = subst (λ bs. Follows X L.home None [] 0 1 others bs) is at_one in
      subst (λ m. Follows Y L.home None [] 0 m others blocks) (sym one)
      (linked_chain X Y L.home None [] 0 1 others blocks (along_index [] 0 1 others to_index (inr (subst (λ m. m ≢ n) one o))) at_one)

  pub chain_stays : (q : ℕ) (others blocks : List ℕ) → q ≢ n → IsChain X L q others blocks → IsChain Y L q others blocks
  chain_stays q others blocks o c = chain_by q others blocks (q == 1) refl o c

  pub file_stays : (q : ℕ) → q ≢ n → IsFile X L q → IsFile Y L q
  file_stays q o f = linked_segment X Y L.home L.index (last_number L) q 0 (linked q o) f

  pub has_stays : length Y ≡ length X → (q : ℕ) (blocks : List ℕ) → q ≢ n → HasBlocks X L q blocks → HasBlocks Y L q blocks
  has_stays long q blocks o h = record {
    file = file_stays q o h.file;
    others = h.others;
    whole = record {
      chain = chain_stays q h.others blocks o h.whole.chain;
      inside = subst (λ k. (i : ℕ) (d : ℕ) → i < length blocks → get_or blocks i d < k) (sym long) h.whole.inside;
    };
  }

  -- the chain of n has the headers that it had, and behind the blocks of the first one the blocks that it had
  module _ (other : n ≢ 1) (kept : KeepsFile (header_at X L n) (header_at Y L n)) (used : IsSegment X L.home L.index (last_number L) n 0 → IsSegment Y L.home L.index (last_number L) n 0) where
    abbrev old_first : List ℕ
    old_first = blocks_of (header_at X L n)

    abbrev new_first : List ℕ
    new_first = blocks_of (header_at Y L n)

    own_follows : (ms blocks : List ℕ) → IsFile X L n → Follows X L.home (Some L.index) [] 0 n ms blocks → (rest : List ℕ) × (blocks ≡ old_first ++ rest) × Follows Y L.home (Some L.index) [] 0 n ms (new_first ++ rest)
    own_follows [] blocks file f =
        let laid = f.0.valid.header.layout in
        ([], f.2 ∙ sym (append-nil old_first), (used f.0, same_next_number (header_at X L n) (header_at Y L n) laid kept ∙ f.1, append-nil new_first))
    own_follows (m ∷ ms) blocks file f =
        let laid = f.0.valid.header.layout in
        let next = other_front X L old_first new_first 1 m ms blocks f.4 in
        let links = along new_first 1 m ms (new_first ++ next.0) next.2 (inl (λ e. absurd (omega (arith, e)))) in
        let there : LinkedAt X Y L.home L.index m = linked_first X Y L.home (Some L.index) new_first m ms links in (
          next.0,
          next.1,
          (
            used f.0,
            same_next_number (header_at X L n) (header_at Y L n) laid kept ∙ f.1,
            same_next_volume (header_at X L n) (header_at Y L n) laid kept ∙ f.2,
            there.links.sequence ∙ f.3 ∙ sym (same_next_sequence (header_at X L n) (header_at Y L n) laid kept),
            linked_chain X Y L.home (Some L.index) new_first 1 m ms (new_first ++ next.0) links next.2,
          ),
        )

    pub own_chain : (ms blocks : List ℕ) → IsFile X L n → IsChain X L n ms blocks → (rest : List ℕ) × (blocks ≡ old_first ++ rest) × IsChain Y L n ms (new_first ++ rest)
    own_chain ms blocks file c =
        let no : (n == 1) ≡ false = ne_eqb n 1 other in
        let f = own_follows ms blocks file (subst (λ z. Follows X L.home (cond z None (Some L.index)) [] 0 n ms blocks) no c) in
        (f.0, f.1, subst (λ z. Follows Y L.home (cond z None (Some L.index)) [] 0 n ms (new_first ++ f.0)) (sym no) f.2)
