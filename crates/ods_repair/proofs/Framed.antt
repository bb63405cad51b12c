-- Where the blocks stay by which a volume is read, it is read as before.
use Rattle.std.proofs.Common.{◌≡◌, ◌≢◌, ℕ, suc, ◌+◌, ◌-◌, ◌<◌, ◌≤◌, refl, ap, sym, ◌∙◌, subst, Bool, true, false, cond, List, [], ◌∷◌, ◌++◌, length, get_or, Option, Some, None, arith, inl, inr}
use Rattle.std.specs.Prelude.{◌⊎◌, ◌==◌, nat_le, slice_get}
use Rattle.std.specs.Option.{option_map_or}
use Rattle.std.specs.List.{Contains}
use Rattle.std.proofs.lemmas.Bool.{eqb-true, eqb-false, leb-true}
use Rattle.std.proofs.lemmas.Option.{get_or_from_slice_get, same_Some, slice_get_within}
use Rattle.ods_base.specs.Image.{block_at}
use Rattle.ods_header.specs.declared.home.Home.{Home}
use Rattle.ods_header.specs.Header.{blocks_of}
use Rattle.ods_header.specs.Home.{IsHome, IsHomeAt, IsHomeOf, home_of}
use Rattle.ods_space.specs.Layout.{VolumeLayout, header_at, header_by, is_in_use, last_number, place_by, place_of}
use Rattle.ods_space.specs.Chain.{Follows, IsChain}
use Rattle.ods_space.specs.Files.{HasBlocks, Holds, IsFile, IsLayoutOf}
use Rattle.ods_space.proofs.Chains.{front_begins, same_chain}
use Rattle.ods_mount.specs.Faults.{contents_of}
use Rattle.ods_state.proofs.Chains.{by_front}
use Rattle.ods_state.proofs.Links.{LinkedAlong, LinkedAt, bits_stay, itself, linked_chain, linked_same, linked_segment}
use Rattle.ods_state.proofs.OneBlock.{mapped_alike}
use Rattle.ods_state.specs.Links.{SameLinks}
use Rattle.ods_repair.specs.Framed.{IsOwn, IsReadAs, KeepsOwn}

-- a number of a list at a place is in it
pub is_in : (xs : List ℕ) (i b : ℕ) → slice_get xs i ≡ Some b → Contains xs b
is_in xs i b e = (i, slice_get_within xs i b e, get_or_from_slice_get xs i b b e)

-- each header that has a place stands in a block by which the volume is read
own_place : (L : VolumeLayout) (n x : ℕ) → place_of L n ≡ Some x → IsOwn L x
own_place L n x e = by (n == 0) (nat_le n 16) refl refl e
  where
    by : (z l : Bool) → (n == 0) ≡ z → nat_le n 16 ≡ l
        → cond z None (cond l (Some (L.home.index_bitmap_lbn + L.home.index_bitmap_size + n - 1)) (slice_get L.index (1 + L.home.index_bitmap_size + n))) ≡ Some x → IsOwn L x
    by true l ez el e = absurd (cc)
    by false true ez el e =
        let some : n ≢ 0 = eqb-false n 0 ez in
        let low : n ≤ 16 = leb-true n 16 el in
        let is : L.home.index_bitmap_lbn + L.home.index_bitmap_size + n - 1 ≡ x = same_Some _ _ e in
        inl (inr (omega (arith, some, low, is), omega (arith, some, low, is)))
    by false false ez el e = inr (is_in L.index (1 + L.home.index_bitmap_size + n) x e)

-- the same, seen from the other side
pub kept_back : (I J : List (List ℕ)) (L : VolumeLayout) → KeepsOwn I J L → KeepsOwn J I L
kept_back I J L k = record { long = sym k.long; own = λ b own. sym (k.own b own) }

module _ (I J : List (List ℕ)) (L : VolumeLayout) (k : KeepsOwn I J L) where
  pub home_stays : (lbn : ℕ) → IsHomeAt I lbn → IsHomeAt J lbn
  home_stays lbn at = record {
    place = at.place;
    inside = subst (λ n. lbn < n) (sym k.long) at.inside;
    home = subst IsHome (sym (k.own lbn (inl (inl at.place)))) at.home;
    least = λ j place below inside home. at.least j place below (subst (λ n. j < n) k.long inside) (subst IsHome (k.own j (inl (inl place))) home);
  }

  pub fields_stay : (h : Home) → IsHomeOf I h → IsHomeOf J h
  fields_stay h of = (of.0, home_stays of.0 of.1, of.2 ∙ sym (ap home_of (k.own of.0 (inl (inl of.1.place)))))

  pub headers_stay : (n : ℕ) → header_at J L n ≡ header_at I L n
  headers_stay n = by (place_of L n) refl
    where
      same : (o : Option ℕ) → place_of L n ≡ o → option_map_or (block_at J) o [] ≡ option_map_or (block_at I) o []
      same None e = refl
      same (Some x) e = k.own x (own_place L n x e)

      by : (o : Option ℕ) → place_of L n ≡ o → header_at J L n ≡ header_at I L n
      by o e = ap (λ p. option_map_or (block_at J) p []) e ∙ same o e ∙ sym (ap (λ p. option_map_or (block_at I) p []) e)

  pub bits_kept : (n : ℕ) → is_in_use J L.home n ≡ is_in_use I L.home n
  bits_kept = bits_stay I J L.home (λ i low. k.own (L.home.index_bitmap_lbn + i) (inl (inr (omega arith, omega (arith, low)))))

  linked : (n : ℕ) → LinkedAt I J L.home L.index n
  linked n = linked_same I J L.home L.index n (headers_stay n) (bits_kept n)

  -- by the first blocks of INDEXF.SYS too
  linked_front : (front rest : List ℕ) (n : ℕ) → L.index ≡ front ++ rest → LinkedAt I J L.home front n
  linked_front front rest n is = by_case (by_front L.home front rest n (place_by L.home front n) refl)
    where
      whole : LinkedAt I J L.home (front ++ rest) n
      whole = subst (λ xs. LinkedAt I J L.home xs n) is (linked n)

      by_case : (place_by L.home front n ≡ None) ⊎ ((X : List (List ℕ)) → header_by X L.home front n ≡ header_by X L.home (front ++ rest) n) → LinkedAt I J L.home front n
      by_case (inl e) = record {
        links = subst (λ o. SameLinks (option_map_or (block_at I) o []) (option_map_or (block_at J) o []) n) (sym e) (itself [] n);
        used = bits_kept n;
      }
      by_case (inr same) = record {
        links = subst (λ b. SameLinks b (header_by J L.home front n) n) (sym (same I)) (subst (λ c. SameLinks (header_by I L.home (front ++ rest) n) c n) (sym (same J)) whole.links);
        used = bits_kept n;
      }

  along : (front : List ℕ) (n : ℕ) (ms : List ℕ) → LinkedAlong I J L.home (Some L.index) front n ms
  along front n [] = linked n
  along front n (m ∷ ms) = (linked n, along (front ++ blocks_of (header_by I L.home L.index n)) m ms)

  along_index : (front : List ℕ) (j n : ℕ) (ms : List ℕ) → Follows I L.home None front j n ms L.index → LinkedAlong I J L.home None front n ms
  along_index front j n [] f = let r = front_begins I L.home None front j n [] L.index f in linked_front front r.0 n r.1
  along_index front j n (m ∷ ms) f =
      let r = front_begins I L.home None front j n (m ∷ ms) L.index f in
      (linked_front front r.0 n r.1, along_index (front ++ blocks_of (header_by I L.home front n)) (suc j) m ms f.4)

  module _ (layout : IsLayoutOf I L) where
    chain_by : (n : ℕ) (others blocks : List ℕ) (z : Bool) → (n == 1) ≡ z
        → Follows I L.home (cond z None (Some L.index)) [] 0 n others blocks → Follows J L.home (cond z None (Some L.index)) [] 0 n others blocks
    chain_by n others blocks false e f = linked_chain I J L.home (Some L.index) [] 0 n others blocks (along [] n others) f
    chain_by n others blocks true e f =
        let one : n ≡ 1 = eqb-true n 1 e in
        let at_one : Follows I L.home None [] 0 1 others blocks = subst (λ m. Follows I L.home None [] 0 m others blocks) one f in
        let is : blocks ≡ L.index = (same_chain I L.home None [] 0 1 others blocks layout.index.others L.index at_one layout.index.whole.chain).1 in
        let to_index : Follows I L.home None [] 0 1 others L.index = subst (λ bs. Follows I L.home None [] 0 1 others bs) is at_one in
        subst (λ m. Follows J L.home None [] 0 m others blocks) (sym one)
        (linked_chain I J L.home None [] 0 1 others blocks (along_index [] 0 1 others to_index) at_one)

    pub chain_stays : (n : ℕ) (others blocks : List ℕ) → IsChain I L n others blocks → IsChain J L n others blocks
    chain_stays n others blocks c = chain_by n others blocks (n == 1) refl c

    pub file_stays : (n : ℕ) → IsFile I L n → IsFile J L n
    file_stays n f = linked_segment I J L.home L.index (last_number L) n 0 (linked n) f

    pub has_stays : (n : ℕ) (blocks : List ℕ) → HasBlocks I L n blocks → HasBlocks J L n blocks
    has_stays n blocks b = record {
      file = file_stays n b.file;
      others = b.others;
      whole = record {
        chain = chain_stays n b.others blocks b.whole.chain;
        inside = subst (λ m. (i : ℕ) (d : ℕ) → i < length blocks → get_or blocks i d < m) (sym k.long) b.whole.inside;
      };
    }

    pub holds_stays : (n v b : ℕ) → Holds I L n v b → Holds J L n v b
    holds_stays n v b h = record { blocks = h.blocks; file = has_stays n h.blocks h.file; first = h.first; named = h.named }

    pub layout_stays : IsLayoutOf J L
    layout_stays = record { home = fields_stay L.home layout.home; index = has_stays 1 L.index layout.index; bitmap = has_stays 2 L.bitmap layout.bitmap }

module _ (I J : List (List ℕ)) (L : VolumeLayout) (layout : IsLayoutOf I L) (k : KeepsOwn I J L) where
  -- where the blocks stay by which a volume is read, it is read as before
  pub read_as : IsReadAs I J L
  read_as =
      let back = kept_back I J L k in
      let there = layout_stays I J L k layout in
      record {
        long = k.long;
        layout = there;
        homes = λ lbn. (home_stays I J L k lbn, home_stays J I L back lbn);
        headers = headers_stay I J L k;
        in_use = bits_kept I J L k;
        files = λ n. (file_stays I J L k layout n, file_stays J I L back there n);
        chains = λ n others blocks. (chain_stays I J L k layout n others blocks, chain_stays J I L back there n others blocks);
        has = λ n blocks. (has_stays I J L k layout n blocks, has_stays J I L back there n blocks);
        holds = λ n v b. (holds_stays I J L k layout n v b, holds_stays J I L back there n v b);
      }

-- a file none of whose blocks changes has its contents
pub contents_stay : (I J : List (List ℕ)) (blocks : List ℕ) → ((b : ℕ) → Contains blocks b → block_at J b ≡ block_at I b) → contents_of J blocks ≡ contents_of I blocks
contents_stay I J blocks same = mapped_alike (block_at I) (block_at J) blocks (λ i y e. same y (is_in blocks i y e))

-- what is read as before was read so
pub read_back : (I J : List (List ℕ)) (L : VolumeLayout) → IsLayoutOf I L → IsReadAs I J L → IsReadAs J I L
read_back I J L layout r = record {
  long = sym r.long;
  layout = layout;
  homes = λ lbn. ((r.homes lbn).1, (r.homes lbn).0);
  headers = λ n. sym (r.headers n);
  in_use = λ n. sym (r.in_use n);
  files = λ n. ((r.files n).1, (r.files n).0);
  chains = λ n others blocks. ((r.chains n others blocks).1, (r.chains n others blocks).0);
  has = λ n blocks. ((r.has n blocks).1, (r.has n blocks).0);
  holds = λ n v b. ((r.holds n v b).1, (r.holds n v b).0);
}
