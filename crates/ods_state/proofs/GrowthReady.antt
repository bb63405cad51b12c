-- The blocks that stand ready when a chain is to grow, K, beside those of the sound volume, I: but for the first header and the taken blocks nothing differs, so the layout stays.
use Rattle.std.proofs.Common.{◌≡◌, ◌≢◌, ℕ, zero, ◌+◌, ◌<◌, refl, ap, sym, ◌∙◌, subst, Bool, true, false, List, [], ◌∷◌, ◌++◌, drop, Option, Some, None, arith, inl, inr}
use Rattle.std.specs.Prelude.{◌⊎◌, slice_get}
use Rattle.std.specs.Option.{option_map_or}
use Rattle.std.specs.List.{Contains}
use Rattle.std.proofs.lemmas.Bool.{both_ways, cases_eq}
use Rattle.std.proofs.lemmas.List.{append_cancel_left}
use Rattle.ods_base.specs.Image.{block_at}
use Rattle.ods_space.specs.Layout.{VolumeLayout, place_of, header_at, is_in_use}
use Rattle.ods_space.specs.Chain.{IsChain}
use Rattle.ods_space.specs.Files.{IsFile, Holds, IsLayoutOf}
use Rattle.ods_space.specs.Free.{is_free_block}
use Rattle.ods_alloc.specs.Extend.{IsBookkeeping}
use Rattle.ods_alloc.specs.Extension.{first_number}
use Rattle.ods_alloc.proofs.Places.{place_not_index}
use Rattle.ods_mount.specs.Faults.{CouldBeWritten}
use Rattle.ods_mount.specs.Sound.{IsSoundBy}
use Rattle.ods_state.specs.Wants.{allocated_blocks, allocated_numbers}
use Rattle.ods_state.proofs.Bookkeeping.{IsHeldBySystem, bookkeeping_held, bitmap_holds, index_holds, well_placed}
use Rattle.ods_state.proofs.Chains.{IsLinkedBut, blocks_stay}
use Rattle.ods_state.specs.Growth.{HadHeaders, IsFirstFor, IsKeptFirst, IsNewFirst, IsReady, IsTaking, all_headers}
use Rattle.ods_state.proofs.Homes as homes
use Rattle.ods_state.proofs.Links.{bits_stay, header_held, linked_same, numbered, place_is_one}
use Rattle.ods_state.proofs.Taken.{file_is_far, others_apart, allocated_block_is_free}

-- a file that is there grows: it has its first header already
pub record IsOldFile (I K : List (List ℕ)) (L : VolumeLayout) (n : ℕ) (headers old : List ℕ) (count : ℕ) (numbers : List ℕ) : Type 0 where
  pub is : headers ≡ n ∷ drop 1 headers
  pub file : IsFile I L n
  pub chain : IsChain I L n (drop 1 headers) old
  pub new : numbers ≡ allocated_numbers I L headers count
  pub kept : IsKeptFirst (header_at I L n) (header_at K L n) n

-- a new file: its first header is the first number that is taken
pub record IsNewFile (I K : List (List ℕ)) (L : VolumeLayout) (n : ℕ) (headers old : List ℕ) (count : ℕ) (numbers : List ℕ) : Type 0 where
  pub none : headers ≡ []
  pub nothing : old ≡ []
  pub new : n ∷ numbers ≡ allocated_numbers I L headers count
  pub made : IsNewFirst (header_at I L n) (header_at K L n) n

seen_by : (I K : List (List ℕ)) (L : VolumeLayout) (n : ℕ) (headers old : List ℕ) (count : ℕ) (numbers : List ℕ) → HadHeaders I L n headers old
    → all_headers n headers numbers ≡ headers ++ allocated_numbers I L headers count → IsFirstFor headers (header_at I L n) (header_at K L n) n
    → IsOldFile I K L n headers old count numbers ⊎ IsNewFile I K L n headers old count numbers
seen_by I K L n [] old count numbers (inl p) all first = let wrong : [] ≡ n ∷ p.1.0 = p.1.1 in absurd (cc)
seen_by I K L n [] old count numbers (inr p) all first = inr (record { none = refl; nothing = p.1; new = all; made = first })
seen_by I K L n (h ∷ hs) old count numbers (inr p) all first = let wrong : h ∷ hs ≡ [] = p.0 in absurd (cc)
seen_by I K L n (h ∷ hs) old count numbers (inl p) all first =
    let tail : p.1.0 ≡ hs = sym (ap (drop 1) p.1.1) in
    inl (record {
      is = ap (λ x. x ∷ hs) (ap first_number p.1.1);
      file = p.0;
      chain = subst (λ os. IsChain I L n os old) tail p.1.2.chain;
      new = append_cancel_left hs numbers (allocated_numbers I L (h ∷ hs) count) (ap (drop 1) all);
      kept = first;
    })

module _ (I : List (List ℕ)) (L : VolumeLayout) (S : IsSoundBy I L) where
  -- no file holds a block that is taken
  pub taken_not_held : (count m v x : ℕ) → Contains (allocated_blocks I L count) x → ¬ Holds I L m v x
  taken_not_held count m v x c h = both_ways (is_free_block I L x) (S.not_free m v x h) (allocated_block_is_free I L count x c)

  pub allocated_not_index : (count x i : ℕ) → Contains (allocated_blocks I L count) x → slice_get L.index i ≡ Some x → ⊥
  allocated_not_index count x i c e = taken_not_held count 1 (i + 1) x c (index_holds I L S i x e)

  pub allocated_not_bitmap : (count x i : ℕ) → Contains (allocated_blocks I L count) x → slice_get L.bitmap i ≡ Some x → ⊥
  allocated_not_bitmap count x i c e = taken_not_held count 2 (i + 1) x c (bitmap_holds I L S i x e)

  -- and none of them has a header or a bitmap
  pub allocated_not_bookkeeping : (count x : ℕ) (numbers : List ℕ) → Contains (allocated_blocks I L count) x → ¬ IsBookkeeping L numbers x
  allocated_not_bookkeeping count x numbers c b = by (bookkeeping_held S numbers x b)
    where
      by : IsHeldBySystem S x → ⊥
      by (inl p) = taken_not_held count 1 p.0 x c p.1
      by (inr p) = taken_not_held count 2 p.0 x c p.1

module _ (I K : List (List ℕ)) (L : VolumeLayout) (S : IsSoundBy I L) (n : ℕ) (headers old : List ℕ) (count : ℕ) (numbers : List ℕ)
    (t : IsTaking I L n headers old count numbers) (r : IsReady I K L n headers count) where
  pub seen : IsOldFile I K L n headers old count numbers ⊎ IsNewFile I K L n headers old count numbers
  seen = seen_by I K L n headers old count numbers t.before t.all r.first

  -- a block that a file holds stays, but for the first header
  pub held_stays : (m v x : ℕ) → Holds I L m v x → place_of L n ≢ Some x → block_at K x ≡ block_at I x
  held_stays m v x h other = r.elsewhere x other (λ c. taken_not_held I L S count m v x c h)

  -- another header stays
  pub header_stays : (m : ℕ) → m ≢ n → header_at K L m ≡ header_at I L m
  header_stays m other = by (place_of L m) refl
    where
      by : (o : Option ℕ) → place_of L m ≡ o → option_map_or (block_at K) o [] ≡ option_map_or (block_at I) o []
      by None e = refl
      by (Some y) e = held_stays 1 (2 + L.home.index_bitmap_size + m) y (header_held I L S m y e) (λ p. other (place_is_one I L S m n y e p))

  -- the index bitmap stays
  pub index_stays : (i : ℕ) → i < L.home.index_bitmap_size → block_at K (L.home.index_bitmap_lbn + i) ≡ block_at I (L.home.index_bitmap_lbn + i)
  index_stays i low =
      let x : ℕ = L.home.index_bitmap_lbn + i in
      held_stays 1 (2 + i + 1) x (index_holds I L S (2 + i) x (S.index_place i (omega arith)))
      (λ p. place_not_index L n x (well_placed I L S) p (omega arith, omega arith))

  pub used_stays : (m : ℕ) → is_in_use K L.home m ≡ is_in_use I L.home m
  used_stays = bits_stay I K L.home index_stays

  abbrev IsFirst : ℕ → Type 0
  IsFirst m = m ≡ n

  -- the first header is in no other chain
  first_apart : (m : ℕ) (ms bs : List ℕ) → IsFile I L m → IsChain I L m ms bs → ¬ IsFirst m → (x : ℕ) → Contains (m ∷ ms) x → ¬ IsFirst x
  first_apart m ms bs f chain other x c e = others_apart S t m ms bs f chain far x c (zero, omega arith, sym e)
    where
      far : ¬ Contains (all_headers n headers numbers) m
      far = file_is_far S t m f other

  pub frame : IsLinkedBut I K L IsFirst
  frame = record {
    long = r.long;
    linked = λ m other. linked_same I K L.home L.index m (header_stays m other) (used_stays m);
    back = λ m other. linked_same K I L.home L.index m (sym (header_stays m other)) (sym (used_stays m));
    apart = first_apart;
  }

  -- what differs a request may write
  pub elsewhere : (x : ℕ) → (block_at K x ≡ block_at I x) ⊎ CouldBeWritten I L x
  elsewhere x = by_place (place_of L n) refl
    where
      by_free : (b : Bool) → is_free_block I L x ≡ b → place_of L n ≢ Some x → (block_at K x ≡ block_at I x) ⊎ CouldBeWritten I L x
      by_free true e other = inr (inl e)
      by_free false e other = inl (r.elsewhere x other (λ c. both_ways (is_free_block I L x) e (allocated_block_is_free I L count x c)))

      by_block : (y : ℕ) → place_of L n ≡ Some y → (y ≡ x) ⊎ (y ≢ x) → (block_at K x ≡ block_at I x) ⊎ CouldBeWritten I L x
      by_block y e (inl is) =
          let place : place_of L n ≡ Some x = e ∙ ap (λ z. Some z) is in
          let some = numbered L n x place in
          inr (inr (1, 2 + L.home.index_bitmap_size + n, header_held I L S n x place, λ z. absurd (omega arith), λ z. absurd (omega arith), λ z. let few = z.1 in absurd (omega arith)))
      by_block y e (inr other) = by_free (is_free_block I L x) refl (λ p. let same : Some y ≡ Some x = sym e ∙ p in other (cc))

      by_place : (o : Option ℕ) → place_of L n ≡ o → (block_at K x ≡ block_at I x) ⊎ CouldBeWritten I L x
      by_place None e = by_free (is_free_block I L x) refl (λ p. let same : None ≡ Some x = sym e ∙ p in absurd (cc))
      by_place (Some y) e = by_block y e (cases_eq y x)

  -- the layout stays
  pub ready_layout : IsLayoutOf K L
  ready_layout = let above = t.above in
      homes.layout_stays I K L S r.long elsewhere
      (blocks_stay I K L S IsFirst frame 1 L.index (λ e. absurd (omega arith)) S.layout.index)
      (blocks_stay I K L S IsFirst frame 2 L.bitmap (λ e. absurd (omega arith)) S.layout.bitmap)
