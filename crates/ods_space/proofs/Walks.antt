-- Walks along a chain: whatever completes the rest completes the whole, and where nothing leads on there is no chain.
use Rattle.std.proofs.Common.{◌≡◌, ◌≢◌, Bool, true, false, ℕ, suc, ◌+◌, ◌*◌, ◌<◌, ◌≤◌, List, [], ◌∷◌, ◌++◌, length, Option, refl, sym, subst, arith}
use Rattle.std.proofs.lemmas.List.{length-append}
use Rattle.ods_base.specs.Block.{byte}
use Rattle.ods_base.specs.Image.{IsImage}
use Rattle.ods_header.specs.declared.home.Home.{Home}
use Rattle.ods_header.specs.Header.{IsLaidOut, next_number_of, next_sequence_of, sequence_of, blocks_of}
use Rattle.ods_space.specs.Layout.{header_by, place_by}
use Rattle.ods_space.specs.Chain.{known, most, header_blocks, IsSegment, Follows}
use Rattle.ods_space.specs.Walk.{IsLink, Leads}
use Rattle.ods_space.specs.Reach.{ComesTo, IsLast, Reaches}
use Rattle.ods_space.proofs.Chains.{head_of, small_of}
use Rattle.ods_space.proofs.Sizes.{blocks_few}

-- A walk from `start` reached header n, segment k, whose block is b; the headers before it name these blocks.
pub record IsReached (I : List (List ℕ)) (h : Home) (index : Option (List ℕ)) (start : ℕ) (front : List ℕ) (k n : ℕ) (b : List ℕ) : Type 0 where
  pub segment : IsSegment I h (known index front) (most h index front) n k
  pub block : b ≡ header_by I h (known index front) n
  pub completes : (others all : List ℕ) → Follows I h index front k n others all → Leads I h index start all
  pub only : (others all : List ℕ) → Follows I h index [] 0 start others all → (rest : List ℕ) × Follows I h index front k n rest all
  pub comes : ComesTo I h index start k n front

-- Such a walk, of which the blocks of the headers before it are noted: `Has` says so.
pub record IsUnderWay (I : List (List ℕ)) (h : Home) (index : Option (List ℕ)) (start : ℕ) (Has : List ℕ → Type 0) (k : ℕ) (b : List ℕ) : Type 0 where
  pub front : List ℕ
  pub here : ℕ
  pub at : IsReached I h index start front k here b
  pub noted : Has front
  pub few : length front ≤ header_blocks * k

-- where the first header is none, there is no chain
pub none_first : (I : List (List ℕ)) (h : Home) (index : Option (List ℕ)) (n : ℕ) → ¬ IsSegment I h (known index []) (most h index []) n 0 → (blocks : List ℕ) → ¬ Leads I h index n blocks
none_first I h index n none blocks chain = none (head_of I h index [] 0 n chain.0 blocks chain.1)

-- what a chain from header n on says of its first two headers
module _ (I : List (List ℕ)) (h : Home) (index : Option (List ℕ)) (front : List ℕ) (k n : ℕ) where
  abbrev here : List ℕ
  here = header_by I h (known index front) n

  abbrev reached : List ℕ
  reached = front ++ blocks_of (header_by I h (known index front) n)

  rest_of : (rest all : List ℕ) → next_number_of here ≢ 0 → Follows I h index front k n rest all → (others : List ℕ) × Follows I h index reached (suc k) (next_number_of here) others all
  rest_of [] all some f = absurd (some f.1)
  rest_of (m ∷ ms) all some f = (ms, let P : ℕ → Type 0 = λ x. Follows I h index reached (suc k) x ms all in subst P (sym f.1) f.4)

  pub link_of : (rest all : List ℕ) → next_number_of here ≢ 0 → Follows I h index front k n rest all → IsLink I h (known index reached) (most h index reached) here (suc k)
  link_of [] all some f = absurd (some f.1)
  link_of (m ∷ ms) all some f =
      let P : ℕ → Type 0 = λ x. sequence_of (header_by I h (known index reached) x) ≡ next_sequence_of here in
      let Q : ℕ → Type 0 = λ x. IsSegment I h (known index reached) (most h index reached) x (suc k) in
      record { volume = f.2; sequence = subst P (sym f.1) f.3; segment = subst Q (sym f.1) (head_of I h index reached (suc k) m ms all f.4) }

module _ (I : List (List ℕ)) (h : Home) (index : Option (List ℕ)) (start : ℕ) (front : List ℕ) (k n : ℕ) (b : List ℕ) (at : IsReached I h index start front k n b) where
  -- the last header of the chain
  pub reached_last : next_number_of b ≡ 0 → Leads I h index start (front ++ blocks_of b)
  reached_last =
      let P : List ℕ → Type 0 = λ x. (next_number_of x ≡ 0) → Leads I h index start (front ++ blocks_of x) in
      subst P (sym at.block) (λ none. at.completes [] (front ++ blocks_of (here I h index front k n)) (at.segment, none, refl))

  -- the header behind it
  pub reached_next : (c : List ℕ) → next_number_of b ≢ 0 → IsLink I h (known index (front ++ blocks_of b)) (most h index (front ++ blocks_of b)) b (suc k)
      → c ≡ header_by I h (known index (front ++ blocks_of b)) (next_number_of b) → IsReached I h index start (front ++ blocks_of b) (suc k) (next_number_of b) c
  reached_next c =
      let P : List ℕ → Type 0 = λ x. next_number_of x ≢ 0 → IsLink I h (known index (front ++ blocks_of x)) (most h index (front ++ blocks_of x)) x (suc k)
      → c ≡ header_by I h (known index (front ++ blocks_of x)) (next_number_of x) → IsReached I h index start (front ++ blocks_of x) (suc k) (next_number_of x) c in
      subst P (sym at.block) (λ some link block. record {
        segment = link.segment;
        block = block;
        completes = λ others all f. at.completes (next_number_of (here I h index front k n) ∷ others) all (at.segment, refl, link.volume, link.sequence, f);
        only = λ others all f. let g = at.only others all f in rest_of I h index front k n g.0 all some g.1;
        comes = (n, front, at.comes, at.segment, refl, some, refl, link);
      })

  -- the blocks of the headers that are there
  pub reached_so_far : (whole : Bool) → IsLast I h index b k (front ++ blocks_of b) whole → Reaches I h index start (front ++ blocks_of b) whole
  reached_so_far whole =
      let P : List ℕ → Type 0 = λ x. IsLast I h index x k (front ++ blocks_of x) whole → Reaches I h index start (front ++ blocks_of x) whole in
      subst P (sym at.block) (λ last. record { k = k; n = n; before = front; comes = at.comes; here = at.segment; named = refl; last = last })

  -- nothing leads on
  pub reached_end : next_number_of b ≢ 0 → ¬ IsLink I h (known index (front ++ blocks_of b)) (most h index (front ++ blocks_of b)) b (suc k) → (blocks : List ℕ) → ¬ Leads I h index start blocks
  reached_end =
      let P : List ℕ → Type 0 = λ x. next_number_of x ≢ 0 → ¬ IsLink I h (known index (front ++ blocks_of x)) (most h index (front ++ blocks_of x)) x (suc k) → (blocks : List ℕ) → ¬ Leads I h index start blocks in
      subst P (sym at.block) (λ some none blocks chain. let g = at.only chain.0 blocks chain.1 in none (link_of I h index front k n g.0 blocks some g.1))

  -- its areas lie within the block
  pub reached_layout : IsLaidOut b
  reached_layout = subst IsLaidOut (sym at.block) at.segment.valid.header.layout

-- one header more names few blocks more
pub few_more : (I : List (List ℕ)) (h : Home) (index : Option (List ℕ)) (start : ℕ) (Has : List ℕ → Type 0) (k : ℕ) (b : List ℕ) → IsImage I → (w : IsUnderWay I h index start Has k b)
    → length (w.front ++ blocks_of b) ≤ header_blocks * (k + 1)
few_more I h index start Has k b image w =
    let P : List ℕ → Type 0 = λ x. (i : ℕ) → byte x i < 256 in
    let small = subst P (sym w.at.block) (λ i. small_of I (place_by h (known index w.front) w.here) i image) in
    let few = blocks_few b (reached_layout I h index start w.front k w.here b w.at) small in
    let before = w.few in
    let size = length-append w.front (blocks_of b) in
    omega arith

-- The same for a walk that computed the index and the greatest number at hand.
module _ (I : List (List ℕ)) (h : Home) (index : Option (List ℕ)) (start at_hand : ℕ) (by : List ℕ) where
  pub walk_none : by ≡ known index [] → at_hand ≡ most h index [] → ¬ IsSegment I h by at_hand start 0 → (blocks : List ℕ) → ¬ Leads I h index start blocks
  walk_none by_is most_is none =
      let P : List ℕ → Type 0 = λ x. ¬ IsSegment I h x at_hand start 0 in
      let Q : ℕ → Type 0 = λ x. ¬ IsSegment I h (known index []) x start 0 in
      none_first I h index start (subst Q most_is (subst P by_is none))

  pub walk_no_first : by ≡ known index [] → at_hand ≡ most h index [] → ¬ IsSegment I h by at_hand start 0 → ¬ IsSegment I h (known index []) (most h index []) start 0
  walk_no_first by_is most_is none =
      let P : List ℕ → Type 0 = λ x. ¬ IsSegment I h x at_hand start 0 in
      let Q : ℕ → Type 0 = λ x. ¬ IsSegment I h (known index []) x start 0 in
      subst Q most_is (subst P by_is none)

  module _ (front : List ℕ) (k n : ℕ) (b : List ℕ) (at : IsReached I h index start front k n b) (whole : List ℕ) (whole_is : whole ≡ front ++ blocks_of b) where
    pub walk_last : next_number_of b ≡ 0 → Leads I h index start whole
    walk_last last = subst (Leads I h index start) (sym whole_is) (reached_last I h index start front k n b at last)

    pub walk_reached_last : next_number_of b ≡ 0 → Reaches I h index start whole true
    walk_reached_last last = subst (λ l. Reaches I h index start l true) (sym whole_is) (reached_so_far I h index start front k n b at true last)

    pub walk_next : (c : List ℕ) (j : ℕ) → j ≡ suc k → by ≡ known index whole → at_hand ≡ most h index whole → next_number_of b ≢ 0
        → IsLink I h by at_hand b j → c ≡ header_by I h by (next_number_of b) → IsReached I h index start whole j (next_number_of b) c
    walk_next c j place by_is most_is some link block =
        let P : List ℕ → Type 0 = λ x. IsLink I h x at_hand b j × (c ≡ header_by I h x (next_number_of b)) in
        let Q : ℕ → Type 0 = λ x. IsLink I h (known index whole) x b j in
        let R : ℕ → Type 0 = λ x. IsLink I h (known index whole) (most h index whole) b x in
        let both = subst P by_is (link, block) in
        let S : List ℕ → Type 0 = λ x. IsLink I h (known index x) (most h index x) b (suc k) × (c ≡ header_by I h (known index x) (next_number_of b)) in
        let moved = subst S whole_is (subst R place (subst Q most_is both.0), both.1) in
        let U : List ℕ → Type 0 = λ x. IsReached I h index start x (suc k) (next_number_of b) c in
        let V : ℕ → Type 0 = λ x. IsReached I h index start whole x (next_number_of b) c in
        subst V (sym place) (subst U (sym whole_is) (reached_next I h index start front k n b at c some moved.0 moved.1))

    pub walk_end : (j : ℕ) → j ≡ suc k → by ≡ known index whole → at_hand ≡ most h index whole → next_number_of b ≢ 0 → ¬ IsLink I h by at_hand b j → (blocks : List ℕ) → ¬ Leads I h index start blocks
    walk_end j place by_is most_is some none =
        let P : List ℕ → Type 0 = λ x. ¬ IsLink I h x at_hand b j in
        let Q : ℕ → Type 0 = λ x. ¬ IsLink I h (known index whole) x b j in
        let R : ℕ → Type 0 = λ x. ¬ IsLink I h (known index whole) (most h index whole) b x in
        let S : List ℕ → Type 0 = λ x. ¬ IsLink I h (known index x) (most h index x) b (suc k) in
        reached_end I h index start front k n b at some (subst S whole_is (subst R place (subst Q most_is (subst P by_is none))))

    pub walk_reached_end : (j : ℕ) → j ≡ suc k → by ≡ known index whole → at_hand ≡ most h index whole → next_number_of b ≢ 0 → ¬ IsLink I h by at_hand b j → Reaches I h index start whole false
    walk_reached_end j place by_is most_is some none =
        let P : List ℕ → Type 0 = λ x. ¬ IsLink I h x at_hand b j in
        let Q : ℕ → Type 0 = λ x. ¬ IsLink I h (known index whole) x b j in
        let R : ℕ → Type 0 = λ x. ¬ IsLink I h (known index whole) (most h index whole) b x in
        let S : List ℕ → Type 0 = λ x. ¬ IsLink I h (known index x) (most h index x) b (suc k) in
        subst (λ l. Reaches I h index start l false) (sym whole_is)
        (reached_so_far I h index start front k n b at false (some, subst S whole_is (subst R place (subst Q most_is (subst P by_is none)))))
