-- The chain of one file becomes another one, and each other file stays: a file that grows or is new (Create, Extend, an Enter that takes
-- a block) and one that gives back blocks or goes (Truncate, Delete) are cases of this. What the files of the image are then, and what they hold.
use Rattle.std.proofs.Common.{◌≡◌, ◌≢◌, ℕ, zero, suc, ◌+◌, ◌-◌, ◌<◌, ◌≤◌, ap, sym, ◌∙◌, subst, true, cond, IsTrue, List, [], ◌∷◌, ◌++◌, length, get_or, Some, None, arith, inl, inr}
use Rattle.std.specs.Prelude.{◌⊎◌, nat_le, slice_get}
use Rattle.std.specs.List.{All, Contains}
use Rattle.std.proofs.lemmas.Bool.{both_ways, cases_eq, cases_lt, le-leb, ne_eqb}
use Rattle.std.proofs.lemmas.List.Elements.{All-append, Contains-get_or}
use Rattle.std.proofs.lemmas.Map.Made.{Contains-tail}
use Rattle.std.proofs.lemmas.Option.{slice_get-get_or, slice_get_within}
use Rattle.ods_base.specs.Image.{block_at}
use Rattle.ods_header.specs.Header.{segment_of}
use Rattle.ods_space.specs.Layout.{VolumeLayout, header_at, is_in_use}
use Rattle.ods_space.specs.Chain.{Follows, IsChain, index_for}
use Rattle.ods_space.specs.Files.{IsFile, HasBlocks, Holds, IsLayoutOf, IsWhole}
use Rattle.ods_space.specs.Free.{is_free_block}
use Rattle.ods_space.proofs.Chains.{head_of, same_chain}
use Rattle.ods_space.proofs.Surveys.{slice_get-append_left, slice_get-append_right}
use Rattle.ods_alloc.specs.Extend.{IsBookkeeping}
use Rattle.ods_alloc.proofs.FreeTests.{free_inside}
use Rattle.ods_mount.specs.Faults.{CouldBeWritten, contents_of}
use Rattle.ods_mount.specs.Sound.{IsSoundBy}
use Rattle.ods_mount.proofs.Each.{holds_at}
use Rattle.ods_state.specs.Contents.{file_of}
use Rattle.ods_state.proofs.Bookkeeping.{bookkeeping_or_not, bookkeeping_written, no_bookkeeping}
use Rattle.ods_state.proofs.Chains.{IsLinkedBut, blocks_stay, blocks_were, chain_was, file_stays, file_was, first_in, held_before, holds_stays}
use Rattle.ods_state.proofs.Homes as homes
use Rattle.ods_state.proofs.Links.{linked_same}
use Rattle.ods_state.proofs.OneBlock.{held_inside, mapped_alike}
use Rattle.ods_state.proofs.Shown.{same_file}
use Rattle.ods_state.proofs.Taken.{contains_or_not, later_segment}

-- J is I where the chain of file n becomes another one, and every other file stays. The file had the blocks `kept` and behind them `given`, which
-- it gives back, or was none. If it is there in J, it has `kept` and behind them `taken`, which were free. `own` are its headers, in I or in J;
-- those of them that are in use in J are n and then `later`.
pub record Rechained (I J : List (List ℕ)) (L : VolumeLayout) (n : ℕ) (own later kept given taken : List ℕ) : Type 0 where
  pub above : 3 ≤ n
  pub long : length J ≡ length I
  -- a reserved file does not go
  pub there : IsTrue (is_in_use J L.home n) ⊎ (5 < n)
  -- the file as it was, and as it is
  pub had : HasBlocks I L n (kept ++ given) ⊎ ((kept ++ given ≡ []) × ¬ IsFile I L n)
  pub chain : (m : ℕ) → Contains own m → IsTrue (is_in_use J L.home m) → IsChain J L n later (kept ++ taken) × Contains (n ∷ later) m
  pub within : (m : ℕ) → Contains (n ∷ later) m → Contains own m
  -- no other file has one of its headers; each other header stays, with its index bit
  pub apart : (m : ℕ) (ms bs : List ℕ) → m ≢ n → IsFile I L m → IsChain I L m ms bs → (x : ℕ) → Contains (m ∷ ms) x → ¬ Contains own x
  pub stays : (m : ℕ) → ¬ Contains own m → header_at J L m ≡ header_at I L m
  pub used : (m : ℕ) → ¬ Contains own m → is_in_use J L.home m ≡ is_in_use I L.home m
  -- what it takes was free, each block once; what is free in J was so and is not taken, or is given back, and not by a reserved file
  pub was_free : (x : ℕ) → Contains taken x → IsTrue (is_free_block I L x)
  pub once : (i j x : ℕ) → slice_get taken i ≡ Some x → slice_get taken j ≡ Some x → i ≡ j
  pub free : (x : ℕ) → IsTrue (is_free_block J L x) → (IsTrue (is_free_block I L x) × ¬ Contains taken x) ⊎ (Contains given x × (5 < n))
  -- but for what it takes, the bitmaps and its headers each block stays
  pub elsewhere : (x : ℕ) → ¬ IsBookkeeping L own x → ¬ Contains taken x → block_at J x ≡ block_at I x

-- an element of two lists, one behind the other
pub in_front_or_behind : (xs ys : List ℕ) (i x : ℕ) → slice_get (xs ++ ys) i ≡ Some x → (slice_get xs i ≡ Some x) ⊎ ((k : ℕ) × (i ≡ length xs + k) × (slice_get ys k ≡ Some x))
in_front_or_behind [] ys i x e = inr (i, omega arith, e)
in_front_or_behind (y ∷ xs) ys zero x e = inl e
in_front_or_behind (y ∷ xs) ys (suc i) x e = elim (in_front_or_behind xs ys i x e) [
  | inl f ↦ inl f
  | inr p ↦ let at = p.1 in inr (p.0, omega arith, p.2)
]

module _ {I J : List (List ℕ)} {L : VolumeLayout} {n : ℕ} {own later kept given taken : List ℕ} (S : IsSoundBy I L) (R : Rechained I J L n own later kept given taken) where
  abbrev pub IsOwn : ℕ → Type 0
  IsOwn m = Contains own m

  abbrev pub now : List ℕ
  now = kept ++ taken

  pub own_first : IsOwn n
  own_first = R.within n (first_in n later)

  -- each header but those of the file links as it did
  pub is_linked : IsLinkedBut I J L IsOwn
  is_linked = record {
    long = R.long;
    linked = λ m far. linked_same I J L.home L.index m (R.stays m far) (R.used m far);
    back = λ m far. linked_same J I L.home L.index m (sym (R.stays m far)) (sym (R.used m far));
    apart = λ m ms bs f c far. R.apart m ms bs (λ e. far (subst IsOwn (sym e) own_first)) f c;
  }

  -- another file has none of the headers, before and then
  pub other_is_far : (m : ℕ) → IsFile I L m → m ≢ n → ¬ IsOwn m
  other_is_far m f ne = let has = S.chains m f in R.apart m has.1.others has.0 ne f has.1.whole.chain m (first_in m has.1.others)

  pub follows : IsChain J L n later now → Follows J L.home (Some L.index) [] 0 n later now
  follows chain = subst (λ z. Follows J L.home (cond z None (Some L.index)) [] 0 n later now) (ne_eqb n 1 (λ e. let above = R.above in absurd (omega arith))) chain

  pub far_now : (m : ℕ) → IsFile J L m → m ≢ n → ¬ IsOwn m
  far_now m f ne among =
      let chain = R.chain m among f.in_use in
      let behind = later_segment J L.home L.index [] 0 n later now (follows chain.0) m (Contains-tail n later m (λ e. ne (sym e)) chain.1) in
      let at : segment_of (header_at J L m) ≡ suc behind.0 = behind.1 in
      let first : segment_of (header_at J L m) ≡ 0 = f.segment in
      absurd (omega arith)

  -- it was there, and is, with the chain and the blocks that it had
  pub was_file : (m : ℕ) → m ≢ n → IsFile J L m → IsFile I L m
  was_file m ne f = file_was I J L S IsOwn is_linked m (far_now m f ne) f

  pub stays_file : (m : ℕ) → m ≢ n → IsFile I L m → IsFile J L m
  stays_file m ne f = file_stays I J L S IsOwn is_linked m (other_is_far m f ne) f

  pub had_chain : (m : ℕ) (ms bs : List ℕ) → m ≢ n → IsFile J L m → IsChain J L m ms bs → IsChain I L m ms bs
  had_chain m ms bs ne f c = (chain_was I J L S IsOwn is_linked m ms bs (far_now m f ne) f c).0

  pub others_stay : (m : ℕ) (blocks : List ℕ) → m ≢ n → HasBlocks I L m blocks → HasBlocks J L m blocks
  others_stay m blocks ne b = blocks_stay I J L S IsOwn is_linked m blocks (other_is_far m b.file ne) b

  pub others_were : (m : ℕ) (blocks : List ℕ) → m ≢ n → HasBlocks J L m blocks → HasBlocks I L m blocks
  others_were m blocks ne b = blocks_were I J L S IsOwn is_linked m blocks (far_now m b.file ne) b

  -- the file held the blocks that it had
  pub had_at : (i x : ℕ) → slice_get (kept ++ given) i ≡ Some x → Holds I L n (i + 1) x
  had_at i x e = elim R.had [
    | inl old ↦ holds_at I L n (kept ++ given) i x old e
    | inr none ↦ let wrong : None ≡ Some x = sym (ap (λ l. slice_get l i) none.0) ∙ e in absurd (cc)
  ]

  pub had_as : (v x : ℕ) → Holds I L n v x → slice_get (kept ++ given) (v - 1) ≡ Some x
  had_as v x h = elim R.had [
    | inl old ↦ ap (λ l. slice_get l (v - 1)) (same_chain I L.home (index_for L n) [] 0 n old.others (kept ++ given) h.file.others h.blocks old.whole.chain h.file.whole.chain).1 ∙ h.named
    | inr none ↦ absurd (none.1 h.file.file)
  ]

  pub kept_at : (i x : ℕ) → slice_get kept i ≡ Some x → Holds I L n (i + 1) x
  kept_at i x e = had_at i x (slice_get-append_left kept given i (slice_get_within kept i x e) ∙ e)

  pub given_at : (x : ℕ) (among : Contains given x) → Holds I L n (length kept + among.0 + 1) x
  given_at x among = had_at (length kept + among.0) x (slice_get-append_right kept given among.0 ∙ slice_get-get_or given among.0 x among.1 ∙ ap Some among.2)

  -- the file itself, if its number is in use, is there with a whole chain, and has these blocks
  pub own_file : IsTrue (is_in_use J L.home n) → IsFile J L n
  own_file used = head_of J L.home (Some L.index) [] 0 n later now (follows (R.chain n own_first used).0)

  pub own_whole : IsFile J L n → IsWhole J L n later now
  own_whole f = record {
    chain = (R.chain n own_first f.in_use).0;
    inside = subst (λ k. All (λ x. x < k) now) (sym R.long) (All-append (λ x. x < length I) kept taken
        (λ i d low. held_inside I L S n (i + 1) (get_or kept i d) [] (kept_at i (get_or kept i d) (slice_get-get_or kept i d low)))
        (λ i d low. free_inside I L (get_or taken i d) (R.was_free (get_or taken i d) (Contains-get_or taken i d low))));
  }

  pub own_blocks : IsFile J L n → HasBlocks J L n now
  own_blocks f = record { file = f; others = later; whole = own_whole f }

  pub own_blocks_are : (blocks : List ℕ) → HasBlocks J L n blocks → blocks ≡ now
  own_blocks_are blocks b = (same_chain J L.home (index_for L n) [] 0 n b.others blocks later now b.whole.chain (R.chain n own_first b.file.in_use).0).1

  -- what changes was bookkeeping, or free; so the layout stays
  pub written : (x : ℕ) → (block_at J x ≡ block_at I x) ⊎ CouldBeWritten I L x
  written x = elim (contains_or_not taken x) [
    | inl got ↦ inr (inl (R.was_free x got))
    | inr away ↦ elim (bookkeeping_or_not L own x) [ inl b ↦ inr (bookkeeping_written S own x b) | inr none ↦ inl (R.elsewhere x none away) ]
  ]

  pub number_high : (k : ℕ) → k < 3 → k ≢ n
  number_high k low e = let above = R.above in absurd (omega arith)

  pub layout_stays : IsLayoutOf J L
  layout_stays = homes.layout_stays I J L S R.long written
      (others_stay 1 L.index (number_high 1 (omega arith)) S.layout.index) (others_stay 2 L.bitmap (number_high 2 (omega arith)) S.layout.bitmap)

  -- a block that a file held stays, but for those of files 1 and 2
  pub held_block_stays : (m v x : ℕ) → Holds I L m v x → 2 < m → block_at J x ≡ block_at I x
  held_block_stays m v x h high = R.elsewhere x (no_bookkeeping S own m v x h (λ e. absurd (omega arith)) (λ e. absurd (omega arith)))
      (λ c. both_ways (is_free_block I L x) (S.not_free m v x h) (R.was_free x c))

  pub contents_stay : (m : ℕ) (blocks : List ℕ) → 2 < m → HasBlocks I L m blocks → contents_of J blocks ≡ contents_of I blocks
  contents_stay m blocks high b = mapped_alike (block_at I) (block_at J) blocks (λ i x e. held_block_stays m (i + 1) x (holds_at I L m blocks i x b e) high)

  pub kept_contents : contents_of J kept ≡ contents_of I kept
  kept_contents = mapped_alike (block_at I) (block_at J) kept (λ i x e. held_block_stays n (i + 1) x (kept_at i x e) (let above = R.above in omega arith))

  -- so each other file shows what it did
  pub shown_stays : (m : ℕ) (blocks : List ℕ) → m ≢ n → HasBlocks I L m blocks → file_of m (header_at J L m) (contents_of J blocks) ≡ file_of m (header_at I L m) (contents_of I blocks)
  shown_stays m blocks ne b = ap (λ c. file_of m c (contents_of J blocks)) (R.stays m (other_is_far m b.file ne)) ∙ same_file m (header_at I L m) (contents_of J blocks) (contents_of I blocks) unlooked_or_same
    where
      unlooked_or_same : (nat_le m 2 ≡ true) ⊎ (contents_of J blocks ≡ contents_of I blocks)
      unlooked_or_same = elim (cases_lt 2 m) [ inl past ↦ inr (contents_stay m blocks past b) | inr low ↦ inl (le-leb m 2 low) ]

  -- the file holds x as block v, one of those that it took
  abbrev pub IsTakenAs : ℕ → ℕ → ℕ → Type 0
  IsTakenAs m v x = (k : ℕ) × (m ≡ n) × (v ≡ length kept + k + 1) × (slice_get taken k ≡ Some x)

  abbrev pub IsKeptOrTaken : ℕ → ℕ → ℕ → Type 0
  IsKeptOrTaken m v x = (Holds I L m v x × ((m ≢ n) ⊎ (v ≤ length kept))) ⊎ IsTakenAs m v x

  -- what a file holds then it held, this one among the blocks that it keeps; or it was taken
  pub held_or_taken : (m v x : ℕ) → Holds J L m v x → IsKeptOrTaken m v x
  held_or_taken m v x h = elim (cases_eq m n) [
    | inr ne ↦ inl (held_before I J L S IsOwn is_linked m v x (far_now m h.file.file ne) h, inl ne)
    | inl e ↦ elim (in_front_or_behind kept taken (v - 1) x (ap (λ l. slice_get l (v - 1)) (sym (own_blocks_are h.blocks (subst (λ k. HasBlocks J L k h.blocks) e h.file))) ∙ h.named)) [
      | inl at ↦
          let first : 1 ≤ v = h.first in
          let low = slice_get_within kept (v - 1) x at in
          let same : v - 1 + 1 ≡ v = omega arith in
          inl (subst (λ k. Holds I L k v x) (sym e) (subst (λ w. Holds I L n w x) same (kept_at (v - 1) x at)), inr (omega arith))
      | inr p ↦ let first = h.first in let place = p.1 in inr (p.0, e, omega arith, p.2)
    ]
  ]

  -- and the other way round: another file holds what it held,
  pub others_hold : (m v x : ℕ) → Holds I L m v x → m ≢ n → Holds J L m v x
  others_hold m v x h ne = holds_stays I J L S IsOwn is_linked m v x (other_is_far m h.file.file ne) h

  module _ (file : IsFile J L n) where
    -- the file, where it is there, what it keeps,
    pub kept_hold : (m v x : ℕ) → Holds I L m v x → (m ≢ n) ⊎ (v ≤ length kept) → Holds J L m v x
    kept_hold m v x h (inl ne) = others_hold m v x h ne
    kept_hold m v x h (inr few) = elim (cases_eq m n) [
      | inr ne ↦ others_hold m v x h ne
      | inl e ↦
          let first : 1 ≤ v = h.first in
          let low : v - 1 < length kept = omega arith in
          let at = slice_get-append_left kept taken (v - 1) low ∙ sym (slice_get-append_left kept given (v - 1) low) ∙ had_as v x (subst (λ k. Holds I L k v x) e h) in
          subst (λ k. Holds J L k v x) (sym e) (record { blocks = now; file = own_blocks file; first = first; named = at })
    ]

    -- and what it took
    pub taken_hold : (m v x : ℕ) → IsTakenAs m v x → Holds J L m v x
    taken_hold m v x p =
        let is = p.2 in
        let at : v - 1 ≡ length kept + p.0 = omega arith in
        subst (λ k. Holds J L k v x) (sym p.1) (record { blocks = now; file = own_blocks file; first = omega arith; named = ap (slice_get now) at ∙ slice_get-append_right kept taken p.0 ∙ p.3 })
