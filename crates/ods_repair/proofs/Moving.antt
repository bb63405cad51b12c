-- What stays where a run of a file gets blocks of its own: the layout, each other chain, and the bytes of every file.
use Rattle.std.proofs.Common.{◌≡◌, ◌≢◌, ℕ, zero, suc, ◌+◌, ◌-◌, ◌/◌, ◌<◌, ◌≤◌, refl, ap, sym, ◌∙◌, subst, true, IsTrue, List, [], ◌∷◌, ◌++◌, length, map, get_or, Option, Some, None, arith, inl, inr}
use Rattle.std.specs.Prelude.{◌⊎◌, slice_get}
use Rattle.std.specs.Option.{option_map_or}
use Rattle.std.specs.List.{Contains, range_with_len}
use Rattle.std.proofs.lemmas.Bool.{cases_eq, cases_lt}
use Rattle.std.proofs.lemmas.List.{append_assoc, map-append}
use Rattle.std.proofs.lemmas.List.FromFn.{get_or-range_with_len, length-range_with_len}
use Rattle.std.proofs.lemmas.Option.{get_or_from_slice_get, same_Some, slice_get-get_or, slice_get_within}
use Rattle.ods_base.specs.Image.{block_at}
use Rattle.ods_header.specs.declared.header.Run.{Run}
use Rattle.ods_header.specs.Header.{blocks_of, run_blocks, segment_of, used_words_of}
use Rattle.ods_header.specs.Home.{IsHome, IsHomeAt, IsHomeOf, IsHomePlace, home_of}
use Rattle.ods_space.specs.Layout.{VolumeLayout, header_at, is_in_use, last_number, place_of}
use Rattle.ods_space.specs.Chain.{IsChain, IsSegment, index_for}
use Rattle.ods_space.specs.Files.{HasBlocks, Holds, IsFile, IsLayoutOf}
use Rattle.ods_space.specs.Free.{is_free_block}
use Rattle.ods_space.proofs.Chains.{same_chain}
use Rattle.ods_space.proofs.Surveys.{slice_get-append_left, slice_get-append_right, slice_get-run_blocks}
use Rattle.ods_alloc.specs.Extend.{IsStorageBitmap, IsWellPlaced}
use Rattle.ods_alloc.proofs.Appending.{has_place}
use Rattle.ods_alloc.proofs.FreeTests.{free_inside}
use Rattle.ods_alloc.proofs.Places.{place_in_index, place_not_index, place_once, storage_at}
use Rattle.ods_mount.specs.Faults.{CouldBeWritten, contents_of}
use Rattle.ods_mount.proofs.Each.{holds_at}
use Rattle.ods_mount.proofs.Layouts.{same_place}
use Rattle.ods_state.proofs.Links.{LinkedAt, bits_stay, linked_same}
use Rattle.ods_repair.specs.Moved.{CanMove, IsMoved, new_run, run_named}
use Rattle.ods_repair.specs.Repointed.{KeepsFile}
use Rattle.ods_repair.specs.Unshared.{IsBetween}
use Rattle.ods_repair.proofs.Repointed.{back_of, front_of, keeps_file, new_parts, old_parts, same_segment}
use Rattle.ods_repair.proofs.OtherChains as chains

-- numbers of a list are alike at each place of it
mapped_alike : {X : Type 0} (f g : ℕ → X) (xs : List ℕ) → ((i y : ℕ) → slice_get xs i ≡ Some y → g y ≡ f y) → map g xs ≡ map f xs
mapped_alike f g [] same = refl
mapped_alike f g (x ∷ xs) same =
    let first : g x ≡ f x = same 0 x refl in
    let rest : map g xs ≡ map f xs = mapped_alike f g xs (λ i y e. same (suc i) y e) in
    rw (first, rest) refl

-- and numbers of two ranges
moved_alike : {X : Type 0} (f g : ℕ → X) (n a b : ℕ) → ((k : ℕ) → k < n → g (b + k) ≡ f (a + k)) → map g (range_with_len b n) ≡ map f (range_with_len a n)
moved_alike f g zero a b same = refl
moved_alike f g (suc n) a b same =
    let first : g b ≡ f a = ap g (omega arith) ∙ same 0 (omega arith) ∙ ap f (omega arith) in
    let rest : map g (range_with_len (b + 1) n) ≡ map f (range_with_len (a + 1) n) = moved_alike f g n (a + 1) (b + 1) (λ k low. ap g (omega arith) ∙ same (suc k) (omega (arith, low)) ∙ ap f (omega arith)) in
    rw (first, rest) refl

module _ (I : List (List ℕ)) (L : VolumeLayout) (n : ℕ) (can : CanMove I L n) where
  -- the index is good, so it maps the index bitmap and headers 1 to 16
  index_at : (i : ℕ) → i < L.home.index_bitmap_size + 16 → slice_get L.index (2 + i) ≡ Some (L.home.index_bitmap_lbn + i)
  index_at i small = by (slice_get L.index (2 + i)) refl
    where
      by : (o : Option ℕ) → slice_get L.index (2 + i) ≡ o → slice_get L.index (2 + i) ≡ Some (L.home.index_bitmap_lbn + i)
      by None e = absurd (can.index (inr (inl (i, small, λ q. let clash : None ≡ Some (L.home.index_bitmap_lbn + i) = sym e ∙ q in cc))))
      by (Some y) e = elim (cases_eq y (L.home.index_bitmap_lbn + i)) [
        | inl is ↦ e ∙ ap Some is
        | inr other ↦ absurd (can.index (inr (inl (i, small, λ q. other (same_Some y (L.home.index_bitmap_lbn + i) (sym e ∙ q))))))
      ]

  -- whether INDEXF.SYS has this LBN at a place is decided
  is_at : (i x : ℕ) → (slice_get L.index i ≡ Some x) ⊎ (slice_get L.index i ≢ Some x)
  is_at i x = by (slice_get L.index i) refl
    where
      by : (o : Option ℕ) → slice_get L.index i ≡ o → (slice_get L.index i ≡ Some x) ⊎ (slice_get L.index i ≢ Some x)
      by None e = inr (λ q. let clash : None ≡ Some x = sym e ∙ q in cc)
      by (Some y) e = elim (cases_eq y x) [
        | inl is ↦ inl (e ∙ ap Some is)
        | inr other ↦ inr (λ q. other (same_Some y x (sym e ∙ q)))
      ]

  -- the home block is VBN 1 or 2 of INDEXF.SYS
  home_in_index : (lbn : ℕ) → IsHomeAt I lbn → (slice_get L.index 0 ≡ Some lbn) ⊎ (slice_get L.index 1 ≡ Some lbn)
  home_in_index lbn at = elim (is_at 0 lbn) [
    | inl is ↦ inl is
    | inr first ↦ elim (is_at 1 lbn) [
      | inl is ↦ inr is
      | inr second ↦ absurd (can.index (inr (inr (inl (lbn, at, first, second)))))
    ]
  ]

  never_lower : (lbn k : ℕ) → IsHomeAt I lbn → IsHomePlace k → k < lbn → ¬ CouldBeWritten I L k
  never_lower lbn k at place below written = can.index (inr (inr (inr (lbn, k, at, place, below, written))))

  -- BITMAP.SYS holds its blocks alone
  no_bitmap : (b q v : ℕ) → q ≢ 2 → Holds I L q v b → (k : ℕ) → slice_get L.bitmap k ≡ Some b → ⊥
  no_bitmap b q v other h k is = (can.bitmap.apart b (k, omega arith, is)).1 (q, (other, (v, h)))

  pub placed : IsWellPlaced L
  placed = record {
    index_place = index_at;
    index_once = can.once;
    bitmap_once = can.bitmap.once;
    apart = λ i j b c p q e. no_bitmap c 1 (i + 1) (λ two. absurd (omega (arith, two))) (subst (λ y. Holds I L 1 (i + 1) y) e (holds_at I L 1 L.index i b can.layout.index p)) j q;
  }

  pub own_place : (x : ℕ) × (place_of L n ≡ Some x)
  own_place = has_place I L n can.has.file.valid

  pub place_held : (q x : ℕ) → place_of L q ≡ Some x → Holds I L 1 (1 + L.home.index_bitmap_size + q + 1) x
  place_held q x e = holds_at I L 1 L.index (1 + L.home.index_bitmap_size + q) x can.layout.index (place_in_index L q x placed e).1

  -- the file has one block at a place
  pub one_at_place : (v b c : ℕ) → Holds I L n v b → Holds I L n v c → b ≡ c
  one_at_place v b c h g =
      let same : h.blocks ≡ g.blocks = (same_chain I L.home (index_for L n) [] 0 n h.file.others h.blocks g.file.others g.blocks h.file.whole.chain g.file.whole.chain).1 in
      same_Some b c (sym h.named ∙ ap (λ l. slice_get l (v - 1)) same ∙ g.named)

  -- a block of a file with no bookkeeping is no block of the storage bitmap and not the file's header
  pub no_bookkeeping : (q v x : ℕ) → q ≢ 1 → q ≢ 2 → Holds I L q v x → (¬ IsStorageBitmap L x) × (place_of L n ≢ Some x)
  no_bookkeeping q v x one two h = (
    (λ stands. let at = storage_at L x stands in no_bitmap x q v two h at.0 at.1),
    (λ e. can.header x e (q, (one, (v, h)))),
  )

module _ (I J : List (List ℕ)) (L : VolumeLayout) (n at to : ℕ) (can : CanMove I L n) (m : IsMoved I L n at to J) (low : at < used_words_of (header_at I L n) / 2)
    (free : (x : ℕ) → to ≤ x → x < to + (run_named I L n at).count → is_free_block I L x ≡ true) where
  abbrev pub old_header : List ℕ
  old_header = header_at I L n

  abbrev pub new_header : List ℕ
  new_header = header_at J L n

  abbrev pub count : ℕ
  count = (run_named I L n at).count

  abbrev pub new : List ℕ
  new = new_run I L n at to

  pub in_run : (x : ℕ) → Contains new x → (to ≤ x) × (x < to + count)
  in_run x (k, within, is) =
      let small : k < count = omega (arith, within, length-range_with_len to count) in
      let e : to + k ≡ x = sym (get_or-range_with_len to count k x small) ∙ is in
      (omega (arith, e), omega (arith, e, small))

  pub new_free : (x : ℕ) → Contains new x → is_free_block I L x ≡ true
  new_free x c = let r = in_run x c in free x r.0 r.1

  -- no file holds a block of the new run
  pub new_unheld : (x q v : ℕ) → Contains new x → ¬ Holds I L q v x
  new_unheld x q v c h = can.used q x (v, h, new_free x c)

  index_stays : (i x : ℕ) → slice_get L.index i ≡ Some x → place_of L n ≢ Some x → block_at J x ≡ block_at I x
  index_stays i x e other =
      let held = holds_at I L 1 L.index i x can.layout.index e in
      m.elsewhere x (λ stands. let p = storage_at L x stands in (placed I L n can).apart i p.0 x x e p.1 refl) other (λ c. new_unheld x 1 (i + 1) c held)

  pub header_stays : (q : ℕ) → q ≢ n → header_at J L q ≡ header_at I L q
  header_stays q other = by (place_of L q) refl
    where
      same : (o : Option ℕ) → place_of L q ≡ o → option_map_or (block_at J) o [] ≡ option_map_or (block_at I) o []
      same None e = refl
      same (Some x) e = index_stays (1 + L.home.index_bitmap_size + q) x (place_in_index L q x (placed I L n can) e).1 (λ own. other (place_once L q n x (placed I L n can) e own))

      by : (o : Option ℕ) → place_of L q ≡ o → header_at J L q ≡ header_at I L q
      by o e = ap (λ p. option_map_or (block_at J) p []) e ∙ same o e ∙ sym (ap (λ p. option_map_or (block_at I) p []) e)

  pub bits_kept : (q : ℕ) → is_in_use J L.home q ≡ is_in_use I L.home q
  bits_kept = bits_stay I J L.home (λ i small. index_stays (2 + i) (L.home.index_bitmap_lbn + i) (index_at I L n can i (omega (arith, small)))
      (λ own. place_not_index L n (L.home.index_bitmap_lbn + i) (placed I L n can) own (omega arith, omega (arith, small))))

  -- the block at a place of a home block, up to the one in force, stays
  low_place_stays : (lbn k : ℕ) → IsHomeAt I lbn → IsHomePlace k → k < lbn → block_at J k ≡ block_at I k
  low_place_stays lbn k home place below = m.elsewhere k
      (λ stands. let p = storage_at L k stands in (can.bitmap.apart k (p.0, omega arith, p.1)).0 (inl place))
      (λ own. never_lower I L n can lbn k home place below (inr (
        1,
        1 + L.home.index_bitmap_size + n + 1,
        place_held I L n can n k own,
        (λ e. absurd (omega (arith, e))),
        (λ e. absurd (omega (arith, e))),
        (λ r. let high = r.1 in absurd (omega (arith, high, can.other))),
      )))
      (λ c. never_lower I L n can lbn k home place below (inl (new_free k c)))

  home_block_stays : (lbn : ℕ) → IsHomeAt I lbn → block_at J lbn ≡ block_at I lbn
  home_block_stays lbn home = elim (home_in_index I L n can lbn home) [
    | inl is ↦ index_stays 0 lbn is (λ own. let same = (placed I L n can).index_once 0 (1 + L.home.index_bitmap_size + n) lbn is (place_in_index L n lbn (placed I L n can) own).1 in absurd (omega (arith, same)))
    | inr is ↦ index_stays 1 lbn is (λ own. let same = (placed I L n can).index_once 1 (1 + L.home.index_bitmap_size + n) lbn is (place_in_index L n lbn (placed I L n can) own).1 in absurd (omega (arith, same, can.other)))
  ]

  pub home_stays : (lbn : ℕ) → IsHomeAt I lbn → IsHomeAt J lbn
  home_stays lbn home = record {
    place = home.place;
    inside = subst (λ k. lbn < k) (sym m.long) home.inside;
    home = subst IsHome (sym (home_block_stays lbn home)) home.home;
    least = λ j place below inside is. home.least j place below (subst (λ k. j < k) m.long inside) (subst IsHome (low_place_stays lbn j home place below) is);
  }

  pub home_was : (lbn : ℕ) → IsHomeAt J lbn → IsHomeAt I lbn
  home_was lbn home =
      let own = can.layout.home in
      subst (IsHomeAt I) (same_place J own.0 lbn (home_stays own.0 own.1) home) own.1

  fields_stay : IsHomeOf J L.home
  fields_stay = let own = can.layout.home in (own.0, home_stays own.0 own.1, own.2 ∙ sym (ap home_of (home_block_stays own.0 own.1)))

  linked : (q : ℕ) → q ≢ n → LinkedAt I J L.home L.index q
  linked q other = linked_same I J L.home L.index q (header_stays q other) (bits_kept q)

  linked_back : (q : ℕ) → q ≢ n → LinkedAt J I L.home L.index q
  linked_back q other = linked_same J I L.home L.index q (sym (header_stays q other)) (sym (bits_kept q))

  -- the file's own header keeps what it says of the file
  pub kept_header : KeepsFile old_header new_header
  kept_header = keeps_file old_header new_header can.has.file.valid.header.layout at to low m.header

  old_first : segment_of old_header ≡ 0
  old_first = can.has.file.segment

  new_is_first : segment_of new_header ≡ 0
  new_is_first = same_segment old_header new_header can.has.file.valid.header.layout kept_header ∙ old_first

  own_segment : IsSegment I L.home L.index (last_number L) n 0 → IsSegment J L.home L.index (last_number L) n 0
  own_segment s = record {
    first = s.first;
    last = s.last;
    in_use = subst IsTrue (sym (bits_kept n)) s.in_use;
    valid = kept_header.valid n s.valid;
    segment = new_is_first;
  }

  pub own_file : IsFile J L n
  own_file = own_segment can.has.file

  other_one : n ≢ 1
  other_one e = absurd (omega (arith, e, can.other))

  -- the blocks of the file before the run, in it, and behind it
  abbrev pub more : ℕ
  more = used_words_of old_header / 2 - at - 1

  is_more : used_words_of old_header / 2 ≡ at + suc more
  is_more = omega (arith, low)

  pub own_now : (rest : List ℕ) × (can.blocks ≡ blocks_of old_header ++ rest) × IsChain J L n can.has.others (blocks_of new_header ++ rest)
  own_now = chains.own_chain I J L n linked old_first can.layout.index other_one kept_header own_segment can.has.others can.blocks can.has.file can.has.whole.chain

  abbrev pub front : List ℕ
  front = front_of old_header at

  abbrev pub behind : List ℕ
  behind = back_of old_header at more ++ own_now.0

  abbrev pub was : List ℕ
  was = run_blocks (run_named I L n at)

  abbrev pub now : List ℕ
  now = front ++ (new ++ behind)

  pub old_blocks : can.blocks ≡ front ++ (was ++ behind)
  old_blocks =
      own_now.1 ∙ ap (λ l. l ++ own_now.0) (old_parts old_header new_header can.has.file.valid.header.layout at to low m.header more is_more)
      ∙ append_assoc front (was ++ back_of old_header at more) own_now.0 ∙ ap (λ l. front ++ l) (append_assoc was (back_of old_header at more) own_now.0)

  pub new_chain : IsChain J L n can.has.others now
  new_chain = subst (IsChain J L n can.has.others)
      (ap (λ l. l ++ own_now.0) (new_parts old_header new_header can.has.file.valid.header.layout at to low m.header more is_more)
      ∙ append_assoc front (new ++ back_of old_header at more) own_now.0 ∙ ap (λ l. front ++ l) (append_assoc new (back_of old_header at more) own_now.0))
      own_now.2

  -- a block of the file is where it was, or in the new run
  pub place_now : (i y : ℕ) → slice_get now i ≡ Some y → (slice_get can.blocks i ≡ Some y) ⊎ ((k : ℕ) × (k < count) × (i ≡ length front + k) × (y ≡ to + k))
  place_now i y e = elim (cases_lt i (length front)) [
    | inl before ↦ inl (ap (λ l. slice_get l i) old_blocks ∙ slice_get-append_left front (was ++ behind) i before ∙ sym (slice_get-append_left front (new ++ behind) i before) ∙ e)
    | inr past ↦
        let k : ℕ = i - length front in
        let is : i ≡ length front + k = omega (arith, past) in
        let there : slice_get (new ++ behind) k ≡ Some y = sym (slice_get-append_right front (new ++ behind) k) ∙ ap (slice_get now) (sym is) ∙ e in
        elim (cases_lt k count) [
          | inl small ↦
              let here : slice_get new k ≡ Some y = sym (slice_get-append_left new behind k (omega (arith, small, length-range_with_len to count))) ∙ there in
              let run : Run = record { lbn = to; count = count } in
              inr (k, small, is, same_Some y (to + k) (sym here ∙ slice_get-run_blocks run k small))
          | inr large ↦
              let j : ℕ = k - count in
              let new_long : k ≡ length new + j = omega (arith, large, length-range_with_len to count) in
              let was_long : k ≡ length was + j = omega (arith, large, length-range_with_len (run_named I L n at).lbn count) in
              let here : slice_get behind j ≡ Some y = sym (slice_get-append_right new behind j) ∙ ap (slice_get (new ++ behind)) (sym new_long) ∙ there in
              inl (ap (λ l. slice_get l i) old_blocks ∙ ap (slice_get (front ++ (was ++ behind))) is ∙ slice_get-append_right front (was ++ behind) k
              ∙ ap (slice_get (was ++ behind)) was_long ∙ slice_get-append_right was behind j ∙ here)
        ]
  ]

  inside_now : (i : ℕ) (d : ℕ) → i < length now → get_or now i d < length J
  inside_now i d within =
      let y : ℕ = get_or now i d in
      elim (place_now i y (slice_get-get_or now i d within)) [
        | inl was ↦ subst (λ k. y < k) (sym m.long) (subst (λ z. z < length I) (get_or_from_slice_get can.blocks i y d was) (can.has.whole.inside i d (slice_get_within can.blocks i y was)))
        | inr (k, small, is, e) ↦
            let f = free_inside I L y (subst (λ z. is_free_block I L z ≡ true) (sym e) (free (to + k) (omega arith) (omega (arith, small)))) in
            subst (λ z. y < z) (sym m.long) f
      ]

  pub own_has : HasBlocks J L n now
  own_has = record { file = own_file; others = can.has.others; whole = record { chain = new_chain; inside = inside_now } }

  -- each other file has its blocks
  pub has_stays : (q : ℕ) (bs : List ℕ) → q ≢ n → HasBlocks I L q bs → HasBlocks J L q bs
  has_stays q bs other h = chains.has_stays I J L n linked old_first can.layout.index m.long q bs other h

  one_other : 1 ≢ n
  one_other e = absurd (omega (arith, e, can.other))

  two_other : 2 ≢ n
  two_other e = absurd (omega (arith, e, can.other))

  pub layout_stays : IsLayoutOf J L
  layout_stays = record { home = fields_stay; index = has_stays 1 L.index one_other can.layout.index; bitmap = has_stays 2 L.bitmap two_other can.layout.bitmap }

  pub has_was : (q : ℕ) (bs : List ℕ) → q ≢ n → HasBlocks J L q bs → HasBlocks I L q bs
  has_was q bs other h = chains.has_stays J I L n linked_back new_is_first layout_stays.index (sym m.long) q bs other h

  pub chain_stays : (q : ℕ) (ms bs : List ℕ) → q ≢ n → IsChain I L q ms bs → IsChain J L q ms bs
  chain_stays q ms bs other c = chains.chain_stays I J L n linked old_first can.layout.index q ms bs other c

  pub chain_was : (q : ℕ) (ms bs : List ℕ) → q ≢ n → IsChain J L q ms bs → IsChain I L q ms bs
  chain_was q ms bs other c = chains.chain_stays J I L n linked_back new_is_first layout_stays.index q ms bs other c

  pub file_stays : (q : ℕ) → IsFile I L q → IsFile J L q
  file_stays q f = elim (cases_eq q n) [
    | inl same ↦ subst (IsFile J L) (sym same) own_file
    | inr other ↦ chains.file_stays I J L n linked old_first can.layout.index q other f
  ]

  pub file_was : (q : ℕ) → IsFile J L q → IsFile I L q
  file_was q f = elim (cases_eq q n) [
    | inl same ↦ subst (IsFile I L) (sym same) can.has.file
    | inr other ↦ chains.file_stays J I L n linked_back new_is_first layout_stays.index q other f
  ]

  -- the file has these blocks and no others
  pub own_is : (bs : List ℕ) → HasBlocks J L n bs → bs ≡ now
  own_is bs h = (same_chain J L.home (index_for L n) [] 0 n h.others bs can.has.others now h.whole.chain new_chain).1

  pub own_was : (bs : List ℕ) → HasBlocks I L n bs → bs ≡ can.blocks
  own_was bs h = (same_chain I L.home (index_for L n) [] 0 n h.others bs can.has.others can.blocks h.whole.chain can.has.whole.chain).1

  -- a block of a file is one that it held, or one of the new run
  pub held_was : (q v y : ℕ) → Holds J L q v y → Holds I L q v y ⊎ ((q ≡ n) × ((k : ℕ) × (k < count) × (v ≡ length front + k + 1) × (y ≡ to + k)))
  held_was q v y h = elim (cases_eq q n) [
    | inr other ↦ inl (record { blocks = h.blocks; file = has_was q h.blocks other h.file; first = h.first; named = h.named })
    | inl same ↦
        let has : HasBlocks J L n h.blocks = subst (λ z. HasBlocks J L z h.blocks) same h.file in
        let first = h.first in
        elim (place_now (v - 1) y (ap (λ l. slice_get l (v - 1)) (sym (own_is h.blocks has)) ∙ h.named)) [
          | inl stays ↦ inl (subst (λ z. Holds I L z v y) (sym same) (record { blocks = can.blocks; file = can.has; first = h.first; named = stays }))
          | inr (k, small, is, e) ↦ inr (same, (k, small, omega (arith, is, first), e))
        ]
  ]

  pub holds_stays : (q v y : ℕ) → q ≢ n → Holds I L q v y → Holds J L q v y
  holds_stays q v y other h = record { blocks = h.blocks; file = has_stays q h.blocks other h.file; first = h.first; named = h.named }

  -- what a file holds keeps its bytes, but for the bookkeeping
  pub block_stays : (q v x : ℕ) → q ≢ 1 → q ≢ 2 → Holds I L q v x → block_at J x ≡ block_at I x
  block_stays q v x one two h =
      let no = no_bookkeeping I L n can q v x one two h in
      m.elsewhere x no.0 no.1 (λ c. new_unheld x q v c h)

  pub contents_stay : (q : ℕ) (bs : List ℕ) → q ≢ 1 → q ≢ 2 → HasBlocks I L q bs → contents_of J bs ≡ contents_of I bs
  contents_stay q bs one two h = mapped_alike (block_at I) (block_at J) bs (λ i y e. block_stays q (i + 1) y one two (holds_at I L q bs i y h e))

  own_block_stays : (i y : ℕ) → slice_get can.blocks i ≡ Some y → block_at J y ≡ block_at I y
  own_block_stays i y e = block_stays n (i + 1) y other_one (λ two. absurd (omega (arith, two, can.other))) (holds_at I L n can.blocks i y can.has e)

  -- and so does the file
  pub own_contents : contents_of J now ≡ contents_of I can.blocks
  own_contents =
      let front_same : map (block_at J) front ≡ map (block_at I) front = mapped_alike (block_at I) (block_at J) front (λ i y e.
      own_block_stays i y (ap (λ l. slice_get l i) old_blocks ∙ slice_get-append_left front (was ++ behind) i (slice_get_within front i y e) ∙ e)) in
      let behind_same : map (block_at J) behind ≡ map (block_at I) behind = mapped_alike (block_at I) (block_at J) behind (λ i y e.
      own_block_stays (length front + (length was + i)) y (ap (λ l. slice_get l (length front + (length was + i))) old_blocks ∙ slice_get-append_right front (was ++ behind) (length was + i) ∙ slice_get-append_right was behind i ∙ e)) in
      let run_same : map (block_at J) new ≡ map (block_at I) was = moved_alike (block_at I) (block_at J) count (run_named I L n at).lbn to m.copied in
      map-append (block_at J) front (new ++ behind)
      ∙ ap (λ l. map (block_at J) front ++ l) (map-append (block_at J) new behind)
      ∙ (λ i. front_same i ++ (run_same i ++ behind_same i))
      ∙ sym (ap (λ l. map (block_at I) front ++ l) (map-append (block_at I) was behind))
      ∙ sym (map-append (block_at I) front (was ++ behind))
      ∙ ap (map (block_at I)) (sym old_blocks)

  -- a block of the file outside the run stays at its place
  pub place_stays : (i y : ℕ) → (i < length front) ⊎ (length front + count ≤ i) → slice_get can.blocks i ≡ Some y → slice_get now i ≡ Some y
  place_stays i y (inl before) e =
      slice_get-append_left front (new ++ behind) i before ∙ sym (slice_get-append_left front (was ++ behind) i before) ∙ ap (λ l. slice_get l i) (sym old_blocks) ∙ e
  place_stays i y (inr past) e =
      let j : ℕ = i - length front - count in
      let long : length was ≡ count = length-range_with_len (run_named I L n at).lbn count in
      let new_long : length new ≡ count = length-range_with_len to count in
      let is : i ≡ length front + (length was + j) = omega (arith, past, long) in
      let there : i ≡ length front + (length new + j) = omega (arith, past, new_long) in
      let here : slice_get behind j ≡ Some y = sym (slice_get-append_right was behind j) ∙ sym (slice_get-append_right front (was ++ behind) (length was + j))
      ∙ ap (slice_get (front ++ (was ++ behind))) (sym is) ∙ ap (λ l. slice_get l i) (sym old_blocks) ∙ e in
      ap (slice_get now) there ∙ slice_get-append_right front (new ++ behind) (length new + j) ∙ slice_get-append_right new behind j ∙ here

  -- a block is one of the old run, or none of it
  pub own_or_not : (b : ℕ) → ((v : ℕ) × IsBetween (length front) (length front + count) v × Holds I L n v b) ⊎ ¬ ((v : ℕ) × IsBetween (length front) (length front + count) v × Holds I L n v b)
  own_or_not b = elim (cases_lt b (run_named I L n at).lbn) [
    | inl less ↦ inr (λ (v, between, h). let is = run_block v between h in absurd (omega (arith, is, less)))
    | inr more ↦ elim (cases_lt b ((run_named I L n at).lbn + count)) [
      | inl within ↦
          let k : ℕ = b - (run_named I L n at).lbn in
          let small : k < count = omega (arith, within, more) in
          let is : (run_named I L n at).lbn + k ≡ b = omega (arith, more) in
          let e : slice_get can.blocks (length front + k) ≡ Some b = ap (λ l. slice_get l (length front + k)) old_blocks ∙ slice_get-append_right front (was ++ behind) k
          ∙ slice_get-append_left was behind k (omega (arith, small, length-range_with_len (run_named I L n at).lbn count)) ∙ slice_get-run_blocks (run_named I L n at) k small ∙ ap Some is in
          inl (length front + k + 1, (omega arith, omega (arith, small)), holds_at I L n can.blocks (length front + k) b can.has e)
      | inr past ↦ inr (λ (v, between, h). let is = run_block v between h in absurd (omega (arith, is, past)))
    ]
  ]
    where
      run_block : (v : ℕ) → IsBetween (length front) (length front + count) v → Holds I L n v b → ((run_named I L n at).lbn ≤ b) × (b < (run_named I L n at).lbn + count)
      run_block v between h =
          let k : ℕ = v - 1 - length front in
          let above = between.0 in
          let below = between.1 in
          let small : k < count = omega (arith, above, below) in
          let at_v : v - 1 ≡ length front + k = omega (arith, above) in
          let is : h.blocks ≡ can.blocks = own_was h.blocks h.file in
          let e : Some ((run_named I L n at).lbn + k) ≡ Some b = sym (ap (λ l. slice_get l (v - 1)) old_blocks ∙ ap (slice_get (front ++ (was ++ behind))) at_v ∙ slice_get-append_right front (was ++ behind) k
          ∙ slice_get-append_left was behind k (omega (arith, small, length-range_with_len (run_named I L n at).lbn count)) ∙ slice_get-run_blocks (run_named I L n at) k small)
          ∙ ap (λ l. slice_get l (v - 1)) (sym is) ∙ h.named in
          let lbn : (run_named I L n at).lbn + k ≡ b = same_Some _ _ e in
          (omega (arith, lbn), omega (arith, lbn, small))

  -- the file holds the new run
  pub new_is_held : (b : ℕ) → Contains new b → ((q v : ℕ) → ¬ Holds J L q v b) → ⊥
  new_is_held b (k, within, is) none =
      let small : k < count = omega (arith, within, length-range_with_len to count) in
      let run : Run = record { lbn = to; count = count } in
      let b_is : to + k ≡ b = sym (get_or-range_with_len to count k b small) ∙ is in
      let e : slice_get now (length front + k) ≡ Some b = slice_get-append_right front (new ++ behind) k ∙ slice_get-append_left new behind k within ∙ slice_get-run_blocks run k small ∙ ap Some b_is in
      none n (length front + k + 1) (holds_at J L n now (length front + k) b own_has e)

  pub new_at_place : (k : ℕ) → k < count → Holds J L n (length front + k + 1) (to + k)
  new_at_place k small =
      let run : Run = record { lbn = to; count = count } in
      holds_at J L n now (length front + k) (to + k) own_has
      (slice_get-append_right front (new ++ behind) k ∙ slice_get-append_left new behind k (omega (arith, small, length-range_with_len to count)) ∙ slice_get-run_blocks run k small)
