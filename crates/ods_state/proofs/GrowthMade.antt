-- What follows from a grown chain: J is the sound volume I with the file grown, and its new headers have their form.
-- K stands between them, with the first header and the taken blocks written.
use Rattle.std.proofs.Common.{◌≡◌, ◌≢◌, ℕ, zero, suc, ◌+◌, ◌-◌, ◌*◌, ◌/◌, ◌%◌, ◌<◌, ◌≤◌, refl, ap, sym, ◌∙◌, subst, Bool, true, false, cond, get_or, List, [], ◌∷◌, ◌++◌, length, drop, Option, Some, None, arith, inl, inr}
use Rattle.std.specs.Prelude.{◌⊎◌, ◌&&◌, ◌||◌, not, slice_get, slice_index, IsTrue}
use Rattle.std.specs.Option.{option_map_or}
use Rattle.std.specs.List.{Contains, flat_map}
use Rattle.std.proofs.lemmas.Bool.{both_ways, cases_eq, ltb-true, ne_eqb}
use Rattle.std.proofs.lemmas.List.{length-append, length-drop}
use Rattle.std.proofs.lemmas.List.Elements.{All-contains, Contains-append_cases, Contains-append_right, Contains-get_or}
use Rattle.std.proofs.lemmas.Map.Made.{Contains-tail}
use Rattle.std.proofs.lemmas.Option.{slice_get-get_or}
use Rattle.ods_state.proofs.Chains.{later_in}
use Rattle.ods_state.proofs.Bookkeeping.{bitmap_holds, well_placed}
use Rattle.ods_base.specs.Block.{byte, has_bit}
use Rattle.ods_base.specs.Image.{block_at}
use Rattle.ods_header.specs.Extension.{IsExtensionOf, IsMadeHeader}
use Rattle.ods_header.specs.Header.{IsValidHeader, map_word, next_volume_of, room_of, runs_of, segment_of, sequence_of}
use Rattle.ods_header.specs.Pointing.{BeginsPointers, KeepsFields, KeepsForm, KeepsRest}
use Rattle.ods_space.specs.Layout.{VolumeLayout, place_of, header_at, is_in_use}
use Rattle.ods_space.specs.Chain.{Follows, IsChain, index_for}
use Rattle.ods_space.specs.Free.{is_covered, storage_bit}
use Rattle.ods_alloc.specs.Extend.{EndsClean, Extends, IsBookkeeping, chain_runs, cut, is_one_of, last_of}
use Rattle.ods_alloc.proofs.Fields.{all_links}
use Rattle.ods_alloc.proofs.Rests.{rest_on, rest_still}
use Rattle.ods_alloc.proofs.Places.{place_not_index, place_not_storage, place_once, stands_in_storage}
use Rattle.ods_mount.specs.Sound.{IsSoundBy}
use Rattle.ods_state.specs.Change.{disk}
use Rattle.ods_state.specs.Made.{AreMade}
use Rattle.ods_state.specs.Wants.{allocated_blocks, allocated_numbers}
use Rattle.ods_state.specs.Growth.{IsGrowth, IsReady, IsTaking, all_headers}
use Rattle.ods_state.proofs.GrowthChain.{still}
use Rattle.ods_state.proofs.GrowthReady.{IsNewFile, IsOldFile, header_stays, held_stays, seen, allocated_not_bookkeeping, used_stays}
use Rattle.ods_state.proofs.GrowthAllocates.{not_the_first}
use Rattle.ods_state.proofs.Still.{chain_kept}
use Rattle.ods_state.proofs.Taken.{contains_or_not, later_segment, none_empty, none_of, old_in_use, one_of}

-- a header whose fields are kept keeps its sequence number
sequence_kept : (b c : List ℕ) (n : ℕ) → IsValidHeader b n → KeepsFields b c → sequence_of c ≡ sequence_of b
sequence_kept b c n valid kept =
    let p = valid.header.layout.ident in let q = valid.header.layout.map in
    λ i. kept 4 (inl (omega arith)) i + 256 * kept 5 (inl (omega arith)) i

-- what keeps its form, and then its fields, keeps its form
form_on : (b c d : List ℕ) (n : ℕ) → IsValidHeader c n → KeepsForm b c → KeepsFields c d → KeepsForm b d
form_on b c d n valid form kept i at =
    let p = valid.header.layout.ident in let q = valid.header.layout.map in
    let m : map_word c ≡ map_word b = form 1 (inl (omega arith)) in
    kept i (elim at [
      | inl low ↦ inl (omega arith)
      | inr (inl e) ↦ inl (omega arith)
      | inr (inr (inl between)) ↦ let high = between.1 in inl (omega arith)
      | inr (inr (inr (inl e))) ↦ inr (inl (omega arith))
      | inr (inr (inr (inr (inl e)))) ↦ inr (inr (inl (omega arith)))
      | inr (inr (inr (inr (inr e)))) ↦ inr (inr (inr (omega arith)))
    ]) ∙ form i at

-- a made header whose fields are kept is one, where it names no other volume
made_on : (b c : List ℕ) → KeepsFields b c → KeepsRest b c → IsMadeHeader b → next_volume_of c ≡ 0 → IsMadeHeader c
made_on b c kept rest made volume =
    let place = made.map in let further = rest.further in
    let map : map_word c ≡ map_word b = kept 1 (inl (omega arith)) in
    record {
      ident = kept 0 (inl (omega arith)) ∙ made.ident;
      map = map ∙ made.map;
      most = ap (λ k. byte c (2 * k + 9)) map ∙ kept (2 * map_word b + 9) (inr (inr (inr refl))) ∙ made.most;
      volume = volume;
      rest = λ i from below. rest.behind i from below ∙ made.rest i (omega arith) below;
    }

-- one more list behind the last header of a chain, by places
at_last : (n : ℕ) (os ns : List ℕ) (i j : ℕ) → i ≡ length os + j → slice_get (n ∷ os ++ ns) i ≡ slice_get (last_of n os ∷ ns) j
at_last n [] ns i j e = let same : i ≡ j = omega (arith, e) in ap (slice_get (n ∷ ns)) same
at_last n (o ∷ os) ns zero j e = absurd (omega arith)
at_last n (o ∷ os) ns (suc i) j e = at_last o os ns i j (omega arith)

-- a list without an element
empty : (xs : List ℕ) → length xs ≡ 0 → xs ≡ []
empty [] none = refl
empty (x ∷ xs) none = absurd (omega (arith, none))

or_same : (u a b : Bool) → (u ≡ false → a ≡ b) → (u || a) ≡ (u || b)
or_same true a b same = refl
or_same false a b same = same refl

module _ (I K J : List (List ℕ)) (L : VolumeLayout) (S : IsSoundBy I L) (n : ℕ) (headers old : List ℕ) (count : ℕ) (numbers : List ℕ)
    (t : IsTaking I L n headers old count numbers) (r : IsReady I K L n headers count) (e : Extends K L n (drop 1 headers) old (allocated_blocks I L count) numbers J) where
  abbrev Old : Type 0
  Old = IsOldFile I K L n headers old count numbers

  abbrev New : Type 0
  New = IsNewFile I K L n headers old count numbers

  which : Old ⊎ New
  which = seen I K L S n headers old count numbers t r

  -- the headers that were there, with the first one of a new file
  abbrev written : List ℕ
  written = n ∷ drop 1 headers

  same_header : (m : ℕ) → m ≢ n → header_at K L m ≡ header_at I L m
  same_header = header_stays I K L S n headers old count numbers t r

  -- the taken blocks stay what was written into them
  pub filled : (x : ℕ) → Contains (allocated_blocks I L count) x → block_at J x ≡ block_at K x
  filled x c = e.only.others x (allocated_not_bookkeeping I L S count x (written ++ numbers) c)

  -- the first header keeps its fields
  pub first_fields : KeepsFields (header_at K L n) (header_at J L n)
  first_fields = e.stays 0 n (omega arith)

  first_rest : KeepsRest (header_at K L n) (header_at J L n)
  first_rest = e.rest 0 n (omega arith)

  pub first_valid : IsValidHeader (header_at K L n) n
  first_valid = by which
    where
      by : Old ⊎ New → IsValidHeader (header_at K L n) n
      by (inl o) = o.kept.links.valid o.file.valid
      by (inr f) = f.made.valid

  index : index_for L n ≡ Some L.index
  index = let above = t.above in ap (λ z. cond z None (Some L.index)) (ne_eqb n 1 (λ is. absurd (omega arith)))

  -- the chain that the file had, in both images
  chain_in : (X : List (List ℕ)) (ms bs : List ℕ) → IsChain X L n ms bs → Follows X L.home (Some L.index) [] 0 n ms bs
  chain_in X ms bs c = subst (λ o. Follows X L.home o [] 0 n ms bs) index c

  old_valid : Old → (m : ℕ) → Contains written m → IsValidHeader (header_at K L m) m
  old_valid o m c =
      let chain = chain_in K (drop 1 headers) old (chain_kept I K L S (still I K L S n headers old count numbers t r o) n (drop 1 headers) old o.chain) in
      All-contains (λ x. IsValidHeader (header_at K L x) x) written m (all_links K L (λ x. IsValidHeader (header_at K L x) x) (λ x k link. link.valid) (drop 1 headers) 0 n [] old chain) c

  -- the first header is none of the others
  not_later : Old → (m : ℕ) → Contains (drop 1 headers) m → m ≢ n
  not_later o m c is =
      let later = later_segment I L.home L.index [] 0 n (drop 1 headers) old (chain_in I (drop 1 headers) old o.chain) m c in
      let high : segment_of (header_at I L m) ≡ suc later.0 = later.1 in
      let low : segment_of (header_at I L n) ≡ 0 = o.file.segment in
      absurd (omega (arith, high, low, ap (λ x. segment_of (header_at I L x)) is))

  among : Old → (m : ℕ) → Contains headers m → Contains written m
  among o m c = subst (λ l. Contains l m) o.is c

  later_is_one : Old → (m : ℕ) → Contains (drop 1 headers) m → Contains headers m
  later_is_one o m c = let within = c.1 in subst (λ l. Contains l m) (sym o.is) (suc c.0, omega arith, c.2)

  no_header : New → (m : ℕ) → ¬ Contains headers m
  no_header f m c = none_empty m (subst (λ l. Contains l m) f.none c)

  none_later : New → (m : ℕ) → ¬ Contains (drop 1 headers) m
  none_later f m c = none_empty m (subst (λ l. Contains l m) (ap (drop 1) f.none) c)

  kept_at : (m : ℕ) → Contains written m → KeepsFields (header_at K L m) (header_at J L m)
  kept_at m c = All-contains (λ x. KeepsFields (header_at K L x) (header_at J L x)) written m e.stays c

  -- what the first header keeps where the file is there, each header keeps
  field_before : {A : Type 0} (f : List ℕ → A) → f (header_at K L n) ≡ f (header_at I L n) → (m : ℕ) → f (header_at K L m) ≡ f (header_at I L m)
  field_before f first m = by (cases_eq m n)
    where
      by : (m ≡ n) ⊎ (m ≢ n) → f (header_at K L m) ≡ f (header_at I L m)
      by (inl is) = subst (λ x. f (header_at K L x) ≡ f (header_at I L x)) (sym is) first
      by (inr other) = ap f (same_header m other)

  form_before : Old → (m : ℕ) → KeepsForm (header_at I L m) (header_at K L m)
  form_before o m = by (cases_eq m n)
    where
      by : (m ≡ n) ⊎ (m ≢ n) → KeepsForm (header_at I L m) (header_at K L m)
      by (inl is) = subst (λ x. KeepsForm (header_at I L x) (header_at K L x)) (sym is) o.kept.form
      by (inr other) = λ i at. ap (λ b. byte b i) (same_header m other)

  rest_before : Old → (m : ℕ) → KeepsRest (header_at I L m) (header_at K L m)
  rest_before o m = by (cases_eq m n)
    where
      by : (m ≡ n) ⊎ (m ≢ n) → KeepsRest (header_at I L m) (header_at K L m)
      by (inl is) = subst (λ x. KeepsRest (header_at I L x) (header_at K L x)) (sym is) o.kept.rest
      by (inr other) = rest_still (header_at I L m) (header_at K L m) (same_header m other)

  runs_before : Old → (m : ℕ) → runs_of (header_at K L m) ≡ runs_of (header_at I L m)
  runs_before o = field_before runs_of o.kept.pointers

  -- a number that is taken is the new first header, or one of those behind
  number_from : (m : ℕ) → Contains (allocated_numbers I L headers count) m → (New × (m ≡ n)) ⊎ Contains numbers m
  number_from m c = by which (cases_eq m n)
    where
      by : Old ⊎ New → (m ≡ n) ⊎ (m ≢ n) → (New × (m ≡ n)) ⊎ Contains numbers m
      by (inl o) either = inr (subst (λ l. Contains l m) (sym o.new) c)
      by (inr f) (inl is) = inl (f, is)
      by (inr f) (inr other) = inr (Contains-tail n numbers m (λ is. other (sym is)) (subst (λ l. Contains l m) (sym f.new) c))

  same_runs : chain_runs K L written ≡ chain_runs I L headers
  same_runs = by which
    where
      by : Old ⊎ New → chain_runs K L written ≡ chain_runs I L headers
      by (inl o) = (λ i. flat_map (λ m. runs_before o m i) written) ∙ sym (ap (chain_runs I L) o.is)
      by (inr f) = ap (λ l. chain_runs K L (n ∷ drop 1 l)) f.none ∙ ap (λ l. l ++ []) f.made.pointers ∙ sym (ap (chain_runs I L) f.none)

  -- a header that is none of the file's stays
  other_stays : (m : ℕ) → ¬ Contains (all_headers n headers numbers) m → header_at J L m ≡ header_at I L m
  other_stays m none = by (place_of L m) refl ∙ same_header m (λ is. none (zero, omega arith, sym is))
    where
      by : (o : Option ℕ) → place_of L m ≡ o → option_map_or (block_at J) o [] ≡ option_map_or (block_at K) o []
      by None at = refl
      by (Some q) at = e.only.others q away
        where
          away : ¬ IsBookkeeping L (all_headers n headers numbers) q
          away (inl b) = place_not_index L m q (well_placed I L S) at b
          away (inr (inl b)) = place_not_storage L m q (well_placed I L S) at b
          away (inr (inr b)) = none (subst (λ x. Contains (all_headers n headers numbers) x) (place_once L b.0 m q (well_placed I L S) b.2 at) b.1)

  sequence_stays : (m : ℕ) → Contains headers m → sequence_of (header_at J L m) ≡ sequence_of (header_at I L m)
  sequence_stays m c = by which
    where
      by : Old ⊎ New → sequence_of (header_at J L m) ≡ sequence_of (header_at I L m)
      by (inl o) = let c' = among o m c in sequence_kept (header_at K L m) (header_at J L m) m (old_valid o m c') (kept_at m c') ∙ field_before sequence_of o.kept.links.sequence m
      by (inr f) = absurd (no_header f m c)

  sequence_rises : (m : ℕ) → Contains (allocated_numbers I L headers count) m → sequence_of (header_at J L m) ≡ sequence_of (header_at I L m) + 1
  sequence_rises m c = by (number_from m c)
    where
      by : (New × (m ≡ n)) ⊎ Contains numbers m → sequence_of (header_at J L m) ≡ sequence_of (header_at I L m) + 1
      by (inl p) = subst (λ x. sequence_of (header_at J L x) ≡ sequence_of (header_at I L x) + 1) (sym p.1)
          (sequence_kept (header_at K L n) (header_at J L n) n first_valid first_fields ∙ p.0.made.sequence)
      by (inr c') =
          All-contains (λ x. sequence_of (header_at J L x) ≡ sequence_of (header_at K L x) + 1) numbers m e.sequences c'
          ∙ ap (λ b. sequence_of b + 1) (same_header m (not_the_first I K L S n headers old count numbers t r m c'))

  storage_stays : (x : ℕ) → IsTrue (is_covered L x) → storage_bit K L x ≡ storage_bit I L x
  storage_stays x covered =
      let within : 1 + x / 4096 < length L.bitmap = ltb-true (1 + x / 4096) (length L.bitmap) covered in
      let b : ℕ = slice_index L.bitmap (1 + x / 4096) in
      ap (λ l. has_bit l (x % 4096)) (held_stays I K L S n headers old count numbers t r 2 (1 + x / 4096 + 1) b
      (bitmap_holds I L S (1 + x / 4096) b (slice_get-get_or L.bitmap (1 + x / 4096) 0 within))
      (λ p. place_not_storage L n b (well_placed I L S) p (stands_in_storage L x within)))

  -- the headers that were in use need no bit
  same_numbers : (m : ℕ) → is_in_use I L.home m ≡ false → is_one_of (n ∷ numbers) m ≡ is_one_of (all_headers n headers numbers) m
  same_numbers m unused = by (contains_or_not (n ∷ numbers) m)
    where
      wider : Contains (n ∷ numbers) m → (n ≡ m) ⊎ (n ≢ m) → Contains (all_headers n headers numbers) m
      wider c (inl is) = (zero, omega arith, is)
      wider c (inr other) = Contains-append_right written numbers m (Contains-tail n numbers m other c)

      no_old : Contains (drop 1 headers) m → Old ⊎ New → ⊥
      no_old c (inl o) = both_ways (is_in_use I L.home m) unused (old_in_use S t m (later_is_one o m c))
      no_old c (inr f) = none_later f m c

      narrower : Contains written m ⊎ Contains numbers m → (n ≡ m) ⊎ (n ≢ m) → Contains (n ∷ numbers) m
      narrower either (inl is) = (zero, omega arith, is)
      narrower (inl c) (inr other) = absurd (no_old (Contains-tail n (drop 1 headers) m other c) which)
      narrower (inr c) (inr other) = later_in n numbers m c

      by : Contains (n ∷ numbers) m ⊎ (¬ Contains (n ∷ numbers) m) → is_one_of (n ∷ numbers) m ≡ is_one_of (all_headers n headers numbers) m
      by (inl c) = one_of (n ∷ numbers) m c ∙ sym (one_of (all_headers n headers numbers) m (wider c (cases_eq n m)))
      by (inr far) = none_of (n ∷ numbers) m far ∙ sym (none_of (all_headers n headers numbers) m (λ c. far (narrower (Contains-append_cases written numbers m c) (cases_eq n m))))

  pub grows : IsGrowth I J L n headers old count numbers
  grows = record {
    taking = t;
    long = e.only.size ∙ r.long;
    chain = e.chain;
    pointers = e.runs ∙ ap (λ l. l ++ cut (allocated_blocks I L count)) same_runs;
    stays = other_stays;
    kept = sequence_stays;
    raised = sequence_rises;
    bits = record {
      storage = λ x covered. e.bits.storage x covered ∙ ap (λ b. b && not (is_one_of (allocated_blocks I L count) x)) (storage_stays x covered);
      index_bits = λ m. e.bits.index_bits m ∙ ap (λ b. b || is_one_of (n ∷ numbers) m) (used_stays I K L S n headers old count numbers t r m)
          ∙ or_same (is_in_use I L.home m) (is_one_of (n ∷ numbers) m) (is_one_of (all_headers n headers numbers) m) (same_numbers m);
    };
    elsewhere = λ x far untaken. e.only.others x far ∙ r.elsewhere x (λ p. far (inr (inr (n, (zero, omega arith, refl), p)))) untaken;
  }

  -- the headers that were there
  form_stays : (m : ℕ) → Contains headers m → KeepsForm (header_at I L m) (header_at J L m)
  form_stays m c = by which
    where
      by : Old ⊎ New → KeepsForm (header_at I L m) (header_at J L m)
      by (inl o) = let c' = among o m c in form_on (header_at I L m) (header_at K L m) (header_at J L m) m (old_valid o m c') (form_before o m) (kept_at m c')
      by (inr f) = absurd (no_header f m c)

  fields_stay : (m : ℕ) → Contains (drop 1 headers) m → KeepsFields (header_at I L m) (header_at J L m)
  fields_stay m c = by which
    where
      by : Old ⊎ New → KeepsFields (header_at I L m) (header_at J L m)
      by (inl o) = subst (λ b. KeepsFields b (header_at J L m)) (same_header m (not_later o m c)) (kept_at m (among o m (later_is_one o m c)))
      by (inr f) = absurd (none_later f m c)

  pointers_begin : (m : ℕ) → Contains headers m → BeginsPointers (header_at I L m) (header_at J L m)
  pointers_begin m c = by which
    where
      by : Old ⊎ New → BeginsPointers (header_at I L m) (header_at J L m)
      by (inl o) =
          let more = All-contains (λ x. BeginsPointers (header_at K L x) (header_at J L x)) written m e.begins (among o m c) in
          (more.0, more.1 ∙ ap (λ l. l ++ more.0) (runs_before o m))
      by (inr f) = absurd (no_header f m c)

  rest_stays : (m : ℕ) → Contains headers m → KeepsRest (header_at I L m) (header_at J L m)
  rest_stays m c = by which
    where
      by : Old ⊎ New → KeepsRest (header_at I L m) (header_at J L m)
      by (inl o) = rest_on (header_at I L m) (header_at K L m) (header_at J L m) (rest_before o m) (All-contains (λ x. KeepsRest (header_at K L x) (header_at J L x)) written m e.rest (among o m c))
      by (inr f) = absurd (no_header f m c)

  ends_clean : (m : ℕ) → Contains (allocated_numbers I L headers count) m → EndsClean (header_at J L m)
  ends_clean m c = by (number_from m c)
    where
      by : (New × (m ≡ n)) ⊎ Contains numbers m → EndsClean (header_at J L m)
      by (inl p) = subst (λ x. EndsClean (header_at J L x)) (sym p.1) (λ none. (first_rest.none none).1 ∙ p.0.made.clean)
      by (inr c') = All-contains (λ x. EndsClean (header_at J L x)) numbers m e.clean c'

  -- the first header of a new file names no other volume: it names a new header, or none as it did
  first_volume : New → next_volume_of (header_at J L n) ≡ 0
  first_volume f = by numbers refl
    where
      none : drop 1 headers ≡ []
      none = ap (drop 1) f.none

      by : (ns : List ℕ) → numbers ≡ ns → next_volume_of (header_at J L n) ≡ 0
      by [] is =
          let last : last_of n (drop 1 headers) ≡ n = ap (last_of n) none in
          subst (λ m. next_volume_of (header_at J L m) ≡ next_volume_of (header_at K L m)) last (e.last_volume is) ∙ f.made.form.volume
      by (m ∷ ms) is =
          let chain : Follows J L.home (Some L.index) [] 0 n (m ∷ ms) (old ++ allocated_blocks I L count) =
          subst (λ l. Follows J L.home (Some L.index) [] 0 n l (old ++ allocated_blocks I L count)) (ap (λ l. l ++ numbers) none ∙ is) (chain_in J (drop 1 headers ++ numbers) (old ++ allocated_blocks I L count) e.chain) in
          chain.2

  new_form : (m : ℕ) → Contains (allocated_numbers I L headers count) m → IsMadeHeader (header_at J L m)
  new_form m c = by (number_from m c)
    where
      by : (New × (m ≡ n)) ⊎ Contains numbers m → IsMadeHeader (header_at J L m)
      by (inl p) = subst (λ x. IsMadeHeader (header_at J L x)) (sym p.1) (made_on (header_at K L n) (header_at J L n) first_fields first_rest p.0.made.form (first_volume p.0))
      by (inr c') = (All-contains (λ x. IsExtensionOf (header_at J L n) (header_at J L x)) numbers m e.made c').form

  extension : (first m : ℕ) → slice_get (headers ++ allocated_numbers I L headers count) 0 ≡ Some first → Contains (allocated_numbers I L headers count) m → m ≢ first → IsExtensionOf (header_at J L first) (header_at J L m)
  extension first m at c other = by (number_from m c)
    where
      is : n ≡ first
      is = let same : Some n ≡ Some first = ap (λ l. slice_get l 0) t.all ∙ at in cc

      by : (New × (m ≡ n)) ⊎ Contains numbers m → IsExtensionOf (header_at J L first) (header_at J L m)
      by (inl p) = absurd (other (p.1 ∙ is))
      by (inr c') = subst (λ x. IsExtensionOf (header_at J L x) (header_at J L m)) is (All-contains (λ x. IsExtensionOf (header_at J L n) (header_at J L x)) numbers m e.made c')

  full : (i m : ℕ) → length headers ≤ i + 1 → i + 1 < length (headers ++ allocated_numbers I L headers count) → slice_get (headers ++ allocated_numbers I L headers count) i ≡ Some m → room_of (header_at J L m) / 2 ≡ 0
  full i m low high at =
      let others : ℕ = length (drop 1 headers) in
      let j : ℕ = i - others in
      let fewer : others ≡ length headers - 1 = length-drop 1 headers in
      let all : length (written ++ numbers) ≡ length (headers ++ allocated_numbers I L headers count) = ap length t.all in
      let parts : length (written ++ numbers) ≡ length written + length numbers = length-append written numbers in
      let place : i ≡ others + j = omega arith in
      e.filled j m (omega (arith, all, parts)) (sym (at_last n (drop 1 headers) numbers i j place) ∙ ap (λ l. slice_get l i) t.all ∙ at)

  -- without a new header the last one names the volume that it named
  last_names : allocated_numbers I L headers count ≡ [] → (first : ℕ) (behind : List ℕ) → headers ≡ first ∷ behind → next_volume_of (header_at J L (last_of first behind)) ≡ next_volume_of (header_at I L (last_of first behind))
  last_names nothing first behind is = by which
    where
      -- no number is new: the headers are as many as before
      no_number : headers ≡ written → numbers ≡ []
      no_number old_ones =
          let all : length (written ++ numbers) ≡ length (headers ++ allocated_numbers I L headers count) = ap length t.all in
          let parts : length (written ++ numbers) ≡ length written + length numbers = length-append written numbers in
          let before : length (headers ++ allocated_numbers I L headers count) ≡ length headers + length (allocated_numbers I L headers count) = length-append headers (allocated_numbers I L headers count) in
          let none : length (allocated_numbers I L headers count) ≡ 0 = ap length nothing in
          let same : length headers ≡ length written = ap length old_ones in
          empty numbers (omega (arith, all, parts, before, none, same))

      by : Old ⊎ New → next_volume_of (header_at J L (last_of first behind)) ≡ next_volume_of (header_at I L (last_of first behind))
      by (inl o) =
          let z : ℕ = last_of n (drop 1 headers) in
          let there : z ≡ last_of first behind = ap (λ l. last_of (get_or l 0 0) (drop 1 l)) (sym o.is ∙ is) in
          subst (λ m. next_volume_of (header_at J L m) ≡ next_volume_of (header_at I L m)) there (e.last_volume (no_number o.is) ∙ field_before next_volume_of o.kept.links.next_volume z)
      by (inr f) = let clash : ◌≡◌ {A = List ℕ} (first ∷ behind) [] = sym is ∙ f.none in absurd (cc)

  pub made : AreMade (disk I L) (disk J L) headers (allocated_numbers I L headers count)
  made = record {
    stays = λ k d below. form_stays (get_or headers k d) (Contains-get_or headers k d below);
    others = λ k d below. fields_stay (get_or (drop 1 headers) k d) (Contains-get_or (drop 1 headers) k d below);
    begins = λ k d below. pointers_begin (get_or headers k d) (Contains-get_or headers k d below);
    rest = λ k d below. rest_stays (get_or headers k d) (Contains-get_or headers k d below);
    form = λ k d below. let m : ℕ = get_or (allocated_numbers I L headers count) k d in new_form m (Contains-get_or (allocated_numbers I L headers count) k d below);
    made = extension;
    clean = λ k d below. let m : ℕ = get_or (allocated_numbers I L headers count) k d in ends_clean m (Contains-get_or (allocated_numbers I L headers count) k d below);
    filled = full;
    last_volume = last_names;
  }
