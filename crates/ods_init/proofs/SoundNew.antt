-- A new volume is sound.
use Rattle.std.proofs.Common.{◌≡◌, ◌≢◌, ℕ, zero, suc, ◌+◌, ◌-◌, ◌*◌, ◌/◌, ◌%◌, ◌<◌, ◌≤◌, ◌⊎◌, true, false, eqb, leb, ◌&&◌, List, [], ◌∷◌, length, Option, None, Some, slice_get, refl, sym, ap, ◌∙◌, subst, inl, inr, arith}
use Rattle.std.proofs.lemmas.Bool.{and_from, and_parts, and_left, and_right, cases_eq, cond_both, eqb-true, le-leb, leb-true, lt-leb, lt-ltb, ltb-true, ne_eqb, or_cases}
use Rattle.std.proofs.lemmas.List.FromFn.{get_or-range_with_len, length-range_with_len}
use Rattle.std.proofs.lemmas.Option.{slice_get-get_or, slice_get_within, get_or_from_slice_get}
use Rattle.std.specs.Prelude.{IsTrue, nat_lt, nat_le, ◌==◌, slice_index}
use Rattle.std.specs.List.{Contains, range_with_len}
use Rattle.ods_base.specs.Block.{has_bit}
use Rattle.ods_base.specs.Image.{block_at}
use Rattle.ods_header.specs.declared.home.Home.{Home}
use Rattle.ods_header.specs.declared.header.Header.{Header}
use Rattle.ods_header.specs.Header.{IsValidHeader, IsFormat1, attributes_of, blocks_of, next_number_of, segment_of}
use Rattle.ods_header.specs.Home.{IsHomeAt, IsHomeOf, IsHomePlace}
use Rattle.ods_header.proofs.Places.{none_at_first}
use Rattle.ods_space.specs.Layout.{VolumeLayout, header_at, header_by, is_in_use, last_number}
use Rattle.ods_space.specs.Chain.{IsChain, IsSegment, Follows, index_for, known, most}
use Rattle.ods_space.specs.Files.{HasBlocks, Holds, IsFile}
use Rattle.ods_space.specs.Free.{is_free_block, is_covered, storage_bit}
use Rattle.ods_space.proofs.Chains.{same_chain}
use Rattle.ods_space.proofs.Surveyed.{same_blocks}
use Rattle.ods_directory.specs.Names.{IsDirectory}
use Rattle.ods_directory.specs.Mark.{mark_in}
use Rattle.ods_mount.specs.Faults.{IsDirectoryFile, CouldBeWritten, IsSound, contents_of, mark_at}
use Rattle.ods_mount.specs.Sound.{IsSoundBy}
use Rattle.ods_mount.proofs.Layouts.{same_place}
use Rattle.ods_mount.proofs.Soundness.{IsSound-by}
use Rattle.ods_init.specs.declared.places.Places.{Places}
use Rattle.ods_init.specs.declared.blueprint.Details.{Details}
use Rattle.ods_init.specs.declared.blueprint.Blueprint.{Blueprint}
use Rattle.ods_init.specs.declared.volume.NewVolume.{NewVolume}
use Rattle.ods_init.specs.Places.{places, first_of, count_of, AreFit}
use Rattle.ods_init.specs.Blocks.{IsNewBlock, IsReservedHeader, protection, master_attributes, master_block, reserved_attributes}
use Rattle.ods_init.specs.New.{IsPossible, IsVolumeOf, NewIsSound, blueprint_of}
use Rattle.ods_init.proofs.MasterNames.{master_is_directory}

-- the places of a volume that there can be
pub fit_places : (V : NewVolume) → IsPossible V → AreFit V.blocks (places V.blocks V.files)
fit_places V p =
    let least = p.least in
    let most_blocks = p.most in
    let room = p.room.master in
    let index = p.room.index in
    record {
      size = p.most;
      some = omega arith;
      few = omega arith;
      files = omega arith;
      most = omega arith;
      control = omega arith;
      index = index;
      covers = omega arith;
      map = omega arith;
      master = refl;
      inside = room;
    }

-- an element of a range
range_get : (a n i : ℕ) → i < n → slice_get (range_with_len a n) i ≡ Some (a + i)
range_get a n i below =
    slice_get-get_or (range_with_len a n) i 0 (rw (length-range_with_len a n) below) ∙ ap Some (get_or-range_with_len a n i 0 below)

range_got : (a n i b : ℕ) → slice_get (range_with_len a n) i ≡ Some b → (i < n) × (a + i ≡ b)
range_got a n i b e =
    let within : i < n = omega (arith, slice_get_within (range_with_len a n) i b e, length-range_with_len a n) in
    (within, sym (get_or-range_with_len a n i 0 within) ∙ get_or_from_slice_get (range_with_len a n) i b 0 e)

-- the attributes of the master directory, on a bare volume too
master_told : (details : Option Details) (n : ℕ) → reserved_attributes details 4 n ≡ master_attributes
master_told None n = refl
master_told (Some d) n = refl

one_of : (m x : ℕ) → Contains (m ∷ []) x → m ≡ x
one_of m x (zero, below, is) = is
one_of m x (suc i, below, is) = absurd (omega arith)

module _ (W : Blueprint) (I : List (List ℕ)) (f : AreFit W.blocks W.places) (size : length I ≡ W.blocks) (each : (lbn : ℕ) → lbn < W.blocks → IsNewBlock W lbn (block_at I lbn)) where
  abbrev P : Places
  P = W.places

  abbrev h : Home
  h = record { index_bitmap_size = P.index_bitmap_size; index_bitmap_lbn = 2; max_files = P.most_files; protection = protection }

  abbrev L : VolumeLayout
  L = record { home = h; index = range_with_len 0 P.control; bitmap = range_with_len P.control (1 + P.map_blocks) }

  home_at : IsHomeAt I 1
  home_at = record { place = inl refl; inside = omega (arith, f.inside, f.master, size); home = ((each 1 (omega (arith, f.inside, f.master))).home refl).home; least = none_at_first I }

  home_of_I : IsHomeOf I h
  home_of_I = (1, home_at, sym ((each 1 (omega (arith, f.inside, f.master))).home refl).fields)

  -- the index bits
  bit_is : (n : ℕ) → 1 ≤ n → n ≤ 4096 * P.index_bitmap_size → has_bit (block_at I (2 + (n - 1) / 4096)) ((n - 1) % 4096) ≡ (nat_le 0 ((n - 1) % 4096) && nat_lt ((n - 1) % 4096) (5 - 4096 * ((2 + (n - 1) / 4096) - 2)))
  bit_is n first last =
      (each (2 + (n - 1) / 4096) (omega (arith, f.inside, f.master, f.control))).index_bitmap (omega arith) (omega arith) ((n - 1) % 4096) (omega arith)

  used_small : (n : ℕ) → IsTrue (is_in_use I h n) → (1 ≤ n) × (n ≤ 5)
  used_small n used =
      let a = and_parts (nat_lt 0 n) _ used in
      let b = and_parts (nat_le n (4096 * P.index_bitmap_size)) _ a.1 in
      let first : 1 ≤ n = omega (arith, ltb-true 0 n a.0) in
      let last : n ≤ 4096 * P.index_bitmap_size = leb-true _ _ b.0 in
      let c = and_parts _ _ (sym (bit_is n first last) ∙ b.1) in
      let d : (n - 1) % 4096 < 5 - 4096 * ((2 + (n - 1) / 4096) - 2) = ltb-true _ _ c.1 in
      (first, omega arith)

  small_used : (n : ℕ) → 1 ≤ n → n ≤ 5 → IsTrue (is_in_use I h n)
  small_used n first last =
      let e : nat_lt 0 n ≡ true = lt-ltb 0 n (omega arith) in
      let g : nat_le n (4096 * P.index_bitmap_size) ≡ true = le-leb n (4096 * P.index_bitmap_size) (omega (arith, f.some)) in
      let low : nat_lt ((n - 1) % 4096) (5 - 4096 * ((2 + (n - 1) / 4096) - 2)) ≡ true = lt-ltb _ _ (omega arith) in
      let bit : has_bit (block_at I (2 + (n - 1) / 4096)) ((n - 1) % 4096) ≡ true = bit_is n first (omega (arith, f.some)) ∙ and_from (nat_le 0 ((n - 1) % 4096)) _ (le-leb 0 _ (omega arith)) low in
      rw (e, g, bit) refl

  -- headers 1 to 5
  header_is : (index : List ℕ) (n : ℕ) → 1 ≤ n → n ≤ 5 → header_by I h index n ≡ block_at I (1 + P.index_bitmap_size + n)
  header_is index n first last =
      let e : eqb n 0 ≡ false = ne_eqb n 0 (λ z. omega arith) in
      let g : leb n 16 ≡ true = le-leb n 16 (omega arith) in
      let at : 2 + P.index_bitmap_size + n - 1 ≡ 1 + P.index_bitmap_size + n = omega arith in
      rw (e, g, at) refl

  head : (n : ℕ) → 1 ≤ n → n ≤ 5 → IsReservedHeader W n (block_at I (1 + P.index_bitmap_size + n))
  head n first last =
      let at : (1 + P.index_bitmap_size + n) - (1 + P.index_bitmap_size) ≡ n = omega arith in
      subst (λ k. IsReservedHeader W k (block_at I (1 + P.index_bitmap_size + n))) at
      ((each (1 + P.index_bitmap_size + n) (omega (arith, f.inside, f.master, f.control))).header (omega arith) (omega arith))

  segment_at : (index : List ℕ) (n last : ℕ) → 1 ≤ n → n ≤ 5 → 5 ≤ last → IsSegment I h index last n 0
  segment_at index n last first small many = record {
    first = first;
    last = omega arith;
    in_use = small_used n first small;
    valid = subst (λ (b : List ℕ). IsValidHeader b n) (sym (header_is index n first small)) (head n first small).valid;
    segment = ap segment_of (header_is index n first small) ∙ ap (λ (x : Header). x.segment) (head n first small).fields;
  }

  last_big : 5 ≤ last_number L
  last_big = rw (length-range_with_len 0 P.control) (omega (arith, f.some, f.files, f.control))

  is_file : (n : ℕ) → 1 ≤ n → n ≤ 5 → IsFile I L n
  is_file n first small = segment_at L.index n (last_number L) first small last_big

  file_small : (n : ℕ) → IsFile I L n → (1 ≤ n) × (n ≤ 5)
  file_small n file = used_small n file.in_use

  -- the blocks of each
  abbrev own : ℕ → List ℕ
  own n = range_with_len (first_of P n) (count_of P n)

  chain_by : (index : Option (List ℕ)) (n : ℕ) → 1 ≤ n → n ≤ 5 → 5 ≤ most h index [] → Follows I h index [] 0 n [] (own n)
  chain_by index n first small many =
      let is = header_is (known index []) n first small in (
        segment_at (known index []) n (most h index []) first small many,
        ap next_number_of is ∙ ap (λ (x : Header). x.next.number) (head n first small).fields,
        sym (ap blocks_of is ∙ (head n first small).blocks),
      )

  chain_of : (n : ℕ) → 1 ≤ n → n ≤ 5 → IsChain I L n [] (own n)
  chain_of n first small =
      chain_by (index_for L n) n first small
      (cond_both (n == 1) None (Some L.index) (λ (index : Option (List ℕ)). 5 ≤ most h index [])
      (λ _. omega (arith, f.some, f.files, f.control))
      (λ _. rw (length-range_with_len 0 P.control) (omega (arith, f.some, f.files, f.control))))

  -- block b is number v of file n
  abbrev Is : ℕ → ℕ → ℕ → Type 0
  Is n v b = ((n ≡ 1) × (v ≡ b + 1) × (b < P.control)) ⊎ ((n ≡ 2) × (v + P.control ≡ b + 1) × (P.control ≤ b) × (b < P.master)) ⊎ ((n ≡ 4) × (v ≡ 1) × (b ≡ P.master))

  none_else : (n : ℕ) → n ≢ 1 → n ≢ 2 → n ≢ 4 → count_of P n ≡ 0
  none_else n one two four = let a = ne_eqb n 1 one in let b = ne_eqb n 2 two in let c = ne_eqb n 4 four in rw (a, b, c) refl

  is_by : (n v b : ℕ) → 1 ≤ v → v - 1 < count_of P n → first_of P n + (v - 1) ≡ b → Is n v b
  is_by n v b some below at = elim (cases_eq n 1) [
    | inl e ↦
        let low : v - 1 < P.control = subst (λ (k : ℕ). v - 1 < count_of P k) e below in
        let is : 0 + (v - 1) ≡ b = subst (λ (k : ℕ). first_of P k + (v - 1) ≡ b) e at in
        inl (e, omega arith, omega arith)
    | inr one ↦ elim (cases_eq n 2) [
      | inl e ↦
          let low : v - 1 < 1 + P.map_blocks = subst (λ (k : ℕ). v - 1 < count_of P k) e below in
          let is : P.control + (v - 1) ≡ b = subst (λ (k : ℕ). first_of P k + (v - 1) ≡ b) e at in
          inr (inl (e, omega arith, omega arith, omega (arith, f.master)))
      | inr two ↦ elim (cases_eq n 4) [
        | inl e ↦
            let low : v - 1 < 1 = subst (λ (k : ℕ). v - 1 < count_of P k) e below in
            let is : P.master + (v - 1) ≡ b = subst (λ (k : ℕ). first_of P k + (v - 1) ≡ b) e at in
            inr (inr (e, omega arith, omega arith))
        | inr four ↦ absurd (omega (arith, none_else n one two four))
      ]
    ]
  ]

  first_low : (n : ℕ) → first_of P n + count_of P n ≤ P.master + 1
  first_low n = elim (cases_eq n 1) [
    | inl e ↦ subst (λ (k : ℕ). first_of P k + count_of P k ≤ P.master + 1) (sym e) (omega (arith, f.master))
    | inr one ↦ elim (cases_eq n 2) [
      | inl e ↦ subst (λ (k : ℕ). first_of P k + count_of P k ≤ P.master + 1) (sym e) (omega (arith, f.master))
      | inr two ↦
          let a = ne_eqb n 1 one in
          let b = ne_eqb n 2 two in
          let first : first_of P n ≡ P.master = rw (a, b) refl in
          let few : count_of P n ≤ 1 = rw (a, b) (cond_both (n == 4) 1 0 (λ (k : ℕ). k ≤ 1) (λ _. omega arith) (λ _. omega arith)) in
          omega arith
    ]
  ]

  has : (n : ℕ) → 1 ≤ n → n ≤ 5 → HasBlocks I L n (own n)
  has n first small = record {
    file = is_file n first small;
    others = [];
    whole = record {
      chain = chain_of n first small;
      inside = λ i d below.
          let low : i < count_of P n = omega (arith, below, length-range_with_len (first_of P n) (count_of P n)) in
          rw (get_or-range_with_len (first_of P n) (count_of P n) i d low) (omega (arith, first_low n, f.inside, size));
    };
  }

  own_is : (n : ℕ) (blocks : List ℕ) → HasBlocks I L n blocks → own n ≡ blocks
  own_is n blocks x = let s = file_small n x.file in same_blocks I L n (own n) blocks (has n s.0 s.1) x

  held : (n v b : ℕ) → Holds I L n v b → Is n v b
  held n v b x =
      let Q : List ℕ → Type 0 = λ xs. slice_get xs (v - 1) ≡ Some b in
      let got = range_got (first_of P n) (count_of P n) (v - 1) b (subst Q (sym (own_is n x.blocks x.file)) x.named) in
      is_by n v b x.first got.0 got.1

  once_by : (m n v w b : ℕ) → Is m v b → Is n w b → (m ≡ n) × (v ≡ w)
  once_by m n v w b (inl x) (inl y) = (omega (arith, x, y), omega (arith, x, y))
  once_by m n v w b (inl x) (inr (inl y)) = absurd (omega (arith, x.2, y.2))
  once_by m n v w b (inl x) (inr (inr y)) = absurd (omega (arith, x.2, y.2, f.master))
  once_by m n v w b (inr (inl x)) (inl y) = absurd (omega (arith, x.2, y.2))
  once_by m n v w b (inr (inl x)) (inr (inl y)) = (x.0 ∙ sym y.0, omega (arith, x.1, y.1))
  once_by m n v w b (inr (inl x)) (inr (inr y)) = absurd (omega (arith, x.3, y.2))
  once_by m n v w b (inr (inr x)) (inl y) = absurd (omega (arith, x.2, y.2, f.master))
  once_by m n v w b (inr (inr x)) (inr (inl y)) = absurd (omega (arith, x.2, y.3))
  once_by m n v w b (inr (inr x)) (inr (inr y)) = (x.0 ∙ sym y.0, x.1 ∙ sym y.1)

  held_low : (n v b : ℕ) → Is n v b → b ≤ P.master
  held_low n v b (inl x) = omega (arith, x.2, f.master)
  held_low n v b (inr (inl x)) = omega (arith, x.3)
  held_low n v b (inr (inr x)) = omega (arith, x.2)

  -- none of them is free
  not_free_low : (b : ℕ) → b ≤ P.master → is_free_block I L b ≡ false
  not_free_low b low =
      let q = b / 4096 in
      let few : q < P.map_blocks = omega (arith, f.covers, f.inside) in
      let at : slice_index L.bitmap (1 + q) ≡ P.control + (1 + q) = get_or-range_with_len P.control (1 + P.map_blocks) (1 + q) 0 (omega arith) in
      let bits = (each (P.control + (1 + q)) (omega (arith, f.master, f.inside))).storage_bitmap (omega arith) (omega (arith, f.master)) (b % 4096) (omega arith) in
      let before : nat_le (P.master + 1 - 4096 * (P.control + (1 + q) - (P.control + 1))) (b % 4096) ≡ false = lt-leb _ (b % 4096) (omega arith) in
      let bit : storage_bit I L b ≡ false = ap (λ (k : ℕ). has_bit (block_at I k) (b % 4096)) at ∙ bits ∙ and_left _ _ before in
      and_right (nat_lt b (length I)) _ (and_right (is_covered L b) _ bit)

  apart : (m n : ℕ) (ms ns cs bs : List ℕ) (x : ℕ) → IsFile I L m → IsFile I L n → IsChain I L m ms cs → IsChain I L n ns bs → Contains (m ∷ ms) x → Contains (n ∷ ns) x → m ≡ n
  apart m n ms ns cs bs x mfile nfile mchain nchain mx nx =
      let a = file_small m mfile in
      let b = file_small n nfile in
      let none : ms ≡ [] = (same_chain I h (index_for L m) [] 0 m ms cs [] (own m) mchain (chain_of m a.0 a.1)).0 in
      let nothing : ns ≡ [] = (same_chain I h (index_for L n) [] 0 n ns bs [] (own n) nchain (chain_of n b.0 b.1)).0 in
      one_of m x (subst (λ (l : List ℕ). Contains (m ∷ l) x) none mx) ∙ sym (one_of n x (subst (λ (l : List ℕ). Contains (n ∷ l) x) nothing nx))

  stays : (lbn k : ℕ) → IsHomeAt I lbn → IsHomePlace k → k < lbn → ¬ CouldBeWritten I L k
  stays lbn k at (inl e) below written = let one = same_place I lbn 1 at home_at in absurd (omega arith)
  stays lbn k at (inr many) below written = let one = same_place I lbn 1 at home_at in absurd (omega (arith, many.0))

  -- the one directory is the master directory
  is_master : (n : ℕ) → IsDirectoryFile I L n → n ≡ 4
  is_master n dir =
      let s = file_small n dir.0 in
      elim (or_cases (n == 4) _ dir.1) [
        | inl e ↦ eqb-true n 4 e
        | inr e ↦ absurd (omega (arith, ltb-true 5 n (and_parts (nat_lt 5 n) _ e).0))
      ]

  master_file : IsDirectory (contents_of I (own 4)) (mark_at I L 4 (own 4))
  master_file =
      let block : block_at I P.master ≡ master_block = (each P.master f.inside).master refl in
      let attributes : attributes_of (header_at I L 4) ≡ master_attributes = ap attributes_of (header_is L.index 4 (omega arith) (omega arith)) ∙ ap (λ (x : Header). x.attributes) (head 4 (omega arith) (omega arith)).fields ∙ master_told W.details (count_of W.places 4) in
      let mark : mark_at I L 4 (own 4) ≡ 80 = ap (λ (xs : List ℕ). mark_in xs 1) attributes in
      subst (λ (m : ℕ). IsDirectory (block_at I P.master ∷ []) m) (sym mark) (subst (λ (b : List ℕ). IsDirectory (b ∷ []) 80) (sym block) master_is_directory)

  directories : (n : ℕ) (blocks : List ℕ) → IsDirectoryFile I L n → HasBlocks I L n blocks → IsDirectory (contents_of I blocks) (mark_at I L n blocks)
  directories n blocks dir x =
      let four : 4 ≡ n = sym (is_master n dir) in
      let Q : ℕ → Type 0 = λ k. IsDirectory (contents_of I (own k)) (mark_at I L k (own k)) in
      subst (λ (xs : List ℕ). IsDirectory (contents_of I xs) (mark_at I L n xs)) (own_is n blocks x) (subst Q four master_file)

  sound_by : IsSoundBy I L
  sound_by = record {
    layout = record { home = home_of_I; index = has 1 (omega arith) (omega arith); bitmap = has 2 (omega arith) (omega arith) };
    index_bitmap_size = rw (length-range_with_len 0 P.control) (f.control);
    index_place = λ i below. range_get 0 P.control (2 + i) (omega (arith, f.control)) ∙ ap Some (omega arith);
    home_block = λ lbn at. inr (range_get 0 P.control 1 (omega (arith, f.control)) ∙ ap Some (same_place I 1 lbn home_at at));
    home_stays = stays;
    bitmap_size = rw (length-range_with_len P.control (1 + P.map_blocks)) (omega (arith, f.covers, f.inside));
    master = is_file 4 (omega arith) (omega arith);
    formats = λ n used header.
        let s = used_small n used in
        subst IsFormat1 (sym (header_is L.index n s.0 s.1)) (head n s.0 s.1).valid.format;
    chains = λ n file. let s = file_small n file in (own n, has n s.0 s.1);
    apart = apart;
    once = λ m n v w b x y. once_by m n v w b (held m v b x) (held n w b y);
    not_free = λ n v b x. not_free_low b (held_low n v b (held n v b x));
    directories = directories;
  }

-- no fault is true of the volume of a blueprint whose structures fit
pub volume_is_sound : (W : Blueprint) (I : List (List ℕ)) → AreFit W.blocks W.places → IsVolumeOf W I → IsSound I
volume_is_sound W I fit new = IsSound-by I _ (sound_by W I fit new.size new.each)

-- no fault is true of a new volume
pub new_is_sound : NewIsSound
new_is_sound V I possible new = volume_is_sound (blueprint_of V) I (fit_places V possible) new
