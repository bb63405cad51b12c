-- Bits of the storage bitmap change: no file does, and the volume stays sound where none is freed that a file holds.
use Rattle.std.proofs.Common.{◌≡◌, ◌≢◌, ℕ, ◌+◌, ◌-◌, ◌<◌, ◌≤◌, refl, ap, sym, ◌∙◌, subst, Bool, true, false, IsTrue, List, [], length, Option, Some, None, arith, inl, inr, nat_lt}
use Rattle.std.specs.Prelude.{◌⊎◌, ◌&&◌, not, nat_le, slice_get}
use Rattle.std.specs.Option.{option_map_or}
use Rattle.std.proofs.lemmas.Bool.{cases_eq}
use Rattle.ods_base.specs.Image.{block_at}
use Rattle.ods_header.specs.Header.{IsFormat1, IsHeader, attributes_of, is_directory_header, sequence_of}
use Rattle.ods_header.specs.Home.{IsHome, IsHomeAt, IsHomePlace, home_of}
use Rattle.ods_header.proofs.DirectoryHeaders.{is_apart}
use Rattle.ods_space.specs.Layout.{VolumeLayout, header_at, is_in_use, last_number, place_of}
use Rattle.ods_space.specs.Chain.{IsChain}
use Rattle.ods_space.specs.Files.{HasBlocks, Holds, IsFile, IsLayoutOf}
use Rattle.ods_space.specs.Free.{is_free_block, is_free_number}
use Rattle.ods_alloc.specs.Extend.{IsStorageBitmap}
use Rattle.ods_alloc.proofs.Places.{storage_at}
use Rattle.ods_directory.specs.Mark.{mark_in}
use Rattle.ods_directory.specs.Names.{IsDirectory}
use Rattle.ods_mount.specs.Faults.{CouldBeWritten, IsDirectoryFile, contents_of, mark_at}
use Rattle.ods_mount.specs.Sound.{IsSoundBy}
use Rattle.ods_mount.proofs.Each.{holds_at}
use Rattle.ods_mount.proofs.Layouts.{same_place}
use Rattle.ods_request.specs.Catalogue.{Catalogue}
use Rattle.ods_state.specs.Contents.{file_of, ShowsBy}
use Rattle.ods_state.specs.Version.{PastIsSpent}
use Rattle.ods_state.proofs.Chains.{IsLinkedBut, blocks_stay, blocks_were, chain_was, file_stays, file_was, held_before, holds_stays}
use Rattle.ods_state.proofs.Links.{LinkedAt, bits_stay, header_held, linked_same, numbered}
use Rattle.ods_state.proofs.OneBlock.{mapped_alike}
use Rattle.ods_state.proofs.Shown.{same_file}
use Rattle.ods_amend.specs.Bits.{IsLoose}

-- no header
abbrev NoHeader : ℕ → Type 0
NoHeader n = ⊥

module _ (I J : List (List ℕ)) (L : VolumeLayout) (S : IsSoundBy I L) (long : length J ≡ length I) (others : (x : ℕ) → ¬ IsStorageBitmap L x → block_at J x ≡ block_at I x) where
  -- the storage bitmap is held by BITMAP.SYS
  of_bitmap : (x : ℕ) → IsStorageBitmap L x → (v : ℕ) × Holds I L 2 v x
  of_bitmap x b = let at = storage_at L x b in (at.0 + 1, holds_at I L 2 L.bitmap at.0 x S.layout.bitmap at.1)

  -- a block that another file holds stays
  there : (m v y : ℕ) → m ≢ 2 → Holds I L m v y → block_at J y ≡ block_at I y
  there m v y other g = others y (λ b. let two = of_bitmap y b in other (S.once m 2 v two.0 y g two.1).0)

  there_of_index : (v y : ℕ) → Holds I L 1 v y → block_at J y ≡ block_at I y
  there_of_index v y g = there 1 v y (λ e. absurd (omega (arith, e))) g

  pub headers_same : (m : ℕ) → header_at J L m ≡ header_at I L m
  headers_same m = by (place_of L m) refl
    where
      same : (o : Option ℕ) → place_of L m ≡ o → option_map_or (block_at J) o [] ≡ option_map_or (block_at I) o []
      same None e = refl
      same (Some y) e = there_of_index (2 + L.home.index_bitmap_size + m) y (header_held I L S m y e)

      by : (o : Option ℕ) → place_of L m ≡ o → header_at J L m ≡ header_at I L m
      by o e = ap (λ p. option_map_or (block_at J) p []) e ∙ same o e ∙ sym (ap (λ p. option_map_or (block_at I) p []) e)

  bits_same : (m : ℕ) → is_in_use J L.home m ≡ is_in_use I L.home m
  bits_same = bits_stay I J L.home (λ i low. there_of_index (3 + i) (L.home.index_bitmap_lbn + i) (bitmap_held i low))
    where
      bitmap_held : (i : ℕ) → i < L.home.index_bitmap_size → Holds I L 1 (3 + i) (L.home.index_bitmap_lbn + i)
      bitmap_held i low =
          let less : 3 + i - 1 ≡ 2 + i = omega arith in
          record { blocks = L.index; file = S.layout.index; first = omega arith; named = ap (slice_get L.index) less ∙ S.index_place i (omega arith) }

  frame : IsLinkedBut I J L NoHeader
  frame = record {
    long = long;
    linked = λ m far. linked_same I J L.home L.index m (headers_same m) (bits_same m);
    back = λ m far. linked_same J I L.home L.index m (sym (headers_same m)) (sym (bits_same m));
    apart = λ m more blocks f c far x among. far;
  }

  pub has : (m : ℕ) (blocks : List ℕ) → HasBlocks I L m blocks → HasBlocks J L m blocks
  has m blocks = blocks_stay I J L S NoHeader frame m blocks (λ e. e)

  had : (m : ℕ) (blocks : List ℕ) → HasBlocks J L m blocks → HasBlocks I L m blocks
  had m blocks = blocks_were I J L S NoHeader frame m blocks (λ e. e)

  was_file : (m : ℕ) → IsFile J L m → IsFile I L m
  was_file m = file_was I J L S NoHeader frame m (λ e. e)

  pub holds_now : (m v y : ℕ) → Holds I L m v y → Holds J L m v y
  holds_now m v y = holds_stays I J L S NoHeader frame m v y (λ e. e)

  pub held_was : (m v y : ℕ) → Holds J L m v y → Holds I L m v y
  held_was m v y = held_before I J L S NoHeader frame m v y (λ e. e)

  had_chain : (m : ℕ) (more blocks : List ℕ) → IsFile J L m → IsChain J L m more blocks → IsChain I L m more blocks
  had_chain m more blocks f c = (chain_was I J L S NoHeader frame m more blocks (λ e. e) f c).0

  pub numbers_same : (m : ℕ) → is_free_number J L m ≡ is_free_number I L m
  numbers_same m = λ i. nat_le 6 m && (nat_le m (last_number L) && (not (bits_same m i) && nat_lt (sequence_of (headers_same m i)) 65535))

  -- the home block, and the places at which it could stand before
  home_here : (h : ℕ) → IsHomeAt I h → block_at J h ≡ block_at I h
  home_here h at = by (S.home_block h at)
    where
      by : (slice_get L.index 0 ≡ Some h) ⊎ (slice_get L.index 1 ≡ Some h) → block_at J h ≡ block_at I h
      by (inl e) = there_of_index 1 h (holds_at I L 1 L.index 0 h S.layout.index e)
      by (inr e) = there_of_index 2 h (holds_at I L 1 L.index 1 h S.layout.index e)

  lower_stays : (h k : ℕ) → IsHomeAt I h → IsHomePlace k → k < h → block_at J k ≡ block_at I k
  lower_stays h k at place below = others k (λ b.
      let two = of_bitmap k b in
      S.home_stays h k at place below (inr (2, two.0, two.1, (λ e. absurd (omega (arith, e))), (λ e. absurd (omega (arith, e))), (λ both. absurd (omega (arith, both.0))))))

  home_now : (h : ℕ) → IsHomeAt I h → IsHomeAt J h
  home_now h at = record {
    place = at.place;
    inside = subst (λ n. h < n) (sym long) at.inside;
    home = subst IsHome (sym (home_here h at)) at.home;
    least = λ k place below inside home. at.least k place below (subst (λ n. k < n) long inside) (subst IsHome (lower_stays h k at place below) home);
  }

  pub home_was : (h : ℕ) → IsHomeAt J h → IsHomeAt I h
  home_was h x = let old = S.layout.home in subst (λ n. IsHomeAt I n) (same_place J old.0 h (home_now old.0 old.1) x) old.1

  layout_now : IsLayoutOf J L
  layout_now = record {
    home = (S.layout.home.0, home_now S.layout.home.0 S.layout.home.1, S.layout.home.2 ∙ sym (ap home_of (home_here S.layout.home.0 S.layout.home.1)));
    index = has 1 L.index S.layout.index;
    bitmap = has 2 L.bitmap S.layout.bitmap;
  }

  contents_same : (m : ℕ) (blocks : List ℕ) → m ≢ 2 → HasBlocks I L m blocks → contents_of J blocks ≡ contents_of I blocks
  contents_same m blocks other file = mapped_alike (block_at I) (block_at J) blocks (λ i y e. there m (i + 1) y other (holds_at I L m blocks i y file e))

  directories_now : (m : ℕ) (blocks : List ℕ) → IsDirectoryFile J L m → HasBlocks J L m blocks → IsDirectory (contents_of J blocks) (mark_at J L m blocks)
  directories_now m blocks d g =
      let old : HasBlocks I L m blocks = had m blocks g in
      let contents : contents_of J blocks ≡ contents_of I blocks = contents_same m blocks (is_apart m (header_at J L m) d.1 2 (omega arith) (omega arith)) old in
      let mark : mark_at J L m blocks ≡ mark_at I L m blocks = ap (λ c. mark_in (attributes_of c) (length blocks)) (headers_same m) in
      subst (λ cs. IsDirectory cs (mark_at J L m blocks)) (sym contents)
      (subst (λ n. IsDirectory (contents_of I blocks) n) (sym mark)
      (S.directories m blocks (was_file m d.0, subst (λ c. is_directory_header m c ≡ true) (headers_same m) d.1) old))

  formats_now : (m : ℕ) → IsTrue (is_in_use J L.home m) → IsHeader (header_at J L m) m → IsFormat1 (header_at J L m)
  formats_now m used is = subst IsFormat1 (sym (headers_same m)) (S.formats m (subst IsTrue (bits_same m) used) (subst (λ c. IsHeader c m) (headers_same m) is))

  module _ (free_was : (x : ℕ) → is_free_block J L x ≡ true → (is_free_block I L x ≡ true) ⊎ IsLoose I L x) where
    no_lower : (h k : ℕ) → IsHomeAt I h → IsHomePlace k → k < h → CouldBeWritten J L k → ⊥
    no_lower h k at place below (inl f) = elim (free_was k f) [ inl free ↦ S.home_stays h k at place below (inl free) | inr loose ↦ loose.behind h at place below ]
    no_lower h k at place below (inr g) = S.home_stays h k at place below (inr (g.0, g.1, held_was g.0 g.1 k g.2, g.3, g.4, g.5))

    not_free_now : (m v y : ℕ) → Holds J L m v y → is_free_block J L y ≡ false
    not_free_now m v y g = by (is_free_block J L y) refl
      where
        by : (b : Bool) → is_free_block J L y ≡ b → b ≡ false
        by false e = refl
        by true e = elim (free_was y e) [
          | inl free ↦ absurd (let clash : true ≡ false = sym free ∙ S.not_free m v y (held_was m v y g) in cc)
          | inr loose ↦ absurd (loose.unheld m v (held_was m v y g))
        ]

    pub sound_now : IsSoundBy J L
    sound_now = record {
      layout = layout_now;
      index_bitmap_size = S.index_bitmap_size;
      index_place = S.index_place;
      home_block = λ lbn x. S.home_block lbn (home_was lbn x);
      home_stays = λ lbn k x place below w. no_lower lbn k (home_was lbn x) place below w;
      bitmap_size = S.bitmap_size;
      master = file_stays I J L S NoHeader frame 4 (λ e. e) S.master;
      formats = formats_now;
      chains = λ m f. let old = S.chains m (was_file m f) in (old.0, has m old.0 old.1);
      apart = λ m n ms ns cs bs x fm fn cm cn in_m in_n. S.apart m n ms ns cs bs x (was_file m fm) (was_file n fn) (had_chain m ms cs fm cm) (had_chain n ns bs fn cn) in_m in_n;
      once = λ m n v w y hm hn. S.once m n v w y (held_was m v y hm) (held_was n w y hn);
      not_free = not_free_now;
      directories = directories_now;
    }

  -- each file shows what it showed
  shown_same : (m : ℕ) (blocks : List ℕ) → HasBlocks I L m blocks → file_of m (header_at J L m) (contents_of J blocks) ≡ file_of m (header_at I L m) (contents_of I blocks)
  shown_same m blocks file = ap (λ c. file_of m c (contents_of J blocks)) (headers_same m) ∙ same_file m (header_at I L m) (contents_of J blocks) (contents_of I blocks) (by (cases_eq m 2))
    where
      by : (m ≡ 2) ⊎ (m ≢ 2) → (nat_le m 2 ≡ true) ⊎ (contents_of J blocks ≡ contents_of I blocks)
      by (inl e) = inl (ap (λ k. nat_le k 2) e)
      by (inr other) = inr (contents_same m blocks other file)

  pub shows_now : (C : Catalogue) → ShowsBy I L C → ShowsBy J L C
  shows_now C shown = record {
    there = λ id f e. let p = shown.there id f e in
        record { blocks = p.blocks; held = has id.number p.blocks p.held; sequence = ap sequence_of (headers_same id.number) ∙ p.sequence; shown = shown_same id.number p.blocks p.held ∙ p.shown };
    all = λ id f q. let old = had id.number q.blocks q.held in
        shown.all id f (record { blocks = q.blocks; held = old; sequence = sym (ap sequence_of (headers_same id.number)) ∙ q.sequence; shown = sym (shown_same id.number q.blocks old) ∙ q.shown });
    default = shown.default;
  }

  pub still_spent : (C : Catalogue) → PastIsSpent I L C → PastIsSpent J L C
  still_spent C spent q known = subst (λ c. q.sequence ≤ sequence_of c) (sym (headers_same q.number)) (spent q known)
