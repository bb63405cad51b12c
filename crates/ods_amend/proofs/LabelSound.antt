-- A home block of a sound volume is replaced by one with the same fields: nothing moves, the volume stays sound, and shows what it showed.
use Rattle.std.proofs.Common.{◌≡◌, ◌≢◌, ℕ, ◌+◌, ◌-◌, ◌/◌, ◌%◌, ◌<◌, ◌≤◌, refl, ap, sym, ◌∙◌, subst, Bool, true, false, IsTrue, List, [], ◌∷◌, length, Option, Some, None, arith, inl, inr, nat_lt}
use Rattle.std.specs.Prelude.{◌⊎◌, ◌&&◌, not, nat_le, slice_get, slice_index, slice_set}
use Rattle.std.specs.Option.{option_map_or}
use Rattle.std.proofs.lemmas.Bool.{cases_eq, ltb-true}
use Rattle.std.proofs.lemmas.List.{length-set, get_or-set_other}
use Rattle.std.proofs.lemmas.Option.{slice_get-get_or}
use Rattle.ods_base.specs.Block.{has_bit}
use Rattle.ods_base.specs.Image.{block_at}
use Rattle.ods_header.specs.Header.{IsFormat1, IsHeader, attributes_of, is_directory_header, sequence_of}
use Rattle.ods_header.specs.Home.{IsHome, IsHomeAt, home_of}
use Rattle.ods_space.specs.Draft.{Changes, applied}
use Rattle.ods_space.specs.Layout.{Disk, VolumeLayout, header_at, is_in_use, last_number, place_of, with_places}
use Rattle.ods_space.specs.Chain.{IsChain}
use Rattle.ods_space.specs.Files.{HasBlocks, Holds, IsFile, IsLayoutOf}
use Rattle.ods_space.specs.Free.{is_covered, is_free_block, is_free_number, storage_bit}
use Rattle.ods_directory.specs.Mark.{mark_in}
use Rattle.ods_directory.specs.Names.{IsDirectory}
use Rattle.ods_mount.specs.Faults.{CouldBeWritten, IsDirectoryFile, contents_of, mark_at}
use Rattle.ods_mount.specs.Sound.{IsSoundBy}
use Rattle.ods_mount.proofs.Each.{holds_at}
use Rattle.ods_mount.proofs.Layouts.{same_place}
use Rattle.ods_header.proofs.DirectoryHeaders.{is_apart}
use Rattle.ods_request.specs.Catalogue.{Catalogue}
use Rattle.ods_state.specs.Change.{disk}
use Rattle.ods_state.specs.Contents.{file_of, ShowsBy}
use Rattle.ods_state.specs.Moves.{NothingMoves}
use Rattle.ods_state.specs.Version.{PastIsSpent}
use Rattle.ods_state.proofs.Chains.{IsLinkedBut, blocks_stay, blocks_were, chain_stays, chain_was, file_stays, file_was, held_before, holds_stays}
use Rattle.ods_space.proofs.Drafts.{applied_set}
use Rattle.ods_state.proofs.GrownMoves.{no_places}
use Rattle.ods_state.proofs.Links.{LinkedAt, bits_stay, header_held, linked_same, numbered}
use Rattle.ods_state.proofs.OneBlock.{block_here, mapped_alike}
use Rattle.ods_state.proofs.Shown.{same_file}
use Rattle.ods_amend.specs.Label.{IsLabelled, IsRelabelled, Relabels}
use Rattle.ods_amend.proofs.LabelSet.{fields_kept, still_home}

-- no header
abbrev NoHeader : ℕ → Type 0
NoHeader n = ⊥

module _ {I : List (List ℕ)} {L : VolumeLayout} (S : IsSoundBy I L) {h : ℕ} {label b : List ℕ} (at : IsHomeAt I h) (r : IsRelabelled (block_at I h) label b) where
  abbrev J : List (List ℕ)
  J = slice_set I h b

  there : (y : ℕ) → y ≢ h → block_at J y ≡ block_at I y
  there y ne = get_or-set_other I h y b [] ne

  -- the home block is the first or the second block of INDEXF.SYS
  own : (k : ℕ) × (k < 2) × Holds I L 1 (k + 1) h
  own = by (S.home_block h at)
    where
      by : (slice_get L.index 0 ≡ Some h) ⊎ (slice_get L.index 1 ≡ Some h) → (k : ℕ) × (k < 2) × Holds I L 1 (k + 1) h
      by (inl e) = (0, omega arith, holds_at I L 1 L.index 0 h S.layout.index e)
      by (inr e) = (1, omega arith, holds_at I L 1 L.index 1 h S.layout.index e)

  here : block_at J h ≡ b
  here = block_here I L S 1 (own.0 + 1) h b own.2

  -- a block that INDEXF.SYS holds behind it, or that another file holds, is another one
  apart_behind : (v y : ℕ) → 3 ≤ v → Holds I L 1 v y → y ≢ h
  apart_behind v y high g e =
      let same : v ≡ own.0 + 1 = (S.once 1 1 v (own.0 + 1) h (subst (λ z. Holds I L 1 v z) e g) own.2).1 in
      let low : own.0 < 2 = own.1 in
      absurd (omega arith)

  apart_file : (m v y : ℕ) → m ≢ 1 → Holds I L m v y → y ≢ h
  apart_file m v y ne g e = ne (S.once m 1 v (own.0 + 1) h (subst (λ z. Holds I L m v z) e g) own.2).0

  headers_same : (m : ℕ) → header_at J L m ≡ header_at I L m
  headers_same m = by (place_of L m) refl
    where
      same : (o : Option ℕ) → place_of L m ≡ o → option_map_or (block_at J) o [] ≡ option_map_or (block_at I) o []
      same None e = refl
      same (Some y) e = let some : 1 ≤ m = numbered L m y e in there y (apart_behind (2 + L.home.index_bitmap_size + m) y (omega arith) (header_held I L S m y e))

      by : (o : Option ℕ) → place_of L m ≡ o → header_at J L m ≡ header_at I L m
      by o e = ap (λ p. option_map_or (block_at J) p []) e ∙ same o e ∙ sym (ap (λ p. option_map_or (block_at I) p []) e)

  bits_same : (m : ℕ) → is_in_use J L.home m ≡ is_in_use I L.home m
  bits_same = bits_stay I J L.home (λ i low. there (L.home.index_bitmap_lbn + i) (apart_behind (3 + i) (L.home.index_bitmap_lbn + i) (omega arith) (bitmap_held i low)))
    where
      bitmap_held : (i : ℕ) → i < L.home.index_bitmap_size → Holds I L 1 (3 + i) (L.home.index_bitmap_lbn + i)
      bitmap_held i low =
          let less : 3 + i - 1 ≡ 2 + i = omega arith in
          record { blocks = L.index; file = S.layout.index; first = omega arith; named = ap (slice_get L.index) less ∙ S.index_place i (omega arith) }

  linked : (m : ℕ) → LinkedAt I J L.home L.index m
  linked m = linked_same I J L.home L.index m (headers_same m) (bits_same m)

  frame : IsLinkedBut I J L NoHeader
  frame = record {
    long = length-set I h b;
    linked = λ m far. linked m;
    back = λ m far. linked_same J I L.home L.index m (sym (headers_same m)) (sym (bits_same m));
    apart = λ m others blocks f c far x among. far;
  }

  has : (m : ℕ) (blocks : List ℕ) → HasBlocks I L m blocks → HasBlocks J L m blocks
  has m blocks = blocks_stay I J L S NoHeader frame m blocks (λ e. e)

  had : (m : ℕ) (blocks : List ℕ) → HasBlocks J L m blocks → HasBlocks I L m blocks
  had m blocks = blocks_were I J L S NoHeader frame m blocks (λ e. e)

  was_file : (m : ℕ) → IsFile J L m → IsFile I L m
  was_file m = file_was I J L S NoHeader frame m (λ e. e)

  holds_now : (m v y : ℕ) → Holds I L m v y → Holds J L m v y
  holds_now m v y = holds_stays I J L S NoHeader frame m v y (λ e. e)

  held : (m v y : ℕ) → Holds J L m v y → Holds I L m v y
  held m v y = held_before I J L S NoHeader frame m v y (λ e. e)

  had_chain : (m : ℕ) (others blocks : List ℕ) → IsFile J L m → IsChain J L m others blocks → IsChain I L m others blocks
  had_chain m others blocks f c = (chain_was I J L S NoHeader frame m others blocks (λ e. e) f c).0

  bitmap_same : (i y : ℕ) → slice_get L.bitmap i ≡ Some y → block_at J y ≡ block_at I y
  bitmap_same i y e = there y (apart_file 2 (i + 1) y (λ two. absurd (omega arith)) (holds_at I L 2 L.bitmap i y S.layout.bitmap e))

  storage_bit_stays : (lbn : ℕ) (c : Bool) → is_covered L lbn ≡ c → (c && storage_bit J L lbn) ≡ (c && storage_bit I L lbn)
  storage_bit_stays lbn false e = refl
  storage_bit_stays lbn true e =
      let within : 1 + lbn / 4096 < length L.bitmap = ltb-true (1 + lbn / 4096) (length L.bitmap) e in
      ap (λ d. has_bit d (lbn % 4096)) (bitmap_same (1 + lbn / 4096) (slice_index L.bitmap (1 + lbn / 4096)) (slice_get-get_or L.bitmap (1 + lbn / 4096) 0 within))

  free_stays : (lbn : ℕ) → is_free_block J L lbn ≡ is_free_block I L lbn
  free_stays lbn = λ i. nat_lt lbn (length-set I h b i) && storage_bit_stays lbn (is_covered L lbn) refl i

  free_number_stays : (m : ℕ) → is_free_number J L m ≡ is_free_number I L m
  free_number_stays m = λ i. nat_le 6 m && (nat_le m (last_number L) && (not (bits_same m i) && nat_lt (sequence_of (headers_same m i)) 65535))

  nothing_moves : NothingMoves (disk I L) (disk J L)
  nothing_moves = record {
    layout = refl;
    chains = λ m others blocks. chain_stays I J L S NoHeader frame m others blocks (λ x among e. e);
    held = λ m v y. (holds_now m v y, held m v y);
    free = free_stays;
    numbers = free_number_stays;
  }

  -- the home block
  home_now : IsHomeAt J h
  home_now = record {
    place = at.place;
    inside = subst (λ n. h < n) (sym (length-set I h b)) at.inside;
    home = subst IsHome (sym here) (still_home r at.home);
    least = λ k place below inside home. at.least k place below (subst (λ n. k < n) (length-set I h b) inside) (subst IsHome (there k (λ e. absurd (omega (arith, e, below)))) home);
  }

  home_was : (lbn : ℕ) → IsHomeAt J lbn → IsHomeAt I lbn
  home_was lbn x = subst (λ n. IsHomeAt I n) (same_place J h lbn home_now x) at

  layout_now : IsLayoutOf J L
  layout_now =
      let old = S.layout.home in
      record {
        home = (h, home_now, old.2 ∙ ap (λ n. home_of (block_at I n)) (same_place I old.0 h old.1 at) ∙ sym (ap home_of here ∙ fields_kept r));
        index = has 1 L.index S.layout.index;
        bitmap = has 2 L.bitmap S.layout.bitmap;
      }

  written_before : (k : ℕ) → CouldBeWritten J L k → CouldBeWritten I L k
  written_before k (inl f) = inl (subst IsTrue (free_stays k) f)
  written_before k (inr g) = inr (g.0, g.1, held g.0 g.1 k g.2, g.3, g.4, g.5)

  contents_same : (m : ℕ) (blocks : List ℕ) → m ≢ 1 → HasBlocks I L m blocks → contents_of J blocks ≡ contents_of I blocks
  contents_same m blocks ne file = mapped_alike (block_at I) (block_at J) blocks (λ i y e. there y (apart_file m (i + 1) y ne (holds_at I L m blocks i y file e)))

  directories_now : (m : ℕ) (blocks : List ℕ) → IsDirectoryFile J L m → HasBlocks J L m blocks → IsDirectory (contents_of J blocks) (mark_at J L m blocks)
  directories_now m blocks d g =
      let old : HasBlocks I L m blocks = had m blocks g in
      let contents : contents_of J blocks ≡ contents_of I blocks = contents_same m blocks (is_apart m (header_at J L m) d.1 1 (omega arith) (omega arith)) old in
      subst (λ cs. IsDirectory cs (mark_at J L m blocks)) (sym contents)
      (subst (λ n. IsDirectory (contents_of I blocks) n) (sym (mark_same m blocks))
      (S.directories m blocks (was_file m d.0, subst (λ c. is_directory_header m c ≡ true) (headers_same m) d.1) old))
    where
      mark_same : (m : ℕ) (blocks : List ℕ) → mark_at J L m blocks ≡ mark_at I L m blocks
      mark_same m blocks = ap (λ c. mark_in (attributes_of c) (length blocks)) (headers_same m)

  formats_now : (m : ℕ) → IsTrue (is_in_use J L.home m) → IsHeader (header_at J L m) m → IsFormat1 (header_at J L m)
  formats_now m used is = subst IsFormat1 (sym (headers_same m)) (S.formats m (subst IsTrue (bits_same m) used) (subst (λ c. IsHeader c m) (headers_same m) is))

  sound_now : IsSoundBy J L
  sound_now = record {
    layout = layout_now;
    index_bitmap_size = S.index_bitmap_size;
    index_place = S.index_place;
    home_block = λ lbn x. S.home_block lbn (home_was lbn x);
    home_stays = λ lbn k x place below w. S.home_stays lbn k (home_was lbn x) place below (written_before k w);
    bitmap_size = S.bitmap_size;
    master = file_stays I J L S NoHeader frame 4 (λ e. e) S.master;
    formats = formats_now;
    chains = λ m f. let old = S.chains m (was_file m f) in (old.0, has m old.0 old.1);
    apart = λ m n ms ns cs bs x fm fn cm cn in_m in_n. S.apart m n ms ns cs bs x (was_file m fm) (was_file n fn) (had_chain m ms cs fm cm) (had_chain n ns bs fn cn) in_m in_n;
    once = λ m n v w y hm hn. S.once m n v w y (held m v y hm) (held n w y hn);
    not_free = λ m v y g. free_stays y ∙ S.not_free m v y (held m v y g);
    directories = directories_now;
  }

  -- each file shows what it showed
  shown_same : (m : ℕ) (blocks : List ℕ) → HasBlocks I L m blocks → file_of m (header_at J L m) (contents_of J blocks) ≡ file_of m (header_at I L m) (contents_of I blocks)
  shown_same m blocks file = ap (λ c. file_of m c (contents_of J blocks)) (headers_same m) ∙ same_file m (header_at I L m) (contents_of J blocks) (contents_of I blocks) (by (cases_eq m 1))
    where
      by : (m ≡ 1) ⊎ (m ≢ 1) → (nat_le m 2 ≡ true) ⊎ (contents_of J blocks ≡ contents_of I blocks)
      by (inl e) = inl (ap (λ k. nat_le k 2) e)
      by (inr ne) = inr (contents_same m blocks ne file)

  shows_now : (C : Catalogue) → ShowsBy I L C → ShowsBy J L C
  shows_now C shown = record {
    there = λ id f e. let p = shown.there id f e in
        record { blocks = p.blocks; held = has id.number p.blocks p.held; sequence = ap sequence_of (headers_same id.number) ∙ p.sequence; shown = shown_same id.number p.blocks p.held ∙ p.shown };
    all = λ id f q. let old = had id.number q.blocks q.held in
        shown.all id f (record { blocks = q.blocks; held = old; sequence = sym (ap sequence_of (headers_same id.number)) ∙ q.sequence; shown = sym (shown_same id.number q.blocks old) ∙ q.shown });
    default = shown.default;
  }

  still_spent : (C : Catalogue) → PastIsSpent I L C → PastIsSpent J L C
  still_spent C spent q known = subst (λ c. q.sequence ≤ sequence_of c) (sym (headers_same q.number)) (spent q known)

  pub is_labelled : IsLabelled I L label J
  is_labelled = record {
    home = (h, at, home_now, subst (λ c. IsRelabelled (block_at I h) label c) (sym here) r);
    long = length-set I h b;
    elsewhere = λ y other. there y (λ e. other (subst (λ n. IsHomeAt I n) (sym e) at));
    sound = sound_now;
    shown = shows_now;
    past = still_spent;
    moves = nothing_moves;
  }

-- the draft of that one block makes it
pub draft_labels : {I : List (List ℕ)} {L : VolumeLayout} {label : List ℕ} {d : Changes} → IsSoundBy I L → (h : ℕ) (b : List ℕ) → IsHomeAt I h → IsRelabelled (block_at I h) label b
    → d ≡ (h, b) ∷ [] → IsLabelled I L label (applied I d)
draft_labels {I = I} {L = L} {label = label} S h b at r is = subst (IsLabelled I L label) (applied_set I h b ∙ ap (applied I) (sym is)) (is_labelled S at r)

-- and the volume that comes of it, whose blocks and layout were lent
pub volume_labelled : {I : List (List ℕ)} {L : VolumeLayout} {D E : Disk} {label : List ℕ} (d : Changes) → record { image = I; layout = L } ≡ D → IsLabelled I L label (applied I d)
    → E ≡ record { image = applied D.image d; layout = with_places D.layout [] } → Relabels D label E
volume_labelled {D = D} {label = label} d lent g is =
    let here : IsLabelled D.image D.layout label (applied D.image d) = subst (λ (F : Disk). IsLabelled F.image F.layout label (applied F.image d)) lent g in
    (subst (IsLabelled D.image D.layout label) (sym (ap (λ (F : Disk). F.image) is)) here, ap (λ (F : Disk). F.layout) is ∙ no_places D.layout [] refl)
