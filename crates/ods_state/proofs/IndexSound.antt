-- INDEXF.SYS grown by free blocks, and nothing else done: the volume stays sound by the layout with them, and shows what it showed.
use Rattle.std.proofs.Common.{◌≡◌, ◌≢◌, ℕ, ◌+◌, ◌*◌, ◌≤◌, nat_le, ap, refl, sym, ◌∙◌, subst, true, false, not, ◌&&◌, IsTrue, List, [], ◌∷◌, ◌++◌, length, Option, Some, None, arith, inl, inr}
use Rattle.std.specs.Prelude.{◌⊎◌, slice_get}
use Rattle.std.specs.Option.{option_map_or}
use Rattle.std.specs.List.{Contains}
use Rattle.std.proofs.lemmas.Bool.{and_left, and_parts, and_right, cases_eq, le-leb}
use Rattle.std.proofs.lemmas.List.{length-append}
use Rattle.ods_base.specs.Block.{zeros}
use Rattle.ods_base.specs.Image.{IsImage, block_at}
use Rattle.ods_base.specs.declared.file_id.FileId.{FileId}
use Rattle.ods_base.proofs.Blocks.{byte-zeros}
use Rattle.ods_header.specs.Header.{IsFormat1, IsHeader, attributes_of, is_directory_header, number_of, sequence_of}
use Rattle.ods_header.specs.Home.{home_of}
use Rattle.ods_header.proofs.DirectoryHeaders.{above_maps}
use Rattle.ods_space.specs.Layout.{VolumeLayout, header_at, is_in_use, place_of}
use Rattle.ods_space.specs.Chain.{IsChain}
use Rattle.ods_space.specs.Files.{HasBlocks, Holds, IsFile, IsLayoutOf}
use Rattle.ods_space.specs.Free.{is_free_block}
use Rattle.ods_space.proofs.Growing.{still_there}
use Rattle.ods_space.proofs.Parts.{contains_at}
use Rattle.ods_alloc.specs.Extend.{IsBookkeeping, is_one_of}
use Rattle.ods_directory.specs.Mark.{mark_in}
use Rattle.ods_directory.specs.Names.{IsDirectory}
use Rattle.ods_mount.specs.Faults.{CouldBeWritten, IsDirectoryFile, contents_of, mark_at}
use Rattle.ods_mount.specs.Sound.{IsSoundBy}
use Rattle.ods_mount.proofs.Each.{holds_at}
use Rattle.ods_request.specs.Catalogue.{Catalogue, File}
use Rattle.ods_state.specs.Contents.{IsFileIn, ShowsBy, file_of}
use Rattle.ods_state.specs.IndexGrowth.{CanGrowIndex, GrowsIndex, GrownIndexIsSound}
use Rattle.ods_state.specs.Version.{PastIsSpent}
use Rattle.ods_state.specs.Wants.{index_end}
use Rattle.ods_state.proofs.Bookkeeping.{bookkeeping_or_not, bookkeeping_written}
use Rattle.ods_state.proofs.Homes.{home_here, home_stays_at, home_was_at}
use Rattle.ods_state.proofs.IndexEnd.{end_valid}
use Rattle.ods_state.proofs.IndexGrown as grown
use Rattle.ods_state.proofs.IndexGrown.{IsNew, is_longer, longer}
use Rattle.ods_state.proofs.Chains.{first_in}
use Rattle.ods_state.proofs.Links.{header_is_no_data}
use Rattle.ods_state.proofs.OneBlock.{mapped_alike}
use Rattle.ods_state.proofs.RunsBehind.{map_shown}
use Rattle.ods_state.proofs.Shown.{same_file}
use Rattle.ods_state.proofs.Taken.{contains_or_not, one_of}

module _ {I K : List (List ℕ)} {L : VolumeLayout} {xs : List ℕ} (image : IsImage I) (S : IsSoundBy I L) (can : CanGrowIndex I L xs) (g : GrowsIndex I L xs K) where
  abbrev M : VolumeLayout
  M = longer L xs

  abbrev e : ℕ
  e = index_end I L

  -- what changes was bookkeeping, or free
  elsewhere : (x : ℕ) → (block_at K x ≡ block_at I x) ⊎ CouldBeWritten I L x
  elsewhere x = by (contains_or_not xs x) (bookkeeping_or_not L (e ∷ []) x)
    where
      by : Contains xs x ⊎ (¬ Contains xs x) → IsBookkeeping L (e ∷ []) x ⊎ (¬ IsBookkeeping L (e ∷ []) x) → (block_at K x ≡ block_at I x) ⊎ CouldBeWritten I L x
      by (inl c) side = inr (inl (grown.new_is_free image S can g x c))
      by (inr away) (inl b) = inr (bookkeeping_written S (e ∷ []) x b)
      by (inr away) (inr none) = inl (g.others x (λ s. none (inr (inl s))) (λ p. none (inr (inr p))) away)

  -- what could be written could be written: what is held now was held, or was free
  written_before : (k : ℕ) → CouldBeWritten K M k → CouldBeWritten I L k
  written_before k (inl f) = inl (and_parts (is_free_block I L k) _ (sym (grown.free_now image S can g k) ∙ f)).0
  written_before k (inr h) = by ((grown.holds_now image S can g h.0 h.1 k).0 h.2)
    where
      by : Holds I L h.0 h.1 k ⊎ IsNew image S can g h.0 h.1 k → CouldBeWritten I L k
      by (inl held) = inr (h.0, h.1, held, h.3, h.4, h.5)
      by (inr new) = inl (grown.new_is_free image S can g k (contains_at xs new.0 k new.3))

  layout_now : IsLayoutOf K M
  layout_now =
      let old = S.layout.home.0 in
      let before = S.layout.home.1 in
      record {
        home = (old, home_stays_at I K L S g.size elsewhere old before, S.layout.home.2 ∙ ap home_of (sym (home_here I K L S g.size elsewhere old before)));
        index = grown.index_now image S can g;
        bitmap = grown.blocks_stay image S can g 2 L.bitmap (λ two. absurd (omega arith)) S.layout.bitmap;
      }

  home_block_now : (lbn : ℕ) → (slice_get L.index 0 ≡ Some lbn) ⊎ (slice_get L.index 1 ≡ Some lbn) → (slice_get (L.index ++ xs) 0 ≡ Some lbn) ⊎ (slice_get (L.index ++ xs) 1 ≡ Some lbn)
  home_block_now lbn (inl at) = inl (still_there L.index xs 0 lbn at)
  home_block_now lbn (inr at) = inr (still_there L.index xs 1 lbn at)

  -- a header that is left aside for the format of its pointers was so before
  format_now : (n : ℕ) → IsTrue (is_in_use K L.home n) → IsHeader (header_at K M n) n → IsFormat1 (header_at K M n)
  format_now n used is = by (place_of L n) refl
    where
      number : number_of (header_at K M n) ≡ n
      number = is.numbered

      some : n ≢ 0
      some none = let wrong : true ≡ false = sym used ∙ ap (λ m. is_in_use K L.home m) none in absurd (cc)

      not_new : (header_at K M n ≡ []) ⊎ (header_at K M n ≡ zeros) → ⊥
      not_new (inl nothing) = let at : number_of (header_at K M n) ≡ 0 = ap number_of nothing in some (sym number ∙ at)
      not_new (inr zero) = let at : number_of (header_at K M n) ≡ 0 = ap number_of zero ∙ (λ i. byte-zeros 2 i + 256 * byte-zeros 3 i) in some (sym number ∙ at)

      by_end : header_at K M n ≡ header_at K L n → (n ≡ e) ⊎ (n ≢ e) → IsFormat1 (header_at K M n)
      by_end same (inl end) = subst IsFormat1 (sym (same ∙ ap (header_at K L) end)) (grown.end_now_valid image S can g).format
      by_end same (inr ne) =
          let all : header_at K M n ≡ header_at I L n = same ∙ grown.others_stay image S can g n ne in
          subst IsFormat1 (sym all) (S.formats n (subst IsTrue (grown.used_stays image S can g n) used) (subst (λ b. IsHeader b n) all is))

      by : (o : Option ℕ) → place_of L n ≡ o → IsFormat1 (header_at K M n)
      by None none = absurd (not_new (grown.new_header image S can g n none))
      by (Some p) place = by_end (grown.with_place image S can g K n p place) (cases_eq n e)

  chains_now : (n : ℕ) → (n ≡ 1) ⊎ (n ≢ 1) → IsFile K M n → (blocks : List ℕ) × HasBlocks K M n blocks
  chains_now n (inl is) f = (L.index ++ xs, subst (λ k. HasBlocks K M k (L.index ++ xs)) (sym is) (grown.index_now image S can g))
  chains_now n (inr ne) f = let before = S.chains n (grown.was_file image S can g n f) in (before.0, grown.blocks_stay image S can g n before.0 ne before.1)

  -- the chain had these headers
  chain_before : (n : ℕ) (ns bs : List ℕ) → (n ≡ 1) ⊎ (n ≢ 1) → IsFile K M n → IsChain K M n ns bs → (cs : List ℕ) × IsChain I L n ns cs
  chain_before n ns bs (inl is) f c =
      let own : IsChain K M 1 ns bs = subst (λ k. IsChain K M k ns bs) is c in
      (L.index, subst (λ k. IsChain I L k ns L.index) (sym is) (subst (λ l. IsChain I L 1 l L.index) (sym (grown.index_was image S can g ns bs own).0) S.layout.index.whole.chain))
  chain_before n ns bs (inr ne) f c = (bs, (grown.chain_was image S can g n ns bs ne f c).0)

  once_by : (m n v w x : ℕ) → Holds I L m v x ⊎ IsNew image S can g m v x → Holds I L n w x ⊎ IsNew image S can g n w x → (m ≡ n) × (v ≡ w)
  once_by m n v w x (inl p) (inl q) = S.once m n v w x p q
  once_by m n v w x (inl p) (inr q) = absurd (grown.not_held image S can g m v x p (contains_at xs q.0 x q.3))
  once_by m n v w x (inr p) (inl q) = absurd (grown.not_held image S can g n w x q (contains_at xs p.0 x p.3))
  once_by m n v w x (inr p) (inr q) = (p.1 ∙ sym q.1, p.2 ∙ ap (λ i. length L.index + i + 1) (grown.new_once image S can g p.0 q.0 x p.3 q.3) ∙ sym q.2)

  not_free_by : (m v x : ℕ) → Holds I L m v x ⊎ IsNew image S can g m v x → (is_free_block I L x && not (is_one_of xs x)) ≡ false
  not_free_by m v x (inl held) = and_left (is_free_block I L x) _ (S.not_free m v x held)
  not_free_by m v x (inr new) = and_right (is_free_block I L x) _ (ap not (one_of xs x (contains_at xs new.0 x new.3)))

  -- the contents of each file stay but for both maps
  pub contents_stay : (m : ℕ) (bs : List ℕ) → m ≢ 1 → m ≢ 2 → HasBlocks I L m bs → contents_of K bs ≡ contents_of I bs
  contents_stay m bs one two has =
      mapped_alike (block_at I) (block_at K) bs (λ i x at.
      let held = holds_at I L m bs i x has at in
      grown.held_stays image S can g m (i + 1) x held two (λ place. end_held m (i + 1) x held one place))
    where
      end_held : (k v x : ℕ) → Holds I L k v x → k ≢ 1 → place_of L e ≢ Some x
      end_held k v x held other place = other (header_is_no_data I L S e x k v place held)

  -- the header of another file stays
  pub header_stays : (m : ℕ) → m ≢ 1 → IsFile I L m → header_at K M m ≡ header_at I L m
  header_stays m ne f =
      let own = (S.chains m f).1 in
      grown.same_header image S can g m f.first f.last (grown.far_from_end image S can g m own.others (S.chains m f).0 ne f own.whole.chain m (first_in m own.others))

  directory_now : (m : ℕ) (bs : List ℕ) → IsDirectoryFile K M m → HasBlocks K M m bs → IsDirectory (contents_of K bs) (mark_at K M m bs)
  directory_now m bs d h =
      let high = above_maps m (header_at K M m) d.1 in
      let one : m ≢ 1 = λ is. absurd (omega (arith, high, is)) in
      let two : m ≢ 2 = λ is. absurd (omega (arith, high, is)) in
      let file : IsFile I L m = grown.was_file image S can g m d.0 in
      let before : HasBlocks I L m bs = grown.blocks_were image S can g m bs one h in
      let same : header_at K M m ≡ header_at I L m = header_stays m one file in
      subst (λ c. IsDirectory c (mark_at K M m bs)) (sym (contents_stay m bs one two before))
      (subst (λ b. IsDirectory (contents_of I bs) (mark_in (attributes_of b) (length bs))) (sym same)
      (S.directories m bs (file, subst (λ b. is_directory_header m b ≡ true) same d.1) before))

  pub sound_now : IsSoundBy K M
  sound_now = record {
    layout = layout_now;
    index_bitmap_size = let before = S.index_bitmap_size in omega (arith, before, length-append L.index xs);
    index_place = λ i low. still_there L.index xs (2 + i) (L.home.index_bitmap_lbn + i) (S.index_place i low);
    home_block = λ lbn h. home_block_now lbn (S.home_block lbn (home_was_at I K L S g.size elsewhere lbn h));
    home_stays = λ lbn k h place below w. S.home_stays lbn k (home_was_at I K L S g.size elsewhere lbn h) place below (written_before k w);
    bitmap_size = S.bitmap_size;
    master = grown.stays_file image S can g 4 S.master;
    formats = λ n used is. format_now n used is;
    chains = λ n f. chains_now n (cases_eq n 1) f;
    apart = λ m n ms ns cs bs x fm fn cm cn in_m in_n.
        let a = chain_before m ms cs (cases_eq m 1) fm cm in
        let b = chain_before n ns bs (cases_eq n 1) fn cn in
        S.apart m n ms ns a.0 b.0 x (grown.was_file image S can g m fm) (grown.was_file image S can g n fn) a.1 b.1 in_m in_n;
    once = λ m n v w x hm hn. once_by m n v w x ((grown.holds_now image S can g m v x).0 hm) ((grown.holds_now image S can g n w x).0 hn);
    not_free = λ n v x h. grown.free_now image S can g x ∙ not_free_by n v x ((grown.holds_now image S can g n v x).0 h);
    directories = directory_now;
  }

  -- another file shows what it did
  shown_stays : (m : ℕ) (bs : List ℕ) → m ≢ 1 → HasBlocks I L m bs → file_of m (header_at K M m) (contents_of K bs) ≡ file_of m (header_at I L m) (contents_of I bs)
  shown_stays m bs ne has = ap (λ b. file_of m b (contents_of K bs)) (header_stays m ne has.file) ∙ same_file m (header_at I L m) (contents_of K bs) (contents_of I bs) (unlooked (cases_eq m 2))
    where
      unlooked : (m ≡ 2) ⊎ (m ≢ 2) → (nat_le m 2 ≡ true) ⊎ (contents_of K bs ≡ contents_of I bs)
      unlooked (inl two) = inl (le-leb m 2 (omega (arith, two)))
      unlooked (inr two) = inr (contents_stay m bs ne two has)

  -- and so does INDEXF.SYS, of which no contents are shown
  index_shown : (bs cs : List ℕ) → file_of 1 (header_at K M 1) (contents_of K bs) ≡ file_of 1 (header_at I L 1) (contents_of I cs)
  index_shown bs cs = ap (λ b. file_of 1 b (contents_of K bs)) (grown.numbered_stays image S can g K 1 (omega arith) S.layout.index.file.last) ∙ by (cases_eq 1 e)
    where
      by : (1 ≡ e) ⊎ (1 ≢ e) → file_of 1 (header_at K L 1) (contents_of K bs) ≡ file_of 1 (header_at I L 1) (contents_of I cs)
      by (inl is) =
          ap (λ m. file_of 1 (header_at K L m) (contents_of K bs)) is ∙ map_shown g.last (end_valid I L image S) can.room 1 (contents_of K bs) (contents_of I cs) (omega arith)
          ∙ sym (ap (λ m. file_of 1 (header_at I L m) (contents_of I cs)) is)
      by (inr ne) = ap (λ b. file_of 1 b (contents_of K bs)) (grown.others_stay image S can g 1 ne) ∙ same_file 1 (header_at I L 1) (contents_of K bs) (contents_of I cs) (inl refl)

  -- the sequence word of each number stays, and is 0 where there was no header
  sequence_now : (m : ℕ) → IsFile I L m → sequence_of (header_at K M m) ≡ sequence_of (header_at I L m)
  sequence_now m f = ap sequence_of (grown.numbered_stays image S can g K m f.first f.last) ∙ grown.sequences_stay image S can g m

  file_stays_by : (id : FileId) (f : File) → (id.number ≡ 1) ⊎ (id.number ≢ 1) → IsFileIn I L id f → IsFileIn K M id f
  file_stays_by id f (inl is) p = record {
    blocks = L.index ++ xs;
    held = subst (λ k. HasBlocks K M k (L.index ++ xs)) (sym is) (grown.index_now image S can g);
    sequence = sequence_now id.number p.held.file ∙ p.sequence;
    shown = subst (λ k. file_of k (header_at K M k) (contents_of K (L.index ++ xs)) ≡ file_of k (header_at I L k) (contents_of I p.blocks)) (sym is) (index_shown (L.index ++ xs) p.blocks) ∙ p.shown;
  }
  file_stays_by id f (inr ne) p = record {
    blocks = p.blocks;
    held = grown.blocks_stay image S can g id.number p.blocks ne p.held;
    sequence = sequence_now id.number p.held.file ∙ p.sequence;
    shown = shown_stays id.number p.blocks ne p.held ∙ p.shown;
  }

  file_was_by : (id : FileId) (f : File) → (id.number ≡ 1) ⊎ (id.number ≢ 1) → IsFileIn K M id f → IsFileIn I L id f
  file_was_by id f (inl is) p = record {
    blocks = L.index;
    held = subst (λ k. HasBlocks I L k L.index) (sym is) S.layout.index;
    sequence = sym (sequence_now id.number (grown.was_file image S can g id.number p.held.file)) ∙ p.sequence;
    shown = sym (subst (λ k. file_of k (header_at K M k) (contents_of K p.blocks) ≡ file_of k (header_at I L k) (contents_of I L.index)) (sym is) (index_shown p.blocks L.index)) ∙ p.shown;
  }
  file_was_by id f (inr ne) p =
      let old = grown.blocks_were image S can g id.number p.blocks ne p.held in
      record {
        blocks = p.blocks;
        held = old;
        sequence = sym (sequence_now id.number old.file) ∙ p.sequence;
        shown = sym (shown_stays id.number p.blocks ne old) ∙ p.shown;
      }

  pub shown_now : (C : Catalogue) → ShowsBy I L C → ShowsBy K M C
  shown_now C shown = record {
    there = λ id f at. file_stays_by id f (cases_eq id.number 1) (shown.there id f at);
    all = λ id f p. shown.all id f (file_was_by id f (cases_eq id.number 1) p);
    default = shown.default;
  }

  pub shown_was : (C : Catalogue) → ShowsBy K M C → ShowsBy I L C
  shown_was C shown = record {
    there = λ id f at. file_was_by id f (cases_eq id.number 1) (shown.there id f at);
    all = λ id f p. shown.all id f (file_stays_by id f (cases_eq id.number 1) p);
    default = shown.default;
  }

  sequences_rise : (m : ℕ) → sequence_of (header_at I L m) ≤ sequence_of (header_at K M m)
  sequences_rise m = by (place_of L m) refl
    where
      by : (o : Option ℕ) → place_of L m ≡ o → sequence_of (header_at I L m) ≤ sequence_of (header_at K M m)
      by None none = let zero : sequence_of (header_at I L m) ≡ 0 = ap (λ o. sequence_of (option_map_or (block_at I) o [])) none in omega (arith, zero)
      by (Some p) place =
          let same : sequence_of (header_at K M m) ≡ sequence_of (header_at I L m) = ap sequence_of (grown.with_place image S can g K m p place) ∙ grown.sequences_stay image S can g m in
          omega (arith, same)

  pub past_now : (C : Catalogue) → PastIsSpent I L C → PastIsSpent K M C
  past_now C past id known = let before = past id known in let risen = sequences_rise id.number in omega (arith, before, risen)

-- the law
pub grown_index_sound : GrownIndexIsSound
grown_index_sound I K L xs image S can g =
    subst (λ N. IsSoundBy K N × ((C : Catalogue) → ShowsBy I L C → ShowsBy K N C) × ((C : Catalogue) → PastIsSpent I L C → PastIsSpent K N C)) (sym (is_longer L xs can.fits))
    (sound_now image S can g, shown_now image S can g, past_now image S can g)
