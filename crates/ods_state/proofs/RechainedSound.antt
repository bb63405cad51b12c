-- Where the chain of one file of a sound volume becomes another one, the volume stays sound, if the file is still a directory, or none.
use Rattle.std.proofs.Common.{◌≡◌, ◌≢◌, ℕ, suc, ◌+◌, ◌<◌, ap, sym, ◌∙◌, subst, true, false, IsTrue, List, [], ◌∷◌, ◌++◌, length, Some, arith, inl, inr}
use Rattle.std.specs.Prelude.{◌⊎◌}
use Rattle.std.specs.List.{Contains}
use Rattle.std.proofs.lemmas.Bool.{both_ways, cases_eq, false_from_ne_true}
use Rattle.ods_header.proofs.DirectoryHeaders.{above_maps}
use Rattle.ods_header.specs.Header.{IsHeader, IsFormat1, attributes_of, blocks_of, is_directory_header}
use Rattle.ods_space.specs.Layout.{VolumeLayout, header_at, is_in_use, last_number}
use Rattle.ods_space.specs.Chain.{Follows, IsChain, IsSegment, index_for}
use Rattle.ods_space.specs.Files.{IsFile, HasBlocks, Holds}
use Rattle.ods_space.specs.Free.{is_free_block}
use Rattle.ods_space.proofs.Chains.{same_chain}
use Rattle.ods_space.proofs.Parts.{contains_at}
use Rattle.ods_directory.specs.Mark.{mark_in}
use Rattle.ods_directory.specs.Names.{IsDirectory}
use Rattle.ods_mount.specs.Faults.{IsDirectoryFile, contents_of, mark_at, CouldBeWritten}
use Rattle.ods_mount.specs.Sound.{IsSoundBy}
use Rattle.ods_state.proofs.Homes.{home_was_at}
use Rattle.ods_state.proofs.OnlyBookkeeping.{first_or_later}
use Rattle.ods_state.proofs.Rechained as re
use Rattle.ods_state.proofs.Taken.{contains_or_not}

-- each header of a chain is a segment of it
pub segments_along : (I : List (List ℕ)) (L : VolumeLayout) (front : List ℕ) (k n : ℕ) (ms all : List ℕ) → Follows I L.home (Some L.index) front k n ms all → (m : ℕ) → Contains (n ∷ ms) m
    → (j : ℕ) × IsSegment I L.home L.index (last_number L) m j
segments_along I L front k n [] all f m among = elim (first_or_later n [] m among) [
  | inl same ↦ (k, subst (λ x. IsSegment I L.home L.index (last_number L) x k) same f.0)
  | inr none ↦ absurd (let within = none.1 in omega arith)
]
segments_along I L front k n (y ∷ ys) all f m among = elim (first_or_later n (y ∷ ys) m among) [
  | inl same ↦ (k, subst (λ x. IsSegment I L.home L.index (last_number L) x k) same f.0)
  | inr later ↦ segments_along I L (front ++ blocks_of (header_at I L n)) (suc k) y ys all f.4 m later
]

module _ {I J : List (List ℕ)} {L : VolumeLayout} {n : ℕ} {own later kept given taken : List ℕ} (S : IsSoundBy I L) (R : re.Rechained I J L n own later kept given taken) where
  abbrev now : List ℕ
  now = kept ++ taken

  was_free : (m v x : ℕ) → re.IsTakenAs S R m v x → IsTrue (is_free_block I L x)
  was_free m v x p = R.was_free x (contains_at taken p.0 x p.3)

  -- none that is held is free
  not_free : (m v x : ℕ) → Holds J L m v x → is_free_block J L x ≡ false
  not_free m v x h = false_from_ne_true (is_free_block J L x) (λ e. clash (R.free x e) (re.held_or_taken S R m v x h))
    where
      clash : (IsTrue (is_free_block I L x) × ¬ Contains taken x) ⊎ (Contains given x × (5 < n)) → re.IsKeptOrTaken S R m v x → ⊥
      clash (inl f) (inl p) = both_ways (is_free_block I L x) (S.not_free m v x p.0) f.0
      clash (inl f) (inr p) = f.1 (contains_at taken p.0 x p.3)
      clash (inr g) (inr p) = both_ways (is_free_block I L x) (S.not_free n (length kept + g.0.0 + 1) x (re.given_at S R x g.0)) (was_free m v x p)
      clash (inr g) (inl p) = let same = S.once m n v (length kept + g.0.0 + 1) x p.0 (re.given_at S R x g.0) in elim p.1 [ inl ne ↦ ne same.0 | inr few ↦ absurd (omega (arith, same.1, few)) ]

  -- what could be written could be written before
  written_before : (x : ℕ) → CouldBeWritten J L x → CouldBeWritten I L x
  written_before x (inl f) = elim (R.free x f) [
    | inl p ↦ inl p.0
    | inr g ↦ let high = g.1 in inr (n, length kept + g.0.0 + 1, re.given_at S R x g.0, λ e. absurd (omega arith), λ e. absurd (omega arith), λ q. let one = q.0 in absurd (omega arith))
  ]
  written_before x (inr w) = elim (re.held_or_taken S R w.0 w.1 x w.2) [
    | inl p ↦ inr (w.0, w.1, p.0, w.3, w.4, w.5)
    | inr p ↦ inl (was_free w.0 w.1 x p)
  ]

  master : IsFile J L 4
  master = elim (cases_eq 4 n) [
    | inl e ↦ subst (IsFile J L) (sym e) (elim R.there [ inl used ↦ re.own_file S R used | inr high ↦ absurd (omega arith) ])
    | inr ne ↦ re.stays_file S R 4 ne S.master
  ]

  format_of : (m : ℕ) → IsTrue (is_in_use J L.home m) → IsHeader (header_at J L m) m → IsFormat1 (header_at J L m)
  format_of m used is = elim (contains_or_not own m) [
    | inl among ↦ let chain = R.chain m among used in (segments_along J L [] 0 n later now (re.follows S R chain.0) m chain.1).1.valid.format
    | inr far ↦ subst IsFormat1 (sym (R.stays m far)) (S.formats m (sym (R.used m far) ∙ used) (subst (λ b. IsHeader b m) (R.stays m far) is))
  ]

  chain_of : (m : ℕ) → IsFile J L m → (blocks : List ℕ) × HasBlocks J L m blocks
  chain_of m f = elim (cases_eq m n) [
    | inl e ↦ (now, subst (λ k. HasBlocks J L k now) (sym e) (re.own_blocks S R (subst (IsFile J L) e f)))
    | inr ne ↦ let before = S.chains m (re.was_file S R m ne f) in (before.0, re.others_stay S R m before.0 ne before.1)
  ]

  -- a header of the file is one of these, a header of another file is none
  own_header : (m : ℕ) (ms cs : List ℕ) (x : ℕ) → m ≡ n → IsFile J L m → IsChain J L m ms cs → Contains (m ∷ ms) x → Contains own x
  own_header m ms cs x e f c at =
      let is : ms ≡ later = (same_chain J L.home (index_for L n) [] 0 n ms cs later now (subst (λ k. IsChain J L k ms cs) e c) (R.chain n (re.own_first S R) (subst (IsFile J L) e f).in_use).0).0 in
      R.within x (subst (λ l. Contains l x) (λ i. e i ∷ is i) at)

  other_header : (m : ℕ) (ms cs : List ℕ) (x : ℕ) → m ≢ n → IsFile J L m → IsChain J L m ms cs → Contains (m ∷ ms) x → ¬ Contains own x
  other_header m ms cs x ne f c = R.apart m ms cs ne (re.was_file S R m ne f) (re.had_chain S R m ms cs ne f c) x

  apart_by : (m k : ℕ) (ms ks cs bs : List ℕ) (x : ℕ) → (m ≡ n) ⊎ (m ≢ n) → (k ≡ n) ⊎ (k ≢ n) → IsFile J L m → IsFile J L k → IsChain J L m ms cs → IsChain J L k ks bs
      → Contains (m ∷ ms) x → Contains (k ∷ ks) x → m ≡ k
  apart_by m k ms ks cs bs x (inl e) (inl d) fm fk cm ck in_m in_k = e ∙ sym d
  apart_by m k ms ks cs bs x (inl e) (inr ne) fm fk cm ck in_m in_k = absurd (other_header k ks bs x ne fk ck in_k (own_header m ms cs x e fm cm in_m))
  apart_by m k ms ks cs bs x (inr ne) (inl e) fm fk cm ck in_m in_k = absurd (other_header m ms cs x ne fm cm in_m (own_header k ks bs x e fk ck in_k))
  apart_by m k ms ks cs bs x (inr ne) (inr nf) fm fk cm ck in_m in_k = S.apart m k ms ks cs bs x (re.was_file S R m ne fm) (re.was_file S R k nf fk)
      (re.had_chain S R m ms cs ne fm cm) (re.had_chain S R k ks bs nf fk ck) in_m in_k

  once_by : (m k v w x : ℕ) → re.IsKeptOrTaken S R m v x → re.IsKeptOrTaken S R k w x → (m ≡ k) × (v ≡ w)
  once_by m k v w x (inl p) (inl q) = S.once m k v w x p.0 q.0
  once_by m k v w x (inl p) (inr q) = absurd (both_ways (is_free_block I L x) (S.not_free m v x p.0) (was_free k w x q))
  once_by m k v w x (inr p) (inl q) = absurd (both_ways (is_free_block I L x) (S.not_free k w x q.0) (was_free m v x p))
  once_by m k v w x (inr p) (inr q) = (p.1 ∙ sym q.1, p.2 ∙ ap (λ i. length kept + i + 1) (R.once p.0 q.0 x p.3 q.3) ∙ sym q.2)

  -- the file is still a directory, or none
  abbrev pub IsStillDirectory : Type 0
  IsStillDirectory = IsDirectoryFile J L n → IsDirectory (contents_of J now) (mark_at J L n now)

  directory_by : IsStillDirectory → (m : ℕ) (blocks : List ℕ) → (m ≡ n) ⊎ (m ≢ n) → IsDirectoryFile J L m → HasBlocks J L m blocks → IsDirectory (contents_of J blocks) (mark_at J L m blocks)
  directory_by still m blocks (inl e) d h =
      let is : blocks ≡ now = re.own_blocks_are S R blocks (subst (λ k. HasBlocks J L k blocks) e h) in
      subst (λ k. IsDirectory (contents_of J blocks) (mark_at J L k blocks)) (sym e)
      (subst (λ bs. IsDirectory (contents_of J bs) (mark_at J L n bs)) (sym is) (still (subst (IsDirectoryFile J L) e d)))
  directory_by still m blocks (inr ne) d h =
      let same : header_at J L m ≡ header_at I L m = R.stays m (re.far_now S R m d.0 ne) in
      let before : HasBlocks I L m blocks = re.others_were S R m blocks ne h in
      subst (λ c. IsDirectory c (mark_at J L m blocks)) (sym (re.contents_stay S R m blocks (above_maps m (header_at J L m) d.1) before))
      (subst (λ c. IsDirectory (contents_of I blocks) (mark_in (attributes_of c) (length blocks))) (sym same)
      (S.directories m blocks (before.file, subst (λ c. is_directory_header m c ≡ true) same d.1) before))

  pub rechained_sound : IsStillDirectory → IsSoundBy J L
  rechained_sound still = record {
    layout = re.layout_stays S R;
    index_bitmap_size = S.index_bitmap_size;
    index_place = S.index_place;
    home_block = λ lbn h. S.home_block lbn (home_was_at I J L S R.long (re.written S R) lbn h);
    home_stays = λ lbn k h place below w. S.home_stays lbn k (home_was_at I J L S R.long (re.written S R) lbn h) place below (written_before k w);
    bitmap_size = S.bitmap_size;
    master = master;
    formats = format_of;
    chains = chain_of;
    apart = λ m k ms ks cs bs x. apart_by m k ms ks cs bs x (cases_eq m n) (cases_eq k n);
    once = λ m k v w x hm hk. once_by m k v w x (re.held_or_taken S R m v x hm) (re.held_or_taken S R k w x hk);
    not_free = not_free;
    directories = λ m blocks. directory_by still m blocks (cases_eq m n);
  }
