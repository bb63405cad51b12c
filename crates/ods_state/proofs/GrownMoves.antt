-- A file that has grown: its blocks and numbers are taken as a request says that it takes them, and no block changes but those that the request may touch.
use Rattle.std.proofs.Common.{◌≡◌, ℕ, ◌-◌, ◌<◌, ◌≤◌, refl, ap, append-nil, sym, ◌∙◌, subst, Bool, true, not, ◌&&◌, ◌||◌, List, [], ◌∷◌, ◌++◌, length, drop, take, Some, None, arith, inl, inr}
use Rattle.std.specs.Prelude.{◌⊎◌, ◌==◌, slice_get}
use Rattle.std.specs.List.{All, Contains}
use Rattle.std.proofs.Math.Seq.{take-nil}
use Rattle.std.proofs.lemmas.Bool.{or_left}
use Rattle.std.proofs.lemmas.List.Folds.{list_any-append}
use Rattle.ods_base.specs.Image.{IsImage, block_at}
use Rattle.ods_header.specs.Header.{IsValidHeader, runs_of, sequence_of}
use Rattle.ods_header.specs.Pointing.{IsWithRuns}
use Rattle.ods_space.specs.Layout.{VolumeLayout, header_at, is_in_use, most_index_blocks, with_places}
use Rattle.ods_space.specs.Files.{Holds, IsWhole}
use Rattle.ods_space.specs.Free.{free_blocks, is_free_block}
use Rattle.ods_alloc.specs.Extend.{IsBookkeeping, AllocatesBits, chain_runs, cut, is_one_of}
use Rattle.ods_mount.specs.Sound.{IsSoundBy}
use Rattle.ods_request.specs.declared.requests.Request.{Request}
use Rattle.ods_state.specs.Change.{disk}
use Rattle.ods_state.specs.Made.{AreMade, IndexGrows}
use Rattle.ods_state.specs.Moves.{AreAllocated, IsNextBlock, TouchedByAllocating}
use Rattle.ods_state.specs.Wants.{HasHeaders, Wants, index_blocks, index_end, allocated_blocks, allocated_numbers}
use Rattle.ods_state.specs.Growth.{IsGrowth, all_headers}
use Rattle.ods_state.proofs.Chains.{chain_stays}
use Rattle.ods_state.proofs.Grown.{IsOwn, free_now, holds_now, is_linked, number_high, numbers_now, other_is_far, own_whole}
use Rattle.ods_state.proofs.IndexEnd.{end_in, end_valid}
use Rattle.ods_state.proofs.Taken as taken

-- a layout that gets no place stays
pub no_places : (L : VolumeLayout) (places : List ℕ) → places ≡ [] → with_places L places ≡ L
no_places L places none =
    let most : ℕ = most_index_blocks L.home - length L.index in
    let same : L.index ++ take most places ≡ L.index = ap (λ l. L.index ++ take most l) none ∙ ap (λ l. L.index ++ l) (take-nil most) ∙ append-nil L.index in
    λ i. record { home = L.home; index = same i; bitmap = L.bitmap }

-- a header that gets no pointer stays
pub no_runs : (b : List ℕ) (n : ℕ) (blocks : List ℕ) → blocks ≡ [] → IsValidHeader b n → IsWithRuns b (cut blocks) b
unfolding cut
no_runs b n [] none valid = record { size = refl; pointers = sym (append-nil (runs_of b)); used = omega arith; checksum = valid.header.checksum; others = λ i low apart side. refl }
no_runs b n (x ∷ xs) none valid = absurd (cc)

module _ {I J : List (List ℕ)} {L : VolumeLayout} {n : ℕ} {headers old : List ℕ} {count : ℕ} {numbers : List ℕ} (S : IsSoundBy I L) (g : IsGrowth I J L n headers old count numbers) where
  -- the index bits of the headers that the file had are set already
  used_or_taken : (m : ℕ) → (is_in_use I L.home m || is_one_of (all_headers n headers numbers) m) ≡ (is_in_use I L.home m || is_one_of (allocated_numbers I L headers count) m)
  used_or_taken m = ap (λ l. is_in_use I L.home m || is_one_of l m) g.taking.all ∙ ap (λ t. is_in_use I L.home m || t) (list_any-append (λ y. y == m) headers (allocated_numbers I L headers count)) ∙ by (taken.contains_or_not headers m)
    where
      new : Bool
      new = is_one_of (allocated_numbers I L headers count) m

      by : Contains headers m ⊎ (¬ Contains headers m) → (is_in_use I L.home m || (is_one_of headers m || new)) ≡ (is_in_use I L.home m || new)
      by (inl before) =
          let used : is_in_use I L.home m ≡ true = taken.old_in_use S g.taking m before in
          or_left (is_in_use I L.home m) (is_one_of headers m || new) used ∙ sym (or_left (is_in_use I L.home m) new used)
      by (inr none) = ap (λ t. is_in_use I L.home m || (t || new)) (taken.none_of headers m none)

  bits_taken : AllocatesBits I L (allocated_blocks I L count) (allocated_numbers I L headers count) J
  bits_taken = record { storage = g.bits.storage; index_bits = λ m. g.bits.index_bits m ∙ used_or_taken m }

  -- INDEXF.SYS gets no block
  no_blocks : index_blocks I L headers count ≡ []
  no_blocks = ap (λ k. take k (drop count (free_blocks I L))) g.taking.no_growth

  just_taken : allocated_blocks I L count ++ index_blocks I L headers count ≡ allocated_blocks I L count
  just_taken = ap (λ l. allocated_blocks I L count ++ l) no_blocks ∙ append-nil (allocated_blocks I L count)

  none_next : (m v x : ℕ) → ¬ IsNextBlock 1 (length L.index) (index_blocks I L headers count) m v x
  none_next m v x p = let none : None ≡ Some x = sym (ap (λ l. slice_get l p.0) no_blocks) ∙ p.3 in absurd (cc)

  -- so its chain stays
  index_stays : (hs : List ℕ) → HasHeaders I L 1 hs L.index → HasHeaders J L 1 hs (L.index ++ index_blocks I L headers count)
  index_stays hs has =
      let far : ¬ IsOwn S g 1 = other_is_far S g 1 S.layout.index.file (number_high S g 1 (omega arith)) in
      let chain = chain_stays I J L S (IsOwn S g) (is_linked S g) 1 has.0 L.index (taken.others_apart S g.taking 1 has.0 L.index S.layout.index.file has.2.chain far) has.2.chain in
      let whole : IsWhole J L 1 has.0 L.index = record { chain = chain; inside = subst (λ k. All (λ x. x < k) L.index) (sym g.long) has.2.inside } in
      subst (HasHeaders J L 1 hs) (sym (ap (λ l. L.index ++ l) no_blocks ∙ append-nil L.index)) (has.0, has.1, whole)

  module _ (image : IsImage I) where
    end_stays : header_at J L (index_end I L) ≡ header_at I L (index_end I L)
    end_stays =
        let far : ¬ IsOwn S g 1 = other_is_far S g 1 S.layout.index.file (number_high S g 1 (omega arith)) in
        g.stays (index_end I L) (taken.others_apart S g.taking 1 S.layout.index.others L.index S.layout.index.file S.layout.index.whole.chain far (index_end I L) (end_in I L image S))

    index_as_before : IndexGrows (disk I L) (disk J L) (index_blocks I L headers count) (allocated_numbers I L headers count)
    index_as_before = record {
      chain = index_stays;
      last = subst (IsWithRuns (header_at I L (index_end I L)) (cut (index_blocks I L headers count))) (sym end_stays)
          (no_runs (header_at I L (index_end I L)) (index_end I L) (index_blocks I L headers count) no_blocks (end_valid I L image S));
      zeroed = λ m above below. absurd (omega arith);
    }

    pub grown_taken : AreMade (disk I L) (disk J L) headers (allocated_numbers I L headers count) → AreAllocated (disk I L) (disk J L) headers old count
    grown_taken made = record {
      number = n;
      layout = sym (no_places L (index_blocks I L headers count) no_blocks);
      chain = (drop 1 headers ++ numbers, sym g.taking.all, own_whole S g);
      pointers = ap (chain_runs J L) (sym g.taking.all) ∙ g.pointers;
      held = λ m v x. (λ h. held_after m v x ((holds_now S g m v x).0 h), λ h. (holds_now S g m v x).1 (held_before m v x h));
      free = λ x. free_now S g x ∙ ap (λ l. is_free_block I L x && not (is_one_of l x)) (sym just_taken);
      numbers = numbers_now S g;
      bits = subst (λ l. AllocatesBits I L l (allocated_numbers I L headers count) J) (sym just_taken) bits_taken;
      sequences = g.raised;
      made = made;
      index = index_as_before;
    }
      where
        held_after : (m v x : ℕ) → Holds I L m v x ⊎ IsNextBlock n (length old) (allocated_blocks I L count) m v x
            → Holds I L m v x ⊎ IsNextBlock n (length old) (allocated_blocks I L count) m v x ⊎ IsNextBlock 1 (length L.index) (index_blocks I L headers count) m v x
        held_after m v x (inl h) = inl h
        held_after m v x (inr p) = inr (inl p)

        held_before : (m v x : ℕ) → Holds I L m v x ⊎ IsNextBlock n (length old) (allocated_blocks I L count) m v x ⊎ IsNextBlock 1 (length L.index) (index_blocks I L headers count) m v x
            → Holds I L m v x ⊎ IsNextBlock n (length old) (allocated_blocks I L count) m v x
        held_before m v x (inl h) = inl h
        held_before m v x (inr (inl p)) = inr p
        held_before m v x (inr (inr p)) = absurd (none_next m v x p)

  -- a request that wants what the file took may touch each block that changes
  pub grown_touches : (r : Request) → Wants I L r headers old count → (x : ℕ) → ¬ TouchedByAllocating (disk I L) r (disk J L) x → block_at J x ≡ block_at I x
  grown_touches r wants x untouched = g.elsewhere x none (λ c. untouched (headers, old, count, wants, inr (inr (inr (inl c)))))
    where
      none : ¬ IsBookkeeping L (all_headers n headers numbers) x
      none (inl i) = untouched (headers, old, count, wants, inl i)
      none (inr (inl s)) = untouched (headers, old, count, wants, inr (inl s))
      none (inr (inr p)) = untouched (headers, old, count, wants, inr (inr (inl (p.0, subst (λ l. Contains l p.0) g.taking.all p.1, p.2))))

  -- no sequence word falls
  pub sequences_rise : (m : ℕ) → sequence_of (header_at I L m) ≤ sequence_of (header_at J L m)
  sequences_rise m = by (taken.contains_or_not (all_headers n headers numbers) m)
    where
      by_kind : Contains headers m ⊎ Contains (allocated_numbers I L headers count) m → sequence_of (header_at I L m) ≤ sequence_of (header_at J L m)
      by_kind (inl before) = let same = g.kept m before in omega (arith, same)
      by_kind (inr new) = let more = g.raised m new in omega (arith, more)

      by : Contains (all_headers n headers numbers) m ⊎ (¬ Contains (all_headers n headers numbers) m) → sequence_of (header_at I L m) ≤ sequence_of (header_at J L m)
      by (inl own) = by_kind (taken.old_or_new S g.taking m own)
      by (inr far) = let same : sequence_of (header_at J L m) ≡ sequence_of (header_at I L m) = ap sequence_of (g.stays m far) in omega (arith, same)
