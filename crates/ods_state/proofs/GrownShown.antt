-- A file of a sound volume grows, or is new: every other file shows what it did, the file itself is put, or created.
use Rattle.std.proofs.Common.{◌≡◌, ◌≢◌, ℕ, ◌+◌, ◌<◌, ◌≤◌, refl, ap, sym, ◌∙◌, subst, Bool, true, false, not, ◌||◌, List, [], length, get_or, Option, Some, None, is_some, arith, inl, inr}
use Rattle.std.specs.Prelude.{◌⊎◌, ◌==◌, nat_le}
use Rattle.std.specs.FinMap as map
use Rattle.std.specs.FinSet as set
use Rattle.std.specs.List.{Contains}
use Rattle.std.specs.Ordering.{eq_by_cmp, is_eq}
use Rattle.std.proofs.lemmas.Bool.{and_from, eqb-true, le-leb, not_from_false}
use Rattle.std.proofs.lemmas.Cmp.{tied_itself}
use Rattle.std.proofs.lemmas.List.Folds.{Any-from_list_any, list_any_at}
use Rattle.ods_base.specs.declared.file_id.FileId.{FileId}
use Rattle.ods_header.specs.Header.{sequence_of}
use Rattle.ods_space.specs.Layout.{VolumeLayout, header_at}
use Rattle.ods_space.specs.Files.{IsFile}
use Rattle.ods_alloc.proofs.FreeTests.{IsFreeNumber, free_number}
use Rattle.ods_mount.specs.Sound.{IsSoundBy}
use Rattle.ods_request.specs.Catalogue.{Catalogue, File, file_cmp}
use Rattle.ods_request.specs.Steps.{created, is_new, is_used, put}
use Rattle.ods_request.proofs.Orders.{file_cmp-total}
use Rattle.ods_state.specs.Contents.{IsFileIn, ShowsBy}
use Rattle.ods_state.specs.Version.{PastIsSpent}
use Rattle.ods_state.specs.Wants.{allocated_numbers}
use Rattle.ods_state.proofs.Grown.{other_is_far, rechained}
use Rattle.ods_state.proofs.GrownMoves.{sequences_rise}
use Rattle.ods_state.specs.Growth.{IsGrowth}
use Rattle.ods_state.proofs.Rechained as re
use Rattle.ods_state.proofs.Shown.{ids, shows_put}
use Rattle.ods_state.proofs.OpenNumbers.{allocated_number_is_free}
use Rattle.ods_state.proofs.Taken.{first_is_one, new_is_no_file, none_empty, old_or_new}

-- an ID that is a key of the catalogue's files has a file
key_has_file : (C : Catalogue) (k : ℕ) (id : FileId) → k < length (map.keys C.files) → get_or (map.keys C.files) k id ≡ id → (f : File) × (map.get C.files id ≡ Some f)
key_has_file C k id low at = by (map.get C.files id) refl
  where
    has : map.contains_key C.files id ≡ true
    has = map.contains_key-keys C.files id ∙ list_any_at (eq_by_cmp file_cmp id) (map.keys C.files) k id low (ap (eq_by_cmp file_cmp id) at ∙ ap is_eq (tied_itself file_cmp-total id))

    by : (o : Option File) → map.get C.files id ≡ o → (f : File) × (map.get C.files id ≡ Some f)
    by (Some f) e = (f, e)
    by None e = let wrong : false ≡ true = sym (ap is_some e) ∙ has in absurd (cc)

-- a number that is used is some file's
used_by_file : (I : List (List ℕ)) (L : VolumeLayout) (C : Catalogue) (number : ℕ) → ShowsBy I L C → is_used C number ≡ true → IsFile I L number
used_by_file I L C number shown e =
    let found = Any-from_list_any (λ (q : FileId). q.number == number) (map.keys C.files) e in
    let file = key_has_file C found.0 found.1 found.2 found.3 in
    subst (IsFile I L) (eqb-true found.1.number number found.4) (shown.there found.1 file.0 file.1).held.file

module _ {I J : List (List ℕ)} {L : VolumeLayout} {n : ℕ} {headers old : List ℕ} {count : ℕ} {numbers : List ℕ} (S : IsSoundBy I L) (g : IsGrowth I J L n headers old count numbers) where
  other_stays : (q : FileId) (f : File) → q.number ≢ n → IsFileIn I L q f → IsFileIn J L q f
  other_stays q f ne p = record {
    blocks = p.blocks;
    held = re.others_stay S (rechained S g) q.number p.blocks ne p.held;
    sequence = ap sequence_of (g.stays q.number (other_is_far S g q.number p.held.file ne)) ∙ p.sequence;
    shown = re.shown_stays S (rechained S g) q.number p.blocks ne p.held ∙ p.shown;
  }

  other_was : (q : FileId) (f : File) → q.number ≢ n → IsFileIn J L q f → IsFileIn I L q f
  other_was q f ne p =
      let before = re.others_were S (rechained S g) q.number p.blocks ne p.held in
      record {
        blocks = p.blocks;
        held = before;
        sequence = sym (ap sequence_of (g.stays q.number (other_is_far S g q.number before.file ne))) ∙ p.sequence;
        shown = sym (re.shown_stays S (rechained S g) q.number p.blocks ne before) ∙ p.shown;
      }

  -- under another ID, where the sequence number is that of the header, stands another number
  other_number : (X : List (List ℕ)) (id q : FileId) → id.number ≡ n → sequence_of (header_at X L id.number) ≡ id.sequence → q ≢ id → sequence_of (header_at X L q.number) ≡ q.sequence → q.number ≢ n
  other_number X id q number own ne known e =
      let same : q.number ≡ id.number = e ∙ sym number in
      ne (λ i. record { number = same i; sequence = (sym known ∙ ap (λ m. sequence_of (header_at X L m)) same ∙ own) i })

  -- a file that grew is put
  pub grown_is_put : (id : FileId) → id.number ≡ n → IsFile I L n → sequence_of (header_at I L n) ≡ id.sequence
      → (C : Catalogue) (f : File) → ShowsBy I L C → IsFileIn J L id f → ShowsBy J L (put C id f)
  grown_is_put id number file sequence C f shown here =
      let before : sequence_of (header_at I L id.number) ≡ id.sequence = ap (λ m. sequence_of (header_at I L m)) number ∙ sequence in
      shows_put I J L C id f shown here
      (λ q h ne p. other_stays q h (other_number I id q number before ne p.sequence) p)
      (λ q h ne p. other_was q h (other_number J id q number here.sequence ne p.sequence) p)

  module _ (new : headers ≡ []) where
    -- the number of a new file was free
    first_was_free : IsFreeNumber I L n
    first_was_free = by (old_or_new S g.taking n (first_is_one S g.taking))
      where
        by : Contains headers n ⊎ Contains (allocated_numbers I L headers count) n → IsFreeNumber I L n
        by (inl before) = absurd (none_empty n (subst (λ l. Contains l n) new before))
        by (inr taken) = free_number I L n (allocated_number_is_free I L headers count n g.taking.no_growth taken)

    module _ (id : FileId) (number : id.number ≡ n) where
      -- a new file is created
      pub created_is_shown : (C : Catalogue) (f : File) → ShowsBy I L C → IsFileIn J L id f → ShowsBy J L (created C id f)
      created_is_shown C f shown here =
          let is_put : ShowsBy J L (put C id f) = shows_put I J L C id f shown here
          (λ q h ne p. other_stays q h (λ e. new_is_no_file S g.taking new (subst (IsFile I L) e p.held.file)) p)
          (λ q h ne p. other_was q h (other_number J id q number here.sequence ne p.sequence) p) in
          record { there = is_put.there; all = is_put.all; default = is_put.default }

      -- and its ID is one that may be given: the number is a word
      pub created_is_new : id.sequence ≡ sequence_of (header_at I L n) + 1 → n ≤ 65535 → (C : Catalogue) → ShowsBy I L C → PastIsSpent I L C → is_new C id ≡ true
      created_is_new next word C shown past =
          and_from (not (set.contains C.past id)) _ (not_from_false (set.contains C.past id) not_past)
          (and_from (not (is_used C id.number)) _ (not_from_false (is_used C id.number) not_used)
          (and_from (nat_le 6 id.number) _ (le-leb 6 id.number low) (le-leb id.number 65535 high)))
        where
          free : IsFreeNumber I L n
          free = first_was_free

          low : 6 ≤ id.number
          low = let above = free.low in omega (arith, number)

          high : id.number ≤ 65535
          high = omega (arith, number)

          past_by : (b : Bool) → set.contains C.past id ≡ b → b ≡ false
          past_by false e = refl
          past_by true e =
              let spent : id.sequence ≤ sequence_of (header_at I L n) = subst (λ m. id.sequence ≤ sequence_of (header_at I L m)) number (past id e) in
              absurd (omega arith)

          not_past : set.contains C.past id ≡ false
          not_past = past_by (set.contains C.past id) refl

          used_by : (b : Bool) → is_used C id.number ≡ b → b ≡ false
          used_by false e = refl
          used_by true e = absurd (new_is_no_file S g.taking new (subst (IsFile I L) number (used_by_file I L C id.number shown e)))

          not_used : is_used C id.number ≡ false
          not_used = used_by (is_used C id.number) refl

  -- the past stays spent with the ID of a new file
  pub created_is_spent : (id : FileId) (C : Catalogue) (f : File) → IsFileIn J L id f → PastIsSpent I L C → PastIsSpent J L (created C id f)
  created_is_spent id C f here past q known = by (ids q id)
    where
      by : (q ≡ id) ⊎ ((q ≢ id) × (eq_by_cmp file_cmp q id ≡ false)) → q.sequence ≤ sequence_of (header_at J L q.number)
      by (inl e) = subst (λ (p : FileId). p.sequence ≤ sequence_of (header_at J L p.number)) (sym e) (omega (arith, here.sequence))
      by (inr apart) =
          let kept : set.contains C.past q ≡ true = sym (set.contains-insert file_cmp-total C.past id q ∙ ap (λ b. b || set.contains C.past q) apart.1) ∙ known in
          let before : q.sequence ≤ sequence_of (header_at I L q.number) = past q kept in
          let risen = sequences_rise S g q.number in
          omega arith
