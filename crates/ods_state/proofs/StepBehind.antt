-- A step of the volume where INDEXF.SYS has grown for it is a step of the volume before.
use Rattle.std.proofs.Common.{◌≡◌, ◌≢◌, ℕ, zero, suc, ◌+◌, ◌*◌, ◌<◌, ◌≤◌, refl, ap, append-nil, sym, ◌∙◌, subst, Bool, true, false, cond, not, ◌&&◌, ◌||◌, List, [], ◌∷◌, ◌++◌, length, drop, take, get_or, Option, Some, None, arith, inl, inr}
use Rattle.std.specs.Prelude.{◌⊎◌, ◌==◌, if◌then◌else◌, slice_get}
use Rattle.std.specs.Option.{option_map_or}
use Rattle.std.specs.List.{All, Contains}
use Rattle.std.proofs.lemmas.Bool.{cases_lt, ne_eqb}
use Rattle.std.proofs.lemmas.List.Elements.{All-contains, Contains-append_cases, Contains-append_left, Contains-get_or}
use Rattle.std.proofs.lemmas.List.Folds.{list_any-append}
use Rattle.ods_base.specs.Block.{byte, zeros}
use Rattle.ods_base.specs.Image.{IsImage, block_at}
use Rattle.ods_base.specs.Name.{RadName, key_of}
use Rattle.ods_base.specs.declared.file_id.FileId.{FileId}
use Rattle.ods_base.specs.declared.file_id.Uic.{Uic}
use Rattle.ods_header.specs.Header.{attributes_of, blocks_of, map_word, next_number_of, next_volume_of, runs_of}
use Rattle.ods_header.specs.declared.header.Run.{Run}
use Rattle.ods_header.specs.Pointing.{BeginsPointers, IsWithRuns, KeepsFields, KeepsForm, KeepsRest, behind_pointers}
use Rattle.ods_space.specs.Layout.{VolumeLayout, header_at, header_by, last_number, place_of}
use Rattle.ods_space.specs.Chain.{Follows, headers_along, headers_of, numbers_of}
use Rattle.ods_space.specs.Files.{HasBlocks, Holds, IsWhole}
use Rattle.ods_space.specs.Free.{is_free_block, storage_bit}
use Rattle.ods_space.proofs.Chains.{head_of, same_chain}
use Rattle.ods_space.proofs.Growing.{place_stays}
use Rattle.ods_space.proofs.Wholes.{along_none, along_some}
use Rattle.ods_alloc.specs.Extend.{IsBookkeeping, IsHeaderPlace, IsIndexBitmap, IsStorageBitmap, chain_runs, cut, is_one_of, last_of}
use Rattle.ods_alloc.proofs.Fields.{last_in}
use Rattle.ods_alloc.proofs.NewHeaders.{free_has_place}
use Rattle.ods_mount.specs.Faults.{contents_of, mark_at}
use Rattle.ods_mount.specs.Sound.{IsSoundBy}
use Rattle.ods_directory.specs.Entry.{entry_bytes}
use Rattle.ods_directory.specs.Mark.{IsSlot, grown, mark_in, marked, written}
use Rattle.ods_state.specs.Change.{disk}
use Rattle.ods_state.specs.IndexGrowth.{CanGrowIndex, GrowsIndex, IsNoMap, StepBehindGrowth, WantsStay, WantsTheSame}
use Rattle.ods_state.specs.Made.{AreMade, AreZeroed, IsEnteredAt}
use Rattle.ods_state.specs.Moves.{AreAllocated, IsCreatedId, IsNameEntered, IsNextBlock, Moves, TouchedByIndex, TouchedByAllocating, Touches}
use Rattle.ods_state.specs.Served.{IsStepOf}
use Rattle.ods_state.specs.Wants.{EnterGrows, HasHeaders, Wants, index_blocks, index_end, lack_of, allocated_blocks, allocated_count, allocated_numbers}
use Rattle.ods_request.specs.declared.requests.Request.{Request}
use Rattle.ods_request.specs.declared.requests.Request.TheVariants.{Create, Extend, Truncate, Delete, Enter, LookUp, Remove, Read, Write, List as Lines, Stat, SetUser}
use Rattle.ods_request.specs.declared.answers.Answer.{Answer}
use Rattle.ods_request.specs.declared.answers.Answer.TheVariants.{Created, Extended, Truncated, Done, Entered, Found, Removed, Bytes, Names, Info}
use Rattle.ods_state.proofs.Bookkeeping.{IsHeldBySystem, bookkeeping_held}
use Rattle.ods_state.proofs.Chains.{first_in, later_in}
use Rattle.ods_state.proofs.IndexGrown as index
use Rattle.ods_state.proofs.IndexGrown.{is_longer, longer, new_place}
use Rattle.ods_state.proofs.IndexSound as sound
use Rattle.ods_state.proofs.IndexAllocates as takes
use Rattle.ods_state.proofs.IndexAllocates.{HadThese, can_grow}
use Rattle.ods_state.proofs.Links.{place_is_one}
use Rattle.ods_state.proofs.OnlyBookkeeping.{first_or_later}
use Rattle.ods_state.proofs.Taken.{none_empty}
use Rattle.ods_state.proofs.Wanted.{may_take, none_lacks, wants_are_one}

two_tests : (p a b : Bool) → ((p && not b) && not a) ≡ (p && not (a || b))
two_tests false a b = refl
two_tests true true true = refl
two_tests true true false = refl
two_tests true false true = refl
two_tests true false false = refl

-- pointers behind pointers, where none are added the second time
runs_on : (b c d : List ℕ) (runs : List Run) → IsWithRuns b runs c → IsWithRuns c [] d → IsWithRuns b runs d
runs_on b c d runs v w = record {
  size = w.size ∙ v.size;
  pointers = w.pointers ∙ append-nil (runs_of c) ∙ v.pointers;
  used = let x = v.used in let y = w.used in omega (arith, x, y);
  checksum = w.checksum;
  others = λ i low apart side. same i low apart ∙ v.others i low apart side;
}
  where
    map_is : map_word c ≡ map_word b
    map_is = v.others 1 (omega arith) (λ e. absurd (omega arith)) (inl (omega arith))

    same : (i : ℕ) → i < 510 → i ≢ 2 * map_word b + 8 → byte d i ≡ byte c i
    same i low apart = w.others i low (λ e. apart (e ∙ ap (λ m. 2 * m + 8) map_is)) (by (cases_lt i (behind_pointers c)))
      where
        by : (i < behind_pointers c) ⊎ (behind_pointers c ≤ i) → (i < behind_pointers c) ⊎ (behind_pointers c + 4 * length {A = Run} [] ≤ i)
        by (inl before) = inl before
        by (inr past) = inr (omega (arith, past))

no_cut : cut [] ≡ []
unfolding cut
no_cut = refl

behind_first : (hs : List ℕ) (m : ℕ) → Contains (drop 1 hs) m → Contains hs m
behind_first [] m c = c
behind_first (h ∷ hs) m c = later_in h hs m c

module _ (I K J : List (List ℕ)) (L : VolumeLayout) (headers old : List ℕ) (count : ℕ) (image : IsImage I) (S : IsSoundBy I L) (enough : lack_of I L headers count ≡ None)
    (had : HadThese I L headers old) (g : GrowsIndex I L (index_blocks I L headers count) K) where
  abbrev X : List ℕ
  X = index_blocks I L headers count

  abbrev M : VolumeLayout
  M = longer L X

  abbrev E : ℕ
  E = index_end I L

  can : CanGrowIndex I L X
  can = takes.can I K L headers old count image S enough had g

  blocks_same : allocated_blocks K M count ≡ allocated_blocks I L count
  blocks_same = takes.blocks_stay I K L headers old count image S enough had g

  numbers_same : allocated_numbers K M headers count ≡ allocated_numbers I L headers count
  numbers_same = takes.numbers_stay I K L headers old count image S enough had g

  none_more : index_blocks K M headers count ≡ []
  none_more = takes.no_more I K L headers old count image S enough had g

  own_same : (m : ℕ) → Contains headers m → header_at K M m ≡ header_at I L m
  own_same = takes.own_stays I K L headers old count image S enough had g

  just_taken : allocated_blocks K M count ++ index_blocks K M headers count ≡ allocated_blocks I L count
  just_taken = (λ i. blocks_same i ++ none_more i) ∙ append-nil (allocated_blocks I L count)

  sound_then : IsSoundBy K M
  sound_then = sound.sound_now image S can g

  -- the last header of INDEXF.SYS is the same one
  along_same : (left n k : ℕ) (front ms : List ℕ) → Follows I L.home None front k n ms L.index → numbers_of (headers_along K M left n) ≡ numbers_of (headers_along I L left n)
  unfolding headers_along
  along_same zero n k front ms f = refl
  along_same (suc left) n k front [] f =
      let some : n ≢ 0 = (λ e. let first = f.0.first in absurd (omega (arith, first, e))) in
      let next = index.index_next image S can g front k n [] f in
      ap numbers_of (along_some K M left n some) ∙ ap (λ l. n ∷ numbers_of l) (along_none K M left (next_number_of (header_at K M n)) (next.1 ∙ f.1))
      ∙ sym (ap numbers_of (along_some I L left n some) ∙ ap (λ l. n ∷ numbers_of l) (along_none I L left (next_number_of (header_at I L n)) (next.0 ∙ f.1)))
  along_same (suc left) n k front (m ∷ ms) f =
      let some : n ≢ 0 = (λ e. let first = f.0.first in absurd (omega (arith, first, e))) in
      let next = index.index_next image S can g front k n (m ∷ ms) f in
      ap numbers_of (along_some K M left n some) ∙ ap (λ q. n ∷ numbers_of (headers_along K M left q)) (next.1 ∙ f.1)
      ∙ ap (λ l. n ∷ l) (along_same left m (suc k) (front ++ blocks_of (header_by I L.home front n)) ms f.4)
      ∙ sym (ap numbers_of (along_some I L left n some) ∙ ap (λ q. n ∷ numbers_of (headers_along I L left q)) (next.0 ∙ f.1))

  end_same : index_end K M ≡ E
  unfolding headers_of
  end_same = ap (last_of 0) (along_same 256 1 0 [] S.layout.index.others S.layout.index.whole.chain)

  end_header : header_at K M E ≡ header_at K L E
  end_header = index.end_place image S can g

  -- a place in the grown volume was one, or is one of the new blocks
  place_in : (m x : ℕ) → place_of M m ≡ Some x → (place_of L m ≡ Some x) ⊎ Contains X x
  place_in m x at = by (place_of L m) refl
    where
      by : (o : Option ℕ) → place_of L m ≡ o → (place_of L m ≡ Some x) ⊎ Contains X x
      by None none = inr (new_place L.home L.index X m x none at)
      by (Some p) place = inl (place ∙ sym (place_stays L.home L.index X m p place) ∙ at)

  header_place_in : (ns : List ℕ) (x : ℕ) → IsHeaderPlace M ns x → IsHeaderPlace L ns x ⊎ Contains X x
  header_place_in ns x p = by (place_in p.0 x p.2)
    where
      by : (place_of L p.0 ≡ Some x) ⊎ Contains X x → IsHeaderPlace L ns x ⊎ Contains X x
      by (inl at) = inl (p.0, p.1, at)
      by (inr c) = inr c

  -- of the new blocks those in which no header is made are zeros
  abbrev Untouched : Type 0
  Untouched = (x : ℕ) → Contains X x → ¬ IsHeaderPlace M (headers ++ allocated_numbers I L headers count) x → block_at J x ≡ block_at K x

  still_zeros : Untouched → (n : ℕ) → last_number L < n → n ≤ last_number M → ¬ Contains (allocated_numbers I L headers count) n → header_at J M n ≡ zeros
  still_zeros away n above within not_taken = by (place_of L n) refl (place_of M n) refl
    where
      by : (o : Option ℕ) → place_of L n ≡ o → (q : Option ℕ) → place_of M n ≡ q → header_at J M n ≡ zeros
      by (Some p) old_place q e = let low = index.was_within image S can g n p old_place within in absurd (omega (arith, low, above))
      by None none None e = absurd (free_has_place M n (omega (arith, above)) within e)
      by None none (Some x) e =
          let new : Contains X x = new_place L.home L.index X n x none e in
          ap (λ o. option_map_or (block_at J) o []) e ∙ away x new no_header ∙ All-contains (λ y. block_at K y ≡ zeros) X x g.zeroed new
        where
          no_header : ¬ IsHeaderPlace M (headers ++ allocated_numbers I L headers count) x
          no_header p =
              let is : p.0 ≡ n = place_is_one K M sound_then p.0 n x p.2 e in
              which (Contains-append_cases headers (allocated_numbers I L headers count) n (subst (Contains (headers ++ allocated_numbers I L headers count)) is p.1))
            where
              which : Contains headers n ⊎ Contains (allocated_numbers I L headers count) n → ⊥
              which (inl c) = let low = (takes.own_kept I K L headers old count image S enough had g n c).1 in absurd (omega (arith, low, above))
              which (inr c) = not_taken c

  -- what the grown volume takes is what the volume takes
  taken_before : Untouched → AreAllocated (disk K M) (disk J M) headers old count → AreAllocated (disk I L) (disk J M) headers old count
  taken_before away t = record {
    number = t.number;
    layout = sym (is_longer L X can.fits);
    chain = subst (λ ns. HasHeaders J M t.number (headers ++ ns) (old ++ allocated_blocks I L count)) numbers_same
        (subst (λ bs. HasHeaders J M t.number (headers ++ allocated_numbers K M headers count) (old ++ bs)) blocks_same t.chain);
    pointers = ap (λ ns. chain_runs J M (headers ++ ns)) (sym numbers_same) ∙ t.pointers ∙ (λ i. runs_same headers own_same i ++ cut (blocks_same i));
    held = λ n v x. (λ h. held_after n v x ((t.held n v x).0 h), λ h. (t.held n v x).1 (held_before n v x h));
    free = λ x. t.free x ∙ ap (λ l. is_free_block K M x && not (is_one_of l x)) just_taken ∙ ap (λ b. b && not (is_one_of (allocated_blocks I L count) x)) (index.free_now image S can g x)
        ∙ two_tests (is_free_block I L x) (is_one_of (allocated_blocks I L count) x) (is_one_of X x)
        ∙ ap (λ b. is_free_block I L x && not b) (sym (list_any-append (λ y. y == x) (allocated_blocks I L count) X));
    numbers = λ n. t.numbers n ∙ (λ i. takes.open_stays I K L headers old count image S enough had g (last_number M) n i && not (is_one_of (numbers_same i) n));
    bits = record {
      storage = λ x covered. t.bits.storage x covered ∙ ap (λ l. storage_bit K M x && not (is_one_of l x)) just_taken
          ∙ ap (λ b. b && not (is_one_of (allocated_blocks I L count) x)) (g.bits.storage x covered)
          ∙ two_tests (storage_bit I L x) (is_one_of (allocated_blocks I L count) x) (is_one_of X x)
          ∙ ap (λ b. storage_bit I L x && not b) (sym (list_any-append (λ y. y == x) (allocated_blocks I L count) X));
      index_bits = λ n. t.bits.index_bits n ∙ (λ i. index.used_stays image S can g n i || is_one_of (numbers_same i) n);
    };
    sequences = λ n c. t.sequences n (subst (λ ns. Contains ns n) (sym numbers_same) c) ∙ ap (λ s. s + 1) (takes.sequence_stays I K L headers old count image S enough had g n);
    made = subst (AreMade (disk I L) (disk J M) headers) numbers_same (made_before t.made);
    index = record {
      chain = index_before;
      last = runs_on (header_at I L E) (header_at K L E) (header_at J M E) (cut X) g.last last_before;
      zeroed = still_zeros away;
    };
  }
    where
      runs_same : (hs : List ℕ) → ((m : ℕ) → Contains hs m → header_at K M m ≡ header_at I L m) → chain_runs K M hs ≡ chain_runs I L hs
      runs_same [] each = refl
      runs_same (h ∷ hs) each = λ i. runs_of (each h (first_in h hs) i) ++ runs_same hs (λ m c. each m (later_in h hs m c)) i

      held_after : (n v x : ℕ) → Holds K M n v x ⊎ IsNextBlock t.number (length old) (allocated_blocks K M count) n v x ⊎ IsNextBlock 1 (length M.index) (index_blocks K M headers count) n v x
          → Holds I L n v x ⊎ IsNextBlock t.number (length old) (allocated_blocks I L count) n v x ⊎ IsNextBlock 1 (length L.index) X n v x
      held_after n v x (inl h) = by ((index.holds_now image S can g n v x).0 h)
        where
          by : Holds I L n v x ⊎ IsNextBlock 1 (length L.index) X n v x → Holds I L n v x ⊎ IsNextBlock t.number (length old) (allocated_blocks I L count) n v x ⊎ IsNextBlock 1 (length L.index) X n v x
          by (inl before) = inl before
          by (inr new) = inr (inr new)
      held_after n v x (inr (inl p)) = inr (inl (p.0, p.1, p.2, ap (λ l. slice_get l p.0) (sym blocks_same) ∙ p.3))
      held_after n v x (inr (inr p)) = let none : None ≡ Some x = sym (ap (λ l. slice_get l p.0) none_more) ∙ p.3 in absurd (cc)

      held_before : (n v x : ℕ) → Holds I L n v x ⊎ IsNextBlock t.number (length old) (allocated_blocks I L count) n v x ⊎ IsNextBlock 1 (length L.index) X n v x
          → Holds K M n v x ⊎ IsNextBlock t.number (length old) (allocated_blocks K M count) n v x ⊎ IsNextBlock 1 (length M.index) (index_blocks K M headers count) n v x
      held_before n v x (inl h) = inl ((index.holds_now image S can g n v x).1 (inl h))
      held_before n v x (inr (inl p)) = inr (inl (p.0, p.1, p.2, ap (λ l. slice_get l p.0) blocks_same ∙ p.3))
      held_before n v x (inr (inr p)) = inl ((index.holds_now image S can g n v x).1 (inr p))

      made_before : AreMade (disk K M) (disk J M) headers (allocated_numbers K M headers count) → AreMade (disk I L) (disk J M) headers (allocated_numbers K M headers count)
      made_before m = record {
        stays = λ i d low. subst (λ b. KeepsForm b (header_at J M (get_or headers i d))) (own_same (get_or headers i d) (Contains-get_or headers i d low)) (m.stays i d low);
        others = λ i d low. subst (λ b. KeepsFields b (header_at J M (get_or (drop 1 headers) i d))) (own_same (get_or (drop 1 headers) i d) (behind_first headers (get_or (drop 1 headers) i d) (Contains-get_or (drop 1 headers) i d low))) (m.others i d low);
        begins = λ i d low. subst (λ b. BeginsPointers b (header_at J M (get_or headers i d))) (own_same (get_or headers i d) (Contains-get_or headers i d low)) (m.begins i d low);
        rest = λ i d low. subst (λ b. KeepsRest b (header_at J M (get_or headers i d))) (own_same (get_or headers i d) (Contains-get_or headers i d low)) (m.rest i d low);
        form = m.form;
        made = m.made;
        clean = m.clean;
        filled = m.filled;
        last_volume = λ none first behind is. m.last_volume none first behind is ∙ ap next_volume_of (own_same (last_of first behind) (subst (λ l. Contains l (last_of first behind)) (sym is) (last_in first behind)));
      }

      index_before : (hs : List ℕ) → HasHeaders I L 1 hs L.index → HasHeaders J M 1 hs (L.index ++ X)
      index_before hs has =
          let others_are = (same_chain I L.home None [] 0 1 has.0 L.index S.layout.index.others L.index has.2.chain S.layout.index.whole.chain).0 in
          let now = index.index_now image S can g in
          let whole : IsWhole K M 1 S.layout.index.others (L.index ++ X) = record { chain = index.index_chain image S can g; inside = now.whole.inside } in
          let after : HasHeaders K M 1 hs (L.index ++ X) = (has.0, has.1, subst (λ l. IsWhole K M 1 l (L.index ++ X)) (sym others_are) whole) in
          subst (HasHeaders J M 1 hs) (ap (λ l. (L.index ++ X) ++ l) none_more ∙ append-nil (L.index ++ X)) (t.index.chain hs after)

      last_before : IsWithRuns (header_at K L E) [] (header_at J M E)
      last_before =
          let a : IsWithRuns (header_at K M E) (cut (index_blocks K M headers count)) (header_at J M E) = subst (λ m. IsWithRuns (header_at K M m) (cut (index_blocks K M headers count)) (header_at J M m)) end_same t.index.last in
          let b : IsWithRuns (header_at K M E) [] (header_at J M E) = subst (λ rs. IsWithRuns (header_at K M E) rs (header_at J M E)) (ap cut none_more ∙ no_cut) a in
          subst (λ h. IsWithRuns h [] (header_at J M E)) end_header b

  -- the file as the grown volume has it
  pub along_own : (n : ℕ) → 3 ≤ n → HasHeaders I L n headers old → HasBlocks I L n old
  along_own n high has =
      let z = ne_eqb n 1 (λ is. absurd (omega (arith, high, is))) in
      let along : Follows I L.home (Some L.index) [] 0 n has.0 old = subst (λ t. Follows I L.home (cond t None (Some L.index)) [] 0 n has.0 old) z has.2.chain in
      record { file = head_of I L.home (Some L.index) [] 0 n has.0 old along; others = has.0; whole = has.2 }

  pub has_then : (n : ℕ) → 3 ≤ n → HasHeaders I L n headers old → HasHeaders K M n headers old
  has_then n high has =
      let one : n ≢ 1 = λ is. absurd (omega (arith, high, is)) in
      let own = along_own n high has in (
        has.0,
        has.1,
        record {
          chain = index.chain_stays image S can g n has.0 old one own.file has.2.chain;
          inside = subst (λ k. All (λ x. x < k) old) (sym g.size) has.2.inside;
        },
      )

  grows_then : (n : ℕ) → 3 ≤ n → HasHeaders I L n headers old → EnterGrows I L n old → EnterGrows K M n old
  grows_then n high has p =
      let one : n ≢ 1 = λ is. absurd (omega (arith, high, is)) in
      let own = along_own n high has in
      let contents = sound.contents_stay image S can g n old one (λ is. absurd (omega (arith, high, is))) own in
      let header = sound.header_stays image S can g n one own.file in
      (p.0, subst (λ c. IsSlot c (mark_at K M n old) p.0) (sym contents) (subst (λ b. IsSlot (contents_of I old) (mark_in (attributes_of b) (length old)) p.0) (sym header) p.1), p.2)

  -- what the request may change of the grown volume it may change
  taking_before : (r : Request) → Wants I L r headers old count → Wants K M r headers old count → (x : ℕ) → TouchedByAllocating (disk K M) r (disk J M) x → TouchedByAllocating (disk I L) r (disk J M) x
  taking_before r wants now x p =
      let same = wants_are_one K M r p.0 headers p.1 old p.2 count p.3 now in
      (headers, old, count, wants, at (subst (λ k. Cases headers k) same.2 (subst (λ hs. Cases hs p.2) same.0 p.4)))
    where
      Cases : List ℕ → ℕ → Type 0
      Cases hs k = IsIndexBitmap M x ⊎ IsStorageBitmap M x ⊎ IsHeaderPlace M (hs ++ allocated_numbers K M hs k) x ⊎ Contains (allocated_blocks K M k) x ⊎ TouchedByIndex (disk K M) (index_blocks K M hs k) x

      Before : Type 0
      Before = IsIndexBitmap L x ⊎ IsStorageBitmap L x ⊎ IsHeaderPlace L (headers ++ allocated_numbers I L headers count) x ⊎ Contains (allocated_blocks I L count) x ⊎ TouchedByIndex (disk I L) X x

      by_place : IsHeaderPlace L (headers ++ allocated_numbers I L headers count) x ⊎ Contains X x → Before
      by_place (inl q) = inr (inr (inl q))
      by_place (inr c) = inr (inr (inr (inr (inl c))))

      at : Cases headers count → Before
      at (inl i) = inl i
      at (inr (inl s)) = inr (inl s)
      at (inr (inr (inl q))) = by_place (header_place_in (headers ++ allocated_numbers I L headers count) x (subst (λ ns. IsHeaderPlace M (headers ++ ns) x) numbers_same q))
      at (inr (inr (inr (inl c)))) = inr (inr (inr (inl (subst (λ l. Contains l x) blocks_same c))))
      at (inr (inr (inr (inr (inl c))))) = absurd (none_empty x (subst (λ l. Contains l x) none_more c))
      at (inr (inr (inr (inr (inr q))))) = absurd (q.0 none_more)

  -- but the new blocks only where headers are made in them
  system_apart : (x : ℕ) → Contains X x → ¬ IsBookkeeping L [] x
  system_apart x c b = by (bookkeeping_held S [] x b)
    where
      by : IsHeldBySystem S x → ⊥
      by (inl p) = index.not_held image S can g 1 p.0 x p.1 c
      by (inr p) = index.not_held image S can g 2 p.0 x p.1 c

  new_untaken : (r : Request) → Wants K M r headers old count → (x : ℕ) → Contains X x → ¬ IsHeaderPlace M (headers ++ allocated_numbers I L headers count) x → ¬ TouchedByAllocating (disk K M) r (disk J M) x
  new_untaken r now x c away p =
      let same = wants_are_one K M r p.0 headers p.1 old p.2 count p.3 now in
      at (subst (λ k. Cases headers k) same.2 (subst (λ hs. Cases hs p.2) same.0 p.4))
    where
      Cases : List ℕ → ℕ → Type 0
      Cases hs k = IsIndexBitmap M x ⊎ IsStorageBitmap M x ⊎ IsHeaderPlace M (hs ++ allocated_numbers K M hs k) x ⊎ Contains (allocated_blocks K M k) x ⊎ TouchedByIndex (disk K M) (index_blocks K M hs k) x

      at : Cases headers count → ⊥
      at (inl i) = system_apart x c (inl i)
      at (inr (inl s)) = system_apart x c (inr (inl s))
      at (inr (inr (inl q))) = away (subst (λ ns. IsHeaderPlace M (headers ++ ns) x) numbers_same q)
      at (inr (inr (inr (inl d)))) = takes.apart_from_taken I K L headers old count image S enough had g x (subst (λ l. Contains l x) blocks_same d) c
      at (inr (inr (inr (inr (inl d))))) = none_empty x (subst (λ l. Contains l x) none_more d)
      at (inr (inr (inr (inr (inr q))))) = q.0 none_more

  -- a block that the growth changes, the request may change
  growth_touched : (r : Request) → Wants I L r headers old count → X ≢ [] → (x : ℕ) → ¬ TouchedByAllocating (disk I L) r (disk J M) x → block_at K x ≡ block_at I x
  growth_touched r wants some x away = g.others x
      (λ s. away (headers, old, count, wants, inr (inl s)))
      (λ p. away (headers, old, count, wants, inr (inr (inr (inr (inr (some, p)))))))
      (λ c. away (headers, old, count, wants, inr (inr (inr (inr (inl c))))))

  zeroed_before : (k : ℕ) → count ≡ k → AreZeroed (disk K M) (disk J M) k → AreZeroed (disk I L) (disk J M) k
  zeroed_before k is all =
      let P : ℕ → Type 0 = λ x. block_at J x ≡ zeros in
      subst (λ n. All P (allocated_blocks I L n)) is (subst (All P) blocks_same (subst (λ n. All P (allocated_blocks K M n)) (sym is) all))

  created_before : (a : Answer) → IsCreatedId (disk K M) (disk J M) a → IsCreatedId (disk I L) (disk J M) a
  created_before (Created id) p =
      let same : allocated_numbers K M [] 0 ≡ allocated_numbers I L [] 0 = ap (take (allocated_count I L [] 0)) (takes.open_numbers_stay I K L headers old count image S enough had g) in
      (p.0, ap (λ l. slice_get l 0) (sym same) ∙ p.1)
  created_before (Extended n) p = p
  created_before (Truncated n) p = p
  created_before Done p = p
  created_before (Entered v) p = p
  created_before (Found id v) p = p
  created_before (Removed id v) p = p
  created_before (Bytes b) p = p
  created_before (Names l) p = p
  created_before (Info s) p = p

  entered_before : (n : ℕ) → 3 ≤ n → (entry : List ℕ) → IsEnteredAt (disk K M) (disk J M) n entry → IsEnteredAt (disk I L) (disk J M) n entry
  entered_before n high entry p =
      let one : n ≢ 1 = λ is. absurd (omega (arith, high, is)) in
      let own : HasBlocks I L n p.old = index.blocks_were image S can g n p.old one p.held.0 in
      let contents = sound.contents_stay image S can g n p.old one (λ is. absurd (omega (arith, high, is))) own in
      let header = sound.header_stays image S can g n one own.file in
      record {
        old = p.old;
        new = p.new;
        slot = p.slot;
        held = (own, p.held.1);
        place = subst (λ c. IsSlot c (mark_at I L n p.old) p.slot) contents (subst (λ b. IsSlot (contents_of K p.old) (mark_in (attributes_of b) (length p.old)) p.slot) header p.place);
        bytes = p.bytes ∙ ap (λ c. written (grown c p.slot) p.slot.at entry) contents;
        mark = subst (λ b. attributes_of (header_at J M n) ≡ (if p.slot.mark == mark_in (attributes_of b) (length p.old) then attributes_of b else marked (attributes_of b) p.slot.mark (length p.new))) header p.mark;
      }

  name_before : (dir : FileId) → 3 ≤ dir.number → (name : RadName) (file : FileId) (a : Answer) → IsNameEntered (disk K M) (disk J M) dir name file a → IsNameEntered (disk I L) (disk J M) dir name file a
  name_before dir high name file (Entered v) p = entered_before dir.number high (entry_bytes file (key_of name v)) p
  name_before dir high name file (Created id) p = p
  name_before dir high name file (Extended n) p = p
  name_before dir high name file (Truncated n) p = p
  name_before dir high name file Done p = p
  name_before dir high name file (Found id v) p = p
  name_before dir high name file (Removed id v) p = p
  name_before dir high name file (Bytes b) p = p
  name_before dir high name file (Names l) p = p
  name_before dir high name file (Info s) p = p

  -- what a request that takes blocks moves and may change, of the grown volume and of the volume
  record IsBehind (r : Request) (a : Answer) : Type 0 where
    touched : (x : ℕ) → Touches (disk K M) r (disk J M) x → Touches (disk I L) r (disk J M) x
    taking : (x : ℕ) → TouchedByAllocating (disk I L) r (disk J M) x → Touches (disk I L) r (disk J M) x
    away : (x : ℕ) → Contains X x → ¬ IsHeaderPlace M (headers ++ allocated_numbers I L headers count) x → ¬ Touches (disk K M) r (disk J M) x
    moved : Untouched → Moves (disk K M) r a (disk J M) → Moves (disk I L) r a (disk J M)

  behind : (r : Request) (a : Answer) → IsNoMap headers → Wants I L r headers old count → IsBehind r a
  behind (Create name version n stamp) a no_map wants = record {
    touched = taking_before (Create name version n stamp) wants wants;
    taking = λ x t. t;
    away = new_untaken (Create name version n stamp) wants;
    moved = λ away m. (
      may_take I L (Create name version n stamp) headers old count wants (disk J M) (taken_before away (m.0.0 headers old count wants)),
      created_before a m.1,
      m.2,
      zeroed_before n wants.2 m.3,
    );
  }
  behind (Extend file n) a no_map wants =
      let now : Wants K M (Extend file n) headers old count = (has_then file.number (no_map file.number wants.0.0 wants.0.1) wants.0, wants.1) in
      record {
        touched = taking_before (Extend file n) wants now;
        taking = λ x t. t;
        away = new_untaken (Extend file n) now;
        moved = λ away m. (
          may_take I L (Extend file n) headers old count wants (disk J M) (taken_before away (m.0.0 headers old count now)),
          zeroed_before n wants.1 m.1,
        );
      }
  behind (Enter dir name version file) a no_map wants =
      let high : 3 ≤ dir.number = no_map dir.number wants.0.0 wants.0.1 in
      let now : Wants K M (Enter dir name version file) headers old count = (has_then dir.number high wants.0, grows_then dir.number high wants.0 wants.1, wants.2) in
      record {
        touched = λ x t. touched_by x now t;
        taking = λ x t. inl t;
        away = λ x c off t. away_by x c off now t;
        moved = λ away m. (
          may_take I L (Enter dir name version file) headers old count wants (disk J M) (taken_before away (m.0.0 headers old count now)),
          (λ none. absurd (none headers old count wants)),
          name_before dir high name file a m.2,
        );
      }
    where
      dir_is_high : 3 ≤ dir.number
      dir_is_high = no_map dir.number wants.0.0 wants.0.1

      touched_by : (x : ℕ) → Wants K M (Enter dir name version file) headers old count → Touches (disk K M) (Enter dir name version file) (disk J M) x → Touches (disk I L) (Enter dir name version file) (disk J M) x
      touched_by x now (inl t) = inl (taking_before (Enter dir name version file) wants now x t)
      touched_by x now (inr (inl p)) = place (header_place_in (dir.number ∷ []) x p)
        where
          place : IsHeaderPlace L (dir.number ∷ []) x ⊎ Contains X x → Touches (disk I L) (Enter dir name version file) (disk J M) x
          place (inl q) = inr (inl q)
          place (inr c) = inl (headers, old, count, wants, inr (inr (inr (inr (inl c)))))
      touched_by x now (inr (inr b)) = held ((index.holds_now image S can g dir.number b.0 x).0 b.1)
        where
          held : Holds I L dir.number b.0 x ⊎ IsNextBlock 1 (length L.index) X dir.number b.0 x → Touches (disk I L) (Enter dir name version file) (disk J M) x
          held (inl h) = inr (inr (b.0, h))
          held (inr p) = let one = p.1 in let high = dir_is_high in absurd (omega (arith, one, high))

      away_by : (x : ℕ) → Contains X x → ¬ IsHeaderPlace M (headers ++ allocated_numbers I L headers count) x → Wants K M (Enter dir name version file) headers old count
          → ¬ Touches (disk K M) (Enter dir name version file) (disk J M) x
      away_by x c off now (inl t) = new_untaken (Enter dir name version file) now x c off t
      away_by x c off now (inr (inl p)) = off (p.0, Contains-append_left headers (allocated_numbers I L headers count) p.0 own, p.2)
        where
          own : Contains headers p.0
          own = by (first_or_later dir.number [] p.0 p.1)
            where
              by : (dir.number ≡ p.0) ⊎ Contains [] p.0 → Contains headers p.0
              by (inl is) = subst (λ l. Contains l p.0) (sym wants.0.1) (subst (Contains (dir.number ∷ wants.0.0)) is (first_in dir.number wants.0.0))
              by (inr none) = absurd (none_empty p.0 none)
      away_by x c off now (inr (inr b)) = held ((index.holds_now image S can g dir.number b.0 x).0 b.1)
        where
          held : Holds I L dir.number b.0 x ⊎ IsNextBlock 1 (length L.index) X dir.number b.0 x → ⊥
          held (inl h) = index.not_held image S can g dir.number b.0 x h c
          held (inr p) = let one = p.1 in let high = dir_is_high in absurd (omega (arith, one, high))
  behind (Truncate file n) a no_map wants = absurd wants
  behind (Delete file) a no_map wants = absurd wants
  behind (LookUp dir name pick) a no_map wants = absurd wants
  behind (Remove dir name pick) a no_map wants = absurd wants
  behind (Read file vbn) a no_map wants = absurd wants
  behind (Write file vbn block) a no_map wants = absurd wants
  behind (Lines dir) a no_map wants = absurd wants
  behind (Stat file) a no_map wants = absurd wants
  behind (SetUser file attributes) a no_map wants = absurd wants

  step_before : (who : Uic) (r : Request) (a : Answer) → IsNoMap headers → Wants I L r headers old count → X ≢ [] → IsStepOf K M who r a J M → IsStepOf I L who r a J M
  step_before who r a no_map wants some step =
      let b = behind r a no_map wants in
      let away : Untouched = λ x c off. step.elsewhere.1 x (b.away x c off) in
      record {
        answered = λ C shown past. step.answered C (sound.shown_now image S can g C shown) (sound.past_now image S can g C past);
        shown = λ C D shown past is. step.shown C D (sound.shown_now image S can g C shown) (sound.past_now image S can g C past) is;
        sound = step.sound;
        enough = none_lacks I L r headers old count wants enough;
        moves = b.moved away step.moves;
        elsewhere = (step.elsewhere.0 ∙ g.size, λ x off. step.elsewhere.1 x (λ t. off (b.touched x t)) ∙ growth_touched r wants some x (λ t. off (b.taking x t)));
      }

-- a file for which blocks are wanted is new, or none of the two maps
pub had_these : (I : List (List ℕ)) (L : VolumeLayout) (r : Request) (headers old : List ℕ) (count : ℕ) → IsNoMap headers → Wants I L r headers old count → HadThese I L headers old
had_these I L (Create name version n stamp) headers old count no_map wants = inl (wants.0, wants.1)
had_these I L (Extend file n) headers old count no_map wants = inr (file.number, no_map file.number wants.0.0 wants.0.1, wants.0)
had_these I L (Enter dir name version file) headers old count no_map wants = inr (dir.number, no_map dir.number wants.0.0 wants.0.1, wants.0)
had_these I L (Truncate file n) headers old count no_map wants = absurd wants
had_these I L (Delete file) headers old count no_map wants = absurd wants
had_these I L (LookUp dir name pick) headers old count no_map wants = absurd wants
had_these I L (Remove dir name pick) headers old count no_map wants = absurd wants
had_these I L (Read file vbn) headers old count no_map wants = absurd wants
had_these I L (Write file vbn block) headers old count no_map wants = absurd wants
had_these I L (Lines dir) headers old count no_map wants = absurd wants
had_these I L (Stat file) headers old count no_map wants = absurd wants
had_these I L (SetUser file attributes) headers old count no_map wants = absurd wants

-- the laws
pub wants_stay : WantsStay
wants_stay I K L r headers old count f =
    let had = had_these I L r headers old count f.file f.wants in
    let can = can_grow I L f.sound headers count f.enough in
    subst (WantsTheSame I L headers count K) (sym (is_longer L (index_blocks I L headers count) can.fits)) (takes.wants_the_same I K L headers old count f.image f.sound f.enough had f.grows)

pub step_behind_growth : StepBehindGrowth
step_behind_growth I K J L who r a headers old count f step =
    let had = had_these I L r headers old count f.file f.wants in
    let can = can_grow I L f.sound headers count f.enough in
    let same = is_longer L (index_blocks I L headers count) can.fits in
    subst (λ N. IsStepOf I L who r a J N) (sym same)
    (step_before I K J L headers old count f.image f.sound f.enough had f.grows who r a f.file f.wants f.some (subst (λ N. IsStepOf K N who r a J N) same step))
