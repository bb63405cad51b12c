-- What a file takes was free: no file has one of its new headers, and no other file has one of its old ones.
use Rattle.std.proofs.Common.{◌≡◌, ◌≢◌, ℕ, zero, suc, refl, sym, subst, true, false, IsTrue, List, [], ◌∷◌, ◌++◌, length, get_or, Option, Some, arith, inl, inr}
use Rattle.std.specs.Prelude.{◌⊎◌, ◌==◌}
use Rattle.std.specs.List.{Contains, range_with_len}
use Rattle.std.proofs.lemmas.Bool.{both_ways, cases_eq, eq-eqb, ne_eqb}
use Rattle.std.proofs.lemmas.List.Elements.{All-contains, All-take, Contains-append_cases, Contains-append_right, Contains-get_or, filter_passes}
use Rattle.std.proofs.lemmas.List.Folds.{list_any_at, list_any_none}
use Rattle.std.proofs.lemmas.Map.Made.{Contains-tail}
use Rattle.ods_header.specs.declared.home.Home.{Home}
use Rattle.ods_header.specs.Header.{blocks_of, segment_of}
use Rattle.ods_space.specs.Layout.{VolumeLayout, header_by, is_in_use}
use Rattle.ods_space.specs.Chain.{Follows, IsChain, index_for, known}
use Rattle.ods_space.specs.Files.{IsFile, HasBlocks, IsWhole}
use Rattle.ods_space.specs.Free.{free_blocks, is_free_block}
use Rattle.ods_alloc.specs.Extend.{is_one_of}
use Rattle.ods_alloc.proofs.FreeTests.{free_number}
use Rattle.ods_mount.specs.Sound.{IsSoundBy}
use Rattle.ods_state.specs.Wants.{allocated_blocks, allocated_numbers}
use Rattle.ods_space.proofs.Chains.{head_of}
use Rattle.ods_state.specs.Growth.{HadHeaders, IsTaking, all_headers}
use Rattle.ods_state.proofs.OpenNumbers.{allocated_number_is_free}

-- an element of a list passes its test, and anything else does not
pub one_of : (xs : List ℕ) (x : ℕ) → Contains xs x → is_one_of xs x ≡ true
one_of xs x c = list_any_at (λ y. y == x) xs c.0 x c.1 (eq-eqb (get_or xs c.0 x) x c.2)

pub none_of : (xs : List ℕ) (x : ℕ) → ¬ Contains xs x → is_one_of xs x ≡ false
none_of xs x not_in = list_any_none (λ y. y == x) xs (λ k d low. ne_eqb (get_or xs k d) x (λ e. not_in (subst (Contains xs) e (Contains-get_or xs k d low))))

pub none_empty : (x : ℕ) → ¬ Contains [] x
none_empty x c = let low = c.1 in absurd (omega arith)

pub contains_or_not : (xs : List ℕ) (x : ℕ) → Contains xs x ⊎ (¬ Contains xs x)
contains_or_not [] x = inr (none_empty x)
contains_or_not (y ∷ ys) x = by (cases_eq y x) (contains_or_not ys x)
  where
    by : (y ≡ x) ⊎ (y ≢ x) → Contains ys x ⊎ (¬ Contains ys x) → Contains (y ∷ ys) x ⊎ (¬ Contains (y ∷ ys) x)
    by (inl e) rest = inl (zero, omega arith, e)
    by (inr ne) (inl c) = let low = c.1 in inl (suc c.0, omega arith, c.2)
    by (inr ne) (inr none) = inr (λ c. none (Contains-tail y ys x ne c))

-- each header of a chain is in use
pub chain_in_use : (I : List (List ℕ)) (h : Home) (index : Option (List ℕ)) (front : List ℕ) (k n : ℕ) (ms all : List ℕ) → Follows I h index front k n ms all → (x : ℕ) → Contains (n ∷ ms) x → IsTrue (is_in_use I h x)
chain_in_use I h index front k n [] all f x c = by (cases_eq n x)
  where
    by : (n ≡ x) ⊎ (n ≢ x) → IsTrue (is_in_use I h x)
    by (inl e) = subst (λ y. IsTrue (is_in_use I h y)) e f.0.in_use
    by (inr ne) = absurd (none_empty x (Contains-tail n [] x ne c))
chain_in_use I h index front k n (m ∷ ms) all f x c = by (chain_in_use I h index (front ++ blocks_of (header_by I h (known index front) n)) (suc k) m ms all f.4 x) (cases_eq n x)
  where
    by : (Contains (m ∷ ms) x → IsTrue (is_in_use I h x)) → (n ≡ x) ⊎ (n ≢ x) → IsTrue (is_in_use I h x)
    by rest (inl e) = subst (λ y. IsTrue (is_in_use I h y)) e f.0.in_use
    by rest (inr ne) = rest (Contains-tail n (m ∷ ms) x ne c)

-- each but the first is a later segment
pub later_segment : (I : List (List ℕ)) (h : Home) (index front : List ℕ) (k n : ℕ) (ms all : List ℕ) → Follows I h (Some index) front k n ms all
    → (x : ℕ) → Contains ms x → (j : ℕ) × (segment_of (header_by I h index x) ≡ suc j)
later_segment I h index front k n [] all f x c = absurd (none_empty x c)
later_segment I h index front k n (m ∷ ms) all f x c = by (later_segment I h index (front ++ blocks_of (header_by I h index n)) (suc k) m ms all f.4 x) (cases_eq m x)
  where
    by : (Contains ms x → (j : ℕ) × (segment_of (header_by I h index x) ≡ suc j)) → (m ≡ x) ⊎ (m ≢ x) → (j : ℕ) × (segment_of (header_by I h index x) ≡ suc j)
    by rest (inl e) =
        (k, subst (λ y. segment_of (header_by I h index y) ≡ suc k) e (head_of I h (Some index) (front ++ blocks_of (header_by I h index n)) (suc k) m ms all f.4).segment)
    by rest (inr ne) = rest (Contains-tail m ms x ne c)

-- what is taken was free
pub allocated_block_is_free : (I : List (List ℕ)) (L : VolumeLayout) (count x : ℕ) → Contains (allocated_blocks I L count) x → IsTrue (is_free_block I L x)
unfolding free_blocks
allocated_block_is_free I L count x c =
    All-contains (λ y. is_free_block I L y ≡ true) (allocated_blocks I L count) x
    (All-take (λ y. is_free_block I L y ≡ true) count (free_blocks I L) (filter_passes (is_free_block I L) (range_with_len 0 (length I)))) c

module _ {I : List (List ℕ)} {L : VolumeLayout} {n : ℕ} {headers old : List ℕ} {count : ℕ} {numbers : List ℕ} (S : IsSoundBy I L) (t : IsTaking I L n headers old count numbers) where
  -- all headers are the old ones and those that are taken
  pub old_or_new : (m : ℕ) → Contains (all_headers n headers numbers) m → Contains headers m ⊎ Contains (allocated_numbers I L headers count) m
  old_or_new m c = Contains-append_cases headers (allocated_numbers I L headers count) m (subst (λ l. Contains l m) t.all c)

  pub new_is_one : (m : ℕ) → Contains (allocated_numbers I L headers count) m → Contains (all_headers n headers numbers) m
  new_is_one m c = subst (λ l. Contains l m) (sym t.all) (Contains-append_right headers (allocated_numbers I L headers count) m c)

  pub first_is_one : Contains (all_headers n headers numbers) n
  first_is_one = (zero, omega arith, refl)

  pub new_unused : (m : ℕ) → Contains (allocated_numbers I L headers count) m → is_in_use I L.home m ≡ false
  new_unused m c = (free_number I L m (allocated_number_is_free I L headers count m t.no_growth c)).unused

  -- a file that has a header had it in a chain
  abbrev HadIt : ℕ → Type 0
  HadIt m = IsFile I L n × (others : List ℕ) × IsWhole I L n others old × Contains (n ∷ others) m

  pub had_it : (m : ℕ) → Contains headers m → HadIt m
  had_it m c = by t.before
    where
      by : HadHeaders I L n headers old → HadIt m
      by (inl p) = (p.0, p.1.0, p.1.2, subst (λ l. Contains l m) p.1.1 c)
      by (inr p) = absurd (none_empty m (subst (λ l. Contains l m) p.0 c))

  pub old_in_use : (m : ℕ) → Contains headers m → IsTrue (is_in_use I L.home m)
  old_in_use m c = let p = had_it m c in chain_in_use I L.home (index_for L n) [] 0 n p.1 old p.2.chain m p.3

  -- another file has none of these headers
  pub others_apart : (m : ℕ) (ms bs : List ℕ) → IsFile I L m → IsChain I L m ms bs → ¬ Contains (all_headers n headers numbers) m → (x : ℕ) → Contains (m ∷ ms) x → ¬ Contains (all_headers n headers numbers) x
  others_apart m ms bs f chain none x c h = by (old_or_new x h)
    where
      by : Contains headers x ⊎ Contains (allocated_numbers I L headers count) x → ⊥
      by (inl before) = let p = had_it x before in none (subst (Contains (all_headers n headers numbers)) (sym (S.apart m n ms p.1 bs old x f p.0 chain p.2.chain c p.3)) first_is_one)
      by (inr taken) = both_ways (is_in_use I L.home x) (new_unused x taken) (chain_in_use I L.home (index_for L m) [] 0 m ms bs chain x c)

  pub file_is_far : (m : ℕ) → IsFile I L m → m ≢ n → ¬ Contains (all_headers n headers numbers) m
  file_is_far m f ne h = by (old_or_new m h)
    where
      by : Contains headers m ⊎ Contains (allocated_numbers I L headers count) m → ⊥
      by (inl before) =
          let p = had_it m before in
          let own = (S.chains m f).1 in
          ne (S.apart m n own.others p.1 (S.chains m f).0 old m f p.0 own.whole.chain p.2.chain (zero, omega arith, refl) p.3)
      by (inr taken) = both_ways (is_in_use I L.home m) (new_unused m taken) f.in_use

  -- a new file was none
  pub new_is_no_file : headers ≡ [] → ¬ IsFile I L n
  new_is_no_file none f = by (old_or_new n first_is_one)
    where
      by : Contains headers n ⊎ Contains (allocated_numbers I L headers count) n → ⊥
      by (inl before) = none_empty n (subst (λ l. Contains l n) none before)
      by (inr taken) = both_ways (is_in_use I L.home n) (new_unused n taken) f.in_use

  pub had_blocks : IsFile I L n → HasBlocks I L n old
  had_blocks f = by t.before
    where
      by : HadHeaders I L n headers old → HasBlocks I L n old
      by (inl p) = record { file = f; others = p.1.0; whole = p.1.2 }
      by (inr p) = absurd (new_is_no_file p.0 f)
