-- The five names of the master directory are good and distinct.
use Rattle.std.proofs.Common.{◌≡◌, ◌≢◌, ℕ, zero, suc, ◌<◌, true, ltb, List, [], ◌∷◌, refl, sym, ap, ◌∙◌, arith}
use Rattle.std.proofs.lemmas.Bool.{agree_below_at, ltb-true, leb-true, eqb-true, and_parts}
use Rattle.std.specs.Prelude.{◌==◌, slice_index, if◌then◌else◌}
use Rattle.ods_base.specs.Block.{zeros}
use Rattle.ods_directory.specs.Entry.{Entry, IsGoodEntry, is_good, entry_at}
use Rattle.ods_directory.specs.Names.{IsDirectory}
use Rattle.ods_directory.proofs.Used.{from_positions}
use Rattle.ods_init.specs.Blocks.{master_block}

good_of_test : (e : Entry) → is_good e ≡ true → IsGoodEntry e
good_of_test e h =
    let seven = and_parts _ _ h in
    let six = and_parts _ _ seven.0 in
    let five = and_parts _ _ six.0 in
    let four = and_parts _ _ five.0 in
    let three = and_parts _ _ four.0 in
    let two = and_parts _ _ three.0 in
    record {
      words = words two.0 two.1 three.1 four.1;
      some = leb-true _ _ five.1;
      most = leb-true _ _ six.1;
      volume = eqb-true _ _ seven.1;
    }
  where
    words : ltb (slice_index e.key 0) 64000 ≡ true → ltb (slice_index e.key 1) 64000 ≡ true → ltb (slice_index e.key 2) 64000 ≡ true → ltb (slice_index e.key 3) 64000 ≡ true → (i : ℕ) → i < 4 → slice_index e.key i < 64000
    words a b c d zero below = ltb-true _ _ a
    words a b c d (suc zero) below = ltb-true _ _ b
    words a b c d (suc (suc zero)) below = ltb-true _ _ c
    words a b c d (suc (suc (suc zero))) below = ltb-true _ _ d
    words a b c d (suc (suc (suc (suc i)))) below = absurd (omega arith)

-- the one block of the directory
abbrev blocks : List (List ℕ)
blocks = master_block ∷ []

-- which of the five names begins with this word
abbrev number : ℕ → ℕ
number w = if w == 14964 then 0 else if w == 3580 then 1 else if w == 3244 then 2 else if w == 49230 then 3 else 4

abbrev key_at : ℕ → List ℕ
key_at k = (entry_at blocks k).key

good : (k : ℕ) → k < 5 → IsGoodEntry (entry_at blocks k)
unfolding zeros
good k below = good_of_test (entry_at blocks k) (agree_below_at (λ i. is_good (entry_at blocks i)) (λ _. true) 5 k refl below)

numbered : (k : ℕ) → k < 5 → number (slice_index (key_at k) 0) ≡ k
unfolding zeros
numbered k below = eqb-true _ _ (agree_below_at (λ i. number (slice_index (key_at i) 0) == i) (λ _. true) 5 k refl below)

apart : (i j : ℕ) → i < j → j < 5 → key_at i ≢ key_at j
apart i j below last same =
    let e : i ≡ j = sym (numbered i (omega arith)) ∙ ap (λ key. number (slice_index key 0)) same ∙ numbered j last in
    absurd (omega arith)

-- the master directory is one
pub master_is_directory : IsDirectory (master_block ∷ []) 80
master_is_directory = from_positions blocks 80 (record { good = λ k below used. good k below; apart = λ i j from below last used_i used_j. apart i j below last })
