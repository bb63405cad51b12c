-- The LBNs that keys have: those of all candidates, and those of first headers.
use Rattle.std.proofs.Common.{◌≡◌, ℕ, ◌/◌, ◌%◌, ◌<◌, true, refl, sym, ap, subst, List, [], ◌∷◌, map, get_or, arith, ◌∙◌}
use Rattle.std.specs.List.{All, Contains, filter}
use Rattle.std.specs.List.Sorted.{IsStrictlyIncreasing}
use Rattle.std.proofs.lemmas.Bool.{eqb-true, eq-eqb}
use Rattle.std.proofs.lemmas.List.{get_or-map, length-map}
use Rattle.std.proofs.lemmas.List.Elements.{All-contains, All-contains_itself, All-filter, All-map, All-head, All-tail, filter_passes}
use Rattle.std.proofs.lemmas.List.Kept.{IsStrictlyIncreasing-filter}
use Rattle.ods_base.proofs.Filters.{contains_filter}
use Rattle.ods_base.specs.Image.{IsImage, block_at}
use Rattle.ods_header.specs.Header.{segment_of}
use Rattle.ods_remains.specs.Candidates.{HasCandidate, HasFirst}
use Rattle.ods_remains.specs.Keys.{key_at, lbn_in, is_first_key, IsIndexOf}
use Rattle.ods_remains.specs.Scanned.{AreHeaders}
use Rattle.ods_remains.proofs.Going.{low_lbn, segment_small}

contains_map : (f : ℕ → ℕ) (xs : List ℕ) (x : ℕ) → Contains xs x → Contains (map f xs) (f x)
contains_map f xs x has = (has.0, subst (λ n. has.0 < n) (sym (length-map xs f)) has.1, get_or-map f xs has.0 x (f x) has.1 ∙ ap f has.2)

module _ (I : List (List ℕ)) (image : IsImage I) (keys : List ℕ) (index : IsIndexOf I keys) where
  -- a candidate's key has its LBN, and says whether it is a first one
  lbn_of_key : (lbn : ℕ) → HasCandidate I lbn → lbn_in (key_at I lbn) ≡ lbn
  lbn_of_key lbn there = let low = low_lbn I image lbn there in omega (arith, low)

  segment_of_key : (lbn : ℕ) → HasCandidate I lbn → key_at I lbn / 1048576 % 256 ≡ segment_of (block_at I lbn)
  segment_of_key lbn there = let low = low_lbn I image lbn there in let small = segment_small I image lbn there in omega (arith, low, small)

  -- a key that is there is that of a candidate at its LBN
  key_of_lbn : (key : ℕ) → Contains keys key → HasCandidate I (lbn_in key) × (key_at I (lbn_in key) ≡ key)
  key_of_lbn key has =
      let of = index.only key has in
      let same : lbn_in key ≡ of.0 = ap lbn_in of.2 ∙ lbn_of_key of.0 of.1 in
      (subst (HasCandidate I) (sym same) of.1, ap (key_at I) same ∙ sym of.2)

  -- keys that are there come back from their LBNs
  keys_back : (ks : List ℕ) → All (Contains keys) ks → map (key_at I) (map lbn_in ks) ≡ ks
  keys_back [] has = refl
  keys_back (k ∷ ks) has = ap (λ x. x ∷ map (key_at I) (map lbn_in ks)) ((key_of_lbn k (All-head (Contains keys) k ks has)).1) ∙ ap (λ xs. k ∷ xs) (keys_back ks (All-tail (Contains keys) k ks has))

  pub all_headers : AreHeaders I (HasCandidate I) (map lbn_in keys)
  all_headers = record {
    only = λ lbn has. All-contains (HasCandidate I) (map lbn_in keys) lbn (All-map (HasCandidate I) lbn_in keys (λ k d low. (key_of_lbn (get_or keys k d) (All-contains_itself keys k d low)).0)) has;
    all = λ lbn there. subst (Contains (map lbn_in keys)) (lbn_of_key lbn there) (contains_map lbn_in keys (key_at I lbn) (index.all lbn there));
    order = subst IsStrictlyIncreasing (sym (keys_back keys (All-contains_itself keys))) index.rising;
  }

  -- a first one's key says so
  pub first_headers : AreHeaders I (HasFirst I) (map lbn_in (filter is_first_key keys))
  first_headers =
      let firsts = filter is_first_key keys in
      let there : All (Contains keys) firsts = All-filter is_first_key (Contains keys) keys (All-contains_itself keys) in
      let pass : All (λ key. is_first_key key ≡ true) firsts = filter_passes is_first_key keys in
      let first : (key : ℕ) → Contains keys key → is_first_key key ≡ true → HasFirst I (lbn_in key) = λ key has passes.
      let of = key_of_lbn key has in
      (of.0, sym (segment_of_key (lbn_in key) of.0) ∙ ap (λ k. k / 1048576 % 256) of.1 ∙ eqb-true (key / 1048576 % 256) 0 passes) in
      record {
        only = λ lbn has. All-contains (HasFirst I) (map lbn_in firsts) lbn (All-map (HasFirst I) lbn_in firsts (λ k d low. first (get_or firsts k d) (there k d low) (pass k d low))) has;
        all = λ lbn is. subst (Contains (map lbn_in firsts)) (lbn_of_key lbn is.0)
            (contains_map lbn_in firsts (key_at I lbn) (contains_filter is_first_key keys (key_at I lbn) (index.all lbn is.0) (eq-eqb (key_at I lbn / 1048576 % 256) 0 (segment_of_key lbn is.0 ∙ is.1))));
        order = subst IsStrictlyIncreasing (sym (keys_back firsts there)) (IsStrictlyIncreasing-filter is_first_key keys index.rising);
      }
