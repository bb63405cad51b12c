-- What is known of a deleted file by what is kept of its headers.
use Rattle.std.proofs.Common.{◌≡◌, ◌≢◌, inl, inr, ℕ, ◌+◌, ◌<◌, Bool, not, sym, ap, subst, List, [], ◌∷◌, ◌++◌, length, Option, Some, None, arith, ◌∙◌}
use Rattle.std.specs.Prelude.{IfSome, slice_get}
use Rattle.std.specs.List.{Contains, filter}
use Rattle.std.proofs.lemmas.Grind.{flat_map-append}
use Rattle.std.proofs.lemmas.Bool.{cases_lt}
use Rattle.std.proofs.lemmas.List.{append-nil, length-append, length_push, get_or_append_left, get_or_push, nil_from_length}
use Rattle.std.proofs.lemmas.Option.{slice_get-get_or, get_or_from_slice_get}
use Rattle.std.proofs.lemmas.List.Elements.{filter-append, Contains-append_left, Contains-append_right, Contains-append_cases}
use Rattle.ods_header.specs.Header.{blocks_of, segment_of}
use Rattle.ods_space.specs.Free.{is_free_block}
use Rattle.ods_space.specs.Layout.{VolumeLayout}
use Rattle.ods_remains.specs.Chains.{named_at}
use Rattle.ods_remains.specs.Deleted.{IsDeleted, IsFormerChain, LeadsOn, counted, former, used_again}
use Rattle.ods_remains.specs.Shared.{IsSharer, IsSharerAt}
use Rattle.ods_remains.specs.Summary.{IsLeft, IsSharerOrSelf}
use Rattle.ods_remains.specs.declared.left.Left.{Left}
use Rattle.ods_remains.proofs.FileFronts.{only_one, chain_deleted}

-- the sum of two numbers, each as far as it counts
counted_sum : (a b c d e : ℕ) → a ≡ counted c → b ≡ counted d → e ≡ counted (a + b) → e ≡ counted (c + d)
counted_sum a b c d e one other sum = omega (arith, one, other, sum)

module _ (I : List (List ℕ)) (L : VolumeLayout) where
  abbrev names : List ℕ → List ℕ
  names headers = named_at (former I L) headers

  named_more : (headers : List ℕ) (h : ℕ) → names (headers ++ h ∷ []) ≡ names headers ++ blocks_of (former I L h)
  named_more headers h = flat_map-append (λ at. blocks_of (former I L at)) headers (h ∷ []) ∙ ap (λ xs. names headers ++ xs) (append-nil (blocks_of (former I L h)))

  used_more : (xs ys : List ℕ) → used_again I L (xs ++ ys) ≡ used_again I L xs + used_again I L ys
  used_more xs ys =
      let test : ℕ → Bool = λ lbn. not (is_free_block I L lbn) in
      ap length (filter-append test xs ys) ∙ length-append (filter test xs) (filter test ys)

  -- the blocks of one header more
  pub blocks_on : (headers : List ℕ) (h total one sum : ℕ) → total ≡ counted (length (names headers)) → one ≡ counted (length (blocks_of (former I L h))) → sum ≡ counted (total + one)
      → sum ≡ counted (length (names (headers ++ h ∷ [])))
  blocks_on headers h total one sum so here is =
      let all : length (names (headers ++ h ∷ [])) ≡ length (names headers) + length (blocks_of (former I L h)) = ap length (named_more headers h) ∙ length-append (names headers) (blocks_of (former I L h)) in
      counted_sum total one (length (names headers)) (length (blocks_of (former I L h))) sum so here is ∙ ap counted (sym all)

  pub used_on : (headers : List ℕ) (h total one sum : ℕ) → total ≡ counted (used_again I L (names headers)) → one ≡ counted (used_again I L (blocks_of (former I L h))) → sum ≡ counted (total + one)
      → sum ≡ counted (used_again I L (names (headers ++ h ∷ [])))
  used_on headers h total one sum so here is =
      let all : used_again I L (names (headers ++ h ∷ [])) ≡ used_again I L (names headers) + used_again I L (blocks_of (former I L h)) =
      ap (used_again I L) (named_more headers h) ∙ used_more (names headers) (blocks_of (former I L h)) in
      counted_sum total one (used_again I L (names headers)) (used_again I L (blocks_of (former I L h))) sum so here is ∙ ap counted (sym all)

  named_has : (headers : List ℕ) (h lbn : ℕ) → Contains headers h → Contains (blocks_of (former I L h)) lbn → Contains (names headers) lbn
  named_has [] h lbn has there = let none = has.1 in absurd (omega (arith, none))
  named_has (x ∷ xs) h lbn has there = elim (Contains-append_cases (x ∷ []) xs h has) [
    | inl one ↦ Contains-append_left (blocks_of (former I L x)) (names xs) lbn (subst (λ k. Contains (blocks_of (former I L k)) lbn) (only_one x h one) there)
    | inr more ↦ Contains-append_right (blocks_of (former I L x)) (names xs) lbn (named_has xs h lbn more there)
  ]

  -- another file that names a block of a header names one of the file
  pub sharer_found : (n : ℕ) (headers : List ℕ) (h m : ℕ) → Contains headers h → IsSharer I L n (blocks_of (former I L h)) (Some m) → IsSharerOrSelf I L n (names headers) (Some m)
  sharer_found n headers h m has is = inl (is.0, is.1, named_has headers h is.1 has is.2, is.3)

  -- another file that names one block of a header shares it
  pub first_shared : (n h lbn : ℕ) (which : Option ℕ) → Contains (blocks_of (former I L h)) lbn → IsSharerAt I L n lbn which → IfSome which (λ m. IsSharer I L n (blocks_of (former I L h)) (Some m))
  first_shared n h lbn None has is = tt
  first_shared n h lbn (Some m) has is = (is.0, lbn, has, is.1)

  -- no other file names a block of the headers so far, and none one of this header
  pub none_on : (n : ℕ) (headers : List ℕ) (h : ℕ) → IsSharer I L n (names headers) None → IsSharer I L n (blocks_of (former I L h)) None → IsSharer I L n (names (headers ++ h ∷ [])) None
  none_on n headers h so here m lbn has it = elim (Contains-append_cases (names headers) (blocks_of (former I L h)) lbn (subst (λ xs. Contains xs lbn) (named_more headers h) has)) [
    | inl before ↦ so m lbn before it
    | inr last ↦ here m lbn last it
  ]

  pub named_on : (headers named blocks new : List ℕ) (h : ℕ) → named ≡ names headers → blocks ≡ blocks_of (former I L h) → new ≡ named ++ blocks → new ≡ names (headers ++ h ∷ [])
  named_on headers named blocks new h so here is = is ∙ ap (λ xs. xs ++ blocks) so ∙ ap (λ xs. names headers ++ xs) here ∙ sym (named_more headers h)

  -- what is kept of a header says which one is next, and whether it names blocks
  pub no_next : (n : ℕ) (l : Left) → IsLeft I L n l → l.next ≡ 0 → (c : ℕ) → ¬ LeadsOn I L n c
  no_next n l so none = elim so.onward [
    | inl ends ↦ ends.1
    | inr on ↦ let low = on.0.there.low in absurd (omega (arith, low, none))
  ]

  pub has_next : (n : ℕ) (l : Left) → IsLeft I L n l → l.next ≢ 0 → LeadsOn I L n l.next × (segment_of (former I L l.next) < 256)
  has_next n l so some = elim so.onward [
    | inl ends ↦ absurd (some ends.0)
    | inr on ↦ on
  ]

  pub names_none : (n : ℕ) (l : Left) → IsLeft I L n l → l.blocks ≡ 0 → blocks_of (former I L n) ≡ []
  names_none n l so none = let many = so.blocks in nil_from_length (blocks_of (former I L n)) (omega (arith, many, none))

  pub names_first : (n blocks first : ℕ) → blocks ≡ counted (length (blocks_of (former I L n))) → (length (blocks_of (former I L n)) ≢ 0 → Contains (blocks_of (former I L n)) first)
      → blocks ≢ 0 → Contains (blocks_of (former I L n)) first
  names_first n blocks first many has some = has (λ none. some (omega (arith, many, none)))

  -- what is kept of one header more
  pub left_on : (all : List Left) (k : ℕ) (l : Left) (new : List Left) → length all ≡ k → ((n : ℕ) → n < k → IsDeleted I L n → (one : Left) × (slice_get all n ≡ Some one) × IsLeft I L n one)
      → new ≡ all ++ l ∷ [] → (IsDeleted I L k → IsLeft I L k l)
      → (length new ≡ k + 1) × ((n : ℕ) → n < k + 1 → IsDeleted I L n → (one : Left) × (slice_get new n ≡ Some one) × IsLeft I L n one)
  left_on all k l new size so is here = (
    ap length is ∙ length_push all l ∙ ap (λ m. m + 1) size,
    λ n low deleted. elim (cases_lt n k) [
      | inl less ↦
          let was = so n less deleted in
          let inside : n < length all = omega (arith, less, size) in
          let within : n < length (all ++ l ∷ []) = let more = length_push all l in omega (arith, inside, more) in
          let at : slice_get (all ++ l ∷ []) n ≡ Some was.0 = slice_get-get_or (all ++ l ∷ []) n l within ∙ ap Some (get_or_append_left all (l ∷ []) l n inside ∙ get_or_from_slice_get all n was.0 l was.1) in
          (was.0, subst (λ xs. slice_get xs n ≡ Some was.0) (sym is) at, was.2)
      | inr more ↦
          let same : n ≡ k = omega (arith, low, more) in
          let within : n < length (all ++ l ∷ []) = let all_size = length_push all l in omega (arith, same, size, all_size) in
          let at : slice_get (all ++ l ∷ []) n ≡ Some l = slice_get-get_or (all ++ l ∷ []) n l within ∙ ap Some (get_or_push all l l n (size ∙ sym same)) in
          (l, subst (λ xs. slice_get xs n ≡ Some l) (sym is) at, subst (λ m. IsLeft I L m l) (sym same) (here (subst (IsDeleted I L) same deleted)))
    ],
  )

  -- a file that shares blocks is a deleted one
  pub sharer_deleted : (n : ℕ) (blocks : List ℕ) (sharer : Option ℕ) → IsDeleted I L n → IsSharerOrSelf I L n blocks sharer → IfSome sharer (IsDeleted I L)
  sharer_deleted n blocks None deleted so = tt
  sharer_deleted n blocks (Some m) deleted (inl other) = other.3.0.0
  sharer_deleted n blocks (Some m) deleted (inr self) = subst (IsDeleted I L) (sym self.0) deleted

  -- the headers of a chain are deleted ones
  pub all_deleted : (n : ℕ) (numbers named : List ℕ) (cut : Bool) → IsFormerChain I L n numbers named cut → (h : ℕ) → Contains numbers h → IsDeleted I L h
  all_deleted n numbers named cut is h has = elim (Contains-append_cases (n ∷ []) is.others h (subst (λ xs. Contains xs h) is.headers has)) [
    | inl one ↦ subst (IsDeleted I L) (sym (only_one n h one)) is.deleted.0
    | inr more ↦ chain_deleted I L n is.others cut is.chain h more
  ]
