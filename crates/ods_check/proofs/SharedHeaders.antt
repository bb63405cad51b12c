-- Headers that chains of two files have.
use Rattle.std.proofs.Common.{◌≡◌, ◌≢◌, ◌⊎◌, ℕ, ◌+◌, ◌<◌, true, false, List, [], ◌∷◌, ◌++◌, length, slice_get, Some, inl, inr, sym, ap, ◌∙◌, subst, arith}
use Rattle.std.proofs.lemmas.Bool.{cases_lt, cases_eq}
use Rattle.std.proofs.lemmas.List.Elements.{All-nil, All-cons, All-append}
use Rattle.std.proofs.lemmas.Option.{slice_get-get_or, slice_get_within}
use Rattle.std.specs.List.{All, Contains}
use Rattle.ods_base.specs.Image.{IsImage}
use Rattle.ods_space.specs.Layout.{VolumeLayout}
use Rattle.ods_space.specs.Chain.{IsChain, headers_of, numbers_of}
use Rattle.ods_space.specs.Files.{IsFile, IsLayoutOf}
use Rattle.ods_space.proofs.Surveyed.{file_of_chain}
use Rattle.ods_space.proofs.Wholes.{chain_seen}
use Rattle.ods_space.proofs.Parts.{contains_at}
use Rattle.ods_mount.specs.Checks.{HasHeader}
use Rattle.ods_mount.specs.Faults.{SharesHeader}
use Rattle.ods_mount.specs.Tables.{has, IsThere}
use Rattle.ods_mount.proofs.Holders.{file_small}
use Rattle.ods_check.specs.Lists.{AreDistinct}
use Rattle.ods_check.specs.Sets.{IsSetOf}
use Rattle.ods_check.specs.Findings.{HasAsHeader}
use Rattle.ods_check.specs.Marks.{IsFirstIn, AreHeaders, IsOfTwo}
use Rattle.ods_check.proofs.Noting.{IsOfFiles, set_as}

-- a list has what it has at some place
pub at_of_contains : (xs : List ℕ) (x : ℕ) → Contains xs x → (i : ℕ) × (slice_get xs i ≡ Some x)
at_of_contains xs x (k, within, found) = (k, subst (λ (y : ℕ). slice_get xs k ≡ Some y) found (slice_get-get_or xs k x within))

-- the numbers of the headers of a chain are those of its headers, each once
module _ (I : List (List ℕ)) (L : VolumeLayout) (n : ℕ) (others blocks xs : List ℕ) (image : IsImage I) (layout : IsLayoutOf I L) (chain : IsChain I L n others blocks) (is : xs ≡ numbers_of (headers_of I L n)) where
  same_numbers : (ns bs : List ℕ) → IsChain I L n ns bs → xs ≡ n ∷ ns
  same_numbers ns bs goes = is ∙ (chain_seen I L n ns bs image layout goes).numbers

  pub chain_headers_are : AreHeaders I L n xs
  chain_headers_are j x = (
    λ at.
        let P : List ℕ → Type 0 = λ ys. slice_get ys j ≡ Some x in
        record { file = file_of_chain I L n others blocks (record { home = layout.home; index = layout.index }) chain; others = others; blocks = blocks; chain = chain; named = subst P (same_numbers others blocks chain) at },
    λ h. let P : List ℕ → Type 0 = λ ys. slice_get ys j ≡ Some x in subst P (sym (same_numbers h.others h.blocks h.chain)) h.named,
  )

  pub chain_headers_once : AreDistinct xs
  chain_headers_once i j x at_i at_j =
      let seen = chain_seen I L n others blocks image layout chain in
      let P : ℕ → List ℕ → Type 0 = λ k ys. slice_get ys k ≡ Some x in
      let same = same_numbers others blocks chain in
      sym (seen.segment i x (subst (P i) same at_i)) ∙ seen.segment j x (subst (P j) same at_j)

-- a number that has no chain has no headers
pub no_headers : (I : List (List ℕ)) (L : VolumeLayout) (n : ℕ) (xs : List ℕ) → xs ≡ [] → ((ns bs : List ℕ) → ¬ IsChain I L n ns bs) → AreHeaders I L n xs
no_headers I L n xs empty none j x = (
  λ at. absurd (let within = slice_get_within xs j x at in let size = ap length empty in omega arith),
  λ h. absurd (none h.others h.blocks h.chain),
)

pub none_distinct : (xs : List ℕ) → xs ≡ [] → AreDistinct xs
none_distinct xs empty i j x at = absurd (let within = slice_get_within xs i x at in let size = ap length empty in omega arith)

pub all_push : (P : ℕ → Type 0) (old new : List ℕ) (x : ℕ) → new ≡ old ++ x ∷ [] → P x → All P old → All P new
all_push P old new x is holds each = subst (All P) (sym is) (All-append P old (x ∷ []) each (All-cons P x [] holds (All-nil P)))

module _ (I : List (List ℕ)) (L : VolumeLayout) where
  -- files have numbers up to H.FMAX
  pub two_all : (n : ℕ) (set : List ℕ) → L.home.max_files < n → IsSetOf (IsOfTwo I L n) set → IsSetOf (IsOfTwo I L (L.home.max_files + 1)) set
  two_all n set end s = set_as (IsOfTwo I L n) (IsOfTwo I L (L.home.max_files + 1)) set
      (λ x w. let small = file_small I L w.other w.second.1.file in record { one = w.one; other = w.other; before = w.before; low = omega arith; first = w.first; second = w.second })
      (λ x w. let low = w.low in record { one = w.one; other = w.other; before = w.before; low = omega arith; first = w.first; second = w.second }) s

  pub no_two : (x : ℕ) → ¬ IsOfTwo I L 0 x
  no_two x t = let low = t.low in omega arith

  -- the set with the headers of file n
  pub headers_more : (n : ℕ) (xs old new : List ℕ) → AreHeaders I L n xs → IsSetOf (λ x. (has old x ≡ true) ⊎ ((j : ℕ) × (slice_get xs j ≡ Some x))) new → IsSetOf (λ x. (has old x ≡ true) ⊎ HasAsHeader I L n x) new
  headers_more n xs old new headers s = set_as (λ x. (has old x ≡ true) ⊎ ((j : ℕ) × (slice_get xs j ≡ Some x))) (λ x. (has old x ≡ true) ⊎ HasAsHeader I L n x) new
      (λ x o. elim o [ inl m ↦ inl m | inr (j, at) ↦ inr (j, (headers j x).0 at) ])
      (λ x o. elim o [ inl m ↦ inl m | inr (j, h) ↦ inr (j, (headers j x).1 h) ]) s

  -- the headers of file n, and those of the files before it
  pub two_more : (n : ℕ) (xs once start new : List ℕ) → AreHeaders I L n xs → AreDistinct xs → IsOfFiles (HasAsHeader I L) n once → IsSetOf (IsOfTwo I L n) start
      → IsSetOf (λ x. (has start x ≡ true) ⊎ IsThere once xs x) new → IsSetOf (IsOfTwo I L (n + 1)) new
  two_more n xs once start new headers distinct s t = set_as (λ x. (has start x ≡ true) ⊎ IsThere once xs x) (IsOfTwo I L (n + 1)) new
      (λ x o. elim o [
        | inl m ↦
            let w = t.only x m in
            let low = w.low in
            record { one = w.one; other = w.other; before = w.before; low = omega arith; first = w.first; second = w.second }
        | inr there ↦ elim there.there [
          | inl m ↦
              let w = s.only x m in
              record { one = w.0; other = n; before = w.1; low = omega arith; first = w.2; second = (there.index, (headers there.index x).0 there.named) }
          | inr (j, low, at) ↦ let same = distinct j there.index x at there.named in absurd (omega arith)
        ]
      ])
      (λ x w. elim (cases_lt w.other n) [
        | inl less ↦ inl (t.all x (record { one = w.one; other = w.other; before = w.before; low = less; first = w.first; second = w.second }))
        | inr more ↦
            let low = w.low in
            let e : w.other ≡ n = omega arith in
            let P : ℕ → Type 0 = λ k. w.one < k in
            let Q : ℕ → Type 0 = λ k. HasAsHeader I L k x in
            let own = subst Q e w.second in
            inr (record { index = own.0; named = (headers own.0 x).1 own.1; there = inl (s.all x (w.one, subst P e w.before, w.first)) })
      ])

  module _ (n : ℕ) (xs set : List ℕ) (headers : AreHeaders I L n xs) (s : IsSetOf (IsOfTwo I L (L.home.max_files + 1)) set) where
    -- two files that have a header
    shares_with : (x place m v : ℕ) → m ≢ n → HasHeader I L m v x → HasHeader I L n place x → SharesHeader I L n
    shares_with x place m v apart h own = (
      m,
      h.others,
      own.others,
      h.blocks,
      own.blocks,
      x,
      apart,
      h.file,
      h.chain,
      own.chain,
      contains_at (m ∷ h.others) v x h.named,
      contains_at (n ∷ own.others) place x own.named,
    )

    -- one of its headers is in the set
    pub shares : (x : ℕ) → IsFirstIn xs set x → SharesHeader I L n
    shares x f =
        let own = (headers f.place x).0 f.named in
        let w = s.only x f.there in
        elim (cases_eq w.one n) [
          | inl e ↦
              let before = w.before in
              let apart : w.other ≢ n = λ p. omega arith in
              shares_with x f.place w.other w.second.0 apart w.second.1 own
          | inr apart ↦ shares_with x f.place w.one w.first.0 apart w.first.1 own
        ]

    -- none is
    pub shares_none : IsFile I L n → ((j x : ℕ) → slice_get xs j ≡ Some x → has set x ≡ false) → ¬ SharesHeader I L n
    shares_none file none (m, ms, ns, cs, bs, x, apart, other, chain, own, in_m, in_n) =
        let at_m = at_of_contains (m ∷ ms) x in_m in
        let at_n = at_of_contains (n ∷ ns) x in_n in
        let h : HasHeader I L m at_m.0 x = record { file = other; others = ms; blocks = cs; chain = chain; named = at_m.1 } in
        let k : HasHeader I L n at_n.0 x = record { file = file; others = ns; blocks = bs; chain = own; named = at_n.1 } in
        let small_m = file_small I L m other in
        let small_n = file_small I L n file in
        let two : IsOfTwo I L (L.home.max_files + 1) x = elim (cases_lt m n) [
          | inl less ↦ record { one = m; other = n; before = less; low = omega arith; first = (at_m.0, h); second = (at_n.0, k) }
          | inr more ↦
              let less : n < m = grind (arith, apart, more) in
              record { one = n; other = m; before = less; low = omega arith; first = (at_n.0, k); second = (at_m.0, h) }
        ] in
        let clash : true ≡ false = sym (s.all x two) ∙ none at_n.0 x ((headers at_n.0 x).1 k) in
        cc
