-- Going along a chain to its last header.
use Rattle.std.proofs.Common.{◌≡◌, ◌≢◌, ℕ, suc, ◌+◌, ◌<◌, ◌≤◌, ◌⊎◌, cond, List, [], ◌∷◌, ◌++◌, length, Option, Some, None, refl, sym, ap, ◌∙◌, subst, inl, inr, arith}
use Rattle.std.proofs.lemmas.Bool.{cases_eq, ne_eqb}
use Rattle.ods_header.specs.Header.{IsValidHeader, next_number_of, blocks_of}
use Rattle.ods_space.specs.Layout.{VolumeLayout, header_at}
use Rattle.ods_space.specs.Chain.{IsChain, Follows, index_for}
use Rattle.ods_space.proofs.Chains.{head_of}
use Rattle.ods_alloc.specs.Extend.{last_of}
use Rattle.ods_alloc.proofs.Written.{valid_has_place}

-- after k steps from n the walk is at header m, and these headers are left
pub record IsOnTheWay (I : List (List ℕ)) (L : VolumeLayout) (n : ℕ) (others all : List ℕ) (k m : ℕ) : Type 0 where
  pub front : List ℕ
  pub left : List ℕ
  pub rest : Follows I L.home (Some L.index) front k m left all
  pub gone : k + length left ≡ length others
  pub same : last_of m left ≡ last_of n others

pub way_begins : (I : List (List ℕ)) (L : VolumeLayout) (n : ℕ) (others all : List ℕ) → 2 ≤ n → IsChain I L n others all → IsOnTheWay I L n others all 0 n
way_begins I L n others all high chain =
    let index : index_for L n ≡ Some L.index = ap (λ t. cond t None (Some L.index)) (ne_eqb n 1 (λ e. absurd (omega arith))) in
    let P : Option (List ℕ) → Type 0 = λ o. Follows I L.home o [] 0 n others all in
    record { front = []; left = others; rest = subst P index chain; gone = omega arith; same = refl }

pub way_valid : (I : List (List ℕ)) (L : VolumeLayout) (n : ℕ) (others all : List ℕ) (k m : ℕ) → IsOnTheWay I L n others all k m → IsValidHeader (header_at I L m) m
way_valid I L n others all k m way = (head_of I L.home (Some L.index) way.front k m way.left all way.rest).valid

-- a header that names none is the last one
pub way_ends : (I : List (List ℕ)) (L : VolumeLayout) (n : ℕ) (others all : List ℕ) (k m : ℕ) → IsOnTheWay I L n others all k m → next_number_of (header_at I L m) ≡ 0 → m ≡ last_of n others
way_ends I L n others all k m way none = by way.left way.rest ∙ way.same
  where
    by : (left : List ℕ) → Follows I L.home (Some L.index) way.front k m left all → m ≡ last_of m left
    by [] f = refl
    by (x ∷ xs) f =
        let good = head_of I L.home (Some L.index) (way.front ++ blocks_of (header_at I L m)) (suc k) x xs all f.4 in
        let zero_is : x ≡ 0 = sym f.1 ∙ none in
        absurd (omega (arith, good.first))

-- one that names another leads on to it
pub way_leads : (I : List (List ℕ)) (L : VolumeLayout) (n : ℕ) (others all : List ℕ) (k m next : ℕ) → IsOnTheWay I L n others all k m → next ≡ next_number_of (header_at I L m) → next ≢ 0 → IsOnTheWay I L n others all (k + 1) next
way_leads I L n others all k m next way is some = by way.left way.rest way.gone way.same
  where
    by : (left : List ℕ) → Follows I L.home (Some L.index) way.front k m left all → k + length left ≡ length others → last_of m left ≡ last_of n others → IsOnTheWay I L n others all (k + 1) next
    by [] f gone same = absurd (some (is ∙ f.1))
    by (x ∷ xs) f gone same =
        let here : x ≡ next = sym f.1 ∙ sym is in
        let step : suc k ≡ k + 1 = omega arith in
        let P : ℕ → Type 0 = λ j. Follows I L.home (Some L.index) (way.front ++ blocks_of (header_at I L m)) j next xs all in
        let Q : ℕ → Type 0 = λ y. Follows I L.home (Some L.index) (way.front ++ blocks_of (header_at I L m)) (suc k) y xs all in
        let R : ℕ → Type 0 = λ y. last_of y xs ≡ last_of n others in
        record { front = way.front ++ blocks_of (header_at I L m); left = xs; rest = subst P step (subst Q here f.4); gone = omega arith; same = subst R here same }

no_header_0 : (I : List (List ℕ)) (L : VolumeLayout) (n : ℕ) → n ≡ 0 → IsValidHeader (header_at I L n) n → ⊥
no_header_0 I L n none valid = valid_has_place I L 0 (subst (λ m. IsValidHeader (header_at I L m) m) none valid) refl

-- After k steps from n, along headers of C that I has too, the walk has passed header `end`, this block, and is at `next`, or at its end where this is 0.
pub record IsWalked (I C : List (List ℕ)) (L : VolumeLayout) (n : ℕ) (others all : List ℕ) (k end : ℕ) (last : List ℕ) (next : ℕ) : Type 0 where
  pub on : next ≢ 0 → IsOnTheWay C L n others all k next
  pub ends : next ≡ 0 → (end ≡ last_of n others) × (last ≡ header_at I L end)

pub walk_begins : (I C : List (List ℕ)) (L : VolumeLayout) (n : ℕ) (others all first : List ℕ) → 2 ≤ n → IsChain C L n others all → IsWalked I C L n others all 0 n first n
walk_begins I C L n others all first high chain = record { on = λ some. way_begins C L n others all high chain; ends = λ none. absurd (omega (arith, none)) }

module _ (I C : List (List ℕ)) (L : VolumeLayout) (n : ℕ) (others all : List ℕ) (k end : ℕ) (last : List ℕ) (next : ℕ) (same : (m : ℕ) → header_at C L m ≡ header_at I L m) (w : IsWalked I C L n others all k end last next) where
  pub walk_goes_on : (header : List ℕ) (behind : ℕ) → header ≡ header_at I L next → IsValidHeader header next → behind ≡ next_number_of header → IsWalked I C L n others all (k + 1) next header behind
  walk_goes_on header behind is valid names =
      let some : next ≢ 0 = λ none. no_header_0 I L next none (subst (λ b. IsValidHeader b next) is valid) in
      let way = w.on some in
      let named : behind ≡ next_number_of (header_at C L next) = names ∙ ap next_number_of (is ∙ sym (same next)) in
      record {
        on = λ more. way_leads C L n others all k next behind way named more;
        ends = λ none. (way_ends C L n others all k next way (sym named ∙ none), is);
      }

  -- where no header is valid any more, it has passed the last one; so it has where all steps are gone that a chain may have
  pub walk_is_over : (IsValidHeader (header_at I L next) next → ⊥) ⊎ (256 ≤ k) → length others < 256 → (end ≡ last_of n others) × (last ≡ header_at I L end)
  walk_is_over over few = elim (cases_eq next 0) [
    | inl none ↦ w.ends none
    | inr some ↦ absurd (goes_on (w.on some) over)
  ]
    where
      goes_on : IsOnTheWay C L n others all k next → (IsValidHeader (header_at I L next) next → ⊥) ⊎ (256 ≤ k) → ⊥
      goes_on way (inl bad) = bad (subst (λ b. IsValidHeader b next) (same next) (way_valid C L n others all k next way))
      goes_on way (inr far) = let gone = way.gone in absurd (omega (arith, gone, far, few))
