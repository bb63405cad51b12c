-- Each step keeps the rule.
use Rattle.std.proofs.Common.{◌≡◌, ◌≢◌, ℕ, zero, suc, ◌+◌, ◌<◌, ◌≤◌, List, [], ◌∷◌, ◌++◌, length, set, refl, sym, ap, ◌∙◌, subst, ⊎_elim, arith, length-append, append_assoc, append-nil}
use mathlib.Core.Option.{some, some-ne-none, some-injective}
use lib.ListN.{get_elem?}
use native.Mathlib.Decide.{dec_le}
use Rattle.crossbeam_utils.specs.Register.{Admits, TurnsAt, Turns, Forks, Merges}
use Rattle.atomic_table.proofs.Lists.{at_set, at_snoc}
use Rattle.ods_request.specs.declared.answers.Entry.{Entry}
use Rattle.ods_request.specs.Lists.{Begins}
use Rattle.ods_state.specs.Version.{IsVersionBy}
use Rattle.ods_views.specs.declared.version.Version.{Version}
use Rattle.ods_views.specs.declared.rule.View.{View}
use Rattle.ods_views.specs.Versions.{Keeps, LookedFrom, Added, newcomer}

pub begins_refl : (xs : List Entry) → Begins xs xs
begins_refl xs = ([], sym (append-nil xs))

pub begins_more : (xs ys more : List Entry) → Begins xs ys → Begins xs (ys ++ more)
begins_more xs ys more b = (b.0 ++ more, ap (λ l. l ++ more) b.1 ∙ append_assoc xs b.0 more)

pub begins_nil : (ys : List Entry) → Begins [] ys
begins_nil ys = (ys, refl)

-- a beginning that is as long is the whole
pub begins_whole : (xs ys : List Entry) → Begins xs ys → length ys ≡ length xs → xs ≡ ys
begins_whole xs ys b same = ends xs ys b.0 b.1 same
  where
    empty : (rest : List Entry) → length rest ≡ 0 → rest ≡ []
    empty [] none = refl
    empty (r ∷ rs) none = absurd (omega arith)

    ends : (xs ys rest : List Entry) → ys ≡ xs ++ rest → length ys ≡ length xs → xs ≡ ys
    ends xs ys rest is same =
        let none : length rest ≡ 0 = omega (arith, ap length is, length-append xs rest) in
        sym (is ∙ ap (λ l. xs ++ l) (empty rest none) ∙ append-nil xs)

abbrev Fits : List Entry → View → Type 0
Fits log v = Begins v.seen log

fits_set : (log : List Entry) (views : List View) (by : ℕ) (w : View) → ((j : ℕ) (u : View) → j ≢ by → get_elem? views j ≡ some u → Fits log u) → Fits log w → (j : ℕ) (u : View) → get_elem? (set views by w) j ≡ some u → Fits log u
fits_set log views by w others mine j u e =
    ⊎_elim
    (λ (x : (j ≡ by) × (w ≡ u)). subst (λ (y : View). Fits log y) x.1 mine)
    (λ (x : (j ≢ by) × (get_elem? views j ≡ some u)). others j u x.0 x.1)
    (at_set views by j w u e)

fits_snoc : (log : List Entry) (views : List View) (w : View) → ((j : ℕ) (u : View) → get_elem? views j ≡ some u → Fits log u) → Fits log w → (j : ℕ) (u : View) → get_elem? (views ++ w ∷ []) j ≡ some u → Fits log u
fits_snoc log views w others mine j u e =
    ⊎_elim (λ was. others j u was) (λ (same : w ≡ u). subst (λ (y : View). Fits log y) same mine) (at_snoc views w u j e)

module _ (m : List (List ℕ)) (o : List Entry) where
  pub opens : (x : Version) → IsVersionBy m o x.image x.layout → length o ≡ x.count → Keeps m o x (newcomer o ∷ [])
  opens x is count = (o, is, count, begins_refl o, one)
    where
      one : (by : ℕ) (v : View) → get_elem? (newcomer o ∷ []) by ≡ some v → Fits o v
      one zero v e = subst (λ (y : View). Fits o y) (some-injective _ _ e) (begins_refl o)
      one (suc by) v e = absurd (some-ne-none v (sym e))

  pub admits : Admits (Keeps m o) (newcomer o)
  admits x views h = (h.0, h.1, h.2, h.3, fits_snoc h.0 views (newcomer o) h.4 h.3)

  pub looks : (place : ℕ) (v : View) (least : ℕ) → Turns (Keeps m o) place v (λ x. x) (LookedFrom least m)
  looks place v least x views h at = by_count (dec_le least x.count)
    where
      by_count : Dec (least ≤ x.count) → (w : View) × Keeps m o x (set views place w) × LookedFrom least m v x x w
      by_count (yes enough) =
          let w = newcomer h.0 in (
            w,
            (h.0, h.1, h.2, h.3, fits_set h.0 views place w (λ j u _ e. h.4 j u e) (begins_refl h.0)),
            ((λ _. (h.4 place v at, h.2, h.1)), (λ (less : x.count < least). absurd (omega arith))),
          )
      by_count (no few) = (
        v,
        (h.0, h.1, h.2, h.3, fits_set h.0 views place v (λ j u _ e. h.4 j u e) (h.4 place v at)),
        ((λ enough. absurd (few enough)), (λ _. refl)),
      )

  pub adds : (place : ℕ) (v : View) (e : Entry) (x y : Version) → length v.seen ≡ x.count → y.count ≡ x.count + 1 → IsVersionBy m (v.seen ++ e ∷ []) y.image y.layout → TurnsAt (Keeps m o) place v x y (Added e)
  adds place v e x y had has is views h at =
      let mine = h.4 place v at in
      let whole : v.seen ≡ h.0 = begins_whole v.seen h.0 mine (h.2 ∙ sym had) in
      let log = v.seen ++ e ∷ [] in
      let w = newcomer log in (
        w,
        (
          log,
          is,
          omega (arith, length-append v.seen (e ∷ [])),
          subst (λ (l : List Entry). Begins o (l ++ e ∷ [])) (sym whole) (begins_more o h.0 (e ∷ []) h.3),
          fits_set log views place w (λ j u _ at'. subst (λ (l : List Entry). Fits (l ++ e ∷ []) u) (sym whole) (begins_more u.seen h.0 (e ∷ []) (h.4 j u at'))) (begins_refl log),
        ),
        refl,
      )

  pub forks : (place : ℕ) (v : View) → Forks (Keeps m o) place v v v
  forks place v x views h at =
      let mine = h.4 place v at in
      (h.0, h.1, h.2, h.3, fits_snoc h.0 (set views place v) v (λ j u e. fits_set h.0 views place v (λ i y _ e'. h.4 i y e') mine j u e) mine)

  pub merges : (place : ℕ) (v : View) (other : ℕ) (w : View) → Merges (Keeps m o) place v other w w (newcomer [])
  merges place v other w x views h at apart there =
      let mine = h.4 place v at in
      let both = w in
      let theirs : Fits h.0 w = ⊎_elim (λ (t : (other ≡ place) × (both ≡ w)). absurd (apart t.0)) (λ (t : (other ≢ place) × (get_elem? views other ≡ some w)). h.4 other w t.1) (at_set views place other both w there) in
      (h.0, h.1, h.2, h.3, fits_set h.0 (set views place both) other (newcomer []) (λ j u _ e. fits_set h.0 views place both (λ i y _ e'. h.4 i y e') theirs j u e) (begins_nil h.0))
