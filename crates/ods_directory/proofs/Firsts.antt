-- A pass finds the first entry of its kind.
use Rattle.std.proofs.Common.{◌≡◌, ℕ, ◌+◌, ◌/◌, ◌<◌, Bool, true, false, cond, ◌&&◌, fold, Option, Some, None, is_none, refl, sym, ap, subst, arith, below_more, inl, inr, List, length}
use Rattle.std.specs.List.{range_with_len}
use Rattle.std.proofs.lemmas.Bool.{not-true, not-false}
use Rattle.ods_directory.specs.declared.first.First.{First}
use Rattle.ods_directory.specs.declared.first.Kind.{Kind}
use Rattle.ods_directory.specs.declared.first.Kind.TheVariants.{Empty}
use Rattle.ods_directory.specs.Entry.{Entry, entry_at}
use Rattle.ods_directory.specs.First.{is_kind, first_after, IsFirst, slot_of}
use Rattle.ods_directory.specs.Mark.{IsSlot}
use Rattle.ods_directory.proofs.Folds.{fold_keeps}

module _ (kind : Kind) (entry : ℕ → Entry) where
  abbrev HasFirst : ℕ → First → Type 0
  HasFirst m s = (s.kind ≡ kind) × IsFirst kind entry m s.position

  one_more : (m : ℕ) (s : First) → HasFirst m s → HasFirst (m + 1) (first_after s m (entry m))
  one_more m s h = by s.position (is_kind s.kind (entry m)) refl (ap (λ x. is_kind x (entry m)) (sym h.0)) h.1
    where
      by : (p : Option ℕ) (b : Bool) → s.position ≡ p → is_kind kind (entry m) ≡ b → IsFirst kind entry m p → HasFirst (m + 1) (cond (is_none p && b) (record s { position = Some m }) s)
      by None true e f g = (h.0, (omega arith, f, g))
      by None false e f g = (h.0, subst (IsFirst kind entry (m + 1)) (sym e) (below_more (λ j. is_kind kind (entry j) ≡ false) m g f))
      by (Some k) b e f g = (h.0, subst (IsFirst kind entry (m + 1)) (sym e) (omega (arith, g.0), g.1, g.2))

  -- a pass that begins with no position ends with the first of the first m entries that is of the kind
  pub first_found : (m : ℕ) (s t : First) → s ≡ record { kind = kind; position = None } → t ≡ fold (λ s k. first_after s k (entry k)) s (range_with_len 0 m) → IsFirst kind entry m t.position
  first_found m s t first e =
      let step = λ (u : First) (k : ℕ). first_after u k (entry k) in
      let start : HasFirst 0 s = subst (HasFirst 0) (sym first) (refl, λ j below. absurd (omega arith)) in
      (subst (HasFirst m) (sym e) (fold_keeps HasFirst step s m start one_more)).1

-- the first empty entry gives the slot
pub slot_of_first : (blocks : List (List ℕ)) (mark : ℕ) (position : Option ℕ) → IsFirst Empty (entry_at blocks) (mark / 16) position → IsSlot blocks mark (slot_of position mark (length blocks))
slot_of_first blocks mark None h = inr (λ k below. not-false _ (h k below), refl)
slot_of_first blocks mark (Some k) h = inl (k, h.0, (not-true _ h.1, λ j below. not-false _ (h.2 j below)), refl)

pub first_below : (kind : Kind) (entry : ℕ → Entry) (m : ℕ) (position : Option ℕ) → IsFirst kind entry m position → (k : ℕ) → position ≡ Some k → k < m
first_below kind entry m None h k e = absurd (cc)
first_below kind entry m (Some j) h k e = let same : j ≡ k = cc in omega (arith, h.0)
