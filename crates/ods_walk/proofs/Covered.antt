-- What names lead to past closed directories is on the walk past them.
use Rattle.std.proofs.Common.{◌≡◌, ◌⊎◌, inl, inr, ℕ, ◌<◌, refl, sym, subst, List, [], ◌∷◌, map, arith}
use Rattle.std.specs.List.{Contains}
use Rattle.std.proofs.lemmas.List.Elements.{Contains-append_right}
use Rattle.ods_base.specs.Name.{RadName}
use Rattle.ods_base.specs.declared.listed.Listed.{Listed}
use Rattle.ods_space.specs.Layout.{VolumeLayout}
use Rattle.ods_walk.specs.Complete.{HasEntry, LeadsPast}
use Rattle.ods_walk.specs.Paths.{IsWalkButFor, Tables, line_in}
use Rattle.ods_walk.specs.Walk.{Line, NamesDirectory, below, IsWalkPast}
use Rattle.ods_walk.specs.declared.tables.Entered.{Entered}
use Rattle.ods_walk.specs.declared.tables.Line.{Line as Placed}
use Rattle.ods_walk.proofs.Completeness.{IsCovered, Ends, all_come, at_head, covered_by, ends, first_or_other}

module _ (I : List (List ℕ)) (L : VolumeLayout) (n : ℕ) (closed : List ℕ) (lines : List Line) (walk : IsWalkPast I L n closed lines) where
  abbrev at_end : Ends I L (n ∷ 4 ∷ closed) lines
  at_end = ends I L (n ∷ 4 ∷ closed) (below [] n walk.0) lines walk.2

  -- where the walk starts, and what is open
  abbrev IsOpen : ℕ → Type 0
  IsOpen m = (n ≡ m) ⊎ ¬ Contains (4 ∷ closed) m

  covered_start : IsCovered I L n lines
  covered_start = covered_by I L [] n walk.0 lines walk.1 (all_come I L (n ∷ 4 ∷ closed) (below [] n walk.0) lines walk.2)

  covered_open : (m : ℕ) → Contains at_end.final m → IsOpen m → IsCovered I L m lines
  covered_open m has (inl same) = subst (λ k. IsCovered I L k lines) same covered_start
  covered_open m has (inr is_open) = elim (at_end.covered m has) [
    | inl start ↦ elim (first_or_other n (4 ∷ closed) m start) [ inl same ↦ subst (λ k. IsCovered I L k lines) same covered_start | inr shut ↦ absurd (is_open shut) ]
    | inr found ↦ found
  ]

  -- what names lead to is on the walk
  covered_past : (k : ℕ) (names : List RadName) (m : ℕ) → Contains at_end.final k → IsOpen k → LeadsPast I L (4 ∷ closed) k names m → IsCovered I L m lines
  covered_past k [] m has is_open same = subst (λ j. IsCovered I L j lines) same (covered_open k has is_open)
  covered_past k (name ∷ names) m has is_open way =
      let found = covered_open k has is_open way.0 way.1 in
      let into : Contains at_end.final way.0.file.number =
      subst (λ (e : Listed). Contains at_end.final e.file.number) found.3 (at_end.into found.0 found.1 (subst (NamesDirectory I L) (sym found.3) way.3)) in
      covered_past way.0.file.number names m into (inr way.4) way.5

  pub covered_from_start : (names : List RadName) (m : ℕ) → LeadsPast I L (4 ∷ closed) n names m → IsCovered I L m lines
  covered_from_start names m way = covered_past n names m (at_end.grows n (at_head n (4 ∷ closed))) (inl refl) way

-- what a line in a table has stood in the table
placed_of : (directories : List Entered) (lines : List Placed) (l : Line) → Contains (map (line_in directories) lines) l → (p : Placed) × Contains lines p × (line_in directories p ≡ l)
placed_of directories [] l none = let none_below : none.0 < 0 = none.1 in absurd (omega arith)
placed_of directories (p ∷ lines) l has = elim (first_or_other (line_in directories p) (map (line_in directories) lines) l has) [
  | inl same ↦ (p, at_head p lines, same)
  | inr other ↦ (let rest = placed_of directories lines l other in (rest.0, Contains-append_right (p ∷ []) lines rest.0 rest.1, rest.2))
]

-- Each entry of a directory to which names lead past the closed ones, from where a walk starts, is on a line of the walk.
pub entries_on_lines : (I : List (List ℕ)) (L : VolumeLayout) (n : ℕ) (closed : List ℕ) (w : Tables) → IsWalkButFor I L n closed w
    → (names : List RadName) (m : ℕ) (e : Listed) → LeadsPast I L (4 ∷ closed) n names m → HasEntry I L m e → (l : Placed) × Contains w.lines l × (l.entry ≡ e)
entries_on_lines I L n closed w walk names m e way has =
    let found = covered_from_start I L n closed (map (line_in w.directories) w.lines) walk names m way e has in
    let p = placed_of w.directories w.lines found.0 found.1 in
    (p.0, p.1, subst (λ (x : Line). x.entry ≡ e) (sym p.2) found.3)
