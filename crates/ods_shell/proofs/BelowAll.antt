-- All directories below some, start by start, where a walk from each passes closed ones.
use Rattle.std.proofs.Common.{◌≡◌, ◌⊎◌, inl, inr, ℕ, ◌<◌, refl, sym, ◌∙◌, subst, List, [], ◌∷◌, ◌++◌, length, map, arith}
use Rattle.std.specs.Prelude.{nat_eq}
use Rattle.std.specs.List.{Contains, IsDistinct}
use Rattle.std.proofs.lemmas.List.{length-map}
use Rattle.std.proofs.lemmas.List.Elements.{Contains-append_cases, Contains-append_left, Contains-push, Contains-push_cases}
use Rattle.ods_base.specs.Name.{RadName}
use Rattle.ods_base.specs.declared.listed.Listed.{Listed}
use Rattle.ods_space.specs.Layout.{VolumeLayout}
use Rattle.ods_mount.specs.Faults.{IsDirectoryFile}
use Rattle.ods_walk.specs.declared.tables.Entered.{Entered}
use Rattle.ods_walk.specs.declared.tables.Line.{Line as Placed}
use Rattle.ods_walk.specs.Complete.{AreReached, HasEntry, LeadsPast}
use Rattle.ods_walk.specs.Paths.{IsWalkButFor, Tables, path_to, number_at}
use Rattle.ods_walk.specs.Walk.{NamesDirectory}
use Rattle.ods_walk.proofs.Covered.{entries_on_lines}
use Rattle.ods_shell.specs.declared.folders.Directory.{Directory}
use Rattle.ods_shell.specs.Ways.{AreAllBelow, CountAsClosed, IsBelowOne}
use Rattle.ods_shell.proofs.BelowAdded.{number_read}

none_in : {X : Type 0} (x : X) → Contains [] x → ⊥
none_in x none = let none_below : none.0 < 0 = none.1 in absurd (omega arith)

distinct_none : IsDistinct nat_eq []
unfolding IsDistinct
distinct_none = tt

-- what is none of the closed ones is not among master and them, unless it is the master
master_or_closed : (closed : List ℕ) (n : ℕ) → ¬ Contains (4 ∷ []) n → ¬ Contains closed n → ¬ Contains (4 ∷ closed) n
master_or_closed closed n other is_open has = elim (Contains-append_cases (4 ∷ []) closed n has) [ inl same ↦ other same | inr shut ↦ is_open shut ]

-- what a walk from a start adds
pub record AreAdded (start : Directory) (table : List Entered) (before after : List Directory) : Type 0 where
  pub grows : (n : ℕ) → Contains (map (λ d. d.number) before) n → Contains (map (λ d. d.number) after) n
  pub only : (d : Directory) → Contains after d → Contains before d ⊎ ((k : ℕ) × (k < length table) × (d.number ≡ number_at table k) × (d.names.items ≡ start.names.items ++ path_to table k))
  pub all : (k : ℕ) → k < length table → Contains (map (λ d. d.number) after) (number_at table k)
  pub once : IsDistinct nat_eq (map (λ d. d.number) before) → IsDistinct nat_eq (map (λ d. d.number) after)

-- what a walk past these closed numbers says it says of the closed ones from the start
pub walk_of : (I : List (List ℕ)) (L : VolumeLayout) (n closed : List ℕ) (start : ℕ) (w : Tables) → n ≡ closed → IsWalkButFor I L start n w → AreReached I L start (4 ∷ n) w.directories
    → IsWalkButFor I L start closed w × AreReached I L start (4 ∷ closed) w.directories
walk_of I L n closed start w same walk reached = subst (λ c. IsWalkButFor I L start c w × AreReached I L start (4 ∷ c) w.directories) same (walk, reached)

module _ (I : List (List ℕ)) (L : VolumeLayout) where
  -- one more name leads on past the shut ones
  leads_further : (shut : List ℕ) (n : ℕ) (names : List RadName) (m : ℕ) (e : Listed) → LeadsPast I L shut n names m → HasEntry I L m e → NamesDirectory I L e → ¬ Contains shut e.file.number
      → LeadsPast I L shut n (names ++ e.name ∷ []) e.file.number
  leads_further shut n [] m e same has names_it is_open = (e, subst (λ k. HasEntry I L k e) (sym same) has, refl, names_it, is_open, refl)
  leads_further shut n (name ∷ names) m e way has names_it is_open = (way.0, way.1, way.2, way.3, way.4, leads_further shut way.0.file.number names m e way.5 has names_it is_open)

  -- what leads past many leads past some of them
  leads_past_fewer : (shut few : List ℕ) → ((k : ℕ) → Contains few k → Contains shut k) → (n : ℕ) (names : List RadName) (m : ℕ) → LeadsPast I L shut n names m → LeadsPast I L few n names m
  leads_past_fewer shut few fewer n [] m same = same
  leads_past_fewer shut few fewer n (name ∷ names) m way = (way.0, way.1, way.2, way.3, λ has. way.4 (fewer way.0.file.number has), leads_past_fewer shut few fewer way.0.file.number names m way.5)

  -- Where no line of a walk names a closed directory, what leads past the master directory alone leads past the closed ones too.
  past_closed : (n : ℕ) (closed : List ℕ) (w : Tables) → IsWalkButFor I L n closed w → ((l : Placed) → Contains w.lines l → NamesDirectory I L l.entry → ¬ Contains closed l.entry.file.number)
      → (done : List RadName) (m : ℕ) → LeadsPast I L (4 ∷ closed) n done m → (names : List RadName) (k : ℕ) → LeadsPast I L (4 ∷ []) m names k → (all : List RadName) × LeadsPast I L (4 ∷ closed) n all k
  past_closed n closed w walk none done m way [] k same = (done, subst (LeadsPast I L (4 ∷ closed) n done) same way)
  past_closed n closed w walk none done m way (name ∷ names) k rest =
      let e = rest.0 in
      let line = entries_on_lines I L n closed w walk done m e way rest.1 in
      let is_open : ¬ Contains closed e.file.number =
      subst (λ (x : Listed). ¬ Contains closed x.file.number) line.2 (none line.0 line.1 (subst (NamesDirectory I L) (sym line.2) rest.3)) in
      past_closed n closed w walk none (done ++ e.name ∷ []) e.file.number
      (leads_further (4 ∷ closed) n done m e way rest.1 rest.3 (master_or_closed closed e.file.number rest.4 is_open)) names k rest.5

  -- none is below no directory
  pub none_below : (shut : List ℕ) → AreAllBelow I L shut [] []
  none_below shut = record {
    only = λ d none. absurd (none_in d none);
    all = λ start names n none. absurd (none_in start none);
    once = distinct_none;
  }

  -- a start more makes no other
  only_more : (shut : List ℕ) (starts : List Directory) (start d : Directory) → IsBelowOne I L shut starts d → IsBelowOne I L shut (starts ++ start ∷ []) d
  only_more shut starts start d is = (is.0, is.1, Contains-append_left starts (start ∷ []) is.0 is.2, is.3, is.4, is.5)

  -- a start that adds nothing: it is closed, or is no directory
  pub nothing_more : (shut : List ℕ) (starts found : List Directory) (start : Directory) → (¬ Contains shut start.number → IsDirectoryFile I L start.number → ⊥) → AreAllBelow I L shut starts found
      → AreAllBelow I L shut (starts ++ start ∷ []) found
  nothing_more shut starts found start nothing are = record {
    only = λ d has. only_more shut starts start d (are.only d has);
    all = λ s names n has is_open there way. elim (Contains-push_cases starts start s has) [
      | inl earlier ↦ are.all s names n earlier is_open there way
      | inr same ↦ absurd (nothing (subst (λ (x : Directory). ¬ Contains shut x.number) (sym same) is_open) (subst (λ (x : Directory). IsDirectoryFile I L x.number) (sym same) there))
    ];
    once = are.once;
  }

  -- the directories that a walk past the closed ones reached, where these ones count as closed
  module _ (closed : List ℕ) (start : Directory) (w : Tables) (reached : AreReached I L start.number (4 ∷ closed) w.directories) (before after : List Directory) (added : AreAdded start w.directories before after)
      (shut : List ℕ) (is_open : ¬ Contains shut start.number) (starts : List Directory) (are : AreAllBelow I L shut starts before)
      (past : (names : List RadName) (n : ℕ) → LeadsPast I L (4 ∷ closed) start.number names n → LeadsPast I L (4 ∷ shut) start.number names n)
      (back : (names : List RadName) (n : ℕ) → LeadsPast I L (4 ∷ shut) start.number names n → (all : List RadName) × LeadsPast I L (4 ∷ closed) start.number all n) where
    walked_only : (d : Directory) → Contains before d ⊎ ((k : ℕ) × (k < length w.directories) × (d.number ≡ number_at w.directories k) × (d.names.items ≡ start.names.items ++ path_to w.directories k))
        → IsBelowOne I L shut (starts ++ start ∷ []) d
    walked_only d (inl old) = only_more shut starts start d (are.only d old)
    walked_only d (inr entered) = (
      start,
      path_to w.directories entered.0,
      Contains-push starts start,
      is_open,
      entered.3,
      subst (LeadsPast I L (4 ∷ shut) start.number (path_to w.directories entered.0)) (sym entered.2) (past (path_to w.directories entered.0) (number_at w.directories entered.0) (reached.only entered.0 entered.1)),
    )

    walked_all : (names : List RadName) (n : ℕ) → LeadsPast I L (4 ∷ shut) start.number names n → Contains (map (λ d. d.number) after) n
    walked_all names n way =
        let led = back names n way in
        let has : Contains (map (λ d. d.number) w.directories) n = reached.all led.0 n led.1 in
        let long : length (map (λ (e : Entered). e.number) w.directories) ≡ length w.directories = length-map w.directories (λ (e : Entered). e.number) in
        let within : has.0 < length w.directories = (let inside : has.0 < length (map (λ (e : Entered). e.number) w.directories) = has.1 in omega arith) in
        subst (Contains (map (λ d. d.number) after)) (sym (number_read w.directories has.0 n within) ∙ has.2) (added.all has.0 within)

    walked : AreAllBelow I L shut (starts ++ start ∷ []) after
    walked = record {
      only = λ d has. walked_only d (added.only d has);
      all = λ s names n has not_shut there way. elim (Contains-push_cases starts start s has) [
        | inl earlier ↦ added.grows n (are.all s names n earlier not_shut there way)
        | inr same ↦ walked_all names n (subst (λ (x : Directory). LeadsPast I L (4 ∷ shut) x.number names n) (sym same) way)
      ];
      once = added.once are.once;
    }

  -- What a walk past the closed ones adds, where just these count as closed, or none where no line names one.
  pub walked_more : (closed : List ℕ) (start : Directory) (w : Tables) → IsWalkButFor I L start.number closed w → AreReached I L start.number (4 ∷ closed) w.directories → ¬ Contains closed start.number
      → (before after : List Directory) → AreAdded start w.directories before after
      → (met : List Directory) → (met ≡ [] → (l : Placed) → Contains w.lines l → NamesDirectory I L l.entry → ¬ Contains closed l.entry.file.number)
      → (shut : List ℕ) (starts : List Directory) → CountAsClosed closed met shut → AreAllBelow I L shut starts before → AreAllBelow I L shut (starts ++ start ∷ []) after
  walked_more closed start w walk reached is_open before after added met none shut starts (inl all) are =
      walked closed start w reached before after added shut (subst (λ c. ¬ Contains c start.number) (sym all) is_open) starts are
      (λ names n way. subst (λ c. LeadsPast I L (4 ∷ c) start.number names n) (sym all) way)
      (λ names n way. (names, subst (λ c. LeadsPast I L (4 ∷ c) start.number names n) all way))
  walked_more closed start w walk reached is_open before after added met none shut starts (inr nothing) are =
      walked closed start w reached before after added shut (subst (λ c. ¬ Contains c start.number) (sym nothing.1) (none_in start.number)) starts are
      (λ names n way. leads_past_fewer (4 ∷ closed) (4 ∷ shut) fewer start.number names n way)
      (λ names n way. past_closed start.number closed w walk (none nothing.0) [] start.number refl names n (subst (λ c. LeadsPast I L (4 ∷ c) start.number names n) nothing.1 way))
    where
      fewer : (k : ℕ) → Contains (4 ∷ shut) k → Contains (4 ∷ closed) k
      fewer k has = elim (Contains-append_cases (4 ∷ []) shut k has) [
        | inl master ↦ Contains-append_left (4 ∷ []) closed k master
        | inr other ↦ absurd (none_in k (subst (λ c. Contains c k) nothing.1 other))
      ]
