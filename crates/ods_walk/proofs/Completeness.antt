-- A walk from the master directory is complete: by what is entered in its course.
use Rattle.std.proofs.Common.{◌≡◌, ◌⊎◌, inl, inr, ℕ, ◌<◌, refl, sym, ap, ◌∙◌, subst, List, [], ◌∷◌, ◌++◌, map, length, arith}
use Rattle.std.specs.List.{All, Contains}
use Rattle.std.proofs.lemmas.Bool.{cases_eq}
use Rattle.std.proofs.lemmas.List.{take_at, drop_at}
use Rattle.std.proofs.lemmas.List.Elements.{All-nil, All-cons, All-head, All-tail, All-append, All-map, All-contains, All-contains_itself, All-weaker, All-take, All-drop, Contains-append_left, Contains-append_right, Contains-append_cases, Contains-push, Contains-push_cases}
use Rattle.std.proofs.lemmas.List.Sorted.{Contains-permutation, IsPermutation-sym}
use Rattle.ods_base.specs.Name.{RadName}
use Rattle.ods_base.specs.declared.listed.Listed.{Listed}
use Rattle.ods_space.specs.Layout.{VolumeLayout}
use Rattle.ods_directory.specs.Entry.{used_entries}
use Rattle.ods_directory.specs.Lines.{good_lines}
use Rattle.ods_mount.specs.Faults.{contents_of, mark_at}
use Rattle.ods_walk.specs.Complete.{HasEntry, LeadsTo, IsComplete, WalksAreComplete}
use Rattle.ods_walk.specs.Listing.{IsListing}
use Rattle.ods_walk.proofs.Directories.{same_there}
use Rattle.ods_walk.specs.Walk.{Line, Walks, NamesDirectory, below, IsWalkBelow}

-- ---- elements of lists

pub at_head : {X : Type 0} (x : X) (xs : List X) → Contains (x ∷ xs) x
at_head x xs = Contains-append_left (x ∷ []) xs x (Contains-push [] x)

-- an element is the first or among the others
pub first_or_other : {X : Type 0} (x : X) (xs : List X) (y : X) → Contains (x ∷ xs) y → (x ≡ y) ⊎ Contains xs y
first_or_other x xs y has = elim (Contains-append_cases (x ∷ []) xs y has) [
  | inl one ↦ elim (Contains-push_cases [] x y one) [ inl none ↦ (let none_below : none.0 < 0 = none.1 in absurd (omega arith)) | inr same ↦ inl same ]
  | inr rest ↦ inr rest
]

pub contains_or_not : (xs : List ℕ) (n : ℕ) → Contains xs n ⊎ ¬ Contains xs n
contains_or_not [] n = inr (λ none. let none_below : none.0 < 0 = none.1 in absurd (omega arith))
contains_or_not (x ∷ xs) n = by (cases_eq x n) (contains_or_not xs n)
  where
    by : (x ≡ n) ⊎ (x ≡ n → ⊥) → Contains xs n ⊎ ¬ Contains xs n → Contains (x ∷ xs) n ⊎ ¬ Contains (x ∷ xs) n
    by (inl same) rest = inl (subst (Contains (x ∷ xs)) same (at_head x xs))
    by (inr other) (inl has) = inl (Contains-append_right (x ∷ []) xs n has)
    by (inr other) (inr none) = inr (λ has. elim (first_or_other x xs n has) [ inl same ↦ other same | inr among ↦ none among ])

pub contains_map : {X Y : Type 0} (f : X → Y) (xs : List X) (x : X) → Contains xs x → Contains (map f xs) (f x)
contains_map f [] x none = let none_below : none.0 < 0 = none.1 in absurd (omega arith)
contains_map f (y ∷ xs) x has = elim (first_or_other y xs x has) [
  | inl same ↦ subst (λ z. Contains (f y ∷ map f xs) (f z)) same (at_head (f y) (map f xs))
  | inr other ↦ Contains-append_right (f y ∷ []) (map f xs) (f x) (contains_map f xs x other)
]

all_of_front : {X : Type 0} (P : X → Type 0) (xs ys : List X) → All P (xs ++ ys) → All P xs
all_of_front P xs ys all = subst (All P) (take_at xs ys (length xs) refl) (All-take P (length xs) (xs ++ ys) all)

all_of_rest : {X : Type 0} (P : X → Type 0) (xs ys : List X) → All P (xs ++ ys) → All P ys
all_of_rest P xs ys all = subst (All P) (drop_at xs ys (length xs) refl) (All-drop P (length xs) (xs ++ ys) all)

module _ (I : List (List ℕ)) (L : VolumeLayout) where
  -- the listings of a directory have the same entries
  pub same_entries : (n : ℕ) (xs ys : List Listed) (e : Listed) → IsListing I L n xs → IsListing I L n ys → Contains xs e → Contains ys e
  same_entries n xs ys e f g has =
      let lbns = same_there I L n f.are.lbns g.are.lbns f.are.there g.are.there in
      let same : f.entries ≡ g.entries = f.are.all ∙ ap (λ bs. good_lines (used_entries (contents_of I bs) (mark_at I L n bs))) lbns ∙ sym g.are.all in
      Contains-permutation g.entries ys e g.all (subst (λ l. Contains l e) same (Contains-permutation xs f.entries e (IsPermutation-sym f.entries xs f.all) has))

  -- one more name leads on
  leads_on : (n : ℕ) (names : List RadName) (m : ℕ) (e : Listed) → LeadsTo I L n names m → HasEntry I L m e → NamesDirectory I L e → LeadsTo I L n (names ++ e.name ∷ []) e.file.number
  leads_on n [] m e same has names_it = (e, subst (λ k. HasEntry I L k e) (sym same) has, refl, names_it, refl)
  leads_on n (name ∷ names) m e way has names_it = (way.0, way.1, way.2, way.3, leads_on way.0.file.number names m e way.4 has names_it)

  -- the path of a line leads to its directory, which has its entry
  abbrev IsRight : Line → Type 0
  IsRight l = LeadsTo I L 4 l.path l.directory × HasEntry I L l.directory l.entry

  lines_right : (path : List RadName) (n : ℕ) (entries : List Listed) → LeadsTo I L 4 path n → IsListing I L n entries → All IsRight (below path n entries)
  lines_right path n entries way listing =
      All-map IsRight (λ e. record { path = path; directory = n; entry = e }) entries
      (All-weaker (Contains entries) (λ e. LeadsTo I L 4 path n × HasEntry I L n e) (λ e among. (way, record { lines = entries; listing = listing; among = among })) entries (All-contains_itself entries))

  all_right : (entered : List ℕ) (pending lines : List Line) → All IsRight pending → Walks I L entered pending lines → All IsRight lines
  all_right entered [] [] right walks = All-nil IsRight
  all_right entered [] (l ∷ ls) right walks = absurd walks
  all_right entered (p ∷ ps) [] right walks = absurd walks
  all_right entered (p ∷ ps) (l ∷ ls) right walks =
      let one = All-head IsRight p ps right in
      let others = All-tail IsRight p ps right in
      let n = p.entry.file.number in
      let path = p.path ++ p.entry.name ∷ [] in
      All-cons IsRight l ls (subst IsRight (sym walks.0) one) (elim walks.1 [
        | inl into ↦ all_right (n ∷ entered) (below path n into.1 ++ ps) ls
            (All-append IsRight (below path n into.1) ps (lines_right path n into.1 (leads_on 4 p.path p.directory p.entry one.0 one.1 into.0.0) into.2) others) into.3
        | inr passed ↦ all_right entered ps ls others passed.1
      ])

  -- each line that is to come is on the walk
  pub all_come : (entered : List ℕ) (pending lines : List Line) → Walks I L entered pending lines → All (Contains lines) pending
  all_come entered [] [] walks = All-nil (Contains [])
  all_come entered [] (l ∷ ls) walks = absurd walks
  all_come entered (p ∷ ps) [] walks = absurd walks
  all_come entered (p ∷ ps) (l ∷ ls) walks =
      let n = p.entry.file.number in
      let path = p.path ++ p.entry.name ∷ [] in
      let others : All (Contains ls) ps = elim walks.1 [
        | inl into ↦ all_of_rest (Contains ls) (below path n into.1) ps (all_come (n ∷ entered) (below path n into.1 ++ ps) ls into.3)
        | inr passed ↦ all_come entered ps ls passed.1
      ] in
      All-cons (Contains (l ∷ ls)) p ps (subst (Contains (l ∷ ls)) walks.0 (at_head l ls)) (All-weaker (Contains ls) (Contains (l ∷ ls)) (Contains-append_right (l ∷ []) ls) ps others)

  -- each entry of directory n is on one of these lines
  abbrev pub IsCovered : ℕ → List Line → Type 0
  IsCovered n lines = (e : Listed) → HasEntry I L n e → (l : Line) × Contains lines l × (l.directory ≡ n) × (l.entry ≡ e)

  covered_more : (n : ℕ) (l : Line) (lines : List Line) → IsCovered n lines → IsCovered n (l ∷ lines)
  covered_more n l lines covered e has = let found = covered e has in (found.0, Contains-append_right (l ∷ []) lines found.0 found.1, found.2, found.3)

  -- the entries of a directory whose lines are to come are on the walk
  pub covered_by : (path : List RadName) (n : ℕ) (entries : List Listed) (lines : List Line) → IsListing I L n entries → All (Contains lines) (below path n entries) → IsCovered n lines
  covered_by path n entries lines listing come e has =
      let among : Contains entries e = same_entries n has.lines entries e has.listing listing has.among in
      let line : Line = record { path = path; directory = n; entry = e } in
      (line, All-contains (Contains lines) (below path n entries) line come (contains_map (λ (x : Listed). record { path = path; directory = n; entry = x }) entries e among), refl, refl)

  -- What is entered at the end of a walk: what was entered before, and directories whose entries are on its lines; and each directory that a line names.
  pub record Ends (entered : List ℕ) (lines : List Line) : Type 0 where
    pub final : List ℕ
    pub grows : (n : ℕ) → Contains entered n → Contains final n
    pub covered : (n : ℕ) → Contains final n → Contains entered n ⊎ IsCovered n lines
    pub into : (l : Line) → Contains lines l → NamesDirectory I L l.entry → Contains final l.entry.file.number

  pub ends : (entered : List ℕ) (pending lines : List Line) → Walks I L entered pending lines → Ends entered lines
  ends entered [] [] walks = record {
    final = entered;
    grows = λ n has. has;
    covered = λ n has. inl has;
    into = λ l none names. let none_below : none.0 < 0 = none.1 in absurd (omega arith);
  }
  ends entered [] (l ∷ ls) walks = absurd walks
  ends entered (p ∷ ps) [] walks = absurd walks
  ends entered (p ∷ ps) (l ∷ ls) walks = elim walks.1 [
    | inl into ↦ (
        let path = p.path ++ p.entry.name ∷ [] in
        let rest = ends (p.entry.file.number ∷ entered) (below path p.entry.file.number into.1 ++ ps) ls into.3 in
        let come = all_of_front (Contains ls) (below path p.entry.file.number into.1) ps (all_come (p.entry.file.number ∷ entered) (below path p.entry.file.number into.1 ++ ps) ls into.3) in
        record {
          final = rest.final;
          grows = λ n has. rest.grows n (Contains-append_right (p.entry.file.number ∷ []) entered n has);
          covered = λ n has. elim (rest.covered n has) [
            | inl before ↦ elim (first_or_other p.entry.file.number entered n before) [
              | inl same ↦ inr (subst (λ k. IsCovered k (l ∷ ls)) same (covered_more p.entry.file.number l ls (covered_by path p.entry.file.number into.1 ls into.2 come)))
              | inr old ↦ inl old
            ]
            | inr found ↦ inr (covered_more n l ls found)
          ];
          into = λ m has names. elim (first_or_other l ls m has) [
            | inl same ↦ subst (λ (x : Line). Contains rest.final x.entry.file.number) (sym walks.0 ∙ same) (rest.grows p.entry.file.number (at_head p.entry.file.number entered))
            | inr other ↦ rest.into m other names
          ];
        })
    | inr passed ↦ (
        let rest = ends entered ps ls passed.1 in
        record {
          final = rest.final;
          grows = rest.grows;
          covered = λ n has. elim (rest.covered n has) [ inl before ↦ inl before | inr found ↦ inr (covered_more n l ls found) ];
          into = λ m has names. elim (first_or_other l ls m has) [
            | inl same ↦ (
                let is : p ≡ m = sym walks.0 ∙ same in
                let named : NamesDirectory I L p.entry = subst (λ (x : Line). NamesDirectory I L x.entry) (sym is) names in
                elim (contains_or_not entered p.entry.file.number) [
                  | inl old ↦ subst (λ (x : Line). Contains rest.final x.entry.file.number) is (rest.grows p.entry.file.number old)
                  | inr new ↦ absurd (passed.0 (named, new))
                ])
            | inr other ↦ rest.into m other names
          ];
        })
  ]

  module _ (lines : List Line) (walk : IsWalkBelow I L 4 lines) where
    abbrev at_end : Ends (4 ∷ 4 ∷ []) lines
    at_end = ends (4 ∷ 4 ∷ []) (below [] 4 walk.0) lines walk.2

    covered_master : IsCovered 4 lines
    covered_master = covered_by [] 4 walk.0 lines walk.1 (all_come (4 ∷ 4 ∷ []) (below [] 4 walk.0) lines walk.2)

    covered_entered : (n : ℕ) → Contains at_end.final n → IsCovered n lines
    covered_entered n has = elim (at_end.covered n has) [
      | inl start ↦ elim (first_or_other 4 (4 ∷ []) n start) [
        | inl same ↦ subst (λ k. IsCovered k lines) same covered_master
        | inr again ↦ elim (first_or_other 4 [] n again) [ inl same ↦ subst (λ k. IsCovered k lines) same covered_master | inr none ↦ (let none_below : none.0 < 0 = none.1 in absurd (omega arith)) ]
      ]
      | inr found ↦ found
    ]

    -- what names lead to is entered
    reached : (n : ℕ) (names : List RadName) (m : ℕ) → Contains at_end.final n → LeadsTo I L n names m → Contains at_end.final m
    reached n [] m has same = subst (Contains at_end.final) same has
    reached n (name ∷ names) m has way =
        let found = covered_entered n has way.0 way.1 in
        let into : Contains at_end.final way.0.file.number =
        subst (λ (e : Listed). Contains at_end.final e.file.number) found.3 (at_end.into found.0 found.1 (subst (NamesDirectory I L) (sym found.3) way.3)) in
        reached way.0.file.number names m into way.4

    complete : IsComplete I L lines
    complete = record {
      only = λ l has. All-contains IsRight lines l (all_right (4 ∷ 4 ∷ []) (below [] 4 walk.0) lines (lines_right [] 4 walk.0 refl walk.1) walk.2) has;
      all = λ names n e way has. covered_entered n (reached 4 names n (at_end.grows 4 (at_head 4 (4 ∷ []))) way) e has;
    }

pub all_complete : WalksAreComplete
all_complete I L lines walk = complete I L lines walk
