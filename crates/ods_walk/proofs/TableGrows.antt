-- A table of directories that are entered, and one more; and why all are there in the end.
use Rattle.std.proofs.Common.{◌≡◌, ◌⊎◌, inl, inr, ℕ, ◌+◌, ◌<◌, ◌≤◌, refl, sym, ap, ◌∙◌, subst, Bool, true, false, List, [], ◌∷◌, ◌++◌, length, map, set, take, get_or, Some, None, arith}
use Rattle.std.specs.Prelude.{nat_eq, not, slice_get, slice_index_or}
use Rattle.std.specs.List.{Contains, IsDistinct, count_by, list_any}
use Rattle.std.specs.Option.{option_map, option_map_or}
use Rattle.std.specs.Cmp.{nat_eq_equiv}
use Rattle.std.proofs.lemmas.Bool.{cases_eq, cases_lt, ne_eqb}
use Rattle.std.proofs.lemmas.List.{map-append, length-map, length_push, take_more, take_all}
use Rattle.std.proofs.lemmas.List.Elements.{All-contains_itself, All-weaker, Contains-append_left, Contains-append_right, Contains-append_cases, Contains-push, Contains-push_cases}
use Rattle.std.proofs.lemmas.List.Folds.{list_any_none}
use Rattle.std.proofs.lemmas.Map.Keys.{IsDistinct-push}
use Rattle.std.proofs.lemmas.Option.{slice_get-map, slice_get-get_or, slice_get_within, get_or_from_slice_get}
use Rattle.ods_base.specs.Name.{RadName}
use Rattle.ods_base.specs.declared.listed.Listed.{Listed}
use Rattle.ods_space.specs.Layout.{VolumeLayout}
use Rattle.ods_mount.specs.Faults.{IsDirectoryFile}
use Rattle.ods_walk.specs.declared.tables.Entered.{Entered}
use Rattle.ods_walk.specs.Complete.{HasEntry, LeadsPast, AreReached}
use Rattle.ods_walk.specs.Entering.{IsTable, IsEntering, IsSeen, IsBounded, numbers, with_entered}
use Rattle.ods_walk.specs.Listing.{IsListing}
use Rattle.ods_walk.specs.Paths.{path_to, number_at}
use Rattle.ods_walk.specs.Steps.{AreEntered}
use Rattle.ods_walk.specs.Walk.{NamesDirectory, IsWalkedInto}
use Rattle.ods_walk.proofs.Completeness.{contains_or_not, first_or_other, same_entries}
use Rattle.ods_walk.proofs.Flagged.{entered_more, fewer_left}
use Rattle.ods_walk.proofs.Ways.{way_stays, way_of_new, number_stays, number_of_new}

-- no number is equal to one that is not there
not_there : (xs : List ℕ) (n : ℕ) → ¬ Contains xs n → list_any (nat_eq n) xs ≡ false
not_there xs n none =
    list_any_none (nat_eq n) xs (All-weaker (Contains xs) (λ x. nat_eq n x ≡ false) (λ x has. ne_eqb n x (λ same. none (subst (Contains xs) (sym same) has))) xs (All-contains_itself xs))

alone : (n : ℕ) → IsDistinct nat_eq (n ∷ [])
unfolding IsDistinct
alone n = (tt, tt)

-- an element at a place is among all, and the last of those up to there
contains_at : {X : Type 0} (xs : List X) (i : ℕ) (x : X) → slice_get xs i ≡ Some x → Contains xs x
contains_at xs i x here = (i, slice_get_within xs i x here, get_or_from_slice_get xs i x x here)

take_on : {X : Type 0} (xs : List X) (i : ℕ) (x : X) → slice_get xs i ≡ Some x → take (i + 1) xs ≡ take i xs ++ x ∷ []
take_on xs i x here = take_more xs i x (slice_get_within xs i x here) ∙ ap (λ y. take i xs ++ y ∷ []) (get_or_from_slice_get xs i x x here)

-- the directory with a number of the table stands at a place of it
place_of : (table : List Entered) (n : ℕ) → Contains (numbers table) n → (p : ℕ) × (p < length table) × (number_at table p ≡ n)
place_of table n has =
    let number : Entered → ℕ = λ d. d.number in
    let none : Entered = record { number = 0; from = None } in
    let p = has.0 in
    let inside : p < length table = subst (λ k. p < k) (length-map table number) has.1 in
    let at : slice_get table p ≡ Some (get_or table p none) = slice_get-get_or table p none inside in
    let named : slice_get (numbers table) p ≡ Some (number (get_or table p none)) = slice_get-map number table p ∙ ap (option_map number) at in
    let is : number_at table p ≡ number (get_or table p none) = ap (λ o. option_map_or number o 0) at in
    (p, inside, is ∙ sym (get_or_from_slice_get (numbers table) p (number (get_or table p none)) n named) ∙ has.2)

module _ {I : List (List ℕ)} {L : VolumeLayout} where
  -- one more name leads on
  past_on : (shut : List ℕ) (n : ℕ) (names : List RadName) (m : ℕ) (e : Listed) → LeadsPast I L shut n names m → HasEntry I L m e → NamesDirectory I L e → ¬ Contains shut e.file.number
      → LeadsPast I L shut n (names ++ e.name ∷ []) e.file.number
  past_on shut n [] m e same has it free = (e, subst (λ k. HasEntry I L k e) (sym same) has, refl, it, free, refl)
  past_on shut n (name ∷ names) m e way has it free = (way.0, way.1, way.2, way.3, way.4, past_on shut way.0.file.number names m e way.5 has it free)

  -- what is not walked into names no directory, or one that is entered
  pub not_into : (entered : List ℕ) (e : Listed) → ¬ IsWalkedInto I L entered e → NamesDirectory I L e → Contains entered e.file.number
  not_into entered e none it = elim (contains_or_not entered e.file.number) [ inl old ↦ old | inr new ↦ absurd (none (it, new)) ]

  -- so it begins
  pub begin_table : (start : ℕ) (shut : List ℕ) → IsTable I L start shut (record { number = start; from = None } ∷ []) (start ∷ shut)
  begin_table start shut =
      let e : Entered = record { number = start; from = None } in
      record {
        only = λ place within. (let first : place ≡ 0 = omega arith in subst (λ k. LeadsPast I L shut start (path_to (e ∷ []) k) (number_at (e ∷ []) k)) (sym first) refl);
        once = alone start;
        starts = Contains-push [] start;
        own = λ n has. Contains-append_left (start ∷ []) shut n has;
        closed = λ n has. Contains-append_right (start ∷ []) shut n has;
        no_other = λ n has. Contains-append_cases (start ∷ []) shut n has;
      }

  module _ {start : ℕ} {shut : List ℕ} {table : List Entered} {entered : List ℕ} (t : IsTable I L start shut table entered) where
    -- Where each directory that an entry names is entered, all are there.
    pub all_reached : ((n : ℕ) (e : Listed) → Contains (numbers table) n → HasEntry I L n e → NamesDirectory I L e → Contains entered e.file.number) → AreReached I L start shut table
    all_reached named = record { only = t.only; all = λ names m way. all_there start names m t.starts way; once = t.once }
      where
        all_there : (n : ℕ) (names : List RadName) (m : ℕ) → Contains (numbers table) n → LeadsPast I L shut n names m → Contains (numbers table) m
        all_there n [] m has same = subst (Contains (numbers table)) same has
        all_there n (name ∷ names) m has way =
            let own : Contains (numbers table) way.0.file.number = elim (t.no_other way.0.file.number (named n way.0 has way.1 way.3)) [ inl own ↦ own | inr closed ↦ absurd (way.4 closed) ] in
            all_there way.0.file.number names m own way.5

    -- the directory that this entry of the one at this place names is entered
    module _ (place : ℕ) (e : Listed) (walked : IsWalkedInto I L entered e) (right : HasEntry I L (number_at table place) e) (within : place < length table) where
      abbrev n : ℕ
      n = e.file.number

      abbrev new : Entered
      new = record { number = n; from = Some (place, e.name) }

      abbrev longer : List Entered
      longer = table ++ new ∷ []

      numbers_are : numbers longer ≡ numbers table ++ n ∷ []
      numbers_are = map-append (λ (d : Entered). d.number) table (new ∷ [])

      kept : (m : ℕ) → Contains (numbers table) m → Contains (numbers longer) m
      kept m has = subst (λ l. Contains l m) (sym numbers_are) (Contains-append_left (numbers table) (n ∷ []) m has)

      pub old_or_new : (m : ℕ) → Contains (numbers longer) m → Contains (numbers table) m ⊎ (n ≡ m)
      old_or_new m has = Contains-push_cases (numbers table) n m (subst (λ l. Contains l m) numbers_are has)

      entered_still : (m : ℕ) → Contains entered m → Contains (n ∷ entered) m
      entered_still m has = Contains-append_right (n ∷ []) entered m has

      -- the directory that is entered is the one to which its path leads
      leads_past : (at : ℕ) → at < length longer → LeadsPast I L shut start (path_to longer at) (number_at longer at)
      leads_past at inside = elim (cases_eq at (length table)) [
        | inl same ↦ (
            let free : ¬ Contains shut n = λ has. walked.1 (t.closed n has) in
            let way : LeadsPast I L shut start (path_to table place ++ e.name ∷ []) n = past_on shut start (path_to table place) (number_at table place) e (t.only place within) right walked.0 free in
            subst (λ k. LeadsPast I L shut start (path_to longer k) (number_at longer k)) (sym same)
            (subst (λ p. LeadsPast I L shut start p (number_at longer (length table))) (sym (way_of_new table new)) (subst (λ m. LeadsPast I L shut start (path_to table place ++ e.name ∷ []) m) (sym (number_of_new table new)) way)))
        | inr other ↦ (
            let size = length_push table new in
            let before : at < length table = omega arith in
            subst (λ p. LeadsPast I L shut start p (number_at longer at)) (sym (way_stays table new at before))
            (subst (λ m. LeadsPast I L shut start (path_to table at) m) (sym (number_stays table new at before)) (t.only at before)))
      ]

      pub table_on : IsTable I L start shut longer (n ∷ entered)
      table_on = record {
        only = leads_past;
        once = subst (IsDistinct nat_eq) (sym numbers_are) (IsDistinct-push nat_eq_equiv (numbers table) n t.once (not_there (numbers table) n (λ has. walked.1 (t.own n has))));
        starts = kept start t.starts;
        own = λ m has. elim (old_or_new m has) [ inl old ↦ entered_still m (t.own m old) | inr same ↦ subst (Contains (n ∷ entered)) same (Contains-append_left (n ∷ []) entered n (Contains-push [] n)) ];
        closed = λ m has. entered_still m (t.closed m has);
        no_other = λ m has. elim (first_or_other n entered m has) [
          | inl same ↦ inl (subst (λ l. Contains l m) (sym numbers_are) (subst (Contains (numbers table ++ n ∷ [])) same (Contains-push (numbers table) n)))
          | inr old ↦ elim (t.no_other m old) [ inl own ↦ inl (kept m own) | inr closed ↦ inr closed ]
        ];
      }

-- The directory at this place is read up to this entry: each directory that one of these entries names is entered.
pub record IsReading (I : List (List ℕ)) (L : VolumeLayout) (number : ℕ) (place : ℕ) (entries : List Listed) (many : ℕ) (flags : List Bool) (table : List Entered) : Type 0 where
  pub so : IsEntering I L flags table place
  pub number_is : number_at table place ≡ number
  pub within : place < length table
  pub named : (e : Listed) → Contains (take many entries) e → NamesDirectory I L e → Contains so.entered e.file.number

module _ {I : List (List ℕ)} {L : VolumeLayout} where
  -- before its first entry
  pub begin_reading : (flags : List Bool) (table : List Entered) (place : ℕ) (entries : List Listed) → IsEntering I L flags table place → place < length table
      → IsReading I L (number_at table place) place entries 0 flags table
  begin_reading flags table place entries so within = record {
    so = so;
    number_is = refl;
    within = within;
    named = λ e none it. (let none_below : none.0 < 0 = none.1 in absurd (omega arith));
  }

  module _ {flags : List Bool} {table : List Entered} {place : ℕ} (so : IsEntering I L flags table place) (e : Listed) (walked : IsWalkedInto I L so.entered e)
      (right : HasEntry I L (number_at table place) e) (within : place < length table) (small : e.file.number < 65536) where
    -- one more directory is entered
    entering_on : IsEntering I L (set flags e.file.number true) (with_entered table place e) place
    entering_on =
        let new : Entered = record { number = e.file.number; from = Some (place, e.name) } in
        let size = length_push table new in
        record {
          entered = e.file.number ∷ so.entered;
          are = entered_more flags so.entered e.file.number small so.are;
          reached = table_on so.reached place e walked right within;
          files = λ p inside. elim (cases_eq p (length table)) [
            | inl same ↦ subst (λ k. IsDirectoryFile I L (number_at (with_entered table place e) k)) (sym same) (subst (IsDirectoryFile I L) (sym (number_of_new table new)) walked.0.file)
            | inr other ↦ (let before : p < length table = omega arith in subst (IsDirectoryFile I L) (sym (number_stays table new p before)) (so.files p before))
          ];
          read = λ p x low inside has it. (
              let before : p < length table = omega arith in
              Contains-append_right (e.file.number ∷ []) so.entered x.file.number (so.read p x low before (subst (λ k. HasEntry I L k x) (number_stays table new p before) has) it));
        }

  module _ {number place : ℕ} {entries : List Listed} {many : ℕ} {flags : List Bool} {table : List Entered} (r : IsReading I L number place entries many flags table)
      (listing : IsListing I L number entries) where
    -- one more entry is seen
    pub seen_on : (e : Listed) (flags_after : List Bool) (after : List Entered) → slice_get entries many ≡ Some e → e.file.number < 65536 → IsSeen I L place e flags table flags_after after
        → IsReading I L number place entries (many + 1) flags_after after × IsBounded flags table flags_after after
    unfolding entering_on
    seen_on e flags_after after here small seen = elim (seen r.so.entered r.so.are) [
      | inl into ↦ (
          let new : Entered = record { number = e.file.number; from = Some (place, e.name) } in
          let right : HasEntry I L (number_at table place) e = subst (λ k. HasEntry I L k e) (sym r.number_is) (record { lines = entries; listing = listing; among = among_entries e here }) in
          let size = length_push table new in
          let on = entering_on r.so e into.0 right r.within small in
          let fewer = fewer_left flags r.so.entered e.file.number small r.so.are into.0.1 in
          let longer : IsReading I L number place entries (many + 1) (set flags e.file.number true) (with_entered table place e) = record {
            so = on;
            number_is = number_stays table new place r.within ∙ r.number_is;
            within = (let w = r.within in omega (arith, size, w));
            named = λ x has it. elim (up_to e here x has) [
              | inl old ↦ Contains-append_right (e.file.number ∷ []) r.so.entered x.file.number (r.named x old it)
              | inr same ↦ subst (λ (y : Listed). Contains (e.file.number ∷ r.so.entered) y.file.number) same (Contains-append_left (e.file.number ∷ []) r.so.entered e.file.number (Contains-push [] e.file.number))
            ];
          } in
          let bounded : IsBounded flags table (set flags e.file.number true) (with_entered table place e) = omega (arith, size, fewer) in (
            subst (λ t. IsReading I L number place entries (many + 1) flags_after t) (sym into.2) (subst (λ f. IsReading I L number place entries (many + 1) f (with_entered table place e)) (sym into.1) longer),
            subst (λ t. IsBounded flags table flags_after t) (sym into.2) (subst (λ f. IsBounded flags table f (with_entered table place e)) (sym into.1) bounded),
          ))
      | inr passed ↦ (
          let same : IsReading I L number place entries (many + 1) flags table = record {
            so = r.so;
            number_is = r.number_is;
            within = r.within;
            named = λ x has it. elim (up_to e here x has) [
              | inl old ↦ r.named x old it
              | inr same ↦ subst (λ (y : Listed). Contains r.so.entered y.file.number) same (not_into r.so.entered e passed.0 (subst (NamesDirectory I L) (sym same) it))
            ];
          } in (
            subst (λ t. IsReading I L number place entries (many + 1) flags_after t) (sym passed.2) (subst (λ f. IsReading I L number place entries (many + 1) f table) (sym passed.1) same),
            subst (λ t. IsBounded flags table flags_after t) (sym passed.2) (subst (λ f. IsBounded flags table f table) (sym passed.1) (omega arith)),
          ))
    ]
      where
        among_entries : (e : Listed) → slice_get entries many ≡ Some e → Contains entries e
        among_entries e here = contains_at entries many e here

        up_to : (e : Listed) → slice_get entries many ≡ Some e → (x : Listed) → Contains (take (many + 1) entries) x → Contains (take many entries) x ⊎ (e ≡ x)
        up_to e here x has = Contains-push_cases (take many entries) e x (subst (λ l. Contains l x) (take_on entries many e here) has)

    -- all entries are seen
    pub directory_read : length entries ≤ many → IsEntering I L flags table (place + 1)
    directory_read past = record {
      entered = r.so.entered;
      are = r.so.are;
      reached = r.so.reached;
      files = r.so.files;
      read = λ p e low inside has it. elim (cases_lt p place) [
        | inl before ↦ r.so.read p e before inside has it
        | inr not_before ↦ (
            let same : p ≡ place = omega (arith, low, not_before) in
            let own : HasEntry I L number e = subst (λ k. HasEntry I L k e) r.number_is (subst (λ k. HasEntry I L (number_at table k) e) same has) in
            r.named e (subst (λ l. Contains l e) (sym (take_all many entries past)) (same_entries I L number own.lines entries e own.listing listing own.among)) it)
      ];
    }

  -- all directories are read
  pub all_read : (flags : List Bool) (table : List Entered) (place : ℕ) → IsEntering I L flags table place → length table ≤ place → AreReached I L 4 (4 ∷ []) table
  all_read flags table place so past = all_reached so.reached (λ n e has of it.
      let at = place_of table n has in
      let low = at.1 in
      so.read at.0 e (omega (arith, low, past)) at.1 (subst (λ k. HasEntry I L k e) (sym at.2) of) it)

  -- none is read yet
  pub none_read : (flags : List Bool) → AreEntered flags (4 ∷ []) → IsDirectoryFile I L 4 → IsEntering I L flags (record { number = 4; from = None } ∷ []) 0
  none_read flags are file = record {
    entered = 4 ∷ [];
    are = are;
    reached = begin_alone;
    files = λ p inside. (let first : p ≡ 0 = omega arith in subst (λ k. IsDirectoryFile I L (number_at (record { number = 4; from = None } ∷ []) k)) (sym first) file);
    read = λ p e low. absurd (omega (arith, low));
  }
    where
      begin_alone : IsTable I L 4 (4 ∷ []) (record { number = 4; from = None } ∷ []) (4 ∷ [])
      begin_alone = let t = begin_table 4 (4 ∷ []) in record {
        only = t.only;
        once = t.once;
        starts = t.starts;
        own = λ n has. has;
        closed = λ n has. has;
        no_other = λ n has. inl has;
      }
