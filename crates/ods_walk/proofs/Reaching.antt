-- What a walk reaches: past the shut directories each one to which names lead, and none twice.
use Rattle.std.proofs.Common.{◌≡◌, ◌⊎◌, inl, inr, ℕ, ◌<◌, refl, sym, subst, List, [], ◌∷◌, ◌++◌, length, map, Some, None, arith}
use Rattle.std.specs.List.{All, Contains}
use Rattle.std.proofs.lemmas.List.Elements.{All-contains, Contains-append_left, Contains-append_right, Contains-append_cases, Contains-push, Contains-push_cases}
use Rattle.ods_base.specs.declared.listed.Listed.{Listed}
use Rattle.ods_space.specs.Layout.{VolumeLayout}
use Rattle.ods_walk.specs.declared.tables.Entered.{Entered}
use Rattle.ods_walk.specs.declared.tables.Line.{Line as Placed}
use Rattle.ods_walk.specs.Complete.{HasEntry, AreReached}
use Rattle.ods_walk.specs.Entering.{IsTable, numbers}
use Rattle.ods_walk.specs.Listing.{IsListing}
use Rattle.ods_walk.specs.Paths.{number_at}
use Rattle.ods_walk.specs.Steps.{placed}
use Rattle.ods_walk.specs.Walk.{NamesDirectory, IsWalkedInto}
use Rattle.ods_walk.proofs.Completeness.{first_or_other, contains_map, same_entries}
use Rattle.ods_walk.proofs.TableGrows.{all_reached, begin_table, not_into, old_or_new, table_on}

-- the entry is on one of these lines, passed or still to come
abbrev pub IsOn : List Placed → List Placed → Listed → Type 0
IsOn lines coming e = (l : Placed) × (Contains lines l ⊎ Contains coming l) × (l.entry ≡ e)

-- So far a walk has reached the directories of this table, past the shut ones. These numbers are entered, these lines are passed, and those are still to come.
pub record IsReaching (I : List (List ℕ)) (L : VolumeLayout) (start : ℕ) (shut : List ℕ) (table : List Entered) (entered : List ℕ) (lines coming : List Placed) : Type 0 where
  pub reached : IsTable I L start shut table entered
  pub into : (l : Placed) → Contains lines l → NamesDirectory I L l.entry → Contains entered l.entry.file.number
  pub covered : (n : ℕ) → Contains (numbers table) n → (e : Listed) → HasEntry I L n e → IsOn lines coming e

module _ {I : List (List ℕ)} {L : VolumeLayout} where
  -- so it begins
  pub begin_reaching : (start : ℕ) (shut : List ℕ) (entries : List Listed) (coming : List Placed) → IsListing I L start entries → coming ≡ map (placed 0) entries
      → IsReaching I L start shut (record { number = start; from = None } ∷ []) (start ∷ shut) [] coming
  begin_reaching start shut entries coming listing are =
      let e : Entered = record { number = start; from = None } in
      record {
        reached = begin_table start shut;
        into = λ l none it. (let none_below : none.0 < 0 = none.1 in absurd (omega arith));
        covered = λ n own x has. elim (Contains-push_cases [] start n own) [
          | inl none ↦ (let none_below : none.0 < 0 = none.1 in absurd (omega arith))
          | inr same ↦ (
              let among : Contains entries x = same_entries I L start has.lines entries x (subst (λ k. IsListing I L k has.lines) (sym same) has.listing) listing has.among in
              (placed 0 x, inr (subst (λ ls. Contains ls (placed 0 x)) (sym are) (contains_map (placed 0) entries x among)), refl))
        ];
      }

  module _ {start : ℕ} {shut : List ℕ} {table : List Entered} {entered : List ℕ} {lines coming : List Placed} (r : IsReaching I L start shut table entered lines coming) where
    -- what an entry of a directory of the table names is there too, where no line that is still to come is walked into
    module _ (past : All (λ l. ¬ IsWalkedInto I L entered l.entry) coming) where
      closes : (n : ℕ) (e : Listed) → Contains (numbers table) n → HasEntry I L n e → NamesDirectory I L e → Contains entered e.file.number
      closes n e has of it =
          let on = r.covered n has e of in
          let named : NamesDirectory I L on.0.entry = subst (NamesDirectory I L) (sym on.2) it in
          let there : Contains entered on.0.entry.file.number = elim on.1 [
            | inl passed ↦ r.into on.0 passed named
            | inr comes ↦ not_into entered on.0.entry (All-contains (λ (l : Placed). ¬ IsWalkedInto I L entered l.entry) coming on.0 past comes) named
          ] in
          subst (λ (x : Listed). Contains entered x.file.number) on.2 there

      -- nothing is left
      pub reaches_all : AreReached I L start shut table
      reaches_all = all_reached r.reached closes

    -- a directory is walked into
    module _
        (passed : List Placed) (line : Placed) (rest : List Placed) (order : coming ≡ passed ++ line ∷ rest) (past : All (λ l. ¬ IsWalkedInto I L entered l.entry) passed)
        (walked : IsWalkedInto I L entered line.entry) (right : HasEntry I L (number_at table line.directory) line.entry) (within : line.directory < length table) where
      abbrev n : ℕ
      n = line.entry.file.number

      abbrev new : Entered
      new = record { number = n; from = Some (line.directory, line.entry.name) }

      abbrev longer : List Entered
      longer = table ++ new ∷ []

      entered_still : (m : ℕ) → Contains entered m → Contains (n ∷ entered) m
      entered_still m has = Contains-append_right (n ∷ []) entered m has

      entered_new : Contains (n ∷ entered) n
      entered_new = Contains-append_left (n ∷ []) entered n (Contains-push [] n)

      abbrev after : List Placed
      after = lines ++ (passed ++ line ∷ [])

      into_more : (l : Placed) → Contains after l → NamesDirectory I L l.entry → Contains (n ∷ entered) l.entry.file.number
      into_more l has it = elim (Contains-append_cases lines (passed ++ line ∷ []) l has) [
        | inl old ↦ entered_still l.entry.file.number (r.into l old it)
        | inr more ↦ elim (Contains-push_cases passed line l more) [
          | inl by ↦ entered_still l.entry.file.number (not_into entered l.entry (All-contains (λ (x : Placed). ¬ IsWalkedInto I L entered x.entry) passed l past by) it)
          | inr same ↦ subst (λ (x : Placed). Contains (n ∷ entered) x.entry.file.number) same entered_new
        ]
      ]

      module _ (entries : List Listed) (listing : IsListing I L n entries) where
        abbrev next : List Placed
        next = map (placed (length table)) entries ++ rest

        -- a line that was passed or was to come is so still
        still_on : (l : Placed) → Contains lines l ⊎ Contains coming l → Contains after l ⊎ Contains next l
        still_on l on = elim on [
          | inl old ↦ inl (Contains-append_left lines (passed ++ line ∷ []) l old)
          | inr comes ↦ elim (Contains-append_cases passed (line ∷ rest) l (subst (λ ls. Contains ls l) order comes)) [
            | inl by ↦ inl (Contains-append_right lines (passed ++ line ∷ []) l (Contains-append_left passed (line ∷ []) l by))
            | inr ahead ↦ elim (first_or_other line rest l ahead) [
              | inl same ↦ inl (Contains-append_right lines (passed ++ line ∷ []) l (subst (Contains (passed ++ line ∷ [])) same (Contains-push passed line)))
              | inr later ↦ inr (Contains-append_right (map (placed (length table)) entries) rest l later)
            ]
          ]
        ]

        covered_more : (m : ℕ) → Contains (numbers longer) m → (e : Listed) → HasEntry I L m e → IsOn after next e
        covered_more m has e of = elim (old_or_new r.reached line.directory line.entry walked right within m has) [
          | inl old ↦ (let on = r.covered m old e of in (on.0, still_on on.0 on.1, on.2))
          | inr same ↦ (
              let x = placed (length table) e in
              let among : Contains entries e = same_entries I L n of.lines entries e (subst (λ k. IsListing I L k of.lines) (sym same) of.listing) listing of.among in
              (x, inr (Contains-append_left (map (placed (length table)) entries) rest x (contains_map (placed (length table)) entries e among)), refl))
        ]

        reaching_on : IsReaching I L start shut longer (n ∷ entered) after next
        reaching_on = record {
          reached = table_on r.reached line.directory line.entry walked right within;
          into = into_more;
          covered = covered_more;
        }

        -- the same of lists that are equal to these
        pub keeps_reaching : (lines_now coming_now : List Placed) → lines_now ≡ after → coming_now ≡ next → IsReaching I L start shut longer (n ∷ entered) lines_now coming_now
        keeps_reaching lines_now coming_now lines_are coming_are =
            subst (λ ls. IsReaching I L start shut longer (n ∷ entered) ls coming_now) (sym lines_are) (subst (λ ls. IsReaching I L start shut longer (n ∷ entered) after ls) (sym coming_are) reaching_on)
