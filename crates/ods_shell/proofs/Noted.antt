-- The lines that are noted of the files' numbers: an entry more, and a directory more.
use Rattle.std.proofs.Common.{◌≡◌, ◌≢◌, ◌⊎◌, inl, inr, ℕ, zero, suc, ◌+◌, ◌<◌, ◌≤◌, refl, sym, ap, ◌∙◌, subst, List, [], ◌∷◌, ◌++◌, length, take, Option, Some, None, arith}
use Rattle.std.specs.Prelude.{MatchOption, replicate, slice_get, slice_index_or, slice_set}
use Rattle.std.specs.List.{Contains}
use Rattle.std.proofs.lemmas.Bool.{cases_eq, cases_lt}
use Rattle.std.proofs.lemmas.List.{get_or-set_same, get_or-set_other, length-set, take_more, take_all}
use Rattle.std.proofs.lemmas.List.Elements.{Contains-push_cases}
use Rattle.std.proofs.lemmas.Option.{slice_get_within, get_or_from_slice_get}
use Rattle.ods_base.specs.Name.{RadName}
use Rattle.ods_base.specs.declared.listed.Listed.{Listed}
use Rattle.ods_space.specs.Layout.{VolumeLayout}
use Rattle.ods_mount.specs.Faults.{IsDirectoryFile}
use Rattle.ods_walk.specs.Complete.{AreReached, HasEntry, LeadsPast}
use Rattle.ods_walk.specs.Listing.{IsListing}
use Rattle.ods_walk.specs.Paths.{number_at, path_to}
use Rattle.ods_walk.specs.declared.tables.Entered.{Entered}
use Rattle.ods_walk.specs.declared.tables.Line.{Line}
use Rattle.ods_walk.proofs.Completeness.{same_entries}
use Rattle.ods_shell.specs.ByNumber.{AreNoted, AreOthers, AreWithout, IsNameOf, NamesFile}
use Rattle.ods_shell.specs.Found.{placed}
use Rattle.ods_shell.specs.There.{IsThere}

-- The directory at this place is read up to so many of its entries.
pub record IsNoting (I : List (List ℕ)) (L : VolumeLayout) (directories : List Entered) (place : ℕ) (entries : List Listed) (many : ℕ) (first : List (Option Line)) : Type 0 where
  pub size : length first ≡ 65536
  pub each : (n : ℕ) → n < 65536 → MatchOption (slice_index_or first n None) (AreWithout I L directories place n × AreOthers I L n (take many entries)) (IsNameOf I L directories n)

-- what is said of a value that is there, and what of none
noted_on : {X : Type 0} (P R : Type 0) (Q : X → Type 0) (o : Option X) → (P → R) → MatchOption o P Q → MatchOption o R Q
noted_on P R Q None on is = on is
noted_on P R Q (Some x) on is = is

noted_already : {X : Type 0} (P R : Type 0) (Q : X → Type 0) (o : Option X) → o ≢ None → MatchOption o P Q → MatchOption o R Q
noted_already P R Q None some is = absurd (some refl)
noted_already P R Q (Some x) some is = is

none_at : {X : Type 0} (P : Type 0) (Q : X → Type 0) (o : Option X) → o ≡ None → P → MatchOption o P Q
none_at P Q o none is = subst (λ q. MatchOption q P Q) (sym none) is

-- a list of nothing has nothing anywhere
abbrev nothing : Option Line
nothing = None

nothing_at : (count n : ℕ) → slice_index_or (replicate count nothing) n nothing ≡ nothing
nothing_at zero n = refl
nothing_at (suc count) zero = refl
nothing_at (suc count) (suc n) = nothing_at count n

pub all_none : (xs : List (Option Line)) (count : ℕ) → xs ≡ replicate count None → (n : ℕ) → slice_index_or xs n None ≡ None
all_none xs count none n = ap (λ (l : List (Option Line)). slice_index_or l n None) none ∙ nothing_at count n

none_seen : (I : List (List ℕ)) (L : VolumeLayout) (n : ℕ) → AreOthers I L n []
none_seen I L n e none = let none_below : none.0 < 0 = none.1 in absurd (omega arith)

-- names lead to directories alone
leads_to_directory : (I : List (List ℕ)) (L : VolumeLayout) (shut : List ℕ) (n : ℕ) (names : List RadName) (m : ℕ) → IsDirectoryFile I L n → LeadsPast I L shut n names m → IsDirectoryFile I L m
leads_to_directory I L shut n [] m is same = subst (IsDirectoryFile I L) same is
leads_to_directory I L shut n (name ∷ names) m is way = leads_to_directory I L shut way.0.file.number names m way.3.file way.5

module _ {I : List (List ℕ)} {L : VolumeLayout} where
  pub are_directories : (directories : List Entered) (place : ℕ) → IsDirectoryFile I L 4 → AreReached I L 4 (4 ∷ []) directories → place < length directories → IsDirectoryFile I L (number_at directories place)
  are_directories directories place master reached within = leads_to_directory I L (4 ∷ []) 4 (path_to directories place) (number_at directories place) master (reached.only place within)

  -- nothing is noted before the first directory
  pub none_noted : (directories : List Entered) (first : List (Option Line)) → length first ≡ 65536 → ((n : ℕ) → slice_index_or first n None ≡ None) → AreNoted I L directories 0 first
  none_noted directories first size none = record {
    size = size;
    each = λ n low. none_at _ _ (slice_index_or first n None) (none n) (λ p e below. absurd (omega (arith, below)));
  }

  module _ {directories : List Entered} {place : ℕ} where
    pub begin_noting : (entries : List Listed) (first : List (Option Line)) → AreNoted I L directories place first → IsNoting I L directories place entries 0 first
    begin_noting entries first so = record { size = so.size; each = λ n low. noted_on _ _ _ (slice_index_or first n None) (λ without. (without, none_seen I L n)) (so.each n low) }

    module _ {entries : List Listed} {many : ℕ} {first : List (Option Line)} (so : IsNoting I L directories place entries many first) where
      -- an entry that does not name file n
      other_on : (n : ℕ) (e : Listed) → slice_get entries many ≡ Some e → ¬ NamesFile I L n e → AreWithout I L directories place n × AreOthers I L n (take many entries)
          → AreWithout I L directories place n × AreOthers I L n (take (many + 1) entries)
      other_on n e here other are =
          let longer : take (many + 1) entries ≡ take many entries ++ e ∷ [] =
          take_more entries many e (slice_get_within entries many e here) ∙ ap (λ y. take many entries ++ y ∷ []) (get_or_from_slice_get entries many e e here) in (
            are.0,
            λ x has. elim (Contains-push_cases (take many entries) e x (subst (λ l. Contains l x) longer has)) [
              | inl old ↦ are.1 x old
              | inr same ↦ subst (λ y. ¬ NamesFile I L n y) same other
            ],
          )

      -- one more entry
      pub noting_on : (e : Listed) (new : List (Option Line)) → slice_get entries many ≡ Some e → HasEntry I L (number_at directories place) e → place < length directories → e.file.number < 65536
          → (IsThere I L e.file × (slice_index_or first e.file.number None ≡ None) × (new ≡ slice_set first e.file.number (Some (placed place e))))
          ⊎ (((¬ IsThere I L e.file) ⊎ (slice_index_or first e.file.number None ≢ None)) × (new ≡ first))
          → IsNoting I L directories place entries (many + 1) new
      noting_on e new here has within small (inl put) = record {
        size = ap length put.2 ∙ length-set first e.file.number (Some (placed place e)) ∙ so.size;
        each = λ n low. elim (cases_eq n e.file.number) [
          | inl same ↦
              let inside : e.file.number < length first = let size = so.size in omega (arith, small, size) in
              let value : slice_index_or new n None ≡ Some (placed place e) =
              ap (λ l. slice_index_or l n None) put.2 ∙ ap (λ k. slice_index_or (slice_set first e.file.number (Some (placed place e))) k None) same ∙ get_or-set_same first e.file.number (Some (placed place e)) None inside in
              let is : IsNameOf I L directories n (placed place e) = record { within = within; has = has; names = (put.0, sym same) } in
              subst (λ o. MatchOption o (AreWithout I L directories place n × AreOthers I L n (take (many + 1) entries)) (IsNameOf I L directories n)) (sym value) is
          | inr other ↦
              let value : slice_index_or new n None ≡ slice_index_or first n None = ap (λ l. slice_index_or l n None) put.2 ∙ get_or-set_other first e.file.number n (Some (placed place e)) None other in
              subst (λ o. MatchOption o (AreWithout I L directories place n × AreOthers I L n (take (many + 1) entries)) (IsNameOf I L directories n)) (sym value)
              (noted_on _ _ _ (slice_index_or first n None) (other_on n e here (λ is. other (sym is.1))) (so.each n low))
        ];
      }
      noting_on e new here has within small (inr kept) = record {
        size = ap length kept.1 ∙ so.size;
        each = λ n low. subst (λ l. MatchOption (slice_index_or l n None) (AreWithout I L directories place n × AreOthers I L n (take (many + 1) entries)) (IsNameOf I L directories n)) (sym kept.1) (elim kept.0 [
          | inl none ↦ noted_on _ _ _ (slice_index_or first n None) (other_on n e here (λ is. none is.0)) (so.each n low)
          | inr some ↦ elim (cases_eq n e.file.number) [
            | inl same ↦ noted_already _ _ _ (slice_index_or first n None) (λ empty. some (ap (λ k. slice_index_or first k None) (sym same) ∙ empty)) (so.each n low)
            | inr other ↦ noted_on _ _ _ (slice_index_or first n None) (other_on n e here (λ is. other (sym is.1))) (so.each n low)
          ]
        ]);
      }

      -- one more directory
      pub directory_noted : IsListing I L (number_at directories place) entries → length entries ≤ many → AreNoted I L directories (place + 1) first
      directory_noted listing past = record {
        size = so.size;
        each = λ n low. noted_on _ _ _ (slice_index_or first n None)
            (λ are p e below has. elim (cases_lt p place) [
              | inl before ↦ are.0 p e before has
              | inr not_before ↦ (
                  let same : p ≡ place = omega (arith, below, not_before) in
                  let own : HasEntry I L (number_at directories place) e = subst (λ k. HasEntry I L (number_at directories k) e) same has in
                  are.1 e (subst (λ l. Contains l e) (sym (take_all many entries past)) (same_entries I L (number_at directories place) own.lines entries e own.listing listing own.among)))
            ])
            (so.each n low);
      }
