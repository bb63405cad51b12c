-- Lines of the master directory that name a file of the system.
use Rattle.std.proofs.Common.{◌≡◌, ℕ, ◌+◌, ◌<◌, ◌≤◌, Bool, true, false, not, length, List, inl, inr, sym, subst, ap, ◌∙◌, arith}
use Rattle.std.specs.List.{All, Contains}
use Rattle.std.specs.Prelude.{MatchBool, slice_get, slice_index_or, Some}
use Rattle.std.proofs.lemmas.Bool.{cases_lt}
use Rattle.std.proofs.lemmas.List.Elements.{All-contains}
use Rattle.std.proofs.lemmas.Option.{slice_get-get_or}
use Rattle.ods_base.specs.declared.listed.Listed.{Listed}
use Rattle.ods_header.specs.Header.{sequence_of}
use Rattle.ods_space.specs.Layout.{VolumeLayout, header_at}
use Rattle.ods_space.specs.Files.{IsFile}
use Rattle.ods_check.specs.Findings.{IsRead, HasName, AreNames, IsUnnamed, IsSystemFile, IsLineOf, system_words}

-- none of the first i lines has P
abbrev pub NoneBefore : (Listed → Type 0) → List Listed → ℕ → Type 0
NoneBefore P lines i = (k : ℕ) (line : Listed) → k < i → slice_get lines k ≡ Some line → ¬ P line

module _ (P : Listed → Type 0) (lines : List Listed) where
  pub none_before : NoneBefore P lines 0
  none_before k line low at = absurd (omega arith)

  pub one_more : (i : ℕ) (x : Listed) → slice_get lines i ≡ Some x → NoneBefore P lines i → ¬ P x → NoneBefore P lines (i + 1)
  one_more i x here before none k line low at = elim (cases_lt k i) [
    | inl less ↦ before k line less at
    | inr more ↦
        let e : i ≡ k = omega arith in
        let found : Some x ≡ Some line = sym here ∙ ap (slice_get lines) e ∙ at in
        let is : x ≡ line = cc in
        λ h. none (subst P (sym is) h)
  ]

  pub one_at : (i : ℕ) (x : Listed) → i < length lines → x ≡ slice_index_or lines i x → P x → (line : Listed) × Contains lines line × P line
  one_at i x low is h = (x, (i, low, sym is), h)

  pub none_of : (i : ℕ) → length lines ≤ i → NoneBefore P lines i → (line : Listed) → Contains lines line → ¬ P line
  none_of i all before line there = before there.0 line (let low = there.1 in omega arith) (slice_get-get_or lines there.0 line there.1 ∙ ap Some there.2)

module _ (I : List (List ℕ)) (L : VolumeLayout) (n : ℕ) where
  -- a file of the system is unnamed just where none of the lines names it
  pub unnamed_is : (lines : List Listed) (words : List ℕ) (s : ℕ) (named : Bool) → IsSystemFile n → IsFile I L n → IsRead I L 4 → AreNames I L 4 lines → words ≡ system_words n → s ≡ sequence_of (header_at I L n)
      → MatchBool named ((line : Listed) × Contains lines line × IsLineOf words n s line) ((line : Listed) → Contains lines line → ¬ IsLineOf words n s line)
      → MatchBool (not named) (IsUnnamed I L n) (¬ IsUnnamed I L n)
  unnamed_is lines words s true system file read are word number h = λ u.
      let P : List ℕ → Type 0 = λ w. IsLineOf w n (sequence_of (header_at I L n)) h.0 in
      let Q : ℕ → Type 0 = λ k. IsLineOf words n k h.0 in
      u.none h.0 (All-contains (HasName I L 4) lines h.0 are.each h.1) (subst P word (subst Q number h.2))
  unnamed_is lines words s false system file read are word number h = record {
    system = system;
    file = file;
    read = read;
    none = λ line has is.
        let P : List ℕ → Type 0 = λ w. IsLineOf w n (sequence_of (header_at I L n)) line in
        let Q : ℕ → Type 0 = λ k. IsLineOf words n k line in
        h line (are.all line has) (subst Q (sym number) (subst P (sym word) is));
  }
