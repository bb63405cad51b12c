-- A directory in which one entry is changed: the map of its names has one name more or less.
use Rattle.std.proofs.Common.{◌≡◌, ◌≢◌, ℕ, ◌/◌, ◌<◌, Bool, true, false, cond, List, Option, Some, None, is_some, refl, sym, ap, ◌∙◌, subst, arith, inl, inr}
use Rattle.std.proofs.lemmas.Bool.{cases_eq, cases_order}
use Rattle.std.specs.Cmp.Lexicographic.{nat_list_cmp_total}
use Rattle.std.specs.FinMap as names
use Rattle.std.specs.FinMap.{get-insert, get-remove, same_map, slice_cmp-IsAntisymmetric, nat_cmp-IsAntisymmetric}
use Rattle.ods_base.proofs.Picks.{keys_same, same_key}
use Rattle.ods_base.specs.declared.file_id.FileId.{FileId}
use Rattle.ods_directory.specs.Entry.{IsGoodEntry, is_used, entry_at}
use Rattle.ods_directory.specs.Names.{IsDirectory, names_of}
use Rattle.ods_directory.proofs.Used.{by_positions, from_positions}
use Rattle.ods_directory.proofs.Keyed.{same_key-itself, same_option}
use Rattle.ods_directory.proofs.Lookups.{IsEntered, entry_of_name, name_of_entry}

none_of : (o : Option FileId) → ((f : FileId) → ¬ (o ≡ Some f)) → o ≡ None
none_of None absent = refl
none_of (Some f) absent = absurd (absent f refl)

-- all entries before the new mark but entry k are those before the old mark
pub record IsSameBut (old new : List (List ℕ)) (mark next k : ℕ) : Type 0 where
  pub kept : (i : ℕ) → i < next / 16 → i ≢ k → (i < mark / 16) × (entry_at new i ≡ entry_at old i)
  pub back : (i : ℕ) → i < mark / 16 → i < next / 16

module _ (old new : List (List ℕ)) (mark next k : ℕ) (same : IsSameBut old new mark next k) where
  abbrev was_entered : (q : List ℕ) (f : FileId) (h : IsEntered (entry_at new) (next / 16) q f) → h.at ≢ k → IsEntered (entry_at old) (mark / 16) q f
  was_entered q f h apart =
      let e = same.kept h.at h.below apart in
      record { at = h.at; below = e.0; used = ap is_used (sym e.1) ∙ h.used; key = ap (λ x. x.key) (sym e.1) ∙ h.key; file = ap (λ x. x.file) (sym e.1) ∙ h.file }

  is_entered : (q : List ℕ) (f : FileId) (h : IsEntered (entry_at old) (mark / 16) q f) → h.at ≢ k → IsEntered (entry_at new) (next / 16) q f
  is_entered q f h apart =
      let below = same.back h.at h.below in
      let e = (same.kept h.at below apart).1 in
      record { at = h.at; below = below; used = ap is_used e ∙ h.used; key = ap (λ x. x.key) e ∙ h.key; file = ap (λ x. x.file) e ∙ h.file }

-- entry k is emptied
module _ (old new : List (List ℕ)) (mark k : ℕ) (same : IsSameBut old new mark mark k) (directory : IsDirectory old mark)
    (inside : k < mark / 16) (used : is_used (entry_at old k) ≡ true) (gone : is_used (entry_at new k) ≡ false) where
  other : (i : ℕ) → is_used (entry_at new i) ≡ true → i ≢ k
  other i there e = let clash : true ≡ false = sym there ∙ ap (λ j. is_used (entry_at new j)) e ∙ gone in absurd (cc)

  pub directory_less : IsDirectory new mark
  directory_less =
      let was = by_positions old mark directory in
      from_positions new mark (record {
        good = λ i below there.
            let e = (same.kept i below (other i there)).1 in
            subst IsGoodEntry (sym e) (was.good i below (ap is_used (sym e) ∙ there));
        apart = λ i j from below within used_i used_j.
            let e = (same.kept i (omega arith) (other i used_i)).1 in
            let f = (same.kept j (omega arith) (other j used_j)).1 in
            λ keys. was.apart i j from below within (ap is_used (sym e) ∙ used_i) (ap is_used (sym f) ∙ used_j) (ap (λ x. x.key) (sym e) ∙ keys ∙ ap (λ x. x.key) f);
      })

  -- no other entry had that key
  alone : (i : ℕ) → i < mark / 16 → is_used (entry_at old i) ≡ true → (entry_at old i).key ≡ (entry_at old k).key → i ≡ k
  alone i below there keys =
      let apart = (by_positions old mark directory).apart in
      elim (cases_order i k) [
        | inl e ↦ e
        | inr o ↦ elim o [
          | inl before ↦ absurd (apart i k (omega arith) before (omega arith) there used keys)
          | inr behind ↦ absurd (apart k i (omega arith) behind (omega arith) used there (sym keys))
        ]
      ]

  pub names_less : names_of new mark ≡ names.remove (names_of old mark) (entry_at old k).key
  names_less = same_map nat_list_cmp_total (slice_cmp-IsAntisymmetric nat_cmp-IsAntisymmetric) _ _ (λ q. by q (same_key q (entry_at old k).key) refl ∙ sym (get-remove nat_list_cmp_total (names_of old mark) (entry_at old k).key q))
    where
      by : (q : List ℕ) (b : Bool) → same_key q (entry_at old k).key ≡ b → names.get (names_of new mark) q ≡ cond b None (names.get (names_of old mark) q)
      by q true e = none_of (names.get (names_of new mark) q) (λ f h.
          let there = entry_of_name new mark q f h in
          let was = was_entered old new mark mark k same q f there (other there.at there.used) in
          other there.at there.used (alone was.at was.below was.used (was.key ∙ keys_same q (entry_at old k).key e)))
      by q false e = same_option (names.get (names_of new mark) q) (names.get (names_of old mark) q)
          (λ f h. let there = entry_of_name new mark q f h in name_of_entry old mark q f directory (was_entered old new mark mark k same q f there (other there.at there.used)))
          (λ f h.
          let there = entry_of_name old mark q f h in
          let apart : there.at ≢ k = λ g. let same_q : same_key q (entry_at old k).key ≡ true = subst (λ x. same_key q x ≡ true) (sym there.key ∙ ap (λ i. (entry_at old i).key) g) (same_key-itself q q refl) in let clash : true ≡ false = sym same_q ∙ e in absurd (cc) in
          name_of_entry new mark q f directory_less (is_entered old new mark mark k same q f there apart))

-- entry k is filled
module _ (old new : List (List ℕ)) (mark next k : ℕ) (key : List ℕ) (file : FileId) (same : IsSameBut old new mark next k) (directory : IsDirectory old mark)
    (inside : k < next / 16) (free : k < mark / 16 → is_used (entry_at old k) ≡ false)
    (used : is_used (entry_at new k) ≡ true) (here : (entry_at new k).key ≡ key) (named : (entry_at new k).file ≡ file) (good : IsGoodEntry (entry_at new k))
    (absent : names.contains_key (names_of old mark) key ≡ true → ⊥) where
  -- no entry had the new key
  fresh : (i : ℕ) → i < mark / 16 → is_used (entry_at old i) ≡ true → (entry_at old i).key ≢ key
  fresh i below there keys = absent (ap is_some (name_of_entry old mark key (entry_at old i).file directory (record { at = i; below = below; used = there; key = keys; file = refl })))

  not_free : (i : ℕ) → i < mark / 16 → is_used (entry_at old i) ≡ true → i ≢ k
  not_free i below there e =
      let empty : is_used (entry_at old k) ≡ false = free (subst (λ j. j < mark / 16) e below) in
      let clash : true ≡ false = sym there ∙ ap (λ j. is_used (entry_at old j)) e ∙ empty in absurd (cc)

  -- the key of another entry is not the new one
  other_key : (i : ℕ) → i < next / 16 → i ≢ k → is_used (entry_at new i) ≡ true → (entry_at new i).key ≢ key
  other_key i below apart there keys =
      let e = same.kept i below apart in
      fresh i e.0 (ap is_used (sym e.1) ∙ there) (ap (λ x. x.key) (sym e.1) ∙ keys)

  pub directory_more : IsDirectory new next
  directory_more =
      let was = by_positions old mark directory in
      from_positions new next (record {
        good = λ i below there. elim (cases_eq i k) [
          | inl e ↦ subst (λ j. IsGoodEntry (entry_at new j)) (sym e) good
          | inr apart ↦ let e = same.kept i below apart in subst IsGoodEntry (sym e.1) (was.good i e.0 (ap is_used (sym e.1) ∙ there))
        ];
        apart = λ i j from below within used_i used_j keys. elim (cases_eq i k) [
          | inl e ↦ other_key j (omega arith) (λ g. absurd (omega arith)) used_j (sym keys ∙ ap (λ n. (entry_at new n).key) e ∙ here)
          | inr apart_i ↦ elim (cases_eq j k) [
            | inl f ↦ other_key i (omega arith) apart_i used_i (keys ∙ ap (λ n. (entry_at new n).key) f ∙ here)
            | inr apart_j ↦
                let e = same.kept i (omega arith) apart_i in
                let f = same.kept j (omega arith) apart_j in
                was.apart i j from below (omega (arith, f.0)) (ap is_used (sym e.1) ∙ used_i) (ap is_used (sym f.1) ∙ used_j) (ap (λ x. x.key) (sym e.1) ∙ keys ∙ ap (λ x. x.key) f.1)
          ]
        ];
      })

  pub names_more : names_of new next ≡ names.insert (names_of old mark) key file
  names_more = same_map nat_list_cmp_total (slice_cmp-IsAntisymmetric nat_cmp-IsAntisymmetric) _ _ (λ q. by q (same_key q key) refl ∙ sym (get-insert nat_list_cmp_total (names_of old mark) key file q))
    where
      different : (q : List ℕ) → same_key q key ≡ false → q ≢ key
      different q e g = let clash : true ≡ false = sym (same_key-itself q key g) ∙ e in absurd (cc)

      by : (q : List ℕ) (b : Bool) → same_key q key ≡ b → names.get (names_of new next) q ≡ cond b (Some file) (names.get (names_of old mark) q)
      by q true e = name_of_entry new next q file directory_more (record { at = k; below = inside; used = used; key = here ∙ sym (keys_same q key e); file = named })
      by q false e = same_option (names.get (names_of new next) q) (names.get (names_of old mark) q)
          (λ f h.
          let there = entry_of_name new next q f h in
          let apart : there.at ≢ k = λ g. different q e (sym there.key ∙ ap (λ n. (entry_at new n).key) g ∙ here) in
          name_of_entry old mark q f directory (was_entered old new mark next k same q f there apart))
          (λ f h.
          let there = entry_of_name old mark q f h in
          name_of_entry new next q f directory_more (is_entered old new mark next k same q f there (not_free there.at there.below there.used)))
