-- The entries of the one name that patterns can match are all that they match.
use Rattle.std.proofs.Common.{◌≡◌, ℕ, zero, suc, Bool, true, false, cond, inl, inr, List, [], ◌∷◌, ◌++◌, filter, length, Some, refl, sym, ap, ◌∙◌, subst, arith}
use Rattle.std.specs.List.{slice_get}
use Rattle.std.proofs.lemmas.Cmp.{nat_list_eq_equiv}
use Rattle.ods_base.specs.Name.{IsName, RadName}
use Rattle.ods_base.specs.Names.{is_of}
use Rattle.ods_base.specs.declared.listed.Listed.{Listed}
use Rattle.ods_paths.specs.Paths.{Files}
use Rattle.ods_space.specs.Layout.{VolumeLayout}
use Rattle.ods_walk.specs.Listing.{AreEntries, has_name}
use Rattle.ods_walk.proofs.NamedEntries.{shown_names}
use Rattle.ods_shell.specs.Choosing.{AreThose}
use Rattle.ods_shell.specs.Matched.{AreLikely, HasTitle, HasType, IsMatchedLine, IsOnly}

-- a name with the words of the title and of the type is the only one
pub joined_is : (files : Files) (title kind : RadName) → HasTitle files.name (Some title) → HasType files.kind (Some kind) → IsOnly files (Some (record { words = title.words; ext = kind.ext }))
joined_is files title kind has_title has_type = λ n name matched. let words = has_title n name matched.0 in let ext = has_type n name matched.1 in λ i. record { words = words i; ext = ext i }

-- a key of a name is one of that name
own_key : (words : List ℕ) (ext version : ℕ) → length words ≡ 3 → is_of (record { words = words; ext = ext }) (words ++ ext ∷ version ∷ []) ≡ true
own_key [] ext version three = absurd (omega (arith, three))
own_key (a ∷ []) ext version three = absurd (omega (arith, three))
own_key (a ∷ b ∷ []) ext version three = absurd (omega (arith, three))
own_key (a ∷ b ∷ c ∷ []) ext version three = nat_list_eq_equiv.refl (a ∷ b ∷ c ∷ ext ∷ version ∷ [])
own_key (a ∷ b ∷ c ∷ d ∷ words) ext version three = absurd (omega (arith, three))

-- those of which P holds are among those that pass the test, where it holds of no other
kept_by : {X : Type 0} (q : X → Bool) (P : X → Type 0) (xs : List X) → ((k : ℕ) (x : X) → slice_get xs k ≡ Some x → q x ≡ false → ¬ P x) → (those : List X) → AreThose P (filter q xs) those → AreThose P xs those
kept_by q P [] other those are = are
kept_by {X} q P (x ∷ xs) other those are = by (q x) refl those are (kept_by q P xs (λ k y at. other (suc k) y at))
  where
    by : (b : Bool) → q x ≡ b → (those : List X) → AreThose P (cond b (x ∷ filter q xs) (filter q xs)) those → ((some : List X) → AreThose P (filter q xs) some → AreThose P xs some) → AreThose P (x ∷ xs) those
    by true is those (inl taken) rest = inl (taken.0, taken.1, taken.2, rest taken.1 taken.3)
    by true is those (inr passed) rest = inr (passed.0, rest those passed.1)
    by false is those are rest = inr (other 0 x refl is, rest those are)

-- the entries of the only name are all that are matched
pub only_likely : (I : List (List ℕ)) (L : VolumeLayout) (files : Files) (n : ℕ) (one : RadName) (entries found : List Listed) → IsOnly files (Some one) → AreEntries I L n entries
    → found ≡ filter (has_name one) entries → AreLikely I L files n found
only_likely I L files n one entries found only are so = (
  entries,
  are,
  λ those kept. kept_by (has_name one) (IsMatchedLine files) entries
      (λ k e at other matched.
      let name = shown_names I L n entries are k e at in
      let same : e.name ≡ one = only e.name name matched in
      let clash : true ≡ false = sym (own_key e.name.words e.name.ext e.version name.three) ∙ ap (λ m. has_name m e) same ∙ other in
      absurd (cc))
      those (subst (λ ls. AreThose (IsMatchedLine files) ls those) so kept),
)

-- so are all entries
pub all_likely : (I : List (List ℕ)) (L : VolumeLayout) (files : Files) (n : ℕ) (entries : List Listed) → AreEntries I L n entries → AreLikely I L files n entries
all_likely I L files n entries are = (entries, are, λ those kept. kept)
