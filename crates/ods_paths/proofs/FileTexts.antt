-- The parts of a text of files.
use Rattle.std.proofs.Common.{◌≡◌, ◌↔◌, ℕ, ◌+◌, ◌-◌, ◌⊎◌, List, length, take, drop, Bool, true, false, Option, Some, None, sym, ap, ◌∙◌, subst, arith}
use Rattle.std.specs.Prelude.{codes}
use Rattle.std.specs.Bool.{IsTrue}
use Rattle.std.specs.List.{position_or_len, before_first, after_first}
use Rattle.std.proofs.lemmas.List.{take_all, drop_all, take_rest}
use Rattle.ods_paths.specs.declared.versions.Versions.{Versions}
use Rattle.ods_text.specs.Cuts.{is, Has, Lacks, cut_of}
use Rattle.ods_paths.specs.Patterns.{IsPattern, has_wildcard, capitals}
use Rattle.ods_paths.specs.Paths.{SpellsFiles, IsVersions, IsDotted, name_text, kind_in, kind_text, begins_version}

-- a text that lacks the byte stands before it as a whole, and nothing behind it
pub whole_before : (c : ℕ) (text : List ℕ) → Lacks c text → text ≡ before_first (is c) text
whole_before c text lacks = sym (take_all (position_or_len (is c) text) text (omega (arith, lacks)))

pub none_behind : (c : ℕ) (text : List ℕ) → Lacks c text → take (length text - length text) (drop (length text) text) ≡ after_first (is c) text
none_behind c text lacks = take_rest text (length text) ∙ drop_all (length text) text (omega arith) ∙ sym (drop_all (position_or_len (is c) text + 1) text (omega (arith, lacks)))

-- the name and the type are those of the text
pub name_is : (text full name : List ℕ) → full ≡ before_first begins_version text → name ≡ before_first (is 46) full → name ≡ name_text text
name_is text full name e f = f ∙ ap (before_first (is 46)) e

pub kind_is : (text full kind : List ℕ) → full ≡ before_first begins_version text → kind ≡ kind_in (cut_of 46 full) → kind ≡ kind_text text
kind_is text full kind e f = f ∙ ap (λ (l : List ℕ). kind_in (cut_of 46 l)) e

-- the type behind a `.`, and without one
pub kind_behind : (full name kind : List ℕ) → cut_of 46 full ≡ Some (name, kind) → kind ≡ kind_in (cut_of 46 full)
kind_behind full name kind e = sym (ap kind_in e)

pub any_kind : (full kind : List ℕ) → cut_of 46 full ≡ None → kind ≡ codes "*" → kind ≡ kind_in (cut_of 46 full)
any_kind full kind e any = any ∙ sym (ap kind_in e)

-- what a test that fails says of a part
pub fails : {P : Type 0} {r : Bool} → (IsTrue r ↔ P) → r ≡ false → P → ⊥
fails is e p = let t = is.1 p in absurd (cc (t, e))

pub along : (P : List ℕ → Type 0) (xs ys : List ℕ) → xs ≡ ys → (P xs → ⊥) → P ys → ⊥
along P xs ys e bad p = bad (subst P (sym e) p)

pub not_dotted : (text full : List ℕ) → full ≡ before_first begins_version text → ((Has 46 full ⊎ (has_wildcard full ≡ true)) → ⊥) → IsDotted text → ⊥
not_dotted text full e bad d = bad (subst (λ (l : List ℕ). Has 46 l ⊎ (has_wildcard l ≡ true)) (sym e) d)

pub the_files : (text full name kind : List ℕ) (v : Option Versions) → full ≡ before_first begins_version text → name ≡ before_first (is 46) full → kind ≡ kind_in (cut_of 46 full) → IsPattern 9 name → IsPattern 3 kind → (Has 46 full ⊎ (has_wildcard full ≡ true)) → IsVersions text v →
    SpellsFiles text (record { name = capitals name; kind = capitals kind; versions = v })
the_files text full name kind v e f g one two dot versions = record {
  name_pattern = subst (IsPattern 9) (name_is text full name e f) one;
  kind_pattern = subst (IsPattern 3) (kind_is text full kind e g) two;
  dotted = subst (λ (l : List ℕ). Has 46 l ⊎ (has_wildcard l ≡ true)) e dot;
  name = ap capitals (name_is text full name e f);
  kind = ap capitals (kind_is text full kind e g);
  versions = versions;
}
