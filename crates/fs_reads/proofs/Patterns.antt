-- Whether a path means a pattern, by the text as it is written, in which small letters may stand.
use Rattle.std.proofs.Common.{◌≡◌, ℕ, ◌-◌, ◌≤◌, Bool, true, false, ◌||◌, List, [], ◌∷◌, refl, sym, ap, ◌∙◌, arith, Option, Some}
use Rattle.std.specs.Prelude.{◌==◌, nat_lt}
use Rattle.std.specs.Char.{to_ascii_uppercase}
use Rattle.std.proofs.lemmas.Bool.{cond_both, ltb-false, ne_eqb}
use Rattle.ods_paths.specs.declared.files.Files.{Files}
use Rattle.ods_paths.specs.Views.{said_files}
use Rattle.ods_paths.specs.Patterns.{capitals, has_wildcard, is_wildcard}
use Rattle.fs_reads.specs.Tars.{is_pattern}

-- a letter is no wildcard
no_wildcard : (c : ℕ) → 64 ≤ c → is_wildcard c ≡ false
no_wildcard c high =
    let star : (c == 42) ≡ false = ne_eqb c 42 (λ e. omega (arith, e, high)) in
    let mark : (c == 63) ≡ false = ne_eqb c 63 (λ e. omega (arith, e, high)) in
    rw star mark

-- a small letter, and its capital
same_kind : (c : ℕ) → is_wildcard (to_ascii_uppercase c) ≡ is_wildcard c
same_kind c =
    cond_both (nat_lt c 97) c _ (λ (x : ℕ). is_wildcard x ≡ is_wildcard c) (λ low. refl)
    (λ high. cond_both (nat_lt c 123) (c - 32) c (λ (x : ℕ). is_wildcard x ≡ is_wildcard c)
    (λ small. no_wildcard (c - 32) (omega (arith, ltb-false c 97 high)) ∙ sym (no_wildcard c (omega (arith, ltb-false c 97 high)))) (λ large. refl))

pub wild_capitals : (text : List ℕ) → has_wildcard (capitals text) ≡ has_wildcard text
wild_capitals [] = refl
wild_capitals (c ∷ text) = ap (λ b. b || has_wildcard (capitals text)) (same_kind c) ∙ ap (λ b. is_wildcard c || b) (wild_capitals text)

-- the name has a wildcard
pub name_is_wild : (some : Option Files) (f : Files) (b : Bool) → some ≡ Some f → b ≡ has_wildcard f.name.now → b ≡ true → b ≡ is_pattern (said_files some)
name_is_wild some f b is e t =
    t ∙ sym (ap (λ o. is_pattern (said_files o)) is ∙ ap (λ x. x || has_wildcard (capitals f.kind.now)) (wild_capitals f.name.now ∙ sym e ∙ t))

-- it has none, and the type decides
pub kind_is_wild : (some : Option Files) (f : Files) (a b : Bool) → some ≡ Some f → a ≡ has_wildcard f.name.now → a ≡ false → b ≡ has_wildcard f.kind.now → b ≡ is_pattern (said_files some)
kind_is_wild some f a b is e none h =
    h ∙ sym (wild_capitals f.kind.now)
    ∙ sym (ap (λ o. is_pattern (said_files o)) is ∙ ap (λ x. x || has_wildcard (capitals f.kind.now)) (wild_capitals f.name.now ∙ sym e ∙ none))
