-- What texts of paths say, from their parts.
use Rattle.std.proofs.Common.{◌≡◌, ◌≢◌, ℕ, ◌<◌, ◌==◌, List, [], ◌∷◌, length, Bool, true, false, Result, Ok, Err, MatchResult, refl, sym, ap, ◌∙◌, subst, arith}
use Rattle.std.specs.Prelude.{if◌then◌else◌}
use Rattle.std.specs.List.{before_first, after_first, before_last, after_last}
use Rattle.ods_paths.specs.declared.bad.BadPath.{BadPath}
use Rattle.ods_paths.specs.declared.bad.BadPath.TheVariants as bad
use Rattle.ods_text.specs.Cuts.{is, Has, Lacks}
use Rattle.ods_paths.specs.Paths.{Said, File, Within, Says, SaysHere, IsWithin, begins_id, IsClosed, separator_of, folder_text, more_text, files_text, before_files, directory_in, files_in, names_directory, past_device, past_slash}
use Rattle.ods_paths.specs.Bad.{IsBad, IsBadHere, IsBadFiles, IsBadWithin, IsBadPart}

-- files that are bad in a part, in a path
pub bad_files : (separator : ℕ) (dir more files : List ℕ) (e : BadPath) → files ≢ [] → IsBadFiles files e → IsBadWithin separator dir more files e
bad_files separator dir more files bad.Name some b = (some, b)
bad_files separator dir more files bad.Type some b = (some, b)
bad_files separator dir more files bad.NoDot some b = (some, b)
bad_files separator dir more files bad.Version some b = (some, b)
bad_files separator dir more files bad.Empty some b = absurd b
bad_files separator dir more files bad.Id some b = absurd b
bad_files separator dir more files bad.Bracket some b = absurd b
bad_files separator dir more files bad.Directory some b = absurd b

-- a bad part makes a bad text
part_bad : (text : List ℕ) (e : BadPath) → IsBadPart text e → IsBadHere text e
part_bad text bad.Name b = b
part_bad text bad.Type b = b
part_bad text bad.NoDot b = b
part_bad text bad.Version b = b
part_bad text bad.Directory b = b
part_bad text bad.Empty b = absurd b.1
part_bad text bad.Id b = absurd b.1
part_bad text bad.Bracket b = absurd b.1

-- what its parts say, the text says
parts_say : (text : List ℕ) (s : Said) → begins_id text ≡ false → IsClosed text → IsWithin (separator_of text) (folder_text text) (more_text text) (files_text text) s → SaysHere text s
parts_say text (File f) id closed w = absurd w
parts_say text (Within folder files) id closed w = (id, closed, w)

moved : (Q : ℕ → List ℕ → List ℕ → List ℕ → Type 0) (s t : ℕ) (d e m n f g : List ℕ) → s ≡ t → d ≡ e → m ≡ n → f ≡ g → Q s d m f → Q t e n g
moved Q s t d e m n f g p q r u w =
    subst (λ (k : ℕ). Q k e n g) p (subst (λ (l : List ℕ). Q s l n g) q (subst (λ (l : List ℕ). Q s d l g) r (subst (λ (l : List ℕ). Q s d m l) u w)))

-- the same of a result
pub path_of : {P : Type 0} (say : P → Said) (text : List ℕ) (separator : ℕ) (dir more files : List ℕ) (r : Result P BadPath) → begins_id text ≡ false → IsClosed text
    → separator ≡ separator_of text → dir ≡ folder_text text → more ≡ more_text text → files ≡ files_text text
    → MatchResult r (λ p. IsWithin separator dir more files (say p)) (IsBadWithin separator dir more files) → MatchResult r (λ p. SaysHere text (say p)) (IsBadHere text)
path_of say text separator dir more files (Ok p) id closed s d m f w =
    parts_say text (say p) id closed (moved (λ k a b c. IsWithin k a b c (say p)) separator (separator_of text) dir (folder_text text) more (more_text text) files (files_text text) s d m f w)
path_of say text separator dir more files (Err e) id closed s d m f w =
    part_bad text e (id, moved (λ k a b c. IsBadWithin k a b c e) separator (separator_of text) dir (folder_text text) more (more_text text) files (files_text text) s d m f w)

-- a text in brackets
pub in_brackets : {P : Type 0} (say : P → Said) (rest dir last more files : List ℕ) (r : Result P BadPath) → Has 93 rest → dir ≡ before_first (is 93) rest → last ≡ after_first (is 93) rest → (more ≡ directory_in last) × (files ≡ files_in last) → 0 < length dir
    → MatchResult r (λ p. IsWithin 46 dir more files (say p)) (IsBadWithin 46 dir more files) → MatchResult r (λ p. SaysHere (91 ∷ rest) (say p)) (IsBadHere (91 ∷ rest))
in_brackets say rest dir last more files r has d l parts some w =
    path_of say (91 ∷ rest) 46 dir more files r refl (λ e. (has, subst (λ (l : List ℕ). 0 < length l) d some)) refl d (parts.0 ∙ ap directory_in l) (parts.1 ∙ ap files_in l) w

pub not_closed : (rest : List ℕ) → Lacks 93 rest → IsBadHere (91 ∷ rest) bad.Bracket
not_closed rest lacks = (refl, λ closed. absurd (omega (arith, lacks, (closed refl).0)))

pub closed_at_once : (rest dir : List ℕ) → dir ≡ before_first (is 93) rest → length dir ≡ 0 → IsBadHere (91 ∷ rest) bad.Bracket
closed_at_once rest dir d none = (refl, λ closed. absurd (omega (arith, none, ap length d, (closed refl).1)))

-- what stands behind `[` says what the text does
pub of_bracket : {P : Type 0} (say : P → Said) (text : List ℕ) (c : ℕ) (rest : List ℕ) (r : Result P BadPath) → text ≡ c ∷ rest → c ≡ 91 → MatchResult r (λ p. SaysHere (91 ∷ rest) (say p)) (IsBadHere (91 ∷ rest)) → MatchResult r (λ p. SaysHere text (say p)) (IsBadHere text)
of_bracket say text c rest r whole e w = subst (λ (t : List ℕ). MatchResult r (λ p. SaysHere t (say p)) (IsBadHere t)) (ap (λ (k : ℕ). k ∷ rest) (sym e) ∙ sym whole) w

-- what a text without brackets says
abbrev pub SaysSlashed : {P : Type 0} → (P → Said) → List ℕ → Result P BadPath → Type 0
SaysSlashed say text r = MatchResult r (λ p. IsWithin 47 (before_files text) [] (files_in (after_last (is 47) text)) (say p)) (IsBadWithin 47 (before_files text) [] (files_in (after_last (is 47) text)))

-- its last part is one more directory
pub all_directories : {P : Type 0} (say : P → Said) (text last : List ℕ) (b : Bool) (r : Result P BadPath) → last ≡ after_last (is 47) text → b ≡ names_directory last → b ≡ true
    → MatchResult r (λ p. IsWithin 47 text [] [] (say p)) (IsBadWithin 47 text [] []) → SaysSlashed say text r
all_directories say text last b r e tells holds w =
    let names : names_directory (after_last (is 47) text) ≡ true = ap names_directory (sym e) ∙ sym tells ∙ holds in
    let dir : text ≡ before_files text = sym (ap (λ (t : Bool). if t then text else before_last (is 47) text) names) in
    let files : [] ≡ files_in (after_last (is 47) text) = sym (ap (λ (t : Bool). if t then [] else after_last (is 47) text) names) in
    subst (λ (l : List ℕ). MatchResult r (λ p. IsWithin 47 (before_files text) [] l (say p)) (IsBadWithin 47 (before_files text) [] l)) files
    (subst (λ (l : List ℕ). MatchResult r (λ p. IsWithin 47 l [] [] (say p)) (IsBadWithin 47 l [] [])) dir w)

-- its last part is files, or empty
pub files_last : {P : Type 0} (say : P → Said) (text dir last : List ℕ) (b : Bool) (r : Result P BadPath) → dir ≡ before_last (is 47) text → last ≡ after_last (is 47) text → b ≡ names_directory last → b ≡ false
    → MatchResult r (λ p. IsWithin 47 dir [] last (say p)) (IsBadWithin 47 dir [] last) → SaysSlashed say text r
files_last say text dir last b r d e tells fails w =
    let names : names_directory (after_last (is 47) text) ≡ false = ap names_directory (sym e) ∙ sym tells ∙ fails in
    let front : dir ≡ before_files text = d ∙ sym (ap (λ (t : Bool). if t then text else before_last (is 47) text) names) in
    let files : last ≡ files_in (after_last (is 47) text) = e ∙ sym (ap (λ (t : Bool). if t then [] else after_last (is 47) text) names) in
    subst (λ (l : List ℕ). MatchResult r (λ p. IsWithin 47 (before_files text) [] l (say p)) (IsBadWithin 47 (before_files text) [] l)) files
    (subst (λ (l : List ℕ). MatchResult r (λ p. IsWithin 47 l [] last (say p)) (IsBadWithin 47 l [] last)) front w)

no_bracket : (c : ℕ) → (c == 91) ≡ false → c ≡ 91 → ⊥
no_bracket c e same = let clash : false ≡ true = sym e ∙ ap (λ (k : ℕ). k == 91) same in absurd (cc)

-- a text that begins with no `#`, `@` or `[`
pub in_slashes : {P : Type 0} (say : P → Said) (text : List ℕ) (c : ℕ) (rest behind : List ℕ) (r : Result P BadPath) → text ≡ c ∷ rest → (c == 35) ≡ false → (c == 64) ≡ false → (c == 91) ≡ false → behind ≡ past_slash text
    → SaysSlashed say behind r → MatchResult r (λ p. SaysHere text (say p)) (IsBadHere text)
in_slashes say text c rest behind r whole hash at bracket e w =
    let same : behind ≡ past_slash (c ∷ rest) = e ∙ ap past_slash whole in
    subst (λ (t : List ℕ). MatchResult r (λ p. SaysHere t (say p)) (IsBadHere t)) (sym whole)
    (path_of say (c ∷ rest) 47 (before_files (past_slash (c ∷ rest))) [] (files_in (after_last (is 47) (past_slash (c ∷ rest)))) r (rw (hash, at) refl) (λ e. let open_bracket : c ≡ 91 = e in absurd (no_bracket c bracket open_bracket))
    (rw bracket refl) (rw bracket refl) (rw bracket refl) (rw bracket refl) (subst (λ (l : List ℕ). SaysSlashed say l r) same w))

-- the empty text
pub in_nothing : {P : Type 0} (say : P → Said) (text : List ℕ) (r : Result P BadPath) → length text ≡ 0 → SaysSlashed say text r → MatchResult r (λ p. SaysHere text (say p)) (IsBadHere text)
in_nothing say [] r none w = path_of say [] 47 [] [] [] r refl (λ e. let open_bracket : 0 ≡ 91 = e in absurd (omega (arith, open_bracket))) refl refl refl refl w
in_nothing say (c ∷ text) r none w = absurd (omega (arith, none))

-- what a text says without its device, it says
bad_behind : (text : List ℕ) (e : BadPath) → IsBadHere (past_device text) e → IsBad text e
bad_behind text bad.Name b = b
bad_behind text bad.Type b = b
bad_behind text bad.NoDot b = b
bad_behind text bad.Version b = b
bad_behind text bad.Directory b = b
bad_behind text bad.Empty b = absurd b
bad_behind text bad.Id b = b
bad_behind text bad.Bracket b = b

pub of_device : {P : Type 0} (say : P → Said) (text rest : List ℕ) (r : Result P BadPath) → text ≢ [] → rest ≡ past_device text → MatchResult r (λ p. SaysHere rest (say p)) (IsBadHere rest) → MatchResult r (λ p. Says text (say p)) (IsBad text)
of_device say text rest (Ok p) some e w = (some, subst (λ (l : List ℕ). SaysHere l (say p)) e w)
of_device say text rest (Err bad) some e w = bad_behind text bad (subst (λ (l : List ℕ). IsBadHere l bad) e w)
