-- The files that lines name, one after another, and the directories of these lines.
use Rattle.std.proofs.Common.{◌≡◌, ◌<◌, ◌≤◌, ◌+◌, ◌⊎◌, inl, inr, refl, sym, ap, ◌∙◌, subst, ℕ, zero, suc, List, [], ◌∷◌, ◌++◌, length, map, take, Option, Some, None, is_some, true≢false, arith, get_or, Bool, false}
use Rattle.std.specs.Prelude.{◌==◌, slice_get}
use Rattle.std.proofs.lemmas.Bool.{eq-eqb}
use Rattle.std.proofs.lemmas.List.{take_more}
use Rattle.std.proofs.lemmas.Option.{get_or_from_slice_get, slice_get_cases, slice_get_within}
use Rattle.ods_base.specs.declared.listed.Listed.{Listed}
use Rattle.ods_space.specs.Layout.{VolumeLayout}
use Rattle.ods_paths.specs.declared.versions.Versions.{Versions}
use Rattle.ods_paths.specs.Paths.{Files}
use Rattle.ods_walk.specs.declared.tables.Line.{Line}
use Rattle.ods_shell.specs.declared.folders.Directory.{Directory}
use Rattle.ods_shell.specs.declared.found.Found.{Found}
use Rattle.ods_shell.specs.Found.{AreFound, placed}
use Rattle.ods_shell.specs.Named.{AreLines, AreWithin, IsEntryOf}

-- and one line more
pub lines_more : (I : List (List ℕ)) (L : VolumeLayout) (directories : List Directory) (before : List Line) (line : Line) (found : List Found) (directory : Directory) (one : Found)
    → slice_get directories line.directory ≡ Some directory → IsEntryOf I L directory line.entry one → AreLines I L directories before found → AreLines I L directories (before ++ line ∷ []) (found ++ one ∷ [])
lines_more I L directories [] line found directory one at is none = (directory, at, (one, ([], ap (λ f. f ++ one ∷ []) none, is, refl)))
lines_more I L directories (b ∷ before) line found directory one at is (other, stands, (first, (rest, are, entry, more))) = (
  other,
  stands,
  (first, (rest ++ one ∷ [], ap (λ f. f ++ one ∷ []) are, entry, lines_more I L directories before line rest directory one at is more)),
)

-- what names nothing is no line
pub no_lines : (I : List (List ℕ)) (L : VolumeLayout) (directories : List Directory) (lines : List Line) → AreLines I L directories lines [] → lines ≡ []
no_lines I L directories [] are = refl
no_lines I L directories (line ∷ lines) (directory, at, (one, (rest, are, entry, more))) = absurd (cc are)

-- a list that a test finds not empty is not empty
pub not_empty : (b : Bool) (n : ℕ) → b ≡ (n == 0) → b ≡ false → n ≡ 0 → ⊥
not_empty b n test clear none = true≢false (sym (eq-eqb n 0 none) ∙ sym test ∙ clear)

-- a line is one of the first directory, or stands among the others
here_or_there : (place : ℕ) (entries : List Listed) (rest : List Line) (k : ℕ) (line : Line) → slice_get (map (placed place) entries ++ rest) k ≡ Some line
    → (line.directory ≡ place) ⊎ ((j : ℕ) × (slice_get rest j ≡ Some line))
here_or_there place [] rest k line at = inr (k, at)
here_or_there place (e ∷ entries) rest zero line at = inl (cc)
here_or_there place (e ∷ entries) rest (suc k) line at = here_or_there place entries rest k line at

-- the files of the lines before, and that of one line more
pub one_line_more : (I : List (List ℕ)) (L : VolumeLayout) (directories : List Directory) (lines : List Line) (n : ℕ) (line : Line) (found more : List Found)
    → ((directory : Directory) → slice_get directories line.directory ≡ Some directory → (one : Found) × (more ≡ found ++ one ∷ []) × IsEntryOf I L directory line.entry one)
    → slice_get lines n ≡ Some line → (AreWithin directories lines → AreLines I L directories (take n lines) found) → AreWithin directories lines → AreLines I L directories (take (n + 1) lines) more
one_line_more I L directories lines n line found more adds at before within = by (slice_get_cases directories line.directory).1
  where
    by : ((x : Directory) × (line.directory < length directories) × (slice_get directories line.directory ≡ Some x) × (get_or directories line.directory x ≡ x)) ⊎ ((length directories ≤ line.directory) × (slice_get directories line.directory ≡ None))
        → AreLines I L directories (take (n + 1) lines) more
    by (inl (x, small, is, read)) =
        let added = adds x is in
        let took : take (n + 1) lines ≡ take n lines ++ line ∷ [] = take_more lines n line (slice_get_within lines n line at) ∙ ap (λ y. take n lines ++ y ∷ []) (get_or_from_slice_get lines n line line at) in
        let all = lines_more I L directories (take n lines) line found x added.0 is added.2 (before within) in
        subst (λ ls. AreLines I L directories ls more) (sym took) (subst (λ fs. AreLines I L directories (take n lines ++ line ∷ []) fs) (sym added.1) all)
    by (inr (past, none)) =
        let small = within n line at in
        absurd (omega (arith, past, small))

-- lines that are found stand in the directories in which they are found
inside : (I : List (List ℕ)) (L : VolumeLayout) (files : Option Files) (unsaid : Versions) (place : ℕ) (directories : List Directory) (lines : List Line) → AreFound I L files unsaid place directories lines
    → (k : ℕ) (line : Line) → slice_get lines k ≡ Some line → line.directory < place + length directories
inside I L files unsaid place [] lines none k line at = absurd (true≢false (sym (ap is_some (ap (λ ls. slice_get ls k) (sym none) ∙ at))))
inside I L files unsaid place (d ∷ directories) lines (entries, rest, are, here, more) k line at =
    by (λ j there. inside I L files unsaid (place + 1) directories rest more j line there) (here_or_there place entries rest k line (ap (λ ls. slice_get ls k) (sym are) ∙ at))
  where
    by : ((j : ℕ) → slice_get rest j ≡ Some line → line.directory < place + 1 + length directories) → (line.directory ≡ place) ⊎ ((j : ℕ) × (slice_get rest j ≡ Some line)) → line.directory < place + suc (length directories)
    by others (inl is) = omega (arith, is)
    by others (inr (j, there)) =
        let further = others j there in
        omega (arith, further)

pub all_within : (I : List (List ℕ)) (L : VolumeLayout) (files : Option Files) (unsaid : Versions) (directories : List Directory) (lines : List Line) → AreFound I L files unsaid 0 directories lines → AreWithin directories lines
all_within I L files unsaid directories lines found k line at =
    let small = inside I L files unsaid 0 directories lines found k line at in
    omega (arith, small)

-- one is all where nothing stood before
pub alone : (xs ys : List Found) (one : Found) → ys ≡ xs ++ one ∷ [] → xs ≡ [] → ys ≡ one ∷ []
alone xs ys one is none = is ∙ ap (λ l. l ++ one ∷ []) none
