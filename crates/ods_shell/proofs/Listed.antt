-- The text of some lines, and of one more.
use Rattle.std.proofs.Common.{◌≡◌, ◌∙◌, ℕ, ◌+◌, ◌-◌, ◌^◌, List, [], ◌∷◌, ◌++◌, ap, arith, refl, sym, subst, take, append_assoc, append-nil, Option, Some, slice_get}
use Rattle.std.specs.Prelude.{min}
use Rattle.std.proofs.lemmas.List.{take_more}
use Rattle.std.proofs.lemmas.Option.{slice_get_within, get_or_from_slice_get}
use Rattle.ods_space.specs.Layout.{VolumeLayout}
use Rattle.ods_walk.specs.declared.tables.Line.{Line}
use Rattle.ods_shell.specs.Json.{entry_members, object_line}
use Rattle.ods_shell.specs.Lines.{entry_line, with_headings}
use Rattle.ods_shell.specs.Listed.{AreListed, AreListedUnder, AreObjects, blocks_of, headed_by, places_before}
use Rattle.ods_shell.specs.Named.{IsKnown}
use Rattle.ods_shell.specs.There.{line_path}
use Rattle.ods_shell.specs.declared.facts.Facts.{Facts}
use Rattle.ods_shell.specs.declared.folders.Directory.{Directory}
use Rattle.ods_shell.specs.declared.ls.Columns.{Columns}

module _ (I : List (List ℕ)) (L : VolumeLayout) (columns : Columns) where
  listed_more : (lines : List Line) (line : Line) (text : List ℕ) (blocks : ℕ) (known : Option Facts) → IsKnown I L line.entry.file known → AreListed I L columns lines text blocks
      → AreListed I L columns (lines ++ line ∷ []) (text ++ entry_line line.entry known columns) (min (blocks + blocks_of known) (2 ^ 64 - 1))
  listed_more [] line text blocks known is are = (
    known,
    [],
    0,
    is,
    (refl, refl),
    ap (λ t. t ++ entry_line line.entry known columns) are.0 ∙ sym (append-nil (entry_line line.entry known columns)),
    omega (arith, are.1),
  )
  listed_more (first ∷ lines) line text blocks known is are = (
    are.0,
    are.1 ++ entry_line line.entry known columns,
    min (are.2 + blocks_of known) (2 ^ 64 - 1),
    are.3,
    listed_more lines line are.1 are.2 known is are.4,
    ap (λ t. t ++ entry_line line.entry known columns) are.5 ∙ append_assoc (entry_line first.entry are.0 columns) are.1 (entry_line line.entry known columns),
    omega (arith, are.6),
  )

  pub listed_next : (lines : List Line) (n : ℕ) (line : Line) (text mid new : List ℕ) (blocks sum : ℕ) → slice_get lines n ≡ Some line → AreListed I L columns (take n lines) text blocks → mid ≡ text
      → ((known : Option Facts) × IsKnown I L line.entry.file known × (sum ≡ min (blocks + blocks_of known) (2 ^ 64 - 1)) × (new ≡ mid ++ entry_line line.entry known columns))
      → AreListed I L columns (take (n + 1) lines) new sum
  listed_next lines n line text mid new blocks sum at are same adds =
      let took : take (n + 1) lines ≡ take n lines ++ line ∷ [] = take_more lines n line (slice_get_within lines n line at) ∙ ap (λ y. take n lines ++ y ∷ []) (get_or_from_slice_get lines n line line at) in
      let all = listed_more (take n lines) line text blocks adds.0 adds.1 are in
      let whole : new ≡ text ++ entry_line line.entry adds.0 columns = adds.3 ∙ ap (λ t. t ++ entry_line line.entry adds.0 columns) same in
      subst (λ ls. AreListed I L columns ls new sum) (sym took)
      (subst (λ t. AreListed I L columns (take n lines ++ line ∷ []) t sum) (sym whole) (subst (λ s. AreListed I L columns (take n lines ++ line ∷ []) (text ++ entry_line line.entry adds.0 columns) s) (sym adds.2) all))

-- the same with headings
module _ (I : List (List ℕ)) (L : VolumeLayout) (columns : Columns) (directories : List Directory) where
  under_more : (before : List ℕ) (headed : ℕ) (lines : List Line) (line : Line) (text : List ℕ) (top blocks : ℕ) (known : Option Facts) → IsKnown I L line.entry.file known
      → AreListedUnder I L columns directories before headed lines text top blocks
      → AreListedUnder I L columns directories before headed (lines ++ line ∷ []) (with_headings directories text (places_before columns.empty top line.directory) ++ entry_line line.entry known columns)
      (headed_by top line.directory) (min (blocks + blocks_of known) (2 ^ 64 - 1))
  under_more before headed [] line text top blocks known is are = (
    known,
    0,
    is,
    (
      (λ i. with_headings directories (are.0 i) (places_before columns.empty (are.1 i) line.directory) ++ entry_line line.entry known columns),
      ap (λ h. headed_by h line.directory) are.1,
      refl,
    ),
    omega (arith, are.2),
  )
  under_more before headed (first ∷ lines) line text top blocks known is are = (
    are.0,
    min (are.1 + blocks_of known) (2 ^ 64 - 1),
    are.2,
    under_more (with_headings directories before (places_before columns.empty headed first.directory) ++ entry_line first.entry are.0 columns) (headed_by headed first.directory) lines line text top are.1 known is are.3,
    omega (arith, are.4),
  )

  pub under_next : (lines : List Line) (n : ℕ) (line : Line) (text mid new : List ℕ) (headed top blocks sum : ℕ) → slice_get lines n ≡ Some line → AreListedUnder I L columns directories [] 0 (take n lines) text headed blocks
      → mid ≡ with_headings directories text (places_before columns.empty headed line.directory) → top ≡ headed_by headed line.directory
      → ((known : Option Facts) × IsKnown I L line.entry.file known × (sum ≡ min (blocks + blocks_of known) (2 ^ 64 - 1)) × (new ≡ mid ++ entry_line line.entry known columns))
      → AreListedUnder I L columns directories [] 0 (take (n + 1) lines) new top sum
  under_next lines n line text mid new headed top blocks sum at are same next adds =
      let took : take (n + 1) lines ≡ take n lines ++ line ∷ [] = take_more lines n line (slice_get_within lines n line at) ∙ ap (λ y. take n lines ++ y ∷ []) (get_or_from_slice_get lines n line line at) in
      let all = under_more [] 0 (take n lines) line text headed blocks adds.0 adds.1 are in
      let whole : new ≡ with_headings directories text (places_before columns.empty headed line.directory) ++ entry_line line.entry adds.0 columns = adds.3 ∙ ap (λ t. t ++ entry_line line.entry adds.0 columns) same in
      subst (λ ls. AreListedUnder I L columns directories [] 0 ls new top sum) (sym took)
      (subst (λ t. AreListedUnder I L columns directories [] 0 (take n lines ++ line ∷ []) t top sum) (sym whole)
      (subst (λ h. AreListedUnder I L columns directories [] 0 (take n lines ++ line ∷ []) (with_headings directories text (places_before columns.empty headed line.directory) ++ entry_line line.entry adds.0 columns) h sum) (sym next)
      (subst (λ s. AreListedUnder I L columns directories [] 0 (take n lines ++ line ∷ []) (with_headings directories text (places_before columns.empty headed line.directory) ++ entry_line line.entry adds.0 columns) (headed_by headed line.directory) s) (sym adds.2) all)))

-- the objects of some lines, and one more
module _ (I : List (List ℕ)) (L : VolumeLayout) (image : List ℕ) (directories : List Directory) where
  objects_more : (lines : List Line) (line : Line) (text : List ℕ) (known : Option Facts) → IsKnown I L line.entry.file known → AreObjects I L image directories lines text
      → AreObjects I L image directories (lines ++ line ∷ []) (text ++ object_line (entry_members image (line_path directories line) line.entry.file known))
  objects_more [] line text known is are =
      let last = object_line (entry_members image (line_path directories line) line.entry.file known) in (known, [], is, refl, ap (λ t. t ++ last) are ∙ sym (append-nil last))
  objects_more (first ∷ lines) line text known is are =
      let last = object_line (entry_members image (line_path directories line) line.entry.file known) in (
        are.0,
        are.1 ++ last,
        are.2,
        objects_more lines line are.1 known is are.3,
        ap (λ t. t ++ last) are.4 ∙ append_assoc (object_line (entry_members image (line_path directories first) first.entry.file are.0)) are.1 last,
      )

  pub objects_next : (lines : List Line) (n : ℕ) (line : Line) (text new : List ℕ) (seen : List Directory) → slice_get lines n ≡ Some line → seen ≡ directories
      → ((known : Option Facts) × IsKnown I L line.entry.file known × (new ≡ text ++ object_line (entry_members image (line_path seen line) line.entry.file known)))
      → AreObjects I L image directories (take n lines) text → AreObjects I L image directories (take (n + 1) lines) new
  objects_next lines n line text new seen at same said are =
      let took : take (n + 1) lines ≡ take n lines ++ line ∷ [] = take_more lines n line (slice_get_within lines n line at) ∙ ap (λ y. take n lines ++ y ∷ []) (get_or_from_slice_get lines n line line at) in
      let adds = subst (λ ds. (known : Option Facts) × IsKnown I L line.entry.file known × (new ≡ text ++ object_line (entry_members image (line_path ds line) line.entry.file known))) same said in
      subst (λ ls. AreObjects I L image directories ls new) (sym took) (subst (AreObjects I L image directories (take n lines ++ line ∷ [])) (sym adds.2) (objects_more (take n lines) line text adds.0 adds.1 are))
