-- The names and the files of a catalogue are those that the blocks show.
use Rattle.std.proofs.Common.{◌≡◌, ℕ, refl, sym, ap, ◌∙◌, subst, Bool, true, false, cond, List, length, Option, Some, None, unwrap_or}
use Rattle.std.specs.Prelude.{nat_le}
use Rattle.std.specs.FinMap as finmap
use Rattle.std.specs.FinMap.{get-empty}
use Rattle.std.specs.List.{Contains}
use Rattle.std.specs.Ordering.{nat_cmp}
use Rattle.std.specs.Cmp.Lexicographic.{slice_cmp}
use Rattle.std.proofs.lemmas.List.{length-map}
use Rattle.ods_base.specs.Image.{block_at}
use Rattle.ods_base.specs.declared.file_id.FileId.{FileId}
use Rattle.ods_base.specs.declared.listed.Listed.{Listed}
use Rattle.ods_base.specs.Name.{IsName, key_of}
use Rattle.ods_base.specs.Names.{NameMap, lines_of, name_of, version_of}
use Rattle.ods_header.specs.Header.{attributes_of, is_directory_header}
use Rattle.ods_space.specs.Layout.{VolumeLayout, header_at}
use Rattle.ods_space.specs.Files.{HasBlocks}
use Rattle.ods_directory.specs.Mark.{mark_in}
use Rattle.ods_directory.specs.Names.{names_of as names_in_blocks}
use Rattle.ods_mount.specs.Faults.{IsDirectoryFile, contents_of, mark_at}
use Rattle.ods_mount.specs.Sound.{IsSoundBy}
use Rattle.ods_request.specs.Catalogue.{Catalogue, File, System, Directory, Plain, names_of}
use Rattle.ods_request.specs.Steps.{file_at, no_file}
use Rattle.ods_state.specs.Contents.{ShowsBy, body_of, file_of}
use Rattle.ods_look.proofs.FileBodies.{directory_body}
use Rattle.ods_check.specs.Findings.{HasName, IsIdOfFile, id_at}
use Rattle.ods_check.proofs.KeyedLines.{good_key, keyed, line_by, line_there}

-- the names of a file of the catalogue, or none
abbrev pub names_in : Catalogue → FileId → NameMap
names_in C id = names_of (file_at C id).body

-- a line of a directory of the catalogue, with its key
pub record IsIn (C : Catalogue) (id : FileId) (line : Listed) : Type 0 where
  pub key : List ℕ
  pub there : finmap.get (names_in C id) key ≡ Some line.file
  pub name : name_of key ≡ line.name
  pub version : version_of key ≡ line.version

-- what has a name is a directory
has_names : (n : ℕ) (b : List ℕ) (xs : List (List ℕ)) (key : List ℕ) (file : FileId) → finmap.get (names_of (body_of n b xs)) key ≡ Some file
    → (is_directory_header n b ≡ true) × (names_of (body_of n b xs) ≡ names_in_blocks xs (mark_in (attributes_of b) (length xs)))
unfolding body_of
has_names n b xs key file e = by (nat_le n 2) (is_directory_header n b) refl e
  where
    none : finmap.get (names_of System) key ≡ Some file → ⊥
    none there = absurd (let wrong : None ≡ Some file = sym (get-empty {X = FileId} (slice_cmp nat_cmp) key) ∙ there in cc)

    by : (p q : Bool) → is_directory_header n b ≡ q → finmap.get (names_of (cond p System (cond q (Directory (names_in_blocks xs (mark_in (attributes_of b) (length xs)))) (Plain (attributes_of b) xs)))) key ≡ Some file
        → (is_directory_header n b ≡ true) × (names_of (cond p System (cond q (Directory (names_in_blocks xs (mark_in (attributes_of b) (length xs)))) (Plain (attributes_of b) xs))) ≡ names_in_blocks xs (mark_in (attributes_of b) (length xs)))
    by true q is there = absurd (none there)
    by false true is there = (is, refl)
    by false false is there = absurd (none there)

-- the body of what is shown
body_shown : (n : ℕ) (b : List ℕ) (xs : List (List ℕ)) → (file_of n b xs).body ≡ body_of n b xs
unfolding file_of
body_shown n b xs = refl

module _ (I : List (List ℕ)) (L : VolumeLayout) (sound : IsSoundBy I L) (C : Catalogue) (shown : ShowsBy I L C) where
  -- what a file that is there is in the catalogue
  there_by : (n : ℕ) (blocks : List ℕ) → HasBlocks I L n blocks → finmap.get C.files (id_at I L n) ≡ Some (file_of n (header_at I L n) (contents_of I blocks))
  there_by n blocks has = shown.all (id_at I L n) (file_of n (header_at I L n) (contents_of I blocks)) (record { blocks = blocks; held = has; sequence = refl; shown = refl })

  -- the ID of a file is in the catalogue
  pub id_there : (id : FileId) → IsIdOfFile I L id → (f : File) × (finmap.get C.files id ≡ Some f)
  id_there id is =
      let blocks = sound.chains id.number is.0 in
      let same : id_at I L id.number ≡ id = λ i. record { number = id.number; sequence = is.1 i } in
      (file_of id.number (header_at I L id.number) (contents_of I blocks.0), ap (finmap.get C.files) (sym same) ∙ there_by id.number blocks.0 blocks.1)

  pub there_is : (id : FileId) (f : File) → finmap.get C.files id ≡ Some f → IsIdOfFile I L id
  there_is id f e = let s = shown.there id f e in (s.held.file, s.sequence)

  -- the marks of a directory are one
  same_mark : (n : ℕ) (blocks : List ℕ) → mark_in (attributes_of (header_at I L n)) (length (contents_of I blocks)) ≡ mark_at I L n blocks
  same_mark n blocks = ap (mark_in (attributes_of (header_at I L n))) (length-map blocks (block_at I))

  -- the names of a directory
  names_are : (n : ℕ) (blocks : List ℕ) → HasBlocks I L n blocks → is_directory_header n (header_at I L n) ≡ true → names_in C (id_at I L n) ≡ names_in_blocks (contents_of I blocks) (mark_at I L n blocks)
  names_are n blocks has directory =
      ap (λ (o : Option File). names_of (unwrap_or o no_file).body) (there_by n blocks has)
      ∙ ap names_of (body_shown n (header_at I L n) (contents_of I blocks) ∙ directory_body n (header_at I L n) (contents_of I blocks) directory)
      ∙ ap (names_in_blocks (contents_of I blocks)) (same_mark n blocks)

  -- a name of a directory is in the catalogue, and its key is that of a name
  pub name_there : (d : ℕ) (line : Listed) → HasName I L d line → (e : IsIn C (id_at I L d) line) × (IsName line.name × (key_of line.name line.version ≡ e.key))
  name_there d line h =
      let m : NameMap = names_in_blocks (contents_of I h.blocks) (mark_at I L d h.blocks) in
      let names : names_in C (id_at I L d) ≡ m = names_are d h.blocks h.has h.file.1 in
      let k = keyed m line h.named in
      let good = good_key (contents_of I h.blocks) (mark_at I L d h.blocks) h.good k.key line.file k.there in
      let whole : key_of line.name line.version ≡ k.key = (λ i. key_of (sym k.name i) (sym k.version i)) ∙ good.1 in
      (record { key = k.key; there = ap (λ n. finmap.get n k.key) names ∙ k.there; name = k.name; version = k.version }, (subst IsName k.name good.0, whole))

  -- and a name of the catalogue stands in a directory
  pub there_name : (id : FileId) (line : Listed) → IsIn C id line → HasName I L id.number line × (id ≡ id_at I L id.number)
  there_name id line e = by (finmap.get C.files id) refl
    where
      by : (o : Option File) → finmap.get C.files id ≡ o → HasName I L id.number line × (id ≡ id_at I L id.number)
      by None none =
          absurd (let wrong : None ≡ Some line.file = sym (get-empty {X = FileId} (slice_cmp nat_cmp) e.key) ∙ ap (λ (o : Option File). finmap.get (names_of (unwrap_or o no_file).body) e.key) (sym none) ∙ e.there in cc)
      by (Some f) is =
          let s = shown.there id f is in
          let n : ℕ = id.number in
          let xs : List (List ℕ) = contents_of I s.blocks in
          let body : f.body ≡ body_of n (header_at I L n) xs = ap (λ (g : File). g.body) (sym s.shown) ∙ body_shown n (header_at I L n) xs in
          let at : names_in C id ≡ names_of (body_of n (header_at I L n) xs) = ap (λ (o : Option File). names_of (unwrap_or o no_file).body) is ∙ ap names_of body in
          let found = has_names n (header_at I L n) xs e.key line.file (ap (λ m. finmap.get m e.key) (sym at) ∙ e.there) in
          let m : NameMap = names_in_blocks xs (mark_at I L n s.blocks) in
          let names : names_in C id ≡ m = at ∙ found.1 ∙ ap (names_in_blocks xs) (same_mark n s.blocks) in
          let directory : IsDirectoryFile I L n = (s.held.file, found.0) in
          let same : line_by (e.key, line.file) ≡ line = λ i. record { name = e.name i; version = e.version i; file = line.file } in (
            record {
              blocks = s.blocks;
              has = s.held;
              file = directory;
              good = sound.directories n s.blocks directory s.held;
              named = subst (Contains (lines_of m)) same (line_there m e.key line.file (ap (λ k. finmap.get k e.key) (sym names) ∙ e.there));
            },
            λ i. record { number = n; sequence = sym s.sequence i },
          )
