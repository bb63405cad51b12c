-- What the blocks of a volume show of the names of its directories.
use Rattle.std.proofs.Common.{◌≡◌, ℕ, ◌+◌, sym, ap, ◌∙◌, Bool, true, false, cond, List, [], ◌∷◌, length, length-append, Some, arith}
use Rattle.std.specs.Prelude.{nat_le}
use Rattle.std.specs.FinMap as map
use Rattle.ods_base.specs.declared.file_id.FileId.{FileId}
use Rattle.ods_base.specs.Name.{RadName, key_of}
use Rattle.ods_base.specs.Names.{NameMap}
use Rattle.ods_header.specs.Header.{attributes_of, is_directory_header}
use Rattle.ods_space.specs.Layout.{VolumeLayout, header_at}
use Rattle.ods_directory.specs.Mark.{mark_in}
use Rattle.ods_directory.specs.Names.{names_of}
use Rattle.ods_directory.proofs.Lookups.{entry_of_name}
use Rattle.ods_mount.specs.Faults.{contents_of}
use Rattle.ods_request.specs.Catalogue.{Catalogue, File, System, Directory, Plain, attributes_of as attributes_in_body, blocks_of as blocks_in_body, names_of as names_in_body}
use Rattle.ods_state.specs.Contents.{body_of, file_of, ShowsBy}

-- the names of a directory that the blocks show stand in its blocks
names_are : (n : ℕ) (b : List ℕ) (xs : List (List ℕ)) (names : NameMap) → body_of n b xs ≡ Directory names → names ≡ names_of xs (mark_in (attributes_of b) (length xs))
unfolding body_of
names_are n b xs names e = by (nat_le n 2) (is_directory_header n b) e
  where
    by : (p q : Bool) → cond p System (cond q (Directory (names_of xs (mark_in (attributes_of b) (length xs)))) (Plain (attributes_of b) xs)) ≡ Directory names
        → names ≡ names_of xs (mark_in (attributes_of b) (length xs))
    by true q g = absurd (cc)
    by false true g = ap names_in_body (sym g)
    by false false g = absurd (cc)

-- and the attributes and blocks of a plain file are those of its header and its chain
pub plain_is : (n : ℕ) (b : List ℕ) (xs : List (List ℕ)) (a : List ℕ) (bs : List (List ℕ)) → body_of n b xs ≡ Plain a bs → (attributes_of b ≡ a) × (xs ≡ bs)
unfolding body_of
plain_is n b xs a bs e = by (nat_le n 2) (is_directory_header n b) e
  where
    by : (p q : Bool) → cond p System (cond q (Directory (names_of xs (mark_in (attributes_of b) (length xs)))) (Plain (attributes_of b) xs)) ≡ Plain a bs → (attributes_of b ≡ a) × (xs ≡ bs)
    by true q g = absurd (cc)
    by false true g = absurd (cc)
    by false false g = (ap attributes_in_body g, ap blocks_in_body g)

pub shown_body : (n : ℕ) (b : List ℕ) (xs : List (List ℕ)) (f : File) → file_of n b xs ≡ f → body_of n b xs ≡ f.body
unfolding file_of
shown_body n b xs f e = ap (λ (g : File). g.body) e

-- a directory of the catalogue has this entry
pub record HasEntry (C : Catalogue) (dir : FileId) (name : RadName) (version : ℕ) (file : FileId) : Type 0 where
  pub directory : File
  pub there : map.get C.files dir ≡ Some directory
  pub names : NameMap
  pub body : directory.body ≡ Directory names
  pub has : map.get names (key_of name version) ≡ Some file

-- a name that the blocks show has three words
pub three_words : (I : List (List ℕ)) (L : VolumeLayout) (C : Catalogue) (dir : FileId) (name : RadName) (version : ℕ) (file : FileId) → ShowsBy I L C → HasEntry C dir name version file → length name.words ≡ 3
three_words I L C dir name version file shown e =
    let is = shown.there dir e.directory e.there in
    let blocks : List (List ℕ) = contents_of I is.blocks in
    let head : List ℕ = header_at I L dir.number in
    let names : e.names ≡ names_of blocks (mark_in (attributes_of head) (length blocks)) = names_are dir.number head blocks e.names (shown_body dir.number head blocks e.directory is.shown ∙ e.body) in
    let entry = entry_of_name blocks (mark_in (attributes_of head) (length blocks)) (key_of name version) file (ap (λ m. map.get m (key_of name version)) (sym names) ∙ e.has) in
    let long : length name.words + 2 ≡ 5 = sym (length-append name.words (name.ext ∷ version ∷ [])) ∙ sym (ap length entry.key) in
    omega (arith, long)
