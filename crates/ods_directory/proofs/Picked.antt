-- From the entries that have a name to the versions that the map has of it.
use Rattle.std.proofs.Common.{◌≡◌, ℕ, ◌+◌, ◌/◌, ◌<◌, ◌≤◌, true, List, [], ◌∷◌, length, nat_eq, Option, Some, None, is_some, refl, sym, ap, ◌∙◌, subst, arith, length-append}
use Rattle.std.proofs.lemmas.Bool.{and_parts, and_from}
use Rattle.std.specs.FinMap as names
use lib.Pointwise.{pointwise, bytes_decides}
use Rattle.ods_base.specs.declared.file_id.FileId.{FileId}
use Rattle.ods_base.specs.Name.{RadName, key_of}
use Rattle.ods_base.specs.Names.{NameMap, version_of, is_of, Has, IsPicked, HasNone, Finds}
use Rattle.ods_base.specs.declared.name.Pick.{Pick}
use Rattle.ods_base.specs.declared.name.Pick.TheVariants.{Exact, Highest, Lowest}
use Rattle.ods_base.proofs.Picks.{version_in}
use Rattle.ods_directory.specs.declared.search.Found.{Found}
use Rattle.ods_directory.specs.Entry.{Entry, is_used, entry_at}
use Rattle.ods_directory.specs.Names.{IsDirectory, names_of}
use Rattle.ods_directory.specs.Search.{is_named, IsEntryOf, IsFound}
use Rattle.ods_directory.proofs.Lookups.{entry_of_name, name_of_entry}

-- a key of five words that is the name's key of a version has the name and that version
of_name : (key : List ℕ) (n : RadName) (v : ℕ) → length key ≡ 5 → key ≡ key_of n v → (is_of n key ≡ true) × (version_of key ≡ v)
of_name key n v five e =
    let long : length n.words + 2 ≡ 5 = sym (length-append n.words (n.ext ∷ v ∷ [])) ∙ sym (ap length e) ∙ five in
    let three : length n.words ≡ 3 = omega (arith, long) in
    let same : version_of key ≡ v = ap version_of e ∙ version_in n.words n.ext v three in
    let whole : key ≡ key_of n (version_of key) = e ∙ ap (key_of n) (sym same) in
    (subst (λ k. pointwise nat_eq key k ≡ true) whole ((bytes_decides key key).1 refl), same)

has_file : (o : Option FileId) → is_some o ≡ true → (f : FileId) × (o ≡ Some f)
has_file None h = absurd (cc)
has_file (Some f) h = (f, refl)

module _ (blocks : List (List ℕ)) (mark : ℕ) (n : RadName) where
  abbrev map : NameMap
  map = names_of blocks mark

  abbrev entry : ℕ → Entry
  entry = entry_at blocks

  -- a version that the map has stands in an entry that has the name
  pub record IsVersionAt (v : ℕ) : Type 0 where
    pub at : ℕ
    pub below : at < mark / 16
    pub named : is_named n (entry_at blocks at) ≡ true
    pub version : version_of (entry_at blocks at).key ≡ v

  pub version_at : (v : ℕ) → Has map n v → IsVersionAt v
  version_at v h =
      let file = has_file (names.get map (key_of n v)) h in
      let g = entry_of_name blocks mark (key_of n v) file.0 file.1 in
      let has = of_name (entry_at blocks g.at).key n v refl g.key in
      record { at = g.at; below = g.below; named = and_from (is_used (entry_at blocks g.at)) (is_of n (entry_at blocks g.at).key) g.used has.0; version = has.1 }

  -- the key of an entry that has the name
  pub key_at : (k : ℕ) → is_named n (entry_at blocks k) ≡ true → (entry_at blocks k).key ≡ key_of n (version_of (entry_at blocks k).key)
  key_at k named = (bytes_decides _ _).0 (and_parts (is_used (entry_at blocks k)) (is_of n (entry_at blocks k).key) named).1

  -- the map has the file of an entry that has the name
  pub file_at : (f : Found) → IsDirectory blocks mark → IsEntryOf entry (mark / 16) n f → names.get map (key_of n f.version) ≡ Some f.file
  file_at f directory h =
      name_of_entry blocks mark (key_of n f.version) f.file directory (record {
        at = f.position;
        below = h.below;
        used = (and_parts (is_used (entry_at blocks f.position)) (is_of n (entry_at blocks f.position).key) h.named).0;
        key = key_at f.position h.named ∙ ap (key_of n) (sym h.version);
        file = sym h.file;
      })

  pub finds : (pick : Pick) (f : Found) → IsDirectory blocks mark → IsFound entry (mark / 16) n pick (Some f) → Finds map n pick f.file f.version
  finds pick f directory h = (by pick h, file_at f directory h.0)
    where
      has : Has map n f.version
      has = ap is_some (file_at f directory h.0)

      by : (p : Pick) → IsFound entry (mark / 16) n p (Some f) → IsPicked map n p f.version
      by (Exact v) g = (g.1, has)
      by Highest g = (has, λ v there. let w = version_at v there in subst (λ x. x ≤ f.version) w.version (g.1 w.at w.below w.named))
      by Lowest g = (has, λ v there. let w = version_at v there in subst (λ x. f.version ≤ x) w.version (g.1 w.at w.below w.named))

  pub finds_none : (pick : Pick) → IsFound entry (mark / 16) n pick None → HasNone map n pick
  finds_none (Exact v) h = λ there. let w = version_at v there in h w.at w.below w.named w.version
  finds_none Highest h = λ v there. let w = version_at v there in h w.at w.below w.named
  finds_none Lowest h = λ v there. let w = version_at v there in h w.at w.below w.named
