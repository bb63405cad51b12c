-- A directory has a name where one of its entries before the mark is used.
use Rattle.std.proofs.Common.{◌≡◌, ◌≢◌, ℕ, ◌/◌, ◌<◌, true, false, not, List, [], ◌∷◌, length, Option, Some, None, refl, sym, ap, ◌∙◌, arith}
use Rattle.std.specs.Prelude.{◌==◌, is_some, slice_get}
use Rattle.std.specs.FinMap.{len}
use Rattle.std.proofs.lemmas.Option.{slice_get_within}
use Rattle.ods_directory.specs.declared.first.Kind.TheVariants.{Used}
use Rattle.ods_directory.specs.Entry.{Entry, is_used, entry_at}
use Rattle.ods_directory.specs.First.{IsFirst}
use Rattle.ods_directory.specs.Names.{IsDirectory, names_of}
use Rattle.ods_directory.proofs.Used.{IsAmong, used_from, used_entries-is, among_used, used_among}
use Rattle.ods_directory.proofs.Lookups.{len_names}

-- where no entry is used, none is in the list
none_used : (entry : ℕ → Entry) (m : ℕ) → ((j : ℕ) → j < m → is_used (entry j) ≡ false) → used_from entry 0 m ≡ []
none_used entry m unused = by (used_from entry 0 m) refl
  where
    by : (es : List Entry) → used_from entry 0 m ≡ es → used_from entry 0 m ≡ []
    by [] e = e
    by (x ∷ es) e =
        let g = used_among entry 0 m x 0 (ap (λ l. slice_get l 0) e) in
        let below = g.below in
        let wrong : true ≡ false = sym g.used ∙ unused g.at (omega arith) in
        absurd (cc)

-- the count of names is not 0 just where there is a first used entry
pub names_there : (blocks : List (List ℕ)) (mark : ℕ) (position : Option ℕ) → IsDirectory blocks mark → IsFirst Used (entry_at blocks) (mark / 16) position
    → is_some position ≡ not (len (names_of blocks mark) == 0)
names_there blocks mark position directory first = by position first ∙ ap (λ n. not (n == 0)) (sym count)
  where
    list : List Entry
    list = used_from (entry_at blocks) 0 (mark / 16)

    count : len (names_of blocks mark) ≡ length list
    count = len_names blocks mark directory ∙ ap length (used_entries-is blocks mark)

    some : (n : ℕ) → n ≢ 0 → true ≡ not (n == 0)
    some n other = grind arith

    by : (p : Option ℕ) → IsFirst Used (entry_at blocks) (mark / 16) p → is_some p ≡ not (length list == 0)
    by None none = ap (λ l. not (length l == 0)) (sym (none_used (entry_at blocks) (mark / 16) none))
    by (Some k) found =
        let among : IsAmong list (entry_at blocks k) = among_used (entry_at blocks) 0 (mark / 16) k (omega arith) (omega (arith, found.0)) found.1 in
        let within = slice_get_within list among.at (entry_at blocks k) among.there in
        some (length list) (λ e. absurd (omega arith))
