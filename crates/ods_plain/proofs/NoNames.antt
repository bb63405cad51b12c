-- What is found among no names.
use Rattle.std.proofs.Common.{◌≡◌, ℕ, false, true, [], refl, sym, ap, ◌∙◌, fold, max, cond, None, Some, is_some, List}
use Rattle.std.specs.Prelude.{◌==◌}
use Rattle.std.specs.FinMap as names
use Rattle.ods_base.specs.declared.file_id.FileId.{FileId}
use Rattle.ods_base.specs.declared.name.Pick.{Pick}
use Rattle.ods_base.specs.declared.name.Pick.TheVariants.{Exact, Highest, Lowest}
use Rattle.ods_base.specs.Name.{RadName, key_of}
use Rattle.ods_base.specs.Names.{NameMap, picked_version, last_version, versions_of, highest_of, lowest_of, lines_of}
use Rattle.ods_plain.proofs.LineLists.{key_cmp, no_names, versions-names_in, lines-names_in}

abbrev nothing : NameMap
nothing = names.empty

pub get_none : (k : List ℕ) → names.get nothing k ≡ None
get_none k = names.get-empty key_cmp k

has_none : (k : List ℕ) → names.contains_key nothing k ≡ false
has_none k = ap is_some (get_none k)

pub empty_none : (names.len nothing == 0) ≡ true
empty_none = ap (λ n. n == 0) (names.len-empty key_cmp FileId)

versions_none : (n : RadName) → versions_of nothing n ≡ []
versions_none n = ap (λ m. versions_of m n) (sym no_names) ∙ versions-names_in [] n (record { rising = tt; named = refl })

pub pick_none : (n : RadName) (pick : Pick) → picked_version nothing n pick ≡ None
pick_none n (Exact v) = ap (λ b. cond b (Some v) None) (has_none (key_of n v))
pick_none n Highest = ap highest_of (versions_none n)
pick_none n Lowest = ap lowest_of (versions_none n)

pub last_none : (n : RadName) → last_version nothing n ≡ 0
last_none n = ap (fold max 0) (versions_none n)

pub lines_none : lines_of nothing ≡ []
lines_none = ap lines_of (sym no_names) ∙ lines-names_in [] (record { rising = tt; named = refl })
