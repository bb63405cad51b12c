-- The names that lead to a directory and its number, by the table of those that were entered.
use Rattle.std.proofs.Common.{◌≡◌, ℕ, zero, suc, ◌+◌, ◌<◌, ◌≤◌, refl, sym, ap, ◌∙◌, subst, false, cond, List, [], ◌∷◌, ◌++◌, length, take, drop, reverse, append_assoc, length-append, Option, Some, None, arith}
use Rattle.std.specs.Prelude.{◌==◌}
use Rattle.std.specs.List.{slice_get}
use Rattle.std.specs.Option.{option_map_or}
use Rattle.std.proofs.lemmas.Bool.{ne_eqb, eq-eqb}
use Rattle.std.proofs.lemmas.List.{reverse-append, length-reverse, length-take-le, take-append-drop, drop_more}
use Rattle.std.proofs.lemmas.Option.{slice_get_within, get_or_from_slice_get}
use Rattle.ods_base.specs.Name.{RadName}
use Rattle.ods_walk.specs.declared.tables.Entered.{Entered}
use Rattle.ods_walk.specs.Paths.{led_by, path_in, path_to, number_at}

-- a place past the table has no way
none_in : (es : List Entered) (place : ℕ) → length es ≤ place → path_in es place ≡ []
none_in [] place past = refl
none_in (e ∷ es) place past =
    let other : (place == length es) ≡ false = ne_eqb place (length es) (λ same. absurd (omega arith)) in
    ap (λ b. cond b (led_by (λ at. path_in es at) e.from) (path_in es place)) other ∙ none_in es place (omega arith)

-- the way to a place is by what was entered before
way_in : (newer : List Entered) (e : Entered) (older : List Entered) (place : ℕ) → place ≡ length older → path_in (newer ++ e ∷ older) place ≡ led_by (λ at. path_in older at) e.from
way_in [] e older place is = ap (λ b. cond b (led_by (λ at. path_in older at) e.from) (path_in older place)) (eq-eqb place (length older) is)
way_in (x ∷ newer) e older place is =
    let long = length-append newer (e ∷ older) in
    let other : (place == length (newer ++ e ∷ older)) ≡ false = ne_eqb place (length (newer ++ e ∷ older)) (λ same. absurd (omega arith)) in
    ap (λ b. cond b (led_by (λ at. path_in (newer ++ e ∷ older) at) x.from) (path_in (newer ++ e ∷ older) place)) other ∙ way_in newer e older place is

-- a place past the table
pub no_way : (table : List Entered) (place : ℕ) → length table ≤ place → path_to table place ≡ []
no_way table place past = none_in (reverse table) place (subst (λ n. n ≤ place) (sym (length-reverse table)) past)

-- the way to a directory is that to the one whose entry led to it, and its name there
pub way_to : (table : List Entered) (place : ℕ) (e : Entered) → slice_get table place ≡ Some e → path_to table place ≡ led_by (λ at. path_to (take place table) at) e.from
way_to table place e is =
    let within : place < length table = slice_get_within table place e is in
    let at : drop place table ≡ e ∷ drop (place + 1) table = drop_more table place e within ∙ ap (λ x. x ∷ drop (place + 1) table) (get_or_from_slice_get table place e e is) in
    let whole : table ≡ take place table ++ e ∷ drop (place + 1) table = sym (take-append-drop place table) ∙ ap (λ l. take place table ++ l) at in
    let turned : reverse table ≡ reverse (drop (place + 1) table) ++ e ∷ reverse (take place table) =
    ap reverse whole ∙ reverse-append (take place table) (e ∷ drop (place + 1) table)
    ∙ ap (λ l. l ++ reverse (take place table)) (reverse-append (e ∷ []) (drop (place + 1) table))
    ∙ append_assoc (reverse (drop (place + 1) table)) (e ∷ []) (reverse (take place table)) in
    let size : place ≡ length (reverse (take place table)) = sym (length-reverse (take place table) ∙ length-take-le place table (omega arith)) in
    ap (λ l. path_in l place) turned ∙ way_in (reverse (drop (place + 1) table)) e (reverse (take place table)) place size

reverse_push : (table : List Entered) (e : Entered) → reverse (table ++ e ∷ []) ≡ e ∷ reverse table
reverse_push table e = reverse-append table (e ∷ [])

-- a directory that is entered changes no other's way
pub way_stays : (table : List Entered) (e : Entered) (place : ℕ) → place < length table → path_to (table ++ e ∷ []) place ≡ path_to table place
way_stays table e place within =
    let size = length-reverse table in
    let other : (place == length (reverse table)) ≡ false = ne_eqb place (length (reverse table)) (λ same. absurd (omega arith)) in
    ap (λ l. path_in l place) (reverse_push table e) ∙ ap (λ b. cond b (led_by (λ at. path_in (reverse table) at) e.from) (path_in (reverse table) place)) other

-- and its own is by the entry that led to it
pub way_of_new : (table : List Entered) (e : Entered) → path_to (table ++ e ∷ []) (length table) ≡ led_by (λ at. path_to table at) e.from
way_of_new table e = ap (λ l. path_in l (length table)) (reverse_push table e) ∙ way_in [] e (reverse table) (length table) (sym (length-reverse table))

-- nothing leads to where a walk starts
pub not_led : (path : ℕ → List RadName) (from : Option (ℕ × RadName)) → ((x : ℕ × RadName) → from ≡ Some x → ⊥) → led_by path from ≡ []
not_led path None none = refl
not_led path (Some x) none = absurd (none x refl)

-- the element at a place of a longer table
pub get_stays : (table : List Entered) (e : Entered) (place : ℕ) → place < length table → slice_get (table ++ e ∷ []) place ≡ slice_get table place
get_stays [] e place within = absurd (omega arith)
get_stays (x ∷ table) e zero within = refl
get_stays (x ∷ table) e (suc place) within = get_stays table e place (omega arith)

pub get_new : (table : List Entered) (e : Entered) → slice_get (table ++ e ∷ []) (length table) ≡ Some e
get_new [] e = refl
get_new (x ∷ table) e = get_new table e

pub number_stays : (table : List Entered) (e : Entered) (place : ℕ) → place < length table → number_at (table ++ e ∷ []) place ≡ number_at table place
number_stays table e place within = ap (λ o. option_map_or (λ (x : Entered). x.number) o 0) (get_stays table e place within)

pub number_of_new : (table : List Entered) (e : Entered) → number_at (table ++ e ∷ []) (length table) ≡ e.number
number_of_new table e = ap (λ o. option_map_or (λ (x : Entered). x.number) o 0) (get_new table e)
