-- Members that have no float, and one more.
use Rattle.std.proofs.Common.{◌≡◌, ◌∙◌, ℕ, Bool, true, false, List, ap, refl, rules, Ordering, Less, Equal, Greater, String, BTreeMap, Global, string_bytes, string_cmp}
use Rattle.std.specs.BTreeMap.{insert_entry}
use Rattle.std.specs.Prelude.{◌||◌, codes}
use Rattle.std.specs.Ordering.{match_ordering, nat_cmp}
use Rattle.std.specs.Cmp.Lexicographic.{slice_cmp}
use Rattle.serde_json.specs.Data.{Data, Members, no_members, member, number, object, put, string, unsigned}
use Rattle.serde_json.specs.View.{members_view, view}
use Rattle.serde_json.specs.Written.{compact_text, has_float, members_have_float}
use Rattle.serde_json.specs.declared.value.Value.{Value, Object, String as Text, the_lemmas}
use Rattle.serde_json.proofs.Views.{Entry, members_view-insert_entry, view-Object}
use Rattle.ods_shell.specs.Json.{with_file_numbers, with_number, with_text}
use Rattle.ods_shell.specs.declared.space.Space.{Space}

pub neither : (a b : Bool) → a ≡ false → b ≡ false → (a || b) ≡ false
neither false b first second = second
neither true b first second = absurd (cc)

first_false : (a b : Bool) → (a || b) ≡ false → a ≡ false
first_false false b both = refl
first_false true b both = both

second_false : (a b : Bool) → (a || b) ≡ false → b ≡ false
second_false false b both = both
second_false true b both = let clash : true ≡ false = both in absurd (cc)

either_way : (o : Ordering) (a b c : Members) → members_have_float a ≡ false → members_have_float b ≡ false → members_have_float c ≡ false → members_have_float (match_ordering o a b c) ≡ false
either_way Less a b c x y z = x
either_way Equal a b c x y z = y
either_way Greater a b c x y z = z

pub put_plain : (k : List ℕ) (d : Data) (ms : Members) → has_float d ≡ false → members_have_float ms ≡ false → members_have_float (put k d ms) ≡ false
put_plain k d no_members one all = neither (has_float d) false one refl
put_plain k d (member l e ms) one all =
    let rest : members_have_float ms ≡ false = second_false (has_float e) (members_have_float ms) all in
    either_way (slice_cmp nat_cmp k l) (member k d (member l e ms)) (member l d ms) (member l e (put k d ms))
    (neither (has_float d) (has_float e || members_have_float ms) one all)
    (neither (has_float d) (members_have_float ms) one rest)
    (neither (has_float e) (members_have_float (put k d ms)) (first_false (has_float e) (members_have_float ms) all) (put_plain k d ms one rest))

-- an entry more, where the members stand in a map
pub entries_put : (old new : List Entry) (key : String Global) (value : Value) (name : List ℕ) → new ≡ insert_entry string_cmp old key value → string_bytes key ≡ name → members_view new ≡ put name (view value) (members_view old)
entries_put old new key value name entered named = ap members_view entered ∙ members_view-insert_entry old key value ∙ ap (λ k. put k (view value) (members_view old)) named

view_text : (s : String Global) → view (Text s) ≡ string (string_bytes s)
view_text s = search (rules, the_lemmas)

pub text_put : (name text : List ℕ) (s : String Global) (old new : Members) → string_bytes s ≡ text → new ≡ put name (view (Text s)) old → new ≡ with_text name text old
unfolding with_text
text_put name text s old new is put_there = put_there ∙ ap (λ d. put name d old) (view_text s ∙ ap string is)

pub text_put_plain : (name : List ℕ) (s : String Global) (old new : Members) → new ≡ put name (view (Text s)) old → members_have_float old ≡ false → members_have_float new ≡ false
text_put_plain name s old new put_there plain = ap members_have_float put_there ∙ put_plain name (view (Text s)) old (ap has_float (view_text s)) plain

pub number_put : (name : List ℕ) (n : ℕ) (v : Value) (old new : Members) → view v ≡ number (unsigned n) → new ≡ put name (view v) old → new ≡ with_number name n old
unfolding with_number
number_put name n v old new is put_there = put_there ∙ ap (λ d. put name d old) is

pub number_put_plain : (name : List ℕ) (n : ℕ) (v : Value) (old new : Members) → view v ≡ number (unsigned n) → new ≡ put name (view v) old → members_have_float old ≡ false → members_have_float new ≡ false
number_put_plain name n v old new is put_there plain = ap members_have_float put_there ∙ put_plain name (view v) old (ap has_float is) plain

pub number_plain : (name : List ℕ) (n : ℕ) (ms : Members) → members_have_float ms ≡ false → members_have_float (with_number name n ms) ≡ false
unfolding with_number
number_plain name n ms plain = put_plain name (number (unsigned n)) ms refl plain

pub compact_is : (m : BTreeMap (String Global) Value) (text : List ℕ) → (has_float (view (Object m)) ≡ false → text ≡ compact_text (view (Object m))) → members_have_float (members_view m.entries) ≡ false → text ≡ compact_text (object (members_view m.entries))
compact_is m text said plain = let is = view-Object m in said (ap has_float is ∙ plain) ∙ ap compact_text is

pub file_numbers_put : (s : Space) (numbers ready most : ℕ) (a b c d : Members) → numbers ≡ s.numbers → ready ≡ s.ready → most ≡ s.most
    → b ≡ with_number (codes "numbers_in_use") numbers a → c ≡ with_number (codes "numbers_ready") ready b → d ≡ with_number (codes "numbers") most c → d ≡ with_file_numbers s a
unfolding with_file_numbers
file_numbers_put s numbers ready most a b c d e f g first second third =
    third ∙ (λ i. with_number (codes "numbers") (g i) (second i)) ∙ (λ i. with_number (codes "numbers") s.most (with_number (codes "numbers_ready") (f i) (first i)))
    ∙ (λ i. with_number (codes "numbers") s.most (with_number (codes "numbers_ready") s.ready (with_number (codes "numbers_in_use") (e i) a)))
