-- What append leaves, by the requests that it makes.
use Rattle.std.proofs.Common.{◌≡◌, ◌≢◌, ℕ, zero, suc, ◌+◌, ◌-◌, ◌/◌, ◌%◌, ◌*◌, ◌^◌, ◌<◌, refl, ap, sym, ◌∙◌, subst, arith, inl, inr, Bool, true, false, cond, List, [], ◌∷◌, ◌++◌, length, map, take, drop, replicate, length-take-le, Result, Ok, Err}
use Rattle.std.specs.Prelude.{◌⊎◌, ◌==◌, ◌||◌, nat_le}
use Rattle.std.specs.List.{range_with_len}
use Rattle.std.proofs.lemmas.List.{length-append, length-drop}
use Rattle.std.proofs.lemmas.List.Elements.{All-nil, All-cons}
use Rattle.ods_base.specs.declared.file_id.FileId.{FileId}
use Rattle.ods_records.specs.Attributes.{end_of, word}
use Rattle.ods_records.specs.Records.{word_at}
use Rattle.ods_records.proofs.EndSet.{end_set}
use Rattle.ods_request.specs.declared.requests.Request.{Request}
use Rattle.ods_request.specs.declared.requests.Request.TheVariants.{Create, Extend, Truncate, Delete, Enter, LookUp, Remove, Read, Write, List as Lines, Stat, SetUser}
use Rattle.ods_request.specs.Catalogue.{Catalogue}
use Rattle.ods_request.specs.Steps.{after}
use Rattle.ods_request.specs.Table.{creates}
use Rattle.ods_request.proofs.StepLaws.{determined}
use Rattle.ods_state.specs.Contents.{ShowsBy}
use Rattle.ods_filing.specs.Filed.{Filed}
use Rattle.ods_filing.specs.Led.{Asks, IsLed, IsObeyed, Permits}
use Rattle.ods_filing.specs.Put.{block_count, block_with}
use Rattle.ods_filing.proofs.Led.{stays, obeyed, then_led, led_to}
use Rattle.ods_shell.specs.declared.facts.Facts.{Facts}
use Rattle.std.specs.Prelude.{MatchResult}
use Rattle.ods_space.specs.Layout.{VolumeLayout}
use Rattle.ods_shell.specs.declared.alone.Alone.TheVariants as alone
use Rattle.ods_shell.specs.Named.{highest}
use Rattle.ods_shell.specs.declared.found.Found.{Found}
use Rattle.ods_upkeep.specs.Sources.{AreOfPath}
use Rattle.ods_upkeep.specs.Appended.{AreBehind, AreNotBehind, HoldsBytes, IsGrown, IsLeftOf, IsNotGrown, IsNotOpen, IsNotOpened, IsOpen, IsOpened, appends, grows, with_size, writes}
use Rattle.ods_upkeep.specs.Kinds.{Appends}
use Rattle.ods_upkeep.specs.Laws.{AppendPutsBehind}
use Rattle.ods_upkeep.specs.Pieces.{with_end}
use Rattle.ods_upkeep.specs.Refused.{StopsAt}
use Rattle.ods_upkeep.specs.Removed.{Does}
use Rattle.ods_upkeep.specs.declared.failure.Why.{Why}
use Rattle.ods_upkeep.proofs.Behind.{afters, left_of}

-- each of these is one that append asks for
abbrev AreAll : List Request → Type 0
AreAll [] = Unit {0}
AreAll (r ∷ rs) = Appends r × AreAll rs

both_are : (rs qs : List Request) → AreAll rs → AreAll qs → AreAll (rs ++ qs)
both_are [] qs first rest = rest
both_are (r ∷ rs) qs first rest = (first.0, both_are rs qs first.1 rest)

many_are : (file : FileId) (q : ℕ) → AreAll (replicate q (Extend file 65535))
many_are file zero = tt
many_are file (suc q) = (tt, many_are file q)

rest_are : (file : FileId) (n : ℕ) (b : Bool) → AreAll (cond b [] (Extend file n ∷ []))
rest_are file n true = tt
rest_are file n false = (tt, tt)

writes_are : (file : FileId) (all : List ℕ) (first n : ℕ) → AreAll (writes file all first n)
writes_are file all first zero = tt
writes_are file all first (suc n) = (tt, writes_are file all (first + 1) n)

last_is : (file : FileId) (attributes : List ℕ) → AreAll (SetUser file attributes ∷ [])
last_is file attributes = (tt, tt)

appends_are : (facts : Facts) (old : ℕ) (all attributes : List ℕ) → AreAll (appends facts old all attributes)
appends_are facts old all attributes =
    let more = block_count all - facts.blocks in
    let first = old / 512 in
    let count = block_count all - old / 512 in
    both_are (grows facts.file more) (writes facts.file all first count ++ SetUser facts.file attributes ∷ [])
    (both_are (replicate (more / 65535) (Extend facts.file 65535)) (cond (more % 65535 == 0) [] (Extend facts.file (more % 65535) ∷ [])) (many_are facts.file (more / 65535)) (rest_are facts.file (more % 65535) (more % 65535 == 0)))
    (both_are (writes facts.file all first count) (SetUser facts.file attributes ∷ []) (writes_are facts.file all first count) (last_is facts.file attributes))

led_by : (old new : Filed) (rs : List Request) → AreAll rs → Does old rs new → IsLed Appends old new
led_by old new [] are done = led_to new done (stays old)
led_by old new (r ∷ rs) are done = then_led (obeyed r are.0 done.1) (led_by done.0 new rs are.1 done.2)

led_until : (old new : Filed) (rs : List Request) (why : Why) → AreAll rs → StopsAt old rs new why → IsLed Appends old new
led_until old new [] why are stop = absurd stop
led_until old new (r ∷ rs) why are (inl here) = led_to new here.0 (stays old)
led_until old new (r ∷ rs) why are (inr later) = then_led (obeyed r are.0 later.1) (led_until later.0 new rs why are.1 later.2)

-- done or not, it is what these requests leave
pub led_done : (facts : Facts) (held : ℕ) (all attributes : List ℕ) (old new : Filed) → Does old (appends facts held all attributes) new → IsLed Appends old new
led_done facts held all attributes old new done = led_by old new (appends facts held all attributes) (appends_are facts held all attributes) done

pub led_stopped : (facts : Facts) (held : ℕ) (all attributes : List ℕ) (old new : Filed) (why : Why) → StopsAt old (appends facts held all attributes) new why → IsLed Appends old new
led_stopped facts held all attributes old new why stop = led_until old new (appends facts held all attributes) why (appends_are facts held all attributes) stop

-- none of them makes a file
makes_none : (r : Request) → Appends r → creates r ≡ false
makes_none (Extend file blocks) h = refl
makes_none (Write file vbn block) h = refl
makes_none (SetUser file attributes) h = refl
makes_none (Create name version blocks stamp) h = absurd h
makes_none (Truncate file blocks) h = absurd h
makes_none (Delete file) h = absurd h
makes_none (Enter dir name version file) h = absurd h
makes_none (LookUp dir name pick) h = absurd h
makes_none (Remove dir name pick) h = absurd h
makes_none (Read file vbn) h = absurd h
makes_none (Lines dir) h = absurd h
makes_none (Stat file) h = absurd h

-- one of them leaves what it leaves of each catalogue
left_by : (old new : Filed) (r : Request) → creates r ≡ false → IsObeyed old r new → (C : Catalogue) → ShowsBy old.image old.layout C → ShowsBy new.image new.layout (after C r)
left_by old new r none done C s =
    let made = done.1.steps C s (λ n yes e. let wrong : false ≡ true = sym none ∙ yes in absurd (cc)) in
    subst (ShowsBy new.image new.layout) (determined C made.0 old.user r done.0 none made.1).1 made.2

-- and all of them
all_left : (old new : Filed) (rs : List Request) → AreAll rs → Does old rs new → (C : Catalogue) → ShowsBy old.image old.layout C → ShowsBy new.image new.layout (afters C rs)
all_left old new [] are done C s = subst (λ (f : Filed). ShowsBy f.image f.layout C) (sym done) s
all_left old new (r ∷ rs) are done C s = all_left done.0 new rs are.1 done.2 (after C r) (left_by old done.0 r (makes_none r are.0) done.1 C s)

-- what stands behind the old bytes
behind_held : (own held bytes all attributes : List ℕ) → AreBehind own held bytes all attributes → (more : List ℕ) × (all ≡ held ++ more)
behind_held own held bytes all attributes (inl text) = (_, text.1.behind)
behind_held own held bytes all attributes (inr others) = (bytes, others.1.behind)

-- the attributes keep their length
sized_length : (own : List ℕ) (longest : ℕ) → length own ≡ 32 → length (with_size own longest) ≡ 32
sized_length own longest size = by ((word_at own 2 == 0) || nat_le longest (word_at own 2))
  where
    front : length (take 2 own) ≡ 2
    front = length-take-le 2 own (omega (arith, size))

    by : (b : Bool) → length (cond b own (take 2 own ++ (word longest ++ drop 4 own))) ≡ 32
    by true = size
    by false = omega (arith, size, front, length-append (take 2 own) (word longest ++ drop 4 own), length-append (word longest) (drop 4 own), length-drop 4 own)

ends_there : (own held bytes all attributes : List ℕ) → length own ≡ 32 → AreBehind own held bytes all attributes → end_of attributes ≡ length all
ends_there own held bytes all attributes size (inl text) =
    ap end_of text.1.are ∙ end_set (with_size own text.1.longest) (length all) (sized_length own text.1.longest size) text.1.small
ends_there own held bytes all attributes size (inr others) = ap end_of others.1.are ∙ end_set own (length all) size others.1.small

pub append_puts_behind : AppendPutsBehind
append_puts_behind facts held bytes all attributes old new size behind done C s holds =
    let more = behind_held facts.attributes held bytes all attributes behind in (
      ends_there facts.attributes held bytes all attributes size behind,
      (
        afters C (appends facts (length held) all attributes),
        all_left old new (appends facts (length held) all attributes) (appends_are facts (length held) all attributes) done C s,
        left_of C facts held more.0 all attributes more.1 holds,
      ),
    )

-- the one file that a path names, behind whose end bytes can go, or why they cannot
pub open_or_not : (I : List (List ℕ)) (L : VolumeLayout) (path : List ℕ) (x : Found) (result : Result Facts Why) → AreOfPath I L (highest alone.Refused) path (x ∷ []) → MatchResult result (IsOpen x.facts) (IsNotOpen x.facts)
    → MatchResult result (IsOpened I L path) (IsNotOpened I L path)
open_or_not I L path x (Ok facts) one is = record { found = x; one = one; may = is }
open_or_not I L path x (Err why) one is = inr (x ∷ [], one, inr (x, refl, is))

-- what is done is what the requests leave
pub led_grown : (facts : Facts) (bytes : List ℕ) (old new : Filed) → IsGrown facts bytes old new → IsLed Appends old new
led_grown facts bytes old new (inl none) = led_to new none.1 (stays old)
led_grown facts bytes old new (inr some) = led_done facts (length some.1.0) some.1.1.0 some.1.1.1.0 old new some.1.1.1.3

stopped : (facts : Facts) (bytes held : List ℕ) (old new : Filed) (why : Why)
    → ((new ≡ old) × AreNotBehind facts.attributes held bytes why) ⊎ ((all : List ℕ) × ((attributes : List ℕ) × AreBehind facts.attributes held bytes all attributes × StopsAt old (appends facts (length held) all attributes) new why))
    → IsLed Appends old new
stopped facts bytes held old new why (inl same) = led_to new same.0 (stays old)
stopped facts bytes held old new why (inr asked) = led_stopped facts (length held) asked.0 asked.1.0 old new why asked.1.2

pub led_not : (facts : Facts) (bytes : List ℕ) (old new : Filed) (why : Why) → IsNotGrown facts bytes old new why → IsLed Appends old new
led_not facts bytes old new why (inl unread) = led_to new unread.0 (stays old)
led_not facts bytes old new why (inr read) = stopped facts bytes read.0 old new why read.2
