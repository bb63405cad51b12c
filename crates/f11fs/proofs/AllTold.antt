-- What is told of the paths and numbers of a plan, one after another.
use Rattle.std.proofs.Common.{◌≡◌, ◌∙◌, ◌⊎◌, ◌↔◌, inl, inr, refl, sym, ap, subst, ℕ, zero, suc, ◌+◌, ◌<◌, ◌≤◌, List, [], ◌∷◌, ◌++◌, Bool, true, false, Option, Some, None, length, take, get_or, replicate, slice_get, string_bytes, arith, append-nil, append_assoc, codes, IsTrue, Result, Ok, Err}
use Rattle.std.specs.Prelude.{MatchBool, OnOk, unwrap_or}
use Rattle.std.specs.List.{Contains, range_with_len}
use Rattle.std.proofs.lemmas.List.{take_all, take_more, get_or-replicate, length-replicate}
use Rattle.std.proofs.lemmas.Option.{unwrap_or-slice_get}
use Rattle.ods_base.specs.declared.file_id.FileId.{FileId}
use Rattle.fs_reads.specs.declared.comparing.Known.{Known}
use Rattle.f11fs.specs.declared.telling.Plan.{Plan}
use Rattle.fs_reads.specs.Alike.{IsNamedBy, has_path}
use Rattle.fs_reads.specs.Paths.{AreAllPaths, LacksPath}
use Rattle.fs_reads.specs.Paths.{Disk}
use Rattle.f11fs.specs.Plans.{AreTold, DifferBy, IsNumberOf, IsNumbered, IsPlan, IsReached, IsToldOfLabel, IsToldOfLeft, IsToldOfNew, IsToldOfOld, IsToldWhere, Tells, plan_line}

-- one more is told
told_more : {A : Type 0} (Is : A → List ℕ → Type 0) (xs : List A) (x : A) (told more : List ℕ) → AreTold Is xs told → Is x more → AreTold Is (xs ++ x ∷ []) (told ++ more)
told_more Is [] x told more are is = (more, [], ap (λ t. t ++ more) are ∙ sym (append-nil more), is, refl)
told_more Is (y ∷ ys) x told more are is = (are.0, are.1 ++ more, ap (λ t. t ++ more) are.2 ∙ append_assoc are.0 are.1 more, are.3, told_more Is ys x are.1 more are.4 is)

-- what is told of the front of a list, and of the one behind it
pub told_next : {A : Type 0} (Is : Bool → A → List ℕ → Type 0) (xs : List A) (i : ℕ) (x : A) (first mid last : Plan) → i < length xs → x ≡ get_or xs i x → mid.json ≡ first.json
    → (told : List ℕ) × AreTold (Is first.json) (take i xs) told × Tells first told mid
    → (more : List ℕ) × Is mid.json x more × Tells mid more last
    → (told : List ℕ) × AreTold (Is first.json) (take (i + 1) xs) told × Tells first told last
told_next Is xs i x first mid last low at same so more =
    let is : Is first.json x more.0 = subst (λ (j : Bool). Is j x more.0) same more.1 in (
      so.0 ++ more.0,
      subst (λ l. AreTold (Is first.json) l (so.0 ++ more.0)) (sym (take_more xs i x low ∙ ap (λ y. take i xs ++ y ∷ []) (sym at))) (told_more (Is first.json) (take i xs) x so.0 more.0 so.1 is),
      more.2 ∙ ap (λ t. t ++ more.0) so.2 ∙ append_assoc (string_bytes first.text) so.0 more.0,
    )

-- what is told of all of them
pub told_all : {A : Type 0} (Is : A → List ℕ → Type 0) (xs : List A) (i : ℕ) (first last : Plan) → length xs ≤ i
    → (told : List ℕ) × AreTold Is (take i xs) told × Tells first told last → (told : List ℕ) × AreTold Is xs told × Tells first told last
told_all Is xs i first last past so = (so.0, subst (λ l. AreTold Is l so.0) (take_all i xs past) so.1, so.2)

range_more : (a n : ℕ) → range_with_len a (suc n) ≡ range_with_len a n ++ (a + n) ∷ []
range_more a zero = let is : a ≡ a + 0 = omega arith in ap (λ x. x ∷ []) is
range_more a (suc n) = let is : a + 1 + n ≡ a + suc n = omega arith in ap (λ xs. a ∷ xs) (range_more (a + 1) n ∙ ap (λ k. range_with_len (a + 1) n ++ k ∷ []) is)

-- what is told of the numbers up to one, and of the next one
pub number_next : (Is : Bool → ℕ → List ℕ → Type 0) (past number : ℕ) (first mid last : Plan) → number ≡ past + 1 → mid.json ≡ first.json
    → (told : List ℕ) × AreTold (Is first.json) (range_with_len 1 past) told × Tells first told mid
    → (more : List ℕ) × Is mid.json number more × Tells mid more last
    → (told : List ℕ) × AreTold (Is first.json) (range_with_len 1 (past + 1)) told × Tells first told last
number_next Is past number first mid last next same so more =
    let here : Is first.json number more.0 = subst (λ (j : Bool). Is j number more.0) same more.1 in
    let all : AreTold (Is first.json) (range_with_len 1 past ++ number ∷ []) (so.0 ++ more.0) = told_more (Is first.json) (range_with_len 1 past) number so.0 more.0 so.1 here in
    let step : past + 1 ≡ suc past = omega arith in
    let is : 1 + past ≡ number = omega (arith, next) in
    let at : range_with_len 1 (past + 1) ≡ range_with_len 1 past ++ number ∷ [] = ap (λ n. range_with_len 1 n) step ∙ (range_more 1 past ∙ ap (λ k. range_with_len 1 past ++ k ∷ []) is) in (
      so.0 ++ more.0,
      subst (λ l. AreTold (Is first.json) l (so.0 ++ more.0)) (sym at) all,
      more.2 ∙ ap (λ t. t ++ more.0) so.2 ∙ append_assoc (string_bytes first.text) so.0 more.0,
    )

-- what is in a list with one more at its end
contains_left : {A : Type 0} (xs : List A) (y x : A) → Contains xs x → Contains (xs ++ y ∷ []) x
contains_left [] y x at = absurd (omega (arith, at.1))
contains_left (z ∷ xs) y x (zero, low, is) = (0, omega arith, is)
contains_left (z ∷ xs) y x (suc k, low, is) = let rest = contains_left xs y x (k, omega (arith, low), is) in (suc rest.0, omega (arith, rest.1), rest.2)

contains_last : {A : Type 0} (xs : List A) (x : A) → Contains (xs ++ x ∷ []) x
contains_last [] x = (0, omega arith, refl)
contains_last (z ∷ xs) x = let rest = contains_last xs x in (suc rest.0, omega (arith, rest.1), rest.2)

contains_split : {A : Type 0} (xs : List A) (y x : A) → Contains (xs ++ y ∷ []) x → Contains xs x ⊎ (y ≡ x)
contains_split [] y x (zero, low, is) = inr is
contains_split [] y x (suc k, low, is) = absurd (omega (arith, low))
contains_split (z ∷ xs) y x (zero, low, is) = inl (0, omega arith, is)
contains_split (z ∷ xs) y x (suc k, low, is) = further (contains_split xs y x (k, omega (arith, low), is))
  where
    further : Contains xs x ⊎ (y ≡ x) → Contains (z ∷ xs) x ⊎ (y ≡ x)
    further (inl rest) = inl (suc rest.0, omega (arith, rest.1), rest.2)
    further (inr same) = inr same

-- the flag of a number
abbrev pub flag : List Bool → ℕ → Bool
flag flags number = get_or flags number false

-- what is noted so far: what was noted before, and what the paths name
abbrev pub Notes : Disk → List Known → List Bool → List Bool → Type 0
Notes B paths first now = (number : ℕ) → number < length first → (flag now number ≡ true) ↔ ((flag first number ≡ true) ⊎ IsNumbered (IsNamedBy B) paths number)

numbered_split : (B : Disk) (xs : List Known) (one : Known) (number : ℕ) → IsNumbered (IsNamedBy B) (xs ++ one ∷ []) number → IsNumbered (IsNamedBy B) xs number ⊎ IsNumberOf (IsNamedBy B) number one
numbered_split B xs one number has = sides (contains_split xs one has.0 has.1)
  where
    sides : Contains xs has.0 ⊎ (one ≡ has.0) → IsNumbered (IsNamedBy B) xs number ⊎ IsNumberOf (IsNamedBy B) number one
    sides (inl among) = inl (has.0, among, has.2)
    sides (inr same) = inr (subst (λ (k : Known). IsNumberOf (IsNamedBy B) number k) (sym same) has.2)

note_more : (B : Disk) (xs : List Known) (one : Known) (first mid last : List Bool) → length mid ≡ length first → Notes B xs first mid
    → (IsNamedBy B one.file → one.file.number < length mid → flag last one.file.number ≡ true)
    → ((number : ℕ) → flag mid number ≡ true → flag last number ≡ true)
    → ((number : ℕ) → flag last number ≡ true → (flag mid number ≡ true) ⊎ IsNumberOf (IsNamedBy B) number one)
    → Notes B (xs ++ one ∷ []) first last
note_more B xs one first mid last size so noted kept alone number low = (λ set. there (alone number set), λ is. back is)
  where
    before : (flag first number ≡ true) ⊎ IsNumbered (IsNamedBy B) xs number → (flag first number ≡ true) ⊎ IsNumbered (IsNamedBy B) (xs ++ one ∷ []) number
    before (inl was) = inl was
    before (inr has) = inr (has.0, contains_left xs one has.0 has.1, has.2)

    there : (flag mid number ≡ true) ⊎ IsNumberOf (IsNamedBy B) number one → (flag first number ≡ true) ⊎ IsNumbered (IsNamedBy B) (xs ++ one ∷ []) number
    there (inl was) = before ((so number low).0 was)
    there (inr is) = inr (one, contains_last xs one, is)

    new : IsNumbered (IsNamedBy B) xs number ⊎ IsNumberOf (IsNamedBy B) number one → flag last number ≡ true
    new (inl has) = kept number ((so number low).1 (inr has))
    new (inr is) = subst (λ n. flag last n ≡ true) is.0 (noted is.1 (omega (arith, is.0, size, low)))

    back : (flag first number ≡ true) ⊎ IsNumbered (IsNamedBy B) (xs ++ one ∷ []) number → flag last number ≡ true
    back (inl was) = kept number ((so number low).1 (inl was))
    back (inr has) = new (numbered_split B xs one number has)

-- one path more is noted
pub note_next : (B : Disk) (all : List Known) (i : ℕ) (one : Known) (first mid last : List Bool) → i < length all → one ≡ get_or all i one → length mid ≡ length first → Notes B (take i all) first mid
    → (IsNamedBy B one.file → one.file.number < length mid → flag last one.file.number ≡ true)
    → ((number : ℕ) → flag mid number ≡ true → flag last number ≡ true)
    → ((number : ℕ) → flag last number ≡ true → (flag mid number ≡ true) ⊎ IsNumberOf (IsNamedBy B) number one)
    → Notes B (take (i + 1) all) first last
note_next B all i one first mid last low at size so noted kept alone =
    subst (λ paths. Notes B paths first last) (sym (take_more all i one low ∙ ap (λ y. take i all ++ y ∷ []) (sym at))) (note_more B (take i all) one first mid last size so noted kept alone)

-- nothing is noted behind no path
pub none_noted : (B : Disk) (flags : List Bool) → Notes B [] flags flags
none_noted B flags number low = (λ set. inl set, λ is. back is)
  where
    back : (flag flags number ≡ true) ⊎ IsNumbered (IsNamedBy B) [] number → flag flags number ≡ true
    back (inl set) = set
    back (inr has) = absurd (omega (arith, has.1.1))

-- a flag is set where it is read so
some_true : (o : Option Bool) → unwrap_or o false ≡ true → o ≡ Some true
some_true None e = absurd (cc)
some_true (Some b) e = ap (λ x. Some x) e

read : (flags : List Bool) (number : ℕ) → (slice_get flags number ≡ Some true) ↔ (flag flags number ≡ true)
read flags number = (λ e. sym (unwrap_or-slice_get flags number false) ∙ ap (λ (o : Option Bool). unwrap_or o false) e, λ e. some_true (slice_get flags number) (unwrap_or-slice_get flags number false ∙ e))

-- what is noted of both volumes, where nothing was noted first
pub noted_both : (B A : Disk) (before after : List Known) (count : ℕ) (first mid last : List Bool) → first ≡ replicate count false → length mid ≡ length first → Notes B before first mid → Notes A after mid last
    → (number : ℕ) → number < count → (slice_get last number ≡ Some true) ↔ IsReached B before A after number
noted_both B A before after count first mid last clear size one two number low =
    let long : length first ≡ count = ap length clear ∙ length-replicate {A = Bool} count false in
    let unset : flag first number ≡ false = ap (λ (l : List Bool). get_or l number false) clear ∙ get_or-replicate count number false false low in
    let first_low : number < length first = omega (arith, long, low) in
    let mid_low : number < length mid = omega (arith, size, long, low) in
    (λ set. there unset first_low (((two number mid_low).0 ((read last number).0 set))), λ is. (read last number).1 (back first_low mid_low is))
  where
    old : flag first number ≡ false → (flag first number ≡ true) ⊎ IsNumbered (IsNamedBy B) before number → IsReached B before A after number
    old unset (inl set) = let wrong : false ≡ true = sym unset ∙ set in absurd (cc)
    old unset (inr has) = inl has

    there : flag first number ≡ false → number < length first → (flag mid number ≡ true) ⊎ IsNumbered (IsNamedBy A) after number → IsReached B before A after number
    there unset small (inl set) = old unset ((one number small).0 set)
    there unset small (inr has) = inr has

    back : number < length first → number < length mid → IsReached B before A after number → flag last number ≡ true
    back small less (inl has) = (two number less).1 (inl ((one number small).1 (inr has)))
    back small less (inr has) = (two number less).1 (inr has)

-- what is told of a number by its flag
pub told_left : (json : Bool) (B : Disk) (before : List Known) (A : Disk) (after : List Known) (number : ℕ) (told : List ℕ) (r : Bool) (flags : List Bool)
    → IsTrue r ↔ (slice_get flags number ≡ Some true) → (slice_get flags number ≡ Some true) ↔ IsReached B before A after number → IsToldWhere json r B A number told → IsToldOfLeft json B before A after number told
told_left json B before A after number told true flags is noted so = (true, noted.0 (is.0 refl), so)
told_left json B before A after number told false flags is noted so = (false, λ reached. let wrong : false ≡ true = is.1 (noted.1 reached) in absurd (cc), so)

-- a path that stays
pub stays_told : (json : Bool) (after : List Known) (one known : Known) (path : List ℕ) → path ≡ string_bytes one.path → Contains after known × has_path path known → IsToldOfOld json after one []
stays_told json after one known path same has = inr (λ lacks. lacks known has.0 (has.1 ∙ same), refl)

-- a path that goes
pub gone_told : {X E : Type 0} (json : Bool) (after : List Known) (one : Known) (path : List ℕ) (Text : List ℕ → Type 0) (r : Result X E) → path ≡ string_bytes one.path → LacksPath path after
    → OnOk r (Text (plan_line json (codes "remove") path)) → OnOk r ((told : List ℕ) × IsToldOfOld json after one told × Text told)
gone_told json after one path Text (Ok x) same lacks line =
    (plan_line json (codes "remove") path, inl (subst (λ p. LacksPath p after) same lacks, ap (λ p. plan_line json (codes "remove") p) same), line)
gone_told json after one path Text (Err e) same lacks line = tt

-- a plan from its four parts
pub planned : (json : Bool) (most : ℕ) (B A : Disk) (before after : List Known) (first p q r last : Plan) → AreAllPaths B.image B.layout before → AreAllPaths A.image A.layout after
    → string_bytes first.text ≡ [] → first.json ≡ json → p.json ≡ first.json → q.json ≡ p.json → r.json ≡ q.json
    → (told : List ℕ) × AreTold (IsToldOfOld first.json after) before told × Tells first told p
    → (told : List ℕ) × AreTold (IsToldOfNew p.json (λ a b d. DifferBy B a A b d) before) after told × Tells p told q
    → (told : List ℕ) × AreTold (IsToldOfLeft q.json B before A after) (range_with_len 1 most) told × Tells q told r
    → (told : List ℕ) × IsToldOfLabel r.json B A told × Tells r told last
    → IsPlan json most B A (string_bytes last.text)
planned json most B A before after first p q r last all_before all_after none fj pj qj rj gone come left label = record {
  before = before;
  after = after;
  all_before = all_before;
  all_after = all_after;
  gone = gone.0;
  come = come.0;
  left = left.0;
  label = label.0;
  told_gone = subst (λ (j : Bool). AreTold (IsToldOfOld j after) before gone.0) fj gone.1;
  told_come = subst (λ (j : Bool). AreTold (IsToldOfNew j (λ a b d. DifferBy B a A b d) before) after come.0) (pj ∙ fj) come.1;
  told_left = subst (λ (j : Bool). AreTold (IsToldOfLeft j B before A after) (range_with_len 1 most) left.0) (qj ∙ pj ∙ fj) left.1;
  told_label = subst (λ (j : Bool). IsToldOfLabel j B A label.0) (rj ∙ qj ∙ pj ∙ fj) label.1;
  whole = label.2 ∙ ap (λ t. t ++ label.0) (left.2 ∙ ap (λ t. t ++ left.0) (come.2 ∙ ap (λ t. t ++ come.0) (gone.2 ∙ ap (λ t. t ++ gone.0) none)))
      ∙ append_assoc (gone.0 ++ come.0) left.0 label.0 ∙ append_assoc gone.0 come.0 (left.0 ++ label.0);
}
