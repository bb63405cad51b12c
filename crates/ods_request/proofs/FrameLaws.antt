-- Why a step changes no file but one, and why a new file has a new ID.
use Rattle.std.proofs.Common.{◌≡◌, refl, sym, ap, ◌∙◌, Bool, true, false, cond, List, [], ◌∷◌, Option, Some, None, is_some, arith}
use Rattle.std.specs.Prelude.{◌&&◌, ◌||◌, not, ◌==◌}
use Rattle.std.specs.List.{list_any}
use Rattle.std.specs.Ordering.{eq_by_cmp}
use Rattle.std.specs.Cmp.{eq_by_cmp_equiv}
use Rattle.std.proofs.lemmas.Bool.{eq-eqb, not-true, or_left, or_right}
use Rattle.std.specs.FinMap as map
use Rattle.std.specs.FinSet as set
use Rattle.ods_base.proofs.Picks.{tied}
use Rattle.ods_base.specs.declared.file_id.Uic.{Uic}
use Rattle.ods_base.specs.declared.file_id.FileId.{FileId}
use Rattle.ods_request.specs.declared.requests.Request.{Request}
use Rattle.ods_request.specs.declared.requests.Request.TheVariants.{Create, Extend, Truncate, Delete, Enter, LookUp, Remove, Read, Write, List as Lines, Stat, SetUser}
use Rattle.ods_request.specs.declared.answers.Answer.{Answer}
use Rattle.ods_request.specs.Catalogue.{Catalogue, File, file_cmp}
use Rattle.ods_request.specs.Steps.{step, change, after, answer_of, create, created, created_id, new_file, is_new, is_used}
use Rattle.ods_request.specs.Laws.{creates, changed_file, OtherFilesStay, CreatedIsNew, DefaultStays, PastIsKept}
use Rattle.ods_request.proofs.Orders.{file_cmp-total, file_cmp-antisymmetric}
use Rattle.ods_request.proofs.StepLaws.{given, taken, changed, determined, past_after}

-- the order of IDs as a test of equality
abbrev pub is_id : FileId → FileId → Bool
is_id = eq_by_cmp file_cmp

pub is_id-equal : (a b : FileId) → is_id a b ≡ true → a ≡ b
is_id-equal a b h = file_cmp-antisymmetric a b (tied _ h)

pub is_id-itself : (a : FileId) → is_id a a ≡ true
is_id-itself a = (eq_by_cmp_equiv file_cmp-total).refl a

pub is_id-apart : (a b : FileId) → ¬ (a ≡ b) → is_id a b ≡ false
is_id-apart a b apart = by (is_id a b) refl
  where
    by : (t : Bool) → is_id a b ≡ t → t ≡ false
    by true e = absurd (apart (is_id-equal a b e))
    by false e = refl

-- another file's place after a file is put in
pub get-put_other : (C : Catalogue) (id : FileId) (f : File) (other : FileId) → ¬ (Some id ≡ Some other) → map.get (map.insert C.files id f) other ≡ map.get C.files other
get-put_other C id f other apart =
    map.get-insert file_cmp-total C.files id f other
    ∙ ap (λ b. cond b (Some f) (map.get C.files other)) (is_id-apart other id (λ e. apart (ap Some (sym e))))

get-remove_other : (C : Catalogue) (id other : FileId) → ¬ (Some id ≡ Some other) → map.get (map.remove C.files id) other ≡ map.get C.files other
get-remove_other C id other apart =
    map.get-remove file_cmp-total C.files id other
    ∙ ap (λ b. cond b None (map.get C.files other)) (is_id-apart other id (λ e. apart (ap Some (sym e))))

after-other : (C : Catalogue) (r : Request) (a : Answer) (id : FileId) → creates r ≡ false → ¬ (changed_file r a ≡ Some id) → map.get (after C r).files id ≡ map.get C.files id
unfolding after
after-other C r a id h apart = grind (arith, get-put_other, get-remove_other)

after-default : (C : Catalogue) (r : Request) → (after C r).default ≡ C.default
unfolding after
after-default C r = grind arith

-- a step that makes a file
record IsMade (C D : Catalogue) (a : Answer) : Type 0 where
  id : FileId
  file : File
  named : created_id a ≡ Some id
  new : is_new C id ≡ true
  is : D ≡ created C id file

some_made : (C D : Catalogue) (f : File) (a : Answer) (o : Option FileId) → created_id a ≡ o → create C f o ≡ Some D → IsMade C D a
some_made C D f a None n e = absurd (cc)
some_made C D f a (Some new_id) n e =
    record { id = new_id; file = f; named = n; new = taken (is_new C new_id) (created C new_id f) D e; is = given (is_new C new_id) (created C new_id f) D e }

-- the step of a Create
make_step : (C D : Catalogue) (who : Uic) (r : Request) (a : Answer) → creates r ≡ true → change C who r a ≡ Some D → IsMade C D a × (changed_file r a ≡ created_id a)
unfolding change
make_step C D who (Create name version blocks stamp) a h e = (some_made C D (new_file C who name version blocks stamp) a (created_id a) refl e, refl)
make_step C D who (Extend file blocks) a h e = absurd (cc)
make_step C D who (Truncate file blocks) a h e = absurd (cc)
make_step C D who (Delete file) a h e = absurd (cc)
make_step C D who (Enter dir name version file) a h e = absurd (cc)
make_step C D who (LookUp dir name pick) a h e = absurd (cc)
make_step C D who (Remove dir name pick) a h e = absurd (cc)
make_step C D who (Read file vbn) a h e = absurd (cc)
make_step C D who (Write file vbn block) a h e = absurd (cc)
make_step C D who (Lines dir) a h e = absurd (cc)
make_step C D who (Stat file) a h e = absurd (cc)
make_step C D who (SetUser file attributes) a h e = absurd (cc)

-- what a step does to the files and to the default protection, by its two kinds
by_kind : (C D : Catalogue) (who : Uic) (r : Request) (a : Answer) (P : Type 0) → step C who r a ≡ Some D
    → (IsMade C D a → changed_file r a ≡ created_id a → P) → (creates r ≡ false → a ≡ answer_of C r → D ≡ after C r → P) → P
by_kind C D who r a P e makes moves = by (creates r) refl
  where
    by : (b : Bool) → creates r ≡ b → P
    by true h = let m = make_step C D who r a h (changed C D who r a e) in makes m.0 m.1
    by false h = let d = determined C D who r a h e in moves h d.0 d.1

pub others_stay : OtherFilesStay
others_stay C D who r a id e apart = by_kind C D who r a (map.get D.files id ≡ map.get C.files id) e
    (λ m named. ap (λ (E : Catalogue). map.get E.files id) m.is ∙ get-put_other C m.id m.file id (λ g. apart (named ∙ m.named ∙ g)))
    (λ h _ is. ap (λ (E : Catalogue). map.get E.files id) is ∙ after-other C r a id h apart)

pub default_kept : DefaultStays
default_kept C D who r a e = by_kind C D who r a (D.default ≡ C.default) e
    (λ m _. ap (λ (E : Catalogue). E.default) m.is)
    (λ _ _ is. ap (λ (E : Catalogue). E.default) is ∙ after-default C r)

pub past_kept : PastIsKept
past_kept C D who r a id e h = by_kind C D who r a (set.contains D.past id ≡ true) e
    (λ m _. ap (λ (E : Catalogue). set.contains E.past id) m.is ∙ set.contains-insert file_cmp-total C.past m.id id ∙ or_right _ _ h)
    (λ _ _ is. ap (λ (E : Catalogue). set.contains E.past id) is ∙ ap (λ p. set.contains p id) (past_after C r) ∙ h)

-- a request that is no Create is not answered by a new file
answer-makes_none : (C : Catalogue) (r : Request) → creates r ≡ false → created_id (answer_of C r) ≡ None
unfolding answer_of
answer-makes_none C r h = grind arith

both : (a b : Bool) → (a && b) ≡ true → (a ≡ true) × (b ≡ true)
both true b h = (refl, h)
both false b h = absurd (cc)

neither : (a b : Bool) → (a || b) ≡ false → (a ≡ false) × (b ≡ false)
neither true b h = absurd (cc)
neither false b h = (refl, h)

-- where no key has the number, the ID is none of the keys
no_key : (id : FileId) (keys : List FileId) → list_any (λ k. k.number == id.number) keys ≡ false → list_any (is_id id) keys ≡ false
no_key id [] h = refl
no_key id (k ∷ keys) h = let n = neither (k.number == id.number) _ h in
    by (is_id id k) refl n.0 (no_key id keys n.1)
  where
    by : (t : Bool) → is_id id k ≡ t → (k.number == id.number) ≡ false → list_any (is_id id) keys ≡ false → (t || list_any (is_id id) keys) ≡ false
    by true e other rest = absurd (let same : (k.number == id.number) ≡ true = eq-eqb k.number id.number (ap (λ (f : FileId). f.number) (sym (is_id-equal id k e))) in let clash : true ≡ false = sym same ∙ other in cc)
    by false e other rest = rest

pub is_none_some : {A : Type 0} (o : Option A) → is_some o ≡ false → o ≡ None
is_none_some None h = refl
is_none_some (Some x) h = absurd (cc)

-- an ID that may be given is no file's and none of the past
pub new_is_free : (C : Catalogue) (id : FileId) → is_new C id ≡ true → (map.get C.files id ≡ None) × (set.contains C.past id ≡ false)
new_is_free C id h =
    let p = both (not (set.contains C.past id)) _ h in
    let q = both (not (is_used C id.number)) _ p.1 in
    (is_none_some (map.get C.files id) (map.contains_key-keys C.files id ∙ no_key id (map.keys C.files) (not-true _ q.0)), not-true _ p.0)

pub created_new : CreatedIsNew
created_new C D who r a id e h = by_kind C D who r a ((map.get C.files id ≡ None) × (set.contains C.past id ≡ false) × (set.contains D.past id ≡ true)) e
    (λ m named.
    let is : m.id ≡ id = one (sym m.named ∙ h) in
    let free = new_is_free C m.id m.new in (
      ap (map.get C.files) (sym is) ∙ free.0,
      ap (set.contains C.past) (sym is) ∙ free.1,
      ap (λ (E : Catalogue). set.contains E.past id) m.is ∙ set.contains-insert file_cmp-total C.past m.id id ∙ or_left (is_id id m.id) _ (ap (is_id id) is ∙ is_id-itself id),
    ))
    (λ other is _. absurd (let clash : None ≡ Some id = sym (ap created_id is ∙ answer-makes_none C r other) ∙ h in cc))
  where
    one : {x y : FileId} → Some x ≡ Some y → x ≡ y
    one e = cc
