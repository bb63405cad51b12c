-- How room is made for a file, and what that asks for.
use Rattle.std.proofs.Common.{◌≡◌, ◌≢◌, ◌∙◌, refl, sym, subst, inr, ℕ, Bool, true, false, cond, List, [], ◌∷◌, Option, is_some, eq-eqb}
use Rattle.std.proofs.lemmas.Bool.{ne_eqb}
use Rattle.std.specs.Prelude.{slice_index}
use Rattle.ods_base.specs.Name.{RadName}
use Rattle.ods_base.specs.declared.file_id.FileId.{FileId}
use Rattle.ods_base.specs.declared.name.Pick.TheVariants.{Exact}
use Rattle.ods_mount.specs.Sound.{IsSoundBy}
use Rattle.ods_request.specs.declared.answers.Answer.{Answer}
use Rattle.ods_request.specs.declared.answers.Answer.TheVariants.{Info}
use Rattle.ods_request.specs.declared.answers.Stat.{Stat as Shown}
use Rattle.ods_request.specs.declared.requests.Request.TheVariants.{Delete, Remove, Stat}
use Rattle.ods_request.specs.Catalogue.{Catalogue}
use Rattle.ods_request.specs.Steps.{answer_of, file_at, kind_of}
use Rattle.ods_request.proofs.StepLaws.{determined}
use Rattle.ods_state.proofs.Exists.{the_catalogue, is_shown}
use Rattle.ods_filing.specs.Filed.{Filed, IsDone}
use Rattle.ods_filing.specs.Led.{IsObeyed}
use Rattle.ods_upkeep.specs.Counted.{one_less}
use Rattle.ods_upkeep.specs.Removed.{Does}
use Rattle.ods_upkeep.specs.Refused.{StopsAt}
use Rattle.ods_upkeep.specs.Rooms.{IsReplaced, IsThere, counts_left, file_left}
use Rattle.ods_upkeep.specs.Unput.{IsNotReplaced}
use Rattle.ods_upkeep.specs.declared.failure.Why.{Why}
use Rattle.ods_upkeep.proofs.Doing.{does_one}

-- a Stat that is accepted is answered by what the file is
pub is_info : (old new : Filed) → IsSoundBy old.image old.layout → (file : FileId) (a : Answer) → IsDone old (Stat file) a new → (shown : Shown) × (a ≡ Info shown)
unfolding answer_of
is_info old new sound file a done =
    let first : Catalogue = the_catalogue old.image old.layout sound in
    let made = done.steps first (is_shown old.image old.layout sound) (λ id makes named. let wrong : false ≡ true = makes in absurd (cc)) in
    let f = file_at first file in
    let is : a ≡ answer_of first (Stat file) = (determined first made.0 old.user (Stat file) a refl made.1).0 in
    (record { file = file; ident = f.ident; owner = f.owner; protection = f.protection; user_char = f.user_char; system_char = f.system_char; kind = kind_of f.body }, is)

-- no other entry names the file, which is deleted
pub file_goes : (old new : Filed) (there : Bool) (counts left : ℕ → ℕ) (file : FileId) (count : ℕ) → there ≡ true → left ≡ one_less counts file.number → count ≡ left file.number → count ≡ 0
    → IsObeyed old (Delete file) new → Does old (file_left there (counts_left there counts file) file) new
file_goes old new there counts left file count is taken are none done =
    let gone : Does old (file_left true left file) new =
    subst (λ b. Does old (cond b (Delete file ∷ []) []) new) (sym (eq-eqb (left file.number) 0 (sym are ∙ none))) (does_one old new (Delete file) done) in
    subst (λ b. Does old (file_left b (counts_left b counts file) file) new) (sym is) (subst (λ n. Does old (file_left true n file) new) taken gone)

-- another one names it
pub file_stays : (old : Filed) (there : Bool) (counts left : ℕ → ℕ) (file : FileId) (count : ℕ) → there ≡ true → left ≡ one_less counts file.number → count ≡ left file.number → count ≢ 0
    → Does old (file_left there (counts_left there counts file) file) old
file_stays old there counts left file count is taken are some =
    let here : Does old (file_left true left file) old =
    subst (λ b. Does old (cond b (Delete file ∷ []) []) old) (sym (ne_eqb (left file.number) 0 (λ none. some (are ∙ none)))) refl in
    subst (λ b. Does old (file_left b (counts_left b counts file) file) old) (sym is) (subst (λ n. Does old (file_left true n file) old) taken here)

-- The entry is removed, and whether its file exists is known by what a Stat shows of it.
module _ (dir : FileId) (name : RadName) (version : ℕ) (file : FileId) (before : List ℕ) (old known mid new : Filed) (held : Option Shown) (there : Bool) (is : there ≡ is_some held) (shown : IsThere old file held known)
    (gone : IsObeyed known (Remove dir name (Exact version)) mid) where
  -- so is the file, if no other entry names it
  pub name_goes : (after : List ℕ) → slice_index after ≡ counts_left there (slice_index before) file → Does mid (file_left there (counts_left there (slice_index before) file) file) new
      → IsReplaced dir name version file held before after old new
  name_goes after counted rest = record {
    known = known;
    shown = shown;
    counted = subst (λ b. slice_index after ≡ counts_left b (slice_index before) file) is counted;
    gone = (mid, gone, subst (λ b. Does mid (file_left b (counts_left b (slice_index before) file) file) new) is rest);
  }

  -- the file is not
  pub name_stays : (why : Why) → StopsAt mid (file_left there (counts_left there (slice_index before) file) file) new why → IsNotReplaced dir name version file before old new why
  name_stays why stops =
      inr (held, (known, shown, inr (mid, gone, subst (λ b. StopsAt mid (file_left b (counts_left b (slice_index before) file) file) new why) is stops)))
