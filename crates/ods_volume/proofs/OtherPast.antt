-- A step depends on the past for the ID of a new file alone.
use Rattle.std.proofs.Common.{◌≡◌, refl, ap, sym, ◌∙◌, Bool, true, false, cond, Option, Some, None, is_some}
use Rattle.std.specs.Prelude.{◌&&◌, not, nat_le}
use Rattle.std.specs.FinSet as set
use Rattle.ods_base.specs.declared.file_id.Uic.{Uic}
use Rattle.ods_base.specs.declared.file_id.FileId.{FileId}
use Rattle.ods_request.specs.declared.refusals.Refusal.{Refusal}
use Rattle.ods_request.specs.declared.requests.Request.{Request}
use Rattle.ods_request.specs.declared.requests.Request.TheVariants.{Create, Extend, Truncate, Delete, Enter, LookUp, Remove, Read, Write, List as Lines, Stat, SetUser}
use Rattle.ods_request.specs.declared.answers.Answer.{Answer}
use Rattle.ods_request.specs.Catalogue.{Catalogue, file_cmp}
use Rattle.ods_request.specs.Faults.{fault_of}
use Rattle.ods_request.specs.Steps.{step, change, after, answer_of, create, created, created_id, new_file, is_new, is_used}
use Rattle.ods_request.specs.Table.{creates}
use Rattle.ods_request.proofs.StepLaws.{refused, changed, determined, is_step, given, taken, chosen}
use Rattle.ods_request.proofs.FrameLaws.{default_kept}

-- the catalogue with another past
abbrev pub with_past : Catalogue → set.FinSet file_cmp → Catalogue
with_past C p = record { files = C.files; past = p; default = C.default }

pub fault_past : (C : Catalogue) (p : set.FinSet file_cmp) (who : Uic) (r : Request) → fault_of (with_past C p) who r ≡ fault_of C who r
unfolding fault_of
fault_past C p who (Create name version blocks stamp) = refl
fault_past C p who (Extend file blocks) = refl
fault_past C p who (Truncate file blocks) = refl
fault_past C p who (Delete file) = refl
fault_past C p who (Enter dir name version file) = refl
fault_past C p who (LookUp dir name pick) = refl
fault_past C p who (Remove dir name pick) = refl
fault_past C p who (Read file vbn) = refl
fault_past C p who (Write file vbn block) = refl
fault_past C p who (Lines dir) = refl
fault_past C p who (Stat file) = refl
fault_past C p who (SetUser file attributes) = refl

answer_past : (C : Catalogue) (p : set.FinSet file_cmp) (r : Request) → answer_of (with_past C p) r ≡ answer_of C r
unfolding answer_of
answer_past C p (Create name version blocks stamp) = refl
answer_past C p (Extend file blocks) = refl
answer_past C p (Truncate file blocks) = refl
answer_past C p (Delete file) = refl
answer_past C p (Enter dir name version file) = refl
answer_past C p (LookUp dir name pick) = refl
answer_past C p (Remove dir name pick) = refl
answer_past C p (Read file vbn) = refl
answer_past C p (Write file vbn block) = refl
answer_past C p (Lines dir) = refl
answer_past C p (Stat file) = refl
answer_past C p (SetUser file attributes) = refl

files_past : (C : Catalogue) (p : set.FinSet file_cmp) (r : Request) → (after (with_past C p) r).files ≡ (after C r).files
unfolding after
files_past C p (Create name version blocks stamp) = refl
files_past C p (Extend file blocks) = refl
files_past C p (Truncate file blocks) = refl
files_past C p (Delete file) = refl
files_past C p (Enter dir name version file) = refl
files_past C p (LookUp dir name pick) = refl
files_past C p (Remove dir name pick) = refl
files_past C p (Read file vbn) = refl
files_past C p (Write file vbn block) = refl
files_past C p (Lines dir) = refl
files_past C p (Stat file) = refl
files_past C p (SetUser file attributes) = refl

-- a step has no fault
pub no_fault : (C D : Catalogue) (who : Uic) (r : Request) (a : Answer) → step C who r a ≡ Some D → fault_of C who r ≡ None
no_fault C D who r a e = by (fault_of C who r) refl
  where
    by : (o : Option Refusal) → fault_of C who r ≡ o → o ≡ None
    by None h = refl
    by (Some f) h =
        let none : step C who r a ≡ None = refused C who r a (ap is_some h) in
        let wrong : None ≡ Some D = sym none ∙ e in
        absurd (cc)

and_right : (a b : Bool) → (a && b) ≡ true → b ≡ true
and_right true b h = h
and_right false b h = absurd (cc)

-- the same step from a catalogue with another past
pub record IsAlike (C : Catalogue) (who : Uic) (r : Request) (a : Answer) (D : Catalogue) : Type 0 where
  pub left : Catalogue
  pub is_step : step C who r a ≡ Some left
  pub files : left.files ≡ D.files
  pub default : left.default ≡ D.default

module _ (C D : Catalogue) (p : set.FinSet file_cmp) (who : Uic) (a : Answer) where
  abbrev P : Catalogue
  P = with_past C p

  moved : (r : Request) → step C who r a ≡ Some D → creates r ≡ false → IsAlike P who r a D
  moved r e h =
      let is = determined C D who r a h e in
      let s : step P who r a ≡ Some (after P r) = is_step P (after P r) who r a h (fault_past C p who r ∙ no_fault C D who r a e) (is.0 ∙ sym (answer_past C p r)) refl in
      record {
        left = after P r;
        is_step = s;
        files = files_past C p r ∙ ap (λ (X : Catalogue). X.files) (sym is.1);
        default = default_kept P (after P r) who r a s ∙ sym (default_kept C D who r a e);
      }

  made : (r : Request) → step C who r a ≡ Some D → creates r ≡ true → ((id : FileId) → created_id a ≡ Some id → set.contains p id ≡ false) → IsAlike P who r a D
  unfolding step change
  made (Create name version blocks stamp) e h fresh = by (created_id a) refl (changed C D who (Create name version blocks stamp) a e)
    where
      by : (o : Option FileId) → created_id a ≡ o → create C (new_file C who name version blocks stamp) o ≡ Some D → IsAlike P who (Create name version blocks stamp) a D
      by None n g = absurd (cc)
      by (Some id) n g =
          let f = new_file C who name version blocks stamp in
          let new : is_new C id ≡ true = taken (is_new C id) (created C id f) D g in
          let is : D ≡ created C id f = given (is_new C id) (created C id f) D g in
          let others = not (is_used C id.number) && (nat_le 6 id.number && nat_le id.number 65535) in
          let rest = and_right (not (set.contains C.past id)) others new in
          let new_too : is_new P id ≡ true = ap (λ b. not b && others) (fresh id n) ∙ rest in
          record {
            left = created P id f;
            is_step = ap (λ o. cond (is_some o) None (create P f (created_id a))) (fault_past C p who (Create name version blocks stamp) ∙ no_fault C D who (Create name version blocks stamp) a e)
                ∙ ap (create P f) n ∙ chosen (is_new P id) (Some (created P id f)) None new_too;
            files = ap (λ (X : Catalogue). X.files) (sym is);
            default = ap (λ (X : Catalogue). X.default) (sym is);
          }
  made (Extend file blocks) e h fresh = absurd (cc)
  made (Truncate file blocks) e h fresh = absurd (cc)
  made (Delete file) e h fresh = absurd (cc)
  made (Enter dir name version file) e h fresh = absurd (cc)
  made (LookUp dir name pick) e h fresh = absurd (cc)
  made (Remove dir name pick) e h fresh = absurd (cc)
  made (Read file vbn) e h fresh = absurd (cc)
  made (Write file vbn block) e h fresh = absurd (cc)
  made (Lines dir) e h fresh = absurd (cc)
  made (Stat file) e h fresh = absurd (cc)
  made (SetUser file attributes) e h fresh = absurd (cc)

  pub other_past : (r : Request) → step C who r a ≡ Some D → ((id : FileId) → creates r ≡ true → created_id a ≡ Some id → set.contains p id ≡ false) → IsAlike P who r a D
  other_past r e fresh = by (creates r) refl
    where
      by : (b : Bool) → creates r ≡ b → IsAlike P who r a D
      by false h = moved r e h
      by true h = made r e h (λ id. fresh id h)
