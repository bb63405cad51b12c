-- The refusal ListFull is neither a fault of a request nor a lack of the volume, so it is said only where a list is full.
use Rattle.std.proofs.Common.{◌≡◌, ◌≢◌, ◌⊎◌, inl, inr, refl, sym, ℕ, ◌+◌, Err, Ok, Result, ap, ◌<◌, ◌∙◌, subst, Bool, true, false, cond, List, [], ◌∷◌, Option, Some, None, length, arith}
use Rattle.std.specs.Prelude.{nat_lt}
use Rattle.std.specs.FinMap as map
use Rattle.ods_base.specs.declared.file_id.Uic.{Uic}
use Rattle.ods_base.specs.Name.{RadName}
use Rattle.ods_base.specs.Names.{NameMap}
use Rattle.ods_space.specs.Layout.{VolumeLayout}
use Rattle.ods_request.specs.declared.requests.Request.{Request}
use Rattle.ods_request.specs.declared.requests.Request.TheVariants.{Create, Extend, Truncate, Delete, Enter, LookUp, Remove, Read, Write, List as Lines, Stat, SetUser}
use Rattle.ods_request.specs.declared.refusals.Refusal.{Refusal}
use Rattle.ods_request.specs.declared.refusals.Refusal.TheVariants as refusal
use Rattle.ods_request.specs.Catalogue.{Catalogue, File, names_of}
use Rattle.ods_request.specs.Faults.{fault_of, first_of, on_file, cannot_enter}
use Rattle.ods_request.specs.declared.answers.Entry.{Entry}
use Rattle.ods_request.specs.declared.requests.Query.{Query}
use Rattle.ods_request.specs.declared.answers.Answer.{Answer}
use Rattle.ods_state.specs.Outcome.{request_of}
use Rattle.ods_state.specs.Version.{State}
use Rattle.ods_state.specs.Wants.{Lacks, lack_for}
use Rattle.ods_share.specs.Desks.{IsDeskReason, list_full, fault_is, lacks, no_memory}
use Rattle.ods_share.specs.Scripts.{IsSeen, fulls_in}
use Rattle.ods_ask.specs.declared.outcome.Reply.TheVariants as reply

-- none of these refusals is a full list
abbrev NoneIsList : List (Bool × Refusal) → Type 0
NoneIsList [] = Unit {0}
NoneIsList (row ∷ rows) = (row.1 ≢ refusal.ListFull) × NoneIsList rows

first_is_other : (rows : List (Bool × Refusal)) → NoneIsList rows → first_of rows ≢ Some refusal.ListFull
first_is_other [] other e = absurd (cc)
first_is_other (row ∷ rows) other e = by row.0 row.1 other.0 (first_is_other rows other.1) e
  where
    by : (b : Bool) (r : Refusal) → r ≢ refusal.ListFull → first_of rows ≢ Some refusal.ListFull → cond b (Some r) (first_of rows) ≢ Some refusal.ListFull
    by true r apart rest e = apart (cc)
    by false r apart rest e = rest e

file_is_other : (o : Option File) (checks : File → List (Bool × Refusal)) → ((f : File) → NoneIsList (checks f)) → on_file o checks ≢ Some refusal.ListFull
file_is_other None checks other e = absurd (cc)
file_is_other (Some f) checks other e = first_is_other (checks f) (other f) e

enter_is_other : (names : NameMap) (name : RadName) (given : Option ℕ) → NoneIsList (cannot_enter names name given)
enter_is_other names name None = (λ g. absurd (cc), tt)
enter_is_other names name (Some v) = (λ g. absurd (cc), tt)

fault_is_other : (C : Catalogue) (who : Uic) (r : Request) → fault_of C who r ≢ Some refusal.ListFull
unfolding fault_of
fault_is_other C who (Create name version blocks stamp) e = first_is_other ((nat_lt 65535 blocks, refusal.BadCount) ∷ []) (λ g. absurd (cc), tt) e
fault_is_other C who (Extend file blocks) e = file_is_other (map.get C.files file) _ (λ f. (λ g. absurd (cc), (λ g. absurd (cc), (λ g. absurd (cc), (λ g. absurd (cc), tt))))) e
fault_is_other C who (Truncate file blocks) e = file_is_other (map.get C.files file) _ (λ f. (λ g. absurd (cc), (λ g. absurd (cc), (λ g. absurd (cc), (λ g. absurd (cc), tt))))) e
fault_is_other C who (Delete file) e = file_is_other (map.get C.files file) _ (λ f. (λ g. absurd (cc), (λ g. absurd (cc), (λ g. absurd (cc), tt)))) e
fault_is_other C who (Enter dir name version file) e = file_is_other (map.get C.files dir) _ (λ d. (λ g. absurd (cc), (λ g. absurd (cc), (λ g. absurd (cc), enter_is_other (names_of d.body) name version)))) e
fault_is_other C who (LookUp dir name pick) e = file_is_other (map.get C.files dir) _ (λ f. (λ g. absurd (cc), (λ g. absurd (cc), (λ g. absurd (cc), tt)))) e
fault_is_other C who (Remove dir name pick) e = file_is_other (map.get C.files dir) _ (λ f. (λ g. absurd (cc), (λ g. absurd (cc), (λ g. absurd (cc), tt)))) e
fault_is_other C who (Read file vbn) e = file_is_other (map.get C.files file) _ (λ f. (λ g. absurd (cc), (λ g. absurd (cc), (λ g. absurd (cc), (λ g. absurd (cc), tt))))) e
fault_is_other C who (Write file vbn block) e = file_is_other (map.get C.files file) _ (λ f. (λ g. absurd (cc), (λ g. absurd (cc), (λ g. absurd (cc), (λ g. absurd (cc), tt))))) e
fault_is_other C who (Lines dir) e = file_is_other (map.get C.files dir) _ (λ f. (λ g. absurd (cc), (λ g. absurd (cc), tt))) e
fault_is_other C who (Stat file) e = file_is_other (map.get C.files file) (λ f. []) (λ f. tt) e
fault_is_other C who (SetUser file attributes) e = file_is_other (map.get C.files file) _ (λ f. (λ g. absurd (cc), (λ g. absurd (cc), (λ g. absurd (cc), tt)))) e

one_is_other : (a b c : Bool) → first_of ((a, refusal.VolumeFull) ∷ (b, refusal.HeadersFull) ∷ (c, refusal.ChainFull) ∷ []) ≢ Some refusal.ListFull
one_is_other a b c = first_is_other ((a, refusal.VolumeFull) ∷ (b, refusal.HeadersFull) ∷ (c, refusal.ChainFull) ∷ []) (λ g. absurd (cc), (λ g. absurd (cc), (λ g. absurd (cc), tt)))

lack_is_other : (I : List (List ℕ)) (L : VolumeLayout) (r : Request) → ¬ Lacks I L r refusal.ListFull
unfolding lack_for
lack_is_other I L r short = one_is_other _ _ _ short.lacking

-- so a desk says it only where its list is full
pub desk_is_full : (v : State) (who : Uic) (r : Request) (f : Refusal) → f ≡ refusal.ListFull → IsDeskReason v who r f → length v.entries ≡ v.limit
desk_is_full v who r f same (list_full full) = full
desk_is_full v who r f same (fault_is C g present e) = absurd (fault_is_other C who r (e ∙ (λ i. Some (same i))))
desk_is_full v who r f same (lacks g lacking) = absurd (lack_is_other v.image v.layout r (subst (Lacks v.image v.layout r) same lacking))
desk_is_full v who r f same no_memory = absurd (cc)

-- how often each refusal says it: this one once, the others never
pub says_it_or_not : (f : Refusal) → (f ≡ refusal.ListFull) ⊎ (fulls_in (reply.No f) ≡ 0)
says_it_or_not refusal.NoSuchName = inr refl
says_it_or_not refusal.NameTaken = inr refl
says_it_or_not refusal.VersionsFull = inr refl
says_it_or_not refusal.NoSuchFile = inr refl
says_it_or_not refusal.Reserved = inr refl
says_it_or_not refusal.NotADirectory = inr refl
says_it_or_not refusal.IsDirectory = inr refl
says_it_or_not refusal.BadCount = inr refl
says_it_or_not refusal.Denied = inr refl
says_it_or_not refusal.NoSuchBlock = inr refl
says_it_or_not refusal.NotEmpty = inr refl
says_it_or_not refusal.ListFull = inl refl
says_it_or_not refusal.VolumeFull = inr refl
says_it_or_not refusal.HeadersFull = inr refl
says_it_or_not refusal.ChainFull = inr refl
says_it_or_not refusal.NoMemory = inr refl

-- a refusal that is counted leaves the volume, and it is full where any was
pub still_full : (v w : State) (who : Uic) (r : Request) (f : Refusal) (was now : ℕ) → w ≡ v → IsDeskReason v who r f → now ≡ was + fulls_in (reply.No f) → (0 < was → length v.entries ≡ v.limit) → 0 < now → length w.entries ≡ w.limit
still_full v w who r f was now same reason counted full some = subst (λ (u : State). length u.entries ≡ u.limit) (sym same) (by (says_it_or_not f))
  where
    by : (f ≡ refusal.ListFull) ⊎ (fulls_in (reply.No f) ≡ 0) → length v.entries ≡ v.limit
    by (inl is) = desk_is_full v who r f is reason
    by (inr none) = full (omega (arith, none, counted, some))

-- where any was, no request is accepted
pub none_after : (v : State) (result : Result Answer Refusal) (a : Answer) (total : ℕ) → result ≡ Ok a → (length v.entries ≡ v.limit → result ≡ Err refusal.ListFull) → (0 < total → length v.entries ≡ v.limit) → 0 < total → ⊥
none_after v result a total is full counted some = let wrong : result ≡ Err refusal.ListFull = full (counted some) in absurd (cc)

-- a view never says it
pub view_is_other : (M : List (List ℕ)) (before : List Entry) (who : Uic) (q : Query) (f : Refusal) (after : List Entry) → IsSeen M before who q (Err f) after → fulls_in (reply.No f) ≡ 0
view_is_other M before who q f after is = by (says_it_or_not f)
  where
    by : (f ≡ refusal.ListFull) ⊎ (fulls_in (reply.No f) ≡ 0) → fulls_in (reply.No f) ≡ 0
    by (inl same) = absurd (fault_is_other is.leads.0 who (request_of q) (is.answers is.leads.0 is.leads.1 ∙ (λ i. Some (same i))))
    by (inr none) = none
