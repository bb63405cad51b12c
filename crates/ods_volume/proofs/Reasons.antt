-- Why a request is refused, by the volume's present catalogue.
use Rattle.std.proofs.Common.{◌≡◌, ◌≢◌, ℕ, refl, ap, sym, ◌∙◌, subst, Bool, true, false, cond, List, [], ◌∷◌, Option, Some, None, is_some, inl, inr, arith}
use Rattle.std.specs.Prelude.{IsSome, MatchOption, not, is_none}
use Rattle.std.specs.FinMap as map
use Rattle.ods_base.specs.declared.file_id.Uic.{Uic}
use Rattle.ods_space.specs.Layout.{VolumeLayout}
use Rattle.ods_request.specs.declared.requests.Request.{Request}
use Rattle.ods_request.specs.declared.requests.Request.TheVariants.{Create, Extend, Truncate, Delete, Enter, LookUp, Remove, Read, Write, List as Lines, Stat, SetUser}
use Rattle.ods_request.specs.declared.answers.Answer.{Answer}
use Rattle.ods_request.specs.declared.answers.Answer.TheVariants.{Names}
use Rattle.ods_request.specs.declared.refusals.Refusal.{Refusal}
use Rattle.ods_request.specs.declared.refusals.Refusal.TheVariants as refusal
use Rattle.ods_request.specs.Catalogue.{Catalogue, File, names_of, is_directory}
use Rattle.ods_request.specs.declared.rights.Right.TheVariants as right
use Rattle.ods_base.specs.Names.{picked_version}
use Rattle.ods_base.specs.declared.listed.Listed.{Listed}
use Rattle.ods_request.specs.Faults.{fault_of, first_of, on_file, is_map, is_denied, lacks_block}
use Rattle.ods_request.specs.Lines.{HasLines}
use Rattle.ods_request.specs.Steps.{step, answer_of}
use Rattle.ods_request.specs.Table.{creates, takes_memory}
use Rattle.ods_request.proofs.FaultTable.{fault_look_up, fault_read, fault_stat}
use Rattle.ods_request.proofs.StepLaws.{determined, refused}
use Rattle.ods_state.specs.Version.{State, IsLawful, IsPresent}
use Rattle.ods_state.specs.Wants.{Lacks, lack_for}
use Rattle.ods_state.specs.Served.{IsStepOf, IsRefusalOf, IsShortOf}
use Rattle.ods_state.specs.Outcome.{IsReason, fault_is, lacks, no_memory}
use Rattle.ods_state.proofs.One.{present_is_shown}
use Rattle.ods_volume.proofs.Lawful.{left_by}

-- none of these refusals is want of memory
abbrev NoneIsMemory : List (Bool × Refusal) → Type 0
NoneIsMemory [] = Unit {0}
NoneIsMemory (row ∷ rows) = (row.1 ≢ refusal.NoMemory) × NoneIsMemory rows

first_is_other : (rows : List (Bool × Refusal)) → NoneIsMemory rows → first_of rows ≢ Some refusal.NoMemory
first_is_other [] other e = absurd (cc)
first_is_other (row ∷ rows) other e = by row.0 row.1 other.0 (first_is_other rows other.1) e
  where
    by : (b : Bool) (r : Refusal) → r ≢ refusal.NoMemory → first_of rows ≢ Some refusal.NoMemory → cond b (Some r) (first_of rows) ≢ Some refusal.NoMemory
    by true r apart rest e = apart (cc)
    by false r apart rest e = rest e

file_is_other : (o : Option File) (checks : File → List (Bool × Refusal)) → ((f : File) → NoneIsMemory (checks f)) → on_file o checks ≢ Some refusal.NoMemory
file_is_other None checks other e = absurd (cc)
file_is_other (Some f) checks other e = first_is_other (checks f) (other f) e

-- the first fault of a request that takes no memory is never want of memory
fault_is_other : (C : Catalogue) (who : Uic) (r : Request) → takes_memory r ≡ false → fault_of C who r ≢ Some refusal.NoMemory
fault_is_other C who (LookUp dir name pick) h e =
    let own : (f : File) → NoneIsMemory ((not (is_directory f.body), refusal.NotADirectory) ∷ (is_denied f who right.Read, refusal.Denied)
    ∷ (is_none (picked_version (names_of f.body) name pick), refusal.NoSuchName) ∷ []) = λ f. (λ g. absurd (cc), (λ g. absurd (cc), (λ g. absurd (cc), tt))) in
    file_is_other (map.get C.files dir) _ own (sym (fault_look_up C who dir name pick) ∙ e)
fault_is_other C who (Read file vbn) h e =
    let own : (f : File) → NoneIsMemory ((is_map file, refusal.Reserved) ∷ (is_directory f.body, refusal.IsDirectory)
    ∷ (is_denied f who right.Read, refusal.Denied) ∷ (lacks_block f vbn, refusal.NoSuchBlock) ∷ []) = λ f. (λ g. absurd (cc), (λ g. absurd (cc), (λ g. absurd (cc), (λ g. absurd (cc), tt)))) in
    file_is_other (map.get C.files file) _ own (sym (fault_read C who file vbn) ∙ e)
fault_is_other C who (Stat file) h e = file_is_other (map.get C.files file) (λ f. []) (λ f. tt) (sym (fault_stat C who file) ∙ e)
fault_is_other C who (Create name version blocks stamp) h e = absurd (cc)
fault_is_other C who (Extend file blocks) h e = absurd (cc)
fault_is_other C who (Truncate file blocks) h e = absurd (cc)
fault_is_other C who (Delete file) h e = absurd (cc)
fault_is_other C who (Enter dir name version file) h e = absurd (cc)
fault_is_other C who (Remove dir name pick) h e = absurd (cc)
fault_is_other C who (Write file vbn block) h e = absurd (cc)
fault_is_other C who (Lines dir) h e = absurd (cc)
fault_is_other C who (SetUser file attributes) h e = absurd (cc)

-- nor is what the volume lacks
one_is_other : (a b c : Bool) → first_of ((a, refusal.VolumeFull) ∷ (b, refusal.HeadersFull) ∷ (c, refusal.ChainFull) ∷ []) ≢ Some refusal.NoMemory
one_is_other a b c = first_is_other ((a, refusal.VolumeFull) ∷ (b, refusal.HeadersFull) ∷ (c, refusal.ChainFull) ∷ []) (λ g. absurd (cc), (λ g. absurd (cc), (λ g. absurd (cc), tt)))

lack_is_other : (I : List (List ℕ)) (L : VolumeLayout) (r : Request) → ¬ Lacks I L r refusal.NoMemory
unfolding lack_for
lack_is_other I L r short = one_is_other _ _ _ short.lacking

-- only a request that takes memory is answered by a directory's lines
lines_by : (C : Catalogue) (r : Request) (lines : List Listed) → answer_of C r ≡ Names lines → takes_memory r ≡ true
unfolding answer_of
lines_by C r lines e = grind arith

created_by : (r : Request) → creates r ≡ true → takes_memory r ≡ true
created_by r h = grind arith

lines_take_memory : (C D : Catalogue) (who : Uic) (r : Request) (a : Answer) → HasLines a → step C who r a ≡ Some D → takes_memory r ≡ true
lines_take_memory C D who r a lines e = by (creates r) refl
  where
    by : (b : Bool) → creates r ≡ b → takes_memory r ≡ true
    by true h = created_by r h
    by false h = lines_by C r lines.0 (sym (determined C D who r a h e).0 ∙ lines.1)

module _ (v : State) (lawful : IsLawful v) (who : Uic) (r : Request) where
  module _ (a : Answer) (J : List (List ℕ)) (M : VolumeLayout) (made : IsStepOf v.image v.layout who r a J M) where
    stepped : (C : Catalogue) → IsPresent v C → IsSome (step C who r a)
    stepped C present = made.answered C (present_is_shown v C lawful present) (lawful.past C present)

    -- a request that makes a step has no fault
    pub step_has_none : (C : Catalogue) (f : Refusal) → IsPresent v C → fault_of C who r ≡ Some f → ⊥
    step_has_none C f present e =
        let none : step C who r a ≡ None = refused C who r a (ap is_some e) in
        let wrong : false ≡ true = sym (ap is_some none) ∙ stepped C present in
        absurd (cc)

    -- lines that find no memory to be copied
    pub copy_takes_memory : HasLines a → takes_memory r ≡ true
    copy_takes_memory lines =
        let C = lawful.version.catalogue in
        let left = left_by (step C who r a) (stepped C lawful.version.replayed) in
        lines_take_memory C left.0 who r a lines left.1

  module _ (f : Refusal) (refused_so : IsRefusalOf v.image v.layout who r f) where
    pub refusal_is_first : (C : Catalogue) (g : Refusal) → IsPresent v C → fault_of C who r ≡ Some g → f ≡ g
    refusal_is_first C g present e = subst (λ o. MatchOption o (IsShortOf v.image v.layout r f) (λ h. f ≡ h)) e (refused_so C (present_is_shown v C lawful present))

    pub refusal_is_reason : IsReason v who r f
    refusal_is_reason = by (fault_of lawful.version.catalogue who r) refl (refused_so lawful.version.catalogue lawful.version.shown)
      where
        by : (o : Option Refusal) → fault_of lawful.version.catalogue who r ≡ o → MatchOption o (IsShortOf v.image v.layout r f) (λ g. f ≡ g) → IsReason v who r f
        by None e (inl lacking) = lacks f lacking
        by None e (inr short) = subst (IsReason v who r) (sym short.0) (no_memory short.1)
        by (Some g) e is = fault_is lawful.version.catalogue f lawful.version.replayed (e ∙ ap Some (sym is))

    pub refusal_is_other : takes_memory r ≡ false → f ≢ refusal.NoMemory
    refusal_is_other none same = by (fault_of lawful.version.catalogue who r) refl (refused_so lawful.version.catalogue lawful.version.shown)
      where
        by : (o : Option Refusal) → fault_of lawful.version.catalogue who r ≡ o → MatchOption o (IsShortOf v.image v.layout r f) (λ g. f ≡ g) → ⊥
        by None e (inl lacking) = lack_is_other v.image v.layout r (subst (Lacks v.image v.layout r) same lacking)
        by None e (inr short) = let wrong : false ≡ true = sym none ∙ short.1 in absurd (cc)
        by (Some g) e is = fault_is_other lawful.version.catalogue who r none (e ∙ ap Some (sym is ∙ same))
