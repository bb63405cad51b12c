-- What changes leave, one after another.
use Rattle.std.proofs.Common.{◌≡◌, ◌+◌, ◌⊎◌, ◌∙◌, ◌++◌, ◌∷◌, ◌<◌, ◌&&◌, ◌||◌, not, ℕ, suc, List, [], length, take, drop, get_or, Bool, true, false, refl, sym, ap, subst, inl, inr, min, Option, Some, Result, Ok, Err, arith}
use Rattle.std.specs.Prelude.{OnOk, IsOk, unwrap_or}
use Rattle.std.specs.Borrow.{Bor}
use Rattle.std.proofs.lemmas.List.{drop_more, take-append-drop}
use Rattle.std.proofs.lemmas.Result.{on_ok_weaker}
use Rattle.ods_base.specs.declared.file_id.Uic.{Uic}
use Rattle.ods_shell.specs.declared.status.Status.{Status}
use Rattle.ods_shell.specs.declared.status.Status.TheVariants as status
use Rattle.fs_words.specs.declared.actions.Action.{Action}
use Rattle.fs_words.specs.declared.actions.Action.TheVariants as action
use Rattle.fs_words.specs.declared.actions.Change.{Change}
use Rattle.fs_words.specs.declared.words.Words.{Words}
use Rattle.fs_words.specs.Lines.{words_in}
use Rattle.fs_words.specs.Parts.{IsLineOf}
use Rattle.ods_filing.specs.Filed.{Filed, for_another}
use Rattle.ods_filing.specs.Led.{IsLed}
use Rattle.ods_filing.proofs.Led.{stays}
use Rattle.ods_request.specs.declared.requests.Request.{Request}
use Rattle.f11fs.specs.Changed.{AreAllDone, AreLinesDone, AreLinesEnded, AsksChange, EndsRun, GoesOn, HasSameVolume, IsChanged, IsDoneBy, IsDoneNow, IsLineDone, first_fault, is_refused}
use Rattle.f11fs.specs.Given.{HostGives}

-- what holds where a change is made holds where the command ends well
pub through : {A B E F : Type 0} (P : Type 0) (done : Result A E) (r : Result B F) → OnOk done P → OnOk r (IsOk done) → OnOk r P
through P (Ok x) r holds ends = on_ok_weaker r (λ _. holds) ends
through P (Err e) r holds ends = on_ok_weaker r (λ wrong. absurd (cc)) ends

-- a change that is made whole
pub changed_now : (G : HostGives) (asked : Action) (c : Change) (words : List (Bor (List ℕ))) (stamp : List ℕ) (s : Status) (old new : Filed) → asked ≡ action.Change c → s ≡ status.Done → IsChanged G c words stamp old new → IsDoneNow G asked words stamp s old new
changed_now G asked c count stamp s old new asks done is = inr (c, asks, done, is)

-- a change that is made whole or not at all
pub kept_now : (G : HostGives) (asked : Action) (c : Change) (words : List (Bor (List ℕ))) (stamp : List ℕ) (s : Status) (old new : Filed) → asked ≡ action.Change c
    → ((s ≡ status.Done) × IsChanged G c words stamp old new) ⊎ ((is_refused s ≡ true) × (new ≡ old)) → IsDoneNow G asked words stamp s old new
kept_now G asked c count stamp s old new asks (inl is) = inr (c, asks, is.0, is.1)
kept_now G asked c count stamp s old new asks (inr same) = inl same.1

-- nothing is asked of a volume that stays as it is
pub unmoved : (Allows : Request → Type 0) (f : Filed) → IsLed Allows f f
unmoved Allows f = stays {Allows = Allows} f

-- a line that leaves the volume as it was
pub line_left : (G : HostGives) (image : Bor (List ℕ)) (stamp : List ℕ) (user : Uic) (line : List ℕ) (s : Status) (f : Filed) → IsLineDone G image stamp user line s f f
line_left G image stamp user line s f = inl (refl, refl)

-- a line whose command is done
pub line_done : (G : HostGives) (image : Bor (List ℕ)) (stamp : List ℕ) (user : Uic) (line : List ℕ) (words : List (List ℕ)) (own : Words) (s : Status) (old new : Filed)
    → words_in line ≡ Some words → IsLineOf image words (Some own) → IsDoneBy G own.action own.paths.items (unwrap_or own.stamp stamp) (unwrap_or own.user user) s old new
    → IsLineDone G image stamp user line s old new
line_done G image stamp user line words own s old new read asks done = inr (own, (words, read, asks), done)

-- one line more
pub one_line : (G : HostGives) (image : Bor (List ℕ)) (stamp : List ℕ) (user : Uic) (goes_on : Bool) (lines : List (List ℕ)) (statuses : List Status) (line : List ℕ) (s : Status) (old mid new : Filed)
    → AreLinesDone G image stamp user goes_on lines statuses old mid → GoesOn goes_on s → IsLineDone G image stamp user line s mid new
    → AreLinesDone G image stamp user goes_on (lines ++ line ∷ []) (statuses ++ s ∷ []) old new
one_line G image stamp user goes_on [] statuses line s old mid new before goes last =
    (s, [], new, ap (λ xs. xs ++ s ∷ []) before.0, goes, subst (λ (f : Filed). IsLineDone G image stamp user line s f new) before.1 last, (refl, refl))
one_line G image stamp user goes_on (x ∷ lines) statuses line s old mid new before goes last =
    (before.0, before.1 ++ s ∷ [], before.2, ap (λ xs. xs ++ s ∷ []) before.3, before.4, before.5, one_line G image stamp user goes_on lines before.1 line s before.2 mid new before.6 goes last)

alone : (s : Status) → first_fault (s ∷ []) ≡ s
alone status.Done = refl
alone status.Image = refl
alone status.Words = refl
alone status.Host = refl
alone status.Refused = refl
alone status.Nothing = refl
alone status.Found = refl

-- the first fault with one line more: what is noted so far, or where nothing is wrong how that line ends
pub fault_next : (statuses : List Status) (s so_far now : Status) → so_far ≡ first_fault statuses → (so_far ≡ status.Done → now ≡ s) → (¬ (so_far ≡ status.Done) → now ≡ so_far)
    → now ≡ first_fault (statuses ++ s ∷ [])
fault_next [] s so_far now is done fault = done is ∙ sym (alone s)
fault_next (status.Done ∷ rest) s so_far now is done fault = fault_next rest s so_far now is done fault
fault_next (status.Image ∷ rest) s so_far now is done fault = fault (λ e. let clash : status.Image ≡ status.Done = sym is ∙ e in absurd (cc)) ∙ is
fault_next (status.Words ∷ rest) s so_far now is done fault = fault (λ e. let clash : status.Words ≡ status.Done = sym is ∙ e in absurd (cc)) ∙ is
fault_next (status.Host ∷ rest) s so_far now is done fault = fault (λ e. let clash : status.Host ≡ status.Done = sym is ∙ e in absurd (cc)) ∙ is
fault_next (status.Refused ∷ rest) s so_far now is done fault = fault (λ e. let clash : status.Refused ≡ status.Done = sym is ∙ e in absurd (cc)) ∙ is
fault_next (status.Nothing ∷ rest) s so_far now is done fault = fault (λ e. let clash : status.Nothing ≡ status.Done = sym is ∙ e in absurd (cc)) ∙ is
fault_next (status.Found ∷ rest) s so_far now is done fault = fault (λ e. let clash : status.Found ≡ status.Done = sym is ∙ e in absurd (cc)) ∙ is

-- the same with the lines that are done
pub all_next : (G : HostGives) (image : Bor (List ℕ)) (stamp : List ℕ) (user : Uic) (goes_on : Bool) (lines : List (List ℕ)) (line : List ℕ) (s so_far now : Status) (old mid new : Filed)
    → AreAllDone G image stamp user goes_on lines so_far old mid → GoesOn goes_on s → IsLineDone G image stamp user line s mid new
    → (so_far ≡ status.Done → now ≡ s) → (¬ (so_far ≡ status.Done) → now ≡ so_far) → AreAllDone G image stamp user goes_on (lines ++ line ∷ []) now old new
all_next G image stamp user goes_on lines line s so_far now old mid new before goes last done fault =
    (before.0 ++ s ∷ [], one_line G image stamp user goes_on lines before.0 line s old mid new before.1 goes last, fault_next before.0 s so_far now before.2 done fault)

-- the line at which a run ends
pub lines_ended : (G : HostGives) (image : Bor (List ℕ)) (stamp : List ℕ) (user : Uic) (goes_on : Bool) (lines front : List (List ℕ)) (line : List ℕ) (n : ℕ) (s so_far : Status) (old mid : Filed)
    → front ≡ take n lines → n < length lines → line ≡ get_or lines n line → AreAllDone G image stamp user goes_on front so_far old mid → EndsRun image goes_on line s
    → AreLinesEnded G image stamp user goes_on lines s old
lines_ended G image stamp user goes_on lines front line n s so_far old mid before low at done ends =
    let behind : drop n lines ≡ line ∷ drop (n + 1) lines = drop_more lines n line low ∙ ap (λ x. x ∷ drop (n + 1) lines) (sym at) in
    let parts : lines ≡ front ++ line ∷ drop (n + 1) lines = sym (take-append-drop n lines) ∙ (ap (λ xs. take n lines ++ xs) behind ∙ ap (λ xs. xs ++ line ∷ drop (n + 1) lines) (sym before)) in
    (front, line, drop (n + 1) lines, done.0, mid, parts, done.1, ends)

-- why it ends the run
pub why_ended : (image : Bor (List ℕ)) (goes_on stands ends : Bool) (line : List ℕ) (s : Status) → ends ≡ (not stands || (is_refused s && not goes_on)) → ends ≡ true
    → (stands ≡ false → AsksChange image line) → (stands ≡ false → is_refused s ≡ true) → EndsRun image goes_on line s
why_ended image goes_on false ends line s is falls change refused = (refused refl, inr (change refl))
why_ended image false true ends line s is falls change refused = (both (is_refused s) (sym is ∙ falls), inl refl)
  where
    both : (b : Bool) → (b && true) ≡ true → b ≡ true
    both true e = refl
    both false e = absurd (cc)
why_ended image true true ends line s is falls change refused = absurd (neither (is_refused s) (sym is ∙ falls))
  where
    neither : (b : Bool) → (b && false) ≡ true → ⊥
    neither true e = absurd (cc)
    neither false e = absurd (cc)

-- where the run goes on, the volume stands
pub stands_still : (goes_on stands ends : Bool) (s : Status) → ends ≡ (not stands || (is_refused s && not goes_on)) → ends ≡ false → stands ≡ true
stands_still goes_on true ends s is falls = refl
stands_still goes_on false ends s is falls = let wrong : false ≡ true = sym falls ∙ is in absurd (cc)

-- and the line is not refused, or the run is to go on then
pub goes_still : (goes_on stands ends : Bool) (s : Status) → ends ≡ (not stands || (is_refused s && not goes_on)) → ends ≡ false → GoesOn goes_on s
goes_still true stands ends s is falls = inl refl
goes_still false false ends s is falls = let wrong : false ≡ true = sym falls ∙ is in absurd (cc)
goes_still false true ends s is falls = inr (neither (is_refused s) (sym is ∙ falls))
  where
    neither : (b : Bool) → (b && true) ≡ false → b ≡ false
    neither true e = absurd (cc)
    neither false e = refl
