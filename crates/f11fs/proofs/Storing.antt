-- What stays of an image, and what is saved of it, from step to step.
use Rattle.std.proofs.Common.{◌≡◌, ◌⊎◌, ◌∙◌, refl, sym, subst, ℕ, Bool, true, false, List, Option, Some, None, Result, Ok, Err, inl, inr}
use Rattle.std.specs.Prelude.{IfSome, MatchOption, OnErr, unwrap_or}
use Rattle.std.specs.Borrow.{Bor}
use Rattle.fs_words.specs.declared.actions.Change.{Change}
use Rattle.fs_words.specs.declared.words.Words.{Words}
use Rattle.ods_base.specs.declared.file_id.Uic.{Uic}
use Rattle.ods_filing.specs.Filed.{Filed}
use Rattle.ods_space.specs.Layout.{VolumeLayout}
use Rattle.ods_shell.specs.declared.status.Status.{Status}
use Rattle.std.specs.Str.Lines.{lines}
use Rattle.f11fs.specs.Changed.{AreAllDone, IsChanged}
use Rattle.f11fs.specs.Given.{HostGives}
use Rattle.f11fs.specs.Mended.{keeper}
use Rattle.f11fs.specs.Stores.{GainsNoCopy, ImageStays, IsMadeAndSaved, IsSavedIn, IsTimeFor, MakesChange, MakesLines}

-- the image keeps its blocks through two steps
pub stays_through : (a b c : List (List ℕ) → Type 0) → ImageStays a b → ImageStays b c → ImageStays a c
stays_through a b c first second = λ blocks had. second blocks (first blocks had)

-- no path has become a copy through two steps
pub no_copy_through : (a b c : List ℕ → List (List ℕ) → Type 0) → GainsNoCopy a b → GainsNoCopy b c → GainsNoCopy a c
no_copy_through a b c first second = λ path blocks is. first path blocks (second path blocks is)

-- what is saved after a step that keeps the image
pub saved_after : (out : Option (Bor (List ℕ))) (a b c : List (List ℕ) → Type 0) (copies : List ℕ → List (List ℕ) → Type 0) (blocks : List (List ℕ))
    → ImageStays a b → IsSavedIn out b c copies blocks → IsSavedIn out a c copies blocks
saved_after None a b c copies blocks stays saved = saved
saved_after (Some out) a b c copies blocks stays saved = (stays_through a b c stays saved.0, saved.1)

-- a saving fails
pub kept_after : (Makes : List (List ℕ) → List (List ℕ) → Type 0) (before after : List (List ℕ)) (a b c : List (List ℕ) → Type 0) (copies : List ℕ → List (List ℕ) → Type 0)
    → a before → Makes before after → ImageStays a b → ImageStays b c ⊎ c after → ImageStays a c ⊎ IsMadeAndSaved Makes None a c copies
kept_after Makes before after a b c copies had makes stays (inl kept) = inl (stays_through a b c stays kept)
kept_after Makes before after a b c copies had makes stays (inr new) = inr (before, after, had, makes, new)

-- something fails after the saving
pub kept_saved : (Makes : List (List ℕ) → List (List ℕ) → Type 0) (out : Option (Bor (List ℕ))) (a c : List (List ℕ) → Type 0) (copies : List ℕ → List (List ℕ) → Type 0)
    → IsMadeAndSaved Makes out a c copies → ImageStays a c ⊎ IsMadeAndSaved Makes None a c copies
kept_saved Makes None a c copies saved = inr saved
kept_saved Makes (Some out) a c copies saved = inl saved.4.0

-- what holds anyway holds on an error
pub on_err_holds : {A E : Type 0} (P : Type 0) (r : Result A E) → P → OnErr r P
on_err_holds P (Ok x) holds = tt
on_err_holds P (Err e) holds = holds

-- a copy from before the change is there if the command only tells
pub told_alone : {X : Type 0} (tells : Bool) (before : Option X) (Is : X → Type 0) → MatchOption before (tells ≡ false) (λ x. (tells ≡ true) × Is x) → tells ≡ false → before ≡ None
told_alone tells None Is kept saves = refl
told_alone tells (Some x) Is kept saves = let clash : true ≡ false = sym kept.0 ∙ saves in absurd (cc)

-- what is only told leaves the image and its copies as they were
pub told_by : {S X : Type 0} (has : S → List (List ℕ) → Type 0) (copies : S → List ℕ → List (List ℕ) → Type 0) (tells : Bool) (before : Option X) (Is : X → Type 0) (old mid new : S)
    → MatchOption before (tells ≡ false) (λ x. (tells ≡ true) × Is x) → IfSome before (λ x. new ≡ mid) → ImageStays (has old) (has mid) → GainsNoCopy (copies old) (copies mid) → tells ≡ true
    → ImageStays (has old) (has new) × GainsNoCopy (copies old) (copies new)
told_by has copies tells None Is old mid new kept same stays none asked = let clash : true ≡ false = sym asked ∙ kept in absurd (cc)
told_by has copies tells (Some x) Is old mid new kept same stays none asked =
    (subst (λ s. ImageStays (has old) (has s)) (sym same) stays, subst (λ s. GainsNoCopy (copies old) (copies s)) (sym same) none)

-- the change of a volume for the user and at the time of the words
pub change_made : (G : HostGives) (change : Change) (words : Words) (before : List (List ℕ)) (layout : VolumeLayout) (stamp : List ℕ) (user : Uic) (left : Filed)
    → user ≡ unwrap_or words.user keeper → IsTimeFor words stamp → IsChanged G change words.paths.items stamp (record { image = before; layout = layout; user = user }) left → MakesChange G change words before left.image
change_made G change words before layout stamp user left for time changed =
    (layout, stamp, left, time, subst (λ (u : Uic). IsChanged G change words.paths.items stamp (record { image = before; layout = layout; user = u }) left) for changed, refl)

-- what is made of the blocks of an image, and saved
pub made_saved : (Makes : List (List ℕ) → List (List ℕ) → Type 0) (out : Option (Bor (List ℕ))) (before after : List (List ℕ)) (a b c : List (List ℕ) → Type 0) (copies : List ℕ → List (List ℕ) → Type 0)
    → a before → Makes before after → ImageStays a b → IsSavedIn out b c copies after → IsMadeAndSaved Makes out a c copies
made_saved Makes out before after a b c copies had makes stays saved = (before, after, had, makes, saved_after out a b c copies after stays saved)

-- something fails after what is told, or saved
pub kept_either : {S : Type 0} (has : S → List (List ℕ) → Type 0) (Makes : List (List ℕ) → List (List ℕ) → Type 0) (out : Option (Bor (List ℕ))) (tells : Bool) (a : List (List ℕ) → Type 0) (copies : List ℕ → List (List ℕ) → Type 0) (mid new : S)
    → ImageStays a (has mid) → (tells ≡ true → new ≡ mid) → (tells ≡ false → IsMadeAndSaved Makes out a (has new) copies) → ImageStays a (has new) ⊎ IsMadeAndSaved Makes None a (has new) copies
kept_either has Makes out true a copies mid new stays same saved = inl (subst (λ s. ImageStays a (has s)) (sym (same refl)) stays)
kept_either has Makes out false a copies mid new stays same saved = kept_saved Makes out a (has new) copies (saved refl)

-- what all lines make of a volume for the user and at the time of the words
pub lines_made : (G : HostGives) (goes_on : Bool) (words : Words) (text : List ℕ) (before : List (List ℕ)) (layout : VolumeLayout) (stamp : List ℕ) (user : Uic) (s : Status) (left : Filed)
    → user ≡ unwrap_or words.user keeper → IsTimeFor words stamp → AreAllDone G words.image stamp user goes_on (lines text) s (record { image = before; layout = layout; user = user }) left
    → MakesLines G goes_on words text before left.image
lines_made G goes_on words text before layout stamp user s left for time done =
    (layout, stamp, s, left, time, subst (λ (u : Uic). AreAllDone G words.image stamp u goes_on (lines text) s (record { image = before; layout = layout; user = u }) left) for done, refl)
