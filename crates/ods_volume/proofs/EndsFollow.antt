-- What is noted of where chains end stays true in a request, but for what the request makes untrue.
use Rattle.std.proofs.Common.{◌≡◌, ◌≢◌, ℕ, refl, ap, sym, ◌∙◌, Bool, true, false, not, ◌&&◌, List, Option, Some, None, is_some}
use Rattle.std.specs.Prelude.{◌==◌, IfSome, IsSome}
use Rattle.std.specs.List.{Contains}
use Rattle.std.proofs.lemmas.List.Elements.{All-contains}
use Rattle.std.proofs.lemmas.Bool.{eq-eqb}
use Rattle.ods_base.specs.Image.{IsImage}
use Rattle.ods_base.specs.declared.file_id.Uic.{Uic}
use Rattle.ods_space.specs.Layout.{VolumeLayout}
use Rattle.ods_mount.specs.Sound.{IsSoundBy}
use Rattle.ods_request.specs.declared.requests.Request.{Request}
use Rattle.ods_request.specs.declared.requests.Request.TheVariants.{Create, Extend, Truncate, Delete, Enter, LookUp, Remove, Read, Write, List as Lines, Stat, SetUser}
use Rattle.ods_request.specs.declared.answers.Answer.{Answer}
use Rattle.ods_request.specs.declared.answers.Answer.TheVariants as answer
use Rattle.ods_request.specs.Catalogue.{Catalogue}
use Rattle.ods_request.specs.Faults.{fault_of}
use Rattle.ods_request.specs.Steps.{step}
use Rattle.ods_request.proofs.StepLaws.{refused}
use Rattle.ods_state.specs.Change.{disk}
use Rattle.ods_state.specs.Contents.{ShowsBy}
use Rattle.ods_state.specs.Ends.{IsEndKnown, IsKnownIn}
use Rattle.ods_state.specs.Moves.{ChangesOnlyTouched, Moves}
use Rattle.ods_state.specs.Served.{IsStepOf}
use Rattle.ods_state.specs.declared.known_end.KnownEnd.{KnownEnd}
use Rattle.ods_state.proofs.Exists.{is_shown, the_catalogue}
use Rattle.ods_state.proofs.EndsServed.{create_keeps, delete_keeps, enter_high, enter_keeps, extend_keeps, remove_high, set_user_high, set_user_keeps, set_user_there, truncate_keeps, write_high, written_keeps}
use Rattle.ods_state.proofs.EndsWritten.{same_keeps}
use Rattle.ods_volume.specs.Ends.{AreKnownIn, falls_for, stays}
use Rattle.ods_volume.specs.declared.ends.Falls.TheVariants.{File}
use Rattle.ods_volume.proofs.Stepped.{has_no_fault}

-- a request that has a step has no fault
pub no_fault : (C : Catalogue) (who : Uic) (r : Request) (a : Answer) → IsSome (step C who r a) → fault_of C who r ≡ None
no_fault C who r a steps = by (fault_of C who r) refl
  where
    by : (o : Option _) → fault_of C who r ≡ o → fault_of C who r ≡ None
    by None is = is
    by (Some f) is = let none = refused C who r a (ap is_some is) in let wrong : false ≡ true = sym (ap is_some none) ∙ steps in absurd (cc)

-- what stays is of another file than this one and INDEXF.SYS
two_tests : (a b : Bool) → (not a && not b) ≡ true → (a ≡ false) × (b ≡ false)
two_tests false false stay = (refl, refl)
two_tests false true stay = absurd (cc)
two_tests true b stay = absurd (cc)

not_same : (m n : ℕ) → (m == n) ≡ false → m ≢ n
not_same m n apart is = let wrong : true ≡ false = sym (eq-eqb m n is) ∙ apart in absurd (cc)

others : (n file : ℕ) → stays (File n) file ≡ true → (file ≢ n) × (file ≢ 1)
others n file stay = let two = two_tests (file == n) (file == 1) stay in (not_same file n two.0, not_same file 1 two.1)

module _ (I J : List (List ℕ)) (L M : VolumeLayout) (image : IsImage I) (S : IsSoundBy I L) (T : IsSoundBy J M) (who : Uic) where
  -- by the blocks of what a step leaves
  pub kept_served : (r : Request) (a : Answer) → Moves (disk I L) r a (disk J M) → ChangesOnlyTouched (disk I L) r (disk J M) → (C : Catalogue) → ShowsBy I L C → fault_of C who r ≡ None
      → (end : KnownEnd) → stays (falls_for r a) end.file ≡ true → IsEndKnown I L end → IsEndKnown J M end
  kept_served (Create name version count stamp) (answer.Created id) moves only C shown fine end stay known =
      let apart = others id.number end.file stay in create_keeps I J L M image S T end known name version count stamp id moves only apart.1 apart.0
  kept_served (Create name version count stamp) (answer.Extended n) moves only C shown fine end stay known = absurd (cc)
  kept_served (Create name version count stamp) (answer.Truncated n) moves only C shown fine end stay known = absurd (cc)
  kept_served (Create name version count stamp) answer.Done moves only C shown fine end stay known = absurd (cc)
  kept_served (Create name version count stamp) (answer.Entered n) moves only C shown fine end stay known = absurd (cc)
  kept_served (Create name version count stamp) (answer.Found f n) moves only C shown fine end stay known = absurd (cc)
  kept_served (Create name version count stamp) (answer.Removed f n) moves only C shown fine end stay known = absurd (cc)
  kept_served (Create name version count stamp) (answer.Bytes b) moves only C shown fine end stay known = absurd (cc)
  kept_served (Create name version count stamp) (answer.Names l) moves only C shown fine end stay known = absurd (cc)
  kept_served (Create name version count stamp) (answer.Info s) moves only C shown fine end stay known = absurd (cc)
  kept_served (Extend file count) a moves only C shown fine end stay known =
      let apart = others file.number end.file stay in extend_keeps I J L M image S T end known file count a moves only apart.1 apart.0
  kept_served (Truncate file count) a moves only C shown fine end stay known =
      let apart = others file.number end.file stay in truncate_keeps I J L M image S T end known file count a moves only apart.1 apart.0
  kept_served (Delete file) a moves only C shown fine end stay known =
      let apart = others file.number end.file stay in delete_keeps I J L M image S T end known file a moves only apart.1
  kept_served (Enter dir name version file) a moves only C shown fine end stay known =
      let apart = others dir.number end.file stay in
      enter_keeps I J L M image S T end known dir name version file a (enter_high I L C shown who dir name version file fine) moves only apart.1 apart.0
  kept_served (Remove dir name pick) a moves only C shown fine end stay known =
      written_keeps I J L M image S T end known dir.number (remove_high I L C shown who dir name pick fine) moves.0 only.1
  kept_served (Write file vbn block) a moves only C shown fine end stay known =
      written_keeps I J L M image S T end known file.number (write_high I L C shown who file vbn block fine) moves (λ x away. only.1 x (λ h. away (vbn, h)))
  kept_served (SetUser file attributes) a moves only C shown fine end stay known =
      set_user_keeps I J L M image S T end known file attributes a (set_user_high I L C shown who file attributes fine) (set_user_there I L C shown who file attributes fine) moves only
  kept_served (LookUp dir name pick) a moves only C shown fine end stay known = same_keeps I J L M moves.layout only.0 (λ x. only.1 x (λ never. never)) end known
  kept_served (Read file vbn) a moves only C shown fine end stay known = same_keeps I J L M moves.layout only.0 (λ x. only.1 x (λ never. never)) end known
  kept_served (Lines dir) a moves only C shown fine end stay known = same_keeps I J L M moves.layout only.0 (λ x. only.1 x (λ never. never)) end known
  kept_served (Stat file) a moves only C shown fine end stay known = same_keeps I J L M moves.layout only.0 (λ x. only.1 x (λ never. never)) end known

-- by the step alone
pub kept_by_step : (I J : List (List ℕ)) (L M : VolumeLayout) → IsImage I → IsSoundBy I L → (who : Uic) (r : Request) (a : Answer) → IsStepOf I L who r a J M
    → (end : KnownEnd) → stays (falls_for r a) end.file ≡ true → IsEndKnown I L end → IsEndKnown J M end
kept_by_step I J L M image S who r a made =
    let C = the_catalogue I L S in
    kept_served I J L M image S made.sound who r a made.moves made.elsewhere C (is_shown I L S) (has_no_fault I L who r a J M made C (is_shown I L S))

-- what is noted of one file is true where all that is noted is
pub known_of : (I : List (List ℕ)) (L : VolumeLayout) (ends : List (Option KnownEnd)) (file : ℕ) (noted : Option KnownEnd) → AreKnownIn I L ends
    → IfSome noted (λ end. (end.file ≡ file) × Contains ends (Some end)) → IsKnownIn I L noted
known_of I L ends file None known found = tt
known_of I L ends file (Some end) known found = All-contains (IsKnownIn I L) ends (Some end) known found.1
