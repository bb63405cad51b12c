-- Files that are got one after another.
use Rattle.std.proofs.Common.{◌≡◌, ◌≢◌, ◌⊎◌, inl, inr, ℕ, ◌+◌, Bool, true, false, refl, sym, ◌∙◌, ap, subst, ◌<◌, List, [], ◌++◌, length, get_or, take, Option, Some, None}
use Rattle.std.specs.Prelude.{IfOk, IfSome, IsSome, Result, Ok, Err}
use Rattle.std.specs.Borrow.{Bor}
use Rattle.std.specs.List.{All, slice_get}
use Rattle.std.proofs.lemmas.List.Elements.{All-contains, All-contains_itself, All-more, Contains-append_left, Contains-append_right}
use Rattle.std.proofs.lemmas.Option.{slice_get_within, get_or_from_slice_get}
use Rattle.ods_base.specs.declared.file_id.Uic.{Uic}
use Rattle.ods_shell.specs.declared.facts.Facts.{Facts}
use Rattle.ods_shell.specs.declared.form.FormFault.{FormFault}
use Rattle.ods_shell.specs.declared.form.FormFault.TheVariants.{NoMemory}
use Rattle.ods_shell.specs.declared.found.Found.{Found}
use Rattle.ods_shell.specs.declared.form.Remark.{Remark}
use Rattle.ods_shell.specs.declared.status.Status.{Status}
use Rattle.ods_shell.specs.declared.status.Status.TheVariants as status
use Rattle.ods_space.specs.Layout.{VolumeLayout}
use Rattle.fs_reads.proofs.Statuses.{path_fault}
use Rattle.fs_reads.specs.declared.reading.Unread.{Unread}
use Rattle.fs_reads.specs.declared.reading.Unread.TheVariants as unread
use Rattle.fs_reads.specs.Denied.{IsClosedStatus, IsUnread, MayRead}
use Rattle.fs_reads.specs.Ends.{may_name}
use Rattle.fs_reads.specs.Gets.{EndsFile, EndsGet, IsAmong, IsGettable, IsPathGot, IsRefused}
use Rattle.fs_reads.specs.Named.{AddsNamed}
use Rattle.fs_reads.specs.Targets.{IsWritten, StayTaken}
use Rattle.fs_reads.specs.TreesGot.{IsDirectoryGot}
use Rattle.ods_shell.specs.declared.folders.Directory.{Directory}

-- of two statuses the first fault counts: done is what is done twice
pub both_done : (one later s : Status) → (one ≡ status.Done → s ≡ later) → (¬ (one ≡ status.Done) → s ≡ one) → s ≡ status.Done → (one ≡ status.Done) × (later ≡ status.Done)
both_done status.Done later s d f e = (refl, sym (d refl) ∙ e)
both_done status.Image later s d f e = let same : s ≡ status.Image = f (λ h. cc) in absurd (cc)
both_done status.Words later s d f e = let same : s ≡ status.Words = f (λ h. cc) in absurd (cc)
both_done status.Host later s d f e = let same : s ≡ status.Host = f (λ h. cc) in absurd (cc)
both_done status.Refused later s d f e = let same : s ≡ status.Refused = f (λ h. cc) in absurd (cc)
both_done status.Nothing later s d f e = let same : s ≡ status.Nothing = f (λ h. cc) in absurd (cc)
both_done status.Found later s d f e = let same : s ≡ status.Found = f (λ h. cc) in absurd (cc)

-- what holds of both statuses holds of the one that counts
pub either_holds : (P : Status → Type 0) (one later s : Status) → (one ≡ status.Done → s ≡ later) → (¬ (one ≡ status.Done) → s ≡ one) → P one → P later → P s
either_holds P status.Done later s d f a b = subst P (sym (d refl)) b
either_holds P status.Image later s d f a b = subst P (sym (f (λ h. cc))) a
either_holds P status.Words later s d f a b = subst P (sym (f (λ h. cc))) a
either_holds P status.Host later s d f a b = subst P (sym (f (λ h. cc))) a
either_holds P status.Refused later s d f a b = subst P (sym (f (λ h. cc))) a
either_holds P status.Nothing later s d f a b = subst P (sym (f (λ h. cc))) a
either_holds P status.Found later s d f a b = subst P (sym (f (λ h. cc))) a

-- one element more of which it holds
pub one_more : {X : Type 0} (P : X → Type 0) (xs : List X) (i : ℕ) (x : X) → slice_get xs i ≡ Some x → All P (take i xs) → P x → All P (take (i + 1) xs)
one_more P xs i x at first one = All-more P xs i x (slice_get_within xs i x at) first (subst P (sym (get_or_from_slice_get xs i x x at)) one)

module _ (user : Option Uic) (Gives : ℕ → List ℕ → Option Remark → Type 0) (Lacks : ℕ → FormFault → Type 0) (found : Found) where
  -- what is opened of a file that is known, and may be read, is got out of it
  pub opened : (Are : List ℕ → Type 0) (said : Option Remark) (known : Option Facts) → found.facts ≡ known → IsSome known
      → IfSome known (λ facts. MayRead user facts × ((bytes : List ℕ) × Are bytes × Gives facts.file.number bytes said)) → IsGettable user Gives found
  opened Are said None e some may = absurd (cc some)
  opened Are said (Some facts) e some may = (facts, e, may.0, (may.1.0, said, may.1.2))

  pub file_may : (s : Status) → EndsFile user Gives Lacks found s → may_name s ≡ true
  file_may s ends = elim ends [ inl (done, got) ↦ ap may_name done | inr (refused, why) ↦ ap may_name refused ]

  pub file_done : (s : Status) → EndsFile user Gives Lacks found s → s ≡ status.Done → IsGettable user Gives found
  file_done s ends e = elim ends [ inl (done, got) ↦ got | inr (refused, why) ↦ absurd (cc (sym e ∙ refused)) ]

  pub get_may : (s : Status) → EndsGet user Gives Lacks found s → may_name s ≡ true
  get_may s ends = elim ends [ inl file ↦ file_may s file | inr host ↦ ap may_name host ]

  pub get_done : (s : Status) → EndsGet user Gives Lacks found s → s ≡ status.Done → IsGettable user Gives found
  get_done s ends e = elim ends [ inl file ↦ file_done s file e | inr host ↦ absurd (cc (sym e ∙ host)) ]

  -- what is got is written to the host, or the host does not take it
  pub kept_ends : {E : Type 0} (r : Result Status E) → IsGettable user Gives found → IfOk r (λ s. (s ≡ status.Done) ⊎ (s ≡ status.Host)) → IfOk r (EndsGet user Gives Lacks found)
  kept_ends (Ok s) got h = elim h [ inl done ↦ inl (inl (done, got)) | inr host ↦ inr host ]
  kept_ends (Err why) got h = tt

  -- nothing is got out of it: there is no file, or for a reason that holds
  refused_for : (why : Unread) (known : Option Facts) → found.facts ≡ known → why ≢ unread.Form NoMemory → IfSome known (λ facts. IsUnread user facts (Lacks facts.file.number) why) → IsRefused user Lacks found
  refused_for why None e other so = inl e
  refused_for why (Some facts) e other so = inr (facts, e, (why, other, so))

  pub unread_ends : {E : Type 0} (r : Result Status E) (why : Unread) (known : Option Facts) → found.facts ≡ known → IfSome known (λ facts. IsUnread user facts (Lacks facts.file.number) why)
      → IfOk r (λ s. (s ≡ status.Refused) × (why ≢ unread.Form NoMemory)) → IfOk r (EndsFile user Gives Lacks found)
  unread_ends (Ok s) why known e so said = inr (said.0, refused_for why known e said.1 so)
  unread_ends (Err stop) why known e so said = tt

  pub unread_got : {E : Type 0} (r : Result Status E) (why : Unread) (known : Option Facts) → found.facts ≡ known → IfSome known (λ facts. IsUnread user facts (Lacks facts.file.number) why)
      → IfOk r (λ s. (s ≡ status.Refused) × (why ≢ unread.Form NoMemory)) → IfOk r (EndsGet user Gives Lacks found)
  unread_got (Ok s) why known e so said = inl (inr (said.0, refused_for why known e said.1 so))
  unread_got (Err stop) why known e so said = tt

module _ (I : List (List ℕ)) (L : VolumeLayout) (user : Option Uic) (closed : List ℕ) where
  -- what is added with nothing wrong is all that the path names
  pub named_alone : (path : List ℕ) (old new : List Found) (s : Status) → AddsNamed I L user closed path old new s → s ≡ status.Done
      → (found : List Found) × (new ≡ old ++ found) × AddsNamed I L user closed path [] found status.Done
  named_alone path old new s adds done = elim adds [
    | inl (met, files, shut) ↦ (files.0, files.1, inl (met, (files.0, refl, files.2), subst (IsClosedStatus user met) done shut))
    | inr refused ↦ elim refused [ inl twins ↦ absurd (let clash : status.Refused ≡ status.Done = sym twins.2 ∙ done in cc) | inr (same, none) ↦ absurd (path_fault none.0 s none.3 done) ]
  ]

  -- files stay among more
  pub among_more : (all more : List Found) (paths : List (Bor (List ℕ))) → All (λ path. IsAmong I L user closed all path.now) paths → All (λ path. IsAmong I L user closed (all ++ more) path.now) paths
  among_more all more paths among = λ k d small. let here = among k d small in (here.0, here.1, λ j e low. Contains-append_left all more _ (here.2 j e low))

  -- those of one path more
  pub among_next : (paths : List (Bor (List ℕ))) (i : ℕ) (d : Bor (List ℕ)) (old new : List Found) (s : Status) → i < length paths
      → All (λ p. IsAmong I L user closed old p.now) (take i paths) → AddsNamed I L user closed (get_or paths i d).now old new s → s ≡ status.Done → All (λ p. IsAmong I L user closed new p.now) (take (i + 1) paths)
  among_next paths i d old new s within first adds done =
      let one = named_alone (get_or paths i d).now old new s adds done in
      let Among : List Found → Bor (List ℕ) → Type 0 = λ xs p. IsAmong I L user closed xs p.now in
      subst (λ xs. All (Among xs) (take (i + 1) paths)) (sym one.1) (All-more (Among (old ++ one.0)) paths i d within
      (among_more old one.0 (take i paths) first)
      (one.0, one.2, λ k e low. Contains-append_right old one.0 _ (All-contains_itself one.0 k e low)))

  -- where all files are got, each path is
  pub paths_got : (Gives : ℕ → List ℕ → Option Remark → Type 0) (all : List Found) (paths : List (Bor (List ℕ))) → All (λ path. IsAmong I L user closed all path.now) paths → All (IsGettable user Gives) all
      → All (λ path. IsPathGot I L user Gives closed path.now) paths
  paths_got Gives all paths among got = λ k d small. let here = among k d small in (here.0, here.1, λ j e low. All-contains (IsGettable user Gives) all _ got (here.2 j e low))

  -- a path is got where it is named, and each of its files is got
  pub path_done : (Gives : ℕ → List ℕ → Option Remark → Type 0) (path : List ℕ) (old new : List Found) (named written s : Status) → old ≡ [] → AddsNamed I L user closed path old new named
      → (written ≡ status.Done → All (IsGettable user Gives) new) → (named ≡ status.Done → s ≡ written) → (¬ (named ≡ status.Done) → s ≡ named) → s ≡ status.Done → IsPathGot I L user Gives closed path
  path_done Gives path old new named written s none adds got d f done =
      let both = both_done named written s d f done in
      let one = named_alone path old new named adds both.0 in
      let same : new ≡ one.0 = one.1 ∙ ap (λ l. l ++ one.0) none in
      (one.0, one.2, subst (All (IsGettable user Gives)) same (got both.1))

-- what is got for this user past these directories
pub got_for : (I : List (List ℕ)) (L : VolumeLayout) (Gives : ℕ → List ℕ → Option Remark → Type 0) (u v : Option Uic) (xs ys : List ℕ) (path : List ℕ) → u ≡ v → xs ≡ ys → IsPathGot I L u Gives xs path → IsPathGot I L v Gives ys path
got_for I L Gives u v xs ys path same shut got = subst (λ w. IsPathGot I L w Gives ys path) same (subst (λ zs. IsPathGot I L u Gives zs path) shut got)

-- What was written before stays written.
module _ (user : Option Uic) (tells : Bool) (Gives : ℕ → List ℕ → Option Remark → Type 0) (old new : List ℕ → List ℕ → Type 0) (stay : StayTaken old new) where
  pub still : (found : Found) → IsGettable user (IsWritten tells old Gives) found → IsGettable user (IsWritten tells new Gives) found
  still found (facts, e, may, (bytes, said, (gives, written))) = (facts, e, may, (bytes, said, (gives, λ asked. ((written asked).0, stay (written asked).0 bytes (written asked).1))))

  pub all_still : (files : List Found) → All (IsGettable user (IsWritten tells old Gives)) files → All (IsGettable user (IsWritten tells new Gives)) files
  all_still files got = λ k d small. still (get_or files k d) (got k d small)

  pub directories_still : (I : List (List ℕ)) (L : VolumeLayout) (directories : List Directory) → All (IsDirectoryGot I L user (IsWritten tells old Gives)) directories
      → All (IsDirectoryGot I L user (IsWritten tells new Gives)) directories
  directories_still I L directories got = λ k d small. let here = got k d small in (here.0, here.1, all_still here.0 here.2)

-- what is opened of a file and was written to a path is written
pub opened_written : (user : Option Uic) (tells : Bool) (Gives : ℕ → List ℕ → Option Remark → Type 0) (took : List ℕ → List ℕ → Type 0) (path : List ℕ) (found : Found) (Are : List ℕ → Type 0) (said : Option Remark) (known : Option Facts)
    → found.facts ≡ known → IsSome known → IfSome known (λ facts. MayRead user facts × ((bytes : List ℕ) × Are bytes × Gives facts.file.number bytes said))
    → (tells ≡ false → (bytes : List ℕ) → Are bytes → took path bytes) → IsGettable user (IsWritten tells took Gives) found
opened_written user tells Gives took path found Are said None e some may written = absurd (cc some)
opened_written user tells Gives took path found Are said (Some facts) e some may written = (facts, e, may.0, (may.1.0, said, (may.1.2, λ asked. (path, written asked may.1.0 may.1.1))))

-- how a file ends that is written if the host takes it
pub written_ends : (user : Option Uic) (tells : Bool) (Gives : ℕ → List ℕ → Option Remark → Type 0) (Lacks : ℕ → FormFault → Type 0) (took : List ℕ → List ℕ → Type 0) (path : List ℕ) (found : Found) (Are : List ℕ → Type 0) (said : Option Remark) (known : Option Facts)
    → found.facts ≡ known → IsSome known → IfSome known (λ facts. MayRead user facts × ((bytes : List ℕ) × Are bytes × Gives facts.file.number bytes said))
    → {E : Type 0} (r : Result Status E) → IfOk r (λ s. (s ≡ status.Done) ⊎ (s ≡ status.Host)) → IfOk r (λ s. s ≡ status.Done → tells ≡ false → (bytes : List ℕ) → Are bytes → took path bytes)
    → IfOk r (EndsGet user (IsWritten tells took Gives) Lacks found)
written_ends user tells Gives Lacks took path found Are said known e some may (Ok s) ends written =
    elim ends [ inl done ↦ inl (inl (done, opened_written user tells Gives took path found Are said known e some may (written done))) | inr host ↦ inr host ]
written_ends user tells Gives Lacks took path found Are said known e some may (Err why) ends written = tt
