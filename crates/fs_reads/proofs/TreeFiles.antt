-- The files of directories that are got, one after another.
use Rattle.std.proofs.Common.{◌≡◌, ◌∙◌, refl, ap, sym, subst, inl, inr, ℕ, Bool, true, false, cond, List, [], ◌∷◌, ◌++◌, Option, Some, None, ◌<◌, ◌≤◌, length, get_or, arith}
use Rattle.std.specs.Prelude.{vec_len}
use Rattle.ods_base.specs.declared.file_id.Uic.{Uic}
use Rattle.ods_base.specs.declared.listed.Listed.{Listed}
use Rattle.ods_space.specs.Layout.{VolumeLayout}
use Rattle.ods_shell.specs.Named.{IsEntryOf}
use Rattle.ods_shell.specs.Passed.{is_passed_over}
use Rattle.ods_shell.specs.Ways.{CountAsClosed}
use Rattle.ods_shell.specs.declared.folders.Directory.{Directory}
use Rattle.ods_shell.specs.declared.found.Found.{Found}
use Rattle.ods_shell.specs.declared.status.Status.{Status}
use Rattle.ods_shell.specs.declared.status.Status.TheVariants as status
use Rattle.fs_reads.specs.Denied.{AreClosedTo, IsClosedStatus}
use Rattle.fs_reads.specs.TreesGot.{AreFilesOf, IsDepthOf}

-- one more behind some, of which the first is there or not
behind : (passed first : Bool) (one found : Found) (rest : List Found)
    → cond passed (cond first rest (one ∷ rest)) (cond first rest (one ∷ rest) ++ found ∷ []) ≡ cond first (cond passed rest (rest ++ found ∷ [])) (one ∷ cond passed rest (rest ++ found ∷ []))
behind true true one found rest = refl
behind true false one found rest = refl
behind false true one found rest = refl
behind false false one found rest = refl

-- one entry more of a directory
pub files_more : (I : List (List ℕ)) (L : VolumeLayout) (d : Directory) (entries : List Listed) (files new : List Found) (e : Listed) (found : Found) → AreFilesOf I L d entries files → IsEntryOf I L d e found
    → new ≡ cond (is_passed_over found.facts) files (files ++ found ∷ []) → AreFilesOf I L d (entries ++ e ∷ []) new
files_more I L d [] files new e found none is now = (found, [], is, now ∙ ap (λ fs. cond (is_passed_over found.facts) fs (fs ++ found ∷ [])) none, refl)
files_more I L d (x ∷ entries) files new e found (one, rest, at, order, others) is now =
    let passed = is_passed_over found.facts in
    let next : List Found = cond passed rest (rest ++ found ∷ []) in
    (one, next, at, now ∙ ap (λ fs. cond passed fs (fs ++ found ∷ [])) order ∙ behind passed (is_passed_over one.facts) one found rest, files_more I L d entries rest next e found others is refl)

-- where no closed directory is met, or none is closed, what is found is found past none
pub past_none : (user : Option Uic) (met : List Directory) (closed : List ℕ) (s : Status) → IsClosedStatus user met s → s ≡ status.Done → (user ≡ None → closed ≡ []) → CountAsClosed closed met []
past_none None met closed s is done none = inl (sym (none refl))
past_none (Some who) [] closed s is done none = inr (refl, refl)
past_none (Some who) (first ∷ others) closed s is done none = let wrong : status.Refused ≡ status.Done = sym is ∙ done in absurd (cc)

-- no directory is closed where no user is said
pub none_closed : (I : List (List ℕ)) (L : VolumeLayout) (user : Option Uic) (closed : List ℕ) → AreClosedTo I L user closed → user ≡ None → closed ≡ []
none_closed I L None closed none same = none
none_closed I L (Some who) closed are same = let wrong : Some who ≡ None = same in absurd (cc)

-- no directory is meant, and one is
pub no_depth : (starts : List Directory) → length starts < 1 → IsDepthOf starts 0
no_depth [] none = refl
no_depth (one ∷ more) none = absurd (omega (arith, none))

pub depth_one : (starts : List Directory) (one default : Directory) (depth : ℕ) → 1 ≤ length starts → length starts < 2 → one ≡ get_or starts 0 default → depth ≡ vec_len one.names → IsDepthOf starts depth
depth_one [] one default depth some few is count = absurd (omega (arith, some))
depth_one (first ∷ []) one default depth some few is count = count ∙ ap (λ (d : Directory). vec_len d.names) is
depth_one (first ∷ other ∷ more) one default depth some few is count = absurd (omega (arith, few))
