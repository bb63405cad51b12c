-- Outputs, part by part, as they grow.
use Rattle.std.proofs.Common.{◌≡◌, ◌≢◌, ◌∙◌, ◌+◌, ◌<◌, ◌≤◌, ℕ, refl, sym, ap, subst, List, [], ◌∷◌, ◌++◌, length, take, get_or, Option, Result, Ok, Err}
use Rattle.std.specs.Prelude.{IfOk}
use Rattle.std.specs.Io.KnownBytes.{Appends}
use Rattle.std.specs.List.{All, flat_map}
use Rattle.std.proofs.KnownBytes.{Appends-nil, Appends-trans}
use Rattle.std.proofs.lemmas.Grind.{flat_map-append}
use Rattle.std.proofs.lemmas.List.{append_assoc, append-nil, take_all, take_more}
use Rattle.std.proofs.lemmas.List.Elements.{All-cons, All-nil}
use Rattle.ods_shell.specs.declared.status.Status.{Status}
use Rattle.ods_shell.specs.declared.status.Status.TheVariants as status
use Rattle.fs_reads.proofs.FilesGot.{both_done}
use Rattle.fs_reads.specs.Parts.{HaveParts, HoldsParts}

-- the parts of one more stand behind those of the others
have_more : {X M : Type 0} (Has : X → List M → Type 0) (xs : List X) (x : X) (front back : List M) → HaveParts Has xs front → Has x back → HaveParts Has (xs ++ x ∷ []) (front ++ back)
have_more Has [] x front back none has = (back, [], ap (λ l. l ++ back) none ∙ sym (append-nil back), has, refl)
have_more Has (y ∷ xs) x front back have has = (have.0, have.1 ++ back, ap (λ l. l ++ back) have.2 ∙ append_assoc have.0 have.1 back, have.3, have_more Has xs x have.1 back have.4 has)

-- what holds of each that has parts
pub have_each : {X M : Type 0} (Has : X → List M → Type 0) (P : X → Type 0) (xs : List X) (parts : List M) → ((x : X) (some : List M) → Has x some → P x) → HaveParts Has xs parts → All P xs
have_each Has P [] parts each have = All-nil P
have_each Has P (x ∷ xs) parts each have = All-cons P x xs (each x have.0 have.3) (have_each Has P xs have.1 each have.4)

module _ {X M : Type 0} (text : M → List ℕ) (Has : X → List M → Type 0) (xs : List X) where
  -- a writer took nothing yet
  pub none_held : (old : Option (List ℕ)) → HoldsParts text old old status.Done (HaveParts Has (take 0 xs))
  none_held old = ([], Appends-nil old, λ e. refl)

  -- it took the parts of some, and then those of the next
  pub held_next : (i : ℕ) (x : X) (old mid new : Option (List ℕ)) (one later s : Status) → i < length xs → (one ≡ status.Done → s ≡ later) → (¬ (one ≡ status.Done) → s ≡ one)
      → HoldsParts text old mid one (HaveParts Has (take i xs)) → HoldsParts text mid new later (Has (get_or xs i x)) → HoldsParts text old new s (HaveParts Has (take (i + 1) xs))
  held_next i x old mid new one later s low d f before after = (
    before.0 ++ after.0,
    subst (Appends old new) (sym (flat_map-append text before.0 after.0)) (Appends-trans old mid new (flat_map text before.0) (flat_map text after.0) before.1 after.1),
    λ e.
        let done = both_done one later s d f e in
        subst (λ l. HaveParts Has l (before.0 ++ after.0)) (sym (take_more xs i x low)) (have_more Has (take i xs) (get_or xs i x) before.0 after.0 (before.2 done.0) (after.2 done.1)),
  )

  -- it took those of all
  pub held_all : (i : ℕ) (old new : Option (List ℕ)) (s : Status) → length xs ≤ i → HoldsParts text old new s (HaveParts Has (take i xs)) → HoldsParts text old new s (HaveParts Has xs)
  held_all i old new s past held = subst (λ l. HoldsParts text old new s (HaveParts Has l)) (take_all i xs past) held

-- a writer took nothing, since something is wrong
nothing_held : {M : Type 0} (text : M → List ℕ) (old : Option (List ℕ)) (s fault : Status) (Are : List M → Type 0) → s ≡ fault → fault ≢ status.Done → HoldsParts text old old s Are
nothing_held text old s fault Are is apart = ([], Appends-nil old, λ e. absurd (apart (sym is ∙ e)))

pub nothing_of : {E M : Type 0} (text : M → List ℕ) (Q : Status → Type 0) (r : Result Status E) (old : Option (List ℕ)) (Are : List M → Type 0) → IfOk r (λ s. (s ≡ status.Refused) × Q s) → IfOk r (λ s. HoldsParts text old old s Are)
nothing_of text Q (Ok s) old Are refused = nothing_held text old s status.Refused Are refused.0 (λ same. cc)
nothing_of text Q (Err e) old Are refused = tt
