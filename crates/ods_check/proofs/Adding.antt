-- Lists to which what is found is added.
use Rattle.std.proofs.Common.{Bool, true, false, cond, ◌⊎◌, inl, inr, ◌≡◌, ◌≢◌, ℕ, ◌<◌, arith, length, List, [], ◌∷◌, ◌++◌, refl, sym, ap, ◌∙◌, subst, append_assoc}
use Rattle.std.proofs.lemmas.List.{append-nil}
use Rattle.std.proofs.lemmas.List.Elements.{All-nil, All-cons, All-append, Contains-append_left, Contains-push}
use Rattle.std.specs.List.{All, Contains}
use Rattle.ods_check.specs.Lists.{Adds}

pub adds_none : {X : Type 0} (P : X → Type 0) (xs : List X × ℕ) → Adds P xs xs
adds_none P xs = record { more = []; is = ap (λ l. (l, xs.1)) (sym (append-nil xs.0)); each = All-nil P }

pub adds_one : {X : Type 0} (P : X → Type 0) (old new : List X × ℕ) (x : X) → new ≡ (old.0 ++ x ∷ [], old.1) → P x → Adds P old new
adds_one P old new x is holds = record { more = x ∷ []; is = is; each = All-cons P x [] holds (All-nil P) }

pub adds_more : {X : Type 0} (P : X → Type 0) (xs ys zs : List X × ℕ) → Adds P xs ys → Adds P ys zs → Adds P xs zs
adds_more P xs ys zs a b = record {
  more = a.more ++ b.more;
  is = b.is ∙ ap (λ l. (l.0 ++ b.more, l.1)) a.is ∙ ap (λ l. (l, xs.1)) (append_assoc xs.0 a.more b.more);
  each = All-append P a.more b.more a.each b.each;
}

-- what was told stays told
pub told_still : {X : Type 0} (P : X → Type 0) (old new : List X × ℕ) (x : X) → Adds P old new → Contains old.0 x → Contains new.0 x
told_still P old new x a c = subst (λ l. Contains l x) (sym (ap (λ l. l.0) a.is)) (Contains-append_left old.0 a.more x c)

pub told_one : {X : Type 0} (old new : List X × ℕ) (x : X) → new ≡ (old.0 ++ x ∷ [], old.1) → Contains new.0 x
told_one old new x is = subst (λ l. Contains l x) (sym (ap (λ l. l.0) is)) (Contains-push old.0 x)

-- all that is in a list that began empty was added
pub all_added : {X : Type 0} (P : X → Type 0) (old new : List X × ℕ) → old.0 ≡ [] → Adds P old new → All P new.0
all_added P old new none a = subst (All P) (sym (ap (λ l. l.0) a.is ∙ ap (λ l. l ++ a.more) none)) a.each

-- as many are kept as before
pub adds_most : {X : Type 0} (P : X → Type 0) (old new : List X × ℕ) → Adds P old new → new.1 ≡ old.1
adds_most P old new a = ap (λ l. l.1) a.is

-- where one is told the list is not empty
pub some_told : {X : Type 0} (xs : List X) (x : X) → Contains xs x → xs ≢ []
some_told xs x (k, within, found) none = let size : length xs ≡ 0 = ap length none in omega arith

pub some_within : {X : Type 0} (xs : List X) (i : ℕ) → i < length xs → xs ≢ []
some_within xs i low none = let size : length xs ≡ 0 = ap length none in omega arith

-- a list of more that are so, by another word for it
pub adds_as : {X : Type 0} (P Q : X → Type 0) (old new : List X × ℕ) → ((x : X) → P x → Q x) → Adds P old new → Adds Q old new
adds_as P Q old new imp a = record { more = a.more; is = a.is; each = λ k d low. imp _ (a.each k d low) }

-- what is added where a test holds
pub adds_if : {X : Type 0} (P : X → Type 0) (old new : List X × ℕ) (x : X) (b : Bool) → new ≡ cond b (old.0 ++ x ∷ [], old.1) old → (b ≡ true → P x) → Adds P old new
adds_if P old new x true is p = adds_one P old new x is (p refl)
adds_if P old new x false is p = subst (Adds P old) (sym is) (adds_none P old)

pub told_if : {X : Type 0} (old new : List X × ℕ) (x : X) (b : Bool) → new ≡ cond b (old.0 ++ x ∷ [], old.1) old → b ≡ true → Contains new.0 x
told_if old new x true is e = told_one old new x is
told_if old new x false is e = absurd (cc)

pub adds_either : {X : Type 0} (P : X → Type 0) (old new : List X × ℕ) (x : X) → (new ≡ old) ⊎ (new ≡ (old.0 ++ x ∷ [], old.1)) → P x → Adds P old new
adds_either P old new x (inl same) p = subst (Adds P old) (sym same) (adds_none P old)
adds_either P old new x (inr is) p = adds_one P old new x is p
