-- The versions that texts choose.
use Rattle.std.proofs.Common.{◌≡◌, ◌≢◌, ℕ, ◌<◌, ◌≤◌, List, [], ◌∷◌, get_or, length, Option, Some, None, refl, sym, ap, ◌∙◌, subst, arith}
use Rattle.std.specs.Prelude.{codes}
use Rattle.std.specs.List.{position_or_len, after_first}
use Rattle.ods_paths.specs.declared.versions.Versions.{Versions}
use Rattle.ods_paths.specs.declared.versions.Versions.TheVariants.{Exact, Highest, Lowest, Every}
use Rattle.ods_text.specs.Numbers.{IsSmallNumber}
use Rattle.ods_text.specs.One.{IsTheOne}
use Rattle.ods_paths.specs.Numbers.{IsVersion, IsExact}
use Rattle.ods_paths.specs.Paths.{IsVersions, begins_version}
use Rattle.ods_text.proofs.Numerals.{one_number, zero_only, number_begins, wide}

-- a text begins with one byte
clash : {A : Type 0} (text : List ℕ) (a b : ℕ) (xs ys : List ℕ) → text ≡ a ∷ xs → text ≡ b ∷ ys → a < b → A
clash text a b xs ys p q less = let e : a ≡ b = cc in absurd (omega (arith, e, less))

-- a version is not 0
none_below : {A : Type 0} (text : List ℕ) (n : ℕ) → text ≡ codes "0" → IsSmallNumber text n → 1 ≤ n → A
none_below text n e p low = absurd (omega (arith, zero_only text n e (wide _ _ p), low))

only_highest : (text : List ℕ) → text ≡ codes "0" → (y : Versions) → IsVersion text y → y ≡ Highest
only_highest text e Highest p = refl
only_highest text e Lowest p = clash text 45 48 (49 ∷ []) [] p e (omega arith)
only_highest text e Every p = clash text 42 48 [] [] p e (omega arith)
only_highest text e (Exact n) p = none_below text n e p.0 p.1

pub highest_version : (text : List ℕ) → text ≡ codes "0" → IsTheOne (IsVersion text) (Some Highest)
highest_version text e = (e, only_highest text e)

-- a text that begins otherwise is no number
no_number : (text : List ℕ) (n : ℕ) → text ≢ codes "0" → get_or text 0 0 < 49 → IsSmallNumber text n → ⊥
no_number text n ne low p = let begins = number_begins text n (wide _ _ p) ne in absurd (omega (arith, begins.1, low))

only_lowest : (text : List ℕ) → text ≢ codes "0" → text ≡ codes "-1" → (y : Versions) → IsVersion text y → y ≡ Lowest
only_lowest text ne e Highest p = absurd (ne p)
only_lowest text ne e Lowest p = refl
only_lowest text ne e Every p = clash text 42 45 [] (49 ∷ []) p e (omega arith)
only_lowest text ne e (Exact n) p = absurd (no_number text n ne (let first : get_or text 0 0 ≡ 45 = ap (λ l. get_or l 0 0) e in omega (arith, first)) p.0)

pub lowest_version : (text : List ℕ) → text ≢ codes "0" → text ≡ codes "-1" → IsTheOne (IsVersion text) (Some Lowest)
lowest_version text ne e = (e, only_lowest text ne e)

only_every : (text : List ℕ) → text ≢ codes "0" → text ≢ codes "-1" → text ≡ codes "*" → (y : Versions) → IsVersion text y → y ≡ Every
only_every text ne other e Highest p = absurd (ne p)
only_every text ne other e Lowest p = absurd (other p)
only_every text ne other e Every p = refl
only_every text ne other e (Exact n) p = absurd (no_number text n ne (let first : get_or text 0 0 ≡ 42 = ap (λ l. get_or l 0 0) e in omega (arith, first)) p.0)

pub every_version : (text : List ℕ) → text ≢ codes "0" → text ≢ codes "-1" → text ≡ codes "*" → IsTheOne (IsVersion text) (Some Every)
every_version text ne other e = (e, only_every text ne other e)

is_exact : (text : List ℕ) → text ≢ codes "0" → text ≢ codes "-1" → text ≢ codes "*" → (y : Versions) → IsVersion text y → IsExact text y
is_exact text ne other star Highest p = absurd (ne p)
is_exact text ne other star Lowest p = absurd (other p)
is_exact text ne other star Every p = absurd (star p)
is_exact text ne other star (Exact n) p = (n, refl, p.0, p.1, p.2)

-- any other text chooses the version that it gives
pub given_version : (text : List ℕ) (o : Option Versions) → text ≢ codes "0" → text ≢ codes "-1" → text ≢ codes "*" → IsTheOne (IsExact text) o → IsTheOne (IsVersion text) o
given_version text None ne other star none = λ y p. none y (is_exact text ne other star y p)
given_version text (Some v) ne other star one =
    let x = one.0 in (
      subst (IsVersion text) (sym x.1) (let exact : IsVersion text (Exact x.0) = (x.2, x.3, x.4) in exact),
      λ y p. one.1 y (is_exact text ne other star y p),
    )

pub no_exact : (text : List ℕ) → IsTheOne (IsSmallNumber text) None → IsTheOne (IsExact text) None
no_exact text none = λ y p. none p.0 p.2

pub the_exact : (text : List ℕ) (n : ℕ) → IsTheOne (IsSmallNumber text) (Some n) → 1 ≤ n → n ≤ 32767 → IsTheOne (IsExact text) (Some (Exact n))
the_exact text n one low high = ((n, refl, one.0, low, high), λ y p. p.1 ∙ ap Exact (one.1 p.0 p.2))

only_none : (text : List ℕ) → position_or_len begins_version text ≡ length text → (y : Option Versions) → IsVersions text y → y ≡ None
only_none text e None p = refl
only_none text e (Some v) p = absurd (omega (arith, e, p.0))

-- no version is said
pub none_said : (text : List ℕ) → position_or_len begins_version text ≡ length text → IsTheOne (IsVersions text) (Some None)
none_said text e = (e, only_none text e)

only_some : (text behind : List ℕ) (v : Versions) → position_or_len begins_version text < length text → behind ≡ after_first begins_version text → IsTheOne (IsVersion behind) (Some v) → (y : Option Versions) → IsVersions text y → y ≡ Some v
only_some text behind v less e one None p = absurd (omega (arith, less, p))
only_some text behind v less e one (Some w) p = ap Some (one.1 w (subst (λ (t : List ℕ). IsVersion t w) (sym e) p.1))

pub some_said : (text behind : List ℕ) (v : Versions) → position_or_len begins_version text < length text → behind ≡ after_first begins_version text → IsTheOne (IsVersion behind) (Some v) → IsTheOne (IsVersions text) (Some (Some v))
some_said text behind v less e one = ((less, subst (λ (t : List ℕ). IsVersion t v) e one.0), only_some text behind v less e one)

pub bad_said : (text behind : List ℕ) → position_or_len begins_version text < length text → behind ≡ after_first begins_version text → IsTheOne (IsVersion behind) None → (y : Option Versions) → IsVersions text y → ⊥
bad_said text behind less e none None p = absurd (omega (arith, less, p))
bad_said text behind less e none (Some w) p = none w (subst (λ (t : List ℕ). IsVersion t w) (sym e) p.1)

-- a text chooses one version
pub same_version : (text : List ℕ) (u v : Versions) → IsVersion text u → IsVersion text v → u ≡ v
same_version text Highest v p q = sym (only_highest text p v q)
same_version text Lowest v p q = sym (only_lowest text (λ e. clash text 45 48 (49 ∷ []) [] p e (omega arith)) p v q)
same_version text Every v p q = sym (only_every text (λ e. clash text 42 48 [] [] p e (omega arith)) (λ e. clash text 42 45 [] (49 ∷ []) p e (omega arith)) p v q)
same_version text (Exact n) Highest p q = only_highest text q (Exact n) p
same_version text (Exact n) Lowest p q = only_lowest text (λ e. clash text 45 48 (49 ∷ []) [] q e (omega arith)) q (Exact n) p
same_version text (Exact n) Every p q = only_every text (λ e. clash text 42 48 [] [] q e (omega arith)) (λ e. clash text 42 45 [] (49 ∷ []) q e (omega arith)) q (Exact n) p
same_version text (Exact m) (Exact n) p q = ap Exact (one_number text m n (wide _ _ p.0) (wide _ _ q.0))

pub same_versions : (text : List ℕ) (u v : Option Versions) → IsVersions text u → IsVersions text v → u ≡ v
same_versions text None v p q = sym (only_none text p v q)
same_versions text (Some u) None p q = only_none text q (Some u) p
same_versions text (Some u) (Some v) p q = ap Some (same_version (after_first begins_version text) u v p.1 q.1)
