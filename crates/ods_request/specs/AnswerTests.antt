-- The tests of equality, from names and file IDs up to answers. Each test decides whether two values are equal.
use Rattle.std.proofs.Common.{◌≡◌, ◌∙◌, refl, sym, Bool, true, false, List, ◌⊎◌, inl, inr, arith}
use lib.Pointwise.{pointwise, pointwise_decides, bytes_decides}
use Rattle.ods_base.specs.declared.listed.Listed.{Listed}
use Rattle.ods_request.specs.Equal.{same_bytes, same_id, same_user, same_name, same_line, same_kind, same_stat, same_answer}

-- two values are equal, or they fail the test
abbrev pub Tells : {A : Type 0} → (A → A → Bool) → Type 0
Tells {A = A} same = (a b : A) → (same a b ≡ false) ⊎ (a ≡ b)

-- each value passes the test with itself
abbrev pub Knows : {A : Type 0} → (A → A → Bool) → Type 0
Knows {A = A} same = (a : A) → same a a ≡ true

tells : {A : Type 0} (same : A → A → Bool) → ((a b : A) → same a b ≡ true → a ≡ b) → Tells same
tells same equal a b = by (same a b) refl
  where
    by : (t : Bool) → same a b ≡ t → (same a b ≡ false) ⊎ (a ≡ b)
    by true e = inr (equal a b e)
    by false e = inl e

-- two values that pass the test are equal
pub equal_by : {A : Type 0} (same : A → A → Bool) → Tells same → (a b : A) → same a b ≡ true → a ≡ b
equal_by same told a b h = elim (told a b) [ inl e ↦ absurd (let g : true ≡ false = sym h ∙ e in cc) | inr e ↦ e ]

pub tells_bytes : Tells same_bytes
tells_bytes = tells same_bytes (λ a b. (bytes_decides a b).0)

pub knows_bytes : Knows same_bytes
knows_bytes b = (bytes_decides b b).1 refl

pub tells_id : Tells same_id
tells_id a b = grind arith

pub knows_id : Knows same_id
knows_id a = grind arith

pub tells_name : Tells same_name
tells_name a b = grind (arith, tells_bytes)

pub knows_name : Knows same_name
knows_name a = grind (arith, knows_bytes)

tells_user : Tells same_user
tells_user a b = grind arith

knows_user : Knows same_user
knows_user a = grind arith

tells_line : Tells same_line
tells_line a b = grind (arith, tells_name, tells_id)

knows_line : Knows same_line
knows_line a = grind (arith, knows_name, knows_id)

lines_decide : (xs ys : List Listed) → (pointwise same_line xs ys ≡ true → xs ≡ ys) × (xs ≡ ys → pointwise same_line xs ys ≡ true)
lines_decide = pointwise_decides (λ a b. (equal_by same_line tells_line a b, λ e. rw (← e) (knows_line a)))

tells_lines : Tells (pointwise same_line)
tells_lines = tells (pointwise same_line) (λ a b. (lines_decide a b).0)

knows_lines : Knows (pointwise same_line)
knows_lines a = (lines_decide a a).1 refl

tells_kind : Tells same_kind
tells_kind a b = grind (arith, tells_bytes)

knows_kind : Knows same_kind
knows_kind a = grind (arith, knows_bytes)

tells_stat : Tells same_stat
tells_stat a b = grind (arith, tells_id, tells_bytes, tells_user, tells_kind)

knows_stat : Knows same_stat
knows_stat a = grind (arith, knows_id, knows_bytes, knows_user, knows_kind)

pub tells_answer : Tells same_answer
tells_answer a b = grind (arith, tells_id, tells_bytes, tells_lines, tells_stat)

pub knows_answer : Knows same_answer
knows_answer a = grind (arith, knows_id, knows_bytes, knows_lines, knows_stat)
