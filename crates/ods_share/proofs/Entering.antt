-- The entries of a session, from a place of the list on.
use Rattle.std.proofs.Common.{◌≡◌, ◌≢◌, refl, ◌↔◌, ℕ, ◌+◌, ◌<◌, ◌≤◌, List, [], ◌∷◌, ◌∙◌, ap, sym, IsTrue, false, drop, length, slice_index_or, arith}
use Rattle.std.proofs.lemmas.List.{drop_more}
use Rattle.ods_request.specs.declared.answers.Entry.{Entry}
use Rattle.ods_ask.specs.declared.outcome.Call.{Call}
use Rattle.ods_share.specs.Settles.{call_in, calls_of}

-- a list with a place in it has an element
one : (xs : List Entry) (i : ℕ) → i < length xs → Entry
one [] i small = absurd (omega (arith, small))
one (x ∷ xs) i small = x

-- no calls are none
empty : (calls : List Call) → length calls ≡ 0 → calls ≡ []
empty [] few = refl
empty (call ∷ calls) few = absurd (omega (arith, few))

is_taken : (session : ℕ) (e : Entry) (rest : List Entry) → e.session ≡ session → calls_of session (e ∷ rest) ≡ call_in e ∷ calls_of session rest
is_taken session e rest is = grind arith

is_passed : (session : ℕ) (e : Entry) (rest : List Entry) → e.session ≢ session → calls_of session (e ∷ rest) ≡ calls_of session rest
is_passed session e rest other = grind arith

module _ (session : ℕ) (xs : List Entry) (i : ℕ) (small : i < length xs) (s : ℕ) (told : (e : Entry) → s ≡ (slice_index_or xs i e).session) where
  abbrev here : Entry
  here = slice_index_or xs i (one xs i small)

  taken : s ≡ session → calls_of session (drop i xs) ≡ call_in here ∷ calls_of session (drop (i + 1) xs)
  taken is = ap (calls_of session) (drop_more xs i (one xs i small) small) ∙ is_taken session here (drop (i + 1) xs) (sym (told (one xs i small)) ∙ is)

  passed : s ≢ session → calls_of session (drop i xs) ≡ calls_of session (drop (i + 1) xs)
  passed other = ap (calls_of session) (drop_more xs i (one xs i small) small) ∙ is_passed session here (drop (i + 1) xs) (λ e. other (told (one xs i small) ∙ e))

  module _ (P : Type 0) (calls : List Call) (from_here : (calls ≡ calls_of session (drop i xs)) ↔ P) where
    -- an entry for which there is no call
    pub no_call : length calls ≡ 0 → s ≡ session → (IsTrue false → P) × (P → IsTrue false)
    no_call none is = (λ h. absurd (cc), λ p. let wrong : [] ≡ call_in here ∷ calls_of session (drop (i + 1) xs) = sym (empty calls none) ∙ (from_here.1 p ∙ taken is) in absurd (cc))

    -- an entry for which there is another call
    pub other_call : (call : Call) (others : List Call) → calls ≡ call ∷ others → ((e : Entry) → call ≢ call_in (slice_index_or xs i e)) → s ≡ session → (IsTrue false → P) × (P → IsTrue false)
    other_call call others some other is =
        (λ h. absurd (cc), λ p. let same : call ∷ others ≡ call_in here ∷ calls_of session (drop (i + 1) xs) = sym some ∙ (from_here.1 p ∙ taken is) in let first : call ≡ call_in here = cc in absurd (other (one xs i small) first))

    -- an entry with its call
    pub its_call : (call : Call) (others now : List Call) → calls ≡ call ∷ others → now ≡ others → ((e : Entry) → call ≡ call_in (slice_index_or xs i e)) → s ≡ session
        → (now ≡ calls_of session (drop (i + 1) xs)) ↔ P
    its_call call others now some left same is = (
      λ h. from_here.0 (some ∙ ((λ k. same (one xs i small) k ∷ (sym left ∙ h) k) ∙ sym (taken is))),
      λ p. let all : call ∷ others ≡ call_in here ∷ calls_of session (drop (i + 1) xs) = sym some ∙ (from_here.1 p ∙ taken is) in let rest : others ≡ calls_of session (drop (i + 1) xs) = cc in left ∙ rest,
    )

    -- an entry of another session
    pub none_of_it : (now : List Call) → now ≡ calls → s ≢ session → (now ≡ calls_of session (drop (i + 1) xs)) ↔ P
    none_of_it now same other = (
      λ h. from_here.0 (sym same ∙ (h ∙ sym (passed other))),
      λ p. same ∙ (from_here.1 p ∙ passed other),
    )

-- an entry of no session
pub out_of_range : (sessions : ℕ) (xs : List Entry) (i s : ℕ) → i < length xs → ((e : Entry) → s ≡ (slice_index_or xs i e).session) → ¬ ((1 ≤ s) × (s ≤ sessions))
    → ((k : ℕ) (d : Entry) → k < length xs → (1 ≤ (slice_index_or xs k d).session) × ((slice_index_or xs k d).session ≤ sessions)) → ⊥
out_of_range sessions xs i s small told outside all =
    let d = one xs i small in
    let within = all i d small in
    outside (omega (arith, told d, within.0), omega (arith, told d, within.1))
