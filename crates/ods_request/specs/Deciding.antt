-- Why a test that decides equality is a lawful `==`, for the tests of two requests and of two answers.
use Rattle.std.specs.Prelude.{◌≡◌, Bool, true, false, refl}
use Rattle.std.proofs.Common.{sym, ◌∙◌}
use Rattle.std.specs.Cmp.{IsEquivalence, IsPartialEquivalence, partial_equiv_from_equiv}
use Rattle.ods_request.specs.Equal.{same_request, same_answer}
use Rattle.ods_request.specs.RequestTests.{requests_decide, answers_decide}

-- two tests that pass for the same values are equal
pub alike : (a b : Bool) → (a ≡ true → b ≡ true) → (b ≡ true → a ≡ true) → a ≡ b
alike true b there back = sym (there refl)
alike false true there back = back refl
alike false false there back = refl

-- the test passes exactly for equal values
abbrev pub Decides : {A : Type 0} → (A → A → Bool) → Type 0
Decides {A} same = (a b : A) → (same a b ≡ true → a ≡ b) × (a ≡ b → same a b ≡ true)

pub deciding : {A : Type 0} (same : A → A → Bool) → Decides same → IsEquivalence same
deciding {A} same decides = record {
  refl = λ a. passed a a refl;
  symm = λ a b. alike (same a b) (same b a) (λ h. passed b a (sym (equal a b h))) (λ h. passed a b (sym (equal b a h)));
  congr = λ a b c h. alike (same a c) (same b c) (λ g. passed b c (sym (equal a b h) ∙ equal a c g)) (λ g. passed a c (equal a b h ∙ equal b c g));
}
  where
    equal : (a b : A) → same a b ≡ true → a ≡ b
    equal a b = (decides a b).0

    passed : (a b : A) → a ≡ b → same a b ≡ true
    passed a b = (decides a b).1

pub requests_equivalence : IsEquivalence same_request
requests_equivalence = deciding same_request requests_decide

pub requests_partial_equivalence : IsPartialEquivalence same_request
requests_partial_equivalence = partial_equiv_from_equiv requests_equivalence

pub answers_equivalence : IsEquivalence same_answer
answers_equivalence = deciding same_answer answers_decide

pub answers_partial_equivalence : IsPartialEquivalence same_answer
answers_partial_equivalence = partial_equiv_from_equiv answers_equivalence
