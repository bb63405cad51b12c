-- The highest and the lowest of the first elements of a list, and of one more; and what lies between them.
use Rattle.std.proofs.Common.{◌≡◌, ◌↔◌, ℕ, ◌+◌, ◌<◌, ◌≤◌, List, length, take, get_or, sym, ap, ◌∙◌, arith, subst}
use Rattle.std.specs.Prelude.{max, min}
use Rattle.std.specs.List.{All}
use Rattle.std.proofs.lemmas.List.{get_or-take, get_or_default, length-take}
use Rattle.std.proofs.lemmas.List.Elements.{All-more}
use Rattle.ods_paths.specs.declared.versions.Versions.TheVariants.{Highest, Lowest, Every}
use Rattle.ods_paths.specs.Picked.{AreFromTo}

pub all_more : (P : ℕ → Type 0) (xs : List ℕ) (i : ℕ) → i < length xs → All P (take (i + 1) xs) ↔ (All P (take i xs) × P (get_or xs i 0))
all_more P xs i small = (
  λ all. (
    λ k d h.
        let less : k < i = omega (arith, h, length-take i xs) in
        let same : get_or (take (i + 1) xs) k d ≡ get_or (take i xs) k d = get_or-take (i + 1) xs k d (omega arith) ∙ sym (get_or-take i xs k d less) in
        subst P same (all k d (omega (arith, length-take (i + 1) xs))),
    subst P (get_or-take (i + 1) xs i 0 (omega arith)) (all i 0 (omega (arith, length-take (i + 1) xs))),
  ),
  λ p. All-more P xs i 0 small p.0 p.1,
)

pub more_highest : (xs : List ℕ) (i most new : ℕ) → i < length xs → new ≡ max most (get_or xs i 0) → ((v : ℕ) → (most ≤ v) ↔ All (λ w. w ≤ v) (take i xs)) → (v : ℕ) → (new ≤ v) ↔ All (λ w. w ≤ v) (take (i + 1) xs)
more_highest xs i most new small e so_far v =
    let both = all_more (λ w. w ≤ v) xs i small in (
      λ h. let before : most ≤ v = omega (arith, h, e) in let here : get_or xs i 0 ≤ v = omega (arith, h, e) in both.1 ((so_far v).0 before, here),
      λ all. let p = both.0 all in let before : most ≤ v = (so_far v).1 p.0 in let here : get_or xs i 0 ≤ v = p.1 in omega (arith, e, before, here),
    )

pub more_lowest : (xs : List ℕ) (i least new : ℕ) → i < length xs → new ≡ min least (get_or xs i 0) → ((v : ℕ) → v ≤ 65535 → ((v ≤ least) ↔ All (λ w. v ≤ w) (take i xs))) → (v : ℕ) → v ≤ 65535 → ((v ≤ new) ↔ All (λ w. v ≤ w) (take (i + 1) xs))
more_lowest xs i least new small e so_far v fits =
    let both = all_more (λ w. v ≤ w) xs i small in (
      λ h. let before : v ≤ least = omega (arith, h, e) in let here : v ≤ get_or xs i 0 = omega (arith, h, e) in both.1 ((so_far v fits).0 before, here),
      λ all. let p = both.0 all in let before : v ≤ least = (so_far v fits).1 p.0 in let here : v ≤ get_or xs i 0 = p.1 in omega (arith, e, before, here),
    )

pub highest_picked : (vs : List ℕ) (m : ℕ) → ((v : ℕ) → (m ≤ v) ↔ All (λ w. w ≤ v) vs) → AreFromTo Highest vs m m
highest_picked vs m is k d h = (
  λ p. (is (get_or vs k d)).0 p.0,
  λ all. ((is (get_or vs k d)).1 all, (is m).0 (omega arith) k d h),
)

pub lowest_picked : (vs : List ℕ) (m : ℕ) → m ≤ 65535 → All (λ v. v ≤ 65535) vs → ((v : ℕ) → v ≤ 65535 → ((v ≤ m) ↔ All (λ w. v ≤ w) vs)) → AreFromTo Lowest vs m m
lowest_picked vs m small fit is k d h = (
  λ p. (is (get_or vs k d) (fit k d h)).0 p.1,
  λ all. ((is m small).0 (omega arith) k d h, (is (get_or vs k d) (fit k d h)).1 all),
)

pub every_picked : (vs : List ℕ) → All (λ v. v ≤ 65535) vs → AreFromTo Every vs 0 65535
every_picked vs fit k d h = (λ p. tt, λ _. (omega arith, fit k d h))
