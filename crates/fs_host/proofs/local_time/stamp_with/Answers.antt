-- The characters, with the three letters of the month in their midst.
use Rattle.std.specs.Prelude.{◌≡◌, ℕ, ◌+◌, ◌/◌, ◌%◌, Option, Some, None, IfSome, List, [], ◌∷◌, ◌++◌, length}
use Rattle.std.specs.Option.{SomeIff}
use Rattle.std.proofs.Common.{refl, ap, ◌∙◌, arith, get_or}
use Rattle.fs_host.specs.Times.{two_digits}
use Rattle.fs_host.proofs.local_time.stamp_with.Goals as goal

-- three bytes before others
triple_before : (part rest : List ℕ) → length part ≡ 3 → get_or part 0 0 ∷ get_or part 1 0 ∷ get_or part 2 0 ∷ rest ≡ part ++ rest
triple_before [] rest three = absurd (omega (arith, three))
triple_before (a ∷ []) rest three = absurd (omega (arith, three))
triple_before (a ∷ b ∷ []) rest three = absurd (omega (arith, three))
triple_before (a ∷ b ∷ c ∷ []) rest three = refl
triple_before (a ∷ b ∷ c ∷ d ∷ more) rest three = absurd (omega (arith, three))

-- a value that is there exactly where a fact holds, by another name
by_name : (r : Option (List ℕ)) (P : Type 0) (text whole : List ℕ) → SomeIff r P text → text ≡ whole → IfSome r (λ s. s ≡ whole)
by_name None P text whole h e = tt
by_name (Some s) P text whole h e = h.1 ∙ e

pub returns : goal.returns
returns c =
    let rest = two_digits c.args.year ++ (two_digits c.args.hour ++ (two_digits c.args.minute ++ two_digits c.args.second)) in
    by_name c.parse.result _ _ _ c.parse.ensures (ap (λ l. (48 + c.args.day / 10 % 10) ∷ (48 + c.args.day % 10) ∷ l) (triple_before c.args.month.now rest (omega arith)))
