-- Lines about something.
use Rattle.std.proofs.Common.{◌≡◌, ◌∙◌, ap, append_assoc, cond, ℕ, List, [], ◌∷◌, ◌++◌, Option, Some, None}
use Rattle.std.specs.Prelude.{IfSome, OnOk, Result, Ok, Err}
use Rattle.std.specs.Result.{is_ok}
use Rattle.std.specs.Fmt.{◌++?◌}

-- a line is what stands before the colon, and what is said where that is known
pub said_line : (said : Option (List ℕ)) (front line : List ℕ) → IfSome (Some front ++? (Some (58 ∷ 32 ∷ []) ++? said)) (λ bytes. line ≡ bytes) → IfSome said (λ bytes. line ≡ front ++ (58 ∷ 32 ∷ bytes))
said_line None front line e = tt
said_line (Some bytes) front line e = e

-- three parts that are appended one after another
pub three_parts : {T E : Type 0} (r : Result T E) (old front middle back a b new : List ℕ) → a ≡ old ++ front → b ≡ a ++ middle → new ≡ cond (is_ok r) (b ++ back) b → OnOk r (new ≡ old ++ (front ++ (middle ++ back)))
three_parts (Ok x) old front middle back a b new p q e =
    let here : b ≡ old ++ (front ++ middle) = q ∙ ap (λ l. l ++ middle) p ∙ append_assoc old front middle in
    e ∙ ap (λ l. l ++ back) here ∙ append_assoc old (front ++ middle) back ∙ ap (λ l. old ++ l) (append_assoc front middle back)
three_parts (Err why) old front middle back a b new p q e = tt
