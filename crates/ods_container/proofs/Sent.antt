-- Bytes that are written behind others.
use Rattle.std.proofs.Common.{◌≡◌, ℕ, ◌+◌, ◌≤◌, List, ◌++◌, length, take, Option, sym, ap, ◌∙◌, subst, arith, length-append}
use Rattle.std.proofs.Math.Seq.{take-append-add}
use Rattle.std.proofs.KnownBytes.{Appends-trans}
use Rattle.std.specs.Io.KnownBytes.{Appends}

-- the writer took all of the first bytes, and a first part of those behind them
pub sent_behind : (old mid new : Option (List ℕ)) (xs ys : List ℕ) (n w : ℕ) → n ≡ length xs → Appends old mid xs → w ≤ length ys → Appends mid new (take w ys) →
    (n + w ≤ length (xs ++ ys)) × Appends old new (take (n + w) (xs ++ ys))
sent_behind old mid new xs ys n w size first few more =
    let long = length-append xs ys in
    let P : List ℕ → Type 0 = λ bytes. Appends old new bytes in
    let joined : xs ++ take w ys ≡ take (n + w) (xs ++ ys) = sym (take-append-add xs ys w) ∙ ap (λ m. take (m + w) (xs ++ ys)) (sym size) in
    (omega arith, subst P joined (Appends-trans old mid new xs (take w ys) first more))
