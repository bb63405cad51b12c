-- What stands behind the pointers of a header stays, over no change and over two.
use Rattle.std.proofs.Common.{◌≡◌, ℕ, List, refl, ◌∙◌, arith}
use Rattle.ods_header.specs.Pointing.{KeepsRest}

pub rest_still : (b c : List ℕ) → c ≡ b → KeepsRest b c
rest_still b c same = rw (same) record { further = omega arith; behind = λ i from below. refl; none = λ e. (e, refl) }

pub rest_on : (b c d : List ℕ) → KeepsRest b c → KeepsRest c d → KeepsRest b d
rest_on b c d one two =
    let first = one.further in let second = two.further in
    record {
      further = omega arith;
      behind = λ i from below. two.behind i from below ∙ one.behind i (omega arith) below;
      none = λ e. let last = two.none e in ((one.none last.0).0, last.1 ∙ (one.none last.0).1);
    }
