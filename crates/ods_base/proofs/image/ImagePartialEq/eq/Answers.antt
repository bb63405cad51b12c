use Rattle.std.proofs.Common.{◌≡◌, ◌≢◌, ℕ, Bool, true, false, List, nat_eq, sym, refl}
use Rattle.std.specs.Prelude.{MatchBool}
use Rattle.std.specs.Cmp.Lexicographic.{pointwise, pointwise_decides, bytes_decides}
use Rattle.ods_base.proofs.image.ImagePartialEq.eq.Goals as goal

-- the test of two images tells whether they are equal
told : (I J : List (List ℕ)) (r : Bool) → MatchBool r (I ≡ J) (I ≢ J) → r ≡ pointwise (pointwise nat_eq) I J
told I J true same = sym ((pointwise_decides bytes_decides I J).1 same)
told I J false other = go (pointwise (pointwise nat_eq) I J) (λ e. other ((pointwise_decides bytes_decides I J).0 e))
  where
    go : (t : Bool) → (t ≡ true → ⊥) → false ≡ t
    go true never = absurd (never refl)
    go false never = refl

pub returns : goal.returns
returns c = told c.args.self.now c.args.other.now c.same_blocks.result c.same_blocks.ensures
