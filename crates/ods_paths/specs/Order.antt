-- The order of a listing.
use Rattle.std.specs.Prelude.{◌≡◌, ℕ, List}
use Rattle.std.specs.Ordering.{nat_cmp, ordering_then}
use Rattle.std.specs.declared.cmp.Ordering.{Ordering}
use Rattle.std.specs.declared.cmp.Ordering.TheVariants.{Equal}
use Rattle.std.specs.Cmp.Lexicographic.{slice_cmp}
use Rattle.std.specs.Cmp.{IsTotalOrder}

-- the key of a listing: the texts of a name and of its type, and the version
pub record Line : Type 0 where
  pub name : List ℕ
  pub kind : List ℕ
  pub version : ℕ

-- by name, then by type, each compared as bytes of its text; then by version, in descending order
abbrev pub listing_cmp : Line → Line → Ordering
listing_cmp a b = ordering_then (slice_cmp nat_cmp a.name b.name) (ordering_then (slice_cmp nat_cmp a.kind b.kind) (nat_cmp b.version a.version))

-- Any two lines are in order one way or the other, and only equal lines are in order both ways. So a listing has one order.
pub record IsListingOrder : Type 0 where
  pub total : IsTotalOrder listing_cmp
  pub equal : (a b : Line) → listing_cmp a b ≡ Equal → a ≡ b
