-- The order of a listing is total, and only equal lines are equal in it.
use Rattle.std.proofs.Common.{◌≡◌, refl, sym}
use Rattle.std.specs.Ordering.{nat_cmp, ordering_then}
use Rattle.std.specs.declared.cmp.Ordering.{Ordering}
use Rattle.std.specs.declared.cmp.Ordering.TheVariants.{Less, Equal, Greater}
use Rattle.std.specs.Cmp.{IsTotalOrder}
use Rattle.std.specs.Cmp.Lexicographic.{slice_cmp}
use Rattle.std.specs.FinMap.{nat_cmp-IsAntisymmetric, slice_cmp-IsAntisymmetric}
use Rattle.std.proofs.lemmas.Cmp.{then_total, on_total, back_total, nat_cmp_total, nat_list_cmp_total}
use Rattle.ods_paths.specs.Order.{Line, listing_cmp}

pub listing_total : IsTotalOrder listing_cmp
listing_total =
    then_total (on_total (λ (l : Line). l.name) nat_list_cmp_total)
    (then_total (on_total (λ (l : Line). l.kind) nat_list_cmp_total) (back_total (on_total (λ (l : Line). l.version) nat_cmp_total)))

-- both are equal where one after the other is
both_equal : (o p : Ordering) → ordering_then o p ≡ Equal → (o ≡ Equal) × (p ≡ Equal)
both_equal Less p e = absurd (cc)
both_equal Equal p e = (refl, e)
both_equal Greater p e = absurd (cc)

pub listing_equal : (a b : Line) → listing_cmp a b ≡ Equal → a ≡ b
listing_equal a b e =
    let names = both_equal (slice_cmp nat_cmp a.name b.name) (ordering_then (slice_cmp nat_cmp a.kind b.kind) (nat_cmp b.version a.version)) e in
    let kinds = both_equal (slice_cmp nat_cmp a.kind b.kind) (nat_cmp b.version a.version) names.1 in
    let name : a.name ≡ b.name = slice_cmp-IsAntisymmetric nat_cmp-IsAntisymmetric a.name b.name names.0 in
    let kind : a.kind ≡ b.kind = slice_cmp-IsAntisymmetric nat_cmp-IsAntisymmetric a.kind b.kind kinds.0 in
    let version : a.version ≡ b.version = sym (nat_cmp-IsAntisymmetric b.version a.version kinds.1) in
    λ i. record { name = name i; kind = kind i; version = version i }
