-- What a search for a path says where it finds none.
use Rattle.std.proofs.Common.{◌≡◌, ◌∙◌, sym, ap, ℕ, ◌<◌, ◌≤◌, List, length, string_bytes, slice_index_or, arith, subst, ◌⊎◌, inl, inr}
use Rattle.std.specs.List.{Contains}
use Rattle.std.specs.List.Sorted.{IsPartitionPoint}
use Rattle.std.specs.Ordering.{nat_cmp}
use Rattle.std.specs.declared.cmp.Ordering.{Ordering}
use Rattle.std.specs.declared.cmp.Ordering.TheVariants.{Less, Equal, Greater}
use Rattle.std.specs.Cmp.Lexicographic.{slice_cmp}
use Rattle.std.proofs.lemmas.Cmp.{nat_list_cmp_total, tied_itself}
use Rattle.fs_reads.specs.declared.comparing.Known.{Known}
use Rattle.fs_reads.specs.Alike.{has_path}
use Rattle.fs_reads.specs.Paths.{LacksPath}

le_or_lt : (a b : ℕ) → (a ≤ b) ⊎ (b < a)
le_or_lt a b = grind arith

-- a path before or behind another is not the same
apart : (path : List ℕ) (known : Known) → (slice_cmp nat_cmp (string_bytes known.path) path ≡ Less) ⊎ (slice_cmp nat_cmp (string_bytes known.path) path ≡ Greater) → ¬ has_path path known
apart path known (inl less) has =
    let tied : slice_cmp nat_cmp (string_bytes known.path) path ≡ Equal = subst (λ p. slice_cmp nat_cmp (string_bytes known.path) p ≡ Equal) has (tied_itself nat_list_cmp_total (string_bytes known.path)) in
    absurd (cc)
apart path known (inr greater) has =
    let tied : slice_cmp nat_cmp (string_bytes known.path) path ≡ Equal = subst (λ p. slice_cmp nat_cmp (string_bytes known.path) p ≡ Equal) has (tied_itself nat_list_cmp_total (string_bytes known.path)) in
    absurd (cc)

pub lacks_path : (path : List ℕ) (all : List Known) (at : ℕ)
    → IsPartitionPoint (λ known. slice_cmp nat_cmp (string_bytes known.path) path ≡ Less) (λ known. slice_cmp nat_cmp (string_bytes known.path) path ≡ Greater) all at
    → LacksPath path all
lacks_path path all at parted known among =
    subst (λ (one : Known). ¬ has_path path one) among.2 (apart path (slice_index_or all among.0 known) (side (le_or_lt at among.0)))
  where
    side : (at ≤ among.0) ⊎ (among.0 < at) → (slice_cmp nat_cmp (string_bytes (slice_index_or all among.0 known).path) path ≡ Less) ⊎ (slice_cmp nat_cmp (string_bytes (slice_index_or all among.0 known).path) path ≡ Greater)
    side (inl after) = inr (parted.1 among.0 known after among.1)
    side (inr before) = inl (parted.0 among.0 known (omega arith) before)
