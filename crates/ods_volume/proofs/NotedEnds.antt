-- The places at which a volume notes where chains end.
use Rattle.std.proofs.Common.{◌≡◌, ℕ, ◌<◌, refl, sym, ◌∙◌, List, get_or, length, map, Option, None, Some, arith}
use Rattle.ods_state.specs.declared.known_end.KnownEnd.{KnownEnd}
use Rattle.ods_volume.specs.Ends.{kept_by}
use Rattle.ods_volume.specs.declared.ends.Falls.TheVariants.{Nothing}
use Rattle.std.proofs.lemmas.List.{ext_get_or, get_or-map, length-map}

-- a list each of whose elements is what f makes of the one at its place
pub mapped_by : {X Y : Type 0} (f : X → Y) (d : X) (e : Y) (xs : List X) (ys : List Y) → length ys ≡ length xs → ((i : ℕ) → i < length xs → get_or ys i e ≡ f (get_or xs i d)) → ys ≡ map f xs
mapped_by f d e xs ys long each =
    ext_get_or e ys (map f xs) (long ∙ sym (length-map xs f)) (λ i low. let within : i < length xs = omega (arith, long, low) in each i within ∙ sym (get_or-map f xs i d e within))

-- where nothing falls, each place has what it had
all_kept : (noted : Option KnownEnd) → noted ≡ kept_by Nothing noted
all_kept None = refl
all_kept (Some end) = refl

pub nothing_falls : (ends : List (Option KnownEnd)) → ends ≡ map (kept_by Nothing) ends
nothing_falls ends = mapped_by (kept_by Nothing) None None ends ends refl (λ i low. all_kept (get_or ends i None))
