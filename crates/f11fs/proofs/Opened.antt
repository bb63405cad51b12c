-- The end of a command that gets no volume, and words behind which there are no more.
use Rattle.std.proofs.Common.{◌≡◌, ◌<◌, refl, sym, subst, Bor, ℕ, List, [], ◌∷◌, length, arith}
use Rattle.fs_reads.specs.Volumes.{IsNoVolume}
use Rattle.fs_reads.specs.declared.stop.Stop.{Stop}
use Rattle.fs_reads.specs.declared.volume.VolumeFault.{VolumeFault}
use Rattle.fs_reads.specs.declared.volume.VolumeFault.TheVariants as fault
use Rattle.f11fs.specs.Changed.{IsRefusal}

-- it has the status of a refusal
pub no_volume_refusal : (path : Bor (List ℕ)) (why : VolumeFault) (end : Stop) → IsNoVolume path why end → IsRefusal end
no_volume_refusal path (fault.Read why) end is = subst (λ x. IsRefusal x) (sym is) tt
no_volume_refusal path fault.NoMemory end is = subst (λ x. IsRefusal x) (sym is) tt
no_volume_refusal path (fault.OtherSize order) end is = subst (λ x. IsRefusal x) (sym is) tt
no_volume_refusal path (fault.Image refusal look) end is = subst (λ x. IsRefusal x) (sym is) tt
no_volume_refusal path (fault.Volume refusal look) end is = subst (λ x. IsRefusal x) (sym is) tt

-- a list of none
pub no_words : (words : List (Bor (List ℕ))) → length words < 1 → words ≡ []
no_words [] few = refl
no_words (word ∷ words) few = absurd (omega (arith, few))
