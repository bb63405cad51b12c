-- A sound volume after its change.
use Rattle.std.proofs.Common.{◌≡◌, ◌∙◌, refl, sym, subst, Bool, true, false, cond, List, ℕ, map, Option, Some, None}
use Rattle.std.specs.Prelude.{unwrap_or}
use Rattle.std.specs.List.{All}
use Rattle.std.proofs.lemmas.List.Elements.{All-map, All-set}
use Rattle.ods_alloc.specs.Counts.{Counts, counts_of, free_counts}
use Rattle.ods_space.specs.Draft.{applied}
use Rattle.ods_space.specs.Layout.{Disk, VolumeLayout, with_places}
use Rattle.ods_state.specs.declared.known_end.KnownEnd.{KnownEnd}
use Rattle.ods_state.specs.declared.known_names.KnownNames.{KnownNames}
use Rattle.ods_state.specs.Ends.{IsEndKnown, IsKnownIn}
use Rattle.ods_state.specs.Noted.{MayBeKnown}
use Rattle.ods_volume.specs.declared.ends.Falls.{Falls}
use Rattle.ods_volume.specs.Ends.{AreKnownIn, AreNotedThen, kept_by, stays}
use Rattle.ods_volume.specs.Changing.{IsLawfulChange, IsNoted, Parts, changed}
use Rattle.ods_volume.proofs.Counted.{put_in_place}

-- a lawful change of the same volume by other words
pub lawful_as : (D E : Disk) (p q : Parts) → D ≡ E → p ≡ q → IsLawfulChange E q → IsLawfulChange D p
lawful_as D E p q volume change lawful = subst (λ (x : Disk). IsLawfulChange x p) (sym volume) (subst (IsLawfulChange E) (sym change) lawful)

-- the counts are those of the bitmaps, which stay where they are
counts_stay : (J : List (List ℕ)) (L : VolumeLayout) (places : List ℕ) → counts_of J L ≡ counts_of J (with_places L places)
unfolding free_counts
counts_stay J L places = refl

module _ (I J : List (List ℕ)) (L M : VolumeLayout) (falls : Falls) (kept : (end : KnownEnd) → stays falls end.file ≡ true → IsEndKnown I L end → IsEndKnown J M end) where
  -- what is left of one that is noted is true still
  one_known : (noted : Option KnownEnd) → IsKnownIn I L noted → IsKnownIn J M (kept_by falls noted)
  one_known None known = tt
  one_known (Some end) known = by (stays falls end.file) refl
    where
      by : (b : Bool) → stays falls end.file ≡ b → IsKnownIn J M (cond b (Some end) None)
      by true stay = kept end stay known
      by false stay = tt

  left_known : (ends : List (Option KnownEnd)) → AreKnownIn I L ends → AreKnownIn J M (map (kept_by falls) ends)
  left_known ends known = All-map (IsKnownIn J M) (kept_by falls) ends (λ i d low. one_known _ (known i d low))

  -- and so is all that is noted then
  then_known : (ends : List (Option KnownEnd)) (end : Option KnownEnd) (now : List (Option KnownEnd)) → AreKnownIn I L ends → IsKnownIn J M end → AreNotedThen ends falls end now → AreKnownIn J M now
  then_known ends None now known true_end noted = subst (AreKnownIn J M) (sym noted) (left_known ends known)
  then_known ends (Some end) now known true_end noted =
      subst (AreKnownIn J M) (sym noted.noted) (All-set (IsKnownIn J M) (map (kept_by falls) ends) noted.place (Some end) true_end (left_known ends known))

-- what is kept beside the volume is true of it after a lawful change
pub noted_then : (D : Disk) (p : Parts) (counts : Counts) (ends : List (Option KnownEnd)) (names : Option KnownNames) → IsNoted D counts ends names → IsLawfulChange D p
    → (E : Disk) (now : Counts) (after : List (Option KnownEnd)) (names_then : Option KnownNames) → E ≡ changed D p → now ≡ unwrap_or p.counts counts → AreNotedThen ends p.falls p.end after
    → MayBeKnown E.image E.layout names_then → IsNoted E now after names_then
noted_then D p counts ends names noted lawful E now after names_then is put follows named = subst (λ (x : Disk). IsNoted x now after names_then) (sym is) (record {
  sound = lawful.sound;
  counted = put ∙ (put_in_place D.image (applied D.image p.changes) D.layout counts p.counts noted.counted lawful.counted ∙ counts_stay (applied D.image p.changes) D.layout p.places);
  ended = then_known D.image (applied D.image p.changes) D.layout (with_places D.layout p.places) p.falls lawful.kept ends p.end after noted.ended lawful.ended follows;
  named = subst (λ (x : Disk). MayBeKnown x.image x.layout names_then) is named;
})

-- where nothing is noted, all that is noted is true
pub none_known : (I : List (List ℕ)) (L : VolumeLayout) (ends : List (Option KnownEnd)) → All (λ noted. noted ≡ None) ends → AreKnownIn I L ends
none_known I L ends none = λ i d low. subst (IsKnownIn I L) (sym (none i d low)) tt
