-- Changes that no request asks for: the volume after one is sound, and its counts are those that were counted.
use Rattle.std.proofs.Common.{◌≡◌, ℕ, sym, subst, Bool, List, [], Option, Some, None, refl, true, false}
use Rattle.ods_base.specs.declared.file_id.FileId.{FileId}
use Rattle.ods_base.specs.declared.file_id.Uic.{Uic}
use Rattle.ods_space.specs.Draft.{Changes, applied}
use Rattle.ods_space.specs.Layout.{VolumeLayout, with_places}
use Rattle.ods_alloc.specs.Counts.{AreCountsAfter, Counts}
use Rattle.ods_mount.specs.Sound.{IsSoundBy}
use Rattle.ods_request.specs.declared.refusals.Refusal.TheVariants as refusal
use Rattle.ods_state.proofs.GrownMoves.{no_places}
use Rattle.ods_amend.specs.Access.{IsGiven, IsNotGiven, IsSet}
use Rattle.ods_amend.specs.Bits.{AreMarked}
use Rattle.ods_amend.specs.Label.{IsLabelled}
use Rattle.ods_volume.specs.declared.ends.Falls.TheVariants.{Everything}
use Rattle.ods_volume.specs.Amended.{IsChangeOfAccess, IsChangeOfLabel, IsChangeOfMarks, IsChangeOfProtection}

-- where everything falls nothing stays
pub none_stays : false ≡ true → ⊥
none_stays wrong = absurd (cc)

-- a draft of a given header is a lawful change
pub access_changed : {I : List (List ℕ)} {L : VolumeLayout} {who : Uic} {id : FileId} {owner : Option Uic} {protection flags : Option ℕ} {d : Changes} {counts : Option Counts} (places : List ℕ)
    → IsGiven I L who id owner protection flags (applied I d) → AreCountsAfter I (applied I d) L counts → places ≡ []
    → IsChangeOfAccess (record { image = I; layout = L }) who id owner protection flags (record { changes = d; places = places; counts = counts; end = None; falls = Everything })
access_changed {I} {L} {who} {id} {owner} {protection} {flags} {d} {counts} places given counted none =
    let same : with_places L places ≡ L = no_places L places none in
    record {
      given = (given, same);
      lawful = record { sound = subst (IsSoundBy (applied I d)) (sym same) given.set.sound; counted = counted; ended = tt; kept = λ end stays known. absurd (none_stays stays); struck = λ f blocks index bitmap some held. tt };
    }

-- so is one of a protection word that is set
pub protection_changed : {I : List (List ℕ)} {L : VolumeLayout} {id : FileId} {protection : ℕ} {d : Changes} {counts : Option Counts} (places : List ℕ)
    → IsSet I L id None (Some protection) None (applied I d) → AreCountsAfter I (applied I d) L counts → places ≡ []
    → IsChangeOfProtection (record { image = I; layout = L }) id protection (record { changes = d; places = places; counts = counts; end = None; falls = Everything })
protection_changed {I} {L} {id} {protection} {d} {counts} places is counted none =
    let same : with_places L places ≡ L = no_places L places none in
    record {
      set = (is, same);
      lawful = record { sound = subst (IsSoundBy (applied I d)) (sym same) is.sound; counted = counted; ended = tt; kept = λ end stays known. absurd (none_stays stays); struck = λ f blocks index bitmap some held. tt };
    }

-- a draft of storage bits is a lawful change
pub marks_changed : {I : List (List ℕ)} {L : VolumeLayout} {blocks : List ℕ} {free : Bool} {d : Changes} {counts : Option Counts} (places : List ℕ)
    → AreMarked I L blocks free (applied I d) → AreCountsAfter I (applied I d) L counts → places ≡ []
    → IsChangeOfMarks (record { image = I; layout = L }) blocks free (record { changes = d; places = places; counts = counts; end = None; falls = Everything })
marks_changed {I} {L} {blocks} {free} {d} {counts} places marked counted none =
    let same : with_places L places ≡ L = no_places L places none in
    record {
      marked = (marked, same);
      lawful = record { sound = subst (IsSoundBy (applied I d)) (sym same) marked.sound; counted = counted; ended = tt; kept = λ end stays known. absurd (none_stays stays); struck = λ f blocks index bitmap some held. tt };
    }

-- a draft of a home block is a lawful change
pub label_changed : {I : List (List ℕ)} {L : VolumeLayout} {label : List ℕ} {d : Changes} {counts : Option Counts} (places : List ℕ)
    → IsLabelled I L label (applied I d) → AreCountsAfter I (applied I d) L counts → places ≡ []
    → IsChangeOfLabel (record { image = I; layout = L }) label (record { changes = d; places = places; counts = counts; end = None; falls = Everything })
label_changed {I} {L} {label} {d} {counts} places labelled counted none =
    let same : with_places L places ≡ L = no_places L places none in
    record {
      given = (labelled, same);
      lawful = record { sound = subst (IsSoundBy (applied I d)) (sym same) labelled.sound; counted = counted; ended = tt; kept = λ end stays known. absurd (none_stays stays); struck = λ f blocks index bitmap some held. tt };
    }

-- what may be given, and is not counted for want of memory
pub no_memory_left : {I J : List (List ℕ)} {L : VolumeLayout} {who : Uic} {id : FileId} {owner : Option Uic} {protection flags : Option ℕ} → IsGiven I L who id owner protection flags J → IsNotGiven I L who id refusal.NoMemory
no_memory_left {I} {J} {L} {who} {id} given C shown = rw (given.allowed C shown) refl
