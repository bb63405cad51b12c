-- A request on a volume, by the catalogues that its blocks show.
use Rattle.std.proofs.Common.{◌≡◌, ℕ, refl, ap, sym, ◌∙◌, subst, Bool, List, is_some, Option, Some, None}
use Rattle.std.specs.Prelude.{Result, Ok, Err, IfOk, OnOk, OnErr}
use Rattle.std.specs.FinSet as set
use Rattle.std.specs.FinMap as map
use Rattle.ods_base.specs.declared.file_id.Uic.{Uic}
use Rattle.ods_mount.proofs.Layouts.{layout_is_one}
use Rattle.ods_space.specs.Layout.{Disk, VolumeLayout}
use Rattle.ods_request.specs.declared.answers.Answer.{Answer}
use Rattle.ods_request.specs.declared.requests.Request.{Request}
use Rattle.ods_request.specs.declared.refusals.Refusal.{Refusal}
use Rattle.ods_request.specs.Catalogue.{Catalogue}
use Rattle.ods_request.proofs.FrameLaws.{created_new}
use Rattle.ods_state.specs.Contents.{ShowsBy}
use Rattle.ods_volume.specs.Changing.{HasMoreHeaders, IsStep}
use Rattle.ods_volume.proofs.OtherPast.{with_past, other_past}
use Rattle.ods_volume.proofs.Stepped.{stepped}
use Rattle.ods_mount.specs.Sound.{IsSoundBy}
use Rattle.ods_base.specs.declared.file_id.FileId.{FileId}
use Rattle.ods_amend.specs.Access.{Gives, GivesAll, Protects}
use Rattle.ods_amend.specs.Bits.{MarksAs}
use Rattle.ods_amend.specs.Label.{Relabels}
use Rattle.ods_filing.specs.Amended.{HasGiven, HasGotLabel, HasProtection}
use Rattle.ods_filing.specs.Contiguous.{HasCharacterised, HasMarked}
use Rattle.ods_filing.specs.Filed.{Filed, HasGrown, IsDone}

-- blocks that show a catalogue show each one with the same files and the same protection
pub same_shown : (J : List (List ℕ)) (M : VolumeLayout) (C D : Catalogue) → ShowsBy J M D → C.files ≡ D.files → C.default ≡ D.default → ShowsBy J M C
same_shown J M C D s files default = record {
  there = λ id f e. s.there id f (ap (λ m. map.get m id) (sym files) ∙ e);
  all = λ id f h. ap (λ m. map.get m id) files ∙ s.all id f h;
  default = default ∙ s.default;
}

-- a volume, for a user
abbrev pub filed : Disk → Uic → Filed
filed D who = record { image = D.image; layout = D.layout; user = who }

module _ (D E : Disk) (sound : IsSoundBy D.image D.layout) (who : Uic) (r : Request) (a : Answer) (made : IsStep D who r a E) where
  pub is_done : IsDone (filed D who) r a (filed E who)
  is_done = record {
    steps = λ C s fresh.
        let left = stepped D.image D.layout who r a E.image E.layout made C s in
        let alike = other_past (with_past C set.empty) left.0 C.past who a r left.1 fresh in
        (alike.left, alike.is_step, same_shown E.image E.layout alike.left left.0 left.2 alike.files alike.default);
    fresh = λ C is id h e.
        let same = layout_is_one D.image is.shown.layout D.layout is.shown.is_layout sound.layout in
        let s : ShowsBy D.image D.layout C = subst (λ L. ShowsBy D.image L C) same is.shown.shows in
        let left = stepped D.image D.layout who r a E.image E.layout made C s in
        let free = (created_new (with_past C set.empty) left.0 who r a id left.1 e).0 in
        is.past id ∙ ap is_some free;
    moves = made.moves;
    elsewhere = made.elsewhere;
    user = refl;
  }

-- what is answered was a step, so it is done
pub are_done : (D E : Disk) → IsSoundBy D.image D.layout → (who : Uic) (r : Request) (result : Result Answer Refusal) → IfOk result (λ a. IsStep D who r a E) → IfOk result (λ a. IsDone (filed D who) r a (filed E who))
are_done D E sound who r (Ok a) made = is_done D E sound who r a made
are_done D E sound who r (Err f) made = tt

-- a volume that stayed is that of its user
pub stays_filed : {A X : Type 0} (D E : Disk) (who : Uic) (result : Result A X) → OnErr result (E ≡ D) → OnErr result (filed E who ≡ filed D who)
stays_filed D E who (Ok a) same = tt
stays_filed D E who (Err f) same = ap (λ d. filed d who) same

-- INDEXF.SYS of a user's volume has grown
pub has_grown : {A : Type 0} (D E : Disk) (who : Uic) (count : ℕ) (result : Result A Refusal) → OnOk result (HasMoreHeaders D count E) → OnOk result (HasGrown (filed D who) count (filed E who))
has_grown D E who count (Ok a) more = record { headers = more; user = refl }
has_grown D E who count (Err f) more = tt

-- a user has given a file another owner or another protection
pub has_given : (D E : Disk) (who : Uic) (id : FileId) (owner : Option Uic) (protection : Option ℕ) {A : Type 0} (result : Result A Refusal) → OnOk result (Gives D who id owner protection E) → OnOk result (HasGiven (filed D who) id owner protection (filed E who))
has_given D E who id owner protection (Ok a) gives = record { given = gives; user = refl }
has_given D E who id owner protection (Err f) gives = tt

-- a file of a user's volume has another protection word
pub has_protection : (D E : Disk) (who : Uic) (id : FileId) (protection : ℕ) {A : Type 0} (result : Result A Refusal) → OnOk result (Protects D id protection E) → OnOk result (HasProtection (filed D who) id protection (filed E who))
has_protection D E who id protection (Ok a) set = record { set = set; user = refl }
has_protection D E who id protection (Err f) set = tt

-- a user has given a file other characteristics
pub has_characterised : (D E : Disk) (who : Uic) (id : FileId) (flags : ℕ) {A : Type 0} (result : Result A Refusal) → OnOk result (GivesAll D who id None None (Some flags) E) → OnOk result (HasCharacterised (filed D who) id flags (filed E who))
has_characterised D E who id flags (Ok a) gives = record { given = gives; user = refl }
has_characterised D E who id flags (Err f) gives = tt

-- blocks of a user's volume are marked
pub has_marked : (D E : Disk) (who : Uic) (blocks : List ℕ) (free : Bool) {A X : Type 0} (result : Result A X) → OnOk result (MarksAs D blocks free E) → OnOk result (HasMarked (filed D who) blocks free (filed E who))
has_marked D E who blocks free (Ok a) marks = record { marked = marks; user = refl }
has_marked D E who blocks free (Err f) marks = tt

-- a user's volume has got another label
pub has_got_label : (D E : Disk) (who : Uic) (label : List ℕ) {A X : Type 0} (result : Result A X) → OnOk result (Relabels D label E) → OnOk result (HasGotLabel (filed D who) label (filed E who))
has_got_label D E who label (Ok a) got = record { labelled = got; user = refl }
has_got_label D E who label (Err f) got = tt
