-- A Create on a sound volume: what the blocks are then, and what they show.
use Rattle.std.proofs.Common.{◌≡◌, ℕ, ◌+◌, ◌<◌, ◌≤◌, refl, ap, sym, ◌∙◌, subst, cond, List, [], length, get_or, is_some, None, Some, arith, inl}
use Rattle.std.specs.Prelude.{MatchOption, slice_get}
use Rattle.std.specs.List.{Contains}
use Rattle.std.proofs.lemmas.Bool.{le-ltb, lt-ltb}
use Rattle.std.proofs.lemmas.List.{get_or_default}
use Rattle.ods_base.specs.Image.{IsImage}
use Rattle.ods_base.specs.Name.{RadName}
use Rattle.ods_base.specs.declared.file_id.FileId.{FileId}
use Rattle.ods_base.specs.declared.file_id.Uic.{Uic}
use Rattle.ods_header.specs.Header.{attributes_of, ident_of, sequence_of}
use Rattle.ods_header.specs.declared.header.Header.{Header}
use Rattle.ods_change.proofs.KeptFields.{SaysTheSame, says_the_same}
use Rattle.ods_space.specs.Layout.{VolumeLayout, header_at}
use Rattle.ods_mount.specs.Faults.{contents_of}
use Rattle.ods_mount.specs.Sound.{IsSoundBy}
use Rattle.ods_request.specs.Catalogue.{Catalogue, File}
use Rattle.ods_request.specs.Faults.{fault_of}
use Rattle.ods_request.specs.Steps.{change, created, new_file, new_ident, step, zero_blocks}
use Rattle.ods_request.specs.declared.answers.Answer.TheVariants.{Created}
use Rattle.ods_request.specs.declared.refusals.Refusal.{Refusal}
use Rattle.ods_request.specs.declared.refusals.Refusal.TheVariants as refusal
use Rattle.ods_request.specs.declared.requests.Request.{Request}
use Rattle.ods_request.specs.declared.requests.Request.TheVariants.{Create}
use Rattle.ods_request.proofs.FaultTable.{fault_create}
use Rattle.ods_state.specs.Change.{disk}
use Rattle.ods_state.specs.Contents.{IsFileIn, ShowsBy, file_of}
use Rattle.ods_state.specs.Made.{AreMade, AreZeroed}
use Rattle.ods_state.specs.Moves.{new_attributes}
use Rattle.ods_state.specs.Served.{IsRefusalOf, IsShortOf, IsStepOf}
use Rattle.ods_state.specs.Version.{PastIsSpent}
use Rattle.ods_state.specs.Wants.{lack_of, allocated_blocks, allocated_numbers}
use Rattle.ods_state.specs.Growth.{IsGrowth, IsTaking}
use Rattle.ods_state.proofs.GrowthMade as growth
use Rattle.ods_state.proofs.GrownContents.{grown_file, new_contents, so_many_blocks}
use Rattle.ods_state.proofs.GrownMoves.{grown_taken, grown_touches}
use Rattle.ods_state.proofs.GrownShown.{created_is_new, created_is_shown, created_is_spent}
use Rattle.ods_state.proofs.GrownSound.{grown_sound}
use Rattle.ods_state.proofs.Wanted.{may_take, none_lacks}
use Rattle.ods_change.specs.Creating.{IsMadeFile, IsNewHeaderFor, new_id}
use Rattle.ods_change.proofs.NewBodies.{new_body_is, new_directory}

-- ---- refusals

module _ (I : List (List ℕ)) (L : VolumeLayout) (who : Uic) (name : RadName) (version count : ℕ) (stamp : List ℕ) where
  abbrev asked : Request
  asked = Create name version count stamp

  pub too_many : 65535 < count → (C : Catalogue) → fault_of C who asked ≡ Some refusal.BadCount
  too_many many C = fault_create C who name version count stamp ∙ ap (λ t. cond t (Some refusal.BadCount) None) (lt-ltb 65535 count many)

  pub no_fault : count ≤ 65535 → (C : Catalogue) → fault_of C who asked ≡ None
  no_fault few C = fault_create C who name version count stamp ∙ ap (λ t. cond t (Some refusal.BadCount) None) (le-ltb 65535 count few)

  -- what is lacking is a refusal where there is no fault
  pub refused_for_lack : (f : Refusal) → count ≤ 65535 → lack_of I L [] count ≡ Some f → IsRefusalOf I L who asked f
  refused_for_lack f few lack C shown =
      subst (λ o. MatchOption o (IsShortOf I L asked f) (λ g. f ≡ g)) (sym (no_fault few C))
      (inl (record { headers = []; blocks = []; count = count; wants = (refl, refl, refl); lacking = lack }))

-- ---- the step

module _ {I J : List (List ℕ)} {L : VolumeLayout} (S : IsSoundBy I L) (who : Uic) (name : RadName) (three : length name.words ≡ 3) (version count : ℕ) (few : count ≤ 65535) (stamp : List ℕ)
    (n : ℕ) (high : 6 ≤ n) (word : n ≤ 65535) (first : slice_get (allocated_numbers I L [] 0) 0 ≡ Some n) (numbers : List ℕ) (t : IsTaking I L n [] [] count numbers)
    (b : List ℕ) (h : IsNewHeaderFor who L.home.protection (new_id I L n) name version count stamp b) (m : IsMadeFile I L n b count numbers J) where
  abbrev K : List (List ℕ)
  K = m.ready

  abbrev id : FileId
  id = new_id I L n

  abbrev blocks : List ℕ
  blocks = allocated_blocks I L count

  abbrev c : List ℕ
  c = header_at J L n

  g : IsGrowth I J L n [] [] count numbers
  g = growth.grows I K J L S n [] [] count numbers t m.is_ready m.extended

  made : AreMade (disk I L) (disk J L) [] (allocated_numbers I L [] count)
  made = growth.made I K J L S n [] [] count numbers t m.is_ready m.extended

  -- the header that has grown says of the file what was written
  says : SaysTheSame b c
  says =
      subst (λ d. SaysTheSame d c) m.first
      (says_the_same (header_at K L n) c n (growth.first_valid I K J L S n [] [] count numbers t m.is_ready m.extended) (m.extended.sizes 0 0 (omega arith))
      (growth.first_fields I K J L S n [] [] count numbers t m.is_ready m.extended))

  attributes_are : attributes_of c ≡ new_attributes name count
  attributes_are = says.attributes ∙ ap (λ (f : Header). f.attributes) h.fields

  ident_is : ident_of c ≡ new_ident name version stamp
  ident_is = says.ident ∙ ap (λ (f : Header). f.ident) h.fields

  sequence_is : sequence_of c ≡ sequence_of (header_at I L n) + 1
  sequence_is = says.sequence ∙ ap (λ (f : Header). f.file.sequence) h.fields

  zeroed : AreZeroed (disk I L) (disk J L) count
  zeroed i d below =
      let x : ℕ = get_or blocks i d in
      let among : Contains blocks x = (i, below, get_or_default blocks i x d below) in
      growth.filled I K J L S n [] [] count numbers t m.is_ready m.extended x among ∙ m.zeroed x among

  contents_are : contents_of J blocks ≡ zero_blocks count
  contents_are = new_contents S g refl zeroed

  module _ (C : Catalogue) (shown : ShowsBy I L C) where
    abbrev f : File
    f = new_file C who name version count stamp

    file_is : file_of n c (contents_of J blocks) ≡ f
    unfolding file_of
    file_is = λ i. record {
      owner = (says.owner ∙ ap (λ (d : Header). d.owner) h.fields) i;
      protection = (says.protection ∙ ap (λ (d : Header). d.protection) h.fields ∙ sym shown.default) i;
      user_char = (says.user_char ∙ ap (λ (d : Header). d.user_char) h.fields) i;
      system_char = (says.system_char ∙ ap (λ (d : Header). d.system_char) h.fields) i;
      ident = ident_is i;
      body = new_body_is name version count stamp three n high c attributes_are ident_is (contents_of J blocks) contents_are i;
    }

    here : IsFileIn J L id f
    here = grown_file S g id f refl sequence_is file_is

    module _ (past : PastIsSpent I L C) where
      stepped : step C who (Create name version count stamp) (Created id) ≡ Some (created C id f)
      unfolding step change
      stepped =
          ap (λ o. cond (is_some o) None (change C who (Create name version count stamp) (Created id))) (no_fault I L who name version count stamp few C)
          ∙ ap (λ u. cond u (Some (created C id f)) None) (created_is_new S g refl id refl refl word C shown past)

  left : (C D : Catalogue) → ShowsBy I L C → PastIsSpent I L C → Some (created C id (new_file C who name version count stamp)) ≡ Some D → ShowsBy J L D × PastIsSpent J L D
  left C D shown past e =
      let f : File = new_file C who name version count stamp in
      let is : created C id f ≡ D = cc in
      subst (λ E. ShowsBy J L E × PastIsSpent J L E) is
      (created_is_shown S g refl id refl C f shown (here C shown), created_is_spent S g id C f (here C shown) past)

  -- the Create that lacks nothing is made so
  pub create_is_step : IsImage I → IsStepOf I L who (Create name version count stamp) (Created id) J L
  create_is_step image = record {
    answered = λ C shown past. ap is_some (stepped C shown past);
    shown = λ C D shown past e. left C D shown past (sym (stepped C shown past) ∙ e);
    sound = grown_sound S g (λ says_so. new_directory name version count stamp three n high c attributes_are ident_is says_so.1 (contents_of J blocks) (length blocks) (so_many_blocks S g));
    enough = none_lacks I L (Create name version count stamp) [] [] count (refl, refl, refl) t.enough;
    moves = (
      may_take I L (Create name version count stamp) [] [] count (refl, refl, refl) (disk J L) (grown_taken S g image made),
      (sym sequence_is, first),
      attributes_are,
      zeroed,
    );
    elsewhere = (g.long, grown_touches S g (Create name version count stamp) (refl, refl, refl));
  }
