-- An Enter of a sound volume that takes no block: what the blocks are then, and what they show.
use Rattle.std.proofs.Common.{◌≡◌, ◌≢◌, ℕ, zero, ◌+◌, ◌*◌, ◌/◌, ◌%◌, ◌≤◌, refl, ap, sym, ◌∙◌, subst, true, false, cond, List, [], ◌∷◌, ◌++◌, length, Option, Some, arith, inl, inr}
use Rattle.std.specs.Prelude.{slice_set}
use Rattle.std.specs.List.{Contains}
use Rattle.std.proofs.lemmas.List.{length-set, length-map, get_or-set_other}
use Rattle.ods_base.specs.Block.{with_bytes, zeros}
use Rattle.ods_base.specs.Image.{block_at}
use Rattle.ods_base.specs.Name.{RadName}
use Rattle.ods_base.specs.Names.{NameMap}
use Rattle.ods_base.specs.declared.file_id.FileId.{FileId}
use Rattle.ods_base.specs.declared.file_id.Uic.{Uic}
use Rattle.ods_header.specs.Attributes.{IsWithAttributes, KeepsOtherFields}
use Rattle.ods_header.specs.Header.{attributes_of, sequence_of, is_directory_header}
use Rattle.ods_space.specs.Layout.{VolumeLayout, header_at, place_of}
use Rattle.ods_space.specs.Files.{HasBlocks, Holds}
use Rattle.ods_directory.specs.Mark.{IsSlot, grown, mark_in, marked, written}
use Rattle.ods_directory.specs.Names.{IsDirectory, names_of as names_in}
use Rattle.ods_mount.specs.Faults.{contents_of, mark_at}
use Rattle.ods_mount.specs.Sound.{IsSoundBy}
use Rattle.ods_request.specs.declared.requests.Request.TheVariants.{Enter}
use Rattle.ods_request.specs.declared.answers.Answer.TheVariants.{Entered}
use Rattle.ods_request.specs.declared.refusals.Refusal.{Refusal}
use Rattle.ods_request.specs.declared.rights.Right.TheVariants as right
use Rattle.ods_request.specs.Catalogue.{Catalogue, Directory}
use Rattle.ods_request.specs.Steps.{after, put, with_body}
use Rattle.ods_state.specs.Contents.{file_of, body_of, ShowsBy}
use Rattle.ods_state.specs.Change.{disk}
use Rattle.ods_state.specs.Served.{IsStepOf}
use Rattle.ods_state.specs.Wants.{Lacks, Wants}
use Rattle.ods_state.proofs.Served.{carried_is_step}
use Rattle.ods_state.proofs.TwoChanges.{nothing_moves_on, put_put}
use Rattle.ods_look.specs.Opening.{file_shown}
use Rattle.ods_look.proofs.BlockPlaces.{blocks_are_one}
use Rattle.ods_look.proofs.FileBodies.{directory_body}
use Rattle.ods_change.specs.declared.entry.NewEntry.{NewEntry}
use Rattle.ods_change.specs.Entering.{IsEntryFor}
use Rattle.ods_change.proofs.Marks.{IsSlotInside, slot_inside, no_growth, marked_is}
use Rattle.ods_change.proofs.EnteredAt.{entered_at, names_entered, names_then_in, header_changed, header_kept, mark_moves, mark_stays}
use Rattle.ods_change.proofs.AttributesReplaced.{HasOtherAttributes}
use Rattle.ods_change.proofs.AttributesReplaced as header_change
use Rattle.ods_change.proofs.EntryReplaced.{IsEntry}
use Rattle.ods_change.proofs.EntryReplaced as entry

module _ {I : List (List ℕ)} {L : VolumeLayout} (S : IsSoundBy I L) {who : Uic} {dir : FileId} {name : RadName} {given : Option ℕ} {file : FileId} {new : NewEntry}
    (e : IsEntryFor I L who dir name given file new) (stays_in : new.slot.grows ≡ false) where
  abbrev n : ℕ
  n = dir.number

  -- the slot lies in the blocks of the directory
  pub lies : IsSlotInside new.opened.mark (length new.opened.blocks) new.slot
  lies = slot_inside new.opened.blocks new.opened.mark new.slot e.slot stays_in e.own.is.inside

  -- the request wants no block
  nothing_wanted : (headers blocks : List ℕ) (count : ℕ) → Wants I L (Enter dir name given file) headers blocks count → ⊥
  nothing_wanted headers blocks count w =
      let held : HasBlocks I L n blocks = record { file = e.own.is.held.file; others = w.0.0; whole = w.0.2 } in
      let same : contents_of I blocks ≡ new.opened.blocks = ap (contents_of I) (blocks_are_one held e.own.is.held) ∙ sym e.own.is.contents in
      let mark : mark_at I L n blocks ≡ new.opened.mark = ap (mark_at I L n) (blocks_are_one held e.own.is.held) ∙ sym e.own.is.mark in
      no_growth new.opened.blocks new.opened.mark new.slot w.1.0 e.slot stays_in
      (subst (λ m. IsSlot new.opened.blocks m w.1.0) mark (subst (λ bs. IsSlot bs (mark_at I L n blocks) w.1.0) same w.1.1)) w.1.2

  nothing_lacking : (f : Refusal) → ¬ Lacks I L (Enter dir name given file) f
  nothing_lacking f lacks = nothing_wanted lacks.headers lacks.blocks lacks.count lacks.wants

  module _ {lbn : ℕ} (h : Holds I L n (new.slot.at / 512 + 1) lbn) where
    abbrev lbns : List ℕ
    lbns = e.own.is.lbns

    abbrev entry_is : IsEntry I L dir new.opened new.slot.at lbn
    entry_is = record { sound = S; who = who; right = right.Write; own = e.own; held = h }

    abbrev b : List ℕ
    b = with_bytes (block_at I lbn) (new.slot.at % 512) new.bytes

    abbrev J : List (List ℕ)
    J = slice_set I lbn b

    abbrev now : List (List ℕ)
    now = written new.opened.blocks new.slot.at new.bytes

    not_grown : (bs : List (List ℕ)) → cond new.slot.grows (bs ++ zeros ∷ []) bs ≡ bs
    not_grown bs = ap (λ g. cond g (bs ++ zeros ∷ []) bs) stays_in

    grown_now : now ≡ written (grown new.opened.blocks new.slot) new.slot.at new.bytes
    grown_now = ap (λ bs. written bs new.slot.at new.bytes) (sym (not_grown new.opened.blocks))

    is_directory : IsDirectory now new.slot.mark
    is_directory = subst (λ bs. IsDirectory (written bs new.slot.at new.bytes) new.slot.mark) (not_grown new.opened.blocks) e.stays

    sound_now : IsSoundBy J L
    sound_now = entry.still_sound entry_is new.bytes new.slot.mark lies.more is_directory

    header_now : header_at J L n ≡ header_at I L n
    header_now = entry.headers_stay entry_is new.bytes

    module _ (C : Catalogue) (shown : ShowsBy I L C) where
      abbrev names_then : NameMap
      names_then = names_then_in e C

      names_now : names_in now new.slot.mark ≡ names_then
      names_now = ap (λ bs. names_in bs new.slot.mark) grown_now ∙ names_entered e C shown

      -- with the header as it was
      kept_is_shown : new.slot.mark ≡ new.opened.mark → ShowsBy J L (after C (Enter dir name given file))
      unfolding after
      kept_is_shown same = entry.names_shown entry_is new.bytes C shown names_then (ap (names_in now) (sym same) ∙ names_now)

    -- where the mark stays, the Enter is made by the entry alone
    pub enter_kept : new.slot.mark ≡ new.opened.mark → IsStepOf I L who (Enter dir name given file) (Entered new.version) J L
    enter_kept same = carried_is_step I L who (Enter dir name given file) (Entered new.version) J refl nothing_lacking (record {
      answered = e.answered;
      sound = sound_now;
      shown = λ C shown. kept_is_shown C shown same;
      sequences = entry.sequences_stay entry_is new.bytes;
      moves = (
        (
          λ headers blocks count w. absurd (nothing_wanted headers blocks count w),
          λ none. entry.moves_nothing entry_is new.bytes,
        ),
        λ none. header_kept (header_at I L n) (header_at J L n) n e.own.is.held.file.valid header_now,
        entered_at e J lbns (entry.blocks_stay entry_is new.bytes) (entry.contents_then entry_is new.bytes ∙ grown_now)
            (ap attributes_of header_now ∙ sym (mark_stays e (length lbns) same)),
      );
      elsewhere = (
        length-set I lbn b,
        λ y untouched. get_or-set_other I lbn y b [] (λ g. untouched (inr (inr (new.slot.at / 512 + 1, subst (λ z. Holds I L n (new.slot.at / 512 + 1) z) (sym g) h)))),
      );
    })

    -- ---- where the mark moves, the header changes too

    module _ (x count : ℕ) (c : List ℕ) (place : place_of L n ≡ Some x) (counted : count ≡ length new.opened.blocks) (size : length (attributes_of (header_at I L n)) ≡ 32)
        (w : IsWithAttributes (header_at I L n) (marked (attributes_of (header_at I L n)) new.slot.mark count) c)
        (fields : KeepsOtherFields (header_at I L n) (marked (attributes_of (header_at I L n)) new.slot.mark count) c) where
      abbrev header : List ℕ
      header = header_at I L n

      abbrev attributes : List ℕ
      attributes = marked (attributes_of header) new.slot.mark count

      abbrev K : List (List ℕ)
      K = slice_set J x c

      abbrev header_is : HasOtherAttributes J L dir x header attributes c
      header_is = record { sound = sound_now; place = place; was = header_now; valid = e.own.is.held.file.valid; sequence = e.own.file.1; changed = w; fields = fields }

      count_is : count ≡ length lbns
      count_is = counted ∙ ap length e.own.is.contents ∙ length-map lbns (block_at I)

      held_now : HasBlocks J L n lbns
      held_now = entry.blocks_stay entry_is new.bytes

      contents_now : contents_of J lbns ≡ now
      contents_now = entry.contents_then entry_is new.bytes

      kind_now : is_directory_header n c ≡ true
      kind_now = header_change.kind_stays header_is ∙ e.own.is.kind

      mark_now : (k : ℕ) → k ≡ length lbns → mark_in (attributes_of c) k ≡ new.slot.mark
      mark_now k is =
          let end : new.slot.mark ≤ 512 * count = subst (λ m. new.slot.mark ≤ 512 * m) (sym counted) lies.end in
          (λ i. mark_in (w.attributes i) ((is ∙ sym count_is) i)) ∙ marked_is (attributes_of header) new.slot.mark count size end

      still : (blocks : List ℕ) → HasBlocks J L n blocks → IsDirectory (contents_of J blocks) (mark_in (attributes_of c) (length blocks))
      still blocks held =
          subst (λ bs. IsDirectory (contents_of J bs) (mark_in (attributes_of c) (length bs))) (blocks_are_one held_now held)
          (subst (λ m. IsDirectory (contents_of J lbns) m) (sym (mark_now (length lbns) refl)) (subst (λ bs. IsDirectory bs new.slot.mark) (sym contents_now) is_directory))

      body_now : (C : Catalogue) (shown : ShowsBy I L C) → body_of n c (contents_of J lbns) ≡ Directory (names_then C shown)
      body_now C shown =
          directory_body n c (contents_of J lbns) kind_now ∙ ap (λ k. Directory (names_in (contents_of J lbns) k)) (mark_now (length (contents_of J lbns)) (length-map lbns (block_at J)))
          ∙ ap (λ bs. Directory (names_in bs new.slot.mark)) contents_now ∙ ap Directory (names_now C shown)

      moved_is_shown : (C : Catalogue) → ShowsBy I L C → ShowsBy K L (after C (Enter dir name given file))
      unfolding after
      moved_is_shown C shown =
          let f = with_body (file_shown I L dir lbns) (Directory (names_then C shown)) in
          let between = entry.put_shown entry_is new.bytes C shown in
          let then = header_change.body_shown header_is between held_now (entry.one entry_is new.bytes) (contents_of I lbns) (Directory (names_then C shown)) (body_now C shown) in
          subst (λ D. ShowsBy K L D)
          (put_put C dir (file_of n header now) f ∙ ap (λ g. put C dir (with_body g (Directory (names_then C shown)))) (sym (entry.there entry_is new.bytes C shown)))
          then

      changed_then : IsWithAttributes (header_at I L n) attributes (header_at K L n)
      changed_then = subst (λ d. IsWithAttributes d attributes (header_at K L n)) header_now (header_change.changed_here header_is)

      attributes_then : attributes_of (header_at K L n) ≡ attributes
      attributes_then = header_change.attributes_are header_is

      sequences_then : (m : ℕ) → sequence_of (header_at I L m) ≤ sequence_of (header_at K L m)
      sequences_then m = omega (arith, entry.sequences_stay entry_is new.bytes m, header_change.sequences_stay header_is m)

      own_header : Contains (n ∷ []) n
      own_header = (zero, omega arith, refl)

      -- the Enter is made by the entry and the header with the new mark
      pub enter_moved : new.slot.mark ≢ new.opened.mark → IsStepOf I L who (Enter dir name given file) (Entered new.version) K L
      enter_moved moved = carried_is_step I L who (Enter dir name given file) (Entered new.version) K refl nothing_lacking (record {
        answered = e.answered;
        sound = header_change.still_sound header_is (λ d. still);
        shown = moved_is_shown;
        sequences = sequences_then;
        moves = (
          (
            λ headers blocks k g. absurd (nothing_wanted headers blocks k g),
            λ none. nothing_moves_on (disk I L) (disk J L) (disk K L) (entry.moves_nothing entry_is new.bytes)
                (header_change.moves_nothing header_is),
          ),
          λ none. header_changed (header_at I L n) attributes (header_at K L n) changed_then,
          entered_at e K lbns (header_change.blocks_stay header_is held_now) (header_change.contents_stay header_is held_now (entry.one entry_is new.bytes) ∙ contents_now ∙ grown_now)
              (attributes_then ∙ ap (marked (attributes_of header) new.slot.mark) count_is ∙ sym (mark_moves e (length lbns) moved)),
        );
        elsewhere = (
          length-set J x c ∙ length-set I lbn b,
          λ y untouched.
              get_or-set_other J x y c [] (λ g. untouched (inr (inl (n, own_header, place ∙ ap Some (sym g)))))
              ∙ get_or-set_other I lbn y b [] (λ g. untouched (inr (inr (new.slot.at / 512 + 1, subst (λ z. Holds I L n (new.slot.at / 512 + 1) z) (sym g) h)))),
        );
      })
