-- An Enter of a sound volume whose directory takes a block: what the blocks are then, and what they show.
use Rattle.std.proofs.Common.{◌≡◌, ◌≢◌, ℕ, ◌+◌, ◌*◌, ◌%◌, ◌≤◌, zero, refl, ap, sym, ◌∙◌, subst, cond, true, List, [], ◌∷◌, ◌++◌, length, get_or, Option, Some, None, arith, inl, inr}
use Rattle.std.specs.Prelude.{◌⊎◌, MatchOption, slice_set, unwrap_or, nat_le}
use Rattle.std.proofs.lemmas.List.{length-append, length-map, length-take, map-append}
use Rattle.std.specs.List.{Contains}
use Rattle.ods_header.proofs.DirectoryHeaders.{above_maps}
use Rattle.ods_base.specs.Block.{with_bytes, zeros}
use Rattle.ods_base.specs.Image.{IsImage, block_at}
use Rattle.ods_base.specs.Name.{RadName}
use Rattle.ods_base.specs.declared.file_id.FileId.{FileId}
use Rattle.ods_base.specs.declared.file_id.Uic.{Uic}
use Rattle.ods_header.specs.Attributes.{IsWithAttributes, KeepsOtherFields}
use Rattle.ods_header.specs.Header.{IsValidHeader, attributes_of}
use Rattle.ods_change.proofs.KeptFields.{SaysTheSame, says_the_same}
use Rattle.ods_space.specs.Layout.{VolumeLayout, header_at, place_of}
use Rattle.ods_space.specs.Files.{IsLayoutOf}
use Rattle.ods_space.specs.Chain.{IsChain}
use Rattle.ods_space.specs.Draft.{Changes, applied}
use Rattle.ods_space.proofs.Drafts.{applied_over}
use Rattle.ods_space.specs.Free.{free_blocks}
use Rattle.ods_alloc.specs.Extend.{CanExtend, Extends, IsWellPlaced, with_in_use}
use Rattle.ods_directory.specs.Mark.{IsSlot, grown, mark_in, marked, written}
use Rattle.ods_directory.specs.Names.{IsDirectory, names_of as names_in}
use Rattle.ods_mount.specs.Faults.{contents_of}
use Rattle.ods_mount.specs.Sound.{IsSoundBy}
use Rattle.ods_request.specs.declared.requests.Request.{Request}
use Rattle.ods_request.specs.declared.requests.Request.TheVariants.{Enter}
use Rattle.ods_request.specs.declared.answers.Answer.TheVariants.{Entered}
use Rattle.ods_request.specs.declared.refusals.Refusal.{Refusal}
use Rattle.ods_request.specs.declared.refusals.Refusal.TheVariants as refusal
use Rattle.ods_request.specs.Catalogue.{Catalogue, Directory, Plain, System}
use Rattle.ods_request.specs.Steps.{after, put, file_at, no_file, with_body}
use Rattle.ods_state.specs.Contents.{body_of, file_of, ShowsBy}
use Rattle.ods_state.specs.Change.{disk}
use Rattle.ods_state.specs.Served.{IsRefusalOf, IsShortOf, IsStepOf}
use Rattle.ods_state.specs.Wants.{Lacks, Wants, index_growth, lack_for, lack_of, room_in, allocated_blocks, allocated_numbers}
use Rattle.ods_state.proofs.Grown.{own_blocks, own_contents}
use Rattle.ods_state.proofs.GrownMoves.{grown_taken, grown_touches, sequences_rise}
use Rattle.ods_state.proofs.GrownShown.{grown_is_put}
use Rattle.ods_state.proofs.GrownSound.{grown_sound}
use Rattle.ods_state.specs.Growth.{IsGrowth, IsReady, IsTaking}
use Rattle.ods_state.proofs.GrowthChain.{kept_chain, ready_chain}
use Rattle.ods_state.proofs.GrowthMade.{grows as grows_to, made as headers_made, filled as blocks_filled}
use Rattle.ods_state.proofs.Bookkeeping.{well_placed}
use Rattle.ods_state.proofs.GrowthReady.{header_stays, ready_layout}
use Rattle.ods_state.proofs.GrowthAllocates.{can_extend, is_enough}
use Rattle.ods_state.proofs.Served.{carried_is_step, refused_for_memory}
use Rattle.ods_state.proofs.Wanted.{may_take, none_lacks}
use Rattle.ods_look.specs.Opening.{file_shown}
use Rattle.ods_look.proofs.FileBodies.{directory_body}
use Rattle.ods_change.specs.declared.entry.NewEntry.{NewEntry}
use Rattle.ods_change.specs.Entering.{IsEntryFor, IsAllocatedFor}
use Rattle.ods_change.proofs.AttributesReplaced.{HasOtherAttributes}
use Rattle.ods_change.proofs.AttributesReplaced as header_change
use Rattle.ods_change.proofs.BehindBlocks.{slot_behind, written_behind}
use Rattle.ods_change.proofs.GrowingChain.{blocks_before, chain_before, headers_behind}
use Rattle.ods_change.proofs.EnteredAt.{entered_at, mark_moves, names_entered, names_then_in}
use Rattle.ods_change.proofs.Marks.{marked_is}
use Rattle.ods_change.proofs.ReadyDirectory.{header_ready, block_ready, is_ready}
use Rattle.ods_change.proofs.AllocatingBlocks.{by_numbers}

-- with a header that says the same, a file is the same
same_file : (n : ℕ) (b c : List ℕ) (blocks : List (List ℕ)) → SaysTheSame b c → file_of n c blocks ≡ file_of n b blocks
unfolding file_of body_of
same_file n b c blocks s = λ i. record {
  owner = s.owner i;
  protection = s.protection i;
  user_char = s.user_char i;
  system_char = s.system_char i;
  ident = s.ident i;
  body = body i;
}
  where
    body : body_of n c blocks ≡ body_of n b blocks
    body = λ i. cond (nat_le n 2) System (cond (s.kind n i) (Directory (names_in blocks (mark_in (s.attributes i) (length blocks)))) (Plain (s.attributes i) blocks))

-- What directory n, with these headers, writes and takes for this entry: the new block x, the first header c at y with the count of blocks, and numbers for headers.
pub record IsGrowing (I : List (List ℕ)) (L : VolumeLayout) (n : ℕ) (new : NewEntry) (headers : List ℕ) (x y count : ℕ) (c numbers : List ℕ) : Type 0 where
  pub place : place_of L n ≡ Some y
  pub taken : allocated_blocks I L 1 ≡ x ∷ []
  pub counted : count ≡ length new.opened.blocks + 1
  pub size : length (attributes_of (header_at I L n)) ≡ 32
  pub changed : IsWithAttributes (header_at I L n) (marked (attributes_of (header_at I L n)) new.slot.mark count) c
  pub fields : KeepsOtherFields (header_at I L n) (marked (attributes_of (header_at I L n)) new.slot.mark count) c
  pub fresh : numbers ≡ allocated_numbers I L headers 1
  pub enough : lack_of I L headers 1 ≡ None
  pub no_growth : index_growth L (allocated_numbers I L headers 1) ≡ 0

-- where nothing is lacking, one block is taken
pub one_taken : (I : List (List ℕ)) (L : VolumeLayout) (headers : List ℕ) → lack_of I L headers 1 ≡ None → length (allocated_blocks I L 1) ≡ 1
one_taken I L headers enough = let fits = (is_enough I L headers 1 enough).blocks in omega (arith, length-take 1 (free_blocks I L))

pub only_one : (xs : List ℕ) (d : ℕ) → length xs ≡ 1 → xs ≡ get_or xs 0 d ∷ []
only_one [] d one = absurd (omega (arith, one))
only_one (x ∷ []) d one = refl
only_one (x ∷ y ∷ ys) d one = absurd (omega (arith, one))

module _ {I : List (List ℕ)} {L : VolumeLayout} (S : IsSoundBy I L) {who : Uic} {dir : FileId} {name : RadName} {given : Option ℕ} {file : FileId} {new : NewEntry}
    (e : IsEntryFor I L who dir name given file new) (grows : new.slot.grows ≡ true) where
  abbrev n : ℕ
  n = dir.number

  abbrev old : List ℕ
  old = e.own.is.lbns

  abbrev others : List ℕ
  others = e.own.is.held.others

  abbrev headers : List ℕ
  headers = n ∷ others

  abbrev request : Request
  request = Enter dir name given file

  -- the request wants a block for its directory
  pub wants : Wants I L request headers old 1
  wants = (
    (others, refl, e.own.is.held.whole),
    (
      new.slot,
      subst (λ m. IsSlot (contents_of I old) m new.slot) e.own.is.mark (subst (λ bs. IsSlot bs new.opened.mark new.slot) e.own.is.contents e.slot),
      grows,
    ),
    refl,
  )

  behind : (new.slot.at ≡ 512 * length new.opened.blocks) × (new.slot.mark ≡ 512 * length new.opened.blocks + 16)
  behind = slot_behind new.opened.blocks new.opened.mark new.slot e.slot grows e.own.is.inside

  -- the entry stands at the head of its block
  pub at_the_head : new.slot.at % 512 ≡ 0
  at_the_head = let at = behind.0 in omega (arith, at)

  pub moves : new.slot.mark ≢ new.opened.mark
  moves same = let inside = e.own.is.inside in let end = behind.1 in absurd (omega arith)

  abbrev b : List ℕ
  b = with_bytes zeros 0 new.bytes

  -- there is what the directory takes
  pub taking : (numbers : List ℕ) → numbers ≡ allocated_numbers I L headers 1 → lack_of I L headers 1 ≡ None → index_growth L (allocated_numbers I L headers 1) ≡ 0 → IsTaking I L n headers old 1 numbers
  taking numbers are enough still = record { above = above_maps n (header_at I L n) e.own.is.kind; before = inl (e.own.file.0, wants.0); all = ap (λ l. headers ++ l) are; enough = enough; no_growth = still }

  -- what it lacks, of so many headers and that room in the last, or want of memory, is why the Enter is refused
  pub refused : (f : Refusal) (count room : ℕ) → (count ≡ length headers) × (room ≡ room_in I L headers)
      → (f ≡ refusal.NoMemory) ⊎ (lack_for I L count room 1 ≡ Some f) → IsRefusalOf I L who request f
  refused f count room end (inl is) C shown = subst (IsRefusalOf I L who request) (sym is) (refused_for_memory I L who request refl (λ D known. (e.answered D known).0)) C shown
  refused f count room end (inr lacks) C shown = subst (λ o. MatchOption o (IsShortOf I L request f) (λ g. f ≡ g)) (sym (e.answered C shown).0) (inl lacking)
    where
      lacking : Lacks I L request f
      lacking = record { headers = headers; blocks = old; count = 1; wants = wants; lacking = by_numbers (λ h r. lack_for I L h r 1 ≡ Some f) end.0 end.1 lacks }

  module _ {x y count : ℕ} {c numbers : List ℕ} (d : IsGrowing I L n new headers x y count c numbers) where
    abbrev place : place_of L n ≡ Some y
    place = d.place

    abbrev taken : allocated_blocks I L 1 ≡ x ∷ []
    taken = d.taken

    abbrev counted : count ≡ length new.opened.blocks + 1
    counted = d.counted

    abbrev size : length (attributes_of (header_at I L n)) ≡ 32
    size = d.size

    abbrev w : IsWithAttributes (header_at I L n) (marked (attributes_of (header_at I L n)) new.slot.mark count) c
    w = d.changed

    abbrev fields : KeepsOtherFields (header_at I L n) (marked (attributes_of (header_at I L n)) new.slot.mark count) c
    fields = d.fields

    abbrev header : List ℕ
    header = header_at I L n

    abbrev attributes : List ℕ
    attributes = marked (attributes_of header) new.slot.mark count

    abbrev K : List (List ℕ)
    K = slice_set (slice_set I x b) y c

    header_is : HasOtherAttributes I L dir y header attributes c
    header_is = record { sound = S; place = place; was = refl; valid = e.own.is.held.file.valid; sequence = e.own.file.1; changed = w; fields = fields }

    t : IsTaking I L n headers old 1 numbers
    t = taking numbers d.fresh d.enough d.no_growth

    ready : IsReady I K L n headers 1
    ready = is_ready S b e.own.is.held.file.valid place taken w others

    -- the chain can grow
    pub chain_ready : IsImage I → {M : List (List ℕ)} {ns bs blocks : List ℕ} → K ≡ M → ns ≡ others → bs ≡ old → blocks ≡ allocated_blocks I L 1
        → IsLayoutOf M L × IsWellPlaced L × IsChain (with_in_use M L.home n) L n ns bs × CanExtend M L n ns blocks numbers
    chain_ready image {M = M} {ns = ns} {bs = bs} {blocks = blocks} here first before block =
        subst (λ l. IsLayoutOf M L × IsWellPlaced L × IsChain (with_in_use M L.home n) L n ns bs × CanExtend M L n ns l numbers) (sym block)
        (subst (λ l. IsLayoutOf M L × IsWellPlaced L × IsChain (with_in_use M L.home n) L n ns l × CanExtend M L n ns (allocated_blocks I L 1) numbers) (sym before)
        (subst (λ l. IsLayoutOf M L × IsWellPlaced L × IsChain (with_in_use M L.home n) L n l old × CanExtend M L n l (allocated_blocks I L 1) numbers) (sym first)
        (subst (λ X. IsLayoutOf X L × IsWellPlaced L × IsChain (with_in_use X L.home n) L n others old × CanExtend X L n others (allocated_blocks I L 1) numbers) here (
          ready_layout I K L S n headers old 1 numbers t ready,
          well_placed I L S,
          ready_chain I K L S n headers old 1 numbers t ready image,
          can_extend I K L S n headers old 1 numbers t ready,
        ))))

    -- and it is, walked along, what it was
    pub walked_now : IsImage I → {M : List (List ℕ)} → K ≡ M → IsImage M → (headers_behind M L n ≡ others) × (blocks_before M L n ≡ old)
    walked_now image {M = M} here now =
        chain_before M L n others old now
        (subst (λ X. IsLayoutOf X L) here (ready_layout I K L S n headers old 1 numbers t ready))
        (subst (λ X. IsChain X L n others old) here (kept_chain I K L S n headers old 1 numbers t ready image e.own.file.0))

    -- its first header is the new one, and its other headers stay
    pub headers_ready : {M : List (List ℕ)} → K ≡ M → (header_at M L n ≡ c) × ((m : ℕ) → m ≢ n → header_at M L m ≡ header_at I L m)
    headers_ready here =
        subst (λ X. (header_at X L n ≡ c) × ((m : ℕ) → m ≢ n → header_at X L m ≡ header_at I L m)) here
        (header_ready S b e.own.is.held.file.valid place taken w, header_stays I K L S n headers old 1 numbers t ready)

    module _ (J : List (List ℕ)) (ext : Extends K L n others old (allocated_blocks I L 1) numbers J) where
      g : IsGrowth I J L n headers old 1 numbers
      g = grows_to I K J L S n headers old 1 numbers t ready ext

      filled : block_at J x ≡ block_at K x
      filled = blocks_filled I K J L S n headers old 1 numbers t ready ext x (subst (λ bs. Contains bs x) (sym taken) (zero, omega arith, refl))

      abbrev all : List ℕ
      all = old ++ allocated_blocks I L 1

      abbrev now : List (List ℕ)
      now = written (grown new.opened.blocks new.slot) new.slot.at new.bytes

      contents_then : contents_of J all ≡ now
      contents_then =
          ap (λ t. contents_of J (old ++ t)) taken ∙ map-append (block_at J) old (x ∷ [])
          ∙ (λ i. (own_contents S g ∙ sym e.own.is.contents) i ++ (filled ∙ block_ready S b e.own.is.held.file.valid place taken w) i ∷ [])
          ∙ sym (written_behind new.opened.blocks new.slot new.bytes grows behind.0)

      long_then : length all ≡ count
      long_then =
          let one : length (allocated_blocks I L 1) ≡ 1 = ap length taken in
          let before : length new.opened.blocks ≡ length old = ap length e.own.is.contents ∙ length-map old (block_at I) in
          omega (arith, length-append old (allocated_blocks I L 1))

      -- the header in K, and what it says in J
      same : SaysTheSame c (header_at J L n)
      same =
          let ready : header_at K L n ≡ c = header_ready S b e.own.is.held.file.valid place taken w in
          subst (λ d. SaysTheSame d (header_at J L n)) ready
          (says_the_same (header_at K L n) (header_at J L n) n (subst (λ d. IsValidHeader d n) (sym ready) (fields n e.own.is.held.file.valid).0) (ext.sizes 0 0 (omega arith)) (ext.stays 0 0 (omega arith)))

      attributes_now : attributes_of (header_at J L n) ≡ attributes
      attributes_now = same.attributes ∙ w.attributes

      mark_by : (a : List ℕ) (k : ℕ) → a ≡ attributes → k ≡ count → mark_in a k ≡ new.slot.mark
      mark_by a k same is =
          let end = behind.1 in
          let inside : new.slot.mark ≤ 512 * count = omega (arith, end, counted) in
          (λ i. mark_in (same i) (is i)) ∙ marked_is (attributes_of header) new.slot.mark count size inside

      sound_now : IsSoundBy J L
      sound_now = grown_sound S g (λ d.
          subst (λ m. IsDirectory (contents_of J all) m) (sym (mark_by (attributes_of (header_at J L n)) (length all) attributes_now long_then)) (subst (λ bs. IsDirectory bs new.slot.mark) (sym contents_then) e.stays))

      body_now : (C : Catalogue) → ShowsBy I L C → body_of n c now ≡ Directory (names_then_in e C)
      body_now C shown =
          directory_body n c now (header_change.kind_stays header_is ∙ e.own.is.kind)
          ∙ ap (λ k. Directory (names_in now k)) (mark_by (attributes_of c) (length now) w.attributes (ap length (sym contents_then) ∙ length-map all (block_at J) ∙ long_then))
          ∙ ap Directory (names_entered e C shown)

      file_now : (C : Catalogue) → ShowsBy I L C → file_of n (header_at J L n) (contents_of J all) ≡ with_body (file_shown I L dir old) (Directory (names_then_in e C))
      file_now C shown =
          same_file n c (header_at J L n) (contents_of J all) same ∙ ap (file_of n c) contents_then
          ∙ header_change.file_is header_is (contents_of I old) now (Directory (names_then_in e C)) (body_now C shown)

      is_shown : (C : Catalogue) → ShowsBy I L C → ShowsBy J L (after C request)
      unfolding after
      is_shown C shown =
          let there : file_at C dir ≡ file_shown I L dir old = ap (λ f. unwrap_or f no_file) (e.own.passes C shown).there in
          subst (λ f. ShowsBy J L (put C dir (with_body f (Directory (names_then_in e C))))) (sym there)
          (grown_is_put S g dir refl e.own.file.0 e.own.file.1 C (with_body (file_shown I L dir old) (Directory (names_then_in e C))) shown (record {
            blocks = all;
            held = own_blocks S g;
            sequence = g.kept n (zero, omega arith, refl) ∙ e.own.file.1;
            shown = file_now C shown;
          }))

      -- the Enter is made by the new block with the entry, the header with the new mark, and the chain that grows
      pub enter_grown : IsImage I → IsStepOf I L who request (Entered new.version) J L
      enter_grown image = carried_is_step I L who request (Entered new.version) J refl (none_lacks I L request headers old 1 wants g.taking.enough) (record {
        answered = e.answered;
        sound = sound_now;
        shown = is_shown;
        sequences = sequences_rise S g;
        moves = (
          may_take I L request headers old 1 wants (disk J L) (grown_taken S g image (headers_made I K J L S n headers old 1 numbers t ready ext)),
          λ none. absurd (none headers old 1 wants),
          entered_at e J all (own_blocks S g) contents_then (attributes_now ∙ ap (marked (attributes_of header) new.slot.mark) (sym long_then) ∙ sym (mark_moves e (length all) moves)),
        );
        elsewhere = (g.long, λ z untouched. grown_touches S g request wants z (λ t. untouched (inl t)));
      })

    -- so each growth of that chain makes the Enter
    pub enter_behind : IsImage I → {M J : List (List ℕ)} {ns bs blocks : List ℕ} → K ≡ M → ns ≡ others → bs ≡ old → blocks ≡ allocated_blocks I L 1 → Extends M L n ns bs blocks numbers J
        → IsStepOf I L who request (Entered new.version) J L
    enter_behind image {M = M} {J = J} {ns = ns} {bs = bs} {blocks = blocks} here first before block ext =
        enter_grown J
        (subst (λ X. Extends X L n others old (allocated_blocks I L 1) numbers J) (sym here)
        (subst (λ l. Extends M L n l old (allocated_blocks I L 1) numbers J) first
        (subst (λ l. Extends M L n ns l (allocated_blocks I L 1) numbers J) before
        (subst (λ l. Extends M L n ns bs l numbers J) block ext)))) image

-- a directory grows so by what its Enter finds and takes
pub growing : {I : List (List ℕ)} {L : VolumeLayout} {who : Uic} {dir : FileId} {name : RadName} {given : Option ℕ} {file : FileId} {new : NewEntry}
    (e : IsEntryFor I L who dir name given file new) (grows : new.slot.grows ≡ true) (blocks numbers fresh : List ℕ) (x y count : ℕ) (c : List ℕ)
    → IsAllocatedFor I L dir.number blocks numbers → x ≡ get_or blocks 0 0 → fresh ≡ numbers → place_of L dir.number ≡ Some y → count ≡ length new.opened.blocks + 1
    → length (attributes_of new.opened.header.now) ≡ 32 → IsWithAttributes new.opened.header.now (marked (attributes_of new.opened.header.now) new.slot.mark count) c
    → KeepsOtherFields new.opened.header.now (marked (attributes_of new.opened.header.now) new.slot.mark count) c
    → IsGrowing I L dir.number new (dir.number ∷ e.own.is.held.others) x y count c fresh
growing {I = I} {L = L} {dir = dir} {new = new} e grows blocks numbers fresh x y count c taken first same place counted size changed fields =
    let headers : List ℕ = dir.number ∷ e.own.is.held.others in
    let got = taken headers e.own.is.lbns (e.own.is.held.others, refl, e.own.is.held.whole) in
    record {
      place = place;
      taken = only_one (allocated_blocks I L 1) 0 (one_taken I L headers got.2) ∙ ap (λ z. z ∷ []) (ap (λ l. get_or l 0 0) (sym got.0) ∙ sym first);
      counted = counted;
      size = subst (λ h. length (attributes_of h) ≡ 32) e.own.is.header size;
      changed = subst (λ h. IsWithAttributes h (marked (attributes_of h) new.slot.mark count) c) e.own.is.header changed;
      fields = subst (λ h. KeepsOtherFields h (marked (attributes_of h) new.slot.mark count) c) e.own.is.header fields;
      fresh = same ∙ got.1;
      enough = got.2;
      no_growth = got.3;
    }

-- the two changes that stand over a draft before the chain grows
pub ready_is : (I : List (List ℕ)) (x y : ℕ) (b made c : List ℕ) (base draft : Changes) → made ≡ b → draft ≡ (y, c) ∷ (x, made) ∷ base → slice_set (slice_set (applied I base) x b) y c ≡ applied I draft
ready_is I x y b made c base draft same is =
    ap (λ d. slice_set (slice_set (applied I base) x d) y c) (sym same) ∙ ap (λ Z. slice_set Z y c) (sym (applied_over I base x made))
    ∙ sym (applied_over I ((x, made) ∷ base) y c) ∙ ap (applied I) (sym is)
