-- What putting a file leaves of the volume, for the user and for the file's owner.
use Rattle.std.proofs.Common.{◌≡◌, ◌∙◌, refl, ap, sym, subst, inl, inr, ℕ, List, [], ◌∷◌, Bool, true, false, cond, Option, Some, None, is_some, map}
use Rattle.std.specs.Prelude.{◌≢◌, nat_eq, slice_index, unwrap_or}
use Rattle.std.specs.List.{All}
use Rattle.std.specs.Option.{option_or}
use Rattle.std.proofs.lemmas.List.Elements.{All-cons, All-nil}
use Rattle.ods_base.specs.Name.{RadName}
use Rattle.ods_base.specs.declared.file_id.FileId.{FileId}
use Rattle.ods_base.specs.declared.file_id.Uic.{Uic}
use Rattle.ods_base.specs.declared.name.Pick.TheVariants.{Exact, Highest}
use Rattle.ods_request.specs.declared.answers.Stat.{Stat as Shown}
use Rattle.ods_request.specs.declared.requests.Request.{Request}
use Rattle.ods_request.specs.declared.requests.Request.TheVariants.{Delete, Enter, LookUp, Remove, Stat}
use Rattle.ods_filing.specs.Filed.{Filed, for_another}
use Rattle.ods_filing.specs.Led.{Asks, IsLed, IsObeyed, Permits}
use Rattle.ods_filing.specs.Put.{Heading, block_count}
use Rattle.ods_filing.proofs.Led.{allows_more, led_to, obeyed, same_user, stays, then_led, then_obeyed}
use Rattle.ods_upkeep.specs.HostPut.{AreCountedOn, AreNotedOn, IsHostPut, IsPutAs, IsStill, IsVersionFor}
use Rattle.ods_upkeep.specs.Kinds.{Copies, Puts}
use Rattle.ods_upkeep.specs.Left.{InPut, replaces}
use Rattle.ods_upkeep.specs.Legs.{IsKeptLeg, IsPutLed}
use Rattle.ods_upkeep.specs.PutFor.{IsMadeFor, IsPut, IsStored}
use Rattle.ods_upkeep.specs.Removed.{Does}
use Rattle.ods_upkeep.specs.Replaced.{KeepsAccess, placing_kept}
use Rattle.ods_upkeep.specs.Rooms.{IsFreed, IsReplaced, IsRoomMade, IsThere, counts_left, file_left, pick_for}
use Rattle.ods_upkeep.specs.Versions.{Noted}
use Rattle.ods_upkeep.specs.declared.asked.Placing.{Placing}
use Rattle.ods_upkeep.specs.declared.asked.Placing.TheVariants.{Anywhere, InOnePiece}
use Rattle.ods_upkeep.proofs.Lists.{copies_puts, fills_copies}

-- a file that the user makes for himself
pub own_made : (dir : FileId) (version : Option ℕ) (heading : Heading) (attributes bytes : List ℕ) (file : FileId) (old new : Filed) (placing : Placing) (owner : Uic) → placing ≡ Anywhere → owner ≡ old.user
    → IsMadeFor placing owner dir version heading attributes bytes file old new → IsLed Copies old new
own_made dir version heading attributes bytes file old new placing owner anywhere is made =
    let stored = subst (λ p. IsStored p heading attributes bytes file (for_another old owner) made.made) anywhere made.stored in
    let filled : IsLed Copies (for_another old owner) made.made = allows_more fills_copies stored.0 in
    let first : IsLed Copies old made.made = subst (λ who. IsLed Copies (for_another old who) made.made) is filled in
    let user : made.made.user ≡ old.user = same_user stored.0 ∙ is in
    then_obeyed (Enter dir heading.name version file) tt first (subst (λ u. IsObeyed (for_another made.made u) (Enter dir heading.name version file) new) (sym user) made.entered)

-- requests of an allowed kind, each accepted
does_led : {Allows : Request → Type 0} {old new : Filed} (requests : List Request) → All (Permits Allows) (map Asks requests) → Does old requests new → IsLed Allows old new
does_led requests fits done = record { deeds = map Asks requests; allowed = fits; leads = done }

-- the file that no entry names may be deleted
deletes : (b : Bool) (file : FileId) → All (Permits (Puts true)) (map Asks (cond b (Delete file ∷ []) []))
deletes true file = All-cons (Permits (Puts true)) (Asks (Delete file)) [] refl (All-nil (Permits (Puts true)))
deletes false file = All-nil (Permits (Puts true))

file_leaves : (there : Bool) (counts : ℕ → ℕ) (file : FileId) → All (Permits (Puts true)) (map Asks (file_left there counts file))
file_leaves true counts file = deletes (nat_eq (counts file.number) 0) file
file_leaves false counts file = All-nil (Permits (Puts true))

-- it is looked at
shown_led : (held : Option Shown) (file : FileId) (old new : Filed) → IsThere old file held new → IsLed (Puts true) old new
shown_led (Some shown) file old new there = obeyed (Stat file) refl (_, there.0)
shown_led None file old new there = led_to new there.1 (stays old)

-- its entry goes, and it
gone_led : (dir : FileId) (name : RadName) (version : ℕ) (file : FileId) (held : Option Shown) (before after : List ℕ) (old new : Filed) → (r : IsReplaced dir name version file held before after old new) → IsLed (Puts true) r.known new
gone_led dir name version file held before after old new r =
    let there : Bool = is_some held in
    let left : List Request = file_left there (counts_left there (slice_index before) file) file in
    does_led (Remove dir name (Exact version) ∷ left)
    (All-cons (Permits (Puts true)) (Asks (Remove dir name (Exact version))) (map Asks left) refl (file_leaves there (counts_left there (slice_index before) file) file)) r.gone

freed_led : (dir : FileId) (name : RadName) (said : Option ℕ) (version : ℕ) (held : Option Shown) (before after : List ℕ) (old new : Filed) → IsFreed dir name said version held before after old new → IsLed (Puts true) old new
freed_led dir name said version held before after old new freed =
    let r = freed.replaced in
    then_led (obeyed (LookUp dir name (pick_for said)) tt (_, freed.found))
    (then_led (shown_led held freed.file freed.seen r.known r.shown) (gone_led dir name version freed.file held before after freed.seen new r))

-- room is made
pub room_led : (dir : FileId) (name : RadName) (said free : Option ℕ) (held : Option Shown) (before after : Option (List ℕ)) (old new : Filed) → IsRoomMade dir name said free held before after old new
    → IsLed (Puts (is_some before)) old new
room_led dir name said free held None after old new room = led_to new room.3 (stays old)
room_led dir name said free held (Some before) after old new room = elim room [
  | inl none ↦ led_to new none.0.2 (stays old)
  | inr one ↦ freed_led dir name said one.0 held before one.1.0 old new one.1.3
]

-- nothing is known of a file where none is replaced
none_held : (dir : FileId) (name : RadName) (said free : Option ℕ) (held : Option Shown) (before after : Option (List ℕ)) (old new : Filed) → IsRoomMade dir name said free held before after old new → is_some before ≡ false → held ≡ None
none_held dir name said free held None after old new room none = room.1
none_held dir name said free held (Some before) after old new room none = absurd (let wrong : true ≡ false = none in cc)

-- the version is known, or looked up
pub version_led : (replaces : Bool) (highest : Option Noted) (old : Filed) (dir : FileId) (name : RadName) (said : Option ℕ) (version : ℕ) (new : Filed)
    → IsVersionFor highest old dir name said version new → IsLed (Puts replaces) old new
version_led replaces highest old dir name (Some said) version new is = led_to new is.1 (stays old)
version_led replaces (Some noted) old dir name None version new is = led_to new is.1 (stays old)
version_led replaces None old dir name None version new is = elim is [
  | inl one ↦ obeyed (LookUp dir name Highest) tt (_, one.1.1)
  | inr none ↦ led_to new none.0.2 (stays old)
]

-- what is put, by what each step of it leaves
pub put_as : (p q : InPut) (name : RadName) (attributes bytes all : List ℕ) (old mid seen filed new : Filed) (free : Option ℕ) (held : Option Shown) (said : Option ℕ) (left : Option (List ℕ)) (version : ℕ) (user owner : Uic)
    (placing : Placing) (count : ℕ) (file : FileId)
    → IsRoomMade p.target.directory name p.target.version free held p.names left old mid → said ≡ option_or free p.target.version
    → IsVersionFor p.highest mid p.target.directory name said version seen → user ≡ seen.user → owner ≡ unwrap_or p.owner user → bytes ≡ all → placing ≡ placing_kept p.placing held → count ≡ block_count bytes
    → IsMadeFor placing owner p.target.directory said (record { name = name; version = version; stamp = p.stamp }) attributes bytes file seen filed
    → KeepsAccess p.owner placing count held file filed new → AreCountedOn left file q.names → AreNotedOn p.highest name version q.highest → IsStill p q → IsPutAs p name attributes all old q new
put_as p q name attributes bytes all old mid seen filed new free held said left version user owner placing count file room is next asks owns same placed counts made given counted noted still =
    let dir = p.target.directory in
    let heading : Heading = record { name = name; version = version; stamp = p.stamp } in
    let led : IsLed (Puts (is_some p.names)) old seen =
    then_led (room_led dir name p.target.version free held p.names left old mid room) (version_led (is_some p.names) p.highest mid dir name said version seen next) in
    let whose : owner ≡ unwrap_or p.owner old.user = owns ∙ ap (λ u. unwrap_or p.owner u) (asks ∙ same_user led) in
    record {
      free = free;
      held = held;
      left = left;
      mid = mid;
      room = room;
      version = version;
      seen = seen;
      next = subst (λ s. IsVersionFor p.highest mid dir name s version seen) is next;
      file = file;
      filed = filed;
      made = subst (λ k. IsMadeFor k (unwrap_or p.owner old.user) dir (option_or free p.target.version) heading attributes all file seen filed) placed
          (subst (λ u. IsMadeFor placing u dir (option_or free p.target.version) heading attributes all file seen filed) whose
          (subst (λ s. IsMadeFor placing owner dir s heading attributes all file seen filed) is (subst (λ b. IsMadeFor placing owner dir said heading attributes b file seen filed) same made)));
      given = subst (λ k. KeepsAccess p.owner k (block_count all) held file filed new) placed (subst (λ n. KeepsAccess p.owner placing n held file filed new) (counts ∙ ap block_count same) given);
      counted = counted;
      noted = noted;
      still = still;
    }

-- it is what the user's requests leave, then a file that is made for its owner, and what it keeps of the one that it replaces
pub put_is : (p q : InPut) (host bytes : List ℕ) (old new : Filed) → IsHostPut p host bytes old q new → IsPut (replaces p) p.placing p.owner old new
put_is p q host bytes old new is =
    let put = is.put in
    let dir = p.target.directory in
    let said = option_or put.free p.target.version in
    record {
      mid = put.seen;
      before = then_led (room_led dir is.name p.target.version put.free put.held p.names put.left old put.mid put.room) (version_led (replaces p) p.highest put.mid dir is.name said put.version put.seen put.next);
      dir = dir;
      version = said;
      heading = record { name = is.name; version = put.version; stamp = p.stamp };
      attributes = is.attributes;
      bytes = is.stored;
      file = put.file;
      filed = put.filed;
      held = put.held;
      made = put.made;
      alone = none_held dir is.name p.target.version put.free put.held p.names put.left old put.mid put.room;
      given = put.given;
    }

-- where no owner is said, and the blocks may stand anywhere, the user's requests make it
own_filed : (replaces : Bool) (placing : Placing) (said : Option Uic) (dir : FileId) (version : Option ℕ) (heading : Heading) (attributes bytes : List ℕ) (file : FileId) (old seen filed : Filed) → said ≡ None → placing ≡ Anywhere
    → IsLed (Puts replaces) old seen → IsMadeFor placing (unwrap_or said old.user) dir version heading attributes bytes file seen filed → IsLed (Puts replaces) seen filed
own_filed replaces placing said dir version heading attributes bytes file old seen filed none anywhere led made =
    let is : unwrap_or said old.user ≡ seen.user = ap (λ s. unwrap_or s old.user) none ∙ sym (same_user led) in
    allows_more (copies_puts replaces) (own_made dir version heading attributes bytes file seen filed placing (unwrap_or said old.user) anywhere is made)

-- blocks may stand anywhere that neither the words nor a replaced file place
anywhere_kept : (placing : Option Placing) → placing ≢ Some InOnePiece → placing_kept placing None ≡ Anywhere
anywhere_kept None other = refl
anywhere_kept (Some Anywhere) other = refl
anywhere_kept (Some InOnePiece) other = absurd (other refl)

-- A file is made where room is made for it, and receives what it keeps.
module _ (placing : Option Placing) (said : Option Uic) (dir : FileId) (version : Option ℕ) (heading : Heading) (attributes bytes : List ℕ) (count : ℕ) (file : FileId) (none : said ≡ None) (other : placing ≢ Some InOnePiece) where
  -- nothing is known of a file that it replaces
  none_kept : (replaces : Bool) (held : Option Shown) (old seen filed new : Filed) → held ≡ None → IsLed (Puts replaces) old seen
      → IsMadeFor (placing_kept placing held) (unwrap_or said old.user) dir version heading attributes bytes file seen filed → KeepsAccess said (placing_kept placing held) count held file filed new → IsLed (Puts replaces) old new
  none_kept replaces held old seen filed new is led made given =
      let same : new ≡ filed = subst (λ h. KeepsAccess said (placing_kept placing h) count h file filed new) is given in
      led_to new same
      (then_led led (own_filed replaces (placing_kept placing held) said dir version heading attributes bytes file old seen filed none (ap (placing_kept placing) is ∙ anywhere_kept placing other) led made))

  -- it replaces a file
  freed_kept : (held : Option Shown) (to : FileId) (name : RadName) (given : Option ℕ) (found : ℕ) (before after : List ℕ) (old mid seen filed new : Filed) → (freed : IsFreed to name given found held before after old mid) → IsLed (Puts true) mid seen
      → IsMadeFor (placing_kept placing held) (unwrap_or said old.user) dir version heading attributes bytes file seen filed → KeepsAccess said (placing_kept placing held) count held file filed new → IsPutLed true placing old new
  freed_kept None to name given found before after old mid seen filed new freed led made kept =
      inl (none_kept true None old seen filed new refl (then_led (freed_led to name given found None before after old mid freed) led) made kept)
  freed_kept (Some shown) to name given found before after old mid seen filed new freed led made kept =
      let r = freed.replaced in
      let whole : IsLed (Puts true) old seen = then_led (freed_led to name given found (Some shown) before after old mid freed) led in
      let leg : IsKeptLeg placing old new =
      record {
        seen = freed.seen;
        before = obeyed (LookUp to name (pick_for given)) tt (_, freed.found);
        replaced = freed.file;
        shown = shown;
        known = r.known;
        info = r.shown.0;
        filed = filed;
        led = λ anywhere.
            then_led (gone_led to name found freed.file (Some shown) before after freed.seen mid r)
            (then_led led (own_filed true (placing_kept placing (Some shown)) said dir version heading attributes bytes file old seen filed none anywhere whole made));
        file = file;
        count = count;
        kept = subst (λ s. KeepsAccess s (placing_kept placing (Some shown)) count (Some shown) file filed new) none kept;
      } in
      inr leg

  -- files are replaced, or not
  room_kept : (held : Option Shown) (to : FileId) (name : RadName) (given free : Option ℕ) (before after : Option (List ℕ)) (old mid seen filed new : Filed) → IsRoomMade to name given free held before after old mid
      → IsLed (Puts (is_some before)) mid seen → IsMadeFor (placing_kept placing held) (unwrap_or said old.user) dir version heading attributes bytes file seen filed
      → KeepsAccess said (placing_kept placing held) count held file filed new → IsPutLed (is_some before) placing old new
  room_kept held to name given free None after old mid seen filed new room led made kept =
      none_kept false held old seen filed new room.1 (then_led (room_led to name given free held None after old mid room) led) made kept
  room_kept held to name given free (Some before) after old mid seen filed new room led made kept = elim room [
    | inl none ↦ inl (none_kept true held old seen filed new none.2 (then_led (room_led to name given free held (Some before) after old mid (inl none)) led) made kept)
    | inr one ↦ freed_kept held to name given one.0 before one.1.0 old mid seen filed new one.1.3 led made kept
  ]

pub own_put : (p q : InPut) (host bytes : List ℕ) (old new : Filed) → IsHostPut p host bytes old q new → p.owner ≡ None → p.placing ≢ Some InOnePiece → IsPutLed (replaces p) p.placing old new
own_put p q host bytes old new is none other =
    let put = is.put in
    let dir = p.target.directory in
    let said = option_or put.free p.target.version in
    room_kept p.placing p.owner dir said (record { name = is.name; version = put.version; stamp = p.stamp }) is.attributes is.stored (block_count is.stored) put.file none other
    put.held dir is.name p.target.version put.free p.names put.left old put.mid put.seen put.filed new put.room
    (version_led (replaces p) p.highest put.mid dir is.name said put.version put.seen put.next) put.made put.given
