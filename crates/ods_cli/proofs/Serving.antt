-- Runs that serve scripts, from what was read to what is written.
use Rattle.std.proofs.Common.{◌≡◌, ◌≤◌, ℕ, List, [], ◌∷◌, ◌++◌, length, Option, Some, None, refl, sym, subst, inl, inr, arith, ◌∙◌}
use Rattle.std.specs.Prelude.{Result, Ok, Err, IfOk, IsOkUnless, MatchResult}
use Rattle.std.proofs.KnownBytes.{Keeps-refl}
use Rattle.ods_space.specs.Free.{free_blocks, free_numbers}
use Rattle.ods_space.specs.Layout.{VolumeLayout}
use Rattle.ods_mount.specs.Sound.{IsSoundBy}
use Rattle.ods_request.specs.declared.answers.Entry.{Entry}
use Rattle.ods_state.specs.Version.{State, IsLawful}
use Rattle.ods_state.proofs.Opening.{new_is_lawful}
use Rattle.ods_share.specs.Keeping.{EachEnded}
use Rattle.ods_share.specs.Scripts.{all_saw}
use Rattle.ods_share.specs.Settles.{Calls, IsSettled, AreLengths}
use Rattle.ods_share.specs.declared.keeping.Ended.{Ended}
use Rattle.ods_ask.specs.declared.script.Script.{Script}
use Rattle.ods_share.specs.declared.settlement.Report.{Report}
use Rattle.ods_cli.specs.declared.printed.Printed.{Printed}
use Rattle.ods_cli.specs.Printing.{ArePrinted}
use Rattle.ods_cli.specs.Reply.{AreImageBytes, IsReplyFault}
use Rattle.ods_cli.specs.Serve.{AreSound, AreRefused, EndsServe, EndsWriting, IsFaultOf, IsRefusedWith, IsReportFault, IsServedTo, IsServingFault, IsSoundImage, IsUntouched, Wrote, totals_text, wrote}
use Rattle.ods_cli.specs.Printed.{calls_kept, printed_of, printed_text}
use Rattle.ods_cli.specs.Writing.{IsCut}
use Rattle.ods_cli.specs.declared.fault.ServeFault.{ServeFault}
use Rattle.ods_cli.specs.declared.fault.ServeFault.TheVariants as fault
use Rattle.ods_cli.proofs.Printing.{Behind, behind}
use Rattle.ods_cli.proofs.Replies.{most_of_image}

-- to a writer that stays as it was nothing was written
pub untouched : {W : Type 0} (contents : W → Option (List ℕ)) (o : Option W) → IsUntouched (wrote contents o o)
untouched contents None = tt
untouched contents (Some w) = Keeps-refl (contents w)

-- what came of sessions at a desk of the new volume v, said by the image and the limit of the volume that came back
pub of_desk : (stamp : List ℕ) (scripts : List Script) (v w : State) (es : List (Ended Printed)) → v.entries ≡ [] → w.mounted ≡ v.mounted → w.limit ≡ v.limit →
    EachEnded ArePrinted v.mounted stamp (all_saw v.entries) (length w.entries ≡ v.limit) scripts es → EachEnded ArePrinted w.mounted stamp (all_saw []) (length w.entries ≡ w.limit) scripts es
of_desk stamp scripts v w es none mounted limit each =
    let one = subst (λ (E : List Entry). EachEnded ArePrinted v.mounted stamp (all_saw E) (length w.entries ≡ v.limit) scripts es) none each in
    let two = subst (λ (n : ℕ). EachEnded ArePrinted v.mounted stamp (all_saw []) (length w.entries ≡ n) scripts es) (sym limit) one in
    subst (λ (M : List (List ℕ)). EachEnded ArePrinted M stamp (all_saw []) (length w.entries ≡ w.limit) scripts es) (sym mounted) two

-- a volume whose list is settled was served so
pub served_to : (stamp : List ℕ) (scripts : List Script) (v : State) (es : List (Ended Printed)) (lists : List Calls) (printed : List Printed) (r : Report) (text : List ℕ) →
    IsLawful v → 1 ≤ length scripts → length es ≡ length scripts → EachEnded ArePrinted v.mounted stamp (all_saw []) (length v.entries ≡ v.limit) scripts es → lists ≡ calls_kept es → printed ≡ printed_of es →
    IsSettled v.mounted v lists × AreLengths v.entries lists r →
    text ≡ printed_text 1 printed ++ totals_text (length v.entries) (length (free_blocks v.image v.layout)) (length (free_numbers v.image v.layout)) →
    IsServedTo stamp scripts v.limit v.mounted v.image r text
served_to stamp scripts v es lists printed r text lawful some count each same alike settled lines =
    let b : Behind v.mounted (length v.entries ≡ v.limit) stamp scripts es = behind v.mounted (length v.entries ≡ v.limit) stamp scripts es count each in record {
      entries = v.entries;
      layout = v.layout;
      version = lawful.version;
      outcomes = b.outcomes;
      count = b.count;
      each = b.each;
      calls = rw (same, b.calls) at settled.0.calls;
      report = rw (same, b.calls) at settled.1;
      lines = rw (alike, b.text 1) at lines;
      unchanged = λ none. absurd (omega (arith, some, none));
    }

-- a volume whose list is not said is why the run is not served to the end
pub not_said : (stamp : List ℕ) (scripts : List Script) (v : State) (es : List (Ended Printed)) (lists : List Calls) (f : ServeFault) →
    IsLawful v → length es ≡ length scripts → EachEnded ArePrinted v.mounted stamp (all_saw []) (length v.entries ≡ v.limit) scripts es → lists ≡ calls_kept es →
    IsReportFault v lists f → IsServingFault stamp scripts v.mounted v.limit f
not_said stamp scripts v es lists fault.NoMemory lawful count each same why = tt
not_said stamp scripts v es lists fault.Unmatched lawful count each same why =
    let b : Behind v.mounted (length v.entries ≡ v.limit) stamp scripts es = behind v.mounted (length v.entries ≡ v.limit) stamp scripts es count each in record {
      volume = v;
      mounted = refl;
      limited = refl;
      lawful = lawful;
      outcomes = b.outcomes;
      count = b.count;
      each = b.each;
      wrong = subst (λ (cs : List Calls). IsReportFault v cs fault.Unmatched) (same ∙ b.calls) why;
    }
not_said stamp scripts v es lists fault.NoThread lawful count each same why = absurd why
not_said stamp scripts v es lists fault.Read lawful count each same why = absurd why
not_said stamp scripts v es lists fault.Write lawful count each same why = absurd why
not_said stamp scripts v es lists (fault.WriteOut part) lawful count each same why = absurd why
not_said stamp scripts v es lists (fault.Refused number) lawful count each same why = absurd why

-- what `no script` means
none_of : (ss : List Script) → length ss ≡ 0 → ss ≡ []
none_of [] e = refl
none_of (s ∷ ss) e = absurd (omega (arith, e))

-- a sound image on which no script is served stays as it is
pub unserved_to : (stamp : List ℕ) (scripts : List Script) (limit : ℕ) (I : List (List ℕ)) (L : VolumeLayout) (r : Report) (text : List ℕ) →
    length scripts ≡ 0 → IsSoundBy I L → r.entries ≡ 0 → r.of_session.items ≡ [] →
    text ≡ totals_text 0 (length (free_blocks I L)) (length (free_numbers I L)) → IsServedTo stamp scripts limit I I r text
unserved_to stamp scripts limit I L r text none sound entries of_session lines =
    subst (λ (ss : List Script). IsServedTo stamp ss limit I I r text) (sym (none_of scripts none)) (record {
      entries = [];
      layout = L;
      version = (new_is_lawful I L sound 1).version;
      outcomes = [];
      count = refl;
      each = λ k s o below. absurd (omega (arith, below));
      calls = record { sessions = λ k e below. absurd (omega (arith, below)); each = λ k d below. absurd (omega (arith, below)) };
      report = record { all = entries; of_session = of_session };
      lines = lines;
      unchanged = λ _. refl;
    })

-- a run whose writing failed is cut, and has no image
pub cut_short : (report : Report) (text : List ℕ) (J : List (List ℕ)) (replies : Wrote) (out : Option Wrote) (f : ServeFault) →
    IsCut replies.old replies.new text f → IsUntouched out → EndsWriting report text J replies out (Err f)
cut_short report text J replies out f cut same =
    let P : ServeFault → Type 0 = λ e. EndsWriting report text J replies out (Err e) in subst P (sym cut.0) (cut.1, same)

-- a report that goes out as it is has no more entries
pub within : (r : Result Report ServeFault) (said : Report) (limit : ℕ) → IfOk r (λ x. x ≡ said) → said.entries ≤ limit → IfOk r (λ x. x.entries ≤ limit)
within (Ok x) said limit same few = subst (λ (y : Report). y.entries ≤ limit) (sym same) few
within (Err f) said limit same few = tt

-- the image, or a fault of it, is that of the bytes
pub of_image : {M N : Type 0} (image_of : M → List (List ℕ)) (number : N → ℕ) (line : N → List ℕ) (r : Result (Result M N) ServeFault)
    (bytes : List ℕ) (rest : Option (List ℕ)) (I : List (List ℕ)) → AreImageBytes bytes rest I →
    IfOk r (λ found. MatchResult found (λ m. (image_of m ≡ I) × IsSoundImage I) (λ n. IsFaultOf I (number n) (line n))) → IsOkUnless r fault.NoMemory →
    MatchResult r (λ found. MatchResult found (λ m. AreSound bytes rest (image_of m)) (λ n. AreRefused bytes rest (number n) (line n))) (IsReplyFault bytes)
of_image image_of number line (Ok (Ok m)) bytes rest I read found only =
    let P : List (List ℕ) → Type 0 = λ J. AreSound bytes rest J in subst P (sym found.0) (record { read = read; sound = found.1 })
of_image image_of number line (Ok (Err n)) bytes rest I read found only = inr (I, read, found)
of_image image_of number line (Err e) bytes rest I read found only =
    let P : ServeFault → Type 0 = λ f. IsReplyFault bytes f in subst P (sym only) (most_of_image bytes rest I read)

-- a run that could not be served writes nothing
pub failed : (stamp : List ℕ) (scripts : List Script) (limit : ℕ) (bytes : List ℕ) (rest old : Option (List ℕ)) (out : Option Wrote) (I : List (List ℕ)) (f : ServeFault) →
    AreSound bytes rest I → IsServingFault stamp scripts I limit f → IsUntouched out → EndsServe stamp scripts limit bytes rest (record { old = old; new = old }) out (Err f)
failed stamp scripts limit bytes rest old out I fault.NoMemory sound why same = (most_of_image bytes rest I sound.read, Keeps-refl old, same)
failed stamp scripts limit bytes rest old out I fault.NoThread sound why same = (Keeps-refl old, same)
failed stamp scripts limit bytes rest old out I fault.Unmatched sound why same = ((I, sound, why), Keeps-refl old, same)
failed stamp scripts limit bytes rest old out I fault.Read sound why same = absurd why
failed stamp scripts limit bytes rest old out I fault.Write sound why same = absurd why
failed stamp scripts limit bytes rest old out I (fault.WriteOut part) sound why same = absurd why
failed stamp scripts limit bytes rest old out I (fault.Refused number) sound why same = absurd why

-- a run that was served ends as its writing does
pub delivered : (stamp : List ℕ) (scripts : List Script) (limit : ℕ) (bytes : List ℕ) (rest : Option (List ℕ)) (replies : Wrote) (out : Option Wrote)
    (I J : List (List ℕ)) (report : Report) (text : List ℕ) (r : Result Report ServeFault) →
    AreSound bytes rest I → IsServedTo stamp scripts limit I J report text → EndsWriting report text J replies out r → EndsServe stamp scripts limit bytes rest replies out r
delivered stamp scripts limit bytes rest replies out I J report text (Ok r) sound served wrote =
    let P : Report → Type 0 = λ x. IsServedTo stamp scripts limit I J x text in
    (J, text, record { image = I; sound = sound; served = subst P (sym wrote.0) served }, wrote.1, wrote.2)
delivered stamp scripts limit bytes rest replies out I J report text (Err fault.Write) sound served wrote =
    (text, wrote.0.0, inl (J, report, record { image = I; sound = sound; served = served }), wrote.0.1, wrote.1)
delivered stamp scripts limit bytes rest replies out I J report text (Err (fault.WriteOut part)) sound served wrote =
    (J, report, text, record { image = I; sound = sound; served = served }, wrote.0, wrote.1)
delivered stamp scripts limit bytes rest replies out I J report text (Err fault.Read) sound served wrote = absurd wrote
delivered stamp scripts limit bytes rest replies out I J report text (Err fault.NoMemory) sound served wrote = absurd wrote
delivered stamp scripts limit bytes rest replies out I J report text (Err fault.NoThread) sound served wrote = absurd wrote
delivered stamp scripts limit bytes rest replies out I J report text (Err fault.Unmatched) sound served wrote = absurd wrote
delivered stamp scripts limit bytes rest replies out I J report text (Err (fault.Refused number)) sound served wrote = absurd wrote

-- a run that is refused writes the line of the refusal
pub turned_away : (stamp : List ℕ) (scripts : List Script) (limit : ℕ) (bytes : List ℕ) (rest : Option (List ℕ)) (replies : Wrote) (out : Option Wrote) (number : ℕ) (line : List ℕ) (f : ServeFault) →
    AreRefused bytes rest number line → IsRefusedWith number line replies f → IsUntouched out → EndsServe stamp scripts limit bytes rest replies out (Err f)
turned_away stamp scripts limit bytes rest replies out number line (fault.Refused n) are wrote same =
    let P : ℕ → Type 0 = λ k. AreRefused bytes rest k line in (line, subst P (sym wrote.0) are, wrote.1, same)
turned_away stamp scripts limit bytes rest replies out number line fault.Write are wrote same = (line, wrote.0, inr (number, are), wrote.1, same)
turned_away stamp scripts limit bytes rest replies out number line fault.Read are wrote same = absurd wrote
turned_away stamp scripts limit bytes rest replies out number line fault.NoMemory are wrote same = absurd wrote
turned_away stamp scripts limit bytes rest replies out number line fault.NoThread are wrote same = absurd wrote
turned_away stamp scripts limit bytes rest replies out number line fault.Unmatched are wrote same = absurd wrote
turned_away stamp scripts limit bytes rest replies out number line (fault.WriteOut part) are wrote same = absurd wrote
