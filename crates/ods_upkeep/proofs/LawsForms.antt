-- Why a file in the form that put keeps is got back.
use Rattle.std.proofs.Common.{◌≡◌, ℕ, ◌+◌, ◌-◌, ◌/◌, ◌%◌, ◌≤◌, refl, sym, ap, ◌∙◌, subst, Bool, true, false, cond, List, [], ◌∷◌, ◌++◌, length, take, drop, Option, Some, None, arith, inl, inr}
use Rattle.std.specs.Prelude.{◌&&◌, ◌||◌, ◌==◌, MatchBool, nat_le, slice_index}
use Rattle.std.specs.List.{list_all}
use Rattle.std.specs.Str.Lines.{lines}
use Rattle.std.proofs.lemmas.List.{get_or-drop}
use Rattle.std.proofs.lemmas.Option.{same_Some}
use Rattle.ods_base.specs.declared.file_id.FileId.{FileId}
use Rattle.ods_space.specs.Layout.{VolumeLayout}
use Rattle.ods_files.specs.Body.{Body, bytes_in}
use Rattle.ods_files.specs.declared.form.Form.TheVariants as form
use Rattle.ods_filing.specs.Laws.{GivesBack, ShowsBytes}
use Rattle.ods_records.specs.Attributes.{attributes, end_block, end_of, has_cards, header_size, is_blocked, is_controlled, kind_in, record_type}
use Rattle.ods_records.specs.Faults.{IsFirstFault}
use Rattle.ods_records.specs.Records.{Spells, text_of, word_at}
use Rattle.ods_records.specs.Survey.{come_as_lines, is_printable}
use Rattle.ods_records.specs.declared.faults.RecordFault.{RecordFault}
use Rattle.ods_records.specs.declared.kind.RecordKind.{RecordKind}
use Rattle.ods_records.specs.declared.kind.RecordKind.TheVariants.{Sequenced, Variable}
use Rattle.ods_records.specs.declared.kind.TextForm.TheVariants as text
use Rattle.ods_records.specs.declared.kind.Wanted.TheVariants.{ByKind}
use Rattle.ods_records.proofs.EndSet.{by_parts}
use Rattle.ods_records.proofs.PlainTexts.{lines_text}
use Rattle.ods_records.proofs.ReadSoFar.{spelled_once}
use Rattle.ods_records.proofs.Standing.{fault_spells}
use Rattle.ods_records.proofs.WrittenStands.{spells_written}
use Rattle.ods_shell.specs.Contents.{AreBytes as AreBytesGot, AreStreamLines, IsChosen, IsGotAlone, is_line_stream, is_stream}
use Rattle.ods_shell.specs.declared.form.Remark.{Remark}
use Rattle.ods_upkeep.specs.Kept.{AreRaw, IsKept, StayBytes, StayLines}
use Rattle.ods_upkeep.specs.Pieces.{with_end}
use Rattle.ods_upkeep.specs.PutBack.{IsKeptBack, KeptComesBack}
use Rattle.ods_upkeep.specs.Written.{AreInForm, AreRecords, IsByContents, IsWritten}
use Rattle.ods_upkeep.specs.declared.asked.PutForm.{PutForm}
use Rattle.ods_upkeep.specs.declared.asked.PutForm.TheVariants as asked
use Rattle.ods_upkeep.proofs.LawsCompared.{set_end}
use Rattle.ods_upkeep.proofs.LawsGot.{comes_back}
use Rattle.ods_upkeep.proofs.LawsPut.{fails_alone, four, got_back, no_fault, written_end}
use Rattle.ods_upkeep.proofs.PlainLines.{plain_lines, plain_printed}

or_true : (b : Bool) → (b || true) ≡ true
or_true true = refl
or_true false = refl

-- What is got of a body with these attributes and these bytes.
module _ (body : Body) (stored given : List ℕ) (said : Option Remark) (own : List ℕ) (same : body.attributes ≡ own) (all : bytes_in form.Binary body ≡ Some stored) (is : IsGotAlone (kind_in body.attributes) body given said) where
  -- bytes that are no records with a length
  no_records : kind_in own ≡ None → is_line_stream own ≡ false → given ≡ stored
  no_records none other =
      let alone : IsGotAlone None body given said = subst (λ k. IsGotAlone k body given said) (ap kind_in same ∙ none) is in
      let plain : MatchBool false (AreStreamLines body given said) (AreBytesGot ByKind body given said) = subst (λ b. MatchBool b (AreStreamLines body given said) (AreBytesGot ByKind body given said)) (ap is_line_stream same ∙ other) alone in
      same_Some given stored (sym plain.0 ∙ all)

  -- records
  module _ (kind : RecordKind) (some : kind_in own ≡ Some kind) (records : List (List ℕ)) (spelled : Spells kind stored records) where
    chosen : IsChosen kind body stored given said
    chosen =
        let got : IsGotAlone (Some kind) body given said = subst (λ k. IsGotAlone k body given said) (ap kind_in same ∙ some) is in
        subst (λ (b : List ℕ). IsChosen kind body b given said) (same_Some got.0 stored (sym got.1 ∙ all)) got.2

    come : (b : Bool) → come_as_lines own records ≡ b → come_as_lines body.attributes chosen.0 ≡ b
    come b e = ap (λ a. come_as_lines a chosen.0) same ∙ ap (come_as_lines own) (spelled_once kind stored chosen.0 records chosen.1 spelled) ∙ e

    as_bytes : come_as_lines own records ≡ false → given ≡ stored
    as_bytes raw = elim chosen.2 [
      | inl lined ↦ absurd (let wrong : true ≡ false = sym lined.0 ∙ come false raw in cc)
      | inr bytes ↦ bytes.1
    ]

    as_lines : come_as_lines own records ≡ true → given ≡ text_of records
    as_lines lined = elim chosen.2 [
      | inl is_text ↦ is_text.1 ∙ ap text_of (spelled_once kind stored chosen.0 records chosen.1 spelled)
      | inr bytes ↦ absurd (let wrong : true ≡ false = sym (come true lined) ∙ bytes.0 in cc)
    ]

-- Attributes with another end of file.
module _ (a b c d : ℕ) (rest : List ℕ) (n : ℕ) where
  abbrev old : List ℕ
  old = a ∷ b ∷ c ∷ d ∷ rest

  header : slice_index (with_end old n) 15 ≡ slice_index old 15
  header = get_or-drop 14 old 1 0

  kind_kept : kind_in (with_end old n) ≡ kind_in old
  kind_kept = ap (λ s. cond (record_type old == 2) (Some Variable) (cond (record_type old == 3) (Some (Sequenced (cond (s == 0) 2 s))) None)) header

  stream_kept : is_line_stream (with_end old n) ≡ is_line_stream old
  stream_kept = ap (λ s. is_stream (cond (record_type old == 2) (text.Records Variable) (cond (record_type old == 3) (text.Records (Sequenced (cond (s == 0) 2 s)))
      (cond (record_type old == 4) text.Stream (cond (has_cards old) (cond (is_blocked old) (text.Blocked (word_at old 2)) (text.Fixed (word_at old 2))) text.Bytes)))) && (b == 2)) header

-- Attributes of lines, with the form of others.
module _ (a b c d : ℕ) (rest : List ℕ) (longest n : ℕ) where
  abbrev made : List ℕ
  made = attributes 2 2 longest n

  abbrev like : Bool → List ℕ
  like t = cond t (take 4 (a ∷ b ∷ c ∷ d ∷ rest) ++ drop 4 made) (take 2 (a ∷ b ∷ c ∷ d ∷ rest) ++ drop 2 made)

  like_kind : (t : Bool) → a ≡ 2 → kind_in (like t) ≡ Some Variable
  like_kind true e = ap (λ x. kind_in (x ∷ b ∷ c ∷ d ∷ drop 4 made)) e
  like_kind false e = ap (λ x. kind_in (x ∷ b ∷ drop 2 made)) e

  like_control : (t : Bool) → is_controlled (like t) ≡ is_controlled (a ∷ b ∷ c ∷ d ∷ rest)
  like_control true = refl
  like_control false = refl

  like_form : (t : Bool) → take 2 (like t) ≡ a ∷ b ∷ []
  like_form true = refl
  like_form false = refl

  like_block : (t : Bool) → end_block (like t) ≡ n / 512 + 1
  like_block true = omega arith
  like_block false = omega arith

  like_byte : (t : Bool) → word_at (like t) 12 ≡ n % 512
  like_byte true = omega arith
  like_byte false = omega arith

  like_end : (t : Bool) → end_of (like t) ≡ n
  like_end t = by_parts n (end_block (like t)) (word_at (like t) 12) (like_block t) (like_byte t)

-- The file that a catalogue has with what was put.
module _ (J : List (List ℕ)) (M : VolumeLayout) (id : FileId) (bytes own stored : List ℕ) (shows : ShowsBytes J M id own stored) where
  -- by the contents
  contents_back : IsWritten asked.ByContents None bytes own stored → IsKeptBack J M id.number None bytes own stored
  contents_back written =
      let gives : GivesBack J M id.number own stored = comes_back J M id own stored shows (written_end asked.ByContents bytes own stored written) in
      record {
        formed = tt;
        gives = gives;
        got = λ given said is. got_back J M id.number bytes own stored gives given said is asked.ByContents tt written;
        fails = λ why is. fails_alone J M id own stored shows gives (no_fault bytes own stored asked.ByContents tt written) why is;
      }

  -- as bytes in the form of another file
  module _ (a b c d : ℕ) (rest : List ℕ) (stay : StayBytes (a ∷ b ∷ c ∷ d ∷ rest) bytes) (put : AreInForm (a ∷ b ∷ c ∷ d ∷ rest) bytes own stored) where
    bytes_kind : (o : Option RecordKind) → kind_in (a ∷ b ∷ c ∷ d ∷ rest) ≡ o → kind_in own ≡ o
    bytes_kind o e = ap kind_in put.are ∙ kind_kept a b c d rest (length bytes) ∙ e

    bytes_got : (body : Body) (given : List ℕ) (said : Option Remark) → body.attributes ≡ own → bytes_in form.Binary body ≡ Some stored → IsGotAlone (kind_in body.attributes) body given said
        → (o : Option RecordKind) → kind_in (a ∷ b ∷ c ∷ d ∷ rest) ≡ o → AreRaw o (a ∷ b ∷ c ∷ d ∷ rest) bytes → given ≡ bytes
    bytes_got body given said same all is None e raw = no_records body stored given said own same all is (bytes_kind None e) (ap is_line_stream put.are ∙ stream_kept a b c d rest (length bytes) ∙ raw) ∙ put.same
    bytes_got body given said same all is (Some kind) e raw =
        as_bytes body stored given said own same all is kind (bytes_kind (Some kind) e) raw.records (subst (λ l. Spells kind l raw.records) (sym put.same) raw.spelled)
        (ap (λ x. come_as_lines x raw.records) put.are ∙ raw.raw) ∙ put.same

    bytes_fault : (o : Option RecordKind) → kind_in (a ∷ b ∷ c ∷ d ∷ rest) ≡ o → AreRaw o (a ∷ b ∷ c ∷ d ∷ rest) bytes → (kind : RecordKind) (f : RecordFault) → kind_in own ≡ Some kind → IsFirstFault kind stored f → ⊥
    bytes_fault None e raw kind f some first = absurd (let wrong : None ≡ Some kind = sym (bytes_kind None e) ∙ some in cc)
    bytes_fault (Some other) e raw kind f some first =
        let same : other ≡ kind = same_Some other kind (sym (bytes_kind (Some other) e) ∙ some) in
        let spelled : Spells other stored raw.records = subst (λ l. Spells other l raw.records) (sym put.same) raw.spelled in
        fault_spells kind stored first.at f first.standing raw.records first.before first.there (subst (λ k. Spells k stored raw.records) same spelled)

    bytes_back : IsKeptBack J M id.number (Some (a ∷ b ∷ c ∷ d ∷ rest)) bytes own stored
    bytes_back =
        let end : end_of own ≡ length stored = ap end_of put.are ∙ set_end a b c d rest (length bytes) ∙ ap length (sym put.same) in
        let gives : GivesBack J M id.number own stored = comes_back J M id own stored shows end in
        record {
          formed = ap (take 2) put.are;
          gives = gives;
          got = λ given said is. (let all = gives.gives is.0 is.1 in bytes_got is.0 given said all.0 all.1 is.2 (kind_in (a ∷ b ∷ c ∷ d ∷ rest)) refl stay.raw);
          fails = λ why is. fails_alone J M id own stored shows gives (bytes_fault (kind_in (a ∷ b ∷ c ∷ d ∷ rest)) refl stay.raw) why is;
        }

  -- as lines in the form of another file
  module _ (a b c d : ℕ) (rest : List ℕ) (stay : StayLines (a ∷ b ∷ c ∷ d ∷ rest) bytes) (put : AreRecords (Some (a ∷ b ∷ c ∷ d ∷ rest)) bytes own stored) where
    abbrev first : Bool
    first = nat_le (word_at (attributes 2 2 put.longest (length stored)) 2) (word_at (a ∷ b ∷ c ∷ d ∷ rest) 2)

    lines_spelled : Spells Variable stored (lines bytes)
    lines_spelled = subst (λ l. Spells Variable l (lines bytes)) (sym put.lines.spelled) (spells_written (lines bytes) put.lines.short)

    lines_kind : kind_in own ≡ Some Variable
    lines_kind = ap kind_in put.are ∙ like_kind a b c d rest put.longest (length stored) first stay.variable

    lines_come : come_as_lines own (lines bytes) ≡ true
    lines_come = ap (λ t. t && (is_controlled own || list_all is_printable (lines bytes))) (plain_lines bytes stay.plain) ∙ elim stay.shown [
      | inl controlled ↦ ap (λ t. t || list_all is_printable (lines bytes)) (ap is_controlled put.are ∙ like_control a b c d rest put.longest (length stored) first ∙ controlled)
      | inr valid ↦ ap (λ t. is_controlled own || t) (plain_printed bytes stay.plain valid) ∙ or_true (is_controlled own)
    ]

    lines_fault : (kind : RecordKind) (f : RecordFault) → kind_in own ≡ Some kind → IsFirstFault kind stored f → ⊥
    lines_fault kind f some wrong =
        let same : Variable ≡ kind = same_Some Variable kind (sym lines_kind ∙ some) in
        fault_spells kind stored wrong.at f wrong.standing (lines bytes) wrong.before wrong.there (subst (λ k. Spells k stored (lines bytes)) same lines_spelled)

    lines_back : IsKeptBack J M id.number (Some (a ∷ b ∷ c ∷ d ∷ rest)) bytes own stored
    lines_back =
        let gives : GivesBack J M id.number own stored = comes_back J M id own stored shows (ap end_of put.are ∙ like_end a b c d rest put.longest (length stored) first) in
        record {
          formed = ap (take 2) put.are ∙ like_form a b c d rest put.longest (length stored) first;
          gives = gives;
          got = λ given said is. (let all = gives.gives is.0 is.1 in
              as_lines is.0 stored given said own all.0 all.1 is.2 Variable lines_kind (lines bytes) lines_spelled lines_come ∙ lines_text (length bytes) bytes (omega arith) stay.plain.ended stay.plain.no_cr);
          fails = λ why is. fails_alone J M id own stored shows gives lines_fault why is;
        }

  -- bytes, where attributes have four bytes
  stays_bytes : (model : List ℕ) → 4 ≤ length model → StayBytes model bytes → AreInForm model bytes own stored → IsKeptBack J M id.number (Some model) bytes own stored
  stays_bytes model long = four (λ l. StayBytes l bytes → AreInForm l bytes own stored → IsKeptBack J M id.number (Some l) bytes own stored) (λ a b c d rest stay put. bytes_back a b c d rest stay put) model long

  stays_lines : (model : List ℕ) → 4 ≤ length model → StayLines model bytes → AreRecords (Some model) bytes own stored → IsKeptBack J M id.number (Some model) bytes own stored
  stays_lines model long = four (λ l. StayLines l bytes → AreRecords (Some l) bytes own stored → IsKeptBack J M id.number (Some l) bytes own stored) (λ a b c d rest stay put. lines_back a b c d rest stay put) model long

  -- lines are written as records, where variable records are the form
  are_records : (model : List ℕ) → slice_index model 0 ≡ 2 → IsByContents asked.ByContents (Some model) bytes own stored → AreRecords (Some model) bytes own stored
  are_records model two (inl put) = put.1
  are_records model two (inr put) = absurd (put.0 (ap (λ x. cond ((cond (x % 16 == 0) 1 (cond (nat_le 7 (x % 16)) 1 (x % 16))) == 2) (Some Variable)
      (cond ((cond (x % 16 == 0) 1 (cond (nat_le 7 (x % 16)) 1 (x % 16))) == 3) (Some (Sequenced (header_size model))) None)) two))

  -- with a version before
  model_back : (model : List ℕ) → 4 ≤ length model → (chosen : PutForm) (like : Option (List ℕ)) → IsKept (Some model) bytes chosen like → IsWritten chosen like bytes own stored → IsKeptBack J M id.number like bytes own stored
  model_back model long chosen like (inl kept) written =
      subst (λ o. IsKeptBack J M id.number o bytes own stored) (sym kept.2) (stays_bytes model long kept.0
      (subst (λ (f : PutForm). IsWritten f (Some model) bytes own stored) kept.1 (subst (λ (o : Option (List ℕ)). IsWritten chosen o bytes own stored) kept.2 written)))
  model_back model long chosen like (inr (inl kept)) written =
      subst (λ o. IsKeptBack J M id.number o bytes own stored) (sym kept.3) (stays_lines model long kept.1 (are_records model kept.1.variable
      (subst (λ (f : PutForm). IsWritten f (Some model) bytes own stored) kept.2 (subst (λ (o : Option (List ℕ)). IsWritten chosen o bytes own stored) kept.3 written))))
  model_back model long chosen like (inr (inr kept)) written =
      subst (λ o. IsKeptBack J M id.number o bytes own stored) (sym kept.3) (contents_back
      (subst (λ (f : PutForm). IsWritten f None bytes own stored) kept.2 (subst (λ (o : Option (List ℕ)). IsWritten chosen o bytes own stored) kept.3 written)))

pub kept_comes_back : KeptComesBack
kept_comes_back J M id None bytes chosen like own stored long kept written shows =
    subst (λ o. IsKeptBack J M id.number o bytes own stored) (sym kept.1) (contents_back J M id bytes own stored shows
    (subst (λ (f : PutForm). IsWritten f None bytes own stored) kept.0 (subst (λ (o : Option (List ℕ)). IsWritten chosen o bytes own stored) kept.1 written)))
kept_comes_back J M id (Some model) bytes chosen like own stored long kept written shows = model_back J M id bytes own stored shows model (omega (arith, long)) chosen like kept written
