-- The text about a change that is not made: the lines of a plan.
use Rattle.std.specs.Prelude.{◌≡◌, ◌≢◌, ◌⊎◌, ℕ, ◌<◌, ◌≤◌, List, ◌∷◌, ◌++◌, [], Bool, true, false, Option, Some, None, MatchBool, codes, is_some, if◌then◌else◌, string_bytes}
use Rattle.std.specs.Fmt.{decimal}
use Rattle.std.specs.List.{Contains, range_with_len}
use Rattle.std.specs.Str.{bytes_eq}
use Rattle.ods_base.specs.declared.file_id.FileId.{FileId}
use Rattle.fs_reads.specs.Paths.{Disk}
use Rattle.ods_shell.specs.Facts.{AreFacts}
use Rattle.ods_shell.specs.Info.{IsInfoOf, shown_label}
use Rattle.ods_shell.specs.Json.{text_line}
use Rattle.ods_shell.specs.declared.facts.Facts.{Facts}
use Rattle.ods_shell.specs.declared.info.Info.{Info}
use Rattle.fs_reads.specs.Alike.{AreCompared, AreOf, IsNamedBy, has_path}
use Rattle.fs_reads.specs.Paths.{AreAllPaths, LacksPath}
use Rattle.fs_reads.specs.declared.comparing.Known.{Known}
use Rattle.f11fs.specs.declared.telling.Differs.{Differs}
use Rattle.f11fs.specs.declared.telling.Plan.{Plan}

-- A line states the action and its object; as JSON it is an object whose name is the action.
abbrev pub plan_line : Bool → List ℕ → List ℕ → List ℕ
plan_line false done what = done ++ (codes " " ++ (what ++ 10 ∷ []))
plan_line true done what = text_line done what

-- a file without a path is named by its ID
abbrev pub id_text : FileId → List ℕ
id_text file = codes "#" ++ (decimal file.number ++ (codes "," ++ decimal file.sequence))

-- this text is appended to the plan
abbrev pub Tells : Plan → List ℕ → Plan → Type 0
Tells old told new = string_bytes new.text ≡ string_bytes old.text ++ told

-- this is the ID of a file, if there is one of which something is known
abbrev pub IsIdOf : (Facts → Type 0) → Option FileId → Type 0
IsIdOf Are None = (facts : Facts) → Are facts → ⊥
IsIdOf Are (Some file) = (facts : Facts) × Are facts × (facts.file ≡ file)

-- a path names the file with the number
abbrev pub IsNumberOf : (FileId → Type 0) → ℕ → Known → Type 0
IsNumberOf IsThere number known = (known.file.number ≡ number) × IsThere known.file

-- both IDs belong to files whose facts differ in this
abbrev pub HaveOther : {X : Type 0} → (Facts → X) → Disk → FileId → Disk → FileId → Type 0
HaveOther see B one E other = (f : Facts) × (g : Facts) × AreOf B one f × AreOf E other g × (see f ≢ see g)

-- In what a file differs afterwards: in its attributes or bytes, as a comparison reports; in its protection; in its owner.
pub record DifferBy (B : Disk) (one : FileId) (E : Disk) (other : FileId) (d : Differs) : Type 0 where
  pub word : Option (List ℕ)
  pub compared : AreCompared B one E other word
  pub contents : d.contents ≡ is_some word
  pub protection : MatchBool d.protection (HaveOther (λ f. f.protection) B one E other) (¬ HaveOther (λ f. f.protection) B one E other)
  pub owner : MatchBool d.owner (HaveOther (λ f. f.owner) B one E other) (¬ HaveOther (λ f. f.owner) B one E other)

-- a line, if it is to be printed
abbrev pub line_where : Bool → Bool → List ℕ → List ℕ → List ℕ
line_where json true done what = plan_line json done what
line_where json false done what = []

-- the lines for a file that differs in these
abbrev pub done_lines : Bool → List ℕ → Differs → List ℕ
done_lines json what d = line_where json d.contents (codes "change") what ++ (line_where json d.protection (codes "chmod") what ++ line_where json d.owner (codes "chown") what)

-- the lines for a file that exists before and afterwards, if its differences are known
abbrev pub IsToldOfFile : Bool → (FileId → FileId → Differs → Type 0) → FileId → FileId → List ℕ → List ℕ → Type 0
IsToldOfFile json IsDifferent old new what told = (d : Differs) × IsDifferent old new d × (told ≡ done_lines json what d)

-- The lines for a path that exists afterwards: it is new, its file is another one, or its file has changed. Files 1 and 2, which change with any
-- file, get no line.
abbrev pub IsToldOfPath : Bool → (FileId → FileId → Differs → Type 0) → Option Known → Known → List ℕ → Type 0
IsToldOfPath json IsDifferent None one told = told ≡ plan_line json (codes "make") (string_bytes one.path)
IsToldOfPath json IsDifferent (Some known) one told =
    ((known.file.number ≤ 2) × (told ≡ []))
    ⊎ ((2 < known.file.number) × (((known.file ≢ one.file) × (told ≡ plan_line json (codes "replace") (string_bytes one.path)))
    ⊎ ((known.file ≡ one.file) × IsToldOfFile json IsDifferent known.file one.file (string_bytes one.path) told)))

-- the line for a number that no path reaches: its file is removed, added, another one, or changed
abbrev pub IsToldOfNumber : Bool → (FileId → FileId → Differs → Type 0) → Option FileId → Option FileId → List ℕ → Type 0
IsToldOfNumber json IsDifferent None None told = told ≡ []
IsToldOfNumber json IsDifferent (Some old) None told = told ≡ plan_line json (codes "remove") (id_text old)
IsToldOfNumber json IsDifferent None (Some new) told = told ≡ plan_line json (codes "make") (id_text new)
IsToldOfNumber json IsDifferent (Some old) (Some new) told =
    ((old ≢ new) × (told ≡ plan_line json (codes "remove") (id_text old) ++ plan_line json (codes "make") (id_text new)))
    ⊎ ((old ≡ new) × IsToldOfFile json IsDifferent old new (id_text new) told)

-- the lines for each of these, in order
abbrev pub AreTold : {A : Type 0} → (A → List ℕ → Type 0) → List A → List ℕ → Type 0
AreTold IsToldOf [] told = told ≡ []
AreTold IsToldOf (x ∷ xs) told = (first : List ℕ) × (rest : List ℕ) × (told ≡ first ++ rest) × IsToldOf x first × AreTold IsToldOf xs rest

-- a path that existed before is removed if no path afterwards is the same
abbrev pub IsToldOfOld : Bool → List Known → Known → List ℕ → Type 0
IsToldOfOld json after one told =
    (LacksPath (string_bytes one.path) after × (told ≡ plan_line json (codes "remove") (string_bytes one.path)))
    ⊎ ((¬ LacksPath (string_bytes one.path) after) × (told ≡ []))

-- the entry with the path, or none if there is none
abbrev pub IsKnownAt : List Known → List ℕ → Option Known → Type 0
IsKnownAt all path None = LacksPath path all
IsKnownAt all path (Some known) = Contains all known × has_path path known

-- the lines for a path that exists afterwards, by its state before
abbrev pub IsToldOfNew : Bool → (FileId → FileId → Differs → Type 0) → List Known → Known → List ℕ → Type 0
IsToldOfNew json IsDifferent before one told = (known : Option Known) × IsKnownAt before (string_bytes one.path) known × IsToldOfPath json IsDifferent known one told

-- one of these paths names a file that has the number
abbrev pub IsNumbered : (FileId → Type 0) → List Known → ℕ → Type 0
IsNumbered IsThere all number = (known : Known) × Contains all known × IsNumberOf IsThere number known

-- the lines for the file with a number, if no path reaches it; otherwise none
abbrev pub IsToldWhere : Bool → Bool → Disk → Disk → ℕ → List ℕ → Type 0
IsToldWhere json true B A number told = told ≡ []
IsToldWhere json false B A number told = (old : Option FileId) × (new : Option FileId) × IsIdOf (AreFacts B.image B.layout number) old × IsIdOf (AreFacts A.image A.layout number) new
    × IsToldOfNumber json (λ a b d. DifferBy B a A b d) old new told

-- a path names a file that has the number, before or afterwards
abbrev pub IsReached : Disk → List Known → Disk → List Known → ℕ → Type 0
IsReached B before A after number = IsNumbered (IsNamedBy B) before number ⊎ IsNumbered (IsNamedBy A) after number

-- the lines for a number: none if a path reaches it before or afterwards
abbrev pub IsToldOfLeft : Bool → Disk → List Known → Disk → List Known → ℕ → List ℕ → Type 0
IsToldOfLeft json B before A after number told = (reached : Bool) × MatchBool reached (IsReached B before A after number) (¬ IsReached B before A after number) × IsToldWhere json reached B A number told

-- the line for the label: the new one, if it differs
abbrev pub label_told : Bool → List ℕ → List ℕ → List ℕ
label_told json old new = if bytes_eq old new then [] else plan_line json (codes "label") (shown_label new)

-- the line for the labels of two volumes
abbrev pub IsToldOfLabel : Bool → Disk → Disk → List ℕ → Type 0
IsToldOfLabel json B A told = (was : Info) × (is : Info) × IsInfoOf B.image B.layout was × IsInfoOf A.image A.layout is × (told ≡ label_told json was.label is.label)

-- The text of a plan, in lines or as JSON, from one volume to another: the removed paths, the lines for the paths afterwards, the lines for the
-- numbers that no path reaches, and the line for the label.
pub record IsPlan (json : Bool) (most : ℕ) (B A : Disk) (text : List ℕ) : Type 0 where
  pub before : List Known
  pub after : List Known
  pub all_before : AreAllPaths B.image B.layout before
  pub all_after : AreAllPaths A.image A.layout after
  pub gone : List ℕ
  pub come : List ℕ
  pub left : List ℕ
  pub label : List ℕ
  pub told_gone : AreTold (IsToldOfOld json after) before gone
  pub told_come : AreTold (IsToldOfNew json (λ a b d. DifferBy B a A b d) before) after come
  pub told_left : AreTold (IsToldOfLeft json B before A after) (range_with_len 1 most) left
  pub told_label : IsToldOfLabel json B A label
  pub whole : text ≡ gone ++ (come ++ (left ++ label))
