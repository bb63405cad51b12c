-- A text says one thing at most, and a text that is bad says nothing.
use Rattle.std.proofs.Common.{◌≡◌, ◌≢◌, ℕ, List, [], drop, true, false, Option, Some, None, refl, sym, ap, ◌∙◌}
use Rattle.std.specs.List.{before_first, after_first}
use Rattle.ods_base.specs.declared.file_id.FileId.{FileId}
use Rattle.ods_paths.specs.declared.bad.BadPath.{BadPath}
use Rattle.ods_paths.specs.declared.bad.BadPath.TheVariants as bad
use Rattle.ods_text.specs.Cuts.{is}
use Rattle.ods_paths.specs.Numbers.{IsId}
use Rattle.ods_paths.specs.Paths.{Folder, Files, Said, File, Within, Says, SaysHere, SpellsFiles, SpellsFolder, SpellsSomeFiles, folder_text, more_text, files_text, separator_of, begins_id, past_device}
use Rattle.ods_paths.specs.Bad.{IsBad, IsBadHere, IsBadFiles}
use Rattle.ods_text.proofs.Numerals.{one_number, wide}
use Rattle.ods_paths.proofs.VersionTexts.{same_versions}

same_id : (text : List ℕ) (f g : FileId) → IsId text f → IsId text g → f ≡ g
same_id text f g p q =
    let number : f.number ≡ g.number = one_number (before_first (is 44) text) f.number g.number (wide _ _ p.1) (wide _ _ q.1) in
    let sequence : f.sequence ≡ g.sequence = one_number (after_first (is 44) text) f.sequence g.sequence (wide _ _ p.2) (wide _ _ q.2) in
    λ i. record { number = number i; sequence = sequence i }

same_folder : (c : ℕ) (text more : List ℕ) (f g : Folder) → SpellsFolder c text more f → SpellsFolder c text more g → f ≡ g
same_folder c text more f g s t =
    let steps : f.steps ≡ g.steps = s.steps ∙ sym t.steps in
    let below : f.below ≡ g.below = s.below ∙ sym t.below in
    λ i. record { steps = steps i; below = below i }

same_files : (text : List ℕ) (f g : Files) → SpellsFiles text f → SpellsFiles text g → f ≡ g
same_files text f g s t =
    let name : f.name ≡ g.name = s.name ∙ sym t.name in
    let kind : f.kind ≡ g.kind = s.kind ∙ sym t.kind in
    let versions : f.versions ≡ g.versions = same_versions text f.versions g.versions s.versions t.versions in
    λ i. record { name = name i; kind = kind i; versions = versions i }

same_some : (text : List ℕ) (f g : Option Files) → SpellsSomeFiles text f → SpellsSomeFiles text g → f ≡ g
same_some text None None p q = refl
same_some text None (Some g) p q = absurd (q.0 p)
same_some text (Some f) None p q = absurd (p.0 q)
same_some text (Some f) (Some g) p q = ap Some (same_files text f g p.1 q.1)

-- a text that begins with an ID's mark and does not
id_clash : {A : Type 0} (text : List ℕ) → begins_id text ≡ true → begins_id text ≡ false → A
id_clash text p q = let clash : true ≡ false = sym p ∙ q in absurd (cc)

same_here : (text : List ℕ) (s t : Said) → SaysHere text s → SaysHere text t → s ≡ t
same_here text (File f) (File g) p q = ap File (same_id (drop 1 text) f g p.1 q.1)
same_here text (File f) (Within d g) p q = id_clash text p.0 q.0
same_here text (Within d f) (File g) p q = id_clash text q.0 p.0
same_here text (Within d f) (Within e g) p q =
    let folder : d ≡ e = same_folder (separator_of text) (folder_text text) (more_text text) d e p.2.0 q.2.0 in
    let files : f ≡ g = same_some (files_text text) f g p.2.1 q.2.1 in
    λ i. Within (folder i) (files i)

pub same_said : (text : List ℕ) (s t : Said) → Says text s → Says text t → s ≡ t
same_said text s t p q = same_here (past_device text) s t p.1 q.1

-- files that are bad in a part are none
no_files : (text : List ℕ) (e : BadPath) (f : Files) → IsBadFiles text e → SpellsFiles text f → ⊥
no_files text bad.Name f b s = b s.name_pattern
no_files text bad.Type f b s = b s.kind_pattern
no_files text bad.NoDot f b s = b s.dotted
no_files text bad.Version f b s = b f.versions s.versions
no_files text bad.Empty f b s = b
no_files text bad.Id f b s = b
no_files text bad.Bracket f b s = b
no_files text bad.Directory f b s = b

no_some : (text : List ℕ) (e : BadPath) (f : Option Files) → text ≢ [] → IsBadFiles text e → SpellsSomeFiles text f → ⊥
no_some text e None some b s = some s
no_some text e (Some f) some b s = no_files text e f b s.1

bad_here : (text : List ℕ) (e : BadPath) (s : Said) → IsBadHere text e → SaysHere text s → ⊥
bad_here text bad.Empty s b p = b
bad_here text bad.Id (File f) b p = b.1 f p.1
bad_here text bad.Id (Within d f) b p = id_clash text b.0 p.0
bad_here text bad.Bracket (File f) b p = id_clash text p.0 b.0
bad_here text bad.Bracket (Within d f) b p = b.1 p.1
bad_here text bad.Directory (File f) b p = id_clash text p.0 b.0
bad_here text bad.Directory (Within d f) b p = b.1 d p.2.0
bad_here text bad.Name (File f) b p = id_clash text p.0 b.0
bad_here text bad.Name (Within d f) b p = no_some (files_text text) bad.Name f b.1.0 b.1.1 p.2.1
bad_here text bad.Type (File f) b p = id_clash text p.0 b.0
bad_here text bad.Type (Within d f) b p = no_some (files_text text) bad.Type f b.1.0 b.1.1 p.2.1
bad_here text bad.NoDot (File f) b p = id_clash text p.0 b.0
bad_here text bad.NoDot (Within d f) b p = no_some (files_text text) bad.NoDot f b.1.0 b.1.1 p.2.1
bad_here text bad.Version (File f) b p = id_clash text p.0 b.0
bad_here text bad.Version (Within d f) b p = no_some (files_text text) bad.Version f b.1.0 b.1.1 p.2.1

pub bad_says : (text : List ℕ) (e : BadPath) (s : Said) → IsBad text e → Says text s → ⊥
bad_says text bad.Empty s b p = p.0 b
bad_says text bad.Id s b p = bad_here (past_device text) bad.Id s b p.1
bad_says text bad.Bracket s b p = bad_here (past_device text) bad.Bracket s b p.1
bad_says text bad.Directory s b p = bad_here (past_device text) bad.Directory s b p.1
bad_says text bad.Name s b p = bad_here (past_device text) bad.Name s b p.1
bad_says text bad.Type s b p = bad_here (past_device text) bad.Type s b p.1
bad_says text bad.NoDot s b p = bad_here (past_device text) bad.NoDot s b p.1
bad_says text bad.Version s b p = bad_here (past_device text) bad.Version s b p.1
