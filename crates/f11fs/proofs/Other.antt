-- In what a file differs, by what is known of it.
use Rattle.std.proofs.Common.{◌≡◌, ◌≢◌, ◌∙◌, ◌↔◌, ℕ, List, Bool, true, false, IsTrue, refl, sym, ap, subst, Option, Some, None, MatchOption, is_some, Bor}
use Rattle.std.specs.Option.{option_copied}
use Rattle.std.specs.Prelude.{MatchBool}
use Rattle.ods_base.specs.declared.file_id.FileId.{FileId}
use Rattle.ods_shell.specs.Facts.{AreFacts}
use Rattle.ods_shell.specs.declared.facts.Facts.{Facts}
use Rattle.fs_reads.specs.Alike.{AreOf}
use Rattle.fs_reads.specs.Paths.{Disk}
use Rattle.f11fs.specs.Plans.{HaveOther}

-- what is known of the file with an ID, or that no file has it
abbrev pub Finds : Disk → FileId → Option Facts → Type 0
Finds D file found = MatchOption found ((facts : Facts) → AreFacts D.image D.layout file.number facts → facts.file ≢ file) (λ facts. AreFacts D.image D.layout file.number facts × (facts.file ≡ file))

by_flag : {P : Type 0} (b : Bool) → IsTrue b ↔ P → MatchBool b P (¬ P)
by_flag true is = is.0 refl
by_flag false is = λ p. let e : false ≡ true = is.1 p in absurd (cc)

-- there is one where a file has the ID
there : (D : Disk) (file : FileId) (found : Option Facts) (facts : Facts) → Finds D file found → AreOf D file facts → (known : Facts) × (found ≡ Some known) × AreOf D file known
there D file None facts none are = absurd (none facts are.0 are.1)
there D file (Some known) facts is are = (known, refl, is)

known_of : (D : Disk) (file : FileId) (found : Option Facts) (facts : Facts) → Finds D file found → found ≡ Some facts → AreOf D file facts
known_of D file found facts finds e = subst (Finds D file) e finds

module _ {X : Type 0} (see : Facts → X) (one_sight : (D : Disk) (file : FileId) (f g : Facts) → AreOf D file f → AreOf D file g → see f ≡ see g) where
  other_so : (B : Disk) (one : FileId) (E : Disk) (other : FileId) (was is : Option Facts) (b : Bool) → Finds B one was → Finds E other is
      → IsTrue b ↔ (f : Facts) × (g : Facts) × (was ≡ Some f) × (is ≡ Some g) × (see f ≢ see g)
      → MatchBool b (HaveOther see B one E other) (¬ HaveOther see B one E other)
  other_so B one E other was is b found finds so = by_flag b (
    λ t.
        let p = so.0 t in
        (p.0, p.1, known_of B one was p.0 found p.2, known_of E other is p.1 finds p.3, p.4),
    λ h.
        let x = there B one was h.0 found h.2 in
        let y = there E other is h.1 finds h.3 in
        so.1 (x.0, y.0, x.1, y.1, λ same. h.4 (one_sight B one h.0 x.0 h.2 x.2 ∙ same ∙ one_sight E other y.0 h.1 y.2 h.3)),
  )

pub other_protection : (B : Disk) (one : FileId) (E : Disk) (other : FileId) (was is : Option Facts) (b : Bool) → Finds B one was → Finds E other is
    → IsTrue b ↔ (f : Facts) × (g : Facts) × (was ≡ Some f) × (is ≡ Some g) × (f.protection ≢ g.protection)
    → MatchBool b (HaveOther (λ f. f.protection) B one E other) (¬ HaveOther (λ f. f.protection) B one E other)
other_protection = other_so (λ f. f.protection) (λ D file f g p q. ap (λ (x : Facts). x.protection) p.0.are ∙ sym (ap (λ (x : Facts). x.protection) q.0.are))

pub other_owner : (B : Disk) (one : FileId) (E : Disk) (other : FileId) (was is : Option Facts) (b : Bool) → Finds B one was → Finds E other is
    → IsTrue b ↔ (f : Facts) × (g : Facts) × (was ≡ Some f) × (is ≡ Some g) × (f.owner ≢ g.owner)
    → MatchBool b (HaveOther (λ f. f.owner) B one E other) (¬ HaveOther (λ f. f.owner) B one E other)
other_owner = other_so (λ f. f.owner) (λ D file f g p q. ap (λ (x : Facts). x.owner) p.0.are ∙ sym (ap (λ (x : Facts). x.owner) q.0.are))

-- a text that is copied is there where it was
pub copied_some : (o : Option (Bor (List ℕ))) → is_some o ≡ is_some (option_copied o)
copied_some None = refl
copied_some (Some x) = refl
