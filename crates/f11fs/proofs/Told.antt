-- What is told of a file without a path, put together from what its lines say.
use Rattle.std.proofs.Common.{◌≡◌, ◌≢◌, ◌∙◌, ℕ, Bool, List, ◌++◌, refl, ap, subst, inl, inr, append_assoc, Some, codes, string_bytes, Result, Ok, Err}
use Rattle.std.specs.Prelude.{OnOk}
use Rattle.ods_base.specs.declared.file_id.FileId.{FileId}
use Rattle.f11fs.specs.Plans.{IsToldOfFile, IsToldOfNumber, Tells, id_text, line_where, plan_line}
use Rattle.f11fs.specs.declared.telling.Differs.{Differs}
use Rattle.f11fs.specs.declared.telling.Plan.{Plan}

-- what is told where it is known in what the file differs, by three lines
pub told_done : (D : FileId → FileId → Differs → Type 0) (old new : FileId) (what : List ℕ) (d : Differs) (first p q last : Plan)
    → D old new d → p.json ≡ first.json → q.json ≡ p.json
    → Tells first (line_where first.json d.contents (codes "change") what) p → Tells p (line_where p.json d.protection (codes "chmod") what) q → Tells q (line_where q.json d.owner (codes "chown") what) last
    → (told : List ℕ) × IsToldOfFile first.json D old new what told × Tells first told last
told_done D old new what d first p q last differ pj qj a b c =
    let x = line_where first.json d.contents (codes "change") what in
    let y = line_where first.json d.protection (codes "chmod") what in
    let z = line_where first.json d.owner (codes "chown") what in
    let e : string_bytes q.text ≡ string_bytes p.text ++ y = subst (λ (j : Bool). string_bytes q.text ≡ string_bytes p.text ++ line_where j d.protection (codes "chmod") what) pj b in
    let f : string_bytes last.text ≡ string_bytes q.text ++ z = subst (λ (j : Bool). string_bytes last.text ≡ string_bytes q.text ++ line_where j d.owner (codes "chown") what) (qj ∙ pj) c in (
      x ++ (y ++ z),
      (d, differ, refl),
      f ∙ ap (λ t. t ++ z) (e ∙ ap (λ t. t ++ y) a) ∙ append_assoc (string_bytes first.text ++ x) y z ∙ append_assoc (string_bytes first.text) x (y ++ z),
    )

-- one file goes, and another comes
pub told_both : (D : FileId → FileId → Differs → Type 0) (old new : FileId) (json then : Bool) (before mid after : List ℕ) → old ≢ new → then ≡ json
    → mid ≡ before ++ plan_line json (codes "remove") (id_text old) → after ≡ mid ++ plan_line then (codes "make") (id_text new)
    → (told : List ℕ) × IsToldOfNumber json D (Some old) (Some new) told × (after ≡ before ++ told)
told_both D old new json then before mid after other same first last =
    let gone = plan_line json (codes "remove") (id_text old) in
    let come = plan_line json (codes "make") (id_text new) in
    (gone ++ come, inl (other, refl), last ∙ ap (λ (j : Bool). mid ++ plan_line j (codes "make") (id_text new)) same ∙ ap (λ t. t ++ come) first ∙ append_assoc before gone come)

-- the file has stayed, and what is told of it is told
pub told_same : {A E : Type 0} (json : Bool) (D : FileId → FileId → Differs → Type 0) (old new : FileId) (what : List ℕ) (Tells : List ℕ → Type 0) (r : Result A E) → old ≡ new → what ≡ id_text new
    → OnOk r ((told : List ℕ) × IsToldOfFile json D old new what told × Tells told) → OnOk r ((told : List ℕ) × IsToldOfNumber json D (Some old) (Some new) told × Tells told)
told_same json D old new what Tells (Ok x) same text all = (all.0, inr (same, subst (λ (t : List ℕ). IsToldOfFile json D old new t all.0) text all.1), all.2)
told_same json D old new what Tells (Err e) same text all = tt
