use Rattle.std.proofs.Common.{◌≡◌, true, Option, Some, None, refl, sym, subst, ◌∙◌, arith}
use Rattle.std.specs.Prelude.{IfNone, IfSome, is_some}
use Rattle.ods_space.specs.Draft.{Changes, applied}
use Rattle.ods_space.specs.Chain.{IsChain}
use Rattle.ods_space.specs.Files.{IsLayoutOf}
use Rattle.ods_alloc.specs.Ends.{AreEnds, IsHeaderAt}
use Rattle.ods_alloc.specs.Extend.{CanExtend, Extends, with_in_use}
use Rattle.ods_alloc.proofs.Places.{has_places}
use Rattle.ods_alloc.proofs.Chained.{ends_walked, first_found}
use Rattle.ods_alloc.proofs.extend.extend_chain.Goals as goal

-- what is not missing is there
there : {T V : Type 0} (o : Option T) → IfNone o (V → ⊥) → V → is_some o ≡ true
there None missing v = absurd (missing v)
there (Some x) missing v = refl

pub valid_header-requires : goal.valid_header-requires
valid_header-requires g c = record { places = has_places c.args.disk.now.image.now c.args.draft.now c.args.disk.now.layout.now c.requires.0 c.requires.1.0 }

pub unwrap-first-requires : goal.unwrap-first-requires
unwrap-first-requires g c =
    there c.valid_header.result c.valid_header.ensures.none
    (first_found (applied c.args.disk.now.image.now c.args.draft.now) c.args.disk.now.layout.now c.args.number g.chain.0 g.chain.1 c.args.blocks.now c.args.numbers.now c.requires.1.0 c.requires.1.1.0 c.requires.1.1.1)

pub drafted_end-end-requires : goal.drafted_end-end-requires
drafted_end-end-requires g c = record {
  places = has_places c.args.disk.now.image.now c.args.draft.now c.args.disk.now.layout.now c.requires.0 c.requires.1.0;
  file = let low = c.requires.1.1.1.file in omega (arith, low);
}

pub extend_from-requires : goal.extend_from-requires
extend_from-requires g c =
    let I = c.args.disk.now.image.now in
    let L = c.args.disk.now.layout.now in
    let n = c.args.number in
    let same = sym c.in_ok-changed.ensures in
    let Laid : Changes → Type 0 = λ d. IsLayoutOf (applied I d) L in
    let Chained : Changes → Type 0 = λ d. IsChain (with_in_use (applied I d) L.home n) L n g.chain.0 g.chain.1 in
    let Grows : Changes → Type 0 = λ d. CanExtend (applied I d) L n g.chain.0 c.args.blocks.now c.args.numbers.now in
    let Ends : Changes → Type 0 = λ d. AreEnds (applied I d) L n g.chain.0 c.unwrap-first.result.now c.drafted_end-end.result in (
      subst Laid same c.requires.0,
      (
        c.requires.1.0,
        (
          subst Chained same c.requires.1.1.0,
          (
            subst Grows same c.requires.1.1.1,
            (
              subst Ends same (ends_walked (applied I c.args.draft.now) L n g.chain.0 g.chain.1 c.args.blocks.now c.args.numbers.now c.unwrap-first.result.now c.drafted_end-end.result c.requires.1.0 c.requires.1.1.0 c.requires.1.1.1
                  (subst (λ o. IfSome o (λ h. IsHeaderAt (applied I c.args.draft.now) L n h.now)) c.unwrap-first.ensures c.valid_header.ensures.some).is c.drafted_end-end.ensures),
              c.deref.ensures.value ∙ c.in_ok-runs.ensures.cut,
            ),
          ),
        ),
      ),
    )

pub returns-clause-ok : goal.returns-clause-ok
returns-clause-ok g c =
    let I = c.args.disk.now.image.now in
    let P : Changes → Type 0 = λ d. Extends (applied I d) c.args.disk.now.layout.now c.args.number g.chain.0 g.chain.1 c.args.blocks.now c.args.numbers.now (applied I c.in_ok-grown.grown) in
    subst P c.in_ok-changed.ensures c.in_ok-grown.ensures
