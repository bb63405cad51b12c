use Rattle.std.proofs.Common.{◌≡◌, ℕ, true, false, inl, inr, sym, ◌∙◌, subst, arith}
use Rattle.std.proofs.lemmas.Bool.{cases_lt}
use Rattle.ods_header.specs.Home.{IsHomePlace}
use Rattle.ods_space.specs.Free.{is_free_block}
use Rattle.ods_mount.proofs.places.check_free_places.Goals as goal
use Rattle.ods_mount.proofs.places.check_free_places.Goals.{else-is_home_place-via-then-is_home_place+else-is_free, else-is_home_place-via-else-is_home_place}

pub returns-then-is_free-clause-err : goal.returns-then-is_free-clause-err
returns-then-is_free-clause-err c =
    inr (inr (inr (c.args.home_lbn, c.loop-lbn.lbn, c.requires, c.is_home_place.ensures.0 c.if-is_home_place.true, c.loop-lbn-test.true, inl (sym c.is_free.ensures ∙ c.if-is_free.true))))

pub loop-lbn-preserved : goal.loop-lbn-preserved
loop-lbn-preserved c k place low = elim (cases_lt k c.loop-lbn.lbn) [
  | inl less ↦ c.loop-lbn.invariant k place less
  | inr more ↦
      let e : c.loop-lbn.lbn ≡ k = omega arith in
      let P : ℕ → Type 0 = λ x. IsHomePlace x → is_free_block c.args.disk.now.image.now c.args.disk.now.layout.now x ≡ false in
      subst P e (λ here. elim c.else-is_home_place.branch [
        | else-is_home_place-via-then-is_home_place+else-is_free w ↦ sym w.is_free.ensures ∙ w.if-is_free.false
        | else-is_home_place-via-else-is_home_place w ↦
            let clash : true ≡ false = sym (c.is_home_place.ensures.1 here) ∙ w.if-is_home_place.false in
            absurd (cc)
      ]) place
]
