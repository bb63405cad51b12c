use Rattle.std.proofs.Common.{◌≡◌, ℕ, ◌+◌, ◌∙◌, List, true, refl, sym, subst, arith, inl, inr}
use Rattle.std.specs.Prelude.{◌⊎◌}
use Rattle.std.proofs.lemmas.Bool.{cases_eq}
use Rattle.ods_mount.specs.Tables.{IsWith, has}
use Rattle.ods_repair.specs.Moved.{IsInRun}
use Rattle.ods_repair.specs.Settled.{HasRunToo}
use Rattle.ods_repair.proofs.unsharing.insert_run.Goals as goal

more_in : (new mid old : List ℕ) (lbn k : ℕ) → HasRunToo mid old (record { lbn = lbn; count = k }) → IsWith new mid (lbn + k) → HasRunToo new old (record { lbn = lbn; count = k + 1 })
more_in new mid old lbn k before with_it b = (to, back)
  where
    to : has new b ≡ true → (has old b ≡ true) ⊎ IsInRun (record { lbn = lbn; count = k + 1 }) b
    to h = elim (cases_eq b (lbn + k)) [
      | inl same ↦ inr (omega (arith, same), omega (arith, same))
      | inr other ↦ elim ((before b).0 (sym (with_it.1 b other) ∙ h)) [
        | inl was ↦ inl was
        | inr inside ↦ let low = inside.0 in let high = inside.1 in inr (low, omega (arith, high))
      ]
    ]

    back : (has old b ≡ true) ⊎ IsInRun (record { lbn = lbn; count = k + 1 }) b → has new b ≡ true
    back h = elim (cases_eq b (lbn + k)) [
      | inl same ↦ subst (λ x. has new x ≡ true) (sym same) with_it.0
      | inr other ↦ with_it.1 b other ∙ (before b).1 (elim h [
        | inl was ↦ inl was
        | inr inside ↦ let low = inside.0 in let high = inside.1 in inr (low, omega (arith, high, other))
      ])
    ]

pub loop-k-init : goal.loop-k-init
loop-k-init c = record {
  with = λ b. ((λ h. inl h), (λ h. elim h [ inl was ↦ was | inr inside ↦ let low = inside.0 in let high = inside.1 in absurd (omega (arith, low, high)) ]));
  room = refl;
}

pub insert-requires : goal.insert-requires
insert-requires c = let room = c.requires.room in let few = c.loop-k-test.true in let long = c.loop-k.invariant.room in omega (arith, room, few, long)

pub loop-k-preserved : goal.loop-k-preserved
loop-k-preserved c = record {
  with = more_in c.insert.new.self c.loop-k.set c.args.set.now c.args.run.now.lbn c.loop-k.k c.loop-k.invariant.with c.insert.ensures.with;
  room = c.insert.ensures.room ∙ c.loop-k.invariant.room;
}

pub returns-clause-with : goal.returns-clause-with
returns-clause-with c =
    let end = c.loop-k-test.false in
    let most = c.loop-k.auto.k-end in
    let is : c.loop-k.k ≡ c.args.run.now.count = omega (arith, end, most) in
    subst (λ k. HasRunToo c.loop-k.set c.args.set.now (record { lbn = c.args.run.now.lbn; count = k })) is c.loop-k.invariant.with
