use Rattle.std.proofs.Common.{◌≡◌, ◌≢◌, ◌+◌, ◌-◌, ◌∙◌, Some, [], get_or, true, false, refl, sym, ap, subst, arith, inl, inr, nat_eq}
use Rattle.std.proofs.lemmas.Bool.{cases_lt}
use Rattle.std.specs.List.{slice_get}
use lib.Pointwise.{pointwise, bytes_decides}
use Rattle.std.proofs.lemmas.Option.{slice_get-get_or, get_or_from_slice_get}
use Rattle.ods_directory.proofs.twins.has_twin_neighbours.Goals as goal

pub returns-then-eq : goal.returns-then-eq
returns-then-eq c =
    let keys = c.args.keys.now in
    let position : c.loop-i.i ≡ c.loop-i.i - 1 + 1 = omega arith in
    record {
      at = c.loop-i.i - 1;
      one = get_or keys (c.loop-i.i - 1) [];
      other = get_or keys c.loop-i.i [];
      first = slice_get-get_or keys (c.loop-i.i - 1) [] (omega arith);
      second = subst (λ k. slice_get keys k ≡ Some (get_or keys c.loop-i.i [])) position (slice_get-get_or keys c.loop-i.i [] (omega arith));
      same = (bytes_decides _ _).0 (sym c.eq.ensures ∙ c.if-eq.true);
    }

pub loop-i-preserved : goal.loop-i-preserved
loop-i-preserved c =
    let keys = c.args.keys.now in
    let one = get_or keys (c.loop-i.i - 1) [] in
    let other = get_or keys c.loop-i.i [] in
    let apart : one ≢ other = λ same.
    let clash : true ≡ false = sym (subst (λ k. pointwise nat_eq one k ≡ true) same ((bytes_decides one one).1 refl)) ∙ sym c.eq.ensures ∙ c.if-eq.false in
    absurd (cc) in
    λ k below x y first second. elim (cases_lt (k + 1) c.loop-i.i) [
      | inl before ↦ c.loop-i.invariant k before x y first second
      | inr last ↦
          let low : k ≡ c.loop-i.i - 1 = omega arith in
          let high : k + 1 ≡ c.loop-i.i = omega arith in
          let left : x ≡ one = sym (get_or_from_slice_get keys k x [] first) ∙ ap (λ n. get_or keys n []) low in
          let right : y ≡ other = sym (get_or_from_slice_get keys (k + 1) y [] second) ∙ ap (λ n. get_or keys n []) high in
          λ same. apart (sym left ∙ same ∙ right)
    ]
