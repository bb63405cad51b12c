use Rattle.std.proofs.Common.{rules, ◌≡◌, ◌≢◌, ◌∙◌, ◌+◌, ℕ, IsTrue, List, None, Some, inr, refl, ap, subst, sym, arith}
use Rattle.std.specs.Prelude.{slice_set, unwrap_or}
use Rattle.ods_directory.specs.Entry.{Entry, entry_at, is_used}
use Rattle.ods_repair.specs.Doubled.{IsUsed, name_part, with_version}
use Rattle.ods_repair.specs.Noted.{Sets, number_in}
use Rattle.ods_repair.proofs.Renumbering.{one_again, one_first, one_unused}
use Rattle.ods_repair.proofs.Renumbered.{is_full}
use Rattle.ods_repair.proofs.doubling.renumber_one.Goals as goal

pub returns-in_default-clause-ok : goal.returns-in_default-clause-ok
returns-in_default-clause-ok c = λ old count long low s.
    let here : entry_at c.args.blocks.now c.args.k ≡ old c.args.k = s.later c.args.k (omega arith) in
    one_unused old count long (entry_at c.args.blocks.now) c.args.k (number_in c.args.highest.now) (number_in c.args.seen.now) s
    (λ used. c.in_default.ensures.none (subst (λ e. IsTrue (is_used e)) (sym here) used))

pub returns-then-is_none-clause-ok : goal.returns-then-is_none-clause-ok
returns-then-is_none-clause-ok c = λ old count long low s.
    let here : entry_at c.args.blocks.now c.args.k ≡ old c.args.k = s.later c.args.k (omega arith) in
    let key : c.in-Some.key ≡ (old c.args.k).key = c.in-Some.ensures.some.1 ∙ ap (λ (e : Entry). e.key) here in
    let gone : c.get.result ≡ None = search rules in
    let none : number_in c.args.seen.now (old c.args.k).key ≡ None = sym (ap (number_in c.args.seen.now) key) ∙ sym c.get.ensures ∙ gone in
    one_first old count long (entry_at c.args.blocks.now) c.args.k (number_in c.args.highest.now) (number_in c.args.seen.now) s (number_in c.put.new.self) 0
    (low, subst (λ e. IsTrue (is_used e)) here c.in-Some.ensures.some.0) none
    (subst (λ (q : List ℕ). Sets (number_in c.args.seen.now) q 0 (number_in c.put.new.self)) key c.in_ok-put.ensures)

pub returns-then-known-ge-LAST_VERSION-clause-refused : goal.returns-then-known-ge-LAST_VERSION-clause-refused
returns-then-known-ge-LAST_VERSION-clause-refused c = inr (
  refl,
  λ old count low s.
      let here : entry_at c.args.blocks.now c.args.k ≡ old c.args.k = s.later c.args.k (omega arith) in
      let key : c.in-Some.key ≡ (old c.args.k).key = c.in-Some.ensures.some.1 ∙ ap (λ (e : Entry). e.key) here in
      let came : c.get.result ≢ None = search rules in
      let there : number_in c.args.seen.now (old c.args.k).key ≢ None = λ none. came (c.get.ensures ∙ ap (number_in c.args.seen.now) key ∙ none) in
      let used : IsUsed old count c.args.k = (low, subst (λ e. IsTrue (is_used e)) here c.in-Some.ensures.some.0) in
      let name : c.name_of-name.result ≡ name_part (old c.args.k) = c.name_of-name.ensures ∙ ap (λ (k : List ℕ). slice_set k 4 0) key in
      let t = s.top c.args.k used in
      let known : c.unwrap_or-known.result ≡ t.0 = c.unwrap_or-known.ensures ∙ ap (λ o. unwrap_or o 0) (c.get-2.ensures ∙ ap (number_in c.args.highest.now) name ∙ t.1) in
      is_full old (entry_at c.args.blocks.now) count c.args.k c.unwrap_or-known.result (number_in c.args.highest.now) (number_in c.args.seen.now) s used there (t.1 ∙ ap Some (sym known)) c.if-known-ge-LAST_VERSION.true,
)

pub returns-clause-ok : goal.returns-clause-ok
returns-clause-ok c = λ old count long low s.
    let here : entry_at c.args.blocks.now c.args.k ≡ old c.args.k = s.later c.args.k (omega arith) in
    let key : c.in-Some.key ≡ (old c.args.k).key = c.in-Some.ensures.some.1 ∙ ap (λ (e : Entry). e.key) here in
    let came : c.get.result ≢ None = search rules in
    let there : number_in c.args.seen.now (old c.args.k).key ≢ None = λ none. came (c.get.ensures ∙ ap (number_in c.args.seen.now) key ∙ none) in
    let used : IsUsed old count c.args.k = (low, subst (λ e. IsTrue (is_used e)) here c.in-Some.ensures.some.0) in
    let name : c.name_of-name.result ≡ name_part (old c.args.k) = c.name_of-name.ensures ∙ ap (λ (k : List ℕ). slice_set k 4 0) key in
    let t = s.top c.args.k used in
    let known : c.unwrap_or-known.result ≡ t.0 = c.unwrap_or-known.ensures ∙ ap (λ o. unwrap_or o 0) (c.get-2.ensures ∙ ap (number_in c.args.highest.now) name ∙ t.1) in
    let more = c.if-known-ge-LAST_VERSION.false in
    one_again old count long (entry_at c.args.blocks.now) c.args.k (number_in c.args.highest.now) (number_in c.args.seen.now) s (entry_at c.set_version.new.blocks) (number_in c.put-2.new.self) c.unwrap_or-known.result
    used there (t.1 ∙ ap Some (sym known)) (omega (arith, more)) c.set_version.ensures.others (c.set_version.ensures.here ∙ ap (λ e. with_version e (c.unwrap_or-known.result + 1)) here)
    (subst (λ (q : List ℕ). Sets (number_in c.args.highest.now) q (c.unwrap_or-known.result + 1) (number_in c.put-2.new.self)) name c.in_ok-put-2.ensures)
