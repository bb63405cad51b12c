use Rattle.std.proofs.Common.{◌≡◌, ℕ, ◌-◌, List, ◌∷◌, refl, sym, ap, ◌∙◌, subst, arith}
use Rattle.ods_header.specs.Header.{next_number_of}
use Rattle.ods_space.specs.Layout.{header_at}
use Rattle.ods_space.specs.Chain.{headers_along, AreValid}
use Rattle.ods_space.proofs.Wholes.{along_0, along_none, along_past, next_is, next_valid, next_rest, next_none}
use Rattle.ods_space.proofs.whole_chain.ChainHeaders.next.Goals as goal
use Rattle.ods_space.proofs.whole_chain.ChainHeaders.next.Goals.{then-self-eq0-via-then-self-eq0, then-self-eq0-via-else-self-eq0+then-self-eq0-2, in-Some, in-None}

pub returns-then-self-eq0-clause-none : goal.returns-then-self-eq0-clause-none
returns-then-self-eq0-clause-none c =
    let s = c.self.inside in
    sym c.self.view_is ∙ elim c.then-self-eq0.branch [
      | then-self-eq0-via-then-self-eq0 w ↦ along_none s.disk.image.now s.disk.layout.now s.left s.number w.if-self-eq0.true
      | then-self-eq0-via-else-self-eq0+then-self-eq0-2 w ↦ along_past s.disk.image.now s.disk.layout.now s.left s.number w.if-self-eq0-2.true
    ]

pub next_number-self-inside-requires : goal.next_number-self-inside-requires
next_number-self-inside-requires c =
    let s = c.self.inside in
    (next_valid s.disk.image.now s.disk.layout.now s.left s.number s.block.now c.if-self-eq0.false c.if-self-eq0-2.false (c.self.invariant.0 c.if-self-eq0.false) c.self.invariant.1).header.layout.low

pub invariant_of-self : goal.invariant_of-self
invariant_of-self c =
    let s = c.self.inside in
    let at : c.in-Some.block.now ≡ header_at s.disk.image.now s.disk.layout.now c.next_number-self-inside.result = c.in-Some.ensures.some in
    let P : ℕ → Type 0 = λ m. AreValid (headers_along s.disk.image.now s.disk.layout.now (s.left - 1) m) in (
      λ _. at,
      subst P (sym c.next_number-self-inside.ensures)
          (next_rest s.disk.image.now s.disk.layout.now s.left s.number s.block.now c.if-self-eq0.false c.if-self-eq0-2.false (c.self.invariant.0 c.if-self-eq0.false) c.self.invariant.1),
    )

pub invariant_of-self-in-None : goal.invariant_of-self-in-None
invariant_of-self-in-None c =
    let s = c.self.inside in
    let P : List (ℕ × List ℕ) → Type 0 = λ hs. AreValid hs in
    (λ other. absurd (other refl), subst P (sym (along_0 s.disk.image.now s.disk.layout.now (s.left - 1))) (λ i d within. absurd (omega arith)))

pub returns-clause-some : goal.returns-clause-some
returns-clause-some c =
    let s = c.self.inside in
    let block = c.self.invariant.0 c.if-self-eq0.false in
    let is = next_is s.disk.image.now s.disk.layout.now s.left s.number s.block.now c.if-self-eq0.false c.if-self-eq0-2.false block c.self.invariant.1 in
    let rest : headers_along s.disk.image.now s.disk.layout.now (s.left - 1) (next_number_of s.block.now) ≡ c.match-header_block.self = elim c.match-header_block.branch [
      | in-Some w ↦ ap (headers_along s.disk.image.now s.disk.layout.now (s.left - 1)) (sym c.next_number-self-inside.ensures) ∙ sym w.self-is
      | in-None w ↦
          let nothing = sym (ap (header_at s.disk.image.now s.disk.layout.now) c.next_number-self-inside.ensures) ∙ w.in-None.ensures.none in
          next_none s.disk.image.now s.disk.layout.now s.left s.number s.block.now c.if-self-eq0.false c.if-self-eq0-2.false block c.self.invariant.1 nothing
          ∙ sym (along_0 s.disk.image.now s.disk.layout.now (s.left - 1)) ∙ sym w.self-is
    ] in (
      sym c.self.view_is ∙ is ∙ ap (λ l. (s.number, s.block.now) ∷ l) rest,
      next_valid s.disk.image.now s.disk.layout.now s.left s.number s.block.now c.if-self-eq0.false c.if-self-eq0-2.false block c.self.invariant.1,
    )
