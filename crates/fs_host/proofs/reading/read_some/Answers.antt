-- What came within a limit that was not reached is all.
use Rattle.std.specs.Prelude.{◌≡◌, ℕ, ◌<◌, Option, Some, None, IfSome, List, [], ◌++◌, length, take}
use Rattle.std.specs.Option.{option_map}
use Rattle.std.proofs.Common.{ap, subst, ◌∙◌, arith, length-take}
use Rattle.std.proofs.lemmas.List.{take_all}
use Rattle.fs_host.proofs.reading.read_some.Goals as goal

-- bytes that are fewer than the limit are all that there were
front_is_all : (known : Option (List ℕ)) (limit : ℕ) (old items : List ℕ) → old ≡ [] → IfSome (option_map (take limit) known) (λ xs. items ≡ old ++ xs) → length items < limit → IfSome known (λ all. items ≡ all)
front_is_all None limit old items none e few = tt
front_is_all (Some all) limit old items none e few =
    let came : items ≡ take limit all = e ∙ ap (λ l. l ++ take limit all) none in
    came ∙ take_all limit all (omega (arith, ap length came, length-take limit all))

pub returns-clause-all : goal.returns-clause-all
returns-clause-all g c =
    let remaining = g.I.Read.remaining in
    let taken = c.take-front.result in
    let new = c.read_to_end.new.buf in
    let few : length new.items < taken.limit = omega (arith, new.ok.0, new.small, c.take-front.ensures.limit, c.saturating_add.ensures, c.len.ensures, c.if-len-most.false) in
    subst (λ o. IfSome o (λ all. new.items ≡ all)) (ap (λ r. remaining r.now) c.take-front.ensures.inner)
    (front_is_all (remaining taken.inner.now) taken.limit c.new-bytes.result.items new.items c.new-bytes.ensures.items c.in_ok-read_to_end.ensures.bytes few)
