use Rattle.std.proofs.Common.{◌≡◌, ◌<◌, ◌++◌, ◌∷◌, [], sym, ap, ◌∙◌, arith}
use Rattle.std.proofs.lemmas.List.{append-nil, append_assoc}
use Rattle.ods_space.specs.Chain.{headers_of, numbers_of}
use Rattle.ods_check.proofs.SharedHeaders.{chain_headers_are, chain_headers_once, all_push}
use Rattle.ods_check.proofs.shared_headers.chain_numbers.Goals as goal

pub loop-header-preserved : goal.loop-header-preserved
loop-header-preserved c =
    let old = c.loop-header.numbers.items in
    let new = c.push.new.self.items in
    let x = c.in-Some.header in
    record {
      parts = c.loop-header.invariant.parts ∙ ap (λ hs. old ++ numbers_of hs) c.in-Some.ensures.some.0 ∙ sym (append_assoc old (x ∷ []) (numbers_of c.next.new.self)) ∙ ap (λ ys. ys ++ numbers_of c.next.new.self) (sym c.in_ok-push.ensures.items);
      small = all_push (λ y. y < 65536) old new x c.in_ok-push.ensures.items (omega arith) c.loop-header.invariant.small;
    }

pub returns-clause-headers : goal.returns-clause-headers
returns-clause-headers c =
    let chain = c.requires.chain in
    let xs = c.loop-header.numbers.items in
    let is : xs ≡ numbers_of (headers_of c.args.disk.now.image.now c.args.disk.now.layout.now c.args.number) = sym (c.loop-header.invariant.parts ∙ ap (λ hs. xs ++ numbers_of hs) c.in_default.ensures.none ∙ append-nil xs) in
    chain_headers_are c.args.disk.now.image.now c.args.disk.now.layout.now c.args.number chain.0 chain.1 xs c.len.ensures.image c.requires.layout chain.2 is

pub returns-clause-distinct : goal.returns-clause-distinct
returns-clause-distinct c =
    let chain = c.requires.chain in
    let xs = c.loop-header.numbers.items in
    let is : xs ≡ numbers_of (headers_of c.args.disk.now.image.now c.args.disk.now.layout.now c.args.number) = sym (c.loop-header.invariant.parts ∙ ap (λ hs. xs ++ numbers_of hs) c.in_default.ensures.none ∙ append-nil xs) in
    chain_headers_once c.args.disk.now.image.now c.args.disk.now.layout.now c.args.number chain.0 chain.1 xs c.len.ensures.image c.requires.layout chain.2 is
