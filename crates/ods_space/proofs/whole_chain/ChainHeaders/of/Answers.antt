use Rattle.std.proofs.Common.{◌≡◌, ◌≢◌, [], List, ℕ, Option, Some, None, Bor, true, refl}
use Rattle.std.specs.Prelude.{is_some, IfNone}
use Rattle.ods_space.specs.Layout.{header_at}
use Rattle.ods_space.proofs.Wholes.{first_there}
use Rattle.ods_space.proofs.whole_chain.ChainHeaders.of.Goals as goal

is_there : (o : Option (Bor (List ℕ))) (b : List ℕ) → b ≢ [] → IfNone o (b ≡ []) → is_some o ≡ true
is_there None b some none = absurd (some none)
is_there (Some x) b some none = refl

pub unwrap-first-requires : goal.unwrap-first-requires
unwrap-first-requires c =
    let chain = c.requires.chain in
    let b = header_at c.args.disk.now.image.now c.args.disk.now.layout.now c.args.number in
    is_there c.header_block.result b (first_there c.args.disk.now.image.now c.args.disk.now.layout.now c.args.number chain.0 chain.1 b c.len.ensures.image c.requires.layout chain.2 refl)
    c.header_block.ensures.none
