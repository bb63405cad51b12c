use Rattle.std.proofs.Common.{sym, subst}
use Rattle.ods_remains.specs.Shared.{AreWithin}
use Rattle.ods_remains.proofs.shares.Shares.of.Goals as goal

pub invariant_of-result : goal.invariant_of-result
invariant_of-result c =
    let D = c.args.disk.now in (
      record {
        low_size = subst (AreWithin D.image.now D.layout.now) (sym c.in_ok-lowest.ensures.size) c.in_ok-size.ensures;
        high_size = subst (AreWithin D.image.now D.layout.now) (sym c.in_ok-highest.ensures.size) c.in_ok-size.ensures;
        low = c.in_ok-lowest.ensures.lowest;
        high = c.in_ok-highest.ensures.highest;
      },
      c.in_ok-left.ensures,
    )
