use Rattle.std.proofs.Common.{string_bytes}
use Rattle.fs_reads.specs.Shown.{Extends}
use Rattle.fs_reads.proofs.listing.push_listings.Given as goal

abbrev pub invariant-loop-path : goal.invariant-loop-path
invariant-loop-path l = Extends (string_bytes l.initial.text) (string_bytes l.text)
