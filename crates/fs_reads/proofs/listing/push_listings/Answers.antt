use Rattle.std.proofs.Common.{string_bytes}
use Rattle.fs_reads.proofs.Growing.{extends_on}
use Rattle.fs_reads.proofs.listing.push_listings.Goals as goal

pub returns-in_err-push_listing : goal.returns-in_err-push_listing
returns-in_err-push_listing c = extends_on (string_bytes c.args.text.now) (string_bytes c.loop-path.text) (string_bytes c.push_listing-in-loop-path.new.text) c.loop-path.invariant c.push_listing-in-loop-path.ensures

pub loop-path-preserved : goal.loop-path-preserved
loop-path-preserved c = extends_on (string_bytes c.args.text.now) (string_bytes c.loop-path.text) (string_bytes c.push_listing-in-loop-path.new.text) c.loop-path.invariant c.push_listing-in-loop-path.ensures
