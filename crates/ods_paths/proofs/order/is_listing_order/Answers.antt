use Rattle.ods_paths.proofs.ListingOrder.{listing_total, listing_equal}
use Rattle.ods_paths.proofs.order.is_listing_order.Goals as goal

pub returns : goal.returns
returns c = record { total = listing_total; equal = listing_equal }
