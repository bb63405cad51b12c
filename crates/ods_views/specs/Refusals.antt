-- The number and the name of each fault of this crate, as they are printed.
use Rattle.std.specs.Prelude.{ℕ, List, codes}
use Rattle.ods_request.specs.Refusals.{refusal_row}
use Rattle.ods_views.specs.declared.viewer.ViewFault.{ViewFault}
use Rattle.ods_views.specs.declared.viewer.ViewFault.TheVariants as view

-- the row of the reason why a viewer does not answer a query
abbrev pub view_row : ViewFault → ℕ × List ℕ
view_row (view.Refused refusal) = refusal_row refusal
view_row view.Closed = (61, codes "Closed")
