-- A step by which the layout stays, with no block for INDEXF.SYS.
use Rattle.std.proofs.Common.{◌≡◌, ℕ, List, [], sym, subst}
use Rattle.ods_base.specs.declared.file_id.Uic.{Uic}
use Rattle.ods_space.specs.Draft.{Changes, applied}
use Rattle.ods_space.specs.Layout.{VolumeLayout, with_places}
use Rattle.ods_request.specs.declared.requests.Request.{Request}
use Rattle.ods_request.specs.declared.answers.Answer.{Answer}
use Rattle.ods_state.specs.Served.{IsStepOf}
use Rattle.ods_state.proofs.GrownMoves.{no_places}
use Rattle.ods_change.specs.declared.beginning.Drafted.{Drafted}

pub step_still : {I : List (List ℕ)} {L : VolumeLayout} {who : Uic} {r : Request} {a : Answer} {d : Changes} (o : Drafted) → o.draft ≡ d → o.places.items ≡ []
    → IsStepOf I L who r a (applied I d) L → IsStepOf I L who r a (applied I o.draft) (with_places L o.places.items)
step_still {I = I} {L = L} {who = who} {r = r} {a = a} {d = d} o same none step =
    subst (λ M. IsStepOf I L who r a (applied I o.draft) M) (sym (no_places L o.places.items none)) (subst (λ e. IsStepOf I L who r a (applied I e) L) (sym same) step)
