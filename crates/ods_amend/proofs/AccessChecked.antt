-- What the check of the user sees of a file, by its first header b.
use Rattle.std.proofs.Common.{◌≡◌, ap, sym, ◌∙◌, Bool, List, ℕ}
use Rattle.std.specs.Prelude.{not}
use Rattle.ods_base.specs.Block.{byte}
use Rattle.ods_base.specs.declared.file_id.FileId.{FileId}
use Rattle.ods_base.specs.declared.file_id.Uic.{Uic}
use Rattle.ods_header.specs.Header.{owner_of}
use Rattle.ods_space.specs.Layout.{VolumeLayout, header_at}
use Rattle.ods_space.specs.Files.{HasBlocks}
use Rattle.ods_state.specs.Contents.{file_of}
use Rattle.ods_look.specs.Opening.{file_shown}
use Rattle.ods_amend.specs.Access.{may_give}

pub owner_seen : {I : List (List ℕ)} {L : VolumeLayout} (id : FileId) {b : List ℕ} → b ≡ header_at I L id.number → (whole : (blocks : List ℕ) × HasBlocks I L id.number blocks)
    → (who owner : Uic) (may g : Bool) → owner ≡ owner_of b → may ≡ may_give who owner → may ≡ g → not (may_give who (file_shown I L id whole.0).owner) ≡ not g
unfolding file_of
owner_seen id header whole who owner may g own is e =
    ap not ((λ i. may_give who (record { group = byte (sym header i) 9; member = byte (sym header i) 8 })) ∙ ap (may_give who) (sym own) ∙ sym is ∙ e)
