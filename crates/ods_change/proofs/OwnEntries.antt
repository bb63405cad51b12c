-- An entry that an Enter writes carries its volume and its directory: a statement about either is one about the entry.
use Rattle.std.proofs.Common.{◌≡◌, ℕ, sym, subst, List, Option}
use Rattle.ods_base.specs.Name.{RadName}
use Rattle.ods_base.specs.declared.file_id.FileId.{FileId}
use Rattle.ods_base.specs.declared.file_id.Uic.{Uic}
use Rattle.ods_space.specs.Layout.{VolumeLayout}
use Rattle.ods_change.specs.declared.entry.NewEntry.{NewEntry}
use Rattle.ods_change.specs.Entering.{IsEntryFor, IsNewEntry}

module _ {I : List (List ℕ)} {L : VolumeLayout} {who : Uic} {dir : FileId} {name : RadName} {given : Option ℕ} {file : FileId} {new : NewEntry}
    (e : IsNewEntry I L who dir name given file new) where
  place : ◌≡◌ {A = List (List ℕ) × VolumeLayout × FileId} (new.disk.image.now, new.disk.layout.now, new.dir) (I, L, dir)
  place i = (e.image i, e.layout i, e.directory i)

  pub is_own : (P : List (List ℕ) → VolumeLayout → FileId → Type 0) → P I L dir → P new.disk.image.now new.disk.layout.now new.dir
  is_own P = subst (λ p. P p.0 p.1 p.2) (sym place)

  pub own_is : (P : List (List ℕ) → VolumeLayout → FileId → Type 0) → P new.disk.image.now new.disk.layout.now new.dir → P I L dir
  own_is P = subst (λ p. P p.0 p.1 p.2) place

  pub own_words : IsEntryFor new.disk.image.now new.disk.layout.now who new.dir name given file new
  own_words = is_own (λ J M d. IsEntryFor J M who d name given file new) e.entry
