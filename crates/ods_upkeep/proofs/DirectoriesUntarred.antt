-- Directories of an archive, created one by one.
use Rattle.std.proofs.Common.{◌≡◌, ◌∙◌, ap, ℕ, true, false, List, [], Option, None, Some, Result, Ok, Err, inl, inr, refl, sym, subst}
use Rattle.std.specs.Prelude.{MatchBool, MatchResult}
use Rattle.ods_base.specs.declared.file_id.FileId.{FileId}
use Rattle.ods_filing.specs.Filed.{Filed}
use Rattle.ods_paths.specs.Patterns.{has_wildcard}
use Rattle.ods_space.specs.Layout.{VolumeLayout}
use Rattle.ods_upkeep.specs.DirectoryUntarred.{IsDirectoryUntarred, IsMadeAs, IsNotDirectoryUntarred, IsNotMadeAs, IsNotThereAs, IsThereAs, missing}
use Rattle.ods_upkeep.specs.Made.{IsMade}
use Rattle.ods_upkeep.specs.Wayside.{IsNotOpen, IsOpen, IsParted, IsWay, names_nothing, with_part}
use Rattle.ods_upkeep.specs.declared.failure.Why.{Why}
use Rattle.ods_upkeep.specs.declared.untarring_directories.PackedDirectory.{PackedDirectory}

-- the file of a directory that is created, where the volume that is looked at is this one
pub known_as : (r : Result FileId Why) (stamp path : List ℕ) (old new : Filed) (I : List (List ℕ)) (L : VolumeLayout) → IsMade None 0 stamp path old new → I ≡ new.image → L ≡ new.layout
    → MatchResult r (IsOpen I L path) (IsNotOpen I L path) → MatchResult r (λ file. IsMadeAs stamp path file old new) (IsNotMadeAs stamp path old new)
known_as (Ok file) stamp path old new I L made image layout takes = (made, subst (λ J. IsOpen J new.layout path file) image (subst (λ K. IsOpen I K path file) layout takes))
known_as (Err why) stamp path old new I L made image layout none = inr (made, subst (λ J. IsNotOpen J new.layout path why) image (subst (λ K. IsNotOpen I K path why) layout none))

-- the directory at the end of its way
pub at_end : (r : Result (Option FileId) Why) (run : List ℕ) (packed : PackedDirectory) (old ready new : Filed) (parts : List (List ℕ)) (last way path : List ℕ) → has_wildcard packed.path.now ≡ false → IsParted packed.path.now parts last
    → IsWay run parts [] old way ready → names_nothing last ≡ false → path ≡ with_part way last
    → MatchResult r (λ made. IsThereAs packed.stamp path made ready new) (IsNotThereAs packed.stamp path ready new)
    → MatchResult r (λ made. IsDirectoryUntarred run packed made old new) (IsNotDirectoryUntarred run packed old new)
at_end (Ok made) run packed old ready new parts last way path plain parted on_way some same there = record {
  plain = plain;
  parts = parts;
  last = last;
  parted = parted;
  way = way;
  ready = ready;
  on_way = on_way;
  there = subst (λ b. MatchBool b ((made ≡ None) × (new ≡ ready)) (IsThereAs packed.stamp (with_part way last) made ready new)) (sym some)
      (subst (λ p. IsThereAs packed.stamp p made ready new) same there);
}
at_end (Err why) run packed old ready new parts last way path plain parted on_way some same none =
    missing why parts last way ready parted on_way some (subst (λ p. IsNotThereAs packed.stamp p ready new why) same none)

-- a path whose last part names nothing
pub only_way : (run : List ℕ) (packed : PackedDirectory) (old new : Filed) (parts : List (List ℕ)) (last way : List ℕ) → has_wildcard packed.path.now ≡ false → IsParted packed.path.now parts last → IsWay run parts [] old way new
    → names_nothing last ≡ true → IsDirectoryUntarred run packed None old new
only_way run packed old new parts last way plain parted on_way none = record {
  plain = plain;
  parts = parts;
  last = last;
  parted = parted;
  way = way;
  ready = new;
  on_way = on_way;
  there = subst (λ b. MatchBool b ((◌≡◌ {A = Option FileId} None None) × (new ≡ new)) (IsThereAs packed.stamp (with_part way last) None new new)) (sym none) (refl, refl);
}
