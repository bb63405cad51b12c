-- What stands in a tree of the host, put one after another.
use Rattle.std.proofs.Common.{◌≡◌, ◌<◌, ◌+◌, ◌∙◌, ℕ, suc, Bool, false, List, Bor, Result, Ok, Err, length, sym, subst, get_or, drop, arith, string_bytes}
use Rattle.std.proofs.Math.Seq.{drop-cons}
use Rattle.std.specs.Prelude.{OnOk}
use Rattle.fs_host.specs.declared.host_tree.TreeEntry.{TreeEntry}
use Rattle.ods_base.specs.declared.file_id.FileId.{FileId}
use Rattle.ods_filing.specs.Filed.{Filed}
use Rattle.ods_upkeep.specs.declared.putting_tree.TreeForm.{TreeForm}
use Rattle.fs_host.specs.declared.host_tree.TreeKind.TheVariants as tree_kind
use Rattle.fs_words.specs.declared.actions.PutWords.{PutWords}
use Rattle.ods_upkeep.specs.Ready.{MayHaveGrown}
use Rattle.ods_upkeep.specs.TreePut.{IsRoot}
use Rattle.f11fs.specs.Dated.{takes_times}
use Rattle.f11fs.specs.Given.{HostGives, Tree}
use Rattle.f11fs.specs.TreeFaults.{AreKept}
use Rattle.f11fs.specs.TreePut.{AreEntriesPut, AreTreeWords, IsEntryPut, IsFilePut, IsKindPut, IsTreePut, tree_form}

-- the first of the rest is put, and then the rest of it
pub entries_on : (G : HostGives) (folder : List ℕ) (dated : Bool) (how : TreeForm) (dir : FileId) (es : List TreeEntry) (i : ℕ) (d : TreeEntry) (old mid : Filed) (goal : Filed → Type 0) → i < length es
    → ((new : Filed) → AreEntriesPut G folder dated how dir (drop i es) old new → goal new) → IsEntryPut G folder dated how dir (get_or es i d) old mid
    → (new : Filed) → AreEntriesPut G folder dated how dir (drop (i + 1) es) mid new → goal new
entries_on G folder dated how dir es i d old mid goal lt before one new rest =
    let place : i + 1 ≡ suc i = omega arith in
    before new (subst (λ l. AreEntriesPut G folder dated how dir l old new) (sym (drop-cons es i d lt)) (mid, one, subst (λ k. AreEntriesPut G folder dated how dir (drop k es) mid new) place rest))

-- a file of a tree is put
pub file_put : {A E : Type 0} (G : HostGives) (folder : List ℕ) (dated : Bool) (how : TreeForm) (dir : FileId) (entry : TreeEntry) (path : List ℕ) (old new : Filed) (r : Result A E) → entry.kind ≡ tree_kind.File → path ≡ string_bytes entry.path
    → OnOk r (IsFilePut G folder dated how dir path old new) → OnOk r (IsEntryPut G folder dated how dir entry old new)
file_put G folder dated how dir entry path old new (Ok a) is same put =
    subst (λ k. IsKindPut k G folder dated how dir (string_bytes entry.path) old new) (sym is) (subst (λ p. IsFilePut G folder dated how dir p old new) same put)
file_put G folder dated how dir entry path old new (Err e) is same put = tt

-- all of a tree is put
pub tree_put : {A E : Type 0} (G : HostGives) (said dated : Bool) (how : PutWords) (words shown : List (Bor (List ℕ))) (stamp folder to : List ℕ) (listed judged entries : List TreeEntry) (form : TreeForm) (old ready there new : Filed) (dir : FileId)
    (r : Result A E) → G folder (Tree listed) → AreKept listed judged → (how.skip ≡ false → judged ≡ listed) → entries ≡ judged → AreTreeWords shown folder to → shown ≡ words → MayHaveGrown (length entries) old ready → IsRoot stamp to ready dir there → form ≡ tree_form how stamp → dated ≡ takes_times how said
    → OnOk r (AreEntriesPut G folder dated form dir entries there new) → OnOk r (IsTreePut G said how words stamp old new)
tree_put G said dated how words shown stamp folder to listed judged entries form old ready there new dir (Ok a) given kept whole all tells same made root is times put = record {
  folder = folder;
  to = to;
  said = subst (λ w. AreTreeWords w folder to) same tells;
  listed = listed;
  given = given;
  entries = entries;
  kept = subst (λ (es : List TreeEntry). AreKept listed es) (sym all) kept;
  whole = λ strict. all ∙ whole strict;
  ready = ready;
  made_ready = made;
  dir = dir;
  there = there;
  root = root;
  put = subst (λ b. AreEntriesPut G folder b (tree_form how stamp) dir entries there new) times (subst (λ f. AreEntriesPut G folder dated f dir entries there new) is put);
}
tree_put G said dated how words shown stamp folder to listed judged entries form old ready there new dir (Err e) given kept whole all tells same made root is times put = tt
