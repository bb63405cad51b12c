use Rattle.std.proofs.Common.{drop, is_some}
use Rattle.ods_filing.specs.Filed.{Filed}
use Rattle.f11fs.specs.TreePut.{AreEntriesPut}
use Rattle.f11fs.proofs.putting_tree.put_entries.Given as goal

-- what the rest leaves is what all leave
abbrev pub invariant-loop-entry : goal.invariant-loop-entry
invariant-loop-entry g l = (new : Filed) → AreEntriesPut (g.R.Host.gives l.rt) l.folder (is_some l.zone) l.how l.dir (drop l.entry-index l.entries) l.filing new → AreEntriesPut (g.R.Host.gives l.rt) l.folder (is_some l.zone) l.how l.dir l.entries l.initial.filing new
