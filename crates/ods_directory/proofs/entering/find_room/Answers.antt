use Rattle.std.proofs.Common.{ℕ, ◌/◌, ◌∙◌, ap, refl, None}
use Rattle.ods_directory.specs.declared.entering.Room.{Room}
use Rattle.ods_directory.specs.declared.first.Kind.TheVariants.{Empty}
use Rattle.ods_directory.specs.Entering.{pick_of}
use Rattle.ods_directory.specs.Entry.{Entry, entry_at}
use Rattle.ods_directory.specs.First.{first_after}
use Rattle.ods_directory.specs.Search.{search_after}
use Rattle.ods_directory.proofs.Firsts.{first_found}
use Rattle.ods_directory.proofs.Folds.{fold_part}
use Rattle.ods_directory.proofs.Searches.{meant_found}
use Rattle.ods_directory.proofs.entering.find_room.Goals as goal

abbrev step : (ℕ → Entry) → Room → ℕ → Room
step entry s k = record { search = search_after s.search k (entry k); empty = first_after s.empty k (entry k) }

pub returns-clause-found : goal.returns-clause-found
returns-clause-found g c =
    let entry = entry_at (g.B.DirBlocks.blocks c.args.blocks.now) in
    let start : Room = record { search = c.of.result; empty = c.of-2.result } in
    meant_found entry c.args.name.now (pick_of c.args.version) (c.args.mark / 16) c.of.result c.scan.new.into.search
    (c.of.ensures ∙ ap (λ p. record { name = c.args.name.now; pick = p; found = None }) c.pick_of.ensures)
    (ap (λ (r : Room). r.search) c.scan.ensures.after ∙ fold_part (λ (r : Room). r.search) (step entry) (λ s k. search_after s k (entry k)) (λ s k. refl) start 0 (c.args.mark / 16))

pub returns-clause-empty : goal.returns-clause-empty
returns-clause-empty g c =
    let entry = entry_at (g.B.DirBlocks.blocks c.args.blocks.now) in
    let start : Room = record { search = c.of.result; empty = c.of-2.result } in
    first_found Empty entry (c.args.mark / 16) c.of-2.result c.scan.new.into.empty c.of-2.ensures
    (ap (λ (r : Room). r.empty) c.scan.ensures.after ∙ fold_part (λ (r : Room). r.empty) (step entry) (λ s k. first_after s k (entry k)) (λ s k. refl) start 0 (c.args.mark / 16))
