use Rattle.std.proofs.Common.{◌≡◌, ◌∙◌, ℕ, List, ap, subst}
use Rattle.std.specs.Prelude.{max, slice_index, slice_set, unwrap_or}
use Rattle.ods_directory.specs.Entry.{Entry, entry_at}
use Rattle.ods_repair.specs.Doubled.{name_part, version_part}
use Rattle.ods_repair.specs.Noted.{Sets, number_in}
use Rattle.ods_repair.proofs.Renumbered.{more_highest, same_highest}
use Rattle.ods_repair.proofs.doubling.note_version.Goals as goal

pub returns-in_default : goal.returns-in_default
returns-in_default c = λ count low s. same_highest (entry_at c.args.blocks.now) count c.args.k (number_in c.args.highest.now) s c.in_default.ensures.none

pub returns : goal.returns
returns c = λ count low s.
    let e : Entry = entry_at c.args.blocks.now c.args.k in
    let key = c.in-Some.ensures.some.1 in
    let name : c.name_of-name.result ≡ name_part e = c.name_of-name.ensures ∙ ap (λ (k : List ℕ). slice_set k 4 0) key in
    let known : c.unwrap_or-known.result ≡ unwrap_or (number_in c.args.highest.now (name_part e)) 0 =
    c.unwrap_or-known.ensures ∙ ap (λ o. unwrap_or o 0) (c.get.ensures ∙ ap (number_in c.args.highest.now) name) in
    let most : c.max.result ≡ max (unwrap_or (number_in c.args.highest.now (name_part e)) 0) (version_part e) =
    c.max.ensures ∙ ap (λ (k : List ℕ). max c.unwrap_or-known.result (slice_index k 4)) key ∙ ap (λ v. max v (version_part e)) known in
    more_highest (entry_at c.args.blocks.now) count c.args.k (number_in c.args.highest.now) s (number_in c.put.new.self) c.max.result (low, c.in-Some.ensures.some.0) most
    (subst (λ (q : List ℕ). Sets (number_in c.args.highest.now) q c.max.result (number_in c.put.new.self)) name c.in_ok-put.ensures)
