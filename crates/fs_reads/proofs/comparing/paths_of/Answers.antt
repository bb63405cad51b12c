use Rattle.std.proofs.Common.{rules, ◌≡◌, ◌≤◌, ◌∙◌, sym, ap, subst, map, length, string_bytes}
use Rattle.std.specs.Prelude.{IsPermutation}
use Rattle.std.specs.Ordering.{nat_cmp, is_lt}
use Rattle.std.specs.Cmp.Lexicographic.{slice_cmp}
use Rattle.std.proofs.lemmas.List.{take_all}
use Rattle.std.proofs.lemmas.Cmp.{nat_list_cmp_total}
use Rattle.std.proofs.lemmas.List.Sorted.{ranks_by, answers_always, IsPermutation-map}
use Rattle.fs_reads.specs.declared.comparing.Known.{Known}
use Rattle.ods_shell.specs.There.{line_path}
use Rattle.fs_reads.specs.Paths.{path_and_file, paths_found}
use Rattle.fs_reads.proofs.comparing.paths_of.Goals as goal

pub returns-clause-each : goal.returns-clause-each
returns-clause-each c =
    let past : length c.deref-line-items.result.now ≤ c.loop-line.line-index = search rules in
    let all : map path_and_file c.loop-line.all.items ≡ paths_found c.args.found.now =
    c.loop-line.invariant ∙ ap (λ lines. map (λ line. (line_path c.args.found.now.directories.items line, line.entry.file)) lines) (take_all c.loop-line.line-index c.deref-line-items.result.now past ∙ c.deref-line-items.ensures.value) in
    subst (λ l. IsPermutation l (map path_and_file c.sort_unstable_by.new.self.items)) all (IsPermutation-map path_and_file c.loop-line.all.items c.sort_unstable_by.new.self.items c.sort_unstable_by.ensures.permutation)

pub returns-clause-order : goal.returns-clause-order
returns-clause-order c =
    c.sort_unstable_by.ensures.sorted (λ x y. is_lt (slice_cmp nat_cmp (string_bytes x.path) (string_bytes y.path))) (ranks_by nat_list_cmp_total (λ (t : Known). string_bytes t.path)) (answers_always _ _ _ (λ f a r g h. search rules))
