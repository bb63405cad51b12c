use Rattle.std.proofs.Common.{ℕ, List, inl, inr, sym, ap, subst, ◌∙◌}
use Rattle.fs_saving.specs.Memory.{changes_of, held, HeldOnce}
use Rattle.fs_saving.proofs.Sent.{on_ok}
use Rattle.fs_saving.proofs.memory.calls.MemoryFolderFolder.rename.Goals as goal

pub returns-clause-ok : goal.returns-clause-ok
returns-clause-ok c =
    rw c.told.ensures.same
    (on_ok c.rename_file-renamed.result
    (λ moves content was.
    ap (λ l. held l c.args.name.now) c.told.ensures.stays ∙ ap (λ n. held (changes_of c.rename_file-renamed.new.self) n) (sym c.as_bytes.ensures.value)
    ∙ moves content (ap (λ n. held (changes_of c.args.self.now) n) c.as_slice.ensures.value ∙ was))
    c.rename_file-renamed.ensures.ok)

pub returns-clause-moments : goal.returns-clause-moments
returns-clause-moments c = λ content was.
    let self = c.args.self.now in
    let renamed : List ℕ → Type 0 = λ n. HeldOnce c.rename_file-renamed.new.self n content in
    let before : List ℕ → Type 0 = λ n. HeldOnce self n content in
    elim (c.rename_file-renamed.ensures.moments content (subst renamed (sym c.as_bytes.ensures.value) (c.told.ensures.moments c.args.name.now content was))) [
      | inl once ↦ inl (subst before c.as_bytes.ensures.value once)
      | inr has ↦ inr (ap (λ n. held (changes_of self) n) (sym c.as_slice.ensures.value) ∙ has)
    ]
