-- What the last part of a path names.
use Rattle.std.proofs.Common.{◌≡◌, List, ℕ, [], Bool, true, false, sym, ap, ◌∙◌}
use Rattle.std.specs.Prelude.{if◌then◌else◌}
use Rattle.ods_paths.specs.Paths.{directory_in, files_in, names_directory}

-- the last part names a directory, or files
pub in_directory : (last : List ℕ) (b : Bool) → b ≡ names_directory last → b ≡ true → (last ≡ directory_in last) × ([] ≡ files_in last)
in_directory last b is holds =
    let names : names_directory last ≡ true = sym is ∙ holds in
    (sym (ap (λ (t : Bool). if t then last else []) names), sym (ap (λ (t : Bool). if t then [] else last) names))

pub in_files : (last : List ℕ) (b : Bool) → b ≡ names_directory last → b ≡ false → ([] ≡ directory_in last) × (last ≡ files_in last)
in_files last b is fails =
    let names : names_directory last ≡ false = sym is ∙ fails in
    (sym (ap (λ (t : Bool). if t then last else []) names), sym (ap (λ (t : Bool). if t then [] else last) names))
