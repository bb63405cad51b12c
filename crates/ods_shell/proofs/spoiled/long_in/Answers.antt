use Rattle.std.proofs.Common.{◌≡◌, ◌≤◌, ℕ, sym, ap, ◌∙◌, subst, Some}
use Rattle.std.specs.Prelude.{IfSome}
use Rattle.ods_files.specs.Body.{bytes_in}
use Rattle.ods_files.specs.declared.form.Form.TheVariants.{Binary}
use Rattle.ods_records.specs.Attributes.{kind_in}
use Rattle.ods_records.specs.Long.{IsFirstLong}
use Rattle.ods_records.specs.Records.{word_at}
use Rattle.ods_shell.specs.Spoiled.{IsTooLongIn, record_size}
use Rattle.ods_shell.proofs.Bodies.{if_none, no_long_in}
use Rattle.ods_shell.proofs.spoiled.long_in.Goals as goal

pub returns-clause-none : goal.returns-clause-none
returns-clause-none c =
    let body = c.args.body.now in
    let kind = c.in-Some.kind in
    let items = c.in-Some-2.bytes.items in
    let is_kind : kind_in body.attributes ≡ Some kind = sym (c.kind_of.ensures ∙ ap kind_in c.attributes-attributes.ensures) ∙ c.in-Some.is in
    let is_bytes : bytes_in Binary body ≡ Some items = subst (λ o. IfSome o (λ b. bytes_in Binary body ≡ Some b.items)) c.in-Some-2.is c.in_ok-bytes.ensures.some in
    let most : c.record_size-most.result ≡ record_size body = c.record_size-most.ensures ∙ ap (λ xs. word_at xs 2) c.attributes-attributes.ensures in
    if_none c.first_long.result ((at size : ℕ) → ¬ IsFirstLong kind c.deref.result.now c.record_size-most.result at size) ((at size : ℕ) → ¬ IsTooLongIn body at size)
    (λ none. no_long_in body kind items is_kind is_bytes (subst (λ n. (at size : ℕ) → ¬ IsFirstLong kind items n at size) most (subst (λ xs. (at size : ℕ) → ¬ IsFirstLong kind xs c.record_size-most.result at size) c.deref.ensures.value none)))
    c.first_long.ensures.none
