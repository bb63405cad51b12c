-- What is got out of a file where that is not a text.
use Rattle.std.proofs.Common.{◌≡◌, ℕ, List, Option, Some, take, refl, subst}
use Rattle.std.specs.Prelude.{IfOk, Result, Ok, Err}
use Rattle.ods_base.specs.Image.{image_bytes}
use Rattle.ods_files.specs.Body.{Body, size_in, bytes_in}
use Rattle.ods_files.specs.declared.form.Form.{Form}
use Rattle.ods_shell.specs.declared.form.Remark.{Remark}
use Rattle.ods_records.specs.declared.kind.Wanted.{Wanted}
use Rattle.ods_shell.specs.Contents.{form_got, end_remark, AreBytes}

-- a body that has bytes in the form that is got
pub bytes_are_got : (wanted : Wanted) (body : Body) (form : Form) (size : ℕ) (said : Option Remark) → size_in form body ≡ Some size → form ≡ form_got wanted → said ≡ end_remark wanted body
    → (x : List ℕ) × (bytes_in form body ≡ Some x) × AreBytes wanted body x said
bytes_are_got wanted body form size said s f r =
    let bytes : bytes_in form body ≡ Some (take size (image_bytes body.blocks)) = rw s refl in
    (take size (image_bytes body.blocks), bytes, (subst (λ g. bytes_in g body ≡ Some (take size (image_bytes body.blocks))) f bytes, r))

-- what is got out of a body is got out of its file
pub got_of_file : {G E : Type 0} (A B C : List ℕ → G → Type 0) → ((x : List ℕ) (g : G) → B x g → C x g) → (result : Result G E) → IfOk result (λ g. (x : List ℕ) × A x g × B x g) → IfOk result (λ g. (x : List ℕ) × A x g × C x g)
got_of_file A B C more (Ok g) (x, a, b) = (x, a, more x g b)
got_of_file A B C more (Err e) none = tt
