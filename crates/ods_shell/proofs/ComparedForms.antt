-- Bytes of files that are compared, each file's in a form that it has.
use Rattle.std.proofs.Common.{◌≡◌, ◌∙◌, ℕ, Bool, true, false, List, [], Option, Some, None, take, refl, sym, ap}
use Rattle.std.specs.Prelude.{◌≢◌, ◌↔◌, IsTrue, MatchBool}
use Rattle.std.specs.Option.{option_map}
use Rattle.ods_base.specs.Image.{image_bytes}
use Rattle.ods_files.specs.Body.{Body, bytes_in, size_in}
use Rattle.ods_files.specs.declared.form.Form.{Form}

-- the bytes of a form, by how many they are
pub bytes_of : (form : Form) (body : Body) (size : Option ℕ) → size_in form body ≡ size → bytes_in form body ≡ option_map (λ n. take n (image_bytes body.blocks)) size
bytes_of form body size e = ap (λ s. option_map (λ n. take n (image_bytes body.blocks)) s) e

abbrev value_of : Option (List ℕ) → List ℕ
value_of None = []
value_of (Some x) = x

-- what both have is the same where the forms' bytes are
pub same_by : (b : Bool) (p q : Option (List ℕ)) (x y : List ℕ) → p ≡ Some x → q ≡ Some y → MatchBool b (p ≡ q) (p ≢ q) → IsTrue b ↔ (x ≡ y)
same_by true p q x y one other same = (λ t. ap value_of (sym one ∙ same ∙ other), λ e. refl)
same_by false p q x y one other apart = (λ t. absurd (cc t), λ e. absurd (apart (one ∙ ap Some e ∙ sym other)))
