-- Codes of the values of this crate's types.
use Rattle.std.specs.Prelude.{◌≡◌, ℕ, List, ◌⊎◌, refl}
use Rattle.std.proofs.Common.{inl, inr}
use Rattle.std.specs.Coded.{Coded, code_by, coded×, coded⊎, coded_ℕ, coded_list}
use base.Stored.{coded_unit}
use Rattle.std.specs.FinMap as map
use Rattle.std.specs.FinSet as set
use Rattle.ods_base.specs.declared.file_id.FileId.{FileId}
use Rattle.ods_base.specs.declared.file_id.Uic.{Uic}
use Rattle.ods_base.specs.Names.{NameMap}
use Rattle.ods_request.specs.Catalogue.{Catalogue, File, Body, System, Directory, Plain, file_cmp}

-- a file ID as a pair
abbrev pub coded_id : Coded FileId
coded_id = code_by (ℕ × ℕ) (coded× coded_ℕ coded_ℕ) (λ f. (f.number, f.sequence)) (λ p. record { number = p.0; sequence = p.1 }) (λ _. refl)

-- a user as a pair
abbrev pub coded_user : Coded Uic
coded_user = code_by (ℕ × ℕ) (coded× coded_ℕ coded_ℕ) (λ u. (u.group, u.member)) (λ p. record { group = p.0; member = p.1 }) (λ _. refl)

-- the names of a directory by their entries
abbrev pub coded_names : Coded NameMap
coded_names = map.code (coded_list coded_ℕ) coded_id

-- a body as one of three
abbrev pub Parts : Type 0
Parts = Unit {0} ⊎ (NameMap ⊎ (List ℕ × List (List ℕ)))

abbrev pub parts_of : Body → Parts
parts_of System = inl tt
parts_of (Directory names) = inr (inl names)
parts_of (Plain attributes blocks) = inr (inr (attributes, blocks))

abbrev pub body_from : Parts → Body
body_from (inl u) = System
body_from (inr (inl names)) = Directory names
body_from (inr (inr p)) = Plain p.0 p.1

pub body_from-parts_of : (b : Body) → body_from (parts_of b) ≡ b
body_from-parts_of System = refl
body_from-parts_of (Directory names) = refl
body_from-parts_of (Plain attributes blocks) = refl

abbrev pub coded_body : Coded Body
coded_body =
    code_by Parts (coded⊎ coded_unit (coded⊎ coded_names (coded× (coded_list coded_ℕ) (coded_list (coded_list coded_ℕ))))) parts_of body_from body_from-parts_of

-- a file as the tuple of its fields
abbrev pub Fields : Type 0
Fields = Uic × (ℕ × (ℕ × (ℕ × (List ℕ × Body))))

abbrev pub fields_of : File → Fields
fields_of f = (f.owner, (f.protection, (f.user_char, (f.system_char, (f.ident, f.body)))))

abbrev pub file_from : Fields → File
file_from p = record { owner = p.0; protection = p.1.0; user_char = p.1.1.0; system_char = p.1.1.1.0; ident = p.1.1.1.1.0; body = p.1.1.1.1.1 }

abbrev pub coded_file : Coded File
coded_file =
    code_by Fields (coded× coded_user (coded× coded_ℕ (coded× coded_ℕ (coded× coded_ℕ (coded× (coded_list coded_ℕ) coded_body))))) fields_of file_from (λ _. refl)

-- a catalogue as the tuple of its fields
abbrev pub Whole : Type 0
Whole = map.FinMap file_cmp File × (set.FinSet file_cmp × ℕ)

abbrev pub whole_of : Catalogue → Whole
whole_of C = (C.files, (C.past, C.default))

abbrev pub catalogue_from : Whole → Catalogue
catalogue_from p = record { files = p.0; past = p.1.0; default = p.1.1 }

abbrev pub coded_catalogue : Coded Catalogue
coded_catalogue =
    code_by Whole (coded× (map.code coded_id coded_file) (coded× (set.code coded_id) coded_ℕ)) whole_of catalogue_from (λ _. refl)
