-- The bytes of a new volume's home block that are not checksums.
use Rattle.std.specs.Prelude.{ℕ, ◌/◌, ◌%◌, List, [], ◌∷◌, ◌++◌, codes, replicate, Option, None, Some}
use Rattle.ods_base.specs.declared.file_id.Uic.{Uic}
use Rattle.ods_init.specs.declared.home.HomeText.{HomeText}
use Rattle.ods_init.specs.declared.blueprint.Details.{Details}
use Rattle.ods_init.specs.declared.blueprint.Blueprint.{Blueprint}
use Rattle.ods_init.specs.Label.{zero_padded}

-- bytes 0 to 13: blocks of the index bitmap and its LBN, the greatest file number, cluster factor 1, no device type, structure level 401 octal
abbrev pub front_bytes : ℕ → ℕ → List ℕ
front_bytes size files = (size % 256) ∷ (size / 256) ∷ 0 ∷ 0 ∷ 2 ∷ 0 ∷ (files % 256) ∷ (files / 256) ∷ 1 ∷ 0 ∷ 0 ∷ 0 ∷ 1 ∷ 1 ∷ []

-- bytes 30 to 57: the owner, no protection of the volume, no characteristics, the protection of new files, and the defaults of RSX for open files in
-- three bytes
abbrev pub middle_bytes : Uic → List ℕ → List ℕ
middle_bytes owner kept = owner.member ∷ owner.group ∷ 0 ∷ 0 ∷ 0 ∷ 0 ∷ 0 ∷ 224 ∷ 0 ∷ 0 ∷ 0 ∷ 0 ∷ 0 ∷ 0 ∷ kept ++ replicate 11 0

-- bytes 484 to 507: 12 filler bytes in place of a name of the owner, and the name of the format
abbrev pub end_bytes : ℕ → List ℕ
end_bytes filler = replicate 12 filler ++ codes "DECFILE11A  "

-- the texts of the home block for people and for RSX: the label twice, the owner, the stamp, and spaces for a name of the owner; or zeros
abbrev pub text_of : Option Details → Uic → HomeText
text_of None owner = record { name = replicate 12 0; middle = middle_bytes (record { group = 0; member = 0 }) (0 ∷ 0 ∷ 0 ∷ []); stamp = replicate 13 0; label = replicate 12 0; end = end_bytes 0 }
text_of (Some d) owner = record { name = zero_padded d.label; middle = middle_bytes owner (7 ∷ 5 ∷ 3 ∷ []); stamp = d.stamp; label = d.label; end = end_bytes 32 }

abbrev pub home_text : Blueprint → HomeText
home_text W = text_of W.details W.owner
