-- What Stat answers of a file.
use Rattle.std.proofs.Common.{◌≡◌, ℕ, ◌*◌, ◌/◌, ◌<◌, ◌≤◌, ap, sym, ◌∙◌, List, length, arith, map as mapped, Option, Some}
use Rattle.std.specs.Prelude.{unwrap_or}
use Rattle.std.specs.FinMap as map
use Rattle.std.specs.List.{range_with_len}
use Rattle.std.proofs.lemmas.List.FromFn.{length-map-range_with_len}
use Rattle.std.proofs.lemmas.List.Sums.{length-filter, count_by-le-length}
use Rattle.ods_base.specs.Block.{byte, word}
use Rattle.ods_base.specs.declared.file_id.FileId.{FileId}
use Rattle.ods_base.specs.declared.file_id.Uic.{Uic}
use Rattle.ods_header.specs.Header.{ident_of}
use Rattle.ods_space.specs.Layout.{VolumeLayout, header_at}
use Rattle.ods_space.specs.Files.{HasBlocks}
use Rattle.ods_directory.specs.Entry.{used_entries, entry_at, is_used}
use Rattle.ods_directory.specs.Names.{IsDirectory, names_of as names_in}
use Rattle.ods_directory.proofs.Lookups.{len_names}
use Rattle.ods_mount.specs.Faults.{contents_of}
use Rattle.ods_request.specs.declared.answers.Answer.TheVariants.{Info}
use Rattle.ods_request.specs.declared.answers.Kind.{Kind}
use Rattle.ods_request.specs.declared.requests.Request.TheVariants.{Stat}
use Rattle.ods_request.specs.Catalogue.{Catalogue, File}
use Rattle.ods_request.specs.Steps.{answer_of, kind_of, no_file}
use Rattle.ods_state.specs.Contents.{file_of, body_of}
use Rattle.ods_space.specs.Chain.{chain_blocks}
use Rattle.ods_look.specs.Opening.{file_shown}

-- a directory of a file has few names
pub few_names : (blocks : List (List ℕ)) (mark : ℕ) → IsDirectory blocks mark → mark ≤ 512 * length blocks → length blocks ≤ chain_blocks → map.len (names_in blocks mark) < 4294967296
unfolding used_entries
few_names blocks mark dir inside few =
    let entries = mapped (entry_at blocks) (range_with_len 0 (mark / 16)) in
    let count : length entries ≡ mark / 16 = length-map-range_with_len (entry_at blocks) 0 (mark / 16) in
    omega (arith, len_names blocks mark dir, length-filter is_used entries, count_by-le-length is_used entries, count, inside, few)

-- what Stat answers, by the fields of the first header and the kind
pub stat_is : (I : List (List ℕ)) (L : VolumeLayout) (C : Catalogue) (id : FileId) (blocks : List ℕ) (held : HasBlocks I L id.number blocks) → map.get C.files id ≡ Some (file_shown I L id blocks)
    → (b : List ℕ) → b ≡ header_at I L id.number → (ident : List ℕ) (owner : Uic) (protection user system : ℕ) (k : Kind)
    → ident ≡ ident_of b → owner ≡ record { group = byte b 9; member = byte b 8 } → protection ≡ word b 5 → user ≡ byte b 12 → system ≡ byte b 13
    → ((held : List ℕ) → HasBlocks I L id.number held → k ≡ kind_of (body_of id.number b (contents_of I held)))
    → answer_of C (Stat id) ≡ Info (record { file = id; ident = ident; owner = owner; protection = protection; user_char = user; system_char = system; kind = k })
unfolding answer_of file_of
stat_is I L C id blocks held there b header ident owner protection user system k e_ident e_owner e_protection e_user e_system e_kind =
    ap (λ (o : Option File). let f = unwrap_or o no_file in
    Info (record { file = id; ident = f.ident; owner = f.owner; protection = f.protection; user_char = f.user_char; system_char = f.system_char; kind = kind_of f.body })) there
    ∙ (λ i. let h = sym header i in
    Info (record { file = id; ident = ident_of h; owner = record { group = byte h 9; member = byte h 8 }; protection = word h 5; user_char = byte h 12; system_char = byte h 13; kind = kind_of (body_of id.number h (contents_of I blocks)) }))
    ∙ (λ i. Info (record {
      file = id;
      ident = sym e_ident i;
      owner = sym e_owner i;
      protection = sym e_protection i;
      user_char = sym e_user i;
      system_char = sym e_system i;
      kind = sym (e_kind blocks held) i;
    }))
