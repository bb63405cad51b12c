-- A block with the fields of an extension header is one.
use Rattle.std.proofs.Common.{◌≡◌, ℕ, ◌+◌, ◌*◌, ◌/◌, List, length, sym, ap, ◌∙◌, arith}
use Rattle.std.proofs.lemmas.List.FromFn.{length-map-range_with_len}
use Rattle.ods_base.specs.Block.{byte}
use Rattle.ods_base.specs.declared.file_id.FileId.{FileId}
use Rattle.ods_header.specs.declared.header.Run.{Run}
use Rattle.ods_header.specs.declared.header.Header.{Header}
use Rattle.ods_header.specs.Header.{IsValidHeader, header_of, map_word, run_at, runs_of, used_words_of}
use Rattle.ods_header.specs.Extension.{IsExtensionOf, extension_of}
use Rattle.ods_header.specs.Pointing.{behind_pointers}
use Rattle.ods_header.specs.Writing.{AreZeros}

-- zeros behind so many pointers as a made header has are zeros behind its pointers
pub zeros_behind : (b : List ℕ) (number count : ℕ) → IsValidHeader b number → map_word b ≡ 46 → length (runs_of b) ≡ count → AreZeros b (102 + 4 * count) 510 → AreZeros b (behind_pointers b) 510
unfolding runs_of
zeros_behind b number count valid map is zeros i from below =
    let size = length-map-range_with_len (run_at b) 0 (used_words_of b / 2) in
    let even = valid.header.layout.even in
    zeros i (omega (arith, size)) below

pub made_from : (f b : List ℕ) (first : Header) (file : FileId) (segment : ℕ) (next : FileId) (rs : List Run) → header_of f ≡ first → header_of b ≡ extension_of first file segment next rs
    → IsValidHeader b file.number → AreZeros b (102 + 4 * length rs) 510 → IsExtensionOf f b
made_from f b first file segment next rs e is valid zeros =
    let member : byte b 8 ≡ byte f 8 = ap (λ h. h.owner.member) is ∙ sym (ap (λ h. h.owner.member) e) in
    let group : byte b 9 ≡ byte f 9 = ap (λ h. h.owner.group) is ∙ sym (ap (λ h. h.owner.group) e) in
    let user : byte b 12 ≡ 0 = ap (λ h. h.user_char) is in
    let system : byte b 13 ≡ 0 = ap (λ h. h.system_char) is in
    record {
      form = record {
        ident = ap (λ h. h.ident_offset) is;
        map = ap (λ h. h.map_offset) is;
        most = ap (λ h. h.most_words) is;
        volume = ap (λ h. h.next_volume) is;
        rest = zeros_behind b file.number (length rs) valid (ap (λ h. h.map_offset) is) (ap (λ h. length h.pointers.items) is) zeros;
      };
      copied = (λ i. member i + 256 * group i, ap (λ h. h.protection) is ∙ sym (ap (λ h. h.protection) e), ap (λ h. h.ident) is ∙ sym (ap (λ h. h.ident) e));
      plain = (λ i. user i + 256 * system i, ap (λ h. h.attributes) is);
    }
