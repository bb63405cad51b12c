-- An image on its way from a reader: blocks that are stored, and bytes that a piece holds.
use Rattle.std.proofs.Common.{◌≡◌, ℕ, ◌+◌, ◌*◌, ◌^◌, ◌≤◌, List, ◌++◌, length, take, drop, Option, sym, ap, ◌∙◌, subst, arith, append_assoc, length-append, length-take-le}
use Rattle.std.proofs.lemmas.List.{append-nil, take-append-drop}
use Rattle.std.proofs.KnownBytes.{Consumes-trans}
use Rattle.std.specs.Io.KnownBytes.{Consumes}
use Rattle.std.specs.List.{All, concat}
use Rattle.ods_base.specs.Block.{IsBlock}
use Rattle.ods_base.specs.Image.{IsImage, ReadsBehind}
use Rattle.ods_base.proofs.Images.{length-concat}

-- how many bytes were taken
pub length-taken : (blocks : List (List ℕ)) (end : ℕ) (piece : List ℕ) → All IsBlock blocks → end ≤ length piece → length (concat blocks ++ take end piece) ≡ 512 * length blocks + end
length-taken blocks end piece each within =
    let rest : length (take end piece) ≡ end = length-take-le end piece within in
    let whole = length-concat blocks each in
    length-append (concat blocks) (take end piece) ∙ omega arith

-- one read more
pub read_more : (old mid new : Option (List ℕ)) (blocks : List (List ℕ)) (held count : ℕ) (before after : List ℕ) → Consumes old mid (concat blocks ++ take held before) →
    ReadsBehind mid new held count before after → Consumes old new (concat blocks ++ take (held + count) after)
read_more old mid new blocks held count before after taken read =
    let P : List ℕ → Type 0 = λ bytes. Consumes old new bytes in
    subst P (append_assoc (concat blocks) (take held before) read.got ∙ ap (λ l. concat blocks ++ l) (sym read.behind))
    (Consumes-trans old mid new (concat blocks ++ take held before) read.got taken read.consumed)

-- whole blocks are stored, and the rest is kept
pub all_placed : (old new : List (List ℕ)) (bytes rest : List ℕ) (k : ℕ) → concat new ≡ concat old ++ take k bytes → rest ≡ drop k bytes → concat new ++ rest ≡ concat old ++ bytes
all_placed old new bytes rest k stored kept =
    ap (λ l. l ++ rest) stored ∙ append_assoc (concat old) (take k bytes) rest ∙ ap (λ l. concat old ++ (take k bytes ++ l)) kept
    ∙ ap (λ l. concat old ++ l) (take-append-drop k bytes)

-- nothing is left in the piece
pub none_held : (blocks : List (List ℕ)) (end : ℕ) (piece : List ℕ) → end ≡ 0 → concat blocks ++ take end piece ≡ concat blocks
none_held blocks end piece none = ap (λ n. concat blocks ++ take n piece) none ∙ append-nil (concat blocks)

-- blocks within the limit are an image
pub IsImage-by_count : (blocks : List (List ℕ)) → All IsBlock blocks → 512 * length blocks ≤ 2 ^ 29 → IsImage blocks
IsImage-by_count blocks each few = record { size = omega arith; blocks = each }
