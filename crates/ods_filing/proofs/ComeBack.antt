-- What is got out of a file that was put.
use Rattle.std.proofs.Common.{◌≡◌, ℕ, ◌+◌, ◌-◌, ◌*◌, ◌/◌, ◌%◌, ◌<◌, refl, ap, sym, ◌∙◌, subst, Bool, true, false, cond, List, [], ◌∷◌, get_or, length, take, Some, None, arith}
use Rattle.std.specs.Prelude.{◌==◌, nat_le}
use Rattle.std.specs.List.{concat}
use Rattle.std.specs.Option.{option_map}
use Rattle.std.specs.Str.Lines.{lines}
use Rattle.std.proofs.lemmas.Bool.{eqb-true, le-leb}
use Rattle.std.proofs.lemmas.List.FromFn.{length-map-range_with_len}
use Rattle.std.proofs.lemmas.List.Sums.{AllPass-from_list_all}
use Rattle.ods_base.specs.declared.file_id.FileId.{FileId}
use Rattle.ods_header.specs.Header.{attributes_of, is_directory_header}
use Rattle.ods_space.specs.Layout.{VolumeLayout, header_at}
use Rattle.ods_space.specs.Chain.{index_for}
use Rattle.ods_space.proofs.Chains.{same_chain}
use Rattle.ods_directory.specs.Mark.{end_block, end_byte, mark_in}
use Rattle.ods_directory.specs.Names.{names_of}
use Rattle.ods_mount.specs.Faults.{contents_of}
use Rattle.ods_request.specs.Catalogue.{System, Directory, Plain, blocks_of, attributes_of as attributes_in, File}
use Rattle.ods_state.specs.Contents.{body_of, file_of, IsFileIn}
use Rattle.ods_files.specs.Body.{bytes_in, size_in, end_of, are_zeros}
use Rattle.ods_files.specs.declared.form.Form.TheVariants.{Binary}
use Rattle.ods_records.specs.Attributes.{attributes, ending_at}
use Rattle.ods_records.specs.Records.{Spells, text_of}
use Rattle.ods_records.specs.declared.kind.RecordKind.TheVariants.{Variable}
use Rattle.ods_records.proofs.EndSet.{by_parts}
use Rattle.ods_records.proofs.LinesBack.{chosen_back}
use Rattle.ods_records.proofs.PlainTexts.{lines_text}
use Rattle.ods_records.proofs.WrittenStands.{spells_written}
use Rattle.ods_records.proofs.ReadSoFar.{spelled_once}
use Rattle.ods_filing.specs.Put.{block_count, block_with, blocks_with}
use Rattle.ods_filing.specs.Laws.{ShowsBytes, GivesBack, BytesComeBack, TextComesBack, FormComesBack, ChosenComesBack, binary_of, lines_of, formed_as}
use Rattle.ods_filing.proofs.Blocks.{bytes_of_blocks}

-- where the blocks show a plain file, its attributes and blocks are those of its header and its chain
plain_is : (n : ℕ) (b : List ℕ) (xs : List (List ℕ)) (a : List ℕ) (bs : List (List ℕ)) → body_of n b xs ≡ Plain a bs → (attributes_of b ≡ a) × (xs ≡ bs)
unfolding body_of
plain_is n b xs a bs e = by (nat_le n 2) (is_directory_header n b) e
  where
    by : (p q : Bool) → cond p System (cond q (Directory (names_of xs (mark_in (attributes_of b) (length xs)))) (Plain (attributes_of b) xs)) ≡ Plain a bs → (attributes_of b ≡ a) × (xs ≡ bs)
    by true q g = absurd (cc)
    by false true g = absurd (cc)
    by false false g = (ap attributes_in g, ap blocks_of g)

shown_body : (n : ℕ) (b : List ℕ) (xs : List (List ℕ)) (f : File) → file_of n b xs ≡ f → body_of n b xs ≡ f.body
unfolding file_of
shown_body n b xs f e = ap (λ (g : File). g.body) e

-- the end of file that attributes of this length say
block_is : (rtyp ratt rsiz n : ℕ) → n < 536870912 → end_block (attributes rtyp ratt rsiz n) ≡ n / 512 + 1
block_is rtyp ratt rsiz n few = omega arith

byte_is : (rtyp ratt rsiz n : ℕ) → end_byte (attributes rtyp ratt rsiz n) ≡ n % 512
byte_is rtyp ratt rsiz n = omega arith

end_is : (rtyp ratt rsiz n : ℕ) → n < 536870912 → end_of (attributes rtyp ratt rsiz n) ≡ n
end_is rtyp ratt rsiz n few = by_parts n (end_block (attributes rtyp ratt rsiz n)) (end_byte (attributes rtyp ratt rsiz n)) (block_is rtyp ratt rsiz n few) (byte_is rtyp ratt rsiz n)

-- the bytes up to the end of file
binary_is : (a bytes : List ℕ) → are_zeros a ≡ false → end_of a ≡ length bytes → bytes_in Binary (record { blocks = blocks_with bytes; attributes = a }) ≡ Some bytes
binary_is a bytes some end =
    let count : length (blocks_with bytes) ≡ block_count bytes = length-map-range_with_len (block_with bytes) 0 (block_count bytes) in
    let fits : nat_le (end_of a) (512 * length (blocks_with bytes)) ≡ true = le-leb (end_of a) (512 * length (blocks_with bytes)) (omega (arith, end, count)) in
    let all = 512 * length (blocks_with bytes) in
    let size : size_in Binary (record { blocks = blocks_with bytes; attributes = a }) ≡ Some (length bytes) =
    ap (λ t. cond t (Some all) (cond (nat_le (end_of a) all) (Some (end_of a)) None)) some ∙ ap (λ t. cond t (Some (end_of a)) None) fits ∙ ap Some end in
    ap (option_map (λ n. take n (concat (blocks_with bytes)))) size ∙ ap Some (bytes_of_blocks bytes)

module _ (I : List (List ℕ)) (L : VolumeLayout) (id : FileId) (a bytes : List ℕ) (shows : ShowsBytes I L id a bytes) where
  file_in : IsFileIn I L id shows.file
  file_in = shows.shown.there id shows.file shows.there

  parts : (attributes_of (header_at I L id.number) ≡ a) × (contents_of I file_in.blocks ≡ blocks_with bytes)
  parts = plain_is id.number (header_at I L id.number) (contents_of I file_in.blocks) a (blocks_with bytes)
      (shown_body id.number (header_at I L id.number) (contents_of I file_in.blocks) shows.file file_in.shown ∙ shows.body)

  pub gives_back : are_zeros a ≡ false → end_of a ≡ length bytes → GivesBack I L id.number a bytes
  gives_back some end = record {
    body = record { blocks = contents_of I file_in.blocks; attributes = attributes_of (header_at I L id.number) };
    has = record { lbns = file_in.blocks; held = file_in.held; blocks = refl; attributes = refl };
    gives = λ other h.
        let same : file_in.blocks ≡ h.lbns = (same_chain I L.home (index_for L id.number) [] 0 id.number file_in.held.others file_in.blocks h.held.others h.lbns file_in.held.whole.chain h.held.whole.chain).1 in
        let blocks : other.blocks ≡ blocks_with bytes = h.blocks ∙ ap (contents_of I) (sym same) ∙ parts.1 in
        let attrs : other.attributes ≡ a = h.attributes ∙ parts.0 in
        (attrs, ap (bytes_in Binary) (λ i. record { blocks = blocks i; attributes = attrs i }) ∙ binary_is a bytes some end);
  }

pub bytes_back : BytesComeBack
bytes_back I L id bytes few shows = gives_back I L id (binary_of bytes) bytes shows refl (end_is 1 0 512 (length bytes) few)

pub text_back : TextComesBack
text_back I L id text bytes longest few plain is shows =
    let spelled : Spells Variable bytes (lines text) = subst (λ l. Spells Variable l (lines text)) (sym is.spelled) (spells_written (lines text) plain.short) in (
      gives_back I L id (lines_of longest bytes) bytes shows refl (end_is 2 2 longest (length bytes) few),
      refl,
      (lines text, spelled),
      λ records other. ap text_of (spelled_once Variable bytes records (lines text) other spelled) ∙ lines_text (length text) text (omega arith) plain.ended plain.no_cr,
    )

-- the end of file that was set
set_block : (a b c d : ℕ) (own : List ℕ) (n : ℕ) → n < 536870912 → end_block (ending_at (a ∷ b ∷ c ∷ d ∷ own) n) ≡ n / 512 + 1
set_block a b c d own n few = omega arith

set_byte : (a b c d : ℕ) (own : List ℕ) (n : ℕ) → end_byte (ending_at (a ∷ b ∷ c ∷ d ∷ own) n) ≡ n % 512
set_byte a b c d own n = omega arith

set_end : (a b c d : ℕ) (own : List ℕ) (n : ℕ) → n < 536870912 → end_of (ending_at (a ∷ b ∷ c ∷ d ∷ own) n) ≡ n
set_end a b c d own n few = by (end_block (ending_at (a ∷ b ∷ c ∷ d ∷ own) n)) (end_byte (ending_at (a ∷ b ∷ c ∷ d ∷ own) n)) (set_block a b c d own n few) (set_byte a b c d own n)
  where
    by : (block last : ℕ) → block ≡ n / 512 + 1 → last ≡ n % 512 → cond (block == 0) 0 ((block - 1) * 512 + last) ≡ n
    by block last e g = here (block == 0) refl
      where
        here : (t : Bool) → (block == 0) ≡ t → cond (block == 0) 0 ((block - 1) * 512 + last) ≡ n
        here true h = absurd (omega (arith, eqb-true block 0 h))
        here false h = ap (λ t. cond t 0 ((block - 1) * 512 + last)) h ∙ omega arith

-- attributes with an end are no zeros
set_some : (a b c d : ℕ) (own : List ℕ) (n : ℕ) → n < 536870912 → are_zeros (ending_at (a ∷ b ∷ c ∷ d ∷ own) n) ≡ false
set_some a b c d own n few = here (are_zeros (ending_at (a ∷ b ∷ c ∷ d ∷ own) n)) refl
  where
    zero_at : (k : ℕ) → are_zeros (ending_at (a ∷ b ∷ c ∷ d ∷ own) n) ≡ true → k < length (ending_at (a ∷ b ∷ c ∷ d ∷ own) n) → get_or (ending_at (a ∷ b ∷ c ∷ d ∷ own) n) k 0 ≡ 0
    zero_at k h small = eqb-true _ _ (AllPass-from_list_all (λ x. x == 0) (ending_at (a ∷ b ∷ c ∷ d ∷ own) n) h k 0 small)

    here : (t : Bool) → are_zeros (ending_at (a ∷ b ∷ c ∷ d ∷ own) n) ≡ t → t ≡ false
    here false h = refl
    here true h = absurd (omega (arith, set_block a b c d own n few, zero_at 8 h (omega arith), zero_at 9 h (omega arith), zero_at 10 h (omega arith), zero_at 11 h (omega arith)))

pub form_back : FormComesBack
form_back I L id [] bytes size few shows = absurd (omega (arith, size))
form_back I L id (a ∷ []) bytes size few shows = absurd (omega (arith, size))
form_back I L id (a ∷ b ∷ []) bytes size few shows = absurd (omega (arith, size))
form_back I L id (a ∷ b ∷ c ∷ []) bytes size few shows = absurd (omega (arith, size))
form_back I L id (a ∷ b ∷ c ∷ d ∷ own) bytes size few shows = (
  gives_back I L id (formed_as (a ∷ b ∷ c ∷ d ∷ own) bytes) bytes shows (set_some a b c d own (length bytes) few) (set_end a b c d own (length bytes) few),
  refl,
  refl,
)

pub chosen_back_again : ChosenComesBack
chosen_back_again I L id kind old bytes records new longest few spelled come is shows =
    let back : Spells Variable new records = subst (λ l. Spells Variable l records) (sym is.spelled) (chosen_back kind old bytes records spelled come).1 in (
      gives_back I L id (lines_of longest new) new shows refl (end_is 2 2 longest (length new) few),
      refl,
      back,
      λ other others. spelled_once Variable new other records others back,
    )
