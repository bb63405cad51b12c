-- Why a copy has the bytes of the file that it is made of, by what cmp compares.
use Rattle.std.proofs.Common.{◌≡◌, ℕ, ◌+◌, ◌-◌, ◌*◌, ◌/◌, ◌%◌, ◌<◌, ◌≤◌, refl, ap, sym, ◌∙◌, subst, Bool, true, false, cond, List, [], ◌∷◌, ◌++◌, get_or, length, map, take, drop, append_assoc, Some, None, arith, inl, inr}
use Rattle.std.specs.Prelude.{◌==◌, ◌⊎◌, nat_le, nat_lt}
use Rattle.std.specs.List.{All, concat, range_with_len}
use Rattle.std.specs.Option.{option_map}
use Rattle.std.proofs.lemmas.Bool.{eqb-true, lt-leb, ltb-true, le-ltb}
use Rattle.std.proofs.lemmas.List.{drop-drop, take_all}
use Rattle.std.proofs.lemmas.Option.{same_Some}
use Rattle.std.proofs.lemmas.List.Elements.{All-head, All-tail}
use Rattle.std.proofs.lemmas.List.Sums.{AllPass-from_list_all}
use Rattle.std.proofs.Math.Seq.{drop-append_seam, take-append_seam}
use Rattle.ods_base.specs.Block.{zeros}
use Rattle.ods_base.specs.Image.{IsImage, image_bytes}
use Rattle.ods_base.proofs.Images.{concat_sized}
use Rattle.ods_header.specs.Header.{attributes_of}
use Rattle.ods_space.specs.Chain.{index_for}
use Rattle.ods_space.specs.Files.{IsFile}
use Rattle.ods_space.specs.Layout.{VolumeLayout, header_at}
use Rattle.ods_space.proofs.Chains.{same_chain}
use Rattle.ods_mount.specs.Faults.{contents_of}
use Rattle.ods_files.specs.Body.{Body, HasBody, are_zeros}
use Rattle.ods_files.proofs.HeaderSizes.{attributes_are, blocks_sized, header_sized}
use Rattle.ods_records.specs.Attributes.{block, end_block, end_of}
use Rattle.ods_records.specs.Records.{word_at}
use Rattle.ods_records.proofs.EndSet.{by_parts}
use Rattle.ods_filing.specs.Put.{block_count, block_with, blocks_with}
use Rattle.ods_shell.specs.Compared.{AreCompared, HasCompared}
use Rattle.ods_upkeep.specs.Copied.{true_for}
use Rattle.ods_upkeep.specs.CopiesThere.{AreTrueOf, HaveSameBytes}
use Rattle.ods_upkeep.specs.Pieces.{with_end}
use Rattle.ods_upkeep.proofs.LawsGot.{end_at_zero}

-- a list of blocks of 512 bytes
abbrev pub AreSized : List (List ℕ) → Type 0
AreSized bs = All (λ b. length b ≡ 512) bs

-- bytes from a whole block on have it as that block
first_block : (b rest : List ℕ) → length b ≡ 512 → take 512 ((b ++ rest) ++ zeros) ≡ b
first_block b rest size = ap (take 512) (append_assoc b rest zeros) ∙ ap (λ n. take n (b ++ (rest ++ zeros))) (sym size) ∙ take-append_seam b (rest ++ zeros)

-- and behind it the others
behind_block : (b rest : List ℕ) → length b ≡ 512 → drop 512 (b ++ rest) ≡ rest
behind_block b rest size = ap (λ n. drop n (b ++ rest)) (sym size) ∙ drop-append_seam b rest

-- the blocks of bytes that are those of whole blocks
cut_again : (bytes : List ℕ) (bs : List (List ℕ)) (first : ℕ) → AreSized bs → drop (512 * first) bytes ≡ concat bs → map (block_with bytes) (range_with_len first (length bs)) ≡ bs
cut_again bytes [] first sized are = refl
cut_again bytes (b ∷ bs) first sized are =
    let size : length b ≡ 512 = All-head (λ c. length c ≡ 512) b bs sized in
    let here : block_with bytes first ≡ b = ap (λ l. take 512 (l ++ zeros)) are ∙ first_block b (concat bs) size in
    let on : 512 * (first + 1) ≡ 512 * first + 512 = omega arith in
    let behind : drop (512 * (first + 1)) bytes ≡ concat bs =
    ap (λ n. drop n bytes) on ∙ sym (drop-drop 512 (512 * first) bytes) ∙ ap (drop 512) are ∙ behind_block b (concat bs) size in
    λ i. here i ∷ cut_again bytes bs (first + 1) (All-tail (λ c. length c ≡ 512) b bs sized) behind i

-- the bytes of all blocks, cut into blocks again
pub blocks_again : (bs : List (List ℕ)) → AreSized bs → blocks_with (take (512 * length bs) (concat bs)) ≡ bs
blocks_again bs sized =
    let all : take (512 * length bs) (concat bs) ≡ concat bs = take_all (512 * length bs) (concat bs) (omega (arith, concat_sized bs sized)) in
    let many : block_count (concat bs) ≡ length bs = omega (arith, concat_sized bs sized) in
    ap blocks_with all ∙ ap (λ n. map (block_with (concat bs)) (range_with_len 0 n)) many ∙ cut_again (concat bs) bs 0 sized refl

-- so many bytes of them are compared
pub compared_size : List ℕ → ℕ → ℕ
compared_size a n = cond (are_zeros a) (512 * n) (cond (nat_le (end_of a) (512 * n)) (end_of a) (512 * n))

-- these bytes are compared
compared_are : (a : List ℕ) (bs : List (List ℕ)) → AreCompared (record { blocks = bs; attributes = a }) (take (compared_size a (length bs)) (image_bytes bs))
unfolding compared_size
compared_are a bs = by (are_zeros a) (nat_le (end_of a) (512 * length bs))
  where
    by : (p q : Bool) → (option_map (λ size. take size (image_bytes bs)) (cond p (Some (512 * length bs)) (cond q (Some (end_of a)) None)) ≡ Some (take (cond p (512 * length bs) (cond q (end_of a) (512 * length bs))) (image_bytes bs)))
        ⊎ ((option_map (λ size. take size (image_bytes bs)) (cond p (Some (512 * length bs)) (cond q (Some (end_of a)) None)) ≡ None)
        × (Some (take (512 * length bs) (image_bytes bs)) ≡ Some (take (cond p (512 * length bs) (cond q (end_of a) (512 * length bs))) (image_bytes bs))))
    by true q = inl refl
    by false true = inl refl
    by false false = inr (refl, refl)

-- and no others
compared_only : (a : List ℕ) (bs : List (List ℕ)) (x : List ℕ) → AreCompared (record { blocks = bs; attributes = a }) x → x ≡ take (compared_size a (length bs)) (image_bytes bs)
unfolding compared_size
compared_only a bs x is = by (are_zeros a) (nat_le (end_of a) (512 * length bs)) is
  where
    by : (p q : Bool) → (option_map (λ size. take size (image_bytes bs)) (cond p (Some (512 * length bs)) (cond q (Some (end_of a)) None)) ≡ Some x)
        ⊎ ((option_map (λ size. take size (image_bytes bs)) (cond p (Some (512 * length bs)) (cond q (Some (end_of a)) None)) ≡ None) × (Some (take (512 * length bs) (image_bytes bs)) ≡ Some x))
        → x ≡ take (cond p (512 * length bs) (cond q (end_of a) (512 * length bs))) (image_bytes bs)
    by true q (inl e) = sym (same_Some (take (512 * length bs) (image_bytes bs)) x e)
    by true q (inr e) = absurd (let wrong : Some (take (512 * length bs) (image_bytes bs)) ≡ None = e.0 in cc)
    by false true (inl e) = sym (same_Some (take (end_of a) (image_bytes bs)) x e)
    by false true (inr e) = absurd (let wrong : Some (take (end_of a) (image_bytes bs)) ≡ None = e.0 in cc)
    by false false (inl e) = absurd (let wrong : None ≡ Some x = e in cc)
    by false false (inr e) = sym (same_Some (take (512 * length bs) (image_bytes bs)) x e.1)

-- the end of file that was set
set_block : (a b c d : ℕ) (own : List ℕ) (n : ℕ) → end_block (with_end (a ∷ b ∷ c ∷ d ∷ own) n) ≡ n / 512 + 1
set_block a b c d own n = omega arith

set_byte : (a b c d : ℕ) (own : List ℕ) (n : ℕ) → word_at (with_end (a ∷ b ∷ c ∷ d ∷ own) n) 12 ≡ n % 512
set_byte a b c d own n = omega arith

pub set_end : (a b c d : ℕ) (own : List ℕ) (n : ℕ) → end_of (with_end (a ∷ b ∷ c ∷ d ∷ own) n) ≡ n
set_end a b c d own n = by_parts n (end_block (with_end (a ∷ b ∷ c ∷ d ∷ own) n)) (word_at (with_end (a ∷ b ∷ c ∷ d ∷ own) n) 12) (set_block a b c d own n) (set_byte a b c d own n)

-- as many bytes are compared where the end is behind all
all_of : (p q : Bool) (m e : ℕ) → e ≡ m → cond p m (cond q e m) ≡ m
all_of true q m e is = refl
all_of false true m e is = is
all_of false false m e is = refl

-- a byte of attributes of zeros
zero_at : (a : List ℕ) → are_zeros a ≡ true → (k : ℕ) → k < length a → get_or a k 0 ≡ 0
zero_at a zeroed k small = eqb-true (get_or a k 0) 0 (AllPass-from_list_all (λ x. x == 0) a zeroed k 0 small)

-- attributes of zeros in which F.HIBK was set
no_count : (a b c d : ℕ) (own : List ℕ) (n : ℕ) → are_zeros ((a ∷ b ∷ c ∷ d ∷ block n) ++ own) ≡ true → n ≡ 0
no_count a b c d own n zeroed =
    let long : 8 ≤ length ((a ∷ b ∷ c ∷ d ∷ block n) ++ own) = omega arith in
    let x : n / 65536 % 256 ≡ 0 = zero_at ((a ∷ b ∷ c ∷ d ∷ block n) ++ own) zeroed 4 (omega (arith, long)) in
    let y : n / 65536 / 256 ≡ 0 = zero_at ((a ∷ b ∷ c ∷ d ∷ block n) ++ own) zeroed 5 (omega (arith, long)) in
    let z : n % 65536 % 256 ≡ 0 = zero_at ((a ∷ b ∷ c ∷ d ∷ block n) ++ own) zeroed 6 (omega (arith, long)) in
    let w : n % 65536 / 256 ≡ 0 = zero_at ((a ∷ b ∷ c ∷ d ∷ block n) ++ own) zeroed 7 (omega (arith, long)) in
    omega (arith, x, y, z, w)

-- Of a copy as many bytes are compared as of the file that it is made of.
module _ (a b c d e f g h : ℕ) (own : List ℕ) (n : ℕ) where
  abbrev old : List ℕ
  old = a ∷ b ∷ c ∷ d ∷ e ∷ f ∷ g ∷ h ∷ own

  abbrev counted : List ℕ
  counted = (a ∷ b ∷ c ∷ d ∷ block n) ++ own

  where_past : are_zeros old ≡ false → nat_lt (512 * n) (end_of old) ≡ true → compared_size (with_end old (512 * n)) n ≡ compared_size old n
  unfolding compared_size
  where_past some past =
      let beyond : nat_le (end_of old) (512 * n) ≡ false = lt-leb (end_of old) (512 * n) (ltb-true (512 * n) (end_of old) past) in
      all_of (are_zeros (with_end old (512 * n))) (nat_le (end_of (with_end old (512 * n))) (512 * n)) (512 * n) (end_of (with_end old (512 * n))) (set_end a b c d (e ∷ f ∷ g ∷ h ∷ own) (512 * n))
      ∙ sym (ap (λ t. cond t (512 * n) (cond (nat_le (end_of old) (512 * n)) (end_of old) (512 * n))) some ∙ ap (λ t. cond t (end_of old) (512 * n)) beyond)

  where_within : are_zeros old ≡ false → compared_size counted n ≡ compared_size old n
  unfolding compared_size
  where_within some = by (are_zeros counted) refl ∙ sym (ap (λ t. cond t (512 * n) (cond (nat_le (end_of old) (512 * n)) (end_of old) (512 * n))) some)
    where
      by : (t : Bool) → are_zeros counted ≡ t → cond (are_zeros counted) (512 * n) (cond (nat_le (end_of old) (512 * n)) (end_of old) (512 * n)) ≡ cond (nat_le (end_of old) (512 * n)) (end_of old) (512 * n)
      by false is = ap (λ t. cond t (512 * n) (cond (nat_le (end_of old) (512 * n)) (end_of old) (512 * n))) is
      by true is =
          let none : n ≡ 0 = no_count a b c d own n is in
          let ends : end_of old ≡ 0 = end_at_zero counted is in
          let same : end_of old ≡ 512 * n = omega (arith, none, ends) in
          ap (λ t. cond t (512 * n) (cond (nat_le (end_of old) (512 * n)) (end_of old) (512 * n))) is ∙ sym (all_of false (nat_le (end_of old) (512 * n)) (512 * n) (end_of old) same)

  size_stays : compared_size (true_for old n) n ≡ compared_size old n
  size_stays = by (are_zeros old) (nat_lt (512 * n) (end_of old)) refl refl
    where
      by : (p q : Bool) → are_zeros old ≡ p → nat_lt (512 * n) (end_of old) ≡ q → compared_size (cond (are_zeros old) old (cond (nat_lt (512 * n) (end_of old)) (with_end old (512 * n)) counted)) n ≡ compared_size old n
      by true q zeroed is = ap (λ t. compared_size (cond t old (cond (nat_lt (512 * n) (end_of old)) (with_end old (512 * n)) counted)) n) zeroed
      by false true some past =
          ap (λ t. compared_size (cond t old (cond (nat_lt (512 * n) (end_of old)) (with_end old (512 * n)) counted)) n) some ∙ ap (λ t. compared_size (cond t (with_end old (512 * n)) counted) n) past ∙ where_past some past
      by false false some within =
          ap (λ t. compared_size (cond t old (cond (nat_lt (512 * n) (end_of old)) (with_end old (512 * n)) counted)) n) some ∙ ap (λ t. compared_size (cond t (with_end old (512 * n)) counted) n) within ∙ where_within some

  -- and where they are true of its blocks, the attributes are the same
  same_if_true : AreTrueOf old n → true_for old n ≡ old
  same_if_true (inl zeroed) = ap (λ t. cond t old (cond (nat_lt (512 * n) (end_of old)) (with_end old (512 * n)) counted)) zeroed
  same_if_true (inr true_of) = by (are_zeros old) refl
    where
      count_is : counted ≡ old
      count_is = ap (λ l. (a ∷ b ∷ c ∷ d ∷ l) ++ own) (sym true_of.1)

      within : nat_lt (512 * n) (end_of old) ≡ false
      within = le-ltb (512 * n) (end_of old) true_of.0

      by : (t : Bool) → are_zeros old ≡ t → cond (are_zeros old) old (cond (nat_lt (512 * n) (end_of old)) (with_end old (512 * n)) counted) ≡ old
      by true zeroed = ap (λ t. cond t old (cond (nat_lt (512 * n) (end_of old)) (with_end old (512 * n)) counted)) zeroed
      by false some = ap (λ t. cond t old (cond (nat_lt (512 * n) (end_of old)) (with_end old (512 * n)) counted)) some ∙ ap (λ t. cond t (with_end old (512 * n)) counted) within ∙ count_is

-- attributes of 32 bytes begin with eight
eight : (P : List ℕ → Type 0) → ((a b c d e f g h : ℕ) (own : List ℕ) → P (a ∷ b ∷ c ∷ d ∷ e ∷ f ∷ g ∷ h ∷ own)) → (own : List ℕ) → length own ≡ 32 → P own
eight P each [] size = absurd (omega (arith, size))
eight P each (a ∷ []) size = absurd (omega (arith, size))
eight P each (a ∷ b ∷ []) size = absurd (omega (arith, size))
eight P each (a ∷ b ∷ c ∷ []) size = absurd (omega (arith, size))
eight P each (a ∷ b ∷ c ∷ d ∷ []) size = absurd (omega (arith, size))
eight P each (a ∷ b ∷ c ∷ d ∷ e ∷ []) size = absurd (omega (arith, size))
eight P each (a ∷ b ∷ c ∷ d ∷ e ∷ f ∷ []) size = absurd (omega (arith, size))
eight P each (a ∷ b ∷ c ∷ d ∷ e ∷ f ∷ g ∷ []) size = absurd (omega (arith, size))
eight P each (a ∷ b ∷ c ∷ d ∷ e ∷ f ∷ g ∷ h ∷ own) size = each a b c d e f g h own

pub true_size : (own : List ℕ) (n : ℕ) → length own ≡ 32 → compared_size (true_for own n) n ≡ compared_size own n
true_size own n size = eight (λ l. compared_size (true_for l n) n ≡ compared_size l n) (λ a b c d e f g h rest. size_stays a b c d e f g h rest n) own size

pub true_same : (own : List ℕ) (n : ℕ) → length own ≡ 32 → AreTrueOf own n → true_for own n ≡ own
true_same own n size = eight (λ l. AreTrueOf l n → true_for l n ≡ l) (λ a b c d e f g h rest. same_if_true a b c d e f g h rest n) own size

-- the attributes in a header are 32 bytes
pub attributes_sized : (I : List (List ℕ)) (L : VolumeLayout) (n : ℕ) → IsImage I → IsFile I L n → length (attributes_of (header_at I L n)) ≡ 32
attributes_sized I L n image file = attributes_are (header_at I L n) (header_sized I L n image file)

-- a file has one body
pub one_body : (I : List (List ℕ)) (L : VolumeLayout) (n : ℕ) (a b : Body) → HasBody I L n a → HasBody I L n b → a ≡ b
one_body I L n a b f g =
    let same : f.lbns ≡ g.lbns = (same_chain I L.home (index_for L n) [] 0 n f.held.others f.lbns g.held.others g.lbns f.held.whole.chain g.held.whole.chain).1 in
    λ i. record { blocks = (f.blocks ∙ ap (contents_of I) same ∙ sym g.blocks) i; attributes = (f.attributes ∙ sym g.attributes) i }

-- so bytes that are compared are these
has_only : (I : List (List ℕ)) (L : VolumeLayout) (n : ℕ) (body : Body) (x : List ℕ) → HasBody I L n body → HasCompared I L n x → x ≡ take (compared_size body.attributes (length body.blocks)) (image_bytes body.blocks)
has_only I L n body x has is =
    let same : is.0 ≡ body = one_body I L n is.0 body is.1 has in
    compared_only body.attributes body.blocks x (subst (λ (b : Body). AreCompared b x) same is.2)

-- A file with the same blocks, and attributes that are true of them, has the same bytes.
pub same_bytes : (I : List (List ℕ)) (L : VolumeLayout) (n : ℕ) (J : List (List ℕ)) (M : VolumeLayout) (m : ℕ) (body copy : Body) → length body.attributes ≡ 32 → HasBody I L n body → HasBody J M m copy
    → copy.blocks ≡ body.blocks → copy.attributes ≡ true_for body.attributes (length body.blocks) → HaveSameBytes I L n J M m
same_bytes I L n J M m body copy size has other blocks attributes =
    let bytes : List ℕ = take (compared_size body.attributes (length body.blocks)) (image_bytes body.blocks) in
    let first : compared_size copy.attributes (length copy.blocks) ≡ compared_size (true_for body.attributes (length body.blocks)) (length body.blocks) = λ i. compared_size (attributes i) (length (blocks i)) in
    let sizes : compared_size copy.attributes (length copy.blocks) ≡ compared_size body.attributes (length body.blocks) = first ∙ true_size body.attributes (length body.blocks) size in
    let same : take (compared_size copy.attributes (length copy.blocks)) (image_bytes copy.blocks) ≡ bytes = λ i. take (sizes i) (image_bytes (blocks i)) in
    record {
      bytes = bytes;
      here = (body, has, compared_are body.attributes body.blocks);
      there = (copy, other, subst (λ x. AreCompared copy x) same (compared_are copy.attributes copy.blocks));
      only = λ x y f g. has_only I L n body x has f ∙ sym (has_only J M m copy y other g ∙ same);
    }
