-- Why the bytes of a file that was put are got again.
use Rattle.std.proofs.Common.{◌≡◌, ℕ, ◌-◌, ◌*◌, ◌+◌, ◌<◌, ◌≤◌, refl, ap, sym, ◌∙◌, subst, Bool, true, false, cond, List, [], ◌∷◌, get_or, length, take, Option, Some, None, arith, inl, inr}
use Rattle.std.specs.Prelude.{◌==◌, ◌⊎◌, nat_le}
use Rattle.std.specs.List.{concat}
use Rattle.std.specs.Option.{option_map}
use Rattle.std.proofs.lemmas.Bool.{cases_lt, eqb-true, eq-eqb}
use Rattle.std.proofs.lemmas.List.{get_or_past}
use Rattle.std.proofs.lemmas.List.Sums.{AllPass-from_list_all}
use Rattle.std.specs.FinMap as map
use Rattle.ods_base.specs.declared.file_id.FileId.{FileId}
use Rattle.ods_base.specs.Image.{image_bytes}
use Rattle.ods_header.specs.Header.{attributes_of}
use Rattle.ods_space.specs.Layout.{VolumeLayout, header_at}
use Rattle.ods_space.specs.Chain.{index_for}
use Rattle.ods_space.specs.declared.fault.ChainFault.TheVariants as chain
use Rattle.ods_space.proofs.Chains.{same_chain}
use Rattle.ods_mount.specs.Faults.{contents_of}
use Rattle.ods_request.specs.declared.requests.Request.TheVariants.{Enter}
use Rattle.ods_request.specs.Catalogue.{Catalogue, File, Plain, is_directory}
use Rattle.ods_request.specs.Steps.{created}
use Rattle.ods_request.proofs.Orders.{file_cmp-total, file_cmp-antisymmetric}
use Rattle.ods_state.specs.Contents.{IsFileIn, ShowsBy}
use Rattle.ods_files.specs.Body.{Body, HasBody, are_zeros, bytes_in}
use Rattle.ods_files.specs.declared.form.Form.TheVariants as form
use Rattle.ods_records.specs.Attributes.{end_block, end_of}
use Rattle.ods_records.specs.declared.kind.Wanted.TheVariants.{Binary, Text}
use Rattle.ods_shell.proofs.Bodies.{none_past}
use Rattle.ods_shell.specs.Contents.{IsGot, IsNotGot}
use Rattle.ods_shell.specs.declared.form.FormFault.{FormFault}
use Rattle.ods_shell.specs.declared.form.FormFault.TheVariants as fault
use Rattle.ods_shell.specs.declared.form.Remark.{Remark}
use Rattle.ods_filing.specs.Laws.{GivesBack, ShowsBytes}
use Rattle.ods_filing.specs.Contiguous.{contiguous_with}
use Rattle.ods_filing.specs.Filed.{Filed, for_another}
use Rattle.ods_filing.specs.Led.{IsObeyed}
use Rattle.ods_filing.specs.Put.{Heading, block_count, blocks_with, file_with}
use Rattle.ods_filing.proofs.Blocks.{bytes_of_blocks}
use Rattle.ods_filing.proofs.ComeBack.{gives_back}
use Rattle.ods_upkeep.specs.Laws.{GetGivesWhatWasPut, IsGotBack}
use Rattle.ods_upkeep.specs.declared.asked.Placing.TheVariants.{Anywhere, InOnePiece}
use Rattle.ods_upkeep.proofs.LawsNames.{get_here, other_file}
use Rattle.ods_upkeep.proofs.LawsShown.{plain_is, shown_body}
use Rattle.ods_upkeep.proofs.LawsUndone.{makes_none}

-- attributes of zeros have their end of file at 0
each_zero : (a : List ℕ) → are_zeros a ≡ true → (k : ℕ) → get_or a k 0 ≡ 0
each_zero a zeros k = by (cases_lt k (length a))
  where
    by : (k < length a) ⊎ (length a ≤ k) → get_or a k 0 ≡ 0
    by (inl small) = eqb-true (get_or a k 0) 0 (AllPass-from_list_all (λ x. x == 0) a zeros k 0 small)
    by (inr past) = get_or_past a k 0 past

pub end_at_zero : (a : List ℕ) → are_zeros a ≡ true → end_of a ≡ 0
end_at_zero a zeros =
    let none : end_block a ≡ 0 = omega (arith, each_zero a zeros 8, each_zero a zeros 9, each_zero a zeros 10, each_zero a zeros 11) in
    ap (λ t. cond t 0 ((end_block a - 1) * 512 + (get_or a 12 0 + 256 * get_or a 13 0))) (eq-eqb (end_block a) 0 none)

no_bytes : (bytes : List ℕ) → length bytes ≡ 0 → bytes ≡ []
no_bytes [] e = refl
no_bytes (b ∷ bytes) e = absurd (omega (arith, e))

-- and a file of no bytes has none by them
zero_bytes : (a : List ℕ) → are_zeros a ≡ true → bytes_in form.Binary (record { blocks = blocks_with []; attributes = a }) ≡ Some []
zero_bytes a zeros = ap (λ t. option_map (λ size. take size (image_bytes [])) (cond t (Some 0) (cond (nat_le (end_of a) 0) (Some (end_of a)) None))) zeros

module _ (I : List (List ℕ)) (L : VolumeLayout) (id : FileId) (a bytes : List ℕ) (shows : ShowsBytes I L id a bytes) where
  file_in : IsFileIn I L id shows.file
  file_in = shows.shown.there id shows.file shows.there

  parts : (attributes_of (header_at I L id.number) ≡ a) × (contents_of I file_in.blocks ≡ blocks_with bytes)
  parts = plain_is id.number (header_at I L id.number) (contents_of I file_in.blocks) a (blocks_with bytes)
      (shown_body id.number (header_at I L id.number) (contents_of I file_in.blocks) shows.file file_in.shown ∙ shows.body)

  -- whatever body the number has, it is this one
  the_body : (other : Body) → HasBody I L id.number other → (other.attributes ≡ a) × (other.blocks ≡ blocks_with bytes)
  the_body other h =
      let same : file_in.blocks ≡ h.lbns = (same_chain I L.home (index_for L id.number) [] 0 id.number file_in.held.others file_in.blocks h.held.others h.lbns file_in.held.whole.chain h.held.whole.chain).1 in
      (h.attributes ∙ parts.0, h.blocks ∙ ap (contents_of I) (sym same) ∙ parts.1)

  pub comes_back : end_of a ≡ length bytes → GivesBack I L id.number a bytes
  comes_back end = by (are_zeros a) refl
    where
      by : (b : Bool) → are_zeros a ≡ b → GivesBack I L id.number a bytes
      by false some = gives_back I L id a bytes shows some end
      by true zeros =
          let none : bytes ≡ [] = no_bytes bytes (sym end ∙ end_at_zero a zeros) in
          let all : bytes_in form.Binary (record { blocks = blocks_with bytes; attributes = a }) ≡ Some bytes = subst (λ l. bytes_in form.Binary (record { blocks = blocks_with l; attributes = a }) ≡ Some l) (sym none) (zero_bytes a zeros) in
          record {
            body = record { blocks = contents_of I file_in.blocks; attributes = attributes_of (header_at I L id.number) };
            has = record { lbns = file_in.blocks; held = file_in.held; blocks = refl; attributes = refl };
            gives = λ other h. let is = the_body other h in (is.0, ap (bytes_in form.Binary) (λ i. record { blocks = is.1 i; attributes = is.0 i }) ∙ all);
          }

  some_bytes : (xs ys : List ℕ) → Some xs ≡ Some ys → xs ≡ ys
  some_bytes xs ys e = cc

  -- what is got of it are its bytes, and nothing but want of memory is in the way
  pub just_these : GivesBack I L id.number a bytes → (given : List ℕ) (said : Option Remark) → IsGot I L id.number Binary given said → given ≡ bytes
  just_these gives given said is = some_bytes given bytes (sym is.2.0 ∙ (gives.gives is.0 is.1).1)

  pub only_memory : GivesBack I L id.number a bytes → (why : FormFault) → IsNotGot I L id.number Binary why → why ≡ fault.NoMemory
  only_memory gives fault.NoSuchFile is = absurd (is file_in.held.file)
  only_memory gives fault.BadChain is = absurd (is.1 file_in.held.others file_in.blocks file_in.held.whole.chain)
  only_memory gives (fault.OutsideVolume lbn) is =
      let body : Body = record { blocks = contents_of I file_in.blocks; attributes = attributes_of (header_at I L id.number) } in
      absurd (none_past I L id.number (chain.OutsideVolume lbn) lbn body refl is.1 (record { lbns = file_in.blocks; held = file_in.held; blocks = refl; attributes = refl }))
  only_memory gives fault.EndPastBlocks is = absurd (let wrong : None ≡ Some bytes = sym is.2 ∙ (gives.gives is.0 is.1).1 in cc)
  only_memory gives (fault.Records f) is = absurd (let wrong : None ≡ Some is.2.0 = is.2.1 in cc)
  only_memory gives (fault.TooLongForBlock size) is = absurd (let wrong : Binary ≡ Text = is.2.0 in cc)
  only_memory gives fault.NoMemory is = refl

-- a file that is made and entered, with attributes whose end of file is the length of its bytes
got_back : (made : Filed) (whole : File) (dir file : FileId) (said : Option ℕ) (heading : Heading) (attributes bytes : List ℕ) (old new : Filed) (C : Catalogue)
    → whole.body ≡ Plain attributes (blocks_with bytes) → ShowsBy made.image made.layout (created C file whole) → IsObeyed (for_another made old.user) (Enter dir heading.name said file) new
    → end_of attributes ≡ length bytes → IsGotBack new file attributes bytes
got_back made whole dir file said heading attributes bytes old new C has there put end =
    let first : Catalogue = created C file whole in
    let into = put.1.steps first there (makes_none first (Enter dir heading.name said file) put.0 refl) in
    let entry : map.get into.0.files file ≡ Some whole =
    other_file first into.0 old.user dir file heading.name said put.0 whole into.1 (get_here file_cmp-total file_cmp-antisymmetric C.files file whole) (ap is_directory has) in
    let shows : ShowsBytes new.image new.layout file attributes bytes = record { catalogue = into.0; shown = into.2; file = whole; there = entry; body = has } in
    let gives = comes_back new.image new.layout file attributes bytes shows end in
    record {
      there = λ D s. (whole, s.all file whole (into.2.there file whole entry), has);
      front = ap (λ n. take n (concat (blocks_with bytes))) end ∙ bytes_of_blocks bytes;
      gives = gives;
      got = just_these new.image new.layout file attributes bytes shows gives;
      fails = only_memory new.image new.layout file attributes bytes shows gives;
    }

pub get_gives_what_was_put : GetGivesWhatWasPut
get_gives_what_was_put Anywhere owner dir said heading attributes bytes file old new C shown put end =
    got_back put.made (file_with owner C.default heading (Plain attributes (blocks_with bytes))) dir file said heading attributes bytes old new C refl (put.stored.1.shown C shown) put.entered end
get_gives_what_was_put InOnePiece owner dir said heading attributes bytes file old new C shown put end =
    got_back put.made (contiguous_with owner C.default heading (block_count bytes) (Plain attributes (blocks_with bytes))) dir file said heading attributes bytes old new C refl (put.stored.shown C shown) put.entered end
