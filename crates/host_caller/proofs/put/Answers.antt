-- A text that is put.
use Rattle.std.specs.Prelude.{◌≡◌, ℕ, List, length}
use Rattle.std.proofs.Common.{sym, ap, subst, ◌∙◌, arith}
use Rattle.ods_base.specs.declared.file_id.FileId.{FileId}
use Rattle.ods_base.specs.Name.{Spells}
use Rattle.ods_space.specs.Layout.{Disk}
use Rattle.ods_request.specs.Catalogue.{Plain}
use Rattle.ods_records.specs.Attributes.{attributes}
use Rattle.ods_filing.specs.Filed.{Filed, disk_at}
use Rattle.ods_filing.specs.Put.{Heading, IsAdded, blocks_with}
use Rattle.host_caller.proofs.put.Goals as goal

-- a file that is added, by other names for what it is added to and what it has
added_now : (old start made : Filed) (heading : Heading) (id : FileId) (own known bytes given : List ℕ) → old ≡ start → own ≡ known → bytes ≡ given → IsAdded old heading id (Plain own (blocks_with bytes)) made
    → IsAdded start heading id (Plain known (blocks_with given)) made
added_now old start made heading id own known bytes given same same_own same_bytes added =
    subst (λ o. IsAdded o heading id (Plain known (blocks_with given)) made) same
    (subst (λ a. IsAdded old heading id (Plain a (blocks_with given)) made) same_own (subst (λ b. IsAdded old heading id (Plain own (blocks_with b)) made) same_bytes added))

-- the same image with the same layout
disk_now : (disk : Disk) (end : Filed) → disk.image ≡ end.image → disk.layout ≡ end.layout → disk_at end ≡ disk
disk_now disk end image layout =
    let P : List (List ℕ) → Disk = λ i. record { image = i; layout = end.layout } in
    ap P (sym image) ∙ ap (λ l. record { image = disk.image; layout = l }) (sym layout)

pub returns : goal.returns
returns c =
    let records = c.in_ok-records.records in
    let long : c.len-length.result ≡ length records.bytes.items = omega (arith, c.len-length.ensures, records.bytes.ok.0) in
    record {
      spelled = c.in_ok-name.name;
      pick = c.in_ok-name.field-0-1;
      spells = subst (λ text. Spells text c.in_ok-name.name c.in_ok-name.field-0-1) c.as_bytes.ensures.value c.in_ok-name.ensures.ok;
      bytes = records.bytes.items;
      longest = records.longest;
      written = c.in_ok-records.ensures.ok;
      file = c.in_ok-file.file;
      made = c.put_file.new.filing;
      added = added_now _ _ _ _ _ _ _ _ _ c.in_ok-filing.ensures (c.text_attributes.ensures.value ∙ ap (λ n. attributes 2 2 records.longest n) long) c.as_slice.ensures.value c.in_ok-file.ensures.ok;
      answer = c.in_ok-request.field-0;
      end = c.request.new.self;
      entered = c.in_ok-request.ensures.accepted;
      whole = disk_now c.into_mounted.result c.request.new.self c.into_mounted.ensures.0 c.into_mounted.ensures.1;
    }
