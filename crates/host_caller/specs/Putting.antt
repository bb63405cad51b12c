-- The file that the program puts into a volume.
use Rattle.std.specs.Prelude.{◌≡◌, ℕ, List, None, length}
use Rattle.ods_base.specs.declared.file_id.FileId.{FileId}
use Rattle.ods_base.specs.declared.name.Pick.{Pick}
use Rattle.ods_base.specs.Name.{RadName, Spells}
use Rattle.ods_space.specs.Layout.{Disk}
use Rattle.ods_request.specs.declared.requests.Request.TheVariants.{Enter}
use Rattle.ods_request.specs.declared.answers.Answer.{Answer}
use Rattle.ods_request.specs.Catalogue.{Plain}
use Rattle.ods_records.specs.Attributes.{attributes}
use Rattle.ods_records.specs.Written.{IsWritten}
use Rattle.ods_filing.specs.Filed.{Filed, IsDone, disk_at}
use Rattle.ods_filing.specs.Put.{IsAdded, blocks_with}

-- The text is a file of its lines, each a record, which is entered in this directory under this name.
pub record IsPut (text name stamp : List ℕ) (dir : FileId) (old : Filed) (new : Disk) : Type 0 where
  pub spelled : RadName
  pub pick : Pick
  pub spells : Spells name spelled pick
  pub bytes : List ℕ
  pub longest : ℕ
  pub written : IsWritten text bytes longest
  pub file : FileId
  pub made : Filed
  pub added : IsAdded old (record { name = spelled; version = 1; stamp = stamp }) file (Plain (attributes 2 2 longest (length bytes)) (blocks_with bytes)) made
  pub answer : Answer
  pub end : Filed
  pub entered : IsDone made (Enter dir spelled None file) answer end
  pub whole : disk_at end ≡ new
