use Rattle.ods_mount.proofs.Unlaid.{true_by_layout}
use Rattle.ods_mount.proofs.check.check_by_layout.Goals as goal

pub returns-in-Ok-clause-ok : goal.returns-in-Ok-clause-ok
returns-in-Ok-clause-ok c = record {
  home = c.args.home_lbn;
  home_at = c.requires.home;
  layout = c.requires.layout;
  index = c.in_default.ensures.ok.0;
  no_place = c.in_default.ensures.ok.1;
  bitmap_size = c.in_default-check_system_files.ensures.ok.0;
  master = c.in_default-check_system_files.ensures.ok.1;
  formats = c.in_default-check_formats.ensures.ok;
  files = c.in-Ok.ensures.files;
  apart = c.in-Ok.ensures.apart;
  once = c.in-Ok.ensures.once;
}

pub returns-in-Err-check_files-clause-err : goal.returns-in-Err-check_files-clause-err
returns-in-Err-check_files-clause-err c = λ other.
    true_by_layout c.args.disk.now.image.now c.args.disk.now.layout.now c.in-Err-check_files.fault c.requires.layout (c.in-Err-check_files.ensures.err other)
