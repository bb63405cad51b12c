-- The advice when there is no volume.
use Rattle.std.specs.Prelude.{ℕ, List, Option, None, option_map}
use Rattle.ods_base.specs.Refusals.{image_row}
use Rattle.ods_mount.specs.Refusals.{mount_row}
use Rattle.ods_shell.specs.Remedies.{row_of, row_words}
use Rattle.fs_reads.specs.declared.volume.VolumeFault.{VolumeFault}
use Rattle.fs_reads.specs.declared.volume.VolumeFault.TheVariants as fault

-- the row of the refusal's name in the table of remedies; none if reading or memory failed
abbrev pub advice_for : VolumeFault → Option (List ℕ × List ℕ)
advice_for (fault.Read why) = None
advice_for fault.NoMemory = None
advice_for (fault.OtherSize order) = None
advice_for (fault.Image refusal look) = option_map row_words (row_of (image_row refusal).1)
advice_for (fault.Volume refusal look) = option_map row_words (row_of (mount_row refusal).1)
