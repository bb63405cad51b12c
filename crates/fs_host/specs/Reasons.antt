-- The reason of an error of the host: by its kind, or by its number if the kind does not determine it.
use Rattle.std.specs.Prelude.{◌≡◌, ◌<◌, ◌+◌, ◌*◌, ◌^◌, ℕ, max, ℤ, pos, negsuc, ◌==◌, ◌⊎◌, Option, Some, None, unwrap_or, if◌then◌else◌, ◌||◌}
use Rattle.std.specs.IoError.{error_kind, raw_os_error}
use Rattle.std.specs.declared.io.Error.{Error}
use Rattle.std.specs.declared.io.ErrorKind.{ErrorKind}
use Rattle.std.specs.declared.io.ErrorKind.TheVariants.{NotFound, PermissionDenied, IsADirectory, NotADirectory, AlreadyExists, StorageFull, QuotaExceeded, OutOfMemory, FileTooLarge, ReadOnlyFilesystem, InvalidFilename, FilesystemLoop, ResourceBusy, ExecutableFileBusy, BrokenPipe}
use Rattle.std.specs.declared.io.ErrorKind.TheVariants.{Unsupported as KindUnsupported}
use Rattle.std.specs.declared.io.ErrorKind.TheVariants.{Other as KindOther}
use Rattle.fs_host.specs.declared.host_fault.HostFault.{HostFault}
use Rattle.fs_host.specs.declared.host_fault.HostFault.TheVariants.{NotThere, Denied, IsFolder, NotFolder, IsThere, NoRoom, NoMemory, TooLarge, ReadOnly, TooManyOpen, BadName, Links, Busy, Closed, NoReader, Device, Unsupported, Failed, Unknown}

-- the reason for the kind
abbrev pub reason_of_kind : ErrorKind → Option HostFault
reason_of_kind NotFound = Some NotThere
reason_of_kind PermissionDenied = Some Denied
reason_of_kind IsADirectory = Some IsFolder
reason_of_kind NotADirectory = Some NotFolder
reason_of_kind AlreadyExists = Some IsThere
reason_of_kind StorageFull = Some NoRoom
reason_of_kind QuotaExceeded = Some NoRoom
reason_of_kind OutOfMemory = Some NoMemory
reason_of_kind FileTooLarge = Some TooLarge
reason_of_kind ReadOnlyFilesystem = Some ReadOnly
reason_of_kind InvalidFilename = Some BadName
reason_of_kind FilesystemLoop = Some Links
reason_of_kind ResourceBusy = Some Busy
reason_of_kind ExecutableFileBusy = Some Busy
reason_of_kind BrokenPipe = Some NoReader
reason_of_kind KindUnsupported = Some Unsupported
reason_of_kind _ = None

-- the reason for a Linux error number: 5 is EIO, 9 EBADF, 23 ENFILE, 24 EMFILE
abbrev pub reason_of_number : Option ℤ → HostFault
reason_of_number None = Unknown
reason_of_number (Some (negsuc n)) = Failed (negsuc n)
reason_of_number (Some (pos n)) =
    if n == 5 then Device else (if n == 9 then Closed else (if n == 23 || n == 24 then TooManyOpen else Failed (pos n)))

-- the reason of an error
abbrev pub reason_of : Error → HostFault
reason_of error = unwrap_or (reason_of_kind (error_kind error)) (reason_of_number (raw_os_error error))

-- the output is not kept: memory is refused, it is being read, or it exceeds the limit
abbrev pub IsNotKept : Error → Type 0
IsNotKept error = (error_kind error ≡ OutOfMemory) ⊎ ((error_kind error ≡ KindOther) ⊎ (error_kind error ≡ FileTooLarge))

-- why so many bytes are not added to so many: memory is refused, or there are more than `most` then
abbrev pub IsNotAdded : ℕ → ℕ → ℕ → Error → Type 0
IsNotAdded before more most error = (error_kind error ≡ OutOfMemory) ⊎ ((error_kind error ≡ FileTooLarge) × (most < before + more))

-- how many bytes the commands in a file may print, on a volume of so many blocks: 64 times its bytes, and at least 64 MiB
abbrev pub most_printed : ℕ → ℕ
most_printed blocks = max (blocks * (64 * 512)) (64 * 2 ^ 20)
