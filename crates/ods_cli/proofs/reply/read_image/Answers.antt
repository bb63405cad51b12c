use Rattle.ods_cli.proofs.reply.read_image.Goals as goal

pub returns-in-Err-ReadFailed : goal.returns-in-Err-ReadFailed
returns-in-Err-ReadFailed g c = let read = rw c.in-Err-ReadFailed.field-0-is at c.in-Err-ReadFailed.ensures in (read.0, read.1, read.2)

pub returns-in-Err-NoMemory : goal.returns-in-Err-NoMemory
returns-in-Err-NoMemory g c = let read = rw c.in-Err-NoMemory.field-0-is at c.in-Err-NoMemory.ensures in (read.0, read.1, read.2)
