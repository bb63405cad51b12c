use Rattle.std.proofs.Common.{◌∙◌, sym}
use Rattle.std.specs.Prelude.{is_some, not}
use Rattle.f11fs.proofs.Unpacking.{directory_put, file_put}
use Rattle.f11fs.proofs.untarring.put_one.Goals as goal

pub returns-then-is_directory-clause-done : goal.returns-then-is_directory-clause-done
returns-then-is_directory-clause-done c =
    directory_put (not (is_some c.args.times.now.zone)) c.args.directory c.args.times.now.run c.args.wanted.now c.args.filing.now c.put_directory.new.filing c.args.due.now.items c.put_directory.new.due.items
    c.put_directory.result (sym c.is_directory.ensures ∙ c.if-is_directory.true) c.put_directory.ensures.done

pub returns-clause-done : goal.returns-clause-done
returns-clause-done c =
    file_put (not (is_some c.args.times.now.zone)) c.args.directory c.args.times.now.run c.args.wanted.now c.args.filing.now c.put_file.new.filing c.args.due.now.items
    c.put_file.result (sym c.is_directory.ensures ∙ c.if-is_directory.false) c.put_file.ensures.done
