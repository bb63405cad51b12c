use Rattle.std.proofs.Common.{◌∙◌, ℕ, List, sym, ap, subst}
use Rattle.std.specs.Prelude.{is_some, not}
use Rattle.ods_untar.specs.Wanted.{AsksFor}
use Rattle.f11fs.specs.Given.{Bytes}
use Rattle.f11fs.specs.Unpacked.{archive_among, directory_among}
use Rattle.f11fs.proofs.Unpacking.{all_untarred}
use Rattle.f11fs.proofs.untarring.untar.Goals as goal

pub returns-clause-done : goal.returns-clause-done
returns-clause-done g c =
    all_untarred (g.R.Host.gives c.args.rt.now) (is_some c.args.words.now.stamp) (is_some c.read_where.result) c.args.words.now.paths.items c.directory_among-directory.result c.args.stamp _ _ c.args.filing.now c.make_ready.new.filing c.put_and_give.new.filing
    c.put_and_give.result
    (c.is_none.ensures ∙ ap not (sym c.read_where.ensures)) (c.directory_among-directory.ensures ∙ ap directory_among c.as_slice-2.ensures.value)
    (subst (λ (path : List ℕ). g.R.Host.gives c.args.rt.now path (Bytes c.as_slice-3.result.now)) (c.archive_among-archive.ensures ∙ ap archive_among c.as_slice.ensures.value)
    (subst (λ (bytes : List ℕ). g.R.Host.gives c.args.rt.now c.archive_among-archive.result.now (Bytes bytes)) (sym c.as_slice-3.ensures.value) c.in-Ok.ensures.given))
    (subst (AsksFor _) (sym c.as_slice-files.ensures.value) c.in-Ok-members_in.ensures.ok)
    c.make_ready.ensures c.put_and_give.ensures.done
