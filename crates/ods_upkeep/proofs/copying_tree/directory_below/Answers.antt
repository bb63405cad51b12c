use Rattle.std.proofs.Common.{sym, subst, inl, inr}
use Rattle.ods_base.specs.declared.file_id.FileId.{FileId}
use Rattle.ods_base.specs.declared.name.Pick.TheVariants.{Highest}
use Rattle.ods_upkeep.specs.Hidden.{HidesEntries}
use Rattle.ods_upkeep.specs.Looked.{IsSeen}
use Rattle.ods_upkeep.proofs.CopiedTrees.{told_more}
use Rattle.ods_upkeep.proofs.copying_tree.directory_below.Goals as goal

pub returns-in-Some : goal.returns-in-Some
returns-in-Some c =
    let old = c.args.filing.now in
    let new = c.look_up.new.filing in
    let seen = c.in-Some.ensures.seen in
    told_more c.open_below.result
    (λ file is. inl (
      c.in-Some.field-0-1,
      subst (λ (f : FileId). IsSeen old c.args.dir c.args.name Highest f c.in-Some.field-0-1 new) (sym is.0) seen,
      subst (λ (f : FileId). ¬ HidesEntries new.image new.layout f.number) (sym is.0) is.1,
    ))
    (λ why shut. inl (c.in-Some.file, (c.in-Some.field-0-1, seen, shut))) c.open_below.ensures

pub returns-in-None : goal.returns-in-None
returns-in-None c = told_more c.make_below.result (λ file made. inr (c.look_up.new.filing, c.in-None.ensures.seen, made)) (λ why none. inr (c.look_up.new.filing, c.in-None.ensures.seen, none)) c.make_below.ensures
