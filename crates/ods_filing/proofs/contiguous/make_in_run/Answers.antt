use Rattle.std.proofs.Common.{◌≡◌, sym, ◌∙◌, subst, replicate, false, true}
use Rattle.std.specs.List.{All}
use Rattle.ods_mount.specs.Sound.{IsSoundBy}
use Rattle.ods_request.specs.Catalogue.{Plain}
use Rattle.ods_request.specs.Steps.{zero_blocks}
use Rattle.ods_space.specs.Layout.{Disk}
use Rattle.ods_amend.specs.Bits.{IsLoose}
use Rattle.ods_amend.specs.Runs.{free_below}
use Rattle.ods_filing.specs.Contiguous.{HasMarked}
use Rattle.ods_filing.specs.Put.{heading_of}
use Rattle.ods_filing.proofs.InOnePiece.{added, loose, placed}
use Rattle.ods_filing.proofs.contiguous.make_in_run.Goals as goal

pub mark_blocks-requires-2 : goal.mark_blocks-requires-2
mark_blocks-requires-2 c =
    let old = c.args.filing.now in
    let S = subst (λ (d : Disk). IsSoundBy d.image d.layout) (λ i. record { image = c.disk.ensures.image i; layout = c.disk.ensures.layout i }) c.disk.ensures.sound in
    let M = subst (λ (d : Disk). IsSoundBy d.image d.layout) (λ i. record { image = c.disk-2.ensures.image i; layout = c.disk-2.ensures.layout i }) c.disk-2.ensures.sound in
    let those : c.in-Ok.below.items ≡ free_below old.image old.layout c.args.first = c.in-Ok.ensures ∙ (λ i. free_below (c.disk.ensures.image i) (c.disk.ensures.layout i) c.args.first) in
    let a = subst (λ bs. HasMarked old bs false c.mark_blocks.new.self) (c.deref.ensures.value ∙ those) c.in-Ok-mark_blocks.ensures.marked in
    λ freed. subst (All (IsLoose c.make.new.filing.image c.make.new.filing.layout)) (sym (c.deref-2.ensures.value ∙ those))
    (loose old c.mark_blocks.new.self c.make.new.filing S c.args.first c.args.blocks c.requires.run a (heading_of c.args.file.now) c.in_ok-id.id c.in_ok-id.ensures.done M)

pub returns-in-Ok-mark_blocks-2-clause-ok : goal.returns-in-Ok-mark_blocks-2-clause-ok
returns-in-Ok-mark_blocks-2-clause-ok c =
    let old = c.args.filing.now in
    let S = subst (λ (d : Disk). IsSoundBy d.image d.layout) (λ i. record { image = c.disk.ensures.image i; layout = c.disk.ensures.layout i }) c.disk.ensures.sound in
    let M = subst (λ (d : Disk). IsSoundBy d.image d.layout) (λ i. record { image = c.disk-2.ensures.image i; layout = c.disk-2.ensures.layout i }) c.disk-2.ensures.sound in
    let those : c.in-Ok.below.items ≡ free_below old.image old.layout c.args.first = c.in-Ok.ensures ∙ (λ i. free_below (c.disk.ensures.image i) (c.disk.ensures.layout i) c.args.first) in
    let a = subst (λ bs. HasMarked old bs false c.mark_blocks.new.self) (c.deref.ensures.value ∙ those) c.in-Ok-mark_blocks.ensures.marked in
    let b = subst (λ bs. HasMarked c.make.new.filing bs true c.mark_blocks-2.new.self) (c.deref-2.ensures.value ∙ those) c.in-Ok-mark_blocks-2.ensures.marked in
    added old c.mark_blocks.new.self c.make.new.filing S c.args.first c.args.blocks c.requires.run a (heading_of c.args.file.now) c.in_ok-id.id c.in_ok-id.ensures.done M c.mark_blocks-2.new.self b
    (Plain (replicate 32 0) (zero_blocks c.args.blocks)) c.in_ok-id.ensures.ok

pub returns-in-Ok-mark_blocks-2-clause-place : goal.returns-in-Ok-mark_blocks-2-clause-place
returns-in-Ok-mark_blocks-2-clause-place c =
    let old = c.args.filing.now in
    let S = subst (λ (d : Disk). IsSoundBy d.image d.layout) (λ i. record { image = c.disk.ensures.image i; layout = c.disk.ensures.layout i }) c.disk.ensures.sound in
    let M = subst (λ (d : Disk). IsSoundBy d.image d.layout) (λ i. record { image = c.disk-2.ensures.image i; layout = c.disk-2.ensures.layout i }) c.disk-2.ensures.sound in
    let those : c.in-Ok.below.items ≡ free_below old.image old.layout c.args.first = c.in-Ok.ensures ∙ (λ i. free_below (c.disk.ensures.image i) (c.disk.ensures.layout i) c.args.first) in
    let a = subst (λ bs. HasMarked old bs false c.mark_blocks.new.self) (c.deref.ensures.value ∙ those) c.in-Ok-mark_blocks.ensures.marked in
    let b = subst (λ bs. HasMarked c.make.new.filing bs true c.mark_blocks-2.new.self) (c.deref-2.ensures.value ∙ those) c.in-Ok-mark_blocks-2.ensures.marked in
    placed old c.mark_blocks.new.self c.make.new.filing S c.args.first c.args.blocks c.requires.run a (heading_of c.args.file.now) c.in_ok-id.id c.in_ok-id.ensures.done M c.mark_blocks-2.new.self b
