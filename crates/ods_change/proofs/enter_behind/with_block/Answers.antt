use Rattle.std.proofs.Common.{◌≡◌, ◌+◌, refl, ap, sym, ◌∙◌, ℕ, length, get_or, List, ◌∷◌, Option, arith}
use Rattle.std.specs.Prelude.{slice_set}
use Rattle.ods_base.specs.Block.{with_bytes, zeros}
use Rattle.ods_base.specs.Name.{RadName}
use Rattle.ods_base.specs.declared.file_id.FileId.{FileId}
use Rattle.ods_base.specs.declared.file_id.Uic.{Uic}
use Rattle.ods_space.specs.Draft.{applied}
use Rattle.ods_space.specs.Layout.{VolumeLayout}
use Rattle.ods_change.specs.Entering.{IsEntryFor}
use Rattle.ods_change.proofs.ChainEnds.{ends_asked}
use Rattle.ods_change.proofs.GrowingChain.{has_headers}
use Rattle.ods_change.proofs.GrowingDirectory.{IsGrowing, at_the_head, chain_ready, enter_behind, growing, headers_ready, one_taken, ready_is, walked_now}
use Rattle.ods_change.proofs.enter_behind.with_block.Goals as goal
use Rattle.ods_change.proofs.enter_behind.with_block.Goals.{In_ok-set-2}

pub bounds-blocks-0 : goal.bounds-blocks-0
bounds-blocks-0 c =
    let e = c.requires.entry.4 in
    let headers : List ℕ = c.args.dir.number ∷ e.own.is.held.others in
    let got = c.requires.taken headers e.own.is.lbns (has_headers e.own.is.held) in
    let one : length c.args.blocks.now ≡ 1 = ap length got.0 ∙ one_taken (applied c.args.disk.now.image.now c.args.draft) c.args.disk.now.layout.now headers got.2 in
    omega (arith, one)

pub put_entry-requires : goal.put_entry-requires
put_entry-requires c = let head = at_the_head c.requires.sound c.requires.entry.4 c.requires.grows in omega (arith, head)

-- what stands in the draft before the chain grows
module _ (c : In_ok-set-2) where
  abbrev I : List (List ℕ)
  I = applied c.args.disk.now.image.now c.args.draft

  abbrev L : VolumeLayout
  L = c.args.disk.now.layout.now

  abbrev x : ℕ
  x = get_or c.args.blocks.now 0 0

  drafted : slice_set (slice_set I x (with_bytes zeros 0 c.args.entry.now.bytes)) c.unwrap-first.result c.marked_header-header.result ≡ applied c.args.disk.now.image.now c.set-2.new.self
  drafted =
      ready_is c.args.disk.now.image.now x c.unwrap-first.result _ c.put_entry.new.block c.marked_header-header.result c.args.draft c.set-2.new.self
      (c.put_entry.ensures ∙ (λ i. with_bytes (c.zeros-block.ensures.value i) (at_the_head c.requires.sound c.requires.entry.4 c.requires.grows i) c.args.entry.now.bytes))
      (c.in_ok-set-2.ensures.ok ∙ ap (λ d. (c.unwrap-first.result, c.marked_header-header.result) ∷ d) c.in_ok-set.ensures.ok)

  -- and so the directory grows
  grows_so : {who : Uic} {name : RadName} {given : Option ℕ} {file : FileId} (e : IsEntryFor I L who c.args.dir name given file c.args.entry.now)
      → IsGrowing I L c.args.dir.number c.args.entry.now (c.args.dir.number ∷ e.own.is.held.others) x c.unwrap-first.result (c.count-count.result + 1) c.marked_header-header.result c.args.numbers.now
  grows_so e =
      let header = c.marked_header-header.ensures in
      growing e c.requires.grows c.args.blocks.now c.args.numbers.now c.args.numbers.now x c.unwrap-first.result (c.count-count.result + 1) c.marked_header-header.result
      c.requires.taken refl refl (sym c.place.ensures ∙ c.unwrap-first.ensures) (ap (λ k. k + 1) c.count-count.ensures) header.size header.changed header.fields

pub extend_from-requires : goal.extend_from-requires
extend_from-requires c =
    let s = (goal.at.extend_from-requires c).In_ok-set-2 in
    let e = c.requires.entry.4 in
    let headers : List ℕ = c.args.dir.number ∷ e.own.is.held.others in
    let has = has_headers e.own.is.held in
    let before = walked_now c.requires.sound e c.requires.grows (grows_so s e) c.requires.image (drafted s) c.makes_image.ensures in
    let ready = chain_ready c.requires.sound e c.requires.grows (grows_so s e) c.requires.image (drafted s) before.0 before.1 (c.requires.taken headers e.own.is.lbns has).0 in
    let there = headers_ready c.requires.sound e c.requires.grows (grows_so s e) (drafted s) in (
      ready.0,
      (
        ready.1,
        (
          ready.2,
          (
            ready.3,
            (ends_asked (I s) (applied c.args.disk.now.image.now c.set-2.new.self) (L s) c.args.dir.number headers e.own.is.lbns c.marked_header-header.result c.args.end.now has c.requires.end before.0 there, c.requires.runs),
          ),
        ),
      ),
    )

pub returns : goal.returns
returns c = λ who name given file e.
    let s = (goal.at.returns c).In_ok-set-2 in
    let headers : List ℕ = c.args.dir.number ∷ e.own.is.held.others in
    let has = has_headers e.own.is.held in
    let before = walked_now c.requires.sound e c.requires.grows (grows_so s e) c.requires.image (drafted s) c.makes_image.ensures in
    enter_behind c.requires.sound e c.requires.grows (grows_so s e) c.requires.image (drafted s) before.0 before.1 (c.requires.taken headers e.own.is.lbns has).0 c.in_ok-grown.ensures
