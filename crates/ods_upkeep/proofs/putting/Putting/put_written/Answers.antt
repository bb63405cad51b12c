use Rattle.std.proofs.Common.{◌∙◌, refl, subst}
use Rattle.std.proofs.lemmas.Result.{IfErr-weaker, err_from_is_err_and}
use Rattle.std.specs.Prelude.{IfErr, OnOk, ◌≡◌, is_some, true}
use Rattle.ods_upkeep.specs.HostPut.{IsPutAs}
use Rattle.ods_upkeep.specs.Left.{InPut}
use Rattle.ods_upkeep.specs.Refused.{no_memory}
use Rattle.ods_upkeep.specs.Unput.{IsNotStored, no_room}
use Rattle.ods_upkeep.specs.Written.{bytes_of}
use Rattle.ods_upkeep.proofs.Lists.{if_done}
use Rattle.ods_upkeep.proofs.PutLists.{put_as}
use Rattle.ods_upkeep.proofs.Storing.{not_stored_of, noting_stops, keeping_stops, storing_stops}
use Rattle.ods_upkeep.proofs.putting.Putting.put_written.Goals as goal

pub returns-clause-done : goal.returns-clause-done
returns-clause-done c =
    let s = c.self.inside in
    let p : InPut = record { target = s.target; stamp = s.stamp; form = s.form; like = s.like; keeps = s.keeps; placing = s.placing; owner = s.owner; names = s.names; highest = s.highest } in
    let q : InPut = record { target = s.target; stamp = s.stamp; form = s.form; like = s.like; keeps = s.keeps; placing = s.placing; owner = s.owner; names = c.count_name.new.names; highest = c.note_version.new.highest } in
    subst (λ (v : InPut). OnOk c.note_version.result (IsPutAs v c.args.name c.args.written.now.attributes (bytes_of c.args.written.now) c.args.filing.now q c.keep_access.new.filing)) c.self.view_is
    (if_done c.note_version.result
    (λ noted.
    put_as p q c.args.name c.args.written.now.attributes c.bytes.result.now (bytes_of c.args.written.now) c.args.filing.now c.make_room.new.filing c.version_of-version.new.filing c.put_new.new.filing c.keep_access.new.filing
    c.in_ok-free.free c.in_ok-free.held c.or-said.result c.make_room.new.names c.version_of-version.result c.user.result c.unwrap_or-owner.result c.placing_kept-placing.result c.blocks_for-blocks.result c.in_ok-id.id c.in_ok-free.ensures.room c.or-said.ensures c.version_of-version.ensures
    c.user.ensures c.unwrap_or-owner.ensures c.bytes.ensures c.placing_kept-placing.ensures c.blocks_for-blocks.ensures c.in_ok-id.ensures.made c.in_ok-keep_access.ensures.given c.count_name.ensures.counted noted (record { target = refl; stamp = refl; form = refl; like = refl; keeps = refl; placing = refl; owner = refl; counts = c.count_name.ensures.replaces ∙ c.make_room.ensures.replaces }))
    c.note_version.ensures.ok)

pub returns-in_err-free-clause-refused : goal.returns-in_err-free-clause-refused
returns-in_err-free-clause-refused c =
    let q = err_from_is_err_and c.from_residual.result c.from_residual.ensures.1 in
    rw (q.1, q.2) (not_stored_of _ c.args.name c.args.written.now.attributes (bytes_of c.args.written.now) c.args.filing.now c.make_room.new.filing c.self.view_is (no_room _ c.in_err-free.ensures.err))

pub returns-in_err-id-clause-refused : goal.returns-in_err-id-clause-refused
returns-in_err-id-clause-refused c =
    let s = c.self.inside in
    let p : InPut = record { target = s.target; stamp = s.stamp; form = s.form; like = s.like; keeps = s.keeps; placing = s.placing; owner = s.owner; names = s.names; highest = s.highest } in
    let q = err_from_is_err_and c.from_residual-in_err-id.result c.from_residual-in_err-id.ensures.1 in
    rw (q.1, q.2) (not_stored_of _ c.args.name c.args.written.now.attributes (bytes_of c.args.written.now) c.args.filing.now c.put_new.new.filing c.self.view_is
    (storing_stops p c.args.name c.args.written.now.attributes c.bytes.result.now (bytes_of c.args.written.now) c.args.filing.now c.make_room.new.filing c.version_of-version.new.filing c.put_new.new.filing
    c.in_ok-free.free c.in_ok-free.held c.or-said.result c.make_room.new.names c.version_of-version.result c.user.result c.unwrap_or-owner.result c.placing_kept-placing.result c.in_ok-free.ensures.room c.or-said.ensures c.version_of-version.ensures c.user.ensures
    c.unwrap_or-owner.ensures c.bytes.ensures c.placing_kept-placing.ensures _ c.in_err-id.ensures.refused))

pub returns-in_err-keep_access-clause-refused : goal.returns-in_err-keep_access-clause-refused
returns-in_err-keep_access-clause-refused c =
    let s = c.self.inside in
    let p : InPut = record { target = s.target; stamp = s.stamp; form = s.form; like = s.like; keeps = s.keeps; placing = s.placing; owner = s.owner; names = s.names; highest = s.highest } in
    let q = err_from_is_err_and c.from_residual-in_err-keep_access.result c.from_residual-in_err-keep_access.ensures.1 in
    rw (q.1, q.2) (not_stored_of _ c.args.name c.args.written.now.attributes (bytes_of c.args.written.now) c.args.filing.now c.keep_access.new.filing c.self.view_is
    (keeping_stops p c.args.name c.args.written.now.attributes c.bytes.result.now (bytes_of c.args.written.now) c.args.filing.now c.make_room.new.filing c.version_of-version.new.filing c.put_new.new.filing
    c.in_ok-free.free c.in_ok-free.held c.or-said.result c.make_room.new.names c.version_of-version.result c.user.result c.unwrap_or-owner.result c.placing_kept-placing.result c.in_ok-free.ensures.room c.or-said.ensures c.version_of-version.ensures c.user.ensures
    c.unwrap_or-owner.ensures c.bytes.ensures c.placing_kept-placing.ensures c.in_ok-id.id c.blocks_for-blocks.result c.blocks_for-blocks.ensures c.in_ok-id.ensures.made c.keep_access.new.filing _ c.in_err-keep_access.ensures.refused))

pub returns-clause-refused : goal.returns-clause-refused
returns-clause-refused c =
    let s = c.self.inside in
    let p : InPut = record { target = s.target; stamp = s.stamp; form = s.form; like = s.like; keeps = s.keeps; placing = s.placing; owner = s.owner; names = s.names; highest = s.highest } in
    let attributes = c.args.written.now.attributes in
    let all = bytes_of c.args.written.now in
    subst (λ (v : InPut). IfErr c.note_version.result (IsNotStored v c.args.name attributes all c.args.filing.now c.keep_access.new.filing)) c.self.view_is
    (IfErr-weaker c.note_version.result (λ why. (why ≡ no_memory) × (is_some p.highest ≡ true)) (IsNotStored p c.args.name attributes all c.args.filing.now c.keep_access.new.filing)
    (noting_stops p c.args.name attributes c.bytes.result.now all c.args.filing.now c.make_room.new.filing c.version_of-version.new.filing c.put_new.new.filing
    c.in_ok-free.free c.in_ok-free.held c.or-said.result c.make_room.new.names c.version_of-version.result c.user.result c.unwrap_or-owner.result c.placing_kept-placing.result c.in_ok-free.ensures.room c.or-said.ensures c.version_of-version.ensures c.user.ensures
    c.unwrap_or-owner.ensures c.bytes.ensures c.placing_kept-placing.ensures c.in_ok-id.id c.blocks_for-blocks.result c.blocks_for-blocks.ensures c.in_ok-id.ensures.made c.keep_access.new.filing c.in_ok-keep_access.ensures.given)
    c.note_version.ensures.err)
