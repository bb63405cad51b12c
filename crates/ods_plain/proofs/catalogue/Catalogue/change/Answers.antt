use Rattle.std.proofs.Common.{◌≡◌, true, refl, rules}
use Rattle.ods_request.specs.declared.requests.Request.TheVariants.{Extend, Truncate, Delete, Enter, LookUp, Remove, Read, Write, List as Lines, Stat, SetUser}
use Rattle.ods_request.specs.Steps.{after, answer_of, is_new}
use Rattle.ods_plain.proofs.Moves.{moves, looks, makes}
use Rattle.ods_plain.proofs.catalogue.Catalogue.change.Goals as goal

pub returns-in_ok-create-in-Create-clause-ok : goal.returns-in_ok-create-in-Create-clause-ok
returns-in_ok-create-in-Create-clause-ok c =
    let new : is_new c.args.self.now c.args.new ≡ true = search rules in
    makes _ _ _ _ _ _ _ _ _ c.in-Create.is c.requires new c.in_ok-create-in-Create.ensures.ok

pub returns-in_ok-extend-in-Extend-clause-ok : goal.returns-in_ok-extend-in-Extend-clause-ok
returns-in_ok-extend-in-Extend-clause-ok c =
    moves _ _ _ _ (Extend c.in-Extend.file c.in-Extend.count) _ c.in-Extend.is c.requires refl c.in_ok-extend-in-Extend.ensures.count c.in_ok-extend-in-Extend.ensures.ok

pub returns-in-Truncate-clause-ok : goal.returns-in-Truncate-clause-ok
unfolding answer_of
returns-in-Truncate-clause-ok c =
    moves _ _ _ _ (Truncate c.in-Truncate.file c.in-Truncate.blocks) _ c.in-Truncate.is c.requires refl refl c.truncate.ensures

pub returns-in-Delete-clause-ok : goal.returns-in-Delete-clause-ok
unfolding answer_of
returns-in-Delete-clause-ok c =
    moves _ _ _ _ (Delete c.in-Delete.file) _ c.in-Delete.is c.requires refl refl c.delete.ensures

pub returns-in_ok-enter-in-Enter-clause-ok : goal.returns-in_ok-enter-in-Enter-clause-ok
returns-in_ok-enter-in-Enter-clause-ok c =
    moves _ _ _ _ (Enter c.in-Enter.dir c.in-Enter.name c.in-Enter.version c.in-Enter.file) _ c.in-Enter.is c.requires refl c.in_ok-enter-in-Enter.ensures.version c.in_ok-enter-in-Enter.ensures.ok

pub returns-in-LookUp-clause-ok : goal.returns-in-LookUp-clause-ok
unfolding after
returns-in-LookUp-clause-ok c =
    looks _ _ _ (LookUp c.in-LookUp.dir c.in-LookUp.name c.in-LookUp.pick) _ c.in-LookUp.is c.requires refl c.look_up-version.ensures refl

pub returns-in-Remove-clause-ok : goal.returns-in-Remove-clause-ok
returns-in-Remove-clause-ok c =
    moves _ _ _ _ (Remove c.in-Remove.dir c.in-Remove.name c.in-Remove.pick) _ c.in-Remove.is c.requires refl c.remove-version.ensures.answer c.remove-version.ensures.left

pub returns-in-Read-clause-ok : goal.returns-in-Read-clause-ok
unfolding after
returns-in-Read-clause-ok c =
    looks _ _ _ (Read c.in-Read.file c.in-Read.vbn) _ c.in-Read.is c.requires refl c.read.ensures refl

pub returns-in-Write-clause-ok : goal.returns-in-Write-clause-ok
unfolding answer_of
returns-in-Write-clause-ok c =
    moves _ _ _ _ (Write c.in-Write.file c.in-Write.vbn c.in-Write.block) _ c.in-Write.is c.requires refl refl c.write.ensures

pub returns-in_ok-list-in-List-clause-ok : goal.returns-in_ok-list-in-List-clause-ok
unfolding after
returns-in_ok-list-in-List-clause-ok c =
    looks _ _ _ (Lines c.in-List.dir) _ c.in-List.is c.requires refl c.in_ok-list-in-List.ensures refl

pub returns-in_ok-stat-in-Stat-clause-ok : goal.returns-in_ok-stat-in-Stat-clause-ok
unfolding after
returns-in_ok-stat-in-Stat-clause-ok c =
    looks _ _ _ (Stat c.in-Stat.file) _ c.in-Stat.is c.requires refl c.in_ok-stat-in-Stat.ensures refl

pub returns-in-SetUser-clause-ok : goal.returns-in-SetUser-clause-ok
unfolding answer_of
returns-in-SetUser-clause-ok c =
    moves _ _ _ _ (SetUser c.in-SetUser.file c.in-SetUser.attributes) _ c.in-SetUser.is c.requires refl refl c.set_user.ensures
