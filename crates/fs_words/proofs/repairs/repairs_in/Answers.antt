use Rattle.fs_words.proofs.RepairLists.{are_repairs}
use Rattle.fs_words.proofs.repairs.repairs_in.Goals as goal

pub returns : goal.returns
returns c =
    are_repairs c.args.words.now c.is_asked_for.result c.is_asked_for-2.result c.is_asked_for-3.result c.is_asked_for-4.result c.is_asked_for-5.result c.is_asked_for-6.result
    c.is_asked_for.ensures c.is_asked_for-2.ensures c.is_asked_for-3.ensures c.is_asked_for-4.ensures c.is_asked_for-5.ensures c.is_asked_for-6.ensures
