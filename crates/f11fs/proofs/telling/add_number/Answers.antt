use Rattle.std.proofs.lemmas.Result.{on_ok_weaker}
use Rattle.std.proofs.Common.{◌≡◌}
use Rattle.f11fs.proofs.telling.add_number.Goals as goal

pub returns-clause-told : goal.returns-clause-told
returns-clause-told c = on_ok_weaker c.add_ids.result (λ all. (c.id_of-old.result, (c.id_of-new.result, (all.0, c.id_of-old.ensures, c.id_of-new.ensures, all.1, all.2)))) c.add_ids.ensures.told
