use Rattle.f11fs.proofs.Whole.{all_done}
use Rattle.f11fs.proofs.mending_sound.mend_sound.Goals as goal

pub returns-clause-whole : goal.returns-clause-whole
returns-clause-whole c =
    all_done c.mend_lost.result c.args.report.now.is_left c.mend_names.new.report.is_left c.mend_free.new.report.is_left c.mend_lost.new.report.is_left _ _ _ _ _
    c.in_ok-mend_names.ensures.whole c.in_ok-mend_free.ensures.whole c.mend_lost.ensures.leaves c.mend_lost.ensures.whole
    (λ p q s t. (c.mend_names.new.filing, c.mend_free.new.filing, p, q, s, t))
