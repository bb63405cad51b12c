use Rattle.std.proofs.Common.{refl, sym, subst}
use Rattle.ods_request.specs.declared.answers.Answer.TheVariants.{Found, Bytes, Info}
use Rattle.ods_state.specs.Change.{IsAnsweredBy}
use Rattle.ods_state.specs.Outcome.{request_of}
use Rattle.ods_state.specs.Served.{IsRefusalOf}
use Rattle.ods_look.proofs.query.look_into_noted.Goals as goal

pub returns-in-Ok : goal.returns-in-Ok
returns-in-Ok c = subst (λ q. IsAnsweredBy c.args.disk.now.image.now c.args.disk.now.layout.now c.args.who (request_of q) (Found c.in-Ok.found.0 c.in-Ok.found.1)) (sym c.in-LookUp.is) c.in-Ok.ensures

pub returns-in-Err : goal.returns-in-Err
returns-in-Err c = (subst (λ q. IsRefusalOf c.args.disk.now.image.now c.args.disk.now.layout.now c.args.who (request_of q) c.in-Err.refusal) (sym c.in-LookUp.is) c.in-Err.ensures, refl)

pub returns-in-Ok-shown_block : goal.returns-in-Ok-shown_block
returns-in-Ok-shown_block c = subst (λ a. IsAnsweredBy c.args.disk.now.image.now c.args.disk.now.layout.now c.args.who (request_of c.args.query) a) (sym c.put_block.ensures)
    (subst (λ q. IsAnsweredBy c.args.disk.now.image.now c.args.disk.now.layout.now c.args.who (request_of q) (Bytes c.in-Ok-shown_block.block.now)) (sym c.in-Read.is) c.in-Ok-shown_block.ensures)

pub returns-in-Err-shown_block : goal.returns-in-Err-shown_block
returns-in-Err-shown_block c = (subst (λ q. IsRefusalOf c.args.disk.now.image.now c.args.disk.now.layout.now c.args.who (request_of q) c.in-Err-shown_block.refusal) (sym c.in-Read.is) c.in-Err-shown_block.ensures, refl)

pub returns-in-Ok-stat : goal.returns-in-Ok-stat
returns-in-Ok-stat c = subst (λ q. IsAnsweredBy c.args.disk.now.image.now c.args.disk.now.layout.now c.args.who (request_of q) (Info c.in-Ok-stat.stat)) (sym c.in-Stat.is) (c.in-Ok-stat.ensures c.args.who)

pub returns-in-Err-stat : goal.returns-in-Err-stat
returns-in-Err-stat c = (subst (λ q. IsRefusalOf c.args.disk.now.image.now c.args.disk.now.layout.now c.args.who (request_of q) c.in-Err-stat.refusal) (sym c.in-Stat.is) (c.in-Err-stat.ensures c.args.who), refl)
