use Rattle.std.proofs.Common.{◌≡◌, ℕ, List, refl, subst, sym, rules}
use Rattle.std.specs.Prelude.{IfOk}
use Rattle.ods_ask.specs.declared.script.Action.{Action}
use Rattle.ods_ask.specs.declared.script.Action.TheVariants as action
use Rattle.ods_ask.specs.declared.script.Ask.TheVariants as ask
use Rattle.ods_text.specs.Cuts.{IsPair}
use Rattle.ods_text.specs.Numbers.{IsNumber}
use Rattle.ods_text.specs.One.{IsTheOne}
use Rattle.ods_script.specs.Spelling.{IsUic, IsId, IsHex}
use Rattle.ods_script.specs.Naming.{IsNewName, IsGivenName, IsWantedName}
use Rattle.ods_script.specs.Commands.{Behind}
use Rattle.ods_script.specs.Said.{said}
use Rattle.ods_script.specs.Spoken as spoken
use Rattle.ods_script.specs.declared.verbs.Verb.{Verb}
use Rattle.ods_script.proofs.Meaning.{the_meaning}
use Rattle.ods_script.proofs.verbs.read_behind.Goals as goal

-- the row of a verb
row : {v w : Verb} (args : List ℕ) (a : Action) → v ≡ w → IsTheOne (Behind w args) (said a) → IsTheOne (Behind v args) (said a)
row args a is one = subst (λ (u : Verb). IsTheOne (Behind u args) (said a)) (sym is) one

pub returns-in-User : goal.returns-in-User
returns-in-User c = row c.args.args.now c.map_or.result c.in-User.is (the_meaning IsUic (λ x. spoken.User x) (λ x. action.User x) c.args.args.now _ c.map_or.result (λ x. refl) (λ x p. search rules) c.read.ensures c.map_or.ensures)

pub returns-in-Create : goal.returns-in-Create
returns-in-Create c = row c.args.args.now c.map_or-in-Create.result c.in-Create.is (the_meaning (IsPair 32 IsNewName IsNumber) (λ x. spoken.Create x.0.name x.0.version x.1) (λ x. action.Submit (ask.Create x.0.name x.0.version x.1)) c.args.args.now _ c.map_or-in-Create.result (λ x. refl) (λ x p. search rules) c.read-in-Create.ensures c.map_or-in-Create.ensures)

pub returns-in-Extend : goal.returns-in-Extend
returns-in-Extend c = row c.args.args.now c.map_or-in-Extend.result c.in-Extend.is (the_meaning (IsPair 32 IsId IsNumber) (λ x. spoken.Extend x.0 x.1) (λ x. action.Submit (ask.Extend x.0 x.1)) c.args.args.now _ c.map_or-in-Extend.result (λ x. refl) (λ x p. search rules) c.read-in-Extend.ensures c.map_or-in-Extend.ensures)

pub returns-in-Truncate : goal.returns-in-Truncate
returns-in-Truncate c = row c.args.args.now c.map_or-in-Truncate.result c.in-Truncate.is (the_meaning (IsPair 32 IsId IsNumber) (λ x. spoken.Truncate x.0 x.1) (λ x. action.Submit (ask.Truncate x.0 x.1)) c.args.args.now _ c.map_or-in-Truncate.result (λ x. refl) (λ x p. search rules) c.read-in-Truncate.ensures c.map_or-in-Truncate.ensures)

pub returns-in-Enter : goal.returns-in-Enter
returns-in-Enter c = row c.args.args.now c.map_or-in-Enter.result c.in-Enter.is (the_meaning (IsPair 32 IsId (IsPair 32 IsGivenName IsId)) (λ x. spoken.Enter x.0 x.1.0.name x.1.0.version x.1.1) (λ x. action.Submit (ask.Enter x.0 x.1.0.name x.1.0.version x.1.1)) c.args.args.now _ c.map_or-in-Enter.result (λ x. refl) (λ x p. search rules) c.read-in-Enter.ensures c.map_or-in-Enter.ensures)

pub returns-in-LookUp : goal.returns-in-LookUp
returns-in-LookUp c = row c.args.args.now c.map_or-in-LookUp.result c.in-LookUp.is (the_meaning (IsPair 32 IsId IsWantedName) (λ x. spoken.LookUp x.0 x.1.name x.1.version) (λ x. action.Submit (ask.LookUp x.0 x.1.name x.1.version)) c.args.args.now _ c.map_or-in-LookUp.result (λ x. refl) (λ x p. search rules) c.read-in-LookUp.ensures c.map_or-in-LookUp.ensures)

pub returns-in-Remove : goal.returns-in-Remove
returns-in-Remove c = row c.args.args.now c.map_or-in-Remove.result c.in-Remove.is (the_meaning (IsPair 32 IsId IsWantedName) (λ x. spoken.Remove x.0 x.1.name x.1.version) (λ x. action.Submit (ask.Remove x.0 x.1.name x.1.version)) c.args.args.now _ c.map_or-in-Remove.result (λ x. refl) (λ x p. search rules) c.read-in-Remove.ensures c.map_or-in-Remove.ensures)

pub returns-in-Read : goal.returns-in-Read
returns-in-Read c = row c.args.args.now c.map_or-in-Read.result c.in-Read.is (the_meaning (IsPair 32 IsId IsNumber) (λ x. spoken.Read x.0 x.1) (λ x. action.Submit (ask.Read x.0 x.1)) c.args.args.now _ c.map_or-in-Read.result (λ x. refl) (λ x p. search rules) c.read-in-Read.ensures c.map_or-in-Read.ensures)

pub returns-in-Write : goal.returns-in-Write
returns-in-Write c = subst (λ (u : Verb). IfOk c.read_write.result (λ a. IsTheOne (Behind u c.args.args.now) (said a))) (sym c.in-Write.is) c.read_write.ensures

pub returns-in-SetUser : goal.returns-in-SetUser
returns-in-SetUser c = row c.args.args.now c.map_or-in-SetUser.result c.in-SetUser.is (the_meaning (IsPair 32 IsId (IsHex 32)) (λ x. spoken.SetUser x.0 x.1) (λ x. action.Submit (ask.SetUser x.0 x.1)) c.args.args.now _ c.map_or-in-SetUser.result (λ x. refl) (λ x p. search rules) c.read-in-SetUser.ensures c.map_or-in-SetUser.ensures)

pub returns-in-View : goal.returns-in-View
returns-in-View c = row c.args.args.now c.read_view.result c.in-View.is c.read_view.ensures
