use Rattle.std.proofs.Common.{◌≡◌, ◌∙◌, ap}
use Rattle.std.specs.Option.{option_map}
use Rattle.ods_shell.specs.Remedies.{advice_words, row_of, row_words}
use Rattle.ods_upkeep.specs.Refused.{refusal_name}
use Rattle.ods_upkeep.proofs.Advising.{advised, unadvised}
use Rattle.ods_upkeep.proofs.failure.Why.remedy.Goals as goal
use Rattle.ods_upkeep.proofs.failure.Why.remedy.Goals.{After-remedy}

-- the advice is that of the row of the refusal's name
found : (c : After-remedy) → option_map advice_words c.remedy.result ≡ option_map row_words (row_of (refusal_name c.args.self.now))
found c = c.remedy.ensures ∙ ap (λ name. option_map row_words (row_of name)) c.refusal.ensures

pub returns-in-Some : goal.returns-in-Some
returns-in-Some c = (advised c.remedy.result (row_of (refusal_name c.args.self.now)) c.in-Some.advice (found (goal.at.returns-in-Some c).After-remedy) c.in-Some.is).1

pub returns-in-None : goal.returns-in-None
returns-in-None c = (unadvised c.remedy.result (row_of (refusal_name c.args.self.now)) (found (goal.at.returns-in-None c).After-remedy) c.in-None.is).1
