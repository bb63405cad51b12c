use Rattle.std.proofs.Common.{subst, true, ◌≡◌, map}
use Rattle.std.specs.Prelude.{IfErr, IfOk}
use Rattle.clap.specs.Faults.{fault_of, is_simple_and_free}
use Rattle.clap.specs.Kinds.{FailsBy}
use Rattle.clap.specs.Simple.{App, HasMatchesOf}
use Rattle.clap.specs.Takes.{takes}
use Rattle.clap.specs.Values.{kind_of}
use Rattle.clap.specs.declared.error.kind.ErrorKind.TheVariants.{OutOfMemory}
use Rattle.fs_words.specs.Rules.{program_app}
use Rattle.fs_words.proofs.AllSimple.{parsed, program_simple, refused}
use Rattle.fs_words.proofs.parse.first_matches.Goals as goal

pub returns : goal.returns
returns g c =
    let words = map g.S.AsStr.text c.args.words.now in
    let kinds = subst (λ (a : App). is_simple_and_free a ≡ true → FailsBy (fault_of a words) c.try_get_matches_from.result) c.in_ok-command.ensures c.try_get_matches_from.ensures.kinds in
    record {
      found = parsed (program_app c.args.has_image) words c.try_get_matches_from.result (program_simple c.args.has_image) (subst (λ (a : App). IfOk c.try_get_matches_from.result (HasMatchesOf a words)) c.in_ok-command.ensures c.try_get_matches_from.ensures.matches) kinds;
      refused = subst (λ (a : App). IfErr c.try_get_matches_from.result (λ e. takes a words ≡ true → kind_of e ≡ OutOfMemory)) c.in_ok-command.ensures c.try_get_matches_from.ensures.passes;
      kinds = refused (program_app c.args.has_image) words c.try_get_matches_from.result kinds;
    }
