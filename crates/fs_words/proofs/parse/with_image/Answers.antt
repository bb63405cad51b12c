use Rattle.std.proofs.Common.{rules, ◌≡◌, false}
use Rattle.clap.specs.Simple.{app_of}
use Rattle.fs_words.proofs.Listed.{no_rules}
use Rattle.fs_words.proofs.parse.with_image.Goals as goal

pub returns-then-not-has_image : goal.returns-then-not-has_image
returns-then-not-has_image c =
    let none : c.args.has_image ≡ false = search rules in
    rw none (no_rules (app_of c.args.command))
