-- What stays of an argument whose kind is set.
use Rattle.std.specs.Prelude.{◌≡◌}
use Rattle.clap.specs.declared.builder.arg.Arg.{Arg}

-- only its spelling differs
abbrev pub IsSpelledOf : Arg → Arg → Type 0
IsSpelledOf old new = new ≡ record old { short = new.short; long = new.long }

-- only what its kind states differs, and its help
abbrev pub IsKindOf : Arg → Arg → Type 0
IsKindOf old new = new ≡ record old { help = new.help; short = new.short; long = new.long; val_names = new.val_names; num_vals = new.num_vals; action = new.action; value_parser = new.value_parser; required = new.required }
