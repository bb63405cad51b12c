use Rattle.std.proofs.Common.{◌≡◌, ◌∙◌, ap, rules, Some, None, codes, false, true, is_some, map, slice_get, sym, Bor}
use Rattle.clap.specs.declared.parser.matches.ArgMatches.{ArgMatches}
use Rattle.fs_words.specs.Asked.{text_of}
use Rattle.fs_words.specs.Names.{verb_named}
use Rattle.fs_words.specs.Refused.{file_within, line_refused, line_without}
use Rattle.fs_words.specs.Rules.{program_app}
use Rattle.fs_words.proofs.LeftWords.{line_asks, unsaid}
use Rattle.fs_words.proofs.Refusing.{clap_refuses, line_refused_by, name_unknown, name_wanting, reason_of}
use Rattle.fs_words.proofs.words.parse_line.Goals as goal

pub returns-in-Ok-obeyed_words-clause-found : goal.returns-in-Ok-obeyed_words-clause-found
returns-in-Ok-obeyed_words-clause-found g c =
    let off : is_some c.get_str.result ≡ false = search rules in
    let none : text_of c.in-Ok.before (codes "commands") ≡ None = unsaid (λ s. s.now) c.get_str.result _ c.get_str.ensures off in
    let at : slice_get c.rest_of-rest.result.now 0 ≡ Some c.in-Some.name.now = sym c.in-Some.ensures.value in
    let named : verb_named (g.S.AsStr.text c.in-Some.name.now) ≡ Some c.in-Some-of_name.verb = ap verb_named (sym c.as_str.ensures) ∙ sym c.in-Some-of_name.ensures in
    line_asks g.S.AsStr.text c.args.words.now c.rest_of-rest.result.now _ c.in-Some.name.now c.in-Some-of_name.verb c.args.image c.in-Ok-obeyed_words.words c.in-Ok-obeyed_words.ensures.found c.in-Ok.ensures.found none c.rest_of-rest.ensures at named

pub returns-in-Err-clause-refused : goal.returns-in-Err-clause-refused
returns-in-Err-clause-refused g c =
    reason_of c.in_ok-tell-in-Err.field-0 (clap_refuses (program_app false) (map g.S.AsStr.text c.args.words.now) c.in-Err.error c.in_ok-tell-in-Err.field-0 c.in_ok-tell-in-Err.ensures c.in-Err.ensures.refused c.in-Err.ensures.kinds) line_refused

pub returns-then-is_some-clause-refused : goal.returns-then-is_some-clause-refused
returns-then-is_some-clause-refused g c =
    let filed : is_some (text_of c.in-Ok.before (codes "commands")) ≡ true = search rules in
    λ other. file_within (record { ref_ptr = c.args.words.ref_ptr; now = c.in-Ok.before }) c.in-Ok.ensures.found filed

pub returns-in_default-clause-refused : goal.returns-in_default-clause-refused
returns-in_default-clause-refused g c =
    let before : Bor ArgMatches = record { ref_ptr = c.args.image.ref_ptr; now = c.in-Ok.before } in
    let at : slice_get c.rest_of-rest.result.now 0 ≡ None = sym c.in_default.ensures.value in
    λ other. line_without before c.in-Ok.ensures.found (name_wanting g.S.AsStr.text c.args.words.now c.rest_of-rest.result.now before c.rest_of-rest.ensures at)

pub returns-in-Some-of_name-clause-refused : goal.returns-in-Some-of_name-clause-refused
returns-in-Some-of_name-clause-refused g c =
    let at : slice_get c.rest_of-rest.result.now 0 ≡ Some c.in-Some.name.now = sym c.in-Some.ensures.value in
    let named : verb_named (g.S.AsStr.text c.in-Some.name.now) ≡ Some c.in-Some-of_name.verb = ap verb_named (sym c.as_str.ensures) ∙ sym c.in-Some-of_name.ensures in
    line_refused_by g.S.AsStr.text c.args.words.now c.rest_of-rest.result.now _ c.in-Some.name.now c.in-Some-of_name.verb c.in-Err-obeyed_words.fault c.rest_of-rest.ensures at named c.in-Ok.ensures.found c.in-Err-obeyed_words.ensures.refused

pub returns-clause-refused : goal.returns-clause-refused
returns-clause-refused g c =
    let before : Bor ArgMatches = record { ref_ptr = c.args.image.ref_ptr; now = c.in-Ok.before } in
    let at : slice_get c.rest_of-rest.result.now 0 ≡ Some c.in-Some.name.now = sym c.in-Some.ensures.value in
    let named : verb_named (g.S.AsStr.text c.in-Some.name.now) ≡ None = ap verb_named (sym c.as_str.ensures) ∙ sym c.in-None.ensures in
    λ other. line_without before c.in-Ok.ensures.found (name_unknown g.S.AsStr.text c.args.words.now c.rest_of-rest.result.now before c.in-Some.name.now c.rest_of-rest.ensures at named)
