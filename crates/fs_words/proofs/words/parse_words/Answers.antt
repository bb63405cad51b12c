use Rattle.std.proofs.Common.{◌≡◌, ◌∙◌, ap, rules, Some, None, codes, is_some, map, slice_get, sym, true, Bor}
use Rattle.clap.specs.declared.parser.matches.ArgMatches.{ArgMatches}
use Rattle.fs_words.specs.Asked.{text_of}
use Rattle.fs_words.specs.Names.{verb_named}
use Rattle.fs_words.proofs.LeftWords.{file_asks, name_asks}
use Rattle.fs_words.specs.Refused.{no_image, words_refused, words_without}
use Rattle.fs_words.specs.Rules.{program_app}
use Rattle.fs_words.proofs.Refusing.{both_parts, clap_refuses, file_refused_by, name_unknown, name_wanting, reason_of, words_refused_by}
use Rattle.fs_words.proofs.words.parse_words.Goals as goal

pub returns-in-Some-None : goal.returns-in-Some-None
returns-in-Some-None g c =
    let imaged : text_of c.in-Ok.before (codes "image") ≡ Some c.in-Some.image.now = search rules in
    let filed : text_of c.in-Ok.before (codes "commands") ≡ Some c.in-Some-None.file.now = search rules in
    let at : slice_get c.rest_of-rest.result.now 0 ≡ None = search rules in
    record {
      found = file_asks g.S.AsStr.text c.args.words.now c.rest_of-rest.result.now _ c.in-Some.image c.in-Some-None.file c.file_words.result c.file_words.ensures.found c.in-Ok.ensures.found imaged filed c.rest_of-rest.ensures at;
      refused = file_refused_by g.S.AsStr.text c.args.words.now _ c.file_words.result c.in-Ok.ensures.found (ap is_some filed) c.file_words.ensures.refused;
    }

pub returns-in-Some-of_name : goal.returns-in-Some-of_name
returns-in-Some-of_name g c =
    let imaged : text_of c.in-Ok.before (codes "image") ≡ Some c.in-Some.image.now = search rules in
    let none : text_of c.in-Ok.before (codes "commands") ≡ None = search rules in
    let at : slice_get c.rest_of-rest.result.now 0 ≡ Some c.in-None-Some.word.now = search rules in
    let named : verb_named (g.S.AsStr.text c.in-None-Some.word.now) ≡ Some c.in-Some-of_name.verb = ap verb_named (sym c.as_str.ensures) ∙ sym c.in-Some-of_name.ensures in
    record {
      found = name_asks g.S.AsStr.text c.args.words.now c.rest_of-rest.result.now _ c.in-None-Some.word.now c.in-Some-of_name.verb c.in-Some.image c.obeyed_words.result c.obeyed_words.ensures.found c.in-Ok.ensures.found imaged none c.rest_of-rest.ensures at named;
      refused = words_refused_by g.S.AsStr.text c.args.words.now c.rest_of-rest.result.now _ c.in-None-Some.word.now c.in-Some-of_name.verb c.obeyed_words.result c.rest_of-rest.ensures at named c.in-Ok.ensures.found none c.obeyed_words.ensures.refused;
    }

pub returns-in-Err-clause-refused : goal.returns-in-Err-clause-refused
returns-in-Err-clause-refused g c =
    reason_of c.in_ok-tell-in-Err.field-0 (clap_refuses (program_app true) (map g.S.AsStr.text c.args.words.now) c.in-Err.error c.in_ok-tell-in-Err.field-0 c.in_ok-tell-in-Err.ensures c.in-Err.ensures.refused c.in-Err.ensures.kinds) words_refused

pub returns-in_default-clause-refused : goal.returns-in_default-clause-refused
returns-in_default-clause-refused g c =
    let none : text_of c.in-Ok.before (codes "image") ≡ None = search rules in
    λ other. no_image (record { ref_ptr = c.args.words.ref_ptr; now = c.in-Ok.before }) c.in-Ok.ensures.found none

pub returns-in-None-Some-clause-refused : goal.returns-in-None-Some-clause-refused
returns-in-None-Some-clause-refused g c =
    let before : Bor ArgMatches = record { ref_ptr = c.in-Some.image.ref_ptr; now = c.in-Ok.before } in
    let none : text_of c.in-Ok.before (codes "commands") ≡ None = search rules in
    let at : slice_get c.rest_of-rest.result.now 0 ≡ Some c.in-None-Some.word.now = search rules in
    let named : verb_named (g.S.AsStr.text c.in-None-Some.word.now) ≡ None = ap verb_named (sym c.as_str.ensures) ∙ sym c.in-None.ensures in
    λ other. words_without before c.in-Ok.ensures.found none (name_unknown g.S.AsStr.text c.args.words.now c.rest_of-rest.result.now before c.in-None-Some.word.now c.rest_of-rest.ensures at named)

pub returns-in-None-None-clause-refused : goal.returns-in-None-None-clause-refused
returns-in-None-None-clause-refused g c =
    let before : Bor ArgMatches = record { ref_ptr = c.in-Some.image.ref_ptr; now = c.in-Ok.before } in
    let none : text_of c.in-Ok.before (codes "commands") ≡ None = search rules in
    let at : slice_get c.rest_of-rest.result.now 0 ≡ None = search rules in
    λ other. words_without before c.in-Ok.ensures.found none (name_wanting g.S.AsStr.text c.args.words.now c.rest_of-rest.result.now before c.rest_of-rest.ensures at)

pub returns-clause-refused : goal.returns-clause-refused
returns-clause-refused g c =
    let before : Bor ArgMatches = record { ref_ptr = c.in-Some.image.ref_ptr; now = c.in-Ok.before } in
    let filed : is_some (text_of c.in-Ok.before (codes "commands")) ≡ true = search rules in
    let at : slice_get c.rest_of-rest.result.now 0 ≡ Some c.in-Some-Some.field-0-1.now = search rules in
    λ other. both_parts g.S.AsStr.text c.args.words.now c.rest_of-rest.result.now before c.in-Some-Some.field-0-1.now c.rest_of-rest.ensures at c.in-Ok.ensures.found filed
