use Rattle.std.proofs.Common.{◌≡◌, ◌<◌, ◌∙◌, Ok}
use Rattle.std.proofs.lemmas.List.Elements.{All-take, All-drop}
use Rattle.ods_base.specs.Name.{rad50_codes}
use Rattle.ods_base.proofs.NameParsing.{name_codes, name_part, ext_part, spelled_falls, AreWords, words_spell, same_name}
use Rattle.ods_base.proofs.parse.parse_name.Goals as goal

pub returns-in_err-name-clause-only : goal.returns-in_err-name-clause-only
returns-in_err-name-clause-only c = λ n pick s. absurd (c.in_err-name.ensures.only _ _ _ (spelled_falls c.args.text.now n pick s))

pub returns-in_err-name-2-clause-only : goal.returns-in_err-name-2-clause-only
returns-in_err-name-2-clause-only c = λ n pick s.
    let parts = c.in_ok-name.ensures.only _ _ _ (spelled_falls c.args.text.now n pick s) in
    absurd (cc (c.in_err-name-2.ensures.only (name_codes n) (rw parts.0 (name_part n s.name))))

pub returns-in_err-ext-clause-only : goal.returns-in_err-ext-clause-only
returns-in_err-ext-clause-only c = λ n pick s.
    let parts = c.in_ok-name.ensures.only _ _ _ (spelled_falls c.args.text.now n pick s) in
    absurd (cc (c.in_err-ext.ensures.only (rad50_codes n.ext) (rw parts.1 (ext_part n s.name))))

pub word_of-requires-clause-each : goal.word_of-requires-clause-each
word_of-requires-clause-each c = All-take (λ x. x < 40) 3 c.in_ok-name-2.name c.in_ok-name-2.ensures.ok.each

pub word_of-requires-2-clause-each : goal.word_of-requires-2-clause-each
word_of-requires-2-clause-each c = All-take (λ x. x < 40) 3 _ (All-drop (λ x. x < 40) 3 c.in_ok-name-2.name c.in_ok-name-2.ensures.ok.each)

pub word_of-requires-3-clause-each : goal.word_of-requires-3-clause-each
word_of-requires-3-clause-each c = All-take (λ x. x < 40) 3 _ (All-drop (λ x. x < 40) 6 c.in_ok-name-2.name c.in_ok-name-2.ensures.ok.each)

pub returns-in_err-pick-clause-only : goal.returns-in_err-pick-clause-only
returns-in_err-pick-clause-only c = λ n pick s.
    let parts = c.in_ok-name.ensures.only _ _ _ (spelled_falls c.args.text.now n pick s) in
    absurd (cc (c.in_err-pick.ensures.only pick (rw parts.2 s.version)))

-- the words of the codes that were read
are_words : (c : goal.After-new) → AreWords c.in_ok-name-2.name c.in_ok-ext.ext c.word_of.result c.word_of-2.result c.word_of-3.result c.word_of-4.result
are_words c = record {
  small = (c.word_of.ensures.word, c.word_of-2.ensures.word, c.word_of-3.ensures.word, c.word_of-4.ensures.word);
  first = c.word_of.ensures.spells;
  second = c.word_of-2.ensures.spells;
  third = c.word_of-3.ensures.spells;
  type_word = c.word_of-4.ensures.spells;
}

pub returns-clause-ok : goal.returns-clause-ok
returns-clause-ok c =
    rw (c.new.ensures) (words_spell c.args.text.now _ _ _ c.in_ok-name-2.name c.in_ok-ext.ext _ _ _ _ c.in_ok-pick.pick c.in_ok-name.ensures.ok c.in_ok-name-2.ensures.ok c.in_ok-ext.ensures.ok (are_words c) c.in_ok-pick.ensures.ok)

pub returns-clause-only : goal.returns-clause-only
returns-clause-only c = λ n pick s.
    let parts = c.in_ok-name.ensures.only _ _ _ (spelled_falls c.args.text.now n pick s) in
    let name : c.in_ok-name-2.name ≡ name_codes n = cc (c.in_ok-name-2.ensures.only (name_codes n) (rw parts.0 (name_part n s.name))) in
    let ext : c.in_ok-ext.ext ≡ rad50_codes n.ext = cc (c.in_ok-ext.ensures.only (rad50_codes n.ext) (rw parts.1 (ext_part n s.name))) in
    let version : c.in_ok-pick.pick ≡ pick = cc (c.in_ok-pick.ensures.only pick (rw parts.2 s.version)) in
    let same : c.new.result ≡ n = c.new.ensures ∙ same_name n c.in_ok-name-2.name c.in_ok-ext.ext _ _ _ _ s.name (are_words c) name ext in
    λ i. Ok (same i, version i)
