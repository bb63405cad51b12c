use Rattle.std.proofs.Common.{◌≡◌, ◌∙◌, rules, sym, ap, append_assoc, inl, inr, ℕ, List, [], ◌∷◌}
use Rattle.std.specs.Str.{chars}
use Rattle.std.specs.String.{string_bytes}
use Rattle.std.proofs.lemmas.Iterator.{YieldsList-from_chars}
use Rattle.std.proofs.lemmas.Iterator.Consumers.{YieldsList-end}
use Rattle.std.proofs.lemmas.List.{map-id}
use Rattle.fs_words.specs.declared.line.Stand.TheVariants.{Between}
use Rattle.fs_words.specs.Lines.{words_from}
use Rattle.fs_words.proofs.LineEnds.{begun, ended_between, ended_remark, ended_within, ended_quoted}
use Rattle.fs_words.proofs.line.line_words.Goals as goal

pub loop-letter-init : goal.loop-letter-init
loop-letter-init c = λ rest. begun (λ s. string_bytes s) rest c.new-words.result.items (string_bytes c.new-word.result) (search rules) (search rules)

pub loop-letter-preserved : goal.loop-letter-preserved
loop-letter-preserved c = λ rest.
    ap (λ (xs : List ℕ). words_from Between [] xs) (append_assoc c.loop-letter.yielded (c.in-Some.letter ∷ []) rest) ∙ (c.loop-letter.invariant (c.in-Some.letter ∷ rest) ∙ c.in_ok-stand.ensures rest)

pub returns-in-Between-clause-words : goal.returns-in-Between-clause-words
returns-in-Between-clause-words c =
    let t = YieldsList-end (YieldsList-from_chars c.args.line.now c.utf8.line cc) c.loop-letter.yielded _ c.loop-letter.yielded_by _ _ c.in-None.is c.next.ensures.steps in
    let whole : c.loop-letter.yielded ≡ chars c.args.line.now = sym (map-id c.loop-letter.yielded) ∙ t.0 in
    elim c.in-Between.is [
      | inl e ↦ ended_between (λ s. string_bytes s) c.args.line.now c.loop-letter.yielded c.loop-letter.words.items c.loop-letter.stand (string_bytes c.loop-letter.word) whole c.loop-letter.invariant e
      | inr e ↦ ended_remark (λ s. string_bytes s) c.args.line.now c.loop-letter.yielded c.loop-letter.words.items c.loop-letter.stand (string_bytes c.loop-letter.word) whole c.loop-letter.invariant e
    ]

pub returns-in_ok-add-in-Within-clause-words : goal.returns-in_ok-add-in-Within-clause-words
returns-in_ok-add-in-Within-clause-words c =
    let t = YieldsList-end (YieldsList-from_chars c.args.line.now c.utf8.line cc) c.loop-letter.yielded _ c.loop-letter.yielded_by _ _ c.in-None.is c.next.ensures.steps in
    let whole : c.loop-letter.yielded ≡ chars c.args.line.now = sym (map-id c.loop-letter.yielded) ∙ t.0 in
    ended_within (λ s. string_bytes s) c.args.line.now c.loop-letter.yielded c.loop-letter.words.items c.add.new.words.items c.loop-letter.word c.loop-letter.stand (string_bytes c.loop-letter.word) whole c.loop-letter.invariant c.in-Within.is (search rules) (search rules)

pub returns-in-Quoted-clause-open : goal.returns-in-Quoted-clause-open
returns-in-Quoted-clause-open c =
    let t = YieldsList-end (YieldsList-from_chars c.args.line.now c.utf8.line cc) c.loop-letter.yielded _ c.loop-letter.yielded_by _ _ c.in-None.is c.next.ensures.steps in
    let whole : c.loop-letter.yielded ≡ chars c.args.line.now = sym (map-id c.loop-letter.yielded) ∙ t.0 in
    λ _. ended_quoted (λ s. string_bytes s) c.args.line.now c.loop-letter.yielded c.loop-letter.words.items c.loop-letter.stand (string_bytes c.loop-letter.word) c.in-Quoted.field-0 whole c.loop-letter.invariant c.in-Quoted.is
