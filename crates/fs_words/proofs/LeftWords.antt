-- The words from the name of a command on.
use Rattle.std.proofs.Common.{◌≡◌, ◌∙◌, ◌-◌, ℕ, List, [], ◌∷◌, map, drop, length, Option, Some, None, slice_get, option_map, is_some, true, false, codes, inl, inr, ap, sym, refl}
use Rattle.std.specs.Prelude.{IfOk, Result, Ok, Err}
use Rattle.std.specs.Borrow.{Bor}
use Rattle.std.proofs.lemmas.List.{drop-map, length-map}
use Rattle.clap.specs.declared.parser.matches.ArgMatches.{ArgMatches}
use Rattle.fs_words.specs.declared.verbs.Verb.{Verb}
use Rattle.fs_words.specs.declared.words.Words.{Words}
use Rattle.ods_words.specs.declared.fault.WordsFault.{WordsFault}
use Rattle.fs_words.specs.Asked.{text_of}
use Rattle.fs_words.specs.Found.{AreOfCommand, AreOfFile}
use Rattle.fs_words.specs.Names.{verb_named}
use Rattle.fs_words.specs.Parts.{AreWordsOf, IsLineOf, IsOfName, words_left}
use Rattle.fs_words.specs.Parses.{IsParseOf}
use Rattle.fs_words.specs.Rules.{program_app}
use Rattle.fs_words.specs.Saying.{rest_among}

-- an option that is not there has no text
pub unsaid : {X : Type 0} (g : X → List ℕ) (r : Option X) (text : Option (List ℕ)) → option_map g r ≡ text → is_some r ≡ false → text ≡ None
unsaid g None text e none = sym e
unsaid g (Some x) text e none = cc

module _ {A : Type 0} (f : A → List ℕ) where
  -- the texts of the last words are the last of the texts
  pub last_texts : (words : List A) (n : ℕ) → drop (length (map f words) - n) (map f words) ≡ map f (drop (length words - n) words)
  last_texts words n = rw (length-map words f) (drop-map f (length words - n) words)

  pub first_text : (words : List A) (first : A) → slice_get words 0 ≡ Some first → map f words ≡ f first ∷ map f (drop 1 words)
  first_text [] first e = cc
  first_text (word ∷ words) first e = let same : word ≡ first = cc in ap (λ (w : A). f w ∷ map f words) same

  pub no_text : (words : List A) → slice_get words 0 ≡ None → map f words ≡ []
  no_text [] e = refl
  no_text (word ∷ words) e = cc

  -- the words that are left, by those that are cut off
  pub left_first : (words left : List A) (before : ArgMatches) (name : A) → left ≡ drop (length words - length (rest_among before)) words → slice_get left 0 ≡ Some name
      → words_left (map f words) before ≡ f name ∷ map f (drop 1 left)
  left_first words left before name is at = last_texts words (length (rest_among before)) ∙ (ap (map f) (sym is) ∙ first_text left name at)

  pub left_none : (words left : List A) (before : ArgMatches) → left ≡ drop (length words - length (rest_among before)) words → slice_get left 0 ≡ None → words_left (map f words) before ≡ []
  left_none words left before is at = last_texts words (length (rest_among before)) ∙ (ap (map f) (sym is) ∙ no_text left at)

  -- the first of them names the command
  pub of_name : (words left : List A) (before : Bor ArgMatches) (name : A) (v : Verb) (image : Bor (List ℕ)) (own : Words)
      → left ≡ drop (length words - length (rest_among before.now)) words → slice_get left 0 ≡ Some name → verb_named (f name) ≡ Some v
      → AreOfCommand image v (map f (drop 1 left)) (Some before) own → IsOfName image (map f words) before own
  of_name words left before name v image own is at named asked = (f name, map f (drop 1 left), v, left_first words left before.now name is at, named, asked)

  -- a line that asks for something
  pub line_asks : (words left : List A) (before : Bor ArgMatches) (name : A) (v : Verb) (image : Bor (List ℕ)) (own : Words)
      → AreOfCommand image v (map f (drop 1 left)) (Some before) own → IsParseOf (program_app false) (map f words) before.now → text_of before.now (codes "commands") ≡ None
      → left ≡ drop (length words - length (rest_among before.now)) words → slice_get left 0 ≡ Some name → verb_named (f name) ≡ Some v
      → IsLineOf image (map f words) (Some own)
  line_asks words left before name v image own asked parse none is at named = (before, parse, none, of_name words left before name v image own is at named asked)

  -- a command line with a command
  pub name_asks : (words left : List A) (before : Bor ArgMatches) (name : A) (v : Verb) (image : Bor (List ℕ)) (r : Result Words WordsFault)
      → IfOk r (AreOfCommand image v (map f (drop 1 left)) (Some before)) → IsParseOf (program_app true) (map f words) before.now
      → text_of before.now (codes "image") ≡ Some image.now → text_of before.now (codes "commands") ≡ None
      → left ≡ drop (length words - length (rest_among before.now)) words → slice_get left 0 ≡ Some name → verb_named (f name) ≡ Some v
      → IfOk r (AreWordsOf (map f words))
  name_asks words left before name v image (Ok own) asked parse imaged none is at named = (image, before, parse, imaged, inl (none, of_name words left before name v image own is at named asked))
  name_asks words left before name v image (Err e) asked parse imaged none is at named = tt

  -- a command line with a file of commands
  pub file_asks : (words left : List A) (before : Bor ArgMatches) (image file : Bor (List ℕ)) (r : Result Words WordsFault)
      → IfOk r (AreOfFile image file before) → IsParseOf (program_app true) (map f words) before.now
      → text_of before.now (codes "image") ≡ Some image.now → text_of before.now (codes "commands") ≡ Some file.now
      → left ≡ drop (length words - length (rest_among before.now)) words → slice_get left 0 ≡ None
      → IfOk r (AreWordsOf (map f words))
  file_asks words left before image file (Ok own) asked parse imaged filed is at = (image, before, parse, imaged, inr (file, filed, left_none words left before.now is at, asked))
  file_asks words left before image file (Err e) asked parse imaged filed is at = tt
