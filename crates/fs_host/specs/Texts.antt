-- The printed form of a host name in messages.
use Rattle.std.specs.Prelude.{ℕ, ◌-◌, ◌^◌, ◌==◌, ◌&&◌, ◌||◌, nat_le, Bool, false, if◌then◌else◌, List, [], ◌∷◌, encode_utf8}
use Rattle.std.specs.Char.{is_control}
use Rattle.std.specs.Fmt.{digits, padded_integral, format_spec}
use Rattle.std.specs.List.{flat_map}
use Rattle.std.specs.Str.{chars}

-- what `{:02x}` writes for a number: its digits to the base 16, two at least
abbrev pub hex_digits : ℕ → List ℕ
hex_digits n = padded_integral (format_spec 32 0 4 2 (2 ^ 64 - 1)) false [] (digits 16 false n)

-- a control of Unicode's bidirectional algorithm: it reorders the text after it
abbrev pub reorders : ℕ → Bool
reorders c = (c == 1564) || (nat_le 8206 c && nat_le c 8207) || (nat_le 8234 c && nat_le c 8238) || (nat_le 8294 c && nat_le c 8297)

-- a letter in printed form: a control character, or one that reorders text, as "\x" and its number to the base 16, any other unchanged
abbrev pub shown_letter : ℕ → List ℕ
shown_letter c = if is_control c || reorders c then 92 ∷ 120 ∷ hex_digits c else encode_utf8 c

-- a text in printed form
abbrev pub shown_text : List ℕ → List ℕ
shown_text text = flat_map shown_letter (chars text)
