-- What an argument says. Assumes nothing.
use Rattle.std.specs.Prelude.{ℕ, ◌<◌, List}
use Rattle.std.specs.Str.Parse.{IsNumeral, digits_value, without_leading_plus}

-- the number that decimal digits write, with or without a plus sign in front
abbrev pub house_of : List ℕ → ℕ
house_of text = digits_value 10 (without_leading_plus text)

-- the text names a house: it is a decimal number from 0 to 1,023
abbrev pub HouseText : List ℕ → Type 0
HouseText text = IsNumeral 10 (without_leading_plus text) × (house_of text < 1024)
