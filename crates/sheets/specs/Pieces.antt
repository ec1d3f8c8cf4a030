-- A text in SVG, piece by piece (XML 1.0, 2.4: what is escaped).
use Rattle.std.specs.Prelude.{ℕ, ◌==◌, ◌/◌, ◌%◌, if◌then◌else◌, List, [], ◌∷◌, ◌++◌, codes, decimal}
use Rattle.std.specs.List.{flat_map}
use Rattle.hex.specs.Hex.{encode_lower}
use Rattle.sheets.specs.declared.pieces.Piece.{Piece}
use Rattle.sheets.specs.declared.pieces.Piece.TheVariants.{Text, Escaped, Number, Tenths, Hex}

-- an octet of a name: `&`, `<`, `>`, `"` and `'` have names
abbrev pub escaped_one : ℕ → List ℕ
escaped_one octet =
    if octet == 38 then codes "&amp;"
    else if octet == 60 then codes "&lt;"
    else if octet == 62 then codes "&gt;"
    else if octet == 34 then codes "&quot;"
    else if octet == 39 then codes "&apos;"
    else octet ∷ []

abbrev pub escaped : List ℕ → List ℕ
escaped name = flat_map escaped_one name

-- tenths: the whole part, a point, and one digit
abbrev pub piece_text : Piece → List ℕ
piece_text (Text letters) = letters.now
piece_text (Escaped name) = escaped name.now
piece_text (Number n) = decimal n
piece_text (Tenths n) = decimal (n / 10) ++ 46 ∷ decimal (n % 10)
piece_text (Hex octets) = encode_lower octets.now

abbrev pub pieces_text : List Piece → List ℕ
pieces_text pieces = flat_map piece_text pieces
