-- What `audit` reads where its words name files: a key text, whose last line is ended, the line that ends it,
-- and the capture (this profile's own rule).
use Rattle.std.specs.Prelude.{ℕ, ◌==◌, Bool, false, if◌then◌else◌, List, [], ◌∷◌, ◌++◌, codes, Option}
use Rattle.std.specs.Prelude.{option_and_then}
use Rattle.lan_base.specs.Told.{before}

-- whether octets end with a line feed, where those before them do, or not
abbrev pub ends_line : Bool → List ℕ → Bool
ends_line ends [] = ends
ends_line ends (octet ∷ octets) = ends_line (octet == 10) octets

-- what stands between a key text and the capture: a line feed where octets end without one, and the line
-- behind which a capture begins
abbrev pub seam : Bool → List ℕ
seam ends = (if ends then [] else 10 ∷ []) ++ codes "capture" ++ 10 ∷ []

-- the octets of a key text up to the capture
abbrev pub up_to_capture : List ℕ → List ℕ
up_to_capture keys = keys ++ seam (ends_line false keys)

-- what is read of the two, where both tell
abbrev pub joined : Option (List ℕ) → Option (List ℕ) → Option (List ℕ)
joined keys capture = option_and_then (λ octets. before (up_to_capture octets) capture) keys
