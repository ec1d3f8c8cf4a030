-- Values of the definitions.
use Rattle.std.proofs.Common.{◌≡◌, [], ◌∷◌, refl}
use Rattle.std.specs.Prelude.{codes}
use Rattle.std.specs.Fmt.{digits}
use Rattle.sheets.specs.declared.pieces.Piece.TheVariants.{Number, Tenths}
use Rattle.sheets.specs.Pieces.{escaped, piece_text, pieces_text}

-- what means something in XML is escaped, and the rest stands as it is
names : escaped (codes "<a&b>") ≡ codes "&lt;a&amp;b&gt;"
names = refl

quotes : escaped (codes "\"c'") ≡ codes "&quot;c&apos;"
quotes = refl

-- tenths have one digit behind the point
tenths : piece_text (Tenths 1205) ≡ codes "120.5"
unfolding digits
tenths = refl

few : piece_text (Tenths 7) ≡ codes "0.7"
unfolding digits
few = refl

-- pieces stand one behind the other
both : pieces_text (Number 42 ∷ Tenths 420 ∷ []) ≡ codes "4242.0"
unfolding digits
both = refl
