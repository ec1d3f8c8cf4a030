-- Confidentiality offsets (IEEE Std 802.1X, clause 11): there are four, and a frame has them in two
-- bits.
use Rattle.std.specs.Prelude.{ℕ, Bool, true, false}
use Rattle.mkpdu_codec.specs.declared.offset.ConfidentialityOffset.{ConfidentialityOffset}
use Rattle.mkpdu_codec.specs.declared.offset.ConfidentialityOffset.TheVariants as offsets

-- the two bits as a number
abbrev pub offset_bits : ConfidentialityOffset → ℕ
offset_bits offsets.None = 0
offset_bits offsets.Octets0 = 1
offset_bits offsets.Octets30 = 2
offset_bits offsets.Octets50 = 3

-- of two bits, the one of greater value first
abbrev pub offset_of_bits : Bool → Bool → ConfidentialityOffset
offset_of_bits false false = offsets.None
offset_of_bits false true = offsets.Octets0
offset_of_bits true false = offsets.Octets30
offset_of_bits true true = offsets.Octets50
