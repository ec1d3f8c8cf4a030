-- Association numbers (IEEE Std 802.1AE, 9.6): there are four, and a frame has them in two bits.
use Rattle.std.specs.Prelude.{ℕ, ◌==◌, Bool, true, false, if◌then◌else◌, Option, Some, None}
use Rattle.lan_base.specs.declared.association_number.AssociationNumber.{AssociationNumber}
use Rattle.lan_base.specs.declared.association_number.AssociationNumber.TheVariants.{An0, An1, An2, An3}

-- as a number
abbrev pub number_of : AssociationNumber → ℕ
number_of An0 = 0
number_of An1 = 1
number_of An2 = 2
number_of An3 = 3

-- the one with this number, where there is one
abbrev pub numbered : ℕ → Option AssociationNumber
numbered n =
    if n == 0 then Some An0
    else if n == 1 then Some An1
    else if n == 2 then Some An2
    else if n == 3 then Some An3
    else None

-- of two bits, the one of greater value first
abbrev pub of_bits : Bool → Bool → AssociationNumber
of_bits false false = An0
of_bits false true = An1
of_bits true false = An2
of_bits true true = An3

-- whether two are the same
abbrev pub same_an : AssociationNumber → AssociationNumber → Bool
same_an a b = number_of a == number_of b

-- the next one in turn
abbrev pub behind : AssociationNumber → AssociationNumber
behind An0 = An1
behind An1 = An2
behind An2 = An3
behind An3 = An0
