-- An association number is told by its number, and there are four.
use Rattle.std.specs.Prelude.{◌≡◌, ◌<◌, Some}
use Rattle.std.proofs.Common.{arith, refl}
use Rattle.lan_base.specs.declared.association_number.AssociationNumber.{AssociationNumber}
use Rattle.lan_base.specs.declared.association_number.AssociationNumber.TheVariants.{An0, An1, An2, An3}
use Rattle.lan_base.specs.AssociationNumbers.{number_of, numbered}

pub number_of-few : (a : AssociationNumber) → number_of a < 4
number_of-few An0 = omega arith
number_of-few An1 = omega arith
number_of-few An2 = omega arith
number_of-few An3 = omega arith

pub numbered-number_of : (a : AssociationNumber) → numbered (number_of a) ≡ Some a
numbered-number_of An0 = refl
numbered-number_of An1 = refl
numbered-number_of An2 = refl
numbered-number_of An3 = refl
