-- The fields of a name follow from its octets.
use Rattle.std.specs.Prelude.{◌≡◌, ℕ, List, length, take}
use Rattle.std.proofs.Common.{sym}
use Rattle.std.proofs.lemmas.List.{length-take-le}
use Rattle.lan_base.specs.Name.{IsPadded, padded}
use Rattle.lan_base.specs.declared.name.Name.TheInside.{Inside}

-- the fields that hold a name
abbrev pub fields_of : List ℕ → Inside
fields_of name = record { octets = padded name; len = length name }

pub fields_of-take : (n : Inside) → IsPadded n.octets n.len → fields_of (take n.len n.octets) ≡ n
fields_of-take n p =
    let count : length (take n.len n.octets) ≡ n.len = length-take-le n.len n.octets p.within in
    let octets : padded (take n.len n.octets) ≡ n.octets = sym p.zeros in
    rw (octets, count)
