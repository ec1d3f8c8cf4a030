-- What other crates may cite.
pub use Rattle.aes_block.proofs.EachOctet.{at_octet, equal_at_octet}
pub use Rattle.aes_block.proofs.KeyBlocks.{aes-inverse, inv_aes}
pub use Rattle.aes_block.proofs.Lanes.{IsVector, looked, lower, sum, upper}
pub use Rattle.aes_block.proofs.Mixing.{xor_swap}
pub use Rattle.aes_block.proofs.Octets.{AreOctets, All-from_AreOctets, AreOctets-append, AreOctets-drop, AreOctets-from_All, AreOctets-octets_sum, AreOctets-take}
pub use Rattle.aes_block.proofs.OtherBasis.{AreOctets-from_Fits}
pub use Rattle.aes_block.proofs.Secrets.{same_secret-is, same_secret-itself}
pub use Rattle.aes_block.proofs.Steps.{AreInverse, octets_sum-twice, same_source, written_out}
