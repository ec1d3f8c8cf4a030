-- What other crates may cite of the proofs: putting piece by piece, and what tells an association
-- number.
pub use Rattle.lan_base.proofs.Rooms.{room_in_front, room_behind, put_then, pieces}
pub use Rattle.lan_base.proofs.Numbering.{number_of-few, numbered-number_of}
pub use Rattle.lan_base.specs.Listed.{list_from-ends}
