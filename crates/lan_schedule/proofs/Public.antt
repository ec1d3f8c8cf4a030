-- What other crates may cite of the proofs: that a replay does lines one after the other, and then
-- the end of a trace, and that where the first lines come to is on the way of all.
pub use Rattle.lan_schedule.proofs.OnWay.{way-begins, way-begun, way-front, way-start}
pub use Rattle.lan_schedule.proofs.Replaying.{does-none, does-more, does-early, one-does}
pub use Rattle.lan_schedule.proofs.Closing.{does-whole, does-whole-early}
