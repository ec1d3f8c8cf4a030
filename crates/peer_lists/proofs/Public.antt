-- What other crates may cite of the proofs.
pub use Rattle.peer_lists.proofs.AtMost.{known-at-most}
pub use Rattle.peer_lists.proofs.EveryHistory.{says-other}
pub use Rattle.peer_lists.proofs.Finds.{find-any, find-here, find-is_some, find-on, find-passes}
pub use Rattle.peer_lists.proofs.Identifiers.{by_test, same_mi-equal, same_mi-itself}
pub use Rattle.peer_lists.proofs.Pasts.{accepted-dropped, accepted-new, accepted-sent, accepted-ticked, by_option, entered}
pub use Rattle.peer_lists.proofs.Refusals.{has-known, known-is, remembered-is}
pub use Rattle.peer_lists.proofs.Shown.{hopes-is, says-is}
pub use Rattle.peer_lists.proofs.Stands.{later-stands}
