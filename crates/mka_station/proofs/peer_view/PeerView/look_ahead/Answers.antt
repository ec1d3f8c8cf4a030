use Rattle.std.proofs.Common.{◌∙◌, sym}
use Rattle.mka_station.proofs.peer_view.PeerView.look_ahead.Goals as goal

pub returns-then-is_ahead : goal.returns-then-is_ahead
returns-then-is_ahead c = c.requires.found (sym c.is_ahead.ensures ∙ c.if-is_ahead.true)
