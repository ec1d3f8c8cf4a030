use Rattle.mka_station.proofs.Drops.{dropped-view}
use Rattle.mka_station.proofs.laws.law_dropped_changes_no_view.Goals as goal

pub returns : goal.returns
returns c = dropped-view
