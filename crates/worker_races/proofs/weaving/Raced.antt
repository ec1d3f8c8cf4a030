-- The laws of a race that speak of its whole.
use Rattle.std.proofs.Common.{◌≤◌, ℕ, List, []}
use Rattle.lan_base.specs.declared.association_number.AssociationNumber.{AssociationNumber}
use Rattle.lan_base.specs.declared.frame.UserFrame.{UserFrame}
use Rattle.lan_core.specs.declared.settings.Settings.{Settings}
use Rattle.lan_core.specs.Run.{Run}
use Rattle.lan_core.specs.Legal.{IsThrifty, unused}
use Rattle.worker_races.specs.merge.Places.{Move, Attempt}
use Rattle.worker_races.specs.merge.Merged.{merged, entries_of}
use Rattle.worker_races.specs.merge.Raced.{IsRaced, before_of, woven}
use Rattle.worker_races.proofs.weaving.Woven.{woven_control}
use Rattle.worker_races.proofs.weaving.Legal as places
use Rattle.worker_races.proofs.weaving.Stepped.{agrees-nil}
use Rattle.worker_races.proofs.weaving.Controlled.{control-of, each-entry, all-good}
use Rattle.worker_races.proofs.weaving.Thrift.{woven-thrifty}

module _ (settings : Settings) (users : List UserFrame) (base : ℕ) (ans : ℕ → ℕ → AssociationNumber) (pointed : ℕ → ℕ) (r : Run)
    (ms : List Move) (logs : List (List Attempt)) (race : IsRaced settings users base ans pointed r ms logs) where
  pub race-thrifty : IsThrifty settings r
      → ((s e : ℕ) → unused settings s e (woven settings base (merged ms (entries_of logs)) r) ≤ 16)
      → IsThrifty settings (woven settings base (merged ms (entries_of logs)) r)
  race-thrifty thrifty end =
      let R = before_of settings pointed r in
      let control = control-of settings users base ans pointed r ms logs race in
      let es = entries_of logs in
      woven-thrifty settings users base ans pointed r (merged ms es) [] r r 0 ms (woven_control R ms control es)
      race.moves (agrees-nil settings r) (all-good settings users base ans pointed r ms logs race)
      (places.legal R ms control es (each-entry settings users base ans pointed r _ logs race.fit) race.differ) end thrifty
