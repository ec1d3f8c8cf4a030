-- What a station does when it starts again: a new life, with nothing of the one before (this
-- profile's own rule).
use Rattle.std.specs.Prelude.{List, map, Option, Some, None}
use Rattle.lan_base.specs.declared.address.Mi.{Mi}
use Rattle.sak_exchange.specs.declared.change.Change.TheVariants.{Dropped}
use Rattle.sak_exchange.specs.Held.{received, held}
use Rattle.mka_station.specs.declared.reaction.Reaction.{Reaction}
use Rattle.mka_station.specs.Lives.{Member, Entry}
use Rattle.mka_station.specs.Views.{view}

-- a server that was elected is elected no more
abbrev pub lost_server : Option Mi → Option (Option Mi)
lost_server None = None
lost_server (Some server) = Some None

-- what the end of a life shows: its server is lost, and each key is dropped
unfoldable pub ending : Member → List Entry → Reaction
ending m p =
    let v = view m p in
    record {
      heard = None;
      server = lost_server v.server;
      changes = map (λ k. Dropped (held v.keys k)) (received v.keys);
      sent = None;
    }
