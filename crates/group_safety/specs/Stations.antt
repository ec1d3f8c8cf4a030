-- A station after a run (IEEE Std 802.1X, clause 9): the member identifier of its life, the keys it
-- holds, the server it elects.
use Rattle.std.specs.Prelude.{ℕ, List, [], Option, Some, None, option_map, option_and_then}
use Rattle.lan_base.specs.declared.address.Mi.{Mi}
use Rattle.sak_exchange.specs.Histories.{Keying}
use Rattle.mka_station.specs.Lives.{elected}
use Rattle.lan_core.specs.declared.settings.Settings.{Settings}
use Rattle.lan_core.specs.Run.{Run}
use Rattle.lan_core.specs.Lives.{Life, life, keys_in}

-- the member identifier of a life
abbrev pub mi_of : Option Life → Option Mi
mi_of l = option_map (λ l. l.member.mi) l

unfoldable pub mi_at : Settings → ℕ → Run → Option Mi
mi_at settings s r = mi_of (life settings s r)

-- the history of a life's keys, none without a life
abbrev pub keys_of_life : Option Life → List Keying
keys_of_life None = []
keys_of_life (Some l) = keys_in l

unfoldable pub keys_at : Settings → ℕ → Run → List Keying
keys_at settings s r = keys_of_life (life settings s r)

-- the elected server of a life
abbrev pub server_of : Option Life → Option Mi
server_of l = option_and_then (λ l. elected l.member l.past) l

unfoldable pub server_at : Settings → ℕ → Run → Option Mi
server_at settings s r = server_of (life settings s r)
