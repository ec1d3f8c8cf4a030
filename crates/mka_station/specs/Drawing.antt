-- Which draws a key takes (this profile's own rule): as many as its cipher suite asks for, in their
-- order.
use Rattle.std.specs.Prelude.{ℕ, Bool, ◌&&◌, if◌then◌else◌, List, [], ◌∷◌, ◌++◌, Option, is_none}
use Rattle.std.specs.Prelude.{option_map, option_and_then, unwrap_or}
use Rattle.lan_base.specs.declared.suite.Suite.{Suite}
use Rattle.lan_base.specs.declared.suite.Suite.TheVariants.{GcmAes128, GcmAes256}
use Rattle.lan_base.specs.Suites.{sak_draws}
use Rattle.aes_block.specs.declared.secret.Secret.{Secret}
use Rattle.aes_block.specs.declared.secret.Secret.TheVariants.{S128, S256}
use Rattle.sak_exchange.specs.declared.due.Seen.{Seen}
use Rattle.mka_station.specs.Lives.{Member, Entry, ticked}
use Rattle.mka_station.specs.Views.{view}
use Rattle.mka_station.specs.Tick.{makes_now}

-- the secure association key that the draws of a supply give, by their place from 0, if it has
-- enough
abbrev pub next_sak : Suite → (ℕ → Option (List ℕ)) → Option Secret
next_sak GcmAes128 nth = option_map S128 (nth 0)
next_sak GcmAes256 nth =
    option_and_then (λ first. option_map (λ second. S256 (first ++ second)) (nth 1)) (nth 0)

-- the secure association key that the draws of a supply give, and any key where it has too few
abbrev pub sak_of : Suite → (ℕ → Option (List ℕ)) → Secret
sak_of suite nth = unwrap_or (next_sak suite nth) (S128 [])

-- whether the next tick makes a key
abbrev pub makes_next : Member → List Entry → Seen → Bool
makes_next m p seen = makes_now m (view m (ticked ∷ p)) seen

-- how many draws the next tick takes
abbrev pub draws_at : Member → List Entry → Seen → ℕ
draws_at m p seen = if makes_next m p seen then sak_draws m.setup.suite else 0

-- whether the next tick makes a key, for which the supply has too few draws left
abbrev pub is_short : Member → List Entry → Seen → (ℕ → Option (List ℕ)) → Bool
is_short m p seen nth = makes_next m p seen && is_none (next_sak m.setup.suite nth)
