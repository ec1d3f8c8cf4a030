-- How epochs count: over all the lives of a station, from 1 on, one for each of its installs.
use Rattle.std.specs.Prelude.{◌≡◌, ℕ, ◌+◌, ◌==◌, List, [], ◌∷◌, length, Some}
use Rattle.std.specs.List.{filter}
use Rattle.sak_exchange.specs.Histories.{install_count}
use Rattle.lan_core.specs.declared.settings.Settings.{Settings}
use Rattle.lan_core.specs.Run.{Run}
use Rattle.lan_core.specs.Ledgers.{Install, installs_at}
use Rattle.lan_core.specs.Lives.{Life, life, keys_in}

-- each install's epoch is one more than the count of the older installs of its station
abbrev pub AreCounted : List Install → Type 0
AreCounted [] = Unit {0}
AreCounted (i ∷ older) =
    (i.epoch ≡ length (filter (λ j. j.station == i.station) older) + 1) × AreCounted older

-- the installs of a station are those of its earlier lives and those of the life that it is in
abbrev pub LivesCount : Settings → Run → Type 0
LivesCount settings r =
    (s : ℕ) (l : Life) → life settings s r ≡ Some l
    → l.member.base + install_count (keys_in l) ≡ length (installs_at s r)
