-- What the changes of a station's keys do to its receive slots and to its counts.
use Rattle.std.specs.Prelude.{ℕ, ◌+◌, List, [], ◌∷◌, Option, Some, None}
use Rattle.lan_base.specs.declared.address.Sci.{Sci}
use Rattle.rx_slots.specs.Histories.{Receiving, installed, removed}
use Rattle.rx_slots.specs.Numbers.{accepted, lowest}
use Rattle.sak_exchange.specs.declared.change.Change.{Change}
use Rattle.sak_exchange.specs.declared.change.Change.TheVariants.{Dropped, Retired, Began, Installed, Untaken}
use Rattle.sak_exchange.specs.declared.held_key.HeldKey.{HeldKey}
use Rattle.lan_core.specs.Ledgers.{with_one}

-- what one change does to the slots
abbrev pub slot_of : Change → Option Receiving
slot_of (Dropped h) = Some (removed h.key.an)
slot_of (Retired h) = Some (removed h.key.an)
slot_of (Began h cause) = None
slot_of (Installed h) = Some (installed h.key.an h.key.sak)
slot_of (Untaken id why) = None

-- the history of the slots after changes, of which the first is the oldest
abbrev pub followed : List Change → List Receiving → List Receiving
followed [] h = h
followed (c ∷ later) h = followed later (with_one (slot_of c) h)

-- how many keys one change installs
abbrev pub one_installed : Change → ℕ
one_installed (Dropped k) = 0
one_installed (Retired k) = 0
one_installed (Began k cause) = 0
one_installed (Installed k) = 1
one_installed (Untaken id why) = 0

-- how many keys changes install
abbrev pub count_installed : List Change → ℕ
count_installed [] = 0
count_installed (c ∷ later) = count_installed later + one_installed c

-- the lowest acceptable packet number under a held key, 1 where there is none
abbrev pub lowest_held : Sci → ℕ → List Receiving → Option HeldKey → ℕ
lowest_held own window h None = 1
lowest_held own window h (Some k) = lowest window (accepted own window h) k.key.an
