-- Next packet numbers that no event leaves out stay within those of a key.
use Rattle.std.proofs.Common.{◌≡◌, ◌≤◌, ◌+◌, List, [], ◌∷◌, Some, arith}
use Rattle.lan_base.specs.declared.frame.UserFrame.{UserFrame}
use Rattle.lan_core.specs.declared.event.Event.{Event}
use Rattle.lan_core.specs.declared.event.Event.TheVariants as events
use Rattle.lan_core.specs.declared.fact.Fact.{Fact}
use Rattle.lan_core.specs.declared.settings.Settings.{Settings}
use Rattle.lan_core.specs.Run.{Run, happened}
use Rattle.lan_core.specs.Expected.{expected, Drawn, last_number}
use Rattle.lan_core.specs.Unstopped.{LeavesNoneOut}
use Rattle.next_numbers.specs.Bounds.{AreBounded as AreBoundedBy}
use Rattle.next_numbers.proofs.Public.{bounded-first as first-bounded, plain-bounded, claim-stays}

-- each next number is a packet number of its key, or lies behind the last one
abbrev pub AreBounded : Settings → Run → Type 0
AreBounded settings r = AreBoundedBy settings r (last_number + 1)

pub bounded-first : (settings : Settings) → AreBounded settings []
bounded-first settings = λ s epoch.
    let first = first-bounded settings s epoch in omega (arith, first)

-- a claim takes a packet number; any other event may come
abbrev pub TakesOne : Event → Type 0
TakesOne (events.Claim s user pn) = pn ≤ last_number
TakesOne _ = Unit {0}

pub stays-bounded : (settings : Settings) (users : List UserFrame) (r : Run) (event : Event)
    (drawn : Drawn) (shown : List Fact) → AreBounded settings r
    → LeavesNoneOut settings r event → TakesOne event
    → expected settings users r event drawn ≡ Some shown
    → AreBounded settings (happened event shown ∷ r)
stays-bounded settings users r (events.Claim s user pn) drawn shown few none one is =
    claim-stays settings users r s user pn drawn shown last_number few one is
stays-bounded settings users r (events.Tick s next) drawn shown few none one is =
    plain-bounded settings users r (events.Tick s next) drawn shown (last_number + 1) few none is
stays-bounded settings users r (events.Start name sci priority) drawn shown few none one is =
    plain-bounded settings users r (events.Start name sci priority) drawn shown (last_number + 1)
    few tt is
stays-bounded settings users r (events.Deliver frame s) drawn shown few none one is =
    plain-bounded settings users r (events.Deliver frame s) drawn shown (last_number + 1) few tt is
stays-bounded settings users r (events.Restart s) drawn shown few none one is =
    plain-bounded settings users r (events.Restart s) drawn shown (last_number + 1) few tt is
stays-bounded settings users r events.Emit drawn shown few none one is =
    plain-bounded settings users r events.Emit drawn shown (last_number + 1) few tt is
stays-bounded settings users r (events.Inject s octets) drawn shown few none one is =
    plain-bounded settings users r (events.Inject s octets) drawn shown (last_number + 1) few tt is
