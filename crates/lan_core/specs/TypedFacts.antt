-- Facts: the place of the station that one speaks of; and with their fields in their types, numbers
-- in their ranges, octets of their lengths.
use Rattle.std.specs.Prelude.{ℕ, ◌<◌, ◌^◌}
use Rattle.lan_base.specs.declared.key_id.KeyId.{KeyId}
use Rattle.mkpdu_codec.specs.declared.refusal.Refusal.{Refusal}
use Rattle.mkpdu_codec.specs.declared.refusal.Refusal.TheVariants.{Shape, Repeated}
use Rattle.peer_lists.specs.declared.heard.PeerRefusal.{PeerRefusal}
use Rattle.peer_lists.specs.declared.heard.PeerRefusal.TheVariants.{OldNumber}
use Rattle.sak_exchange.specs.declared.change.Why.{Why}
use Rattle.sak_exchange.specs.declared.change.Why.TheVariants.{Seen}
use Rattle.rx_slots.specs.declared.arrival.Arrival.{Arrival}
use Rattle.rx_slots.specs.declared.arrival.Arrival.TheVariants.{Accepted, Late}
use Rattle.mka_station.specs.declared.verdict.DropReason.{DropReason}
use Rattle.mka_station.specs.declared.verdict.DropReason.TheVariants.{Unspelled, Refused}
use Rattle.mka_station.specs.declared.verdict.Verdict.{Verdict}
use Rattle.mka_station.specs.declared.verdict.Verdict.TheVariants as verdicts
use Rattle.lan_core.specs.declared.fact.Fact.{Fact}
use Rattle.lan_core.specs.declared.fact.Fact.TheVariants as facts
use Rattle.lan_core.specs.declared.fact.Lack.{Lack}
use Rattle.lan_core.specs.declared.fact.Lack.TheVariants.{Exhausted}
use Rattle.lan_core.specs.Types.{AreOctets, IsMi, IsSecret, IfDrawn}

-- the place of the station that a fact speaks of
abbrev pub place : Fact → ℕ
place (facts.Life s mi) = s
place (facts.Ticked s at next) = s
place (facts.Server s mi) = s
place (facts.Dropped s id an) = s
place (facts.Retired s id an) = s
place (facts.Began s id an epoch cause) = s
place (facts.Installed s id an epoch sak) = s
place (facts.Untaken s id why) = s
place (facts.Framed k s sec octets) = s
place (facts.HeardMka k s verdict) = s
place (facts.Claimed s an epoch pn) = s
place (facts.Unclaimed s why) = s
place (facts.Arrived k s arrival) = s

-- the same of the station at another place
abbrev pub at_place : ℕ → Fact → Fact
at_place p (facts.Life s mi) = facts.Life p mi
at_place p (facts.Ticked s at next) = facts.Ticked p at next
at_place p (facts.Server s mi) = facts.Server p mi
at_place p (facts.Dropped s id an) = facts.Dropped p id an
at_place p (facts.Retired s id an) = facts.Retired p id an
at_place p (facts.Began s id an epoch cause) = facts.Began p id an epoch cause
at_place p (facts.Installed s id an epoch sak) = facts.Installed p id an epoch sak
at_place p (facts.Untaken s id why) = facts.Untaken p id why
at_place p (facts.Framed k s sec octets) = facts.Framed k p sec octets
at_place p (facts.HeardMka k s verdict) = facts.HeardMka k p verdict
at_place p (facts.Claimed s an epoch pn) = facts.Claimed p an epoch pn
at_place p (facts.Unclaimed s why) = facts.Unclaimed p why
at_place p (facts.Arrived k s arrival) = facts.Arrived k p arrival

-- a key's identifier
abbrev pub IsTypedId : KeyId → Type 0
IsTypedId id = IsMi id.server × (id.number < 2 ^ 32)

-- why a key is not taken
abbrev pub IsTypedWhy : Why → Type 0
IsTypedWhy (Seen kept) = kept < 2 ^ 32
IsTypedWhy _ = Unit {0}

-- why a frame spells no announcement
abbrev pub IsTypedRefusal : Refusal → Type 0
IsTypedRefusal (Shape at) = at < 2 ^ 64
IsTypedRefusal (Repeated kind) = kind < 2 ^ 8
IsTypedRefusal _ = Unit {0}

-- why the peer lists refuse an announcement
abbrev pub IsTypedPeerRefusal : PeerRefusal → Type 0
IsTypedPeerRefusal (OldNumber kept) = kept < 2 ^ 32
IsTypedPeerRefusal _ = Unit {0}

-- why a frame is dropped
abbrev pub IsTypedReason : DropReason → Type 0
IsTypedReason (Unspelled refusal) = IsTypedRefusal refusal
IsTypedReason (Refused refusal) = IsTypedPeerRefusal refusal
IsTypedReason _ = Unit {0}

-- what hearing a frame comes to
abbrev pub IsTypedVerdict : Verdict → Type 0
IsTypedVerdict (verdicts.Dropped reason) = IsTypedReason reason
IsTypedVerdict _ = Unit {0}

-- why a station got no packet number
abbrev pub IsTypedLack : Lack → Type 0
IsTypedLack (Exhausted epoch) = epoch < 2 ^ 32
IsTypedLack _ = Unit {0}

-- the answer to a protected frame
abbrev pub IsTypedArrival : Arrival → Type 0
IsTypedArrival (Accepted pn body) = (pn < 2 ^ 32) × AreOctets body
IsTypedArrival (Late next) = next < 2 ^ 64
IsTypedArrival _ = Unit {0}

-- a fact, but for its station
abbrev pub IsTypedFact : Fact → Type 0
IsTypedFact (facts.Life s mi) = IsMi mi
IsTypedFact (facts.Ticked s at next) = (at < 2 ^ 32) × (next < 2 ^ 64)
IsTypedFact (facts.Server s mi) = IfDrawn IsMi mi
IsTypedFact (facts.Dropped s id an) = IsTypedId id
IsTypedFact (facts.Retired s id an) = IsTypedId id
IsTypedFact (facts.Began s id an epoch cause) = IsTypedId id × (epoch < 2 ^ 32)
IsTypedFact (facts.Installed s id an epoch sak) =
    IsTypedId id × (epoch < 2 ^ 32) × IsSecret sak
IsTypedFact (facts.Untaken s id why) = IsTypedId id × IsTypedWhy why
IsTypedFact (facts.Framed k s sec octets) = (k < 2 ^ 32) × AreOctets octets
IsTypedFact (facts.HeardMka k s verdict) = (k < 2 ^ 32) × IsTypedVerdict verdict
IsTypedFact (facts.Claimed s an epoch pn) = (epoch < 2 ^ 32) × (pn < 2 ^ 32)
IsTypedFact (facts.Unclaimed s why) = IsTypedLack why
IsTypedFact (facts.Arrived k s arrival) = (k < 2 ^ 32) × IsTypedArrival arrival
