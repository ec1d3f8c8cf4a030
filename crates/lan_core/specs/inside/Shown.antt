-- What facts show of an emission, and of a claim.
use Rattle.std.specs.Prelude.{ℕ, ◌==◌, if◌then◌else◌, List, [], ◌∷◌, Option, Some, None}
use Rattle.sak_exchange.specs.declared.held_key.HeldKey.{HeldKey}
use Rattle.lan_core.specs.declared.fact.Fact.{Fact}
use Rattle.lan_core.specs.declared.fact.Fact.TheVariants as facts
use Rattle.lan_core.specs.declared.fact.Lack.TheVariants.{NoKey, Exhausted}

-- the first frame that facts put on the air
abbrev pub sent_in : List Fact → Option (List ℕ)
sent_in [] = None
sent_in (facts.Framed number station sec octets ∷ later) = Some octets
sent_in (_ ∷ later) = sent_in later

-- what a claim of a packet number shows, 0 where it got none, at a station that transmits under
-- this key
abbrev pub claim_shown : ℕ → ℕ → Option HeldKey → Fact
claim_shown s pn None = facts.Unclaimed s NoKey
claim_shown s pn (Some k) =
    if pn == 0 then facts.Unclaimed s (Exhausted k.key.epoch)
    else facts.Claimed s k.key.an k.key.epoch pn
