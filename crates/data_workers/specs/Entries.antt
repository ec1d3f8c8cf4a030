-- What comes of one job.
use Rattle.std.specs.Prelude.{ℕ, List, Result, Ok, Err}
use Rattle.aes_block.specs.Secrets.{secret_octets}
use Rattle.association_slots.specs.declared.card.Card.{Card}
use Rattle.gcm_frames.specs.Protected.{protected}
use Rattle.lan_base.specs.declared.association_number.AssociationNumber.{AssociationNumber}
use Rattle.lan_base.specs.declared.frame.Protected.{Protected}
use Rattle.packet_claims.specs.declared.answers.Claim.{Claim}
use Rattle.packet_claims.specs.declared.answers.NoClaim.{NoClaim}
use Rattle.packet_claims.specs.declared.answers.NoClaim.TheVariants.{NoKey, Exhausted}
use Rattle.data_workers.specs.declared.entry.Entry.{Entry}
use Rattle.data_workers.specs.declared.entry.Entry.TheVariants.{Taken, Refused}
use Rattle.data_workers.specs.declared.sender.Sender.{Sender}

-- the sender's frame, protected under a card, an association number and a packet number
abbrev pub frame_under : Sender → Card → AssociationNumber → ℕ → List ℕ
frame_under s card an pn = protected (secret_octets card.sak) s.sci an pn card.conf s.user

-- the sender's frame under a claim and its card, with what it was protected under
abbrev pub taken_by : Sender → Claim → Protected
taken_by s k = record {
  station = s.station;
  an = k.an;
  epoch = k.epoch;
  pn = k.pn;
  octets = frame_under s k.card k.an k.pn;
}

-- the entry of a claim's answer
abbrev pub entry_of : Sender → Result Claim NoClaim → Entry
entry_of s (Ok k) = Taken (taken_by s k)
entry_of s (Err why) = Refused s.station why

-- the epoch after which nothing was present, or that has no packet number left
abbrev pub epoch_in : NoClaim → ℕ
epoch_in (NoKey after) = after
epoch_in (Exhausted epoch) = epoch

-- the epoch of an entry
abbrev pub epoch_of : Entry → ℕ
epoch_of (Taken p) = p.epoch
epoch_of (Refused station why) = epoch_in why
