-- One use of each packet number under a key.
use Rattle.std.specs.Prelude.{ℕ, ◌==◌, if◌then◌else◌, List, [], ◌∷◌, Option, Some, None}
use Rattle.std.specs.Option.{option_or}
use Rattle.least_pairs.specs.Pairs.{Noted, Breaks}
use Rattle.lan_base.specs.declared.address.Sci.{Sci}
use Rattle.use_notes.specs.declared.frame.RightFrame.{RightFrame}
use Rattle.use_notes.specs.declared.novelty.Novelty.{Novelty}
use Rattle.use_notes.specs.declared.novelty.Novelty.TheVariants.{Reused}
use Rattle.use_notes.specs.Frames.{novelty_in, same_check}

-- what is to be used once: a packet number of a sender under a key
pub record Number : Type 0 where
  pub key : ℕ
  pub sci : Sci
  pub pn : ℕ

abbrev pub number_of : RightFrame → Number
number_of e = record { key = e.key; sci = e.sci; pn = e.pn }

-- by packet, what was used and with which check value
abbrev pub noted : List RightFrame → Noted Number (List ℕ)
noted [] packet = None
noted (e ∷ h) packet =
    if packet == e.packet then Some (number_of e, e.check) else noted h packet

-- packets that are right under one key, of one sender and packet number, with other check values
abbrev pub BreaksOnce : List RightFrame → ℕ → ℕ → Type 0
BreaksOnce h = Breaks Number (List ℕ) same_check (noted h)

-- the packet of the first one and its own, of a frame that is reused
abbrev pub reuse_by : ℕ → Novelty → Option (ℕ × ℕ)
reuse_by packet (Reused first) = Some (first, packet)
reuse_by packet _ = None

-- of the first reused frame
abbrev pub first_reuse : List RightFrame → Option (ℕ × ℕ)
first_reuse [] = None
first_reuse (e ∷ h) = option_or (first_reuse h) (reuse_by e.packet (novelty_in h e))
