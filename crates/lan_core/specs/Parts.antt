-- A part of a run: what happens after a run, oldest first. Claims tell of packet numbers alone, so
-- a run without those of a part tells the same of all else, and their frames may come to wait once
-- the part is over.
use Rattle.std.specs.Prelude.{◌≡◌, ℕ, Bool, true, false, not, List, [], ◌∷◌, ◌++◌, map}
use Rattle.std.specs.Prelude.{Option, Some, option_map}
use Rattle.std.specs.List.{filter}
use Rattle.lan_base.specs.declared.address.Mi.{Mi}
use Rattle.lan_base.specs.declared.frame.Protected.{Protected}
use Rattle.lan_base.specs.declared.frame.UserFrame.{UserFrame}
use Rattle.aes_block.specs.declared.secret.Secret.{Secret}
use Rattle.lan_core.specs.declared.event.Event.{Event}
use Rattle.lan_core.specs.declared.event.Event.TheVariants as events
use Rattle.lan_core.specs.declared.settings.Settings.{Settings}
use Rattle.lan_core.specs.declared.waiting.Sealed.{Sealed}
use Rattle.lan_core.specs.Run.{Run, Happening, stations}
use Rattle.lan_core.specs.Ledgers.{air, installs}
use Rattle.lan_core.specs.Lives.{life, receiving}
use Rattle.lan_core.specs.Claims.{Waiting, claimed_by, frame_of_claim}
use Rattle.lan_core.specs.Order.{ticks}
use Rattle.lan_core.specs.Stops.{draws_in, mi_number, sak_number}

-- a run with a part behind it
abbrev pub followed_by : List Happening → Run → Run
followed_by [] r = r
followed_by (x ∷ part) r = followed_by part (x ∷ r)

abbrev pub is_claim : Event → Bool
is_claim (events.Claim s user pn) = true
is_claim _ = false

-- the events of a part that are no claims
abbrev pub without_claims : List Happening → List Happening
without_claims part = filter (λ x. not (is_claim x.event)) part

-- two runs tell the same, but for packet numbers
pub record AreAlike (settings : Settings) (q r : Run) : Type 0 where
  pub lives : (s : ℕ) → life settings s q ≡ life settings s r
  pub places : stations q ≡ stations r
  pub on_air : air q ≡ air r
  pub slots : (s : ℕ) → receiving s q ≡ receiving s r
  pub installed : installs q ≡ installs r
  pub ticked : ticks q ≡ ticks r
  pub counted : draws_in settings.suite q ≡ draws_in settings.suite r
  pub mis : (mi : Mi) → mi_number settings.suite q mi ≡ mi_number settings.suite r mi
  pub saks : (sak : Secret) → sak_number settings.suite q sak ≡ sak_number settings.suite r sak

-- ---- the frames of its claims

-- the claims of a part that got a number, oldest first
abbrev pub claimed_in : Settings → List Happening → Run → List Waiting
claimed_in settings [] r = []
claimed_in settings (x ∷ part) r =
    claimed_by settings r x.event ++ claimed_in settings part (x ∷ r)

-- a claim's frame, under the key that transmitted, with what it was protected under
abbrev pub protected_for : List UserFrame → Run → Waiting → Option Protected
protected_for users r w =
    option_map
    (λ octets. record {
      station = w.station;
      an = w.key.an;
      epoch = w.key.epoch;
      pn = w.pn;
      octets = octets;
    })
    (frame_of_claim users r w)

-- frames are those of the claims of a part that got a number, each for its claim's user, in their
-- order
abbrev pub AreProtected : Settings → List UserFrame → List Protected → List Happening → Run → Type 0
AreProtected settings users taken part r =
    map Some taken ≡ map (protected_for users (followed_by part r)) (claimed_in settings part r)

-- a protected frame as it waits for its emission
abbrev pub sealed_from : Protected → Sealed
sealed_from frame = record { station = frame.station; octets = frame.octets }
