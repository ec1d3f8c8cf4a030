-- One use of each packet number under a SAK (IEEE Std 802.1AE, clause 10), and one key under each
-- key identifier (IEEE Std 802.1X, clause 9), over a whole run of the group.
use Rattle.std.specs.Prelude.{◌≡◌, ℕ, List, [], ◌∷◌, map, Contains, slice_get, Option, option_map}
use Rattle.lan_base.specs.declared.address.Sci.{Sci}
use Rattle.aes_block.specs.Secrets.{secret_octets}
use Rattle.lan_core.specs.declared.event.Event.{Event}
use Rattle.lan_core.specs.declared.event.Event.TheVariants as events
use Rattle.lan_core.specs.declared.fact.Fact.{Fact}
use Rattle.lan_core.specs.Run.{Run, stations}
use Rattle.lan_core.specs.Ledgers.{gather, Install, install_of, install_at, installs, Claim, claims}
use Rattle.lan_base.specs.Differing.{AllDiffer}
use Rattle.lan_core.specs.Fresh.{drawn_saks}

-- ---- one use of each packet number

-- the SAK of a claim: that of the key which its station installed under its epoch
abbrev pub sak_of : Run → Claim → Option (List ℕ)
sak_of r c = option_map (λ i. secret_octets i.sak) (install_at c.station c.epoch r)

-- the SCI of a station
abbrev pub sci_of : Run → ℕ → Option Sci
sci_of r s = option_map (λ p. p.sci) (slice_get (stations r) s)

-- what a claim uses: a packet number, under a SAK, with an SCI
pub record Use : Type 0 where
  pub sak : Option (List ℕ)
  pub sci : Option Sci
  pub pn : ℕ

abbrev pub use_of : Run → Claim → Use
use_of r c = record { sak = sak_of r c; sci = sci_of r c.station; pn = c.pn }

-- no two claims of the run agree in SAK, SCI and packet number
abbrev pub Once : Run → Type 0
Once r = AllDiffer (map (use_of r) (claims r))

-- ---- one key under each identifier

-- any two installs with equal key identifiers have equal SAK and equal association number
abbrev pub OneKey : Run → Type 0
OneKey r = (i j : Install) → Contains (installs r) i → Contains (installs r) j → i.id ≡ j.id
    → (i.sak ≡ j.sak) × (i.an ≡ j.an)

-- ---- each key was drawn

-- what an event shows of keys that it makes: only a tick makes one
abbrev pub shown_made : List Fact → Event → List Fact
shown_made shown (events.Tick s next) = shown
shown_made shown _ = []

-- the installs of the keys that were made
unfoldable pub makes : Run → List Install
makes [] = []
makes (x ∷ r) = gather install_of (shown_made x.facts x.event) (makes r)

-- an install is that of the key which a life made: under the same identifier, with the same
-- association number, and with a SAK that was drawn for it
pub record IsMadeAs (r : Run) (made i : Install) : Type 0 where
  pub made_there : Contains (makes r) made
  pub id : made.id ≡ i.id
  pub an : made.an ≡ i.an
  pub sak : made.sak ≡ i.sak
  pub drawn : Contains (drawn_saks r) (secret_octets i.sak)

-- the SAK of each installed key was drawn in the run, for the key of its identifier
abbrev pub Drawn : Run → Type 0
Drawn r = (i : Install) → Contains (installs r) i → (made : Install) × IsMadeAs r made i
