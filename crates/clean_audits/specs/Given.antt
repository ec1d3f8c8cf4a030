-- Keys that are given on the air (IEEE Std 802.1X, clauses 9 and 11).
use Rattle.std.specs.Prelude.{◌≡◌, ℕ, true, List, Contains, Some, Ok}
use Rattle.aes_block.specs.Secrets.{secret_octets}
use Rattle.known_keys.specs.Known.{is_open}
use Rattle.lan_base.specs.declared.association_number.AssociationNumber.{AssociationNumber}
use Rattle.lan_core.specs.declared.settings.Settings.{Settings}
use Rattle.lan_core.specs.Ledgers.{Frame, air, Install, installs}
use Rattle.lan_core.specs.Run.{Run}
use Rattle.mka_kdf.specs.Kdf.{kek_of}
use Rattle.mkpdu_codec.specs.declared.spelled.Spelled.{Spelled}
use Rattle.mkpdu_codec.specs.Reading.{reading}
use Rattle.packet_verdicts.specs.declared.given.Gift.{Gift}
use Rattle.packet_verdicts.specs.Given.{Gives}

-- the key encrypting key of a group
abbrev pub group_kek : Settings → List ℕ
group_kek settings = kek_of (secret_octets settings.cak) settings.ckn

-- A frame gives a key as it was installed: what it spells distributes that SAK, wrapped under the key
-- encrypting key of the group, under the same identifier and association number, and with a
-- confidentiality offset under which whole frames are opened.
pub record GivesKey (settings : Settings) (octets : List ℕ) (i : Install) : Type 0 where
  pub spelled : Spelled
  pub read : reading octets ≡ Ok spelled
  pub gift : Gift
  pub gives : Gives (group_kek settings) spelled.announcement (Some gift)
  pub id : gift.id ≡ i.id
  pub an : gift.an ≡ i.an
  pub sak : gift.sak ≡ Ok i.sak
  pub opens : is_open gift.offset ≡ true

-- a frame on the air gives it
pub record IsGiven (settings : Settings) (r : Run) (i : Install) : Type 0 where
  pub frame : Frame
  pub there : Contains (air r) frame
  pub gives : GivesKey settings frame.octets i

-- a station has installed a key under an epoch and an association number, and it was given
pub record HasGivenKey (settings : Settings) (r : Run) (s : ℕ) (an : AssociationNumber) (epoch : ℕ) :
    Type 0 where
  pub install : Install
  pub there : Contains (installs r) install
  pub station : install.station ≡ s
  pub under : install.an ≡ an
  pub at : install.epoch ≡ epoch
  pub given : IsGiven settings r install
