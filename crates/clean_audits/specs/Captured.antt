-- The capture of a run behind the `group` line of its group: one packet for each frame on the air.
use Rattle.std.specs.Prelude.{◌≡◌, true, length, Contains, Some, Ok}
use Rattle.aes_block.specs.Secrets.{secret_octets}
use Rattle.audit_text.specs.declared.line.KeyLine.TheVariants.{Group}
use Rattle.capture_packets.specs.Packets.{Seen}
use Rattle.key_ring.specs.Rings.{Ring, no_ring, with_line}
use Rattle.known_keys.specs.Known.{is_open}
use Rattle.lan_core.specs.declared.settings.Settings.{Settings}
use Rattle.lan_core.specs.Ledgers.{Frame, Install}
use Rattle.lan_core.specs.Run.{Run}
use Rattle.mkpdu_codec.specs.declared.spelled.Spelled.{Spelled}
use Rattle.packet_verdicts.specs.declared.given.Gift.{Gift}
use Rattle.packet_verdicts.specs.declared.kind.Kind.TheVariants.{Mka}
use Rattle.packet_verdicts.specs.declared.kind.Mka.TheVariants.{Right}
use Rattle.packet_verdicts.specs.Given.{Gives}
use Rattle.packet_verdicts.specs.Kinds.{packet_kind}
use Rattle.group_safety.specs.Once.{makes}
use Rattle.clean_audits.specs.Given.{group_kek}

-- what the `group` line of a group says
abbrev pub group_ring : Settings → Ring
group_ring settings = with_line 1 (Group (secret_octets settings.cak) settings.ckn) no_ring

-- a packet is a frame on the air, whole
pub record IsPacketOf (frame : Frame) (packet : Seen) : Type 0 where
  pub octets : packet.octets ≡ frame.octets
  pub whole : packet.head.original ≡ length frame.octets
  pub ethernet : packet.head.is_ethernet ≡ true

-- a gift is the key of an install
pub record IsGiftOf (i : Install) (gift : Gift) : Type 0 where
  pub id : gift.id ≡ i.id
  pub an : gift.an ≡ i.an
  pub sak : gift.sak ≡ Ok i.sak
  pub opens : is_open gift.offset ≡ true

-- a key that the run made is given
pub record GivesMade (r : Run) (gift : Gift) : Type 0 where
  pub made : Install
  pub there : Contains (makes r) made
  pub is : IsGiftOf made gift

-- A packet is an MKPDU that is right under the group, and what it gives is a key that the run made.
pub record IsRightMkpdu (settings : Settings) (r : Run) (packet : Seen) : Type 0 where
  pub spelled : Spelled
  pub kind : packet_kind (group_ring settings).groups packet ≡ Mka (Right 1 spelled)
  pub gives : (gift : Gift) → Gives (group_kek settings) spelled.announcement (Some gift)
      → GivesMade r gift
