-- What a frame of key agreement gives, and what it shows of the keys in use (IEEE Std 802.1X, clause
-- 11).
use Rattle.std.specs.Prelude.{◌≡◌, ◌≢◌, ℕ, ◌||◌, if◌then◌else◌, List, Option, Some, None, Result, Ok, Err}
use Rattle.aes_block.specs.Aes.{IsOctets}
use Rattle.aes_block.specs.declared.secret.Secret.{Secret}
use Rattle.aes_block.specs.declared.secret.Secret.TheVariants.{S128, S256}
use Rattle.key_wrap.specs.Wrap.{wrapped}
use Rattle.lan_base.specs.declared.address.Mi.{Mi}
use Rattle.mkpdu_codec.specs.declared.announcement.Announcement.{Announcement}
use Rattle.mkpdu_codec.specs.declared.given.Given.{Given}
use Rattle.mkpdu_codec.specs.declared.key_use.KeyUse.{KeyUse}
use Rattle.mkpdu_codec.specs.declared.key_use.Uses.{Uses}
use Rattle.mkpdu_codec.specs.declared.wrapped_key.WrappedKey.{WrappedKey}
use Rattle.mkpdu_codec.specs.declared.wrapped_key.WrappedKey.TheVariants.{Aes128, Aes256, Xpn128, Xpn256, Other}
use Rattle.packet_verdicts.specs.declared.given.Gift.{Gift}
use Rattle.packet_verdicts.specs.declared.given.NoSak.{NoSak}
use Rattle.packet_verdicts.specs.declared.given.NoSak.TheVariants.{OtherSuite, WrongWrap}
use Rattle.packet_verdicts.specs.declared.given.Shown.{Shown}
use Rattle.packet_verdicts.specs.declared.given.ShownKeys.{ShownKeys}

-- ---- a Distributed SAK

-- The SAK that is given: the one whose wrap under a key encrypting key these octets are. The wrap is
-- wrong where there is none, and a key for another suite isn't unwrapped.
abbrev pub IsSak : List ℕ → WrappedKey → Result Secret NoSak → Type 0
IsSak kek (Aes128 octets) (Ok (S128 sak)) = IsOctets 16 sak × (wrapped kek sak ≡ octets)
IsSak kek (Aes128 octets) (Err WrongWrap) =
    (sak : List ℕ) → IsOctets 16 sak → wrapped kek sak ≢ octets
IsSak kek (Aes256 octets) (Ok (S256 sak)) = IsOctets 32 sak × (wrapped kek sak ≡ octets)
IsSak kek (Aes256 octets) (Err WrongWrap) =
    (sak : List ℕ) → IsOctets 32 sak → wrapped kek sak ≢ octets
IsSak kek (Xpn128 octets) (Err OtherSuite) = Unit {0}
IsSak kek (Xpn256 octets) (Err OtherSuite) = Unit {0}
IsSak kek Other (Err OtherSuite) = Unit {0}
IsSak kek _ _ = ⊥

-- what a key server gives
pub record IsGift (kek : List ℕ) (mi : Mi) (given : Given) (g : Gift) : Type 0 where
  pub named : g.id ≡ record { server = mi; number = given.number }
  pub under : g.an ≡ given.an
  pub protects : g.offset ≡ given.offset
  pub hides : IsSak kek given.key g.sak

abbrev pub GivesBy : List ℕ → Mi → Option Given → Option Gift → Type 0
GivesBy kek mi (Some given) (Some g) = IsGift kek mi given g
GivesBy kek mi None None = Unit {0}
GivesBy kek mi _ _ = ⊥

-- what an announcement gives under the key encrypting key of its group: a key, or nothing
abbrev pub Gives : List ℕ → Announcement → Option Gift → Type 0
Gives kek a g = GivesBy kek a.mi a.given g

-- ---- SAK Use

-- a key is shown where its announcer transmits or receives with it
abbrev pub shown_key : KeyUse → Option Shown
shown_key k =
    if k.tx || k.rx
    then Some (record {
      id = record { server = k.server; number = k.number };
      an = k.an;
      tx = k.tx;
      rx = k.rx;
    })
    else None

abbrev pub shown_keys : Option Uses → ShownKeys
shown_keys None = record { latest = None; old = None }
shown_keys (Some u) = record { latest = shown_key u.latest; old = shown_key u.old }
