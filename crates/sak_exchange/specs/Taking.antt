-- When a key is taken that a key server gives, and which (IEEE Std 802.1X, clause 9; the order of
-- the reasons not to is this profile's own).
use Rattle.std.specs.Prelude.{ℕ, nat_lt, max, Bool, true, false, if◌then◌else◌, List, [], ◌∷◌, Option, Some, None, unwrap_or, Result, Ok, Err}
use Rattle.lan_base.specs.declared.address.Mi.{Mi}
use Rattle.lan_base.specs.declared.key_id.KeyId.{KeyId}
use Rattle.aes_block.specs.declared.secret.Secret.{Secret}
use Rattle.mkpdu_codec.specs.declared.offset.ConfidentialityOffset.{ConfidentialityOffset}
use Rattle.mkpdu_codec.specs.declared.offset.ConfidentialityOffset.TheVariants as offsets
use Rattle.mkpdu_codec.specs.declared.wrapped_key.WrappedKey.{WrappedKey}
use Rattle.mkpdu_codec.specs.declared.wrapped_key.WrappedKey.TheVariants.{Aes128, Aes256, Xpn128, Xpn256, Other}
use Rattle.sak_exchange.specs.declared.offer.Offer.{Offer}
use Rattle.sak_exchange.specs.declared.change.Why.{Why}
use Rattle.sak_exchange.specs.declared.change.Why.TheVariants.{NotListed, NotServer, Seen, Retiring, Suite, Offset, Wrap}
use Rattle.lan_base.specs.Identifiers.{same_mi}
use Rattle.sak_exchange.specs.declared.held_key.Key.{Key}
use Rattle.sak_exchange.specs.Histories.{Keying, ticked, installed, began}
use Rattle.sak_exchange.specs.Held.{allows}
use Rattle.sak_exchange.specs.Making.{next_epoch}

-- whether the key is for a cipher suite that the station has
abbrev pub is_supported : WrappedKey → Bool
is_supported (Aes128 octets) = true
is_supported (Aes256 octets) = true
is_supported (Xpn128 octets) = false
is_supported (Xpn256 octets) = false
is_supported Other = false

-- whether frames under a key of this confidentiality offset are encrypted
abbrev pub encrypts : ConfidentialityOffset → Bool
encrypts offsets.None = false
encrypts offsets.Octets0 = true
encrypts offsets.Octets30 = true
encrypts offsets.Octets50 = true

-- whether no octets of a frame that is encrypted under such a key stay in the clear
abbrev pub leaves_none : ConfidentialityOffset → Bool
leaves_none offsets.None = true
leaves_none offsets.Octets0 = true
leaves_none offsets.Octets30 = false
leaves_none offsets.Octets50 = false

-- the identifier of the key that is offered
abbrev pub offered_id : Offer → KeyId
offered_id o = record { server = o.server; number = o.given.number }

-- the greatest key number of a key server under which this life installed a key
abbrev pub greatest_of : Mi → List Keying → Option ℕ
greatest_of s [] = None
greatest_of s (ticked b ∷ h) = greatest_of s h
greatest_of s (installed r k ∷ h) =
    if same_mi k.id.server s then Some (max k.id.number (unwrap_or (greatest_of s h) 0))
    else greatest_of s h
greatest_of s (began e ∷ h) = greatest_of s h

-- what follows, where a condition holds, and else the reason
abbrev pub provided : Bool → Why → Result Key Why → Result Key Why
provided true why rest = rest
provided false why rest = Err why

-- what follows, where a key number is greater than the greatest one installed, if there is one
abbrev pub provided_new : Option ℕ → ℕ → Result Key Why → Result Key Why
provided_new None number rest = rest
provided_new (Some kept) number rest = provided (nat_lt kept number) (Seen kept) rest

-- the key that an offer installs under an epoch
abbrev pub offered_key : ℕ → Offer → Secret → Key
offered_key epoch o sak =
    record {
      id = offered_id o;
      an = o.given.an;
      sak = sak;
      conf = encrypts o.given.offset;
      epoch = epoch;
    }

-- the key that an offer installs under an epoch, or the reason that it hides no SAK
abbrev pub unwrapped_key : ℕ → Offer → Option Secret → Result Key Why
unwrapped_key epoch o None = Err Wrap
unwrapped_key epoch o (Some sak) = Ok (offered_key epoch o sak)

-- The key that an offer installs under an epoch, given the SAK that it hides, if it hides one; else
-- the first reason why it installs none, given the greatest number of a key of its server that was
-- installed, and whether a key may be installed.
abbrev pub judged : Option ℕ → Bool → ℕ → Offer → Option Secret → Result Key Why
judged kept allowed epoch o sak =
    provided o.listed NotListed (
    provided o.elected NotServer (
    provided_new kept o.given.number (
    provided allowed Retiring (
    provided (is_supported o.given.key) Suite (
    provided (leaves_none o.given.offset) Offset (unwrapped_key epoch o sak))))))

-- the key that an offer installs after a history, or the first reason why it installs none
abbrev pub taken : ℕ → List Keying → Offer → Option Secret → Result Key Why
taken base h o sak = judged (greatest_of o.server h) (allows h) (next_epoch base h) o sak
