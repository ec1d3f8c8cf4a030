-- What an announcement says of a key in its SAK Use (IEEE Std 802.1X, clause 11).
use Rattle.std.specs.Prelude.{ℕ, nat_le, Bool, false, ◌==◌, ◌&&◌, ◌||◌, Option, Some, None}
use Rattle.lan_base.specs.declared.key_id.KeyId.{KeyId}
use Rattle.mkpdu_codec.specs.declared.key_use.KeyUse.{KeyUse}
use Rattle.mkpdu_codec.specs.declared.key_use.Uses.{Uses}
use Rattle.sak_exchange.specs.declared.due.Rekey.{Rekey}
use Rattle.lan_base.specs.Identifiers.{same_mi}

-- whether a use names the key
abbrev pub names : KeyId → KeyUse → Bool
names i u = same_mi u.server i.server && u.number == i.number

-- whether its announcer says that it receives under the key as its latest one
abbrev pub reports_latest : KeyId → Option Uses → Bool
reports_latest i None = false
reports_latest i (Some u) = names i u.latest && u.latest.rx

-- whether it says so of the key as its old one
abbrev pub reports_old : KeyId → Option Uses → Bool
reports_old i None = false
reports_old i (Some u) = names i u.old && u.old.rx

-- whether it reports the key
abbrev pub reports : KeyId → Option Uses → Bool
reports i u = reports_latest i u || reports_old i u

-- whether it says that it transmits under the key, as its latest one or its old one
abbrev pub transmits : KeyId → Uses → Bool
transmits i u = (names i u.latest && u.latest.tx) || (names i u.old && u.old.tx)

-- whether a use names the key, with a lowest acceptable packet number that isn't below the limit
abbrev pub reaches_as : ℕ → KeyId → KeyUse → Bool
reaches_as limit i u = names i u && nat_le limit u.lowest

-- Whether it says such a number of the key as its latest one; or as its old one, where that counts (this
-- profile's own rule: a station that never sees its members' frames learns no number elsewhere, once its only
-- key is their old one).
abbrev pub reaches : Rekey → KeyId → Option Uses → Bool
reaches limit i None = false
reaches limit i (Some u) =
    reaches_as limit.from i u.latest || (limit.as_old && reaches_as limit.from i u.old)
