-- When a key server makes a key, and which (IEEE Std 802.1X, clause 9; the reasons and the roster
-- are this profile's own).
use Rattle.std.specs.Prelude.{ℕ, zero, suc, ◌+◌, nat_le, Bool, false, if◌then◌else◌, not, ◌&&◌, ◌||◌, List, ◌∷◌, map, Option, Some, None, is_none}
use Rattle.std.specs.List.{list_any}
use Rattle.lan_base.specs.declared.address.Mi.{Mi}
use Rattle.lan_base.specs.declared.association_number.AssociationNumber.{AssociationNumber}
use Rattle.lan_base.specs.declared.association_number.AssociationNumber.TheVariants.{An0}
use Rattle.lan_base.specs.AssociationNumbers.{same_an, behind}
use Rattle.lan_base.specs.declared.key_id.KeyId.{KeyId}
use Rattle.aes_block.specs.declared.secret.Secret.{Secret}
use Rattle.sak_exchange.specs.declared.report.Report.{Report}
use Rattle.sak_exchange.specs.declared.due.Seen.{Seen}
use Rattle.sak_exchange.specs.declared.due.Rekey.{Rekey}
use Rattle.lan_base.specs.Identifiers.{has}
use Rattle.sak_exchange.specs.declared.held_key.Key.{Key}
use Rattle.sak_exchange.specs.Histories.{Keying, clock, last_key, last_roster, last_made_at, install_count, made_count, begun_at, has_begun}
use Rattle.sak_exchange.specs.Held.{received, is_latest, allows}
use Rattle.sak_exchange.specs.Reports.{reports, reaches}
use Rattle.sak_exchange.specs.Beginning.{is_long_ago, is_latest_made}

-- whether a roster, where there is one, has the member
abbrev pub lists : Option (List Mi) → Mi → Bool
lists None m = false
lists (Some ms) m = has m ms

-- whether this life made the latest key, and the member is in its roster
abbrev pub is_in_roster : List Keying → Mi → Bool
is_in_roster h m = is_latest h (λ k. lists (last_roster h) m)

-- Whether a key is spent: the limit isn't above the next number of the association, the own lowest
-- acceptable number under the key, or that which a live member says.
abbrev pub is_spent : List Report → Seen → Rekey → KeyId → Bool
is_spent live seen limit i =
    nat_le limit.from seen.next || (nat_le limit.from seen.latest
    || list_any (λ r. reaches limit i r.uses) live)

-- A key is due for one of four reasons. The first: no key is held, or this life did not make the
-- latest one.
abbrev pub is_none_of_own : List Keying → Bool
is_none_of_own h = not (is_latest_made h)

-- The second: a live member isn't in the latest key's roster.
abbrev pub is_one_left_out : List Keying → List Report → Bool
is_one_left_out h live = list_any (λ r. not (is_in_roster h r.mi)) live

-- The third: the latest key has begun and is spent.
abbrev pub is_latest_spent : List Keying → List Report → Seen → Rekey → Bool
is_latest_spent h live seen limit =
    is_latest h (λ k. has_begun h k.epoch && is_spent live seen limit k.id)

-- The fourth: the latest key began the life time ago or earlier, and a live member doesn't report
-- it.
abbrev pub is_one_behind : List Keying → List Report → Bool
is_one_behind h live =
    is_latest h (λ k. is_long_ago (clock h) (begun_at h k.epoch)
    && list_any (λ r. not (reports k.id r.uses)) live)

-- whether a key is due
abbrev pub is_key_due : List Keying → List Report → Seen → Rekey → Bool
is_key_due h live seen limit =
    is_none_of_own h || (is_one_left_out h live
    || (is_latest_spent h live seen limit || is_one_behind h live))

-- whether no member is potential, or this life made no key, or made the last one the life time ago
-- or earlier
abbrev pub is_rested : List Keying → Bool → Bool
is_rested h potential =
    not potential || (is_none (last_made_at h) || is_long_ago (clock h) (last_made_at h))

-- whether a station that is its own elected server, and has not begun a key in this tick, makes a
-- key
abbrev pub makes : List Keying → List Report → Bool → Seen → Rekey → Bool
makes h live potential seen limit =
    allows h && (is_key_due h live seen limit && is_rested h potential)

-- whether a held key has the association number
abbrev pub is_used : List Keying → AssociationNumber → Bool
is_used h a = list_any (λ k. same_an k.an a) (received h)

-- the first number from one on that no held key has, after so many turns at most
abbrev pub free_from : ℕ → List Keying → AssociationNumber → AssociationNumber
free_from zero h a = a
free_from (suc n) h a = if is_used h a then free_from n h (behind a) else a

-- The association number of the next key that is made: 0 in a life that installed none, else the
-- first free one behind that of the last install. Two keys are held at most, so two turns are
-- enough.
abbrev pub next_an : List Keying → AssociationNumber
next_an h = elim (last_key h) [ None ↦ An0 | Some k ↦ free_from 2 h (behind k.an) ]

-- the epoch of the next install, where so many keys were installed in earlier lives
abbrev pub next_epoch : ℕ → List Keying → ℕ
next_epoch base h = (base + install_count h) + 1

-- the key that a station makes, given its member identifier, whether the key gives confidentiality,
-- and the SAK
abbrev pub made_key : ℕ → Mi → List Keying → Bool → Secret → Key
made_key base own h conf sak =
    record {
      id = record { server = own; number = made_count h + 1 };
      an = next_an h;
      sak = sak;
      conf = conf;
      epoch = next_epoch base h;
    }

-- its roster: the station itself and the live members of that moment
abbrev pub made_roster : Mi → List Report → List Mi
made_roster own live = own ∷ map (λ r. r.mi) live
