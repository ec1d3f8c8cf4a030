-- Which keys are held (IEEE Std 802.1X, clause 9): those received, the latest and the old one among
-- them, and the one that transmits.
use Rattle.std.specs.Prelude.{◌≡◌, ℕ, ◌==◌, ◌+◌, nat_lt, Bool, true, false, not, ◌&&◌, ◌||◌, List, [], ◌∷◌, Option, Some, None, is_some, option_and_then}
use Rattle.std.specs.Option.{option_map_or}
use Rattle.std.specs.List.{list_any, filter, find}
use Rattle.lan_base.specs.AssociationNumbers.{same_an}
use Rattle.lan_base.specs.Timers.{retire_time}
use Rattle.sak_exchange.specs.declared.held_key.HeldKey.{HeldKey}
use Rattle.sak_exchange.specs.declared.held_key.Key.{Key}
use Rattle.sak_exchange.specs.Histories.{Keying, ticked, installed, began, clock, installs, last_key, install_count, begun_at, has_begun, last_begun}

-- whether what began at a tick count began the retire time before another
abbrev pub is_retire_time_ago : ℕ → Option ℕ → Bool
is_retire_time_ago now None = false
is_retire_time_ago now (Some at) = at + retire_time == now

-- whether a key is later than this epoch's, and began the retire time before the next tick
abbrev pub retires : List Keying → ℕ → Key → Bool
retires h e later =
    nat_lt e later.epoch && is_retire_time_ago (clock h + 1) (begun_at h later.epoch)

-- Whether an entry that comes after this history ends a key: a tick with no elected server; a tick
-- at which a later key began the retire time ago; an install under the key's association number, or
-- before the key began.
abbrev pub ends : Keying → List Keying → Key → Bool
ends (ticked false) h k = true
ends (ticked true) h k = list_any (retires h k.epoch) (installs h)
ends (installed r n) h k = same_an n.an k.an || not (has_begun h k.epoch)
ends (began e) h k = false

-- the keys with the one that an entry installs
abbrev pub with_new : Keying → List Key → List Key
with_new (ticked s) ks = ks
with_new (installed r k) ks = k ∷ ks
with_new (began e) ks = ks

-- the keys that are received: installed, and ended by no later entry
unfoldable pub received : List Keying → List Key
received [] = []
received (x ∷ h) = with_new x (filter (λ k. not (ends x h k)) (received h))

-- whether a key has this epoch
abbrev pub has_epoch : ℕ → Key → Bool
has_epoch e k = k.epoch == e

-- the latest key: the one installed last, where it is received
unfoldable pub latest : List Keying → Option Key
latest h = option_and_then (λ l. find (has_epoch l.epoch) (received h)) (last_key h)

-- the old key: the other one that is received
unfoldable pub old : List Keying → Option Key
old h = option_and_then (λ l. find (λ k. not (has_epoch l.epoch k)) (received h)) (last_key h)

-- the key that transmits: the one that began last, where it is received
unfoldable pub transmitting : List Keying → Option Key
transmitting h = option_and_then (λ e. find (has_epoch e) (received h)) (last_begun h)

-- whether a latest key is held, of which this is true
abbrev pub is_latest : List Keying → (Key → Bool) → Bool
is_latest h test = option_map_or test (latest h) false

-- whether a key may be installed: not while the latest key has begun and an old one is held
abbrev pub allows : List Keying → Bool
allows h = not (is_latest h (λ k. has_begun h k.epoch) && is_some (old h))

-- whether the key of this epoch may begin: it is the latest one and has not begun
abbrev pub may_begin : List Keying → ℕ → Bool
may_begin h e = is_latest h (λ k. k.epoch == e && not (has_begun h e))

-- The rules were kept, where so many keys were installed in earlier lives: epochs go on counting, a
-- key is installed where that is allowed, and what begins is the latest key, once.
abbrev pub KeepsRules : ℕ → List Keying → Type 0
KeepsRules base [] = Unit {0}
KeepsRules base (ticked s ∷ h) = KeepsRules base h
KeepsRules base (installed r k ∷ h) =
    (k.epoch ≡ (base + install_count h) + 1) × (allows h ≡ true) × KeepsRules base h
KeepsRules base (began e ∷ h) = (may_begin h e ≡ true) × KeepsRules base h

-- a key as it is shown, which has begun or not
abbrev pub shown : Bool → Key → HeldKey
shown begun k = record { key = k; begun = begun }

-- a key as it is held after a history
abbrev pub held : List Keying → Key → HeldKey
held h k = shown (has_begun h k.epoch) k
