-- What an announcement shows of its station's keys.
use Rattle.std.proofs.Common.{◌≡◌, ℕ, Bool, true, false, ◌&&◌, ◌||◌, List, refl, ap, sym, ◌∙◌}
use Rattle.std.proofs.Common.{subst}
use Rattle.std.proofs.Common.{Option, Some, None, is_some}
use Rattle.std.specs.Prelude.{◌==◌}
use Rattle.std.proofs.lemmas.Bool.{and_parts, eqb-true}
use Rattle.lan_base.specs.declared.key_id.KeyId.{KeyId}
use Rattle.lan_base.specs.declared.address.Mi.{Mi}
use Rattle.lan_base.specs.Identifiers.{same_mi}
use Rattle.aes_block.specs.declared.secret.Secret.{Secret}
use Rattle.mkpdu_codec.specs.declared.announcement.Announcement.{Announcement}
use Rattle.mkpdu_codec.specs.declared.key_use.Uses.{Uses}
use Rattle.sak_exchange.specs.declared.due.Seen.{Seen}
use Rattle.sak_exchange.specs.declared.held_key.Key.{Key}
use Rattle.sak_exchange.specs.Histories.{Keying}
use Rattle.sak_exchange.specs.Held.{latest, old, transmitting}
use Rattle.sak_exchange.specs.Reports.{names, reports_latest, reports_old, transmits}
use Rattle.sak_exchange.proofs.Public.{by_test, by_option, same-equal}
use Rattle.mka_station.specs.Lives.{Member, Entry, keys_of}
use Rattle.mka_station.specs.Views.{View, view}
use Rattle.mka_station.specs.Announcing.{announcement, announces, says_now, use_of, uses_of, no_use}
use Rattle.mka_station.specs.Announcing.{same_option, same_key, id_of, lowest_in}
use Rattle.mka_station.specs.Tick.{says_at, ticked_past}
use Rattle.group_safety.proofs.once.Histories.{view-keys}

-- ---- identifiers

named : (i : KeyId) (s : Mi) (n : ℕ) → (same_mi s i.server && n == i.number) ≡ true
    → record { server = s; number = n } ≡ i
named i s n is =
    let both = and_parts (same_mi s i.server) (n == i.number) is in
    let a = same-equal s i.server both.0 in let b = eqb-true n i.number both.1 in
    ap (λ (v : Mi). let k : KeyId = record { server = v; number = n } in k) a
    ∙ ap (λ (v : ℕ). let k : KeyId = record { server = i.server; number = v } in k) b

pub same-id : (i j : KeyId) → same_key i j ≡ true → i ≡ j
same-id i j is = named j i.server i.number is

-- ---- one use

-- a use that names a key and says that it is received is of that key
received-use : (sending : Option Key) (lowest : Key → ℕ) (o : Option Key) (i : KeyId)
    → (names i (use_of sending lowest o) && (use_of sending lowest o).rx) ≡ true
    → (k : Key) × (o ≡ Some k) × (k.id ≡ i)
received-use sending lowest None i is = let both = and_parts (names i no_use) false is in
    absurd (cc (both.1))
received-use sending lowest (Some k) i is =
    let both = and_parts (same_mi k.id.server i.server && k.id.number == i.number) true is in
    (k, refl, named i k.id.server k.id.number both.0)

sending-is : (o : Option Key) (k : Key) → same_option same_key (id_of o) (Some k.id) ≡ true
    → (s : Key) × (o ≡ Some s) × (s.id ≡ k.id)
sending-is None k is = absurd (cc (is))
sending-is (Some s) k is = (s, refl, same-id s.id k.id is)

-- and one that says that its station transmits, of the key that does
transmitting-use : (sending : Option Key) (lowest : Key → ℕ) (o : Option Key) (i : KeyId)
    → (names i (use_of sending lowest o) && (use_of sending lowest o).tx) ≡ true
    → (s : Key) × (sending ≡ Some s) × (s.id ≡ i)
transmitting-use sending lowest None i is = let both = and_parts (names i no_use) false is in
    absurd (cc (both.1))
transmitting-use sending lowest (Some k) i is =
    let both = and_parts (same_mi k.id.server i.server && k.id.number == i.number)
    (same_option same_key (id_of sending) (Some k.id)) is in
    let s = sending-is sending k both.1 in (s.0, s.1, s.2 ∙ named i k.id.server k.id.number both.0)

-- ---- all uses

uses-are : (lowest : Key → ℕ) (h : List Keying) (u : Uses) → uses_of lowest h ≡ Some u
    → record {
      latest = use_of (transmitting h) lowest (latest h);
      old =
          use_of (transmitting h) lowest (old h);
    } ≡ u
uses-are lowest h u is =
    by_test (is_some (latest h) || is_some (old h)) (λ t. let f = rw t at is in cc (f))
    (λ t. let f = rw t at is in absurd (cc (f)))

shows-latest : (lowest : Key → ℕ) (h : List Keying) (i : KeyId)
    → reports_latest i (uses_of lowest h) ≡ true → (k : Key) × (latest h ≡ Some k) × (k.id ≡ i)
shows-latest lowest h i is =
    by_option (uses_of lowest h)
    (λ none. let f = rw none at is in absurd (cc (f)))
    (λ u some. let f = rw some at is in
    let g = subst (λ (v : Uses). (names i v.latest && v.latest.rx) ≡ true)
    (sym (uses-are lowest h u some)) f in
    received-use (transmitting h) lowest (latest h) i g)

shows-old : (lowest : Key → ℕ) (h : List Keying) (i : KeyId)
    → reports_old i (uses_of lowest h) ≡ true → (k : Key) × (old h ≡ Some k) × (k.id ≡ i)
shows-old lowest h i is =
    by_option (uses_of lowest h)
    (λ none. let f = rw none at is in absurd (cc (f)))
    (λ u some. let f = rw some at is in
    let g = subst (λ (v : Uses). (names i v.old && v.old.rx) ≡ true)
    (sym (uses-are lowest h u some)) f in
    received-use (transmitting h) lowest (old h) i g)

either : (b c : Bool) {P : Type 0} → (b || c) ≡ true → (b ≡ true → P) → (c ≡ true → P) → P
either true c is f g = f refl
either false c is f g = g is

shows-transmitting : (lowest : Key → ℕ) (h : List Keying) (u : Uses) (i : KeyId)
    → uses_of lowest h ≡ Some u → transmits i u ≡ true
    → (k : Key) × (transmitting h ≡ Some k) × (k.id ≡ i)
shows-transmitting lowest h u i some is =
    let e = uses-are lowest h u some in
    let g = subst (λ (v : Uses). transmits i v ≡ true) (sym e) is in
    either (names i (use_of (transmitting h) lowest (latest h)) &&
    (use_of (transmitting h) lowest (latest h)).tx)
    (names i (use_of (transmitting h) lowest (old h)) &&
    (use_of (transmitting h) lowest (old h)).tx) g
    (λ a. transmitting-use (transmitting h) lowest (latest h) i a)
    (λ b. transmitting-use (transmitting h) lowest (old h) i b)

-- ---- what is said

said-is : (m : Member) (lowest : Key → ℕ) (p : List Entry) (v : View) (a : Announcement)
    → says_now m lowest p v ≡ Some a → announcement m lowest v ≡ a
said-is m lowest p v a is = by_test (announces m v p) (λ t. let f = rw t at is in cc (f))
    (λ t. let f = rw t at is in absurd (cc (f)))

abbrev pub lowest_at : Member → Seen → List Entry → Key → ℕ
lowest_at m seen p = lowest_in seen (view m p).keys

-- what a tick says is the announcement of what the station is then
pub says-is : (m : Member) (seen : Seen) (sak : Secret) (p : List Entry) (a : Announcement)
    → says_at m seen sak p ≡ Some a
    → announcement m (lowest_at m seen p) (view m (ticked_past m seen sak p)) ≡ a
says-is m seen sak p a is = said-is m (lowest_at m seen p) (ticked_past m seen sak p)
    (view m (ticked_past m seen sak p)) a is

uses-said : (m : Member) (seen : Seen) (sak : Secret) (p : List Entry) (a : Announcement)
    → says_at m seen sak p ≡ Some a
    → a.uses ≡ uses_of (lowest_at m seen p) (keys_of m (ticked_past m seen sak p))
uses-said m seen sak p a is =
    sym (ap (λ (w : Announcement). w.uses) (says-is m seen sak p a is))
    ∙ ap (uses_of (lowest_at m seen p)) (view-keys m (ticked_past m seen sak p))

pub said-latest : (m : Member) (seen : Seen) (sak : Secret) (p : List Entry) (a : Announcement)
    (i : KeyId) → says_at m seen sak p ≡ Some a
    → reports_latest i a.uses ≡ true
    → (k : Key) × (latest (keys_of m (ticked_past m seen sak p)) ≡ Some k) × (k.id ≡ i)
said-latest m seen sak p a i is shown =
    shows-latest (lowest_at m seen p) (keys_of m (ticked_past m seen sak p)) i
    (subst (λ u. reports_latest i u ≡ true) (uses-said m seen sak p a is) shown)

pub said-old : (m : Member) (seen : Seen) (sak : Secret) (p : List Entry) (a : Announcement)
    (i : KeyId) → says_at m seen sak p ≡ Some a
    → reports_old i a.uses ≡ true → (k : Key) ×
    (old (keys_of m (ticked_past m seen sak p)) ≡ Some k) × (k.id ≡ i)
said-old m seen sak p a i is shown =
    shows-old (lowest_at m seen p) (keys_of m (ticked_past m seen sak p)) i
    (subst (λ u. reports_old i u ≡ true) (uses-said m seen sak p a is) shown)

pub said-transmitting : (m : Member) (seen : Seen) (sak : Secret) (p : List Entry)
    (a : Announcement) (u : Uses) (i : KeyId) → says_at m seen sak p ≡ Some a
    → a.uses ≡ Some u → transmits i u ≡ true
    → (k : Key) × (transmitting (keys_of m (ticked_past m seen sak p)) ≡ Some k) × (k.id ≡ i)
said-transmitting m seen sak p a u i is said shown =
    shows-transmitting (lowest_at m seen p) (keys_of m (ticked_past m seen sak p)) u i
    (sym (uses-said m seen sak p a is) ∙ said) shown
