-- A station that makes a key at a tick gives it in the announcement of that tick.
use Rattle.std.proofs.Common.{◌≡◌, refl, sym, ap, ◌∙◌, subst, inl, inr, List, [], ◌∷◌, map}
use Rattle.std.proofs.Common.{Bool, true, false, cond, not, ◌&&◌, ◌||◌, Option, Some, None, is_none}
use Rattle.std.specs.Prelude.{◌==◌, ◌+◌, nat_le, option_and_then}
use Rattle.std.specs.List.{list_all, list_any}
use lib.Pointwise.{pointwise}
use Rattle.std.proofs.lemmas.Bool.{and_parts, eq-eqb, eqb-true, true≢false}
use Rattle.lan_base.specs.declared.address.Mi.{Mi}
use Rattle.lan_base.specs.Identifiers.{same_mi, has}
use Rattle.lan_base.specs.Timers.{hello_time}
use Rattle.aes_block.specs.declared.secret.Secret.{Secret}
use Rattle.mkpdu_codec.specs.declared.announcement.Announcement.{Announcement}
use Rattle.peer_lists.specs.Acceptance.{Accepted}
use Rattle.peer_lists.specs.Histories.{clock}
use Rattle.peer_lists.proofs.Public.{same_mi-equal, same_mi-itself, by_test}
use Rattle.sak_exchange.specs.declared.due.Seen.{Seen}
use Rattle.sak_exchange.specs.declared.held_key.Key.{Key}
use Rattle.sak_exchange.specs.Histories.{Keying, installed as keys_installed}
use Rattle.sak_exchange.specs.Histories.{installs as installed_keys}
use Rattle.sak_exchange.specs.Held.{latest, received, is_latest}
use Rattle.sak_exchange.specs.Beginning.{is_latest_made}
use Rattle.sak_exchange.specs.Making.{is_in_roster, lists, made_key}
use Rattle.sak_exchange.specs.Reports.{reports as reports_key}
use Rattle.mka_station.specs.Lives.{Member, Entry, ticked, sent, heard, installed, began, peers_of}
use Rattle.mka_station.specs.Lives.{keys_of, elected_by, last_spoken}
use Rattle.mka_station.specs.Views.{View, view, reports, speakers, serves, is_server}
use Rattle.mka_station.specs.Announcing.{announcement, announces, given, given_as, gives, id_of}
use Rattle.mka_station.specs.Announcing.{is_due_since, same_key, same_option, same_shown, says_now}
use Rattle.mka_station.specs.Announcing.{shown}
use Rattle.mka_station.specs.Tick.{led, makes_now, says_at, ticked_past}
use Rattle.group_safety.proofs.Public.{In, in-any, some-same, none-some, view-keys}
use Rattle.group_safety.proofs.Public.{latest-installed, tick_key, tick_lowest, tick_roster}

-- ---- the key that was just installed

pub latest-new : (r : Option (List Mi)) (k : Key) (h : List Keying)
    → latest (keys_installed r k ∷ h) ≡ Some k
unfolding latest received
latest-new r k h = rw (eq-eqb k.epoch k.epoch refl) refl

test-latest : (test : Key → Bool) (r : Option (List Mi)) (k : Key) (h : List Keying)
    → is_latest (keys_installed r k ∷ h) test ≡ test k
test-latest test r k h = rw (latest-new r k h) refl

-- ---- what an install leaves of a view

live-kept : (m : Member) (r : Option (List Mi)) (k : Key) (p : List Entry)
    → (view m (installed r k ∷ p)).live ≡ (view m p).live
unfolding view peers_of
live-kept m r k p = refl

server-kept : (m : Member) (r : Option (List Mi)) (k : Key) (p : List Entry)
    → (view m (installed r k ∷ p)).server ≡ (view m p).server
unfolding view peers_of
server-kept m r k p = refl

keys-kept : (m : Member) (r : Option (List Mi)) (k : Key) (p : List Entry)
    → (view m (installed r k ∷ p)).keys ≡ keys_installed r k ∷ (view m p).keys
unfolding view keys_of
keys-kept m r k p = refl

-- ---- who is there

server-is : (m : Member) (p : List Entry) → (view m p).server ≡ elected_by m (view m p).live
unfolding view
server-is m p = refl

-- a station that serves has a live member
serves-some : (m : Member) (p : List Entry) → serves m (view m p) ≡ true
    → (w : Accepted) × In w (view m p).live
serves-some m p e = go (view m p).live refl
  where
    go : (words : List Accepted) → (view m p).live ≡ words → (w : Accepted) × In w (view m p).live
    go (w ∷ words) is = (w, subst (λ l. In w l) (sym is) (inl refl))
    go [] is =
        let none : (view m p).server ≡ None = server-is m p ∙ ap (elected_by m) is in
        absurd (true≢false (sym e ∙ ap (λ o. is_server o m.mi) none))

all-from : {A : Type 0} (p : A → Bool) (xs : List A) → ((x : A) → In x xs → p x ≡ true)
    → list_all p xs ≡ true
all-from p [] each = refl
all-from p (x ∷ xs) each = rw (each x (inl refl)) (all-from p xs (λ y i. each y (inr i)))

speakers-same : (words : List Accepted) → speakers words ≡ map (λ r. r.mi) (reports words)
speakers-same [] = refl
speakers-same (w ∷ words) = ap (λ l. w.told.mi ∷ l) (speakers-same words)

-- each live member is in the roster of a key that is made then
in-roster : (own n : Mi) (words : List Accepted) → In n (speakers words)
    → has n (own ∷ map (λ r. r.mi) (reports words)) ≡ true
in-roster own n words i =
    in-any (λ x. same_mi x n) (own ∷ map (λ r. r.mi) (reports words)) n
    (inr (subst (λ l. In n l) (speakers-same words) i)) (same_mi-itself n)

-- ---- a made key

-- what is known of a station that makes a key
record IsMaking (m : Member) (p : List Entry) : Type 0 where
  serving : serves m (view m (ticked ∷ p)) ≡ true
  no_lead : led m (view m (ticked ∷ p)) ≡ None

none-is : {A : Type 0} (o : Option A) → is_none o ≡ true → o ≡ None
none-is None e = refl
none-is (Some a) e = absurd (true≢false (sym e))

making : (m : Member) (seen : Seen) (sak : Secret) (p : List Entry) (key : Key)
    → tick_key m seen sak p ≡ Some key → IsMaking m p
making m seen sak p key e = go (makes_now m (view m (ticked ∷ p)) seen) refl e
  where
    v : View
    v = view m (ticked ∷ p)

    go : (b : Bool) → makes_now m v seen ≡ b
        → cond b (Some (made_key m.base m.mi v.keys m.setup.conf sak)) None ≡ Some key → IsMaking m p
    go false is f = absurd (none-some f)
    go true is f =
        let a = and_parts (serves m v) _ is in
        let b = and_parts (is_none (led m v)) _ a.1 in
        record { serving = a.0; no_lead = none-is (led m v) b.0 }

-- the history before the announcement
abbrev made_past : Member → Key → List Entry → List Entry
made_past m key p = installed (Some (tick_roster m p)) key ∷ ticked ∷ p

past-made : (m : Member) (seen : Seen) (sak : Secret) (p : List Entry) (key : Key)
    → tick_key m seen sak p ≡ Some key → ticked_past m seen sak p ≡ made_past m key p
past-made m seen sak p key e =
    let no = (making m seen sak p key e).no_lead in
    rw e (rw no refl)

-- ---- it is given

-- nobody who is live reports the key
abbrev pub IsUnreported : Member → List Entry → Key → Type 0
IsUnreported m p key =
    (w : Accepted) → In w (view m (ticked ∷ p)).live → reports_key key.id w.told.uses ≡ true → ⊥

false-not : (b : Bool) → (b ≡ true → ⊥) → not b ≡ true
false-not true never = absurd (never refl)
false-not false never = refl

gives-made : (m : Member) (p : List Entry) (key : Key) → IsMaking m p → IsUnreported m p key
    → gives m (view m (made_past m key p)) key ≡ true
gives-made m p key is unreported =
    rw (serving, latest_made, in_roster, one_without) refl
  where
    before : View
    before = view m (ticked ∷ p)

    v : View
    v = view m (made_past m key p)

    ms : List Mi
    ms = tick_roster m p

    keys : v.keys ≡ keys_installed (Some ms) key ∷ before.keys
    keys = keys-kept m (Some ms) key (ticked ∷ p)

    live : v.live ≡ before.live
    live = live-kept m (Some ms) key (ticked ∷ p)

    serving : serves m v ≡ true
    serving = ap (λ o. is_server o m.mi) (server-kept m (Some ms) key (ticked ∷ p)) ∙ is.serving

    latest_made : is_latest_made v.keys ≡ true
    latest_made = ap is_latest_made keys ∙ test-latest (λ k. true) (Some ms) key before.keys

    in_roster : list_all (is_in_roster v.keys) (speakers v.live) ≡ true
    in_roster = all-from (is_in_roster v.keys) (speakers v.live) (λ n i.
        ap (λ h. is_in_roster h n) keys ∙ test-latest (λ k. lists (Some ms) n) (Some ms) key before.keys
        ∙ in-roster m.mi n before.live (subst (λ l. In n (speakers l)) live i))

    one_without : list_any (λ a. not (reports_key key.id a.told.uses)) v.live ≡ true
    one_without = let w = serves-some m (ticked ∷ p) is.serving in
        ap (list_any (λ a. not (reports_key key.id a.told.uses))) live
        ∙ in-any (λ a. not (reports_key key.id a.told.uses)) before.live w.0 w.1
        (false-not (reports_key key.id w.0.told.uses) (unreported w.0 w.1))

given-made : (m : Member) (p : List Entry) (key : Key) → IsMaking m p → IsUnreported m p key
    → given m (view m (made_past m key p)) ≡ Some (given_as m.setup.kek key)
given-made m p key is unreported =
    let v = view m (made_past m key p) in
    let last : latest v.keys ≡ Some key =
    ap latest (keys-kept m (Some (tick_roster m p)) key (ticked ∷ p))
    ∙ latest-new (Some (tick_roster m p)) key (view m (ticked ∷ p)).keys in
    ap (option_and_then (λ k. cond (gives m v k) (Some (given_as m.setup.kek k)) None)) last
    ∙ ap (λ b. cond b (Some (given_as m.setup.kek key)) None)
    (gives-made m p key is unreported)

-- ---- it is announced

fourth-false : (a b c d e f : Bool) → d ≡ false → (a && (b && (c && (d && (e && f))))) ≡ false
fourth-false true true true true e f h = absurd (true≢false h)
fourth-false true true true false e f h = refl
fourth-false true true false d e f h = refl
fourth-false true false c d e f h = refl
fourth-false false b c d e f h = refl

or-second : (a b : Bool) → b ≡ true → (a || b) ≡ true
or-second true b e = refl
or-second false b e = e

-- what was installed when a station spoke last is installed
spoken-earlier : (m : Member) (p past : List Entry) (k : Key) → last_spoken p ≡ Some past
    → In k (installed_keys (keys_of m past)) → In k (installed_keys (keys_of m p))
unfolding keys_of
spoken-earlier m [] past k e i = absurd (none-some e)
spoken-earlier m (ticked ∷ p) past k e i = spoken-earlier m p past k e i
spoken-earlier m (sent a ∷ p) past k e i =
    subst (λ q. In k (installed_keys (keys_of m q))) (sym (some-same e)) i
spoken-earlier m (heard a ∷ p) past k e i = spoken-earlier m p past k e i
spoken-earlier m (installed r n ∷ p) past k e i = inr (spoken-earlier m p past k e i)
spoken-earlier m (began n ∷ p) past k e i = spoken-earlier m p past k e i

-- no key that the life installed has the identifier
abbrev pub IsNewIn : Member → List Entry → Key → Type 0
IsNewIn m p key = (k : Key) → In k (installed_keys (keys_of m p)) → k.id ≡ key.id → ⊥

other-key : (key : Key) (o : Option Key) → ((k : Key) → o ≡ Some k → k.id ≡ key.id → ⊥)
    → same_option same_key (Some key.id) (id_of o) ≡ false
other-key key None other = refl
other-key key (Some k) other =
    by_test (same_key key.id k.id)
    (λ y.
    let parts = and_parts (same_mi key.id.server k.id.server) (key.id.number == k.id.number) y in
    let server = same_mi-equal key.id.server k.id.server parts.0 in
    let number = eqb-true key.id.number k.id.number parts.1 in
    absurd (other k refl (λ t. record { server = sym server t; number = sym number t })))
    (λ y. y)

announces-made : (m : Member) (p : List Entry) (key : Key) → IsNewIn m p key
    → announces m (view m (made_past m key p)) (made_past m key p) ≡ true
announces-made m p key new = go (last_spoken p) refl
  where
    v : View
    v = view m (made_past m key p)

    now : (shown v).latest ≡ Some key.id
    now = ap (λ h. id_of (latest h)) (keys-kept m (Some (tick_roster m p)) key (ticked ∷ p))
        ∙ ap id_of (latest-new (Some (tick_roster m p)) key (view m (ticked ∷ p)).keys)

    changed : (past : List Entry) → last_spoken p ≡ Some past
        → same_shown (shown v) (shown (view m past)) ≡ false
    changed past is =
        let then = shown (view m past) in
        fourth-false (pointwise same_mi (shown v).live then.live)
        (pointwise same_mi (shown v).potential then.potential)
        (same_option same_mi (shown v).server then.server)
        (same_option same_key (shown v).latest then.latest)
        (same_option same_key (shown v).old then.old)
        (same_option same_key (shown v).transmitting then.transmitting)
        (ap (λ o. same_option same_key o (shown (view m past)).latest) now
        ∙ other-key key (latest (view m past).keys) (λ k last same.
        new k (spoken-earlier m p past k is
        (latest-installed (keys_of m past) k (ap latest (sym (view-keys m past)) ∙ last))) same))

    go : (o : Option (List Entry)) → last_spoken p ≡ o → is_due_since m v o ≡ true
    go None is = refl
    go (Some past) is =
        or-second (nat_le (clock (view m past).peers + hello_time) (clock v.peers))
        (not (same_shown (shown v) (shown (view m past)))) (ap not (changed past is))

-- what a station that makes a key says
pub record IsGivenBy (m : Member) (seen : Seen) (sak : Secret) (p : List Entry) (key : Key) : Type 0
  where
    pub says : Announcement
    pub said : says_at m seen sak p ≡ Some says
    pub mi : says.mi ≡ m.mi
    pub gift : says.given ≡ Some (given_as m.setup.kek key)

pub made-said : (m : Member) (seen : Seen) (sak : Secret) (p : List Entry) (key : Key)
    → tick_key m seen sak p ≡ Some key → IsUnreported m p key → IsNewIn m p key
    → IsGivenBy m seen sak p key
made-said m seen sak p key e unreported new =
    let is = making m seen sak p key e in
    let q = made_past m key p in
    let now : says_now m (tick_lowest m seen p) q (view m q)
    ≡ Some (announcement m (tick_lowest m seen p) (view m q)) = rw (announces-made m p key new) refl in
    record {
      says = announcement m (tick_lowest m seen p) (view m q);
      said = ap (λ w. says_now m (tick_lowest m seen p) w (view m w)) (past-made m seen sak p key e)
          ∙ now;
      mi = refl;
      gift = given-made m p key is unreported;
    }
