-- What a station may do at a tick.
use Rattle.std.proofs.Common.{◌≡◌, ◌<◌, ◌≤◌, ◌+◌, ◌^◌, refl, sym, ap, ◌∙◌, subst, inl, inr, ℕ, List}
use Rattle.std.proofs.Common.{[], ◌∷◌, ◌++◌, length, map, Bool, true, false, cond, Option, Some}
use Rattle.std.proofs.Common.{None, arith}
use Rattle.std.specs.Prelude.{option_map}
use Rattle.lan_base.specs.declared.address.Mi.{Mi}
use Rattle.lan_base.specs.Ranges.{IsCkn}
use Rattle.aes_block.specs.declared.secret.Secret.{Secret}
use Rattle.aes_block.specs.Aes.{IsKey as IsCipherKey}
use Rattle.aes_cmac.specs.Cmac.{cmac}
use Rattle.mkpdu_codec.specs.declared.announcement.Announcement.{Announcement}
use Rattle.mkpdu_codec.specs.Frames.{Spells}
use Rattle.mkpdu_codec.specs.Written.{written}
use Rattle.peer_lists.specs.Histories.{last_sent}
use Rattle.peer_lists.specs.Acceptance.{Accepted}
use Rattle.sak_exchange.specs.declared.due.Seen.{Seen}
use Rattle.sak_exchange.specs.declared.held_key.Key.{Key}
use Rattle.sak_exchange.specs.Histories.{Keying, installed}
use Rattle.sak_exchange.specs.Held.{latest}
use Rattle.sak_exchange.specs.Lives.{identifiers}
use Rattle.sak_exchange.specs.Beginning.{Beginning}
use Rattle.sak_exchange.specs.Making.{made_roster}
use Rattle.sak_exchange.specs.Outcomes.{beginning}
use Rattle.mka_station.specs.Lives.{Member, Entry, ticked, peers_of, keys_of}
use Rattle.mka_station.specs.Views.{View, view, reports, speakers}
use Rattle.mka_station.specs.Announcing.{lowest_in, announcement, frame_of, peer_of}
use Rattle.mka_station.specs.Tick.{tick_turn, led, made, ended, with_beginning}
use Rattle.mka_station.specs.Tick.{with_sent, install_changes}
use Rattle.mka_station.specs.Tick.{ticked_past, says_at}
use Rattle.lan_core.specs.Types.{IsSecret}
use Rattle.group_safety.proofs.Members.{In, in-map, in-from_map}
use Rattle.group_safety.proofs.once.Ledgers.{Handed, Made, Book, MayMake, MaySay, IsOwn}
use Rattle.group_safety.proofs.once.Histories.{heard_of, handed, made_of, deeds_of, with_key}
use Rattle.group_safety.proofs.once.Histories.{with_began, elects, keys-begun, keys-installed}
use Rattle.group_safety.proofs.once.Histories.{keys-ticked, view-keys, view-peers, sent-before}
use Rattle.group_safety.proofs.once.Histories.{heard-ticked, count-began, made-began}
use Rattle.group_safety.proofs.once.LiveHeard.{live-accepted, accepted-heard}
use Rattle.group_safety.proofs.once.KeysSound.{AreSound, IsKeyOf, sound-ticked, sound-began}
use Rattle.group_safety.proofs.once.KeysSound.{sound-made, sound-more, new-key, installed-key}
use Rattle.group_safety.proofs.once.KeysSound.{latest-installed, made-own}
use Rattle.group_safety.proofs.once.Rules.{IsMade, made-is, roster-is, said_by, named, said-now}
use Rattle.group_safety.proofs.once.Rules.{given-made, Hides}
use Rattle.group_safety.proofs.once.Ciphers.{hides}
use Rattle.group_safety.proofs.once.Frames.{IsRanged, frame-spells}
use Rattle.group_safety.proofs.once.Gists.{ChangesAre, changes-then, ended-quiet, begin-quiet}
use Rattle.group_safety.proofs.once.Gists.{install-is}

-- ---- the parts of a tick

abbrev pub tick_view : Member → List Entry → View
tick_view m p = view m (ticked ∷ p)

abbrev pub tick_key : Member → Seen → Secret → List Entry → Option Key
tick_key m seen sak p = made m (tick_view m p) seen sak

abbrev pub tick_roster : Member → List Entry → List Mi
tick_roster m p = made_roster m.mi (reports (tick_view m p).live)

abbrev pub tick_lead : Member → List Entry → Option Beginning
tick_lead m p = led m (tick_view m p)

abbrev pub tick_lowest : Member → Seen → List Entry → Key → ℕ
tick_lowest m seen p = lowest_in seen (view m p).keys

pub turn-past : (m : Member) (seen : Seen) (sak : Secret) (p : List Entry)
    → (tick_turn m seen sak p).past ≡ with_sent (says_at m seen sak p) (ticked_past m seen sak p)
unfolding tick_turn
turn-past m seen sak p = refl

pub turn-sent : (m : Member) (seen : Seen) (sak : Secret) (p : List Entry)
    → (tick_turn m seen sak p).reaction.sent ≡ option_map (frame_of m.setup)
    (says_at m seen sak p)
unfolding tick_turn
turn-sent m seen sak p = refl

pub turn-changes : (s : ℕ) (m : Member) (seen : Seen) (sak : Secret) (p : List Entry)
    → ChangesAre s (tick_turn m seen sak p).reaction.changes (tick_key m seen sak p)
unfolding tick_turn
turn-changes s m seen sak p =
    let h = (view m p).keys in
    let v = tick_view m p in
    let key = tick_key m seen sak p in
    let rest = install_changes v.keys (Some (tick_roster m p)) key in
    changes-then s (ended h v.server) ((beginning v.keys (tick_lead m p)).changes ++ rest) key
    (ended-quiet s h v.server)
    (changes-then s (beginning v.keys (tick_lead m p)).changes rest key
    (begin-quiet s v.keys (tick_lead m p)) (install-is s v.keys (Some (tick_roster m p)) key))

-- ---- the keys after a tick

ids-begun : (b : Option Beginning) (h : List Keying) → identifiers (with_began b h) ≡ identifiers h
ids-begun None h = refl
ids-begun (Some b) h = refl

pub sound-begun : (base : ℕ) (mi : Mi) (most : ℕ) (b : Option Beginning) (h : List Keying)
    → AreSound base mi most h
    → AreSound base mi most (with_began b h)
sound-begun base mi most None h v = v
sound-begun base mi most (Some b) h v = sound-began base mi most b.key.epoch h v

-- what is known before a tick
pub record IsReady (m : Member) (p : List Entry) (most : ℕ) : Type 0 where
  pub mi : length m.mi.0 ≡ 12
  pub keys : AreSound m.base m.mi most (keys_of m p)
  pub few : most + 1 < 2 ^ 32

-- the key history before an install
abbrev led_keys : Member → List Entry → List Keying
led_keys m p = with_began (tick_lead m p) (elects m p ∷ keys_of m p)

led-sound : (m : Member) (p : List Entry) (most : ℕ) → IsReady m p most
    → AreSound m.base m.mi most (led_keys m p)
led-sound m p most v =
    sound-begun m.base m.mi most (tick_lead m p) (elects m p ∷ keys_of m p)
    (sound-ticked m.base m.mi most _ (keys_of m p) v.keys)

tick-made : (m : Member) (seen : Seen) (sak : Secret) (p : List Entry) (k : Key)
    → tick_key m seen sak p ≡ Some k
    → IsMade m.base m.mi (elects m p ∷ keys_of m p) sak k
tick-made m seen sak p k e =
    subst (λ h. IsMade m.base m.mi h sak k) (view-keys m (ticked ∷ p) ∙ keys-ticked m p)
    (made-is m (tick_view m p) seen sak k e)

made-key-of : (m : Member) (p : List Entry) (most : ℕ) (sak : Secret) (k : Key) → IsReady m p most
    → IsSecret sak → IsMade m.base m.mi (elects m p ∷ keys_of m p) sak k
    → IsKeyOf m.base (led_keys m p) k
made-key-of m p most sak k v secret is =
    let few = v.keys.few in let most' = v.few in let number = is.number in
    record {
      epoch = is.epoch
          ∙ ap (λ (n : ℕ). (m.base + n) + 1)
          (sym (count-began (tick_lead m p) (elects m p ∷ keys_of m p)));
      server = ap (λ (n : Mi). length n.0) is.server ∙ v.mi;
      number = omega (arith, few, most', number);
      sak = subst IsSecret (sym is.same_sak) secret;
    }

-- with the key that is made
made-sound : (m : Member) (seen : Seen) (sak : Secret) (p : List Entry) (most : ℕ) (k : Key)
    → IsReady m p most
    → IsSecret sak → tick_key m seen sak p ≡ Some k
    → AreSound m.base m.mi (most + 1) (installed (Some (tick_roster m p)) k ∷ led_keys m p)
made-sound m seen sak p most k v secret e =
    let is = tick-made m seen sak p k e in
    sound-made m.base m.mi most (tick_roster m p) k (led_keys m p) (led-sound m p most v) is.server
    (is.number
    ∙ ap (λ (n : ℕ). n + 1) (sym (made-began (tick_lead m p) (elects m p ∷ keys_of m p))))
    (made-key-of m p most sak k v secret is)

past-keys : (m : Member) (seen : Seen) (sak : Secret) (p : List Entry)
    → keys_of m (ticked_past m seen sak p) ≡ with_key (Some (tick_roster m p))
    (tick_key m seen sak p)
    (led_keys m p)
past-keys m seen sak p =
    keys-installed m (Some (tick_roster m p)) (tick_key m seen sak p)
    (with_beginning (tick_lead m p) (ticked ∷ p))
    ∙ ap (with_key (Some (tick_roster m p)) (tick_key m seen sak p))
    (keys-begun m (tick_lead m p) (ticked ∷ p) ∙ ap (with_began (tick_lead m p)) (keys-ticked m p))

pub tick-sound : (m : Member) (seen : Seen) (sak : Secret) (p : List Entry) (most : ℕ)
    → IsReady m p most
    → ((k : Key) → tick_key m seen sak p ≡ Some k → IsSecret sak)
    → AreSound m.base m.mi (most + 1) (keys_of m (ticked_past m seen sak p))
tick-sound m seen sak p most v secret =
    subst (AreSound m.base m.mi (most + 1)) (sym (past-keys m seen sak p))
    (go (tick_key m seen sak p) refl)
  where
    go : (o : Option Key) → tick_key m seen sak p ≡ o
        → AreSound m.base m.mi (most + 1) (with_key (Some (tick_roster m p)) o (led_keys m p))
    go None e = sound-more m.base m.mi most (most + 1) (led_keys m p) (omega arith)
        (led-sound m p most v)
    go (Some k) e = made-sound m seen sak p most k v (secret k e) e

-- ---- a key is made

live-heard : (m : Member) (p : List Entry) (n : Mi) → In n (speakers (tick_view m p).live)
    → In n (map (λ a. a.mi) (heard_of p))
live-heard m p n i =
    let w = in-from_map (λ (a : Accepted). a.told.mi) (tick_view m p).live n i in
    let a = accepted-heard m (ticked ∷ p) w.0 (live-accepted m (ticked ∷ p) w.0 w.1) in
    subst (λ x. In x (map (λ (a : Announcement). a.mi) (heard_of p))) (sym (w.2 ∙ a.1.mi))
    (in-map (λ (a : Announcement). a.mi) (heard_of p) a.0 a.1.place)

pub tick-may-make : (b : Book) (s : ℕ) (m : Member) (seen : Seen) (sak : Secret) (p : List Entry)
    (most : ℕ) (k : Key)
    → b.life s ≡ Some (deeds_of m p) → IsReady m p most → IsSecret sak
    → tick_key m seen sak p ≡ Some k
    → MayMake b s (deeds_of m p) (record { key = handed k; roster = tick_roster m p })
tick-may-make b s m seen sak p most k living v secret e =
    let is = tick-made m seen sak p k e in
    record {
      living = living;
      own = is.server;
      new = λ i. new-key m.base m.mi (most + 1) (Some (tick_roster m p)) k (led_keys m p)
          (made-sound m seen sak p most k v secret e)
          (subst (λ w. In k.id w) (sym (ids-begun (tick_lead m p) (elects m p ∷ keys_of m p))) i);
      known = λ n i. elim (roster-is m.mi (tick_view m p) n i) [
        | inl same ↦ inl same
        | inr live ↦ inr (live-heard m p n live)
      ];
    }

-- ---- an announcement is sent

named-live : (m : Member) (v : View) (words : List Accepted) (n : Mi)
    → In n (named (map (peer_of m v) words))
    → In n (speakers words)
named-live m v [] n i = elim i [ ]
named-live m v (w ∷ words) n (inl e) = inl e
named-live m v (w ∷ words) n (inr i) = inr (named-live m v words n i)

pub announced-may : (b : Book) (s : ℕ) (m : Member) (lowest : Key → ℕ) (q : List Entry) (most : ℕ)
    → b.life s ≡ Some (deeds_of m q) → AreSound m.base m.mi most (keys_of m q)
    → IsCipherKey m.setup.kek
    → MaySay b s (deeds_of m q) (said_by m.setup.kek (announcement m lowest (view m q)))
announced-may b s m lowest q most living keys is_key =
    record { living = living; own = refl; gives = gives }
  where
    v : View
    v = view m q

    sound : AreSound m.base m.mi most v.keys
    sound = subst (AreSound m.base m.mi most) (sym (view-keys m q)) keys

    hidden : (n : Key) → latest v.keys ≡ Some n → Hides m.setup.kek n
    hidden n e =
        hides m.setup.kek n is_key
        (installed-key m.base v.keys n sound.keys (latest-installed v.keys n e)).sak

    gives : (k : Handed) → (said_by m.setup.kek (announcement m lowest v)).given ≡ Some k
        → (d : Made) × IsOwn (deeds_of m q) (said_by m.setup.kek (announcement m lowest v)) k d
    gives k e =
        let r = given-made m v k sound.keys hidden e in
        let own' = made-own m.mi v.keys r.0 sound.numbered r.1.place in (
          r.0,
          record {
            made = subst (λ h. In r.0 (made_of h)) (view-keys m q) r.1.place;
            key = r.1.same
                ∙ (λ i. record {
                  id = record { server = sym own' i; number = r.0.key.id.number };
                  an = r.0.key.an;
                  sak = r.0.key.sak;
                });
            listed = λ n i. r.1.for_all n (named-live m v v.live n i);
          },
        )

pub said-may : (b : Book) (s : ℕ) (m : Member) (seen : Seen) (sak : Secret) (p : List Entry)
    (most : ℕ)
    (a : Announcement) → b.life s ≡ Some (deeds_of m (ticked_past m seen sak p))
    → AreSound m.base m.mi most (keys_of m (ticked_past m seen sak p)) → IsCipherKey m.setup.kek
    → says_at m seen sak p ≡ Some a
    → MaySay b s (deeds_of m (ticked_past m seen sak p)) (said_by m.setup.kek a)
said-may b s m seen sak p most a living keys is_key e =
    subst (λ w. MaySay b s (deeds_of m (ticked_past m seen sak p)) (said_by m.setup.kek w))
    (said-now m (tick_lowest m seen p) (ticked_past m seen sak p)
    (view m (ticked_past m seen sak p)) a
    e)
    (announced-may b s m (tick_lowest m seen p) (ticked_past m seen sak p) most living keys is_key)

-- its frame spells it
lowest-small : (seen : Seen) (h : List Keying) (k : Key) → seen.latest < 2 ^ 32 → seen.old < 2 ^ 32
    → lowest_in seen h k < 2 ^ 32
lowest-small seen h k newer older = go _ _
  where
    go : (b c : Bool) → cond b seen.latest (cond c seen.old 1) < 2 ^ 32
    go true c = newer
    go false true = older
    go false false = omega arith

pub record SeenSmall (seen : Seen) : Type 0 where
  pub newer : seen.latest < 2 ^ 32
  pub older : seen.old < 2 ^ 32

pub record IsSpeaker (m : Member) (p : List Entry) (most : ℕ) : Type 0 where
  pub sci : length m.setup.sci.0 ≡ 8
  pub ckn : IsCkn m.setup.ckn
  pub ick : IsCipherKey m.setup.ick
  pub kek : IsCipherKey m.setup.kek
  pub sent : last_sent (peers_of m p) ≤ most
  pub heard : (a : Announcement) → In a (heard_of p) → IsRanged a

pub said-spells : (m : Member) (seen : Seen) (sak : Secret) (p : List Entry) (most : ℕ)
    (a : Announcement)
    → IsReady m p most → IsSpeaker m p most → SeenSmall seen
    → AreSound m.base m.mi (most + 1) (keys_of m (ticked_past m seen sak p))
    → says_at m seen sak p ≡ Some a
    → Spells (frame_of m.setup a) a (length (written a)) (cmac m.setup.ick (written a))
said-spells m seen sak p most a v w small keys e =
    let q = ticked_past m seen sak p in
    let sent = w.sent in let few = v.few in
    let same : last_sent (peers_of m q) ≡ last_sent (peers_of m p) =
    sent-before m (tick_roster m p) (tick_key m seen sak p) (tick_lead m p) p in
    subst (λ x. Spells (frame_of m.setup x) x (length (written x)) (cmac m.setup.ick (written x)))
    (said-now m (tick_lowest m seen p) q (view m q) a e)
    (frame-spells m q (tick_lowest m seen p) (record {
      sci = w.sci;
      mi = v.mi;
      ckn = w.ckn;
      ick = w.ick;
      kek = w.kek;
      mn = omega (arith, sent, few, same);
      heard = λ x i. w.heard x
          (subst (λ h. In x h)
          (heard-ticked None (tick_roster m p) (tick_key m seen sak p) (tick_lead m p) p) i);
      keys = keys.keys;
      low = λ k. lowest-small seen (view m p).keys k small.newer small.older;
    }))

-- the number that was sent last
pub announced-next : (m : Member) (seen : Seen) (sak : Secret) (p : List Entry) (a : Announcement)
    → says_at m seen sak p ≡ Some a → a.mn ≡ last_sent (peers_of m p) + 1
announced-next m seen sak p a e =
    let q = ticked_past m seen sak p in
    sym (ap (λ (x : Announcement). x.mn) (said-now m (tick_lowest m seen p) q (view m q) a e))
    ∙ ap (λ h. last_sent h + 1) (view-peers m q)
    ∙ ap (λ (n : ℕ). n + 1)
    (sent-before m (tick_roster m p) (tick_key m seen sak p) (tick_lead m p) p)
