-- The rules of a station: which key is made, which is taken, and what is said.
use Rattle.std.proofs.Common.{◌≡◌, ◌+◌, refl, sym, ap, ◌∙◌, subst, inl, inr, ◌⊎◌, ℕ}
use Rattle.std.proofs.Common.{List, [], ◌∷◌, map, Bool, true, false, ◌&&◌, ◌||◌, cond, Option, Some}
use Rattle.std.proofs.Common.{None, Result, Ok, Err, is_some}
use Rattle.std.specs.Prelude.{option_map, option_and_then, nat_lt}
use Rattle.std.specs.List.{list_all}
use Rattle.std.specs.Option.{option_or}
use Rattle.std.proofs.lemmas.Bool.{and_parts, ltb-true, true≢false}
use Rattle.lan_base.specs.declared.address.Mi.{Mi}
use Rattle.lan_base.specs.Identifiers.{same_mi, same_sci, has}
use Rattle.aes_block.specs.declared.secret.Secret.{Secret}
use Rattle.mkpdu_codec.specs.declared.announcement.Announcement.{Announcement}
use Rattle.mkpdu_codec.specs.declared.given.Given.{Given}
use Rattle.mkpdu_codec.specs.declared.peer.Peer.{Peer}
use Rattle.peer_lists.specs.declared.heard.Outcome.{Outcome}
use Rattle.peer_lists.specs.declared.heard.Outcome.TheVariants.{Dropped}
use Rattle.peer_lists.specs.declared.heard.PeerRefusal.{PeerRefusal}
use Rattle.peer_lists.specs.declared.heard.PeerRefusal.TheVariants.{Echo}
use Rattle.peer_lists.specs.declared.heard.Heard.{Heard}
use Rattle.peer_lists.specs.Histories.{Peering, recent, clock}
use Rattle.peer_lists.specs.Acceptance.{Own, accepted, Accepted, outcome, refusal, echo}
use Rattle.peer_lists.proofs.Public.{same_mi-equal, by_test}
use Rattle.sak_exchange.specs.declared.change.Why.{Why}
use Rattle.sak_exchange.specs.declared.due.Seen.{Seen}
use Rattle.sak_exchange.specs.declared.offer.Offer.{Offer}
use Rattle.sak_exchange.specs.declared.held_key.Key.{Key}
use Rattle.sak_exchange.specs.Histories.{Keying, last_roster, install_count}
use Rattle.sak_exchange.specs.Histories.{made_count}
use Rattle.sak_exchange.specs.Held.{latest, allows}
use Rattle.sak_exchange.specs.Beginning.{is_latest_made}
use Rattle.sak_exchange.specs.Making.{made_key, made_roster}
use Rattle.sak_exchange.specs.Making.{is_in_roster, next_epoch}
use Rattle.sak_exchange.specs.Taking.{taken, judged, offered_key, provided, provided_new}
use Rattle.sak_exchange.specs.Taking.{unwrapped_key, greatest_of}
use Rattle.sak_exchange.specs.Taking.{is_supported, leaves_none}
use Rattle.sak_exchange.specs.declared.change.Why.TheVariants.{NotListed, NotServer}
use Rattle.sak_exchange.specs.declared.change.Why.TheVariants.{Seen as seen_why, Retiring, Suite}
use Rattle.sak_exchange.specs.declared.change.Why.TheVariants.{Offset}
use Rattle.sak_exchange.specs.Unwrapping.{given_sak}
use Rattle.sak_exchange.specs.Lives.{IsOver}
use Rattle.mka_station.specs.Lives.{Member, Entry, heard, own, told, peers_of}
use Rattle.mka_station.specs.Views.{View, view, reports, speakers, serves, is_server}
use Rattle.mka_station.specs.Announcing.{gives, given, given_as, wrapped_key, announcement, says_now, announces}
use Rattle.mka_station.specs.Tick.{made, makes_now}
use Rattle.mka_station.specs.Hearing.{outcome_of, is_accepted, is_listed, offered, taken_of}
use Rattle.mka_station.specs.Hearing.{key_taken}
use Rattle.group_safety.proofs.Members.{In, in-map, any-in, all-in}
use Rattle.group_safety.proofs.once.Ledgers.{Handed, Made, Said}
use Rattle.group_safety.proofs.once.Currents.{some-same, none-some}
use Rattle.group_safety.proofs.once.Histories.{handed, made_of}
use Rattle.group_safety.proofs.once.KeysSound.{AreKeys, latest-last, last-made}

pub in-has : (m : Mi) (ms : List Mi) → has m ms ≡ true → In m ms
in-has m [] e = absurd (true≢false (sym e))
in-has m (n ∷ ns) e =
    by_test (same_mi n m) (λ y. inl (sym (same_mi-equal n m y)))
    (λ y. inr (in-has m ns (rw y at e)))

-- ---- a made key

-- what is known of a key that is made
pub record IsMade (base : ℕ) (own : Mi) (h : List Keying) (sak : Secret) (k : Key) : Type 0 where
  pub server : k.id.server ≡ own
  pub number : k.id.number ≡ made_count h + 1
  pub epoch : k.epoch ≡ (base + install_count h) + 1
  pub same_sak : k.sak ≡ sak

pub made-is : (m : Member) (v : View) (seen : Seen) (sak : Secret) (k : Key)
    → made m v seen sak ≡ Some k
    → IsMade m.base m.mi v.keys sak k
made-is m v seen sak k e = go (makes_now m v seen) e
  where
    this : Key
    this = made_key m.base m.mi v.keys m.setup.conf sak

    go : (b : Bool) → cond b (Some this) None ≡ Some k → IsMade m.base m.mi v.keys sak k
    go true f = subst (IsMade m.base m.mi v.keys sak) (some-same f)
        (record {
          server = refl;
          number = refl;
          epoch = refl;
          same_sak =
              refl;
        })
    go false f = absurd (none-some f)

roster-live : (words : List Accepted) (n : Mi) → In n (map (λ r. r.mi) (reports words))
    → In n (speakers words)
roster-live [] n h = elim h [ ]
roster-live (w ∷ words) n (inl e) = inl e
roster-live (w ∷ words) n (inr h) = inr (roster-live words n h)

-- who is in its roster
pub roster-is : (own : Mi) (v : View) (n : Mi) → In n (made_roster own (reports v.live))
    → (n ≡ own) ⊎ In n (speakers v.live)
roster-is own v n (inl e) = inl e
roster-is own v n (inr i) = inr (roster-live v.live n i)

-- ---- a taken key

provided-ok : (b : Bool) (why : Why) (rest : Result Key Why) (k : Key) → provided b why rest ≡ Ok k
    → (b ≡ true) × (rest ≡ Ok k)
provided-ok true why rest k is = (refl, is)
provided-ok false why rest k is = absurd (cc is)

new-ok : (kept : Option ℕ) (number : ℕ) (rest : Result Key Why) (k : Key)
    → provided_new kept number rest ≡ Ok k → IsOver kept number × (rest ≡ Ok k)
new-ok None number rest k is = (tt, is)
new-ok (Some n) number rest k is =
    let both = provided-ok (nat_lt n number) (seen_why n) rest k is in
    (ltb-true n number both.0, both.1)

key-ok : (epoch : ℕ) (o : Offer) (sak : Option Secret) (k : Key) → unwrapped_key epoch o sak ≡ Ok k
    → (s : Secret) × (sak ≡ Some s) × (k ≡ offered_key epoch o s)
key-ok epoch o None k is = absurd (cc is)
key-ok epoch o (Some s) k is =
    let same : Ok (offered_key epoch o s) ≡ Ok k = is in
    let key : offered_key epoch o s ≡ k = cc same in
    (s, refl, sym key)

-- what is known of an offer that is taken
record IsOfferTaken (kept : Option ℕ) (allowed : Bool) (epoch : ℕ) (o : Offer) (sak : Option Secret)
    (k : Key) : Type 0 where
  listed : o.listed ≡ true
  elected : o.elected ≡ true
  over : IsOver kept o.given.number
  may_take : allowed ≡ true
  secret : Secret
  hidden : sak ≡ Some secret
  same : k ≡ offered_key epoch o secret

judged-ok : (kept : Option ℕ) (allowed : Bool) (epoch : ℕ) (o : Offer) (sak : Option Secret)
    (k : Key)
    → judged kept allowed epoch o sak ≡ Ok k → IsOfferTaken kept allowed epoch o sak k
judged-ok kept allowed epoch o sak k is =
    let a = provided-ok o.listed NotListed _ k is in
    let b = provided-ok o.elected NotServer _ k a.1 in
    let c = new-ok kept o.given.number _ k b.1 in
    let d = provided-ok allowed Retiring _ k c.1 in
    let e = provided-ok (is_supported o.given.key) Suite _ k d.1 in
    let f = provided-ok (leaves_none o.given.offset) Offset _ k e.1 in
    let g = key-ok epoch o sak k f.1 in
    record {
      listed = a.0;
      elected = b.0;
      over = c.0;
      may_take = d.0;
      secret = g.0;
      hidden = g.1;
      same = g.2;
    }

-- what is known of a key that an announcement gives and a station takes, by what it sees then
pub record IsTaking (m : Member) (v : View) (o : Outcome) (a : Announcement) (k : Key) : Type 0
  where
    pub gift : Given
    pub gives : a.given ≡ Some gift
    pub accepted : is_accepted o ≡ true
    pub listed : is_listed m v.peers a ≡ true
    pub elected : is_server v.server a.mi ≡ true
    pub server : k.id.server ≡ a.mi
    pub number : k.id.number ≡ gift.number
    pub an : k.an ≡ gift.an
    pub hidden : given_sak m.setup.kek gift.key ≡ Some k.sak
    pub over : IsOver (greatest_of a.mi v.keys) k.id.number
    pub allowed : allows v.keys ≡ true
    pub epoch : k.epoch ≡ next_epoch m.base v.keys

pub taking-is : (m : Member) (v : View) (o : Outcome) (a : Announcement) (k : Key)
    → key_taken (taken_of m v (offered m v o a)) ≡ Some k → IsTaking m v o a k
taking-is m v o a k e = go (is_accepted o) refl a.given refl e
  where
    offer : Given → Offer
    offer g =
        record {
          given = g;
          server = a.mi;
          listed = is_listed m v.peers a;
          elected =
              is_server v.server a.mi;
        }

    answer : (g : Given) (r : Result Key Why) → a.given ≡ Some g → is_accepted o ≡ true
        → taken m.base v.keys (offer g) (given_sak m.setup.kek g.key) ≡ r → key_taken (Some r) ≡ Some k
        → IsTaking m v o a k
    answer g (Err why) given ok is f = absurd (none-some f)
    answer g (Ok n) given ok is f =
        let t = judged-ok (greatest_of a.mi v.keys) (allows v.keys) (next_epoch m.base v.keys)
        (offer g)
        (given_sak m.setup.kek g.key) n is in
        subst (IsTaking m v o a) (some-same f) (record {
          gift = g;
          gives = given;
          accepted = ok;
          listed = t.listed;
          elected = t.elected;
          server = ap (λ (w : Key). w.id.server) t.same;
          number = ap (λ (w : Key). w.id.number) t.same;
          an = ap (λ (w : Key). w.an) t.same;
          hidden = t.hidden ∙ ap (λ (w : Key). Some w.sak) (sym t.same);
          over = subst (IsOver (greatest_of a.mi v.keys))
              (sym (ap (λ (w : Key). w.id.number) t.same)) t.over;
          allowed = t.may_take;
          epoch = ap (λ (w : Key). w.epoch) t.same;
        })

    go : (b : Bool) → is_accepted o ≡ b → (g : Option Given) → a.given ≡ g
        → key_taken (taken_of m v (cond b (option_map offer g) None)) ≡ Some k
        → IsTaking m v o a k
    go false ok g given f = absurd (none-some f)
    go true ok None given f = absurd (none-some f)
    go true ok (Some g) given f =
        answer g (taken m.base v.keys (offer g) (given_sak m.setup.kek g.key)) given ok refl f

-- an announcement that is accepted is of another member
or-none : (o p : Option PeerRefusal) → option_or o p ≡ None → o ≡ None
or-none None p e = refl
or-none (Some a) p e = absurd (cc e)

or-false : (b c : Bool) → (b || c) ≡ false → b ≡ false
or-false true c e = absurd (cc e)
or-false false c e = refl

no-echo : (b : Bool) → cond b (Some Echo) None ≡ None → b ≡ false
no-echo true e = absurd (cc e)
no-echo false e = refl

unrefused : (r : Option PeerRefusal) (o : Outcome)
    → is_accepted (elim r [ None ↦ o | Some reason ↦ Dropped reason ]) ≡ true → r ≡ None
unrefused None o e = refl
unrefused (Some reason) o e = absurd (true≢false (sym e))

accepted-other : (o : Own) (h : List Peering) (x : Heard) → is_accepted (outcome o h x) ≡ true
    → same_mi x.mi o.mi ≡ false
unfolding outcome refusal
accepted-other o h x e =
    let none = unrefused (refusal o (clock h) (accepted o h) x) _ e in
    or-false (same_mi x.mi o.mi) (same_sci x.sci o.sci)
    (no-echo (same_mi x.mi o.mi || same_sci x.sci o.sci) (or-none (echo o x) _ none))

-- the members that a list of peers names
abbrev pub named : List Peer → List Mi
named ps = map (λ q. q.mi) ps

-- what is known of a key that is taken
pub record IsKeyOfAnnouncement (m : Member) (h : List Keying) (a : Announcement) (k : Key) : Type 0 where
  pub gift : Given
  pub gives : a.given ≡ Some gift
  pub listed : In m.mi (named a.live)
  pub server : k.id.server ≡ a.mi
  pub number : k.id.number ≡ gift.number
  pub an : k.an ≡ gift.an
  pub hidden : given_sak m.setup.kek gift.key ≡ Some k.sak
  pub other : same_mi a.mi m.mi ≡ false
  pub over : IsOver (greatest_of a.mi h) k.id.number
  pub epoch : k.epoch ≡ (m.base + install_count h) + 1

listed-in : (m : Member) (h : List Peering) (a : Announcement) → is_listed m h a ≡ true
    → In m.mi (named a.live)
listed-in m h a e =
    let r = any-in (λ q. same_mi q.mi m.mi && recent h q.mn) a.live e in
    let both = and_parts (same_mi r.0.mi m.mi) (recent h r.0.mn) r.2 in
    subst (λ w. In w (named a.live)) (same_mi-equal r.0.mi m.mi both.0)
    (in-map (λ q. q.mi) a.live r.0 r.1)

offer-taken : (m : Member) (v : View) (a : Announcement) (k : Key) (o : Outcome)
    → (is_accepted o ≡ true → same_mi a.mi m.mi ≡ false)
    → key_taken (taken_of m v (offered m v o a)) ≡ Some k → IsKeyOfAnnouncement m v.keys a k
offer-taken m v a k o others e =
    let t = taking-is m v o a k e in
    record {
      gift = t.gift;
      gives = t.gives;
      listed = listed-in m v.peers a t.listed;
      server = t.server;
      number = t.number;
      an = t.an;
      hidden = t.hidden;
      other = others t.accepted;
      over = t.over;
      epoch = t.epoch;
    }

-- the key that a hearing takes
abbrev pub key_heard : Member → Announcement → List Entry → Option Key
key_heard m a p =
    let v = view m (heard a ∷ p) in
    key_taken (taken_of m v (offered m v (outcome_of m p a) a))

pub taken-is : (m : Member) (a : Announcement) (p : List Entry) (k : Key) → key_heard m a p ≡ Some k
    → IsKeyOfAnnouncement m (view m (heard a ∷ p)).keys a k
taken-is m a p k e =
    let h = peers_of m p in
    offer-taken m (view m (heard a ∷ p)) a k (outcome_of m p a)
    (λ ok. accepted-other (own m) h (told m.mi (recent h) a) ok) e

-- ---- what is said

-- what an announcement says to the ledgers, under the key encrypting key of its group
abbrev pub handed_by : List ℕ → Mi → Given → Option Handed
handed_by kek server g =
    option_map
    (λ sak. record {
      id = record { server = server; number = g.number };
      an = g.an;
      sak =
          sak;
    })
    (given_sak kek g.key)

abbrev pub said_by : List ℕ → Announcement → Said
said_by kek a =
    record { mi = a.mi; live = named a.live; given = option_and_then (handed_by kek a.mi) a.given }

-- what a taken key is to the ledgers is what its announcement hands out
pub taken-handed : (m : Member) (h : List Keying) (a : Announcement) (k : Key) → IsKeyOfAnnouncement m h a k
    → (said_by m.setup.kek a).given ≡ Some (handed k)
taken-handed m h a k t =
    ap (option_and_then (handed_by m.setup.kek a.mi)) t.gives
    ∙ ap (option_map
    (λ sak. record {
      id = record { server = a.mi; number = t.gift.number };
      an =
          t.gift.an;
      sak = sak;
    })) t.hidden
    ∙ (λ i. Some
    (record {
      id = record { server = sym t.server i; number = sym t.number i };
      an =
          sym t.an i;
      sak = k.sak;
    }))

-- whether a wrap hides what was wrapped
abbrev pub Hides : List ℕ → Key → Type 0
Hides kek k = given_sak kek (wrapped_key kek k.sak) ≡ Some k.sak

given-handed : (kek : List ℕ) (own : Mi) (k : Key) → Hides kek k
    → handed_by kek own (given_as kek k)
    ≡ Some (record { id = record { server = own; number = k.id.number }; an = k.an; sak = k.sak })
given-handed kek own k e =
    ap (option_map
    (λ sak. record { id = record { server = own; number = k.id.number }; an = k.an; sak = sak })) e

-- what is known of what a station gives
pub record IsGiving (m : Member) (v : View) (g : Given) : Type 0 where
  pub key : Key
  pub last : latest v.keys ≡ Some key
  pub same : g ≡ given_as m.setup.kek key
  pub roster : List Mi
  pub made_here : last_roster v.keys ≡ Some roster
  pub for_all : (n : Mi) → In n (speakers v.live) → In n roster

some-is : {A : Type 0} (o : Option A) → is_some o ≡ true → (a : A) × (o ≡ Some a)
some-is None e = absurd (true≢false (sym e))
some-is (Some a) e = (a, refl)

pub given-is : (m : Member) (v : View) (g : Given) → given m v ≡ Some g → IsGiving m v g
given-is m v g e = go (latest v.keys) refl e
  where
    pick : Key → Option Given
    pick k = cond (gives m v k) (Some (given_as m.setup.kek k)) None

    parts : (k : Key) → latest v.keys ≡ Some k → gives m v k ≡ true
        → given_as m.setup.kek k ≡ g → IsGiving m v g
    parts k last may same =
        let a = and_parts (serves m v) _ may in
        let b = and_parts (is_latest_made v.keys) _ a.1 in
        let c = and_parts (list_all (is_in_roster v.keys) (speakers v.live)) _ b.1 in
        let made : is_some (last_roster v.keys) ≡ true = rw last at b.0 in
        let r = some-is (last_roster v.keys) made in
        record {
          key = k;
          last = last;
          same = sym same;
          roster = r.0;
          made_here = r.1;
          for_all = λ n i. let all = all-in (is_in_roster v.keys) (speakers v.live) c.0 n i in
              let in_it : has n r.0 ≡ true = rw (last, r.1) at all in in-has n r.0 in_it;
        }

    go : (o : Option Key) → latest v.keys ≡ o → option_and_then pick o ≡ Some g → IsGiving m v g
    go None last f = absurd (none-some f)
    go (Some k) last f = chosen (gives m v k) refl f
      where
        chosen : (b : Bool) → gives m v k ≡ b
            → cond b (Some (given_as m.setup.kek k)) None ≡ Some g → IsGiving m v g
        chosen true may f = parts k last may (some-same f)
        chosen false may f = absurd (none-some f)

pub said-now : (m : Member) (lowest : Key → ℕ) (p : List Entry) (v : View) (a : Announcement)
    → says_now m lowest p v ≡ Some a → announcement m lowest v ≡ a
said-now m lowest p v a e = go (announces m v p) e
  where
    go : (b : Bool) → cond b (Some (announcement m lowest v)) None ≡ Some a
        → announcement m lowest v ≡ a
    go true f = some-same f
    go false f = absurd (none-some f)

-- the key that is given is one that the life made
pub record IsOfMade (kek : List ℕ) (own : Mi) (v : View) (k : Handed) (d : Made) : Type 0 where
  pub place : In d (made_of v.keys)
  pub same : k
      ≡ record {
        id = record { server = own; number = d.key.id.number };
        an = d.key.an;
        sak =
            d.key.sak;
      }
  pub for_all : (n : Mi) → In n (speakers v.live) → In n d.roster

pub given-made : (m : Member) (v : View) (k : Handed) → AreKeys m.base v.keys
    → ((n : Key) → latest v.keys ≡ Some n → Hides m.setup.kek n)
    → option_and_then (handed_by m.setup.kek m.mi) (given m v) ≡ Some k
    → (d : Made) × IsOfMade m.setup.kek m.mi v k d
given-made m v k keys hides e = go (given m v) refl e
  where
    go : (o : Option Given) → given m v ≡ o
        → option_and_then (handed_by m.setup.kek m.mi) o ≡ Some k
        → (d : Made) × IsOfMade m.setup.kek m.mi v k d
    go None is f = absurd (none-some f)
    go (Some g) is f =
        let t = given-is m v g is in
        let n = t.key in
        let last = latest-last m.base v.keys n keys t.last in
        let whole = given-handed m.setup.kek m.mi n (hides n t.last) in (
          record { key = handed n; roster = t.roster },
          record {
            place = last-made v.keys n t.roster last t.made_here;
            same = some-same (sym f ∙ ap (handed_by m.setup.kek m.mi) t.same ∙ whole);
            for_all = t.for_all;
          },
        )
