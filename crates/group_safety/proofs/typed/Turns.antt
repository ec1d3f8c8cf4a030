-- What a station does has its fields in their types.
use Rattle.std.proofs.Common.{◌≡◌, ◌<◌, ◌≤◌, ◌+◌, ◌∙◌, ◌^◌, inl, inr, ℕ, Bool, true, false, cond, List, [], ◌∷◌, ◌++◌, map, filter, replicate}
use Rattle.std.proofs.Common.{Option, Some, None, is_some, refl, sym, ap, subst, arith}
use Rattle.std.specs.Prelude.{All, ◌||◌, option_map, option_to_list}
use Rattle.std.proofs.lemmas.List.{length-map}
use Rattle.std.proofs.lemmas.List.Elements.{All-nil, All-cons, All-append, All-take, All-replicate}
use Rattle.aes_block.specs.Aes.{IsKey as IsCipherKey}
use Rattle.aes_block.specs.declared.secret.Secret.{Secret}
use Rattle.aes_block.specs.declared.secret.Secret.TheVariants.{S128, S256}
use Rattle.aes_block.proofs.Public.{AreOctets-from_All}
use Rattle.aes_cmac.specs.Cmac.{cmac}
use Rattle.gcm_core.proofs.Public.{IsOctet}
use Rattle.gcm_frames.specs.Protected.{IsSci}
use Rattle.lan_base.specs.declared.address.Mi.{Mi}
use Rattle.lan_base.specs.Identifiers.{same_mi}
use Rattle.lan_base.specs.Ranges.{IsCkn}
use Rattle.mkpdu_codec.specs.declared.announcement.Announcement.{Announcement}
use Rattle.mkpdu_codec.specs.declared.given.Given.{Given}
use Rattle.mkpdu_codec.specs.declared.key_use.Uses.{Uses}
use Rattle.mkpdu_codec.specs.declared.peer.Peer.{Peer}
use Rattle.mkpdu_codec.specs.declared.refusal.Refusal.TheVariants as refusals
use Rattle.mkpdu_codec.specs.Written.{written}
use Rattle.peer_lists.specs.declared.heard.Outcome.TheVariants as outcomes
use Rattle.peer_lists.specs.Histories.{clock}
use Rattle.peer_lists.specs.Acceptance.{Accepted, accepted}
use Rattle.server_election.specs.declared.candidate.Candidate.{Candidate}
use Rattle.server_election.specs.Election.{elected as elected_among, eligible, may_serve, least, first_of, precedes}
use Rattle.sak_exchange.specs.declared.change.Change.{Change}
use Rattle.sak_exchange.specs.declared.change.Change.TheVariants as changes
use Rattle.sak_exchange.specs.declared.change.Why.TheVariants as whys
use Rattle.sak_exchange.specs.declared.due.Seen.{Seen}
use Rattle.sak_exchange.specs.declared.held_key.Key.{Key}
use Rattle.sak_exchange.specs.Beginning.{Beginning, retired}
use Rattle.sak_exchange.specs.Held.{received, latest, old, transmitting, ends, held, is_latest, is_retire_time_ago}
use Rattle.sak_exchange.specs.Histories.{Keying, ticked as key_ticked, installed as key_installed, began as key_began, installs, install_count, made_count, begun_at}
use Rattle.sak_exchange.specs.Histories as keying
use Rattle.sak_exchange.specs.Outcomes.{beginning, installing}
use Rattle.mka_station.specs.declared.reaction.Reaction.{Reaction}
use Rattle.mka_station.specs.declared.verdict.DropReason.TheVariants as reasons
use Rattle.mka_station.specs.declared.verdict.Verdict.{Verdict}
use Rattle.mka_station.specs.declared.verdict.Verdict.TheVariants as verdicts
use Rattle.mka_station.specs.Announcing.{peer_of, use_of, uses_of, given, wrapped_key, announcement, frame_of, lowest_in, same_option}
use Rattle.mka_station.specs.Lives.{Member, Entry, own, candidate, candidate_of, live_words, elected_by, peers_of, keys_of}
use Rattle.mka_station.specs.Lives as lives
use Rattle.mka_station.specs.Tick.{tick_turn, ended, led, made, install_changes, new_server, ticked_past, says_at, roster_at, with_sent, with_install, with_beginning}
use Rattle.mka_station.specs.Views.{View, view}
use Rattle.lan_core.specs.declared.fact.Fact.{Fact}
use Rattle.lan_core.specs.declared.fact.Fact.TheVariants as facts
use Rattle.lan_core.specs.Expected.{change_fact, reaction_facts}
use Rattle.lan_core.specs.Types.{AreOctets, IsMi, IsSecret, IfDrawn}
use Rattle.lan_core.specs.TypedFacts.{IsTypedId, IsTypedWhy, IsTypedVerdict, IsTypedFact}
use Rattle.group_safety.proofs.Members.{In, in-from_map, in-unfiltered}
use Rattle.group_safety.proofs.once.Currents.{some-same, none-some}
use Rattle.group_safety.proofs.once.Histories.{heard_of, view-keys, keys-said}
use Rattle.group_safety.proofs.once.LiveHeard.{live-accepted, potential-accepted, accepted-heard, peer-heard}
use Rattle.group_safety.proofs.once.KeysSound.{received-installed, latest-installed, old-installed}
use Rattle.group_safety.proofs.once.Rules.{made-is, given-is, said-now}
use Rattle.group_safety.proofs.once.Ciphers.{cmac-block, wrapped-octets}
use Rattle.group_safety.proofs.once.Frames.{all-from_in, live-few, potential-few}
use Rattle.group_safety.proofs.rollover.Begins.{led-is}
use Rattle.group_safety.proofs.typed.Announced.{IsHeard, IsSaid, IsUse, IsWrap, written-octets}

-- ---- keys

pub record IsTypedKey (k : Key) : Type 0 where
  pub id : IsTypedId k.id
  pub epoch : k.epoch < 2 ^ 32
  pub sak : IsSecret k.sak

abbrev pub AreTyped : List Keying → Type 0
AreTyped h = (k : Key) → In k (installs h) → IsTypedKey k

pub received-typed : (h : List Keying) → AreTyped h → (k : Key) → In k (received h) → IsTypedKey k
received-typed h are k i = are k (received-installed h k i)

-- ---- changes

abbrev pub IsTypedChange : Change → Type 0
IsTypedChange (changes.Dropped h) = IsTypedKey h.key
IsTypedChange (changes.Retired h) = IsTypedKey h.key
IsTypedChange (changes.Began h cause) = IsTypedKey h.key
IsTypedChange (changes.Installed h) = IsTypedKey h.key
IsTypedChange (changes.Untaken id why) = IsTypedId id × IsTypedWhy why

abbrev pub Each : List Change → Type 0
Each [] = Unit {0}
Each (c ∷ cs) = IsTypedChange c × Each cs

pub joined : (cs ds : List Change) → Each cs → Each ds → Each (cs ++ ds)
joined [] ds each later = later
joined (c ∷ cs) ds each later = (each.0, joined cs ds each.1 later)

pub drops-typed : (h : List Keying) (ks : List Key) → ((k : Key) → In k ks → IsTypedKey k)
    → Each (map (λ k. changes.Dropped (held h k)) ks)
drops-typed h [] all = tt
drops-typed h (k ∷ ks) all = (all k (inl refl), drops-typed h ks (λ j i. all j (inr i)))

retired-typed : (h : List Keying) (o : Option Key) → ((k : Key) → o ≡ Some k → IsTypedKey k)
    → Each (option_to_list (option_map (λ k. changes.Retired (held h k)) o))
retired-typed h None all = tt
retired-typed h (Some k) all = (all k refl, tt)

retired-old : (h : List Keying) (k : Key) → retired h ≡ Some k → old h ≡ Some k
retired-old h k is =
    go (is_latest h (λ k. is_retire_time_ago (keying.clock h + 1) (begun_at h k.epoch))) is
  where
    go : (b : Bool) → cond b (old h) None ≡ Some k → old h ≡ Some k
    go true e = e
    go false e = absurd (none-some e)

ended-typed : (h : List Keying) (server : Option Mi) → AreTyped h → Each (ended h server)
ended-typed h None are = drops-typed h (received h) (received-typed h are)
ended-typed h (Some server) are =
    retired-typed h (retired h) (λ k e. are k (old-installed h k (retired-old h k e)))

pub begun-typed : (h : List Keying) (b : Option Beginning) → AreTyped h
    → ((x : Beginning) → b ≡ Some x → latest h ≡ Some x.key) → Each (beginning h b).changes
begun-typed h None are of = tt
begun-typed h (Some x) are of = (are x.key (latest-installed h x.key (of x refl)), tt)

pub installing-typed : (h : List Keying) (r : Option (List Mi)) (k : Key) → AreTyped h → IsTypedKey k
    → Each (installing h r k).changes
installing-typed h r k are is =
    joined (map (λ j. changes.Dropped (held h j)) (filter (ends (key_installed r k) h) (received h))) _
    (drops-typed h (filter (ends (key_installed r k) h) (received h))
    (λ j i. received-typed h are j (in-unfiltered (ends (key_installed r k) h) (received h) j i)))
    (is, tt)

install-typed : (h : List Keying) (r : Option (List Mi)) (o : Option Key) → AreTyped h
    → ((k : Key) → o ≡ Some k → IsTypedKey k) → Each (install_changes h r o)
install-typed h r None are is = tt
install-typed h r (Some k) are is = installing-typed h r k are (is k refl)

-- ---- a reaction

pub record IsTypedReaction (re : Reaction) : Type 0 where
  pub heard : (v : Verdict) → re.heard ≡ Some v → IsTypedVerdict v
  pub server : (o : Option Mi) → re.server ≡ Some o → IfDrawn IsMi o
  pub changes : Each re.changes
  pub sent : (octets : List ℕ) → re.sent ≡ Some octets → AreOctets octets

if-told : {B : Type 0} (f : B → Fact) (o : Option B) → ((b : B) → o ≡ Some b → IsTypedFact (f b))
    → All IsTypedFact (option_to_list (option_map f o))
if-told f None is = All-nil IsTypedFact
if-told f (Some b) is = All-cons IsTypedFact (f b) [] (is b refl) (All-nil IsTypedFact)

changes-told : (s : ℕ) (cs : List Change) → Each cs → All IsTypedFact (map (change_fact s) cs)
changes-told s [] each = All-nil IsTypedFact
changes-told s (changes.Dropped h ∷ cs) each =
    All-cons IsTypedFact _ (map (change_fact s) cs) each.0.id (changes-told s cs each.1)
changes-told s (changes.Retired h ∷ cs) each =
    All-cons IsTypedFact _ (map (change_fact s) cs) each.0.id (changes-told s cs each.1)
changes-told s (changes.Began h cause ∷ cs) each =
    All-cons IsTypedFact _ (map (change_fact s) cs) (each.0.id, each.0.epoch)
    (changes-told s cs each.1)
changes-told s (changes.Installed h ∷ cs) each =
    All-cons IsTypedFact _ (map (change_fact s) cs) (each.0.id, each.0.epoch, each.0.sak)
    (changes-told s cs each.1)
changes-told s (changes.Untaken id why ∷ cs) each =
    All-cons IsTypedFact _ (map (change_fact s) cs) each.0 (changes-told s cs each.1)

pub reaction-told : (s number sent : ℕ) (re : Reaction) → number < 2 ^ 32 → sent < 2 ^ 32
    → IsTypedReaction re → All IsTypedFact (reaction_facts s number sent re)
reaction-told s number sent re one two is =
    All-append IsTypedFact (option_to_list (option_map (λ v. facts.HeardMka number s v) re.heard)) _
    (if-told (λ v. facts.HeardMka number s v) re.heard (λ v e. (one, is.heard v e)))
    (All-append IsTypedFact (option_to_list (option_map (λ o. facts.Server s o) re.server)) _
    (if-told (λ o. facts.Server s o) re.server is.server)
    (All-append IsTypedFact (map (change_fact s) re.changes) _ (changes-told s re.changes is.changes)
    (if-told (λ octets. facts.Framed sent s false octets) re.sent (λ octets e. (two, is.sent octets e)))))

-- ---- a station

-- what a station is set up with, and its identifier
pub record IsTypedMember (m : Member) : Type 0 where
  pub sci : IsSci m.setup.sci
  pub priority : m.setup.priority < 256
  pub named : IsCkn m.setup.ckn
  pub ckn : AreOctets m.setup.ckn
  pub kek : IsCipherKey m.setup.kek
  pub ick : IsCipherKey m.setup.ick
  pub mi : IsMi m.mi

abbrev pub AllHeard : List Entry → Type 0
AllHeard p = (a : Announcement) → In a (heard_of p) → IsHeard a

-- ---- who is elected

least-in : (xs : List Candidate) (x : Candidate) → least xs ≡ Some x → In x xs
least-in [] x is = absurd (none-some is)
least-in (y ∷ ys) x is =
    subst (λ z. In z (y ∷ ys)) (some-same is) (go (least ys) (least-in ys))
  where
    go : (o : Option Candidate) → ((z : Candidate) → o ≡ Some z → In z ys) → In (first_of y o) (y ∷ ys)
    go None later = inl refl
    go (Some z) later = pick (precedes z y)
      where
        pick : (b : Bool) → In (cond b z y) (y ∷ ys)
        pick true = inr (later z refl)
        pick false = inl refl

from-map : {A B : Type 0} (f : A → B) (o : Option A) (b : B) → option_map f o ≡ Some b
    → (a : A) × (o ≡ Some a) × (f a ≡ b)
from-map f None b is = absurd (none-some is)
from-map f (Some a) b is = (a, refl, some-same is)

elected-among : (own : Candidate) (cs : List Candidate) (mi : Mi) → elected_among own cs ≡ Some mi
    → (x : Candidate) × In x (own ∷ cs) × (x.mi ≡ mi)
elected-among own [] mi is = absurd (none-some is)
elected-among own (c ∷ cs) mi is =
    let r = from-map (λ (x : Candidate). x.mi) (least (eligible own (c ∷ cs))) mi is in
    (r.0, in-unfiltered may_serve (own ∷ c ∷ cs) r.0 (least-in (eligible own (c ∷ cs)) r.0 r.1), r.2)

pub server-typed : (m : Member) (p : List Entry) → IsMi m.mi → AllHeard p
    → IfDrawn IsMi (view m p).server
unfolding view
server-typed m p is all = go (elected_by m (live_words m (peers_of m p))) refl
  where
    by-one : (mi : Mi) (x : Candidate) → x.mi ≡ mi
        → In x (candidate m ∷ map candidate_of (live_words m (peers_of m p))) → IsMi mi
    by-one mi x same (inl e) = subst IsMi (ap (λ (w : Candidate). w.mi) (sym e) ∙ same) is
    by-one mi x same (inr i) =
        let w = in-from_map candidate_of (live_words m (peers_of m p)) x i in
        let h = accepted-heard m p w.0 (live-accepted m p w.0 w.1) in
        subst IsMi (sym h.1.mi ∙ ap (λ (w : Candidate). w.mi) (sym w.2) ∙ same) (all h.0 h.1.place).mi

    go : (o : Option Mi) → elected_by m (live_words m (peers_of m p)) ≡ o → IfDrawn IsMi o
    go None e = tt
    go (Some mi) e =
        let r = elected-among (candidate m) (map candidate_of (live_words m (peers_of m p))) mi e in
        by-one mi r.0 r.2 r.1

pub told-server : (before now : View) → IfDrawn IsMi now.server → (o : Option Mi)
    → new_server before now ≡ Some o → IfDrawn IsMi o
told-server before now is o e = go (same_option same_mi before.server now.server) e
  where
    go : (b : Bool) → cond b None (Some now.server) ≡ Some o → IfDrawn IsMi o
    go true f = absurd (none-some f)
    go false f = subst (IfDrawn IsMi) (some-same f) is

-- ---- what is said

peer-typed : (m : Member) (p : List Entry) (words : List Accepted) → AllHeard p
    → ((w : Accepted) → In w words → In w (accepted (own m) (peers_of m p)))
    → All (λ (q : Peer). IsMi q.mi) (map (peer_of m (view m p)) words)
peer-typed m p words all from =
    all-from_in (λ (q : Peer). IsMi q.mi) (map (peer_of m (view m p)) words) (λ q i.
    let r = in-from_map (peer_of m (view m p)) words q i in
    let h = peer-heard m p r.0 (from r.0 r.1) in
    subst (λ (q : Peer). IsMi q.mi) (sym r.2) (subst IsMi (sym h.same_mi) (all h.by h.heard).mi))

none-mi : IsMi (record { 0 = replicate 12 0 })
none-mi = (refl, All-replicate IsOctet 12 0 (omega arith))

use-typed : (sending : Option Key) (lowest : Key → ℕ) (o : Option Key)
    → ((k : Key) → o ≡ Some k → IsTypedKey k) → IsUse (use_of sending lowest o)
use-typed sending lowest None is = record { server = none-mi }
use-typed sending lowest (Some k) is = record { server = (is k refl).id.0 }

-- what is said of the latest key and of the old one
abbrev said_of : (Key → ℕ) → List Keying → Uses
said_of lowest h = record {
  latest = use_of (transmitting h) lowest (latest h);
  old = use_of (transmitting h) lowest (old h);
}

uses-typed : (lowest : Key → ℕ) (h : List Keying) → AreTyped h → (u : Uses)
    → uses_of lowest h ≡ Some u → IsUse u.latest × IsUse u.old
uses-typed lowest h are u is = go (is_some (latest h) || is_some (old h)) is
  where
    go : (b : Bool) → cond b (Some (said_of lowest h)) None ≡ Some u
        → IsUse u.latest × IsUse u.old
    go true e = subst (λ (w : Uses). IsUse w.latest × IsUse w.old) (some-same e) (
      use-typed (transmitting h) lowest (latest h) (λ k f. are k (latest-installed h k f)),
      use-typed (transmitting h) lowest (old h) (λ k f. are k (old-installed h k f)),
    )
    go false e = absurd (none-some e)

wrap-typed : (kek : List ℕ) (s : Secret) → IsCipherKey kek → IsSecret s
    → IsWrap (wrapped_key kek s)
wrap-typed kek (S128 octets) is_key is =
    let w = wrapped-octets kek octets 16 is_key (omega arith) is.0 is.1 in (w.count, w.octets)
wrap-typed kek (S256 octets) is_key is =
    let w = wrapped-octets kek octets 32 is_key (omega arith) is.0 is.1 in (w.count, w.octets)

given-typed : (m : Member) (v : View) → IsCipherKey m.setup.kek → AreTyped v.keys → (g : Given)
    → given m v ≡ Some g → IsWrap g.key
given-typed m v is_key are g is =
    let t = given-is m v g is in
    let known = are t.key (latest-installed v.keys t.key t.last) in
    subst (λ (x : Given). IsWrap x.key) (sym t.same) (wrap-typed m.setup.kek t.key.sak is_key known.sak)

pub said-typed : (m : Member) (p : List Entry) (lowest : Key → ℕ) → IsTypedMember m → AllHeard p
    → AreTyped (keys_of m p) → IsSaid (announcement m lowest (view m p))
said-typed m p lowest is all are = record {
  source = All-take IsOctet 6 m.setup.sci.0 is.sci.octets;
  priority = is.priority;
  sci = is.sci;
  mi = is.mi;
  named = is.named;
  ckn = is.ckn;
  live = peer-typed m p (view m p).live all (live-accepted m p);
  live_few = let l = length-map (view m p).live (peer_of m (view m p)) in let few = live-few m p in
      omega (arith, l, few);
  potential = peer-typed m p (view m p).potential all (potential-accepted m p);
  potential_few = let l = length-map (view m p).potential (peer_of m (view m p)) in
      let few = potential-few m p in omega (arith, l, few);
  uses = uses-typed lowest (view m p).keys keys;
  given = given-typed m (view m p) is.kek keys;
}
  where
    keys : AreTyped (view m p).keys
    keys = subst AreTyped (sym (view-keys m p)) are

frame-typed : (m : Member) (a : Announcement) → IsCipherKey m.setup.ick → IsSaid a
    → AreOctets (frame_of m.setup a)
frame-typed m a is_key is =
    let octets = written-octets a is in
    All-append IsOctet (written a) (cmac m.setup.ick (written a)) octets
    (cmac-block m.setup.ick (written a) is_key (AreOctets-from_All (written a) octets)).octets

-- ---- a tick

-- how many installs there are, at most
abbrev pub AreFew : Member → List Entry → Type 0
AreFew m p = m.base + install_count (keys_of m p) ≤ 4096

made-few : (h : List Keying) → made_count h ≤ install_count h
made-few [] = omega arith
made-few (key_ticked s ∷ h) = made-few h
made-few (key_installed None k ∷ h) = let less = made-few h in omega (arith, less)
made-few (key_installed (Some r) k ∷ h) = let less = made-few h in omega (arith, less)
made-few (key_began e ∷ h) = made-few h

tick-keys : (m : Member) (p : List Entry) → AreTyped (keys_of m p)
    → AreTyped (view m (lives.ticked ∷ p)).keys
unfolding view keys_of
tick-keys m p are = are

tick-few : (m : Member) (p : List Entry) → AreFew m p
    → m.base + install_count (view m (lives.ticked ∷ p)).keys ≤ 4096
unfolding view keys_of
tick-few m p few = few

pub made-typed : (m : Member) (seen : Seen) (sak : Secret) (p : List Entry) → IsMi m.mi → IsSecret sak
    → AreFew m p → (k : Key) → made m (view m (lives.ticked ∷ p)) seen sak ≡ Some k → IsTypedKey k
made-typed m seen sak p is secret few k e =
    let v = view m (lives.ticked ∷ p) in
    let t = made-is m v seen sak k e in
    let few' = tick-few m p few in
    let less = made-few v.keys in
    let number = t.number in
    let epoch = t.epoch in
    record {
      id = (subst IsMi (sym t.server) is, omega (arith, number, less, few'));
      epoch = omega (arith, epoch, few');
      sak = subst IsSecret (sym t.same_sak) secret;
    }

past-keys : (m : Member) (seen : Seen) (sak : Secret) (p : List Entry) → AreTyped (keys_of m p)
    → ((k : Key) → made m (view m (lives.ticked ∷ p)) seen sak ≡ Some k → IsTypedKey k)
    → AreTyped (keys_of m (ticked_past m seen sak p))
unfolding keys_of
past-keys m seen sak p are new =
    go (made m (view m (lives.ticked ∷ p)) seen sak) (led m (view m (lives.ticked ∷ p))) new
  where
    go : (o : Option Key) (b : Option Beginning) → ((k : Key) → o ≡ Some k → IsTypedKey k)
        → AreTyped (keys_of m (with_install (roster_at m p) o
        (with_beginning b (lives.ticked ∷ p))))
    go None None is = are
    go None (Some b) is = are
    go (Some k) None is = λ j i. elim i [
      | inl e ↦ subst IsTypedKey (sym e) (is k refl)
      | inr later ↦ are j later
    ]
    go (Some k) (Some b) is = λ j i. elim i [
      | inl e ↦ subst IsTypedKey (sym e) (is k refl)
      | inr later ↦ are j later
    ]

past-heard : (m : Member) (seen : Seen) (sak : Secret) (p : List Entry)
    → heard_of (ticked_past m seen sak p) ≡ heard_of p
past-heard m seen sak p =
    go (made m (view m (lives.ticked ∷ p)) seen sak) (led m (view m (lives.ticked ∷ p)))
  where
    go : (o : Option Key) (b : Option Beginning)
        → heard_of (with_install (roster_at m p) o
        (with_beginning b (lives.ticked ∷ p))) ≡ heard_of p
    go None None = refl
    go None (Some b) = refl
    go (Some k) None = refl
    go (Some k) (Some b) = refl

with-sent-heard : (a : Option Announcement) (p : List Entry) → heard_of (with_sent a p) ≡ heard_of p
with-sent-heard None p = refl
with-sent-heard (Some a) p = refl

-- what a station's turn leaves: what it shows, and its history then
pub record IsTypedTurn (m : Member) (re : Reaction) (past : List Entry) : Type 0 where
  pub reaction : IsTypedReaction re
  pub heard : AllHeard past
  pub keys : AreTyped (keys_of m past)

pub tick-typed : (m : Member) (seen : Seen) (sak : Secret) (p : List Entry) → IsTypedMember m
    → AllHeard p → AreTyped (keys_of m p) → IsSecret sak → AreFew m p
    → IsTypedTurn m (tick_turn m seen sak p).reaction (tick_turn m seen sak p).past
unfolding tick_turn
tick-typed m seen sak p is all are secret few = record {
  reaction = record {
    heard = λ v e. absurd (none-some e);
    server = told-server (view m p) now (server-typed m (lives.ticked ∷ p) is.mi all);
    changes = joined (ended (view m p).keys now.server) _
        (ended-typed (view m p).keys now.server (subst AreTyped (sym (view-keys m p)) are))
        (joined (beginning now.keys (led m now)).changes _
        (begun-typed now.keys (led m now) keys_now (λ x e. (led-is m now x e).latest_key))
        (install-typed now.keys (roster_at m p) (made m now seen sak) keys_now new));
    sent = λ octets e.
        let r = from-map (frame_of m.setup) (says_at m seen sak p) octets e in
        let same = said-now m (lowest_in seen (view m p).keys) (ticked_past m seen sak p)
        (view m (ticked_past m seen sak p)) r.0 r.1 in
        subst AreOctets r.2 (frame-typed m r.0 is.ick (subst IsSaid same
        (said-typed m (ticked_past m seen sak p) (lowest_in seen (view m p).keys) is heard_then keys_then)));
  };
  heard = λ a i. heard_then a (subst (λ w. In a w)
      (with-sent-heard (says_at m seen sak p) (ticked_past m seen sak p)) i);
  keys = subst AreTyped (sym (keys-said m (says_at m seen sak p) (ticked_past m seen sak p)))
      keys_then;
}
  where
    now : View
    now = view m (lives.ticked ∷ p)

    keys_now : AreTyped now.keys
    keys_now = tick-keys m p are

    new : (k : Key) → made m now seen sak ≡ Some k → IsTypedKey k
    new = made-typed m seen sak p is.mi secret few

    keys_then : AreTyped (keys_of m (ticked_past m seen sak p))
    keys_then = past-keys m seen sak p are new

    heard_then : AllHeard (ticked_past m seen sak p)
    heard_then a i = all a (subst (λ w. In a w) (past-heard m seen sak p) i)
