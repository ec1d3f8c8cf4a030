-- What a station does when it hears a frame, or starts again, has its fields in their types.
use Rattle.std.proofs.Common.{◌≡◌, ◌<◌, ◌≤◌, ◌+◌, ◌^◌, inl, inr, ℕ, Bool, true, false, cond, max, List, [], ◌∷◌, filter, Option, Some, None, Result, Ok, Err, refl, sym, subst, arith, nat_lt, nat_le}
use Rattle.std.specs.List.{list_any}
use Rattle.std.specs.Prelude.{◌↔◌, ◌||◌, ◌&&◌, length, not, nat_eq, take, option_map, unwrap_or}
use Rattle.std.specs.Option.{option_or}
use lib.Pointwise.{pointwise}
use Rattle.aes_cmac.specs.Cmac.{cmac}
use Rattle.aes_block.specs.declared.secret.Secret.{Secret}
use Rattle.lan_base.specs.declared.address.Mi.{Mi}
use Rattle.lan_base.specs.Identifiers.{same_mi, same_sci}
use Rattle.mkpdu_codec.specs.declared.announcement.Announcement.{Announcement}
use Rattle.mkpdu_codec.specs.declared.given.Given.{Given}
use Rattle.mkpdu_codec.specs.declared.refusal.Refusal.{Refusal}
use Rattle.mkpdu_codec.specs.declared.spelled.Spelled.{Spelled}
use Rattle.mkpdu_codec.specs.Reading.{reading}
use Rattle.mkpdu_codec.specs.Refusals.{refused}
use Rattle.mkpdu_codec.proofs.Public.{read_is_spelled, IsBytes-all}
use Rattle.peer_lists.specs.declared.heard.Heard.{Heard}
use Rattle.peer_lists.specs.declared.heard.Outcome.{Outcome}
use Rattle.peer_lists.specs.declared.heard.Outcome.TheVariants as outcomes
use Rattle.peer_lists.specs.declared.heard.PeerRefusal.{PeerRefusal}
use Rattle.peer_lists.specs.declared.heard.PeerRefusal.TheVariants.{Echo, OldNumber, PeersFull}
use Rattle.peer_lists.specs.Histories.{Peering, clock, recent}
use Rattle.peer_lists.specs.Acceptance.{Own, Accepted, accepted, refusal, vouches, outcome, echo, old_number, peers_full, young_numbers, is_young_of, members, most_peers, greatest}
use Rattle.sak_exchange.specs.declared.change.Why.{Why}
use Rattle.sak_exchange.specs.declared.change.Why.TheVariants as whys
use Rattle.sak_exchange.specs.declared.held_key.Key.{Key}
use Rattle.sak_exchange.specs.declared.offer.Offer.{Offer}
use Rattle.sak_exchange.specs.Beginning.{Beginning}
use Rattle.sak_exchange.specs.Held.{received, allows}
use Rattle.sak_exchange.specs.Histories.{Keying, ticked as key_ticked, installed as key_installed, began as key_began, install_count}
use Rattle.sak_exchange.specs.Outcomes.{beginning}
use Rattle.sak_exchange.specs.Making.{next_epoch}
use Rattle.sak_exchange.specs.Taking.{taken, provided, provided_new, unwrapped_key, greatest_of, is_supported, leaves_none}
use Rattle.sak_exchange.specs.Unwrapping.{given_sak}
use Rattle.mka_station.specs.declared.verdict.DropReason.{DropReason}
use Rattle.mka_station.specs.declared.verdict.DropReason.TheVariants as reasons
use Rattle.mka_station.specs.declared.verdict.Verdict.TheVariants as verdicts
use Rattle.mka_station.specs.Hearing.{judged, read_as, of_group, hear_turn, heard_turn, frame_turn, verdict_of, outcome_of, taken_of, take_changes, key_taken, is_accepted, is_listed, offer_at, answer_at, taken_past, follow_at}
use Rattle.mka_station.specs.Lives.{Setup, Member, Entry, own, told, peers_of, keys_of}
use Rattle.mka_station.specs.Lives as lives
use Rattle.mka_station.specs.Restart.{ending, lost_server}
use Rattle.mka_station.specs.Tick.{with_install, with_beginning}
use Rattle.mka_station.specs.Views.{View, view, is_server}
use Rattle.lan_core.specs.Types.{AreOctets, IsMi, IfDrawn}
use Rattle.lan_core.specs.TypedFacts.{IsTypedId, IsTypedWhy, IsTypedReason, IsTypedPeerRefusal, IsTypedVerdict}
use Rattle.group_safety.proofs.Members.{In, in-from_map, in-unfiltered}
use Rattle.group_safety.proofs.once.Currents.{some-same, none-some}
use Rattle.group_safety.proofs.once.Histories.{heard_of, view-keys}
use Rattle.group_safety.proofs.once.LiveHeard.{accepted-heard}
use Rattle.group_safety.proofs.once.Rules.{taking-is}
use Rattle.group_safety.proofs.once.Ciphers.{unwrapped-secret}
use Rattle.group_safety.proofs.rollover.Begins.{following-is}
use Rattle.group_safety.proofs.typed.Announced.{IsHeard, spelled-typed, refusal-typed}
use Rattle.group_safety.proofs.typed.Turns.{IsTypedKey, AreTyped, Each, joined, drops-typed, begun-typed, installing-typed, IsTypedReaction, IsTypedMember, AllHeard, AreFew, IsTypedTurn, server-typed, told-server, received-typed}

-- ---- what a frame is judged

-- reading refuses exactly what is refused
abbrev pub Refuses : Type 0
Refuses = (frame : List ℕ) (e : Refusal) → (refused frame ≡ Some e) ↔ (reading frame ≡ Err e)

abbrev IsJudged : Result Announcement DropReason → Type 0
IsJudged (Ok a) = IsHeard a
IsJudged (Err reason) = IsTypedReason reason

group-judged : (setup : Setup) (frame : List ℕ) (s : Spelled) → IsHeard s.announcement
    → IsJudged (of_group setup frame s)
group-judged setup frame s is =
    go (not (pointwise nat_eq s.announcement.ckn setup.ckn))
    (not (pointwise nat_eq s.check (cmac setup.ick (take s.covered frame))))
  where
    go : (a b : Bool)
        → IsJudged (cond a (Err reasons.CkName) (cond b (Err reasons.Check) (Ok s.announcement)))
    go true b = tt
    go false true = tt
    go false false = is

pub judged-typed : Refuses → (setup : Setup) (frame : List ℕ) → AreOctets frame
    → IsJudged (judged setup frame)
unfolding judged
judged-typed refuses setup frame all = go (reading frame) refl
  where
    go : (r : Result Spelled Refusal) → reading frame ≡ r → IsJudged (read_as setup frame r)
    go (Ok s) e = group-judged setup frame s
        (spelled-typed frame s.announcement s.covered s.check all (read_is_spelled frame s (IsBytes-all frame all) e))
    go (Err x) e = refusal-typed frame x all ((refuses frame x).1 e)

-- ---- an outcome

greatest-small : (ns : List ℕ) (most : ℕ) → ((n : ℕ) → In n ns → n < most) → (k : ℕ)
    → greatest ns ≡ Some k → k < most
greatest-small [] most all k is = absurd (none-some is)
greatest-small (n ∷ ns) most all k is =
    let same : max n (unwrap_or (greatest ns) 0) ≡ k = some-same is in
    let first = all n (inl refl) in
    let rest = go (greatest ns) (greatest-small ns most (λ m i. all m (inr i))) first in
    omega (arith, same, first, rest)
  where
    go : (o : Option ℕ) → ((k : ℕ) → o ≡ Some k → k < most) → n < most → unwrap_or o 0 < most
    go None less first = omega (arith, first)
    go (Some m) less first = less m refl

abbrev IsOutcome : Outcome → Type 0
IsOutcome o = IsTypedVerdict (verdict_of o)

abbrev IfPeers : Option PeerRefusal → Type 0
IfPeers None = Unit {0}
IfPeers (Some refusal) = IsTypedPeerRefusal refusal

or-peers : (a b : Option PeerRefusal) → IfPeers a → IfPeers b → IfPeers (option_or a b)
or-peers None b is too = too
or-peers (Some refusal) b is too = is

old-typed : (now : ℕ) (past : List Accepted) (x : Heard)
    → ((w : Accepted) → In w past → w.told.mn < 2 ^ 32) → IfPeers (old_number now past x)
old-typed now past x all =
    go (greatest (filter (nat_le x.mn) (young_numbers now x.mi past))) refl
  where
    small : (n : ℕ) → In n (filter (nat_le x.mn) (young_numbers now x.mi past)) → n < 2 ^ 32
    small n i =
        let r = in-from_map (λ (a : Accepted). a.told.mn) (filter (is_young_of now x.mi) past) n
        (in-unfiltered (nat_le x.mn) (young_numbers now x.mi past) n i) in
        let less = all r.0 (in-unfiltered (is_young_of now x.mi) past r.0 r.1) in
        subst (λ n. n < 2 ^ 32) (sym r.2) less

    go : (o : Option ℕ) → greatest (filter (nat_le x.mn) (young_numbers now x.mi past)) ≡ o
        → IfPeers (option_map OldNumber o)
    go None e = tt
    go (Some k) e =
        greatest-small (filter (nat_le x.mn) (young_numbers now x.mi past)) (2 ^ 32) small k e

full-typed : (now : ℕ) (past : List Accepted) (x : Heard) → IfPeers (peers_full now past x)
full-typed now past x =
    go (nat_le most_peers (length (filter (λ m. not (same_mi m x.mi)) (members now past)))
    && not (list_any (is_young_of now x.mi) past))
  where
    go : (b : Bool) → IfPeers (cond b (Some PeersFull) None)
    go true = tt
    go false = tt

outcome-typed : (o : Own) (h : List Peering) (x : Heard)
    → ((w : Accepted) → In w (accepted o h) → w.told.mn < 2 ^ 32) → IsOutcome (outcome o h x)
unfolding outcome refusal
outcome-typed o h x all =
    ends (option_or (echo o x) (option_or (old_number (clock h) (accepted o h) x)
    (peers_full (clock h) (accepted o h) x)))
    (or-peers (echo o x) _ (echoes (same_mi x.mi o.mi || same_sci x.sci o.sci))
    (or-peers (old_number (clock h) (accepted o h) x) (peers_full (clock h) (accepted o h) x)
    (old-typed (clock h) (accepted o h) x all) (full-typed (clock h) (accepted o h) x)))
  where
    echoes : (b : Bool) → IfPeers (cond b (Some Echo) None)
    echoes true = tt
    echoes false = tt

    vouched : (b : Bool) → IsOutcome (cond b outcomes.Vouched outcomes.Unvouched)
    vouched true = tt
    vouched false = tt

    ends : (r : Option PeerRefusal) → IfPeers r
        → IsOutcome (elim r [
          | None ↦ cond (vouches h x) outcomes.Vouched outcomes.Unvouched
          | Some reason ↦ outcomes.Dropped reason
        ])
    ends None is = vouched (vouches h x)
    ends (Some refusal) is = is

-- ---- a key that is taken, or why not

greatest-of : (h : List Keying) → AreTyped h → (s : Mi) (n : ℕ) → greatest_of s h ≡ Some n
    → n < 2 ^ 32
greatest-of [] are s n is = absurd (none-some is)
greatest-of (key_ticked b ∷ h) are s n is = greatest-of h are s n is
greatest-of (key_installed r k ∷ h) are s n is =
    go (same_mi k.id.server s) is (greatest-of h (λ j i. are j (inr i)) s)
  where
    room : (o : Option ℕ) → ((n : ℕ) → o ≡ Some n → n < 2 ^ 32) → unwrap_or o 0 < 2 ^ 32
    room None less = omega arith
    room (Some m) less = less m refl

    go : (b : Bool)
        → cond b (Some (max k.id.number (unwrap_or (greatest_of s h) 0))) (greatest_of s h) ≡ Some n
        → ((n : ℕ) → greatest_of s h ≡ Some n → n < 2 ^ 32) → n < 2 ^ 32
    go true e later =
        let same : max k.id.number (unwrap_or (greatest_of s h) 0) ≡ n = some-same e in
        let here = (are k (inl refl)).id.1 in
        let there = room (greatest_of s h) later in
        omega (arith, same, here, there)
    go false e later = later n e
greatest-of (key_began e ∷ h) are s n is = greatest-of h are s n is

abbrev IsAnswer : Result Key Why → Type 0
IsAnswer (Ok k) = Unit {0}
IsAnswer (Err why) = IsTypedWhy why

provided-typed : (b : Bool) (why : Why) (rest : Result Key Why) → IsTypedWhy why → IsAnswer rest
    → IsAnswer (provided b why rest)
provided-typed true why rest is later = later
provided-typed false why rest is later = is

new-typed : (kept : Option ℕ) (number : ℕ) (rest : Result Key Why)
    → ((n : ℕ) → kept ≡ Some n → n < 2 ^ 32) → IsAnswer rest
    → IsAnswer (provided_new kept number rest)
new-typed None number rest is later = later
new-typed (Some n) number rest is later =
    provided-typed (nat_lt n number) (whys.Seen n) rest (is n refl) later

key-answer : (epoch : ℕ) (o : Offer) (sak : Option Secret) → IsAnswer (unwrapped_key epoch o sak)
key-answer epoch o None = tt
key-answer epoch o (Some sak) = tt

answer-typed : (base : ℕ) (h : List Keying) (o : Offer) (sak : Option Secret) → AreTyped h
    → IsAnswer (taken base h o sak)
answer-typed base h o sak are =
    let key = unwrapped_key (next_epoch base h) o sak in
    let offset = provided (leaves_none o.given.offset) whys.Offset key in
    let suite = provided (is_supported o.given.key) whys.Suite offset in
    let retiring = provided (allows h) whys.Retiring suite in
    let seen = provided_new (greatest_of o.server h) o.given.number retiring in
    let server = provided o.elected whys.NotServer seen in
    provided-typed o.listed whys.NotListed server tt
    (provided-typed o.elected whys.NotServer seen tt
    (new-typed (greatest_of o.server h) o.given.number retiring (greatest-of h are o.server)
    (provided-typed (allows h) whys.Retiring suite tt
    (provided-typed (is_supported o.given.key) whys.Suite offset tt
    (provided-typed (leaves_none o.given.offset) whys.Offset key tt
    (key-answer (next_epoch base h) o sak))))))

-- ---- a hearing

heard-keys : (m : Member) (a : Announcement) (p : List Entry) → AreTyped (keys_of m p)
    → AreTyped (keys_of m (lives.heard a ∷ p))
unfolding keys_of
heard-keys m a p are = are

heard-few : (m : Member) (a : Announcement) (p : List Entry) → AreFew m p
    → m.base + install_count (view m (lives.heard a ∷ p)).keys ≤ 4096
unfolding keys_of view
heard-few m a p few = few

taken-keys : (m : Member) (a : Announcement) (p : List Entry) → AreTyped (keys_of m p)
    → (k : Option Key) → ((j : Key) → k ≡ Some j → IsTypedKey j)
    → AreTyped (keys_of m (with_install None k (lives.heard a ∷ p)))
unfolding keys_of
taken-keys m a p are None is = are
taken-keys m a p are (Some k) is = λ j i. elim i [
  | inl e ↦ subst IsTypedKey (sym e) (is k refl)
  | inr later ↦ are j later
]

begun-keys : (m : Member) (p : List Entry) → AreTyped (keys_of m p) → (b : Option Beginning)
    → AreTyped (keys_of m (with_beginning b p))
unfolding keys_of
begun-keys m p are None = are
begun-keys m p are (Some b) = are

-- the key that is offered has an identifier in its types, if one is offered
abbrev IsOffer : Option Offer → Type 0
IsOffer None = Unit {0}
IsOffer (Some f) = IsTypedId (record { server = f.server; number = f.given.number })

abbrev IfAnswer : Option (Result Key Why) → Type 0
IfAnswer None = Unit {0}
IfAnswer (Some r) = IsAnswer r

pub hear-typed : (m : Member) (a : Announcement) (p : List Entry) → IsTypedMember m → AllHeard p
    → AreTyped (keys_of m p) → AreFew m p → IsHeard a
    → IsTypedTurn m (hear_turn m a p).reaction (hear_turn m a p).past
unfolding hear_turn
hear-typed m a p is all are few new = record {
  reaction = record {
    heard = λ v e. subst IsTypedVerdict (some-same e) verdict;
    server = told-server (view m p) now (server-typed m (lives.heard a ∷ p) is.mi heard_now);
    changes = joined (take_changes now.keys (offer_at m a p) (answer_at m a p))
        (beginning (view m (taken_past m a p)).keys (follow_at m a p)).changes
        (take-typed (offer_at m a p) (offers (is_accepted o) a.given refl) (answer_at m a p)
        (answers (offer_at m a p)) (λ k e. key-typed k e))
        (begun-typed (view m (taken_past m a p)).keys (follow_at m a p) keys_view
        (λ x e. (following-is (view m (taken_past m a p)) o a x e).latest_key));
    sent = λ octets e. absurd (none-some e);
  };
  heard = λ b i. heard_now b (subst (λ w. In b w) heard_is i);
  keys = begun-keys m (taken_past m a p) keys_then (follow_at m a p);
}
  where
    now : View
    now = view m (lives.heard a ∷ p)

    o : Outcome
    o = outcome_of m p a

    heard_now : AllHeard (lives.heard a ∷ p)
    heard_now b (inl e) = subst IsHeard (sym e) new
    heard_now b (inr i) = all b i

    verdict : IsTypedVerdict (verdict_of o)
    verdict = outcome-typed (own m) (peers_of m p) (told m.mi (recent (peers_of m p)) a) (λ w i.
        let h = accepted-heard m p w i in
        subst (λ n. n < 2 ^ 32) (sym h.1.mn) (all h.0 h.1.place).mn)

    keys_now : AreTyped now.keys
    keys_now = subst AreTyped (sym (view-keys m (lives.heard a ∷ p))) (heard-keys m a p are)

    few_now : m.base + install_count now.keys ≤ 4096
    few_now = heard-few m a p few

    offers : (b : Bool) (g : Option Given) → a.given ≡ g
        → IsOffer (cond b (option_map (λ g. record {
          given = g;
          server = a.mi;
          listed = is_listed m now.peers a;
          elected = is_server now.server a.mi;
        }) g) None)
    offers true None e = tt
    offers true (Some g) e = (new.mi, new.given g e)
    offers false g e = tt

    key-typed : (k : Key) → key_taken (answer_at m a p) ≡ Some k → IsTypedKey k
    key-typed k e =
        let t = taking-is m now o a k e in
        let number = new.given t.gift t.gives in
        let epoch = t.epoch in
        record {
          id = (subst IsMi (sym t.server) new.mi, subst (λ n. n < 2 ^ 32) (sym t.number) number);
          epoch = omega (arith, epoch, few_now);
          sak = unwrapped-secret m.setup.kek t.gift.key k.sak t.hidden;
        }

    answers : (f : Option Offer) → IfAnswer (taken_of m now f)
    answers None = tt
    answers (Some f) = answer-typed m.base now.keys f (given_sak m.setup.kek f.given.key) keys_now

    take-typed : (f : Option Offer) → IsOffer f → (r : Option (Result Key Why)) → IfAnswer r
        → ((k : Key) → key_taken r ≡ Some k → IsTypedKey k) → Each (take_changes now.keys f r)
    take-typed None x r y z = tt
    take-typed (Some f) x None y z = tt
    take-typed (Some f) x (Some (Ok k)) y z = installing-typed now.keys None k keys_now (z k refl)
    take-typed (Some f) x (Some (Err why)) y z = ((x, y), tt)

    keys_then : AreTyped (keys_of m (taken_past m a p))
    keys_then = taken-keys m a p are (key_taken (answer_at m a p)) key-typed

    keys_view : AreTyped (view m (taken_past m a p)).keys
    keys_view = subst AreTyped (sym (view-keys m (taken_past m a p))) keys_then

    heard_is : heard_of (with_beginning (follow_at m a p) (taken_past m a p)) ≡ a ∷ heard_of p
    heard_is = go (follow_at m a p) (key_taken (answer_at m a p))
      where
        go : (b : Option Beginning) (k : Option Key)
            → heard_of (with_beginning b (with_install None k (lives.heard a ∷ p))) ≡ a ∷ heard_of p
        go None None = refl
        go None (Some k) = refl
        go (Some b) None = refl
        go (Some b) (Some k) = refl

pub hearing-typed : Refuses → (m : Member) (frame : List ℕ) (p : List Entry) → AreOctets frame
    → IsTypedMember m → AllHeard p → AreTyped (keys_of m p) → AreFew m p
    → IsTypedTurn m (frame_turn m frame p).reaction (frame_turn m frame p).past
hearing-typed refuses m frame p octets is all are few =
    go (judged m.setup frame) (judged-typed refuses m.setup frame octets)
  where
    go : (j : Result Announcement DropReason) → IsJudged j
        → IsTypedTurn m (heard_turn m j p).reaction (heard_turn m j p).past
    go (Ok a) new = hear-typed m a p is all are few new
    go (Err reason) why = record {
      reaction = record {
        heard = λ v e. subst IsTypedVerdict (some-same e) why;
        server = λ o e. absurd (none-some e);
        changes = tt;
        sent = λ octets e. absurd (none-some e);
      };
      heard = all;
      keys = are;
    }

-- ---- an ending

pub ending-typed : (m : Member) (p : List Entry) → AreTyped (keys_of m p)
    → IsTypedReaction (ending m p)
unfolding ending
ending-typed m p are = record {
  heard = λ v e. absurd (none-some e);
  server = λ o e. lost (view m p).server o e;
  changes = drops-typed (view m p).keys (received (view m p).keys)
      (received-typed (view m p).keys (subst AreTyped (sym (view-keys m p)) are));
  sent = λ octets e. absurd (none-some e);
}
  where
    lost : (server : Option Mi) (o : Option Mi) → lost_server server ≡ Some o → IfDrawn IsMi o
    lost None o e = absurd (none-some e)
    lost (Some server) o e = subst (IfDrawn IsMi) (some-same e) tt
