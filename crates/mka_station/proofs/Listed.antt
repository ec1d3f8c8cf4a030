-- The peer lists of an announcement give the numbers of the announcements that were accepted last.
use Rattle.std.proofs.Common.{◌≡◌, ◌∙◌, ℕ, Bool, true, false, List, [], ◌∷◌, ◌++◌, map, Option, Some, None, is_some, unwrap_or, ap, sym, refl, subst, All}
use Rattle.std.specs.List.{find, filter_map}
use Rattle.std.proofs.lemmas.List.Elements.{All-nil, All-cons, All-same}
use Rattle.lan_base.specs.declared.address.Mi.{Mi}
use Rattle.lan_base.specs.Identifiers.{same_mi}
use Rattle.mkpdu_codec.specs.declared.announcement.Announcement.{Announcement}
use Rattle.mkpdu_codec.specs.declared.peer.Peer.{Peer}
use Rattle.peer_lists.specs.declared.heard.Heard.{Heard}
use Rattle.peer_lists.specs.declared.heard.PeerRefusal.{PeerRefusal}
use Rattle.peer_lists.specs.Histories.{Peering, clock, recent}
use Rattle.peer_lists.specs.Acceptance.{Own, Accepted, accepted, refusal, outcome, vouches}
use Rattle.peer_lists.specs.Peers.{says, hopes, known, is_of, is_vouched_of, last_accepted}
use Rattle.peer_lists.proofs.Public.{by_test, same_mi-equal, same_mi-itself, find-here, find-on, find-any, find-is_some, by_option, accepted-ticked, accepted-sent, accepted-new, accepted-dropped, entered, says-is}
use Rattle.sak_exchange.specs.declared.held_key.Key.{Key}
use Rattle.mka_station.specs.Lives.{Member, Entry, ticked, sent, heard, installed, began, own, told, peers_of}
use Rattle.mka_station.specs.Views.{View, view}
use Rattle.mka_station.specs.Announcing.{announcement, peer_of}
use Rattle.mka_station.specs.Hearing.{outcome_of, is_accepted}
use Rattle.mka_station.specs.Listed.{IsLastHeard}
use Rattle.mka_station.proofs.Pasts.{peers-ticked, peers-heard, peers-said, peers-installed, peers-none, view-peers}
use Rattle.mka_station.proofs.RowsShown.{some-is, standing-found, hopes-of, view-live, view-potential}
use Rattle.mka_station.proofs.Drops.{outcome-kept, kept-accepted}

-- ---- what hearing comes to

outcome-dropped : (o : Own) (h : List Peering) (x : Heard) (r : PeerRefusal) → refusal o (clock h) (accepted o h) x ≡ Some r → is_accepted (outcome o h x) ≡ false
unfolding outcome
outcome-dropped o h x r e = rw (e, outcome) refl

outcome-new : (o : Own) (h : List Peering) (x : Heard) → refusal o (clock h) (accepted o h) x ≡ None → is_accepted (outcome o h x) ≡ true
outcome-new o h x e = ap is_accepted (outcome-kept o h x e) ∙ kept-accepted (vouches h x)

-- ---- entries that leave the last accepted announcement of a member

never : {A P : Type 0} (newer : List A) (x : A) (older : List A) → [] ≡ newer ++ x ∷ older → P
never [] x older e = absurd (cc (e))
never (y ∷ newer) x older e = absurd (cc (e))

abbrev Leaves : Member → List Entry → Peer → Entry → Type 0
Leaves m p entry x = (a : Announcement) → x ≡ heard a → a.mi ≡ entry.mi → is_accepted (outcome_of m p a) ≡ false

stays-on : (m : Member) (p : List Entry) (entry : Peer) (x : Entry) → Leaves m p entry x → (l : IsLastHeard m p entry)
    → (newer : List Entry) (a : Announcement) (older : List Entry) → x ∷ l.since ≡ newer ++ heard a ∷ older → a.mi ≡ entry.mi
    → is_accepted (outcome_of m (older ++ heard l.last ∷ l.before) a) ≡ false
stays-on m p entry x leaves l [] a older is same =
    let first : x ≡ heard a = cc (is) in
    let rest : l.since ≡ older = cc (is) in
    let all : p ≡ older ++ heard l.last ∷ l.before = l.whole ∙ ap (λ (q : List Entry). q ++ heard l.last ∷ l.before) rest in
    subst (λ (q : List Entry). is_accepted (outcome_of m q a) ≡ false) all (leaves a first same)
stays-on m p entry x leaves l (y ∷ newer) a older is same = let rest : l.since ≡ newer ++ heard a ∷ older = cc (is) in l.stays newer a older rest same

goes-on : (m : Member) (p : List Entry) (entry : Peer) (x : Entry) → Leaves m p entry x → IsLastHeard m p entry → IsLastHeard m (x ∷ p) entry
goes-on m p entry x leaves l = record {
  since = x ∷ l.since;
  last = l.last;
  before = l.before;
  whole = ap (λ (q : List Entry). x ∷ q) l.whole;
  member = l.member;
  number = l.number;
  accepted = l.accepted;
  stays = stays-on m p entry x leaves l;
}

-- ---- the last accepted announcement was heard

peers-began : (m : Member) (e : ℕ) (p : List Entry) → peers_of m (began e ∷ p) ≡ peers_of m p
unfolding peers_of
peers-began m e p = refl

accepted-none : (m : Member) → accepted (own m) (peers_of m []) ≡ []
unfolding accepted
accepted-none m = ap (accepted (own m)) (peers-none m)

-- what is found in the same list
found-in : (m : Mi) (past past' : List Accepted) (w : Accepted) → past ≡ past' → find (is_of m) past ≡ Some w → find (is_of m) past' ≡ Some w
found-in m past past' w same is = sym (ap (find (is_of m)) same) ∙ is

new-last : (m : Member) (a : Announcement) (p : List Entry) (entry : Peer) (w : Accepted)
    → let h = peers_of m p in let x = told m.mi (recent h) a in
    refusal (own m) (clock h) (accepted (own m) h) x ≡ None → same_mi a.mi entry.mi ≡ true → entered h x ≡ w → w.told.mn ≡ entry.mn → IsLastHeard m (heard a ∷ p) entry
new-last m a p entry w new same is number =
    let h = peers_of m p in
    let x = told m.mi (recent h) a in
    record {
      since = [];
      last = a;
      before = p;
      whole = refl;
      member = same_mi-equal a.mi entry.mi same;
      number = ap (λ (v : Accepted). v.told.mn) is ∙ number;
      accepted = outcome-new (own m) h x new;
      stays = λ newer b older e mi. never newer (heard b) older e;
    }

other-leaves : (m : Member) (a : Announcement) (p : List Entry) (entry : Peer) → same_mi a.mi entry.mi ≡ false → Leaves m p entry (heard a)
other-leaves m a p entry other b is mi =
    let same : a ≡ b = cc (is) in
    let named : a.mi ≡ entry.mi = ap (λ (c : Announcement). c.mi) same ∙ mi in
    let yes : same_mi a.mi entry.mi ≡ true = ap (same_mi a.mi) (sym named) ∙ same_mi-itself a.mi in
    let no : true ≡ false = sym yes ∙ other in
    absurd (cc (no))

dropped-leaves : (m : Member) (a : Announcement) (p : List Entry) (entry : Peer) (r : PeerRefusal)
    → refusal (own m) (clock (peers_of m p)) (accepted (own m) (peers_of m p)) (told m.mi (recent (peers_of m p)) a) ≡ Some r → Leaves m p entry (heard a)
dropped-leaves m a p entry r e b is mi =
    let same : a ≡ b = cc (is) in
    subst (λ (c : Announcement). is_accepted (outcome_of m p c) ≡ false) same (outcome-dropped (own m) (peers_of m p) (told m.mi (recent (peers_of m p)) a) r e)

last-heard : (m : Member) (p : List Entry) (entry : Peer) (w : Accepted) → last_accepted (own m) (peers_of m p) entry.mi ≡ Some w → w.told.mn ≡ entry.mn → IsLastHeard m p entry
last-heard m [] entry w is number = let e : None ≡ Some w = found-in entry.mi (accepted (own m) (peers_of m [])) [] w (accepted-none m) is in absurd (cc (e))
last-heard m (ticked ∷ p) entry w is number =
    goes-on m p entry ticked (λ a e mi. absurd (cc (e)))
    (last-heard m p entry w (found-in entry.mi _ _ w (ap (accepted (own m)) (peers-ticked m p) ∙ accepted-ticked (own m) (peers_of m p)) is) number)
last-heard m (sent b ∷ p) entry w is number =
    goes-on m p entry (sent b) (λ a e mi. absurd (cc (e)))
    (last-heard m p entry w (found-in entry.mi _ _ w (ap (accepted (own m)) (peers-said m (Some b) p) ∙ accepted-sent (own m) b.mn (peers_of m p)) is) number)
last-heard m (installed r k ∷ p) entry w is number =
    goes-on m p entry (installed r k) (λ a e mi. absurd (cc (e)))
    (last-heard m p entry w (found-in entry.mi _ _ w (ap (accepted (own m)) (peers-installed m r (Some k) p)) is) number)
last-heard m (began n ∷ p) entry w is number =
    goes-on m p entry (began n) (λ a e mi. absurd (cc (e)))
    (last-heard m p entry w (found-in entry.mi _ _ w (ap (accepted (own m)) (peers-began m n p)) is) number)
last-heard m (heard a ∷ p) entry w is number =
    let h = peers_of m p in
    let x = told m.mi (recent h) a in
    let step : accepted (own m) (peers_of m (heard a ∷ p)) ≡ accepted (own m) (_ ∷ h) = ap (accepted (own m)) (peers-heard m a p) in
    by_option (refusal (own m) (clock h) (accepted (own m) h) x)
    (λ e.
    let all = step ∙ accepted-new (own m) x h e in
    let found = found-in entry.mi _ _ w all is in
    by_test (same_mi a.mi entry.mi)
    (λ t. let same : entered h x ≡ w = cc (sym (find-here (is_of entry.mi) (entered h x) (accepted (own m) h) t) ∙ found) in new-last m a p entry w e t same number)
    (λ f. goes-on m p entry (heard a) (other-leaves m a p entry f) (last-heard m p entry w (sym (find-on (is_of entry.mi) (entered h x) (accepted (own m) h) f) ∙ found) number)))
    (λ r e. goes-on m p entry (heard a) (dropped-leaves m a p entry r e) (last-heard m p entry w (found-in entry.mi _ _ w (step ∙ accepted-dropped (own m) x h r e) is) number))

-- ---- the entries of a list

entry-is : (m : Member) (v : View) (p : List Entry) (a : Accepted) → v.peers ≡ peers_of m p → is_some (last_accepted (own m) v.peers a.told.mi) ≡ true → IsLastHeard m p (peer_of m v a)
entry-is m v p a at is =
    let l = some-is (last_accepted (own m) v.peers a.told.mi) is in
    last-heard m p (peer_of m v a) l.0 (ap (λ h. last_accepted (own m) h a.told.mi) (sym at) ∙ l.1) (ap (λ (o : Option Accepted). (unwrap_or o a).told.mn) (sym l.1))

words-none : (words : Mi → Option Accepted) (k : Mi) (ks : List Mi) → words k ≡ None → filter_map words (k ∷ ks) ≡ filter_map words ks
words-none words k ks e = rw e refl

words-some : (words : Mi → Option Accepted) (k : Mi) (ks : List Mi) (a : Accepted) → words k ≡ Some a → filter_map words (k ∷ ks) ≡ a ∷ filter_map words ks
words-some words k ks a e = rw e refl

entries-are : (m : Member) (v : View) (p : List Entry) (words : Mi → Option Accepted) → v.peers ≡ peers_of m p
    → ((n : Mi) (a : Accepted) → words n ≡ Some a → is_some (last_accepted (own m) v.peers a.told.mi) ≡ true)
    → (ks : List Mi) → All (IsLastHeard m p) (map (peer_of m v) (filter_map words ks))
entries-are m v p words at each [] = All-nil (IsLastHeard m p)
entries-are m v p words at each (k ∷ ks) =
    let rest = entries-are m v p words at each ks in
    by_option (words k)
    (λ e. All-same (IsLastHeard m p) _ _ (ap (map (peer_of m v)) (words-none words k ks e)) rest)
    (λ a e. All-same (IsLastHeard m p) _ _ (ap (map (peer_of m v)) (words-some words k ks a e)) (All-cons (IsLastHeard m p) (peer_of m v a) (map (peer_of m v) (filter_map words ks)) (entry-is m v p a at (each k a e)) rest))

-- an announcement that is found is the last one of its member, or there is a later one
found-heard : (o : Own) (h : List Peering) (test : Accepted → Bool) (a : Accepted) → find test (accepted o h) ≡ Some a → is_some (last_accepted o h a.told.mi) ≡ true
found-heard o h test a e = find-is_some (is_of a.told.mi) (accepted o h) ∙ find-any (is_of a.told.mi) test (accepted o h) a e (same_mi-itself a.told.mi)

says-heard : (o : Own) (h : List Peering) (n : Mi) (a : Accepted) → says o h n ≡ Some a → is_some (last_accepted o h a.told.mi) ≡ true
says-heard o h n a is = found-heard o h (is_vouched_of n) a (standing-found (clock h) (is_vouched_of n) (accepted o h) a (sym (says-is o h n) ∙ is))

hopes-heard : (o : Own) (h : List Peering) (n : Mi) (a : Accepted) → hopes o h n ≡ Some a → is_some (last_accepted o h a.told.mi) ≡ true
hopes-heard o h n a is = found-heard o h (is_of n) a (hopes-of o h n a is)

pub listed-live : (m : Member) (lowest : Key → ℕ) (p : List Entry) → All (IsLastHeard m p) (announcement m lowest (view m p)).live
listed-live m lowest p =
    let v = view m p in
    subst (λ (ws : List Accepted). All (IsLastHeard m p) (map (peer_of m v) ws)) (sym (view-live m p))
    (entries-are m v p (says (own m) v.peers) (view-peers m p) (says-heard (own m) v.peers) (known (own m) v.peers))

pub listed-potential : (m : Member) (lowest : Key → ℕ) (p : List Entry) → All (IsLastHeard m p) (announcement m lowest (view m p)).potential
listed-potential m lowest p =
    let v = view m p in
    subst (λ (ws : List Accepted). All (IsLastHeard m p) (map (peer_of m v) ws)) (sym (view-potential m p))
    (entries-are m v p (hopes (own m) v.peers) (view-peers m p) (hopes-heard (own m) v.peers) (known (own m) v.peers))
