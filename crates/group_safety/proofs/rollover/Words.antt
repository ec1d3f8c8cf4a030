-- What the live members say to a station: it was heard, it is of others, and what is sent changes
-- none of it.
use Rattle.std.proofs.Common.{◌≡◌, ◌≢◌, inl, inr, ℕ, not, ◌&&◌, List, [], ◌∷◌, refl, ap, sym, ◌∙◌}
use Rattle.std.proofs.Common.{Option, Some, None}
use Rattle.std.specs.List.{filter_map, find}
use Rattle.std.proofs.lemmas.Bool.{and_parts}
use Rattle.lan_base.specs.declared.address.Mi.{Mi}
use Rattle.mkpdu_codec.specs.declared.announcement.Announcement.{Announcement}
use Rattle.peer_lists.specs.declared.heard.Heard.{Heard}
use Rattle.peer_lists.specs.Histories.{Peering, clock, is_young, sent as peers_sent}
use Rattle.peer_lists.specs.Acceptance.{Own, Accepted, accepted, members}
use Rattle.peer_lists.specs.Peers.{says, known, standing, is_displaced, is_vouched_of}
use Rattle.peer_lists.proofs.Public.{accepted-sent, says-is, known-is, says-other, find-passes}
use Rattle.sak_exchange.proofs.Public.{same-equal, by_test, by_option}
use Rattle.mka_station.specs.Lives.{Member, Entry, own, told, peers_of, live_words}
use Rattle.mka_station.specs.Lives as lives
use Rattle.mka_station.specs.Tick.{with_sent}
use Rattle.group_safety.proofs.Members.{In}
use Rattle.group_safety.proofs.once.Histories.{heard_of, told_of}
use Rattle.group_safety.proofs.once.LiveHeard.{in-filter_map, accepted-told, says-accepted}

-- ---- what is sent changes no words

says-sent : (o : Own) (n : ℕ) (h : List Peering) (k : Mi) → says o (peers_sent n ∷ h) k ≡ says o h k
says-sent o n h k = says-is o (peers_sent n ∷ h) k
    ∙ ap (standing (clock h) (is_vouched_of k)) (accepted-sent o n h) ∙ sym (says-is o h k)

filter-same : {A B : Type 0} (f g : A → Option B) → ((a : A) → f a ≡ g a) → (xs : List A)
    → filter_map f xs ≡ filter_map g xs
filter-same f g same [] = refl
filter-same f g same (x ∷ xs) = rw (same x, filter-same f g same xs) refl

live-sent : (m : Member) (n : ℕ) (h : List Peering)
    → live_words m (peers_sent n ∷ h) ≡ live_words m h
live-sent m n h =
    filter-same (says (own m) (peers_sent n ∷ h)) (says (own m) h) (says-sent (own m) n h)
    (known (own m) (peers_sent n ∷ h))
    ∙ ap (filter_map (says (own m) h))
    (known-is (own m) (peers_sent n ∷ h)
    ∙ ap (λ past. members (clock h) past) (accepted-sent (own m) n h)
    ∙ sym (known-is (own m) h))

pub live-said : (m : Member) (a : Option Announcement) (p : List Entry)
    → live_words m (peers_of m (with_sent a p)) ≡ live_words m (peers_of m p)
unfolding peers_of
live-said m None p = refl
live-said m (Some a) p = live-sent m a.mn (peers_of m p)

-- ---- words were heard

-- the announcement behind what was told
pub record IsOf (x : Heard) (a : Announcement) : Type 0 where
  pub mi : x.mi ≡ a.mi
  pub mn : x.mn ≡ a.mn
  pub uses : x.uses ≡ a.uses

told-heard : (m : Member) (p : List Entry) (x : Heard) → In x (told_of (peers_of m p))
    → (a : Announcement) × In a (heard_of p) × IsOf x a
unfolding peers_of
told-heard m [] x i = absurd i
told-heard m (lives.ticked ∷ p) x i = told-heard m p x i
told-heard m (lives.sent b ∷ p) x i = told-heard m p x i
told-heard m (lives.heard b ∷ p) x (inl e) = (
  b,
  inl refl,
  record {
    mi = ap (λ (w : Heard). w.mi) e;
    mn = ap (λ (w : Heard). w.mn) e;
    uses =
        ap (λ (w : Heard). w.uses) e;
  },
)
told-heard m (lives.heard b ∷ p) x (inr i) = let r = told-heard m p x i in (r.0, inr r.1, r.2)
told-heard m (lives.installed r k ∷ p) x i = told-heard m p x i
told-heard m (lives.began e ∷ p) x i = told-heard m p x i

says-named : (o : Own) (h : List Peering) (k : Mi) (w : Accepted) → says o h k ≡ Some w
    → w.told.mi ≡ k
says-named o h k w is =
    let s = sym (says-is o h k) ∙ is in
    by_option (find (is_vouched_of k) (accepted o h))
    (λ none. let f = rw none at s in absurd (cc (f)))
    (λ a found. let f = rw found at s in
    by_test (is_young (clock h) a.at && not (is_displaced (is_vouched_of k) (accepted o h) a))
    (λ t. let g = rw t at f in let same : a ≡ w = cc (g) in
    let passes = find-passes (is_vouched_of k) (accepted o h) a found in
    ap (λ (v : Accepted). v.told.mi) (sym same)
    ∙ same-equal a.told.mi k (and_parts _ a.vouched passes).0)
    (λ t. let g = rw t at f in absurd (cc (g))))

-- what a live member says was heard, and is of another
pub word-heard : (m : Member) (p : List Entry) (w : Accepted) → In w (live_words m (peers_of m p))
    → (a : Announcement) × In a (heard_of p) × IsOf w.told a
word-heard m p w i =
    let r = in-filter_map (says (own m) (peers_of m p)) (known (own m) (peers_of m p)) w i in
    told-heard m p w.told (accepted-told (own m) (peers_of m p) w
    (says-accepted (own m) (peers_of m p) r.0 w r.2))

pub word-other : (m : Member) (p : List Entry) (w : Accepted) → In w (live_words m (peers_of m p))
    → w.told.mi ≢ m.mi
word-other m p w i =
    let r = in-filter_map (says (own m) (peers_of m p)) (known (own m) (peers_of m p)) w i in
    λ e. (says-other (own m) (peers_of m p) r.0 w r.2).0
    (sym (says-named (own m) (peers_of m p) r.0 w r.2) ∙ e)
