-- Who is live or potential was heard.
use Rattle.std.proofs.Common.{◌≡◌, refl, sym, ap, ◌∙◌, inl, inr, ℕ, List, [], ◌∷◌, find, Bool, true}
use Rattle.std.proofs.Common.{false, cond, not, ◌&&◌, Option, Some, None, is_some}
use Rattle.std.specs.Prelude.{filter_map, option_and_then, unwrap_or}
use Rattle.lan_base.specs.declared.address.Mi.{Mi}
use Rattle.mkpdu_codec.specs.declared.announcement.Announcement.{Announcement}
use Rattle.mkpdu_codec.specs.declared.peer.Peer.{Peer}
use Rattle.peer_lists.specs.Histories.{Peering, ticked, sent, heard, clock, is_young}
use Rattle.peer_lists.specs.declared.heard.PeerRefusal.{PeerRefusal}
use Rattle.peer_lists.specs.declared.heard.Heard.{Heard}
use Rattle.peer_lists.specs.Acceptance.{Own, Accepted, accepted, refusal, vouches}
use Rattle.peer_lists.specs.Peers.{says, hopes, known, standing, is_displaced, is_of, is_vouched_of}
use Rattle.peer_lists.specs.Peers.{last_accepted}
use Rattle.mka_station.specs.Lives.{Member, Entry, own, told, peers_of}
use Rattle.mka_station.specs.Lives as lives
use Rattle.mka_station.specs.Views.{view}
use Rattle.mka_station.specs.Announcing.{peer_of}
use Rattle.group_safety.proofs.Members.{In}
use Rattle.group_safety.proofs.once.Currents.{some-same, none-some}
use Rattle.group_safety.proofs.once.Histories.{heard_of, told_of}

pub in-find : {X : Type 0} (p : X → Bool) (xs : List X) (x : X) → find p xs ≡ Some x → In x xs
in-find p [] x e = absurd (none-some e)
in-find p (y ∷ ys) x e = go (p y) e (in-find p ys x)
  where
    go : (b : Bool) → cond b (Some y) (find p ys) ≡ Some x → (find p ys ≡ Some x → In x ys)
        → In x (y ∷ ys)
    go true f later = inl (sym (some-same f))
    go false f later = inr (later f)

pub in-filter_map : {X Y : Type 0} (f : X → Option Y) (xs : List X) (y : Y) → In y (filter_map f xs)
    → (x : X) × In x xs × (f x ≡ Some y)
in-filter_map f [] y h = elim h [ ]
in-filter_map {X} {Y} f (x ∷ xs) y h = go (f x) refl h (in-filter_map f xs y)
  where
    go : (o : Option Y) → f x ≡ o → In y (filter_map f (x ∷ xs))
        → (In y (filter_map f xs) → (z : X) × In z xs × (f z ≡ Some y))
        → (z : X) × In z (x ∷ xs) × (f z ≡ Some y)
    go None e i later = let r = later (rw e at i) in (r.0, inr r.1, r.2)
    go (Some z) e i later = elim (rw e at i) [
      | inl p ↦ (x, inl refl, e ∙ ap Some (sym p))
      | inr k ↦ let r = later k in (r.0, inr r.1, r.2)
    ]

-- what was accepted was heard
pub accepted-told : (o : Own) (h : List Peering) (a : Accepted) → In a (accepted o h)
    → In a.told (told_of h)
unfolding accepted
accepted-told o [] a i = elim i [ ]
accepted-told o (ticked ∷ h) a i = accepted-told o h a i
accepted-told o (sent n ∷ h) a i = accepted-told o h a i
accepted-told o (heard x ∷ h) a i = go (refusal o (clock h) (accepted o h) x) i
    (accepted-told o h a)
  where
    go : (r : Option PeerRefusal)
        → In a (elim r [
          | None ↦ record { at = clock h; told = x; vouched = vouches h x } ∷ accepted o h
          | Some
              reason ↦ accepted o h
        ])
        → (In a (accepted o h) → In a.told (told_of h)) → In a.told (x ∷ told_of h)
    go None k later =
        elim k [ inl e ↦ inl (ap (λ (w : Accepted). w.told) e) | inr l ↦ inr (later l) ]
    go (Some r) k later = inr (later k)

-- what stands was accepted
standing-accepted : (now : ℕ) (test : Accepted → Bool) (past : List Accepted) (a : Accepted)
    → standing now test past ≡ Some a → In a past
standing-accepted now test past a e = go (find test past) refl e
  where
    go : (o : Option Accepted) → find test past ≡ o
        → option_and_then
        (λ a. cond (is_young now a.at && not (is_displaced test past a)) (Some a) None) o
        ≡ Some a
        → In a past
    go None f e = absurd (none-some e)
    go (Some b) f e = kept (is_young now b.at && not (is_displaced test past b)) e
      where
        kept : (c : Bool) → cond c (Some b) None ≡ Some a → In a past
        kept true e = in-find test past a (f ∙ e)
        kept false e = absurd (none-some e)

pub says-accepted : (o : Own) (h : List Peering) (m : Mi) (a : Accepted) → says o h m ≡ Some a
    → In a (accepted o h)
unfolding says
says-accepted o h m a e = standing-accepted (clock h) (is_vouched_of m) (accepted o h) a e

hopes-accepted : (o : Own) (h : List Peering) (m : Mi) (a : Accepted) → hopes o h m ≡ Some a
    → In a (accepted o h)
unfolding hopes
hopes-accepted o h m a e = go (is_some (says o h m)) e
  where
    go : (b : Bool) → cond b None (standing (clock h) (is_of m) (accepted o h)) ≡ Some a
        → In a (accepted o h)
    go true e = absurd (none-some e)
    go false e = standing-accepted (clock h) (is_of m) (accepted o h) a e

-- the announcement behind what the peer lists heard
pub record IsToldBy (x : Heard) (a : Announcement) (p : List Entry) : Type 0 where
  pub place : In a (heard_of p)
  pub mi : x.mi ≡ a.mi
  pub mn : x.mn ≡ a.mn

told-later : (x : Heard) (p q : List Entry)
    → ((a : Announcement) → In a (heard_of p) → In a (heard_of q))
    → (a : Announcement) × IsToldBy x a p → (a : Announcement) × IsToldBy x a q
told-later x p q more r = (r.0, record { place = more r.0 r.1.place; mi = r.1.mi; mn = r.1.mn })

told-heard : (m : Member) (p : List Entry) (x : Heard) → In x (told_of (peers_of m p))
    → (a : Announcement) × IsToldBy x a p
unfolding peers_of
told-heard m [] x i = elim i [ ]
told-heard m (lives.ticked ∷ p) x i =
    told-later x p (lives.ticked ∷ p) (λ a k. k) (told-heard m p x i)
told-heard m (lives.sent b ∷ p) x i =
    told-later x p (lives.sent b ∷ p) (λ a k. k) (told-heard m p x i)
told-heard m (lives.heard b ∷ p) x (inl e) = (
  b,
  record {
    place = inl refl;
    mi = ap (λ (w : Heard). w.mi) e;
    mn =
        ap (λ (w : Heard). w.mn) e;
  },
)
told-heard m (lives.heard b ∷ p) x (inr i) =
    told-later x p (lives.heard b ∷ p) (λ a k. inr k) (told-heard m p x i)
told-heard m (lives.installed r k ∷ p) x i =
    told-later x p (lives.installed r k ∷ p) (λ a k. k) (told-heard m p x i)
told-heard m (lives.began e ∷ p) x i =
    told-later x p (lives.began e ∷ p) (λ a k. k) (told-heard m p x i)

pub accepted-heard : (m : Member) (p : List Entry) (w : Accepted)
    → In w (accepted (own m) (peers_of m p))
    → (a : Announcement) × IsToldBy w.told a p
accepted-heard m p w i = told-heard m p w.told (accepted-told (own m) (peers_of m p) w i)

pub live-accepted : (m : Member) (p : List Entry) (w : Accepted) → In w (view m p).live
    → In w (accepted (own m) (peers_of m p))
unfolding view
live-accepted m p w i =
    let r = in-filter_map (says (own m) (peers_of m p)) (known (own m) (peers_of m p)) w i in
    says-accepted (own m) (peers_of m p) r.0 w r.2

pub potential-accepted : (m : Member) (p : List Entry) (w : Accepted) → In w (view m p).potential
    → In w (accepted (own m) (peers_of m p))
unfolding view
potential-accepted m p w i =
    let r = in-filter_map (hopes (own m) (peers_of m p)) (known (own m) (peers_of m p)) w i in
    hopes-accepted (own m) (peers_of m p) r.0 w r.2

-- a member that is named as a peer was heard, and so was its number
pub record IsHeardPeer (q : Peer) (p : List Entry) : Type 0 where
  pub by : Announcement
  pub heard : In by (heard_of p)
  pub same_mi : q.mi ≡ by.mi
  pub of_number : Announcement
  pub number_heard : In of_number (heard_of p)
  pub same_mn : q.mn ≡ of_number.mn

pub peer-heard : (m : Member) (p : List Entry) (w : Accepted)
    → In w (accepted (own m) (peers_of m p))
    → IsHeardPeer (peer_of m (view m p) w) p
unfolding view
peer-heard m p w i = go (last_accepted (own m) (peers_of m p) w.told.mi) refl
  where
    first : (a : Announcement) × IsToldBy w.told a p
    first = accepted-heard m p w i

    go : (o : Option Accepted) → last_accepted (own m) (peers_of m p) w.told.mi ≡ o
        → IsHeardPeer (peer_of m (view m p) w) p
    go None e = record {
      by = first.0;
      heard = first.1.place;
      same_mi = first.1.mi;
      of_number = first.0;
      number_heard = first.1.place;
      same_mn = ap (λ (x : Option Accepted). (unwrap_or x w).told.mn) e ∙ first.1.mn;
    }
    go (Some l) e =
        let last =
        accepted-heard m p l
        (in-find (is_of w.told.mi) (accepted (own m) (peers_of m p)) l e) in
        record {
          by = first.0;
          heard = first.1.place;
          same_mi = first.1.mi;
          of_number = last.0;
          number_heard = last.1.place;
          same_mn = ap (λ (x : Option Accepted). (unwrap_or x w).told.mn) e ∙ last.1.mn;
        }
