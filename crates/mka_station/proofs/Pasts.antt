-- How the projections of a history go on as it does.
use Rattle.std.proofs.Common.{◌≡◌, ◌∙◌, ℕ, ◌≤◌, List, [], ◌∷◌, map, Option, Some, None, is_some, refl, ap, sym, subst, arith}
use Rattle.std.specs.List.{filter_map}
use Rattle.lan_base.specs.declared.address.Mi.{Mi}
use Rattle.mkpdu_codec.specs.declared.announcement.Announcement.{Announcement}
use Rattle.peer_lists.specs.Histories.{Peering, clock, ticked as peers_ticked, sent as peers_sent, heard as peers_heard, recent}
use Rattle.peer_lists.specs.Acceptance.{Own, members}
use Rattle.peer_lists.specs.Peers.{says, known, standing, is_vouched_of}
use Rattle.peer_lists.proofs.Public.{accepted-sent, says-is, known-is}
use Rattle.server_election.specs.Election.{elected as elected_among}
use Rattle.sak_exchange.specs.declared.held_key.Key.{Key}
use Rattle.sak_exchange.specs.Histories.{ticked as keys_ticked}
use Rattle.sak_exchange.specs.Beginning.{Beginning}
use Rattle.sak_exchange.specs.Outcomes.{beginning}
use Rattle.mka_station.specs.Lives.{Member, Entry, ticked, sent, heard, installed, began, own, told, candidate, candidate_of, peers_of, keys_of, elected, elected_by, live_words, potential_words, last_spoken}
use Rattle.mka_station.specs.Views.{view}
use Rattle.mka_station.specs.Tick.{with_beginning, with_install, with_sent}
use Rattle.mka_station.specs.inside.Turns.{keys_with, keys_made, peers_with}

-- ---- entries

pub peers-ticked : (m : Member) (p : List Entry) → peers_of m (ticked ∷ p) ≡ peers_ticked ∷ peers_of m p
unfolding peers_of
peers-ticked m p = refl

pub peers-heard : (m : Member) (a : Announcement) (p : List Entry) → peers_of m (heard a ∷ p) ≡ peers_heard (told m.mi (recent (peers_of m p)) a) ∷ peers_of m p
unfolding peers_of
peers-heard m a p = refl

pub peers-begun : (m : Member) (b : Option Beginning) (p : List Entry) → peers_of m (with_beginning b p) ≡ peers_of m p
unfolding peers_of
peers-begun m None p = refl
peers-begun m (Some b) p = refl

pub peers-installed : (m : Member) (r : Option (List Mi)) (k : Option Key) (p : List Entry) → peers_of m (with_install r k p) ≡ peers_of m p
unfolding peers_of
peers-installed m r None p = refl
peers-installed m r (Some k) p = refl

pub peers-said : (m : Member) (a : Option Announcement) (p : List Entry) → peers_of m (with_sent a p) ≡ peers_with a (peers_of m p)
unfolding peers_of
peers-said m None p = refl
peers-said m (Some a) p = refl

pub keys-none : (m : Member) → keys_of m [] ≡ []
unfolding keys_of
keys-none m = refl

pub peers-none : (m : Member) → peers_of m [] ≡ []
unfolding peers_of
peers-none m = refl

pub keys-ticked : (m : Member) (p : List Entry) → keys_of m (ticked ∷ p) ≡ keys_ticked (is_some (elected m (ticked ∷ p))) ∷ keys_of m p
unfolding keys_of
keys-ticked m p = refl

pub keys-heard : (m : Member) (a : Announcement) (p : List Entry) → keys_of m (heard a ∷ p) ≡ keys_of m p
unfolding keys_of
keys-heard m a p = refl

pub keys-begun : (m : Member) (b : Option Beginning) (p : List Entry) → (beginning (keys_of m p) b).past ≡ keys_of m (with_beginning b p)
unfolding keys_of
keys-begun m None p = refl
keys-begun m (Some b) p = refl

pub keys-made : (m : Member) (r : Option (List Mi)) (k : Option Key) (p : List Entry) → keys_made r k (keys_of m p) ≡ keys_of m (with_install r k p)
unfolding keys_of
keys-made m r None p = refl
keys-made m r (Some k) p = refl

pub keys-taken : (m : Member) (k : Option Key) (p : List Entry) → keys_with k (keys_of m p) ≡ keys_of m (with_install None k p)
unfolding keys_of
keys-taken m None p = refl
keys-taken m (Some k) p = refl

pub keys-said : (m : Member) (a : Option Announcement) (p : List Entry) → keys_of m (with_sent a p) ≡ keys_of m p
unfolding keys_of
keys-said m None p = refl
keys-said m (Some a) p = refl

pub spoken-begun : (b : Option Beginning) (p : List Entry) → last_spoken (with_beginning b p) ≡ last_spoken p
spoken-begun None p = refl
spoken-begun (Some b) p = refl

pub spoken-installed : (r : Option (List Mi)) (k : Option Key) (p : List Entry) → last_spoken (with_install r k p) ≡ last_spoken p
spoken-installed r None p = refl
spoken-installed r (Some k) p = refl

-- ---- views

pub view-peers : (m : Member) (p : List Entry) → (view m p).peers ≡ peers_of m p
unfolding view
view-peers m p = refl

pub view-keys : (m : Member) (p : List Entry) → (view m p).keys ≡ keys_of m p
unfolding view
view-keys m p = refl

pub view-server : (m : Member) (p : List Entry) → (view m p).server ≡ elected m p
unfolding view elected
view-server m p = refl

pub view-elected : (m : Member) (p : List Entry) → (view m p).server ≡ elected_among (candidate m) (map candidate_of (view m p).live)
unfolding view
view-elected m p = refl

-- a view has the same peers where the peer lists' history is the same
pub view-same : (m : Member) (p q : List Entry) → peers_of m q ≡ peers_of m p → view m q ≡ record (view m p) { keys = keys_of m q }
unfolding view
view-same m p q e =
    ap (λ h. record { live = live_words m h; potential = potential_words m h; server = elected_by m (live_words m h); peers = h; keys = keys_of m q }) e

-- ---- what is sent changes no peer

says-sent : (o : Own) (n : ℕ) (h : List Peering) (k : Mi) → says o (peers_sent n ∷ h) k ≡ says o h k
says-sent o n h k = says-is o (peers_sent n ∷ h) k ∙ ap (standing (clock h) (is_vouched_of k)) (accepted-sent o n h) ∙ sym (says-is o h k)

pub filter-same : {A B : Type 0} (f g : A → Option B) → ((a : A) → f a ≡ g a) → (xs : List A) → filter_map f xs ≡ filter_map g xs
filter-same f g same [] = refl
filter-same f g same (x ∷ xs) = rw (same x, filter-same f g same xs) refl

live-sent : (m : Member) (n : ℕ) (h : List Peering) → live_words m (peers_sent n ∷ h) ≡ live_words m h
live-sent m n h =
    filter-same (says (own m) (peers_sent n ∷ h)) (says (own m) h) (says-sent (own m) n h) (known (own m) (peers_sent n ∷ h))
    ∙ ap (filter_map (says (own m) h)) (known-is (own m) (peers_sent n ∷ h) ∙ ap (λ past. members (clock h) past) (accepted-sent (own m) n h) ∙ sym (known-is (own m) h))

live-said : (m : Member) (a : Option Announcement) (h : List Peering) → live_words m (peers_with a h) ≡ live_words m h
live-said m None h = refl
live-said m (Some a) h = live-sent m a.mn h

elected-is : (m : Member) (p : List Entry) → elected m p ≡ elected_by m (live_words m (peers_of m p))
unfolding elected
elected-is m p = refl

-- the elected server stays where the peer lists' history does
pub elected-same : (m : Member) (p q : List Entry) → peers_of m q ≡ peers_of m p → elected m q ≡ elected m p
elected-same m p q e = elected-is m q ∙ ap (λ h. elected_by m (live_words m h)) e ∙ sym (elected-is m p)

-- and where an announcement is sent
pub elected-said : (m : Member) (a : Option Announcement) (p : List Entry) → elected m (with_sent a p) ≡ elected m p
elected-said m a p =
    elected-is m (with_sent a p) ∙ ap (λ h. elected_by m (live_words m h)) (peers-said m a p) ∙ ap (elected_by m) (live-said m a (peers_of m p)) ∙ sym (elected-is m p)

-- ---- the moment of the last announcement is no later one

later : (m : Member) (p : List Entry) → clock (peers_of m p) ≤ clock (peers_of m (ticked ∷ p))
later m p = rw (peers-ticked m p) (omega arith)

pub spoken-before : (m : Member) (p then : List Entry) → last_spoken p ≡ Some then → clock (peers_of m then) ≤ clock (peers_of m p)
unfolding peers_of
spoken-before m [] then is = absurd (cc (is))
spoken-before m (ticked ∷ p) then is = omega (arith, spoken-before m p then is)
spoken-before m (sent a ∷ p) then is = let e : p ≡ then = cc (is) in subst (λ (q : List Entry). clock (peers_of m q) ≤ clock (peers_of m p)) e (omega arith)
spoken-before m (heard a ∷ p) then is = spoken-before m p then is
spoken-before m (installed r k ∷ p) then is = spoken-before m p then is
spoken-before m (began e ∷ p) then is = spoken-before m p then is
