-- What a life has done, read from its history.
use Rattle.std.proofs.Common.{◌≡◌, refl, List, [], ◌∷◌, map, Option, Some, None, is_some}
use Rattle.lan_base.specs.declared.address.Mi.{Mi}
use Rattle.mkpdu_codec.specs.declared.announcement.Announcement.{Announcement}
use Rattle.peer_lists.specs.Histories.{Peering, last_sent}
use Rattle.peer_lists.specs.Histories as peers
use Rattle.peer_lists.specs.declared.heard.Heard.{Heard}
use Rattle.sak_exchange.specs.declared.held_key.Key.{Key}
use Rattle.sak_exchange.specs.Histories.{Keying, install_count, made_count}
use Rattle.sak_exchange.specs.Histories as keys
use Rattle.sak_exchange.specs.Beginning.{Beginning}
use Rattle.sak_exchange.specs.Lives.{identifiers}
use Rattle.mka_station.specs.Lives.{Member, Entry, ticked, sent, heard, installed, began, peers_of}
use Rattle.mka_station.specs.Lives.{keys_of, elected}
use Rattle.mka_station.specs.Views.{view}
use Rattle.mka_station.specs.Tick.{with_beginning, with_install, with_sent}
use Rattle.lan_core.specs.Lives.{Life}
use Rattle.group_safety.proofs.once.Ledgers.{Handed, Made, Deeds}

-- the announcements that were heard
abbrev pub heard_of : List Entry → List Announcement
heard_of [] = []
heard_of (ticked ∷ p) = heard_of p
heard_of (sent a ∷ p) = heard_of p
heard_of (heard a ∷ p) = a ∷ heard_of p
heard_of (installed r k ∷ p) = heard_of p
heard_of (began e ∷ p) = heard_of p

-- what the peer lists heard
abbrev pub told_of : List Peering → List Heard
told_of [] = []
told_of (peers.ticked ∷ h) = told_of h
told_of (peers.sent n ∷ h) = told_of h
told_of (peers.heard x ∷ h) = x ∷ told_of h

-- a key as it is handed out
abbrev pub handed : Key → Handed
handed k = record { id = k.id; an = k.an; sak = k.sak }

-- the keys that were made, each with its roster
abbrev pub made_of : List Keying → List Made
made_of [] = []
made_of (keys.ticked s ∷ h) = made_of h
made_of (keys.installed None k ∷ h) = made_of h
made_of (keys.installed (Some r) k ∷ h) = record { key = handed k; roster = r } ∷ made_of h
made_of (keys.began e ∷ h) = made_of h

abbrev pub deeds_of : Member → List Entry → Deeds
deeds_of m p = record {
  mi = m.mi;
  heard = map (λ a. a.mi) (heard_of p);
  made = made_of (keys_of m p);
  keys = identifiers (keys_of m p);
}

abbrev pub deeds : Life → Deeds
deeds l = deeds_of l.member l.past

-- a life that made a key, if it made one
abbrev pub having_made : List Mi → Option Key → Deeds → Deeds
having_made ms None d = d
having_made ms (Some k) d = record d {
  made = record { key = handed k; roster = ms } ∷ d.made;
  keys = k.id ∷ d.keys;
}

-- a life that took a key, if it took one
abbrev pub having_taken : Option Key → Deeds → Deeds
having_taken None d = d
having_taken (Some k) d = record d { keys = k.id ∷ d.keys }

abbrev pub having_heard : Mi → Deeds → Deeds
having_heard n d = record d { heard = n ∷ d.heard }

-- the history after a tick, and after a hearing
abbrev pub past_ticked : Option Announcement → List Mi → Option Key → Option Beginning → List Entry
    → List Entry
past_ticked said ms key lead p =
    with_sent said (with_install (Some ms) key (with_beginning lead (ticked ∷ p)))

abbrev pub past_heard : Option Beginning → Option Key → Announcement → List Entry → List Entry
past_heard follow key a p = with_beginning follow (with_install None key (heard a ∷ p))

pub deeds-none : (m : Member)
    → deeds_of m [] ≡ record { mi = m.mi; heard = []; made = []; keys = [] }
unfolding keys_of
deeds-none m = refl

pub deeds-ticked : (m : Member) (said : Option Announcement) (ms : List Mi) (key : Option Key)
    (lead : Option Beginning) (p : List Entry)
    → deeds_of m (past_ticked said ms key lead p) ≡ having_made ms key (deeds_of m p)
unfolding keys_of
deeds-ticked m None ms None None p = refl
deeds-ticked m None ms None (Some b) p = refl
deeds-ticked m None ms (Some k) None p = refl
deeds-ticked m None ms (Some k) (Some b) p = refl
deeds-ticked m (Some a) ms None None p = refl
deeds-ticked m (Some a) ms None (Some b) p = refl
deeds-ticked m (Some a) ms (Some k) None p = refl
deeds-ticked m (Some a) ms (Some k) (Some b) p = refl

pub deeds-heard : (m : Member) (follow : Option Beginning) (key : Option Key) (a : Announcement)
    (p : List Entry)
    → deeds_of m (past_heard follow key a p) ≡ having_taken key (having_heard a.mi (deeds_of m p))
unfolding keys_of
deeds-heard m None None a p = refl
deeds-heard m None (Some k) a p = refl
deeds-heard m (Some b) None a p = refl
deeds-heard m (Some b) (Some k) a p = refl

-- ---- the histories of peers and of keys

-- the key history after an install, if there was one, and after a beginning
abbrev pub with_key : Option (List Mi) → Option Key → List Keying → List Keying
with_key r None h = h
with_key r (Some k) h = keys.installed r k ∷ h

abbrev pub with_began : Option Beginning → List Keying → List Keying
with_began None h = h
with_began (Some b) h = keys.began b.key.epoch ∷ h

pub keys-begun : (m : Member) (b : Option Beginning) (p : List Entry)
    → keys_of m (with_beginning b p) ≡ with_began b (keys_of m p)
unfolding keys_of
keys-begun m None p = refl
keys-begun m (Some b) p = refl

pub keys-installed : (m : Member) (r : Option (List Mi)) (k : Option Key) (p : List Entry)
    → keys_of m (with_install r k p) ≡ with_key r k (keys_of m p)
unfolding keys_of
keys-installed m r None p = refl
keys-installed m r (Some k) p = refl

pub keys-said : (m : Member) (a : Option Announcement) (p : List Entry)
    → keys_of m (with_sent a p) ≡ keys_of m p
unfolding keys_of
keys-said m None p = refl
keys-said m (Some a) p = refl

-- a new life has no keys
pub keys-new : (m : Member) → keys_of m [] ≡ []
unfolding keys_of
keys-new m = refl

pub made-began : (b : Option Beginning) (h : List Keying) → made_count (with_began b h) ≡ made_count h
made-began None h = refl
made-began (Some b) h = refl

pub count-began : (b : Option Beginning) (h : List Keying)
    → install_count (with_began b h) ≡ install_count h
count-began None h = refl
count-began (Some b) h = refl

pub keys-heard : (m : Member) (a : Announcement) (p : List Entry)
    → keys_of m (heard a ∷ p) ≡ keys_of m p
unfolding keys_of
keys-heard m a p = refl

-- whether a server was elected at a tick
abbrev pub elects : Member → List Entry → Keying
elects m p = keys.ticked (is_some (elected m (ticked ∷ p)))

pub keys-ticked : (m : Member) (p : List Entry) → keys_of m (ticked ∷ p) ≡ elects m p ∷ keys_of m p
unfolding keys_of
keys-ticked m p = refl

pub view-keys : (m : Member) (p : List Entry) → (view m p).keys ≡ keys_of m p
unfolding view
view-keys m p = refl

pub view-peers : (m : Member) (p : List Entry) → (view m p).peers ≡ peers_of m p
unfolding view
view-peers m p = refl

-- the number that was sent last, before an announcement at a tick
pub sent-before : (m : Member) (ms : List Mi) (key : Option Key) (lead : Option Beginning)
    (p : List Entry)
    → last_sent (peers_of m (with_install (Some ms) key (with_beginning lead (ticked ∷ p))))
    ≡ last_sent (peers_of m p)
unfolding peers_of
sent-before m ms None None p = refl
sent-before m ms None (Some b) p = refl
sent-before m ms (Some k) None p = refl
sent-before m ms (Some k) (Some b) p = refl

pub sent-some : (m : Member) (a : Announcement) (p : List Entry)
    → last_sent (peers_of m (with_sent (Some a) p)) ≡ a.mn
unfolding peers_of
sent-some m a p = refl

pub sent-heard : (m : Member) (follow : Option Beginning) (key : Option Key) (a : Announcement)
    (p : List Entry)
    → last_sent (peers_of m (past_heard follow key a p)) ≡ last_sent (peers_of m p)
unfolding peers_of
sent-heard m None None a p = refl
sent-heard m None (Some k) a p = refl
sent-heard m (Some b) None a p = refl
sent-heard m (Some b) (Some k) a p = refl

pub heard-ticked : (said : Option Announcement) (ms : List Mi) (key : Option Key)
    (lead : Option Beginning) (p : List Entry)
    → heard_of (past_ticked said ms key lead p) ≡ heard_of p
heard-ticked None ms None None p = refl
heard-ticked None ms None (Some b) p = refl
heard-ticked None ms (Some k) None p = refl
heard-ticked None ms (Some k) (Some b) p = refl
heard-ticked (Some a) ms None None p = refl
heard-ticked (Some a) ms None (Some b) p = refl
heard-ticked (Some a) ms (Some k) None p = refl
heard-ticked (Some a) ms (Some k) (Some b) p = refl

pub heard-heard : (follow : Option Beginning) (key : Option Key) (a : Announcement) (p : List Entry)
    → heard_of (past_heard follow key a p) ≡ a ∷ heard_of p
heard-heard None None a p = refl
heard-heard None (Some k) a p = refl
heard-heard (Some b) None a p = refl
heard-heard (Some b) (Some k) a p = refl
