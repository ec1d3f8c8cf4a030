-- What a station says at a tick is what its history makes it say.
use Rattle.std.proofs.Common.{◌≡◌, ◌∙◌, ℕ, ◌+◌, ◌≤◌, nat_le, Bool, true, false, cond, not, ◌&&◌, ◌||◌, List, [], ◌∷◌, map, Option, Some, None, is_some, option_map, refl, ap, sym, arith}
use Rattle.std.proofs.lemmas.Bool.Decides.{nat_tests}
use Rattle.std.specs.List.{list_all, list_any}
use Rattle.std.specs.Option.{option_and_then}
use Rattle.lan_base.specs.declared.address.Mi.{Mi}
use Rattle.lan_base.specs.declared.key_id.KeyId.{KeyId}
use Rattle.lan_base.specs.Timers.{hello_time}
use Rattle.mkpdu_codec.specs.declared.announcement.Announcement.{Announcement}
use Rattle.mkpdu_codec.specs.declared.key_use.Uses.{Uses}
use Rattle.peer_lists.specs.declared.heard.Row.{Row}
use Rattle.peer_lists.specs.Histories.{clock, last_sent, ticked as peers_ticked}
use Rattle.peer_lists.specs.Acceptance.{Accepted}
use Rattle.sak_exchange.specs.declared.report.Report.{Report}
use Rattle.sak_exchange.specs.declared.held_key.Key.{Key}
use Rattle.sak_exchange.specs.Histories.{Keying, last_roster}
use Rattle.sak_exchange.specs.Held.{latest, old, transmitting}
use Rattle.sak_exchange.specs.Making.{is_in_roster, lists}
use Rattle.sak_exchange.specs.Beginning.{is_latest_made}
use Rattle.sak_exchange.specs.Reports.{reports as is_reported}
use Rattle.sak_exchange.specs.Standing.{ticks_since}
use Rattle.sak_exchange.proofs.Public.{by_test, by_option}
use Rattle.mka_station.specs.declared.saying.Lowest.{Lowest}
use Rattle.mka_station.specs.declared.shown.Spoken.{Spoken}
use Rattle.mka_station.specs.Lives.{Member, Entry, peers_of, last_spoken}
use Rattle.mka_station.specs.Views.{View, view, speakers, reports, is_server, serves}
use Rattle.mka_station.specs.Announcing.{shown, same_shown, is_due_since, announces, use_of, uses_of, gives, given, given_as, announcement, says_now}
use Rattle.mka_station.specs.Standing.{State, spoken_at}
use Rattle.mka_station.specs.inside.Rows.{IsShown}
use Rattle.mka_station.specs.inside.Found.{Found}
use Rattle.mka_station.specs.inside.Due.{shown_by, one_later, is_due_after}
use Rattle.mka_station.specs.inside.Saying.{lowest_by, is_given_to, given_after, announced_by}
use Rattle.mka_station.specs.inside.Turns.{said_by}
use Rattle.mka_station.proofs.Pasts.{view-peers, spoken-before}

-- ---- what is shown

pub shown-is : (m : Member) (v : View) (rows : List Row) → IsShown m v rows → (server : Option Mi) (h : List Keying) → server ≡ v.server → h ≡ v.keys → shown_by rows server h ≡ shown v
shown-is m v rows shows server h s k = rw (s, k, shows.live_members, shows.potential_members) refl

-- ---- whether it is due

pub since-later : (now then : ℕ) → then ≤ now → one_later (ticks_since now then) ≡ ticks_since (now + 1) then
since-later now then l = omega arith

hello : (now then : ℕ) → nat_le hello_time (ticks_since now then) ≡ nat_le (then + hello_time) now
hello now then = grind (arith, nat_tests)

-- what is kept of what was said last tells at the next tick whether an announcement is due
pub due-is : (m : Member) (p : List Entry) (v : View) (last : Option (List Entry)) → ((then : List Entry) → last ≡ Some then → clock (peers_of m then) ≤ clock (peers_of m p))
    → clock v.peers ≡ clock (peers_of m p) + 1
    → is_due_after (option_map (spoken_at m p) last) (shown v) ≡ is_due_since m v last
due-is m p v None before now = refl
due-is m p v (Some then) before now =
    let c = clock (peers_of m p) in
    let d = clock (peers_of m then) in
    let s : nat_le hello_time (one_later (ticks_since c d)) ≡ nat_le (d + hello_time) (c + 1) = ap (nat_le hello_time) (since-later c d (before then refl)) ∙ hello (c + 1) d in
    let t : nat_le (d + hello_time) (c + 1) ≡ nat_le (clock (view m then).peers + hello_time) (clock v.peers) = rw (view-peers m then, now) refl in
    ap (λ (b : Bool). b || not (same_shown (shown v) (shown (view m then)))) (s ∙ t)

-- ---- what is given

all-over : (f : Accepted → Report) (test : Mi → Bool) (g : (a : Accepted) → (f a).mi ≡ a.told.mi) (words : List Accepted) → list_all (λ r. test r.mi) (map f words) ≡ list_all test (speakers words)
all-over f test g [] = refl
all-over f test g (a ∷ words) = rw (g a, all-over f test g words) refl

any-over : (id : KeyId) (words : List Accepted) → list_any (λ r. not (is_reported id r.uses)) (reports words) ≡ list_any (λ a. not (is_reported id a.told.uses)) words
any-over id [] = refl
any-over id (a ∷ words) = rw (any-over id words) refl

-- a member in a roster is in the roster of a made key
listed-made : (o : Option (List Mi)) (n : Mi) → lists o n ≡ true → is_some o ≡ true
listed-made None n is = absurd (cc (is))
listed-made (Some ms) n is = refl

roster-made : (h : List Keying) (n : Mi) → is_in_roster h n ≡ true → is_latest_made h ≡ true
roster-made h n is = by_option (latest h) (λ e. absurd (cc (rw e at is))) (λ k e. rw e (listed-made (last_roster h) n (rw e at is)))

both-made : (made all any : Bool) → (all ≡ true → any ≡ true → made ≡ true) → (made && (all && any)) ≡ (all && any)
both-made true all any f = refl
both-made false false any f = refl
both-made false true false f = refl
both-made false true true f = f refl refl

first-listed : (h : List Keying) (words : List Accepted) (test : Accepted → Bool) → list_all (is_in_roster h) (speakers words) ≡ true → list_any test words ≡ true → is_latest_made h ≡ true
first-listed h [] test all any = absurd (cc (any))
first-listed h (a ∷ words) test all any =
    by_test (is_in_roster h a.told.mi) (λ e. roster-made h a.told.mi e) (λ e. absurd (cc (rw e at all)))

gives-is : (m : Member) (v : View) (k : Key) → gives m v k ≡ (serves m v && is_given_to v.keys (reports v.live) k.id)
gives-is m v k =
    let all = list_all (is_in_roster v.keys) (speakers v.live) in
    let any = list_any (λ a. not (is_reported k.id a.told.uses)) v.live in
    let b : (is_latest_made v.keys && (all && any)) ≡ (all && any) = both-made (is_latest_made v.keys) all any (λ f g. first-listed v.keys v.live (λ a. not (is_reported k.id a.told.uses)) f g) in
    let c : (all && any) ≡ is_given_to v.keys (reports v.live) k.id = sym (rw (all-over (λ a. record { mi = a.told.mi; uses = a.told.uses }) (is_in_roster v.keys) (λ a. refl) v.live, any-over k.id v.live) refl) in
    ap (λ (x : Bool). serves m v && x) (b ∙ c)

given-is : (m : Member) (v : View) (o : Option Key) → option_and_then (λ k. cond (serves m v && is_given_to v.keys (reports v.live) k.id) (Some (given_as m.setup.kek k)) None) o
    ≡ option_and_then (λ k. cond (gives m v k) (Some (given_as m.setup.kek k)) None) o
given-is m v None = refl
given-is m v (Some k) = ap (λ (b : Bool). cond b (Some (given_as m.setup.kek k)) None) (sym (gives-is m v k))

-- ---- the announcement

-- what the code has is what the view has
pub record Sees (m : Member) (s : State) (c : Found) (v : View) (mn : ℕ) (h : List Keying) : Type 0 where
  pub setup : s.setup ≡ m.setup
  pub mi : s.mi ≡ m.mi
  pub shows : IsShown m v c.rows
  pub told : c.reports ≡ reports v.live
  pub server : c.server ≡ v.server
  pub number : mn ≡ last_sent v.peers + 1
  pub keys : h ≡ v.keys

use-lowest : (sending : Option Key) (f g : Key → ℕ) → ((k : Key) → f k ≡ g k) → (o : Option Key) → use_of sending f o ≡ use_of sending g o
use-lowest sending f g same None = refl
use-lowest sending f g same (Some k) = rw (same k) refl

uses-lowest : (h : List Keying) (f g : Key → ℕ) → ((k : Key) → f k ≡ g k) → uses_of f h ≡ uses_of g h
uses-lowest h f g same = rw (use-lowest (transmitting h) f g same (latest h), use-lowest (transmitting h) f g same (old h)) refl

given-seen : (m : Member) (s : State) (c : Found) (v : View) (mn : ℕ) (h : List Keying) → Sees m s c v mn h
    → given_after s.setup.kek (is_server c.server s.mi) c.reports h ≡ given m v
given-seen m s c v mn h e =
    rw (e.setup, e.mi, e.told, e.server, e.keys) (given-is m v (latest v.keys))

pub announced-is : (m : Member) (s : State) (c : Found) (v : View) (mn : ℕ) (h : List Keying) (l : Lowest) (lowest : Key → ℕ) → ((k : Key) → lowest_by l k ≡ lowest k) → Sees m s c v mn h
    → announced_by s c mn (uses_of (lowest_by l) h) (given_after s.setup.kek (is_server c.server s.mi) c.reports h) ≡ announcement m lowest v
announced-is m s c v mn h l lowest same e =
    let u : uses_of (lowest_by l) h ≡ uses_of lowest v.keys = uses-lowest h (lowest_by l) lowest same ∙ ap (uses_of lowest) e.keys in
    let g = given-seen m s c v mn h e in
    ap (λ (x : Option Uses). announced_by s c mn x (given_after s.setup.kek (is_server c.server s.mi) c.reports h)) u
    ∙ ap (announced_by s c mn (uses_of lowest v.keys)) g
    ∙ rw (e.setup, e.mi, e.server, e.number, e.shows.live_peers, e.shows.potential_peers) refl

-- what a station says
pub said-is : (m : Member) (p q : List Entry) (s : State) (c : Found) (mn : ℕ) (l : Lowest) (h : List Keying) (lowest : Key → ℕ) → ((k : Key) → lowest_by l k ≡ lowest k)
    → Sees m s c (view m q) mn h → shown_by c.rows c.server h ≡ shown (view m q) → s.spoken ≡ option_map (spoken_at m p) (last_spoken p) → last_spoken q ≡ last_spoken p → peers_of m q ≡ peers_ticked ∷ peers_of m p
    → said_by s c mn l h ≡ says_now m lowest q (view m q)
said-is m p q s c mn l h lowest same e is kept spoke peers =
    let v = view m q in
    let now : clock v.peers ≡ clock (peers_of m p) + 1 = ap clock (view-peers m q ∙ peers) in
    let due : is_due_after s.spoken (shown_by c.rows c.server h) ≡ announces m v q =
    ap (λ (k : Option Spoken). is_due_after k (shown_by c.rows c.server h)) kept ∙ ap (is_due_after (option_map (spoken_at m p) (last_spoken p))) is
    ∙ due-is m p v (last_spoken p) (spoken-before m p) now ∙ ap (is_due_since m v) (sym spoke) in
    ap (λ (b : Bool). cond b (Some (announced_by s c mn (uses_of (lowest_by l) h) (given_after s.setup.kek (is_server c.server s.mi) c.reports h))) None) due
    ∙ ap (λ (a : Announcement). cond (announces m v q) (Some a) None) (announced-is m s c v mn h l lowest same e)
