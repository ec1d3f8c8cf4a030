-- The lines of a script. What ticks and announcements show is computed of the lives before them, by
-- the definitions of a station; what the receive slots answer is told.
use Rattle.std.specs.Prelude.{ℕ, zero, suc, ◌+◌, ◌-◌, List, [], ◌∷◌, ◌++◌, Bool, true, false}
use Rattle.std.specs.Prelude.{if◌then◌else◌, not, Option, Some, None, ◌==◌, ◌&&◌, option_map}
use Rattle.std.specs.List.{list_any, filter}
use Rattle.lan_base.specs.declared.association_number.AssociationNumber.TheVariants.{An0}
use Rattle.lan_base.specs.AssociationNumbers.{same_an}
use Rattle.aes_block.specs.declared.secret.Secret.{Secret}
use Rattle.mkpdu_codec.specs.declared.announcement.Announcement.{Announcement}
use Rattle.mkpdu_codec.specs.declared.given.Given.{Given}
use Rattle.peer_lists.specs.Histories.{clock}
use Rattle.rx_slots.specs.declared.arrival.Arrival.{Arrival}
use Rattle.rx_slots.specs.declared.arrival.Arrival.TheVariants as arrivals
use Rattle.sak_exchange.specs.declared.due.Seen.{Seen}
use Rattle.sak_exchange.specs.declared.held_key.Key.{Key}
use Rattle.sak_exchange.specs.Histories.{made_count}
use Rattle.sak_exchange.specs.Held.{received, transmitting}
use Rattle.sak_exchange.specs.Outcomes.{beginning}
use Rattle.mka_station.specs.declared.reaction.Reaction.{Reaction}
use Rattle.mka_station.specs.Lives.{Member, Entry, sent, heard, peers_of}
use Rattle.mka_station.specs.Views.{view}
use Rattle.mka_station.specs.Tick.{tick_turn, new_server, with_install}
use Rattle.mka_station.specs.Hearing.{verdict_of, outcome_of, offered, key_taken, take_changes}
use Rattle.mka_station.specs.Hearing.{followed}
use Rattle.lan_core.specs.declared.event.Event.TheVariants as events
use Rattle.lan_core.specs.declared.fact.Fact.{Fact}
use Rattle.lan_core.specs.declared.fact.Fact.TheVariants as facts
use Rattle.lan_core.specs.Lives.{Life, keys_in}
use Rattle.lan_core.specs.Expected.{reaction_facts}
use Rattle.group_safety.specs.worked.Group.{mi, sak, draw_of, profile, user}
use Rattle.group_safety.specs.worked.Deeds.{Deed, tells, emits, plain, Gift, whole, Paper, says}
use Rattle.group_safety.specs.worked.Deeds.{carries, on_air}
use Rattle.group_safety.specs.worked.Lives.{hidden_in, answered, is_silent, life_by}

-- a run so far, and the number of the next frame
pub record Story : Type 0 where
  pub deeds : List Deed
  pub frame : ℕ

-- ---- ticks

-- bob has claimed a number, which was 1
abbrev pub has_claimed : List Deed → Bool
has_claimed [] = false
has_claimed (plain (events.Claim s number pn) f ∷ ds) = true
has_claimed (d ∷ ds) = has_claimed ds

-- the next packet number that a tick shows
abbrev pub next_in : ℕ → List Deed → Option Key → ℕ
next_in s ds None = 0
next_in s ds (Some k) = if (s == 1) && ((k.epoch == 1) && has_claimed ds) then 2 else 1

-- the SAK that would be drawn for the next key of a life
abbrev pub sak_for : Life → Secret
sak_for l = sak (draw_of (made_count (keys_in l) + 1))

-- what a tick sees: alice may have accepted a frame under the old key
abbrev pub sees : ℕ → List Deed → ℕ → Seen
sees s ds next = record {
  next = next;
  latest = 1;
  old = if (s == 0) && not (is_silent 0 ds) then 2 else 1;
}

abbrev pub gift_in : Option Given → Option Gift
gift_in o = option_map (λ g. record { an = g.an; number = g.number }) o

abbrev pub deed_of : ℕ → ℕ → ℕ → List Fact → List Entry → Deed
deed_of s next n f (sent a ∷ p) = tells s next f n (record a { given = None }) (gift_in a.given)
deed_of s next n f p = plain (events.Tick s next) f

abbrev pub deed_at : ℕ → List Deed → ℕ → Life → Deed
deed_at s ds n l =
    let next = next_in s ds (transmitting (keys_in l)) in
    let turn = tick_turn l.member (sees s ds next) (sak_for l) l.past in
    deed_of s next n
    (facts.Ticked s (clock (peers_of l.member l.past) + 1) next
    ∷ reaction_facts s 0 0 (record turn.reaction { sent = None })) turn.past

abbrev pub with_deed : Option Deed → Story → Story
with_deed None x = x
with_deed (Some (tells s next f n a g)) x =
    record { deeds = tells s next f n a g ∷ x.deeds; frame = x.frame + 1 }
with_deed (Some (emits n pn)) x = record { deeds = emits n pn ∷ x.deeds; frame = x.frame + 1 }
with_deed (Some (plain e f)) x = record { deeds = plain e f ∷ x.deeds; frame = x.frame }

unfoldable pub tick : Story → ℕ → Story
tick x s = with_deed (option_map (deed_at s x.deeds x.frame) (life_by s x.deeds)) x

-- ---- deliveries

-- what an announcement comes to, given the SAK that it hides
abbrev pub reaction_by : Member → Announcement → Option Secret → List Entry → Reaction
reaction_by m a hidden p =
    let before = view m p in
    let o = outcome_of m p a in
    let p1 = heard a ∷ p in
    let v1 = view m p1 in
    let offer = offered m v1 o a in
    let answer = answered m v1.keys offer hidden in
    let v2 = view m (with_install None (key_taken answer) p1) in
    record {
      heard = Some (verdict_of o);
      server = new_server before v1;
      changes = take_changes v1.keys offer answer
          ++ (beginning v2.keys (followed v2 o a)).changes;
      sent = None;
    }

-- whether a station receives the first key
abbrev pub has_first : Life → Bool
has_first l = list_any (λ k. same_an k.an An0) (received (keys_in l))

abbrev pub arrival_by : ℕ → List Deed → ℕ → Life → Arrival
arrival_by s ds pn l =
    if s == 1 then arrivals.Own
    else if not (has_first l) then arrivals.Missed An0
    else if is_silent s ds then arrivals.Accepted pn user.body
    else arrivals.Late (pn + 1)

abbrev pub shown_by : ℕ → ℕ → List Deed → Option Paper → Life → List Fact
shown_by n s ds None l = []
shown_by n s ds (Some (says t a g)) l =
    reaction_facts s n 0 (reaction_by l.member (whole a g) (hidden_in g) l.past)
shown_by n s ds (Some (carries pn)) l = facts.Arrived n s (arrival_by s ds pn l) ∷ []

unfoldable pub deliver : ℕ → Story → ℕ → Story
deliver n x s =
    with_deed (option_map
    (λ l. plain (events.Deliver n s) (shown_by n s x.deeds (on_air x.deeds n) l))
    (life_by s x.deeds)) x

-- ---- lines of a trace

-- a station begins
unfoldable pub begin : ℕ → ℕ → Story → Story
begin s m x = with_deed (Some (plain
    (events.Start (profile s).name (profile s).sci (profile s).priority)
    (facts.Life s (mi m) ∷ []))) x

-- bob claims the number 1 of the first key, and the frame goes on the air
unfoldable pub send : Story → Story
send x = with_deed (Some (emits x.frame 1))
    (with_deed (Some (plain (events.Claim 1 1 1) (facts.Claimed 1 An0 1 1 ∷ []))) x)

abbrev pub each : {A : Type 0} → (Story → A → Story) → List A → Story → Story
each f [] x = x
each f (a ∷ more) x = each f more (f x a)

-- the sender of a frame
abbrev pub sender_of : Paper → ℕ
sender_of (says s a g) = s
sender_of (carries pn) = 1

-- whom a frame reaches: all others that a test lets through, given the sender
abbrev pub reached_by : (ℕ → ℕ → Bool) → List ℕ → Option Paper → List ℕ
reached_by through all None = []
reached_by through all (Some paper) =
    let s = sender_of paper in filter (λ t. not (t == s) && through s t) all

unfoldable pub spread : (ℕ → ℕ → Bool) → List ℕ → Story → ℕ → Story
spread through all x n =
    each (λ y t. deliver n y t) (reached_by through all (on_air x.deeds n)) x

-- so many numbers from one on
abbrev pub numbers : ℕ → ℕ → List ℕ
numbers from zero = []
numbers from (suc n) = from ∷ numbers (from + 1) n

-- a round: each station ticks, and then the frames that came reach the others
unfoldable pub round : (ℕ → ℕ → Bool) → List ℕ → Story → Story
round through all x =
    let y = each tick all x in
    each (spread through all) (numbers x.frame (y.frame - x.frame)) y

unfoldable pub flow : (ℕ → ℕ → Bool) → List ℕ → ℕ → Story → Story
flow through all zero x = x
flow through all (suc n) x = flow through all n (round through all x)

abbrev pub always : ℕ → ℕ → Bool
always s t = true
