-- What a station may install, by the server that it elects.
use Rattle.std.proofs.Common.{◌≡◌, ◌≢◌, ℕ, suc, ◌<◌, Bool, true, List, [], ◌∷◌, length, refl, ap}
use Rattle.std.proofs.Common.{sym, ◌∙◌, subst}
use Rattle.std.proofs.Common.{Option, Some, None, is_some, Ok}
use Rattle.std.proofs.lemmas.Bool.{eq-eqb}
use Rattle.lan_base.specs.declared.address.Mi.{Mi}
use Rattle.lan_base.specs.Identifiers.{same_mi}
use Rattle.lan_base.specs.declared.frame.UserFrame.{UserFrame}
use Rattle.mkpdu_codec.specs.declared.announcement.Announcement.{Announcement}
use Rattle.sak_exchange.specs.declared.held_key.Key.{Key}
use Rattle.sak_exchange.specs.Histories.{ticked}
use Rattle.sak_exchange.specs.Held.{allows}
use Rattle.sak_exchange.specs.Beginning.{Beginning}
use Rattle.sak_exchange.proofs.Public.{by_option, same-equal}
use Rattle.mka_station.specs.Lives.{Member, Entry, keys_of, elected, elected_by, live_words}
use Rattle.mka_station.specs.Lives.{peers_of}
use Rattle.mka_station.specs.Lives as lives
use Rattle.mka_station.specs.Views.{view, is_server}
use Rattle.mka_station.specs.Tick.{made, led, tick_turn, with_install, with_beginning}
use Rattle.mka_station.specs.Hearing.{judged, hear_turn, outcome_of, key_taken}
use Rattle.mka_station.specs.Tick.{ticked_past, says_at}
use Rattle.mka_station.specs.Hearing.{answer_at, heard_past, follow_at}
use Rattle.mka_station.specs.Tick.{roster_at}
use Rattle.lan_core.specs.declared.event.Event.TheVariants as events
use Rattle.lan_core.specs.declared.fact.Fact.TheVariants as facts
use Rattle.lan_core.specs.declared.settings.Settings.{Settings}
use Rattle.lan_core.specs.Run.{Run, Happening}
use Rattle.lan_core.specs.Lives.{Life, life, seen_at, sak_in}
use Rattle.lan_core.specs.Types.{IsSetting}
use Rattle.lan_core.specs.Legal.{IsStepped}
use Rattle.lan_base.specs.Differing.{AllDiffer}
use Rattle.lan_core.specs.Fresh.{IsUnforged, drawn_mis}
use Rattle.group_safety.specs.Moments.{upto, At}
use Rattle.group_safety.specs.Stations.{mi_at, keys_at, server_of, server_at}
use Rattle.group_safety.proofs.rollover.Course.{Course, Rests}
use Rattle.group_safety.proofs.Members.{In}
use Rattle.group_safety.proofs.once.Rules.{taken-is, taking-is}
use Rattle.group_safety.proofs.once.Histories.{view-keys, keys-ticked}
use Rattle.group_safety.proofs.rollover.AtMoments.{event-at}
use Rattle.group_safety.proofs.rollover.Begins.{making-is}
use Rattle.group_safety.proofs.rollover.Turns.{IsTurn, news, turn-new, news-quiet, turn-past}
use Rattle.group_safety.specs.Rounds.{Since}
use Rattle.group_safety.proofs.rollover.Turns.{hear-past}
use Rattle.group_safety.proofs.rollover.TicksAreRounds.{IsPaced}
use Rattle.group_safety.proofs.rollover.EventKinds.{IsReached}
use Rattle.group_safety.proofs.rollover.Words.{live-said}
use Rattle.group_safety.proofs.rollover.OneLife.{no-birth-of}
use Rattle.group_safety.proofs.rollover.Lived.{key-part, tick-turn-at, hear-turn-at, tick-at}
use Rattle.group_safety.proofs.rollover.Lived.{course}
use Rattle.group_safety.proofs.rollover.Lived as lived
use Rattle.group_safety.proofs.rollover.Makers.{MadeAt, mi-of-life}

-- ---- who is elected after a turn

elected-is : (m : Member) (p : List Entry)
    → elected m p ≡ elected_by m (live_words m (peers_of m p))
unfolding elected
elected-is m p = refl

peers-begun : (m : Member) (b : Option Beginning) (p : List Entry)
    → peers_of m (with_beginning b p) ≡ peers_of m p
unfolding peers_of
peers-begun m None p = refl
peers-begun m (Some b) p = refl

peers-put : (m : Member) (r : _) (k : Option Key) (p : List Entry)
    → peers_of m (with_install r k p) ≡ peers_of m p
unfolding peers_of
peers-put m r None p = refl
peers-put m r (Some k) p = refl

-- the words of the live members after a tick
pub words-ticked : (m : Member) (seen : _) (sak : _) (p : List Entry)
    → live_words m (peers_of m (tick_turn m seen sak p).past) ≡ live_words m
    (peers_of m (lives.ticked ∷ p))
words-ticked m seen sak p =
    ap (λ q. live_words m (peers_of m q)) (sym (turn-past m seen sak p))
    ∙ live-said m (says_at m seen sak p) (ticked_past m seen sak p)
    ∙ ap (live_words m) (peers-put m (roster_at m p) (made m (view m (lives.ticked ∷ p)) seen sak)
    (with_beginning (led m (view m (lives.ticked ∷ p))) (lives.ticked ∷ p))
    ∙ peers-begun m (led m (view m (lives.ticked ∷ p))) (lives.ticked ∷ p))

pub elected-ticked : (m : Member) (seen : _) (sak : _) (p : List Entry)
    → elected m (tick_turn m seen sak p).past ≡ elected m (lives.ticked ∷ p)
elected-ticked m seen sak p =
    elected-is m (tick_turn m seen sak p).past ∙ ap (elected_by m) (words-ticked m seen sak p)
    ∙ sym (elected-is m (lives.ticked ∷ p))

pub elected-heard : (m : Member) (a : Announcement) (p : List Entry)
    → elected m (hear_turn m a p).past ≡ elected m (lives.heard a ∷ p)
elected-heard m a p =
    ap (elected m) (sym (hear-past m a p)) ∙ elected-is m (heard_past m a p)
    ∙ ap (λ h. elected_by m (live_words m h))
    (peers-begun m (follow_at m a p)
    (with_install None (key_taken (answer_at m a p)) (lives.heard a ∷ p))
    ∙ peers-put m None (key_taken (answer_at m a p)) (lives.heard a ∷ p))
    ∙ sym (elected-is m (lives.heard a ∷ p))

pub view-server : (m : Member) (p : List Entry) → (view m p).server ≡ elected m p
unfolding view elected
view-server m p = refl

server-is : (o : Option Mi) (m : Mi) → is_server o m ≡ true → o ≡ Some m
server-is None m is = absurd (cc (is))
server-is (Some s) m is = ap Some (same-equal s m is)

pub server-of-life : (settings : Settings) (u : ℕ) (r : Run) (l : Life) → life settings u r ≡ Some l
    → server_at settings u r ≡ elected l.member l.past
unfolding server_at
server-of-life settings u r l living = ap server_of living

-- ---- an install, or none

-- a station takes a key in an event
pub record TakenAt (settings : Settings) (run : Run) (z u : ℕ) (k : Key) : Type 0 where
  pub event : Happening
  pub at : At run z event
  pub within : z < length run
  pub number : ℕ
  pub octets : List ℕ
  pub came : IsReached (upto z run) event.event u number octets
  pub life_then : Life
  pub living : life settings u (upto z run) ≡ Some life_then
  pub heard : Announcement
  pub right : judged life_then.member.setup octets ≡ Ok heard
  pub takes : key_taken (answer_at life_then.member heard life_then.past) ≡ Some k
  pub keys_after : keys_at settings u (event ∷ upto z run) ≡ keys_of life_then.member
      (hear_turn life_then.member heard life_then.past).past

-- it rests, or makes a key, or takes one
pub data KeyTurn (settings : Settings) (run : Run) (c : Course) (u n : ℕ) : Type 0 where
  rests : Rests c u n → KeyTurn settings run c u n
  makes : (k : Key) → MadeAt settings run n u k
      → server_at settings u (upto (suc n) run) ≡ Some k.id.server
      → c.ticks u n ≡ 1 → allows (ticked true ∷ keys_at settings u (upto n run)) ≡ true
      → KeyTurn settings run c u n
  takes : (k : Key) → TakenAt settings run n u k
      → server_at settings u (upto (suc n) run) ≡ Some k.id.server
      → mi_at settings u (upto n run) ≢ Some k.id.server → KeyTurn settings run c u n

module _ (settings : Settings) (users : List UserFrame) (run : Run) (is : IsSetting settings)
    (stepped : IsStepped settings users run) (unforged : IsUnforged settings run)
    (fresh : AllDiffer (drawn_mis run)) (from : Since) (paced : IsPaced from run) where
  abbrev pub the-course : Course
  the-course = course settings users run is stepped unforged fresh from paced

  turn-rests : (u n base : ℕ) (t : IsTurn base (keys_at settings u (upto n run))
      (keys_at settings u (upto (suc n) run))) → t.key ≡ None
      → ((s : Bool) → t.tick ≡ Some s → s ≡ true)
      → Rests the-course u n
  turn-rests u n base t none on = record {
    new = news t.tick t.lead t.roster t.key t.follow;
    whole = turn-new base (keys_at settings u (upto n run))
        (keys_at settings u (upto (suc n) run)) t;
    quiet = news-quiet t.tick t.lead t.roster t.key t.follow none on;
  }

  tick-own : (u next : ℕ) → Rattle.group_safety.proofs.rollover.Waits.tick_of u (events.Tick u next)
      ≡ 1
  tick-own u next = let t = eq-eqb u u refl in rw t refl

  -- in a life that elects a server after the event
  pub installs-at : (u n : ℕ) (m e : Mi) → n < length run → mi_at settings u (upto n run) ≡ Some m
      → mi_at settings u (upto (suc n) run) ≡ Some m
      → server_at settings u (upto (suc n) run) ≡ Some e → KeyTurn settings run the-course u n
  installs-at u n m e high here then serves =
      let s = event-at n run high in
      let x : Happening = s.0 in
      let at = s.1 in
      elim (key-part settings users run is stepped unforged fresh u n x high at) [
        | lived.rests same none ↦ rests
            (record { new = []; whole = ap (keys_at settings u) at ∙ same; quiet = tt })
        | lived.ticks next l ev living after before keys ↦
            let seen = seen_at settings u (upto n run) l next in
            let sak = sak_in x.facts in
            let t = tick-turn-at settings users run is stepped unforged fresh from paced u n next x
            l at before keys in
            let server : server_at settings u (upto (suc n) run) ≡ elected l.member
            (lives.ticked ∷ l.past) =
            ap (server_at settings u) at ∙ server-of-life settings u (x ∷ upto n run) _ after
            ∙ elected-ticked l.member seen sak l.past in
            let on : elected l.member (lives.ticked ∷ l.past) ≡ Some e = sym server ∙ serves in
            let v = view l.member (lives.ticked ∷ l.past) in
            by_option (made l.member v seen sak)
            (λ none. rests (turn-rests u n l.member.base t.turn (t.key_is ∙ none)
            (λ b f. let g = sym f ∙ t.tick_is ∙ ap (λ o. Some (is_some o)) on in cc (g))))
            (λ k makes_k. let r = making-is l.member v seen sak k makes_k in
            let own = server-is v.server l.member.mi r.serves_here in
            let names = ap (λ (w : Key). w.id.server) r.key in
            let h = view-keys l.member (lives.ticked ∷ l.past) ∙ keys-ticked l.member l.past
            ∙ ap (λ o. ticked (is_some o) ∷ Rattle.mka_station.specs.Lives.keys_of l.member
            l.past) on ∙ ap (λ w. ticked true ∷ w) (sym before) in
            makes k (record {
              event = x;
              at = at;
              within = high;
              next = next;
              tick = ev;
              life_then =
                  l;
              living = living;
              makes = makes_k;
            })
            (server ∙ sym (view-server l.member (lives.ticked ∷ l.past)) ∙ own
            ∙ ap Some (sym names))
            (tick-at settings users run is stepped unforged fresh from paced u n x at
            ∙ ap (Rattle.group_safety.proofs.rollover.Waits.tick_of u) ev ∙ tick-own u next)
            (subst (λ w. allows w ≡ true) h r.allowed))
        | lived.hears number octets l a came living right after before keys ↦
            let t = hear-turn-at settings users run is stepped unforged fresh from paced u n x l a
            at before keys in
            let v = view l.member (lives.heard a ∷ l.past) in
            let server : server_at settings u (upto (suc n) run) ≡ elected l.member
            (lives.heard a ∷ l.past) =
            ap (server_at settings u) at ∙ server-of-life settings u (x ∷ upto n run) _ after
            ∙ elected-heard l.member a l.past in
            by_option (key_taken (answer_at l.member a l.past))
            (λ none. rests (turn-rests u n l.member.base t.turn (t.key_is ∙ none)
            (λ b f. let g = sym f ∙ t.tick_is in absurd (cc (g)))))
            (λ k takes_k. let r = taking-is l.member v (outcome_of l.member l.past a) a k takes_k in
            let other = (taken-is l.member a l.past k takes_k).other in
            let own = server-is v.server a.mi r.elected in
            takes k (record {
              event = x;
              at = at;
              within = high;
              number = number;
              octets =
                  octets;
              came = came;
              life_then = l;
              living = living;
              heard = a;
              right =
                  right;
              takes = takes_k;
              keys_after = keys;
            })
            (server ∙ sym (view-server l.member (lives.heard a ∷ l.past)) ∙ own
            ∙ ap Some (sym r.server))
            (λ f. let g : l.member.mi ≡ k.id.server = let w =
            sym (mi-of-life settings u (upto n run) l living) ∙ f in cc (w) in
            let mine : a.mi ≡ l.member.mi = sym r.server ∙ sym g in
            let yes : same_mi a.mi l.member.mi ≡ true =
            rw mine (Rattle.sak_exchange.proofs.Public.same-itself l.member.mi) in
            cc (other, yes)))
        | lived.born l birth none mi fact ↦
            let same : l.member.mi ≡ m = let f = sym (ap (mi_at settings u) at ∙ mi) ∙ then in
            cc (f) in
            absurd (no-birth-of settings users run stepped fresh u u m n x high at here
            (subst (λ k. In (facts.Life u k) x.facts) same fact))
      ]
