-- One frame for one member identifier and message number.
use Rattle.std.proofs.Common.{◌≡◌, ℕ, suc, ◌+◌, ◌≤◌, ◌<◌, List, ◌∷◌, length, refl, ap, sym, ◌∙◌}
use Rattle.std.proofs.Common.{subst, arith}
use Rattle.std.proofs.Common.{Option, Some, None}
use Rattle.std.proofs.lemmas.Bool.{cases_lt}
use Rattle.lan_base.specs.declared.address.Mi.{Mi}
use Rattle.lan_base.specs.declared.frame.UserFrame.{UserFrame}
use Rattle.mkpdu_codec.specs.declared.announcement.Announcement.{Announcement}
use Rattle.peer_lists.specs.Histories.{last_sent}
use Rattle.mka_station.specs.Lives.{Member, Entry, peers_of}
use Rattle.mka_station.specs.Tick.{tick_turn, with_sent}
use Rattle.mka_station.specs.Hearing.{hear_turn, key_taken}
use Rattle.mka_station.specs.Tick.{says_at, ticked_past}
use Rattle.mka_station.specs.Hearing.{answer_at, follow_at}
use Rattle.lan_core.specs.declared.event.Event.TheVariants as events
use Rattle.lan_core.specs.declared.fact.Fact.TheVariants as facts
use Rattle.lan_core.specs.declared.settings.Settings.{Settings}
use Rattle.lan_core.specs.Run.{Run, Happening}
use Rattle.lan_core.specs.Lives.{Life, life, seen_at, sak_in}
use Rattle.lan_core.specs.Types.{IsSetting}
use Rattle.lan_core.specs.Legal.{IsStepped}
use Rattle.lan_base.specs.Differing.{AllDiffer}
use Rattle.lan_core.specs.Fresh.{IsUnforged, drawn_mis}
use Rattle.group_safety.specs.Moments.{upto}
use Rattle.group_safety.specs.Stations.{mi_at}
use Rattle.group_safety.proofs.Members.{In, by_sum}
use Rattle.group_safety.proofs.once.Histories.{sent-before, sent-some, sent-heard}
use Rattle.group_safety.proofs.once.Ticking.{tick_key, tick_roster, tick_lead, announced-next}
use Rattle.group_safety.proofs.rollover.Spans.{from_to}
use Rattle.group_safety.proofs.rollover.AtMoments.{event-at, one-event}
use Rattle.group_safety.specs.Rounds.{Since}
use Rattle.group_safety.proofs.rollover.Turns.{turn-past, hear-past}
use Rattle.group_safety.proofs.rollover.TicksAreRounds.{IsPaced}
use Rattle.group_safety.proofs.rollover.EventKinds.{part}
use Rattle.group_safety.proofs.rollover.EventKinds as parts
use Rattle.group_safety.proofs.rollover.Shown.{says-is}
use Rattle.group_safety.proofs.rollover.OneLife.{one-life, no-birth-of, step-at}
use Rattle.group_safety.proofs.rollover.Said.{Said}
use Rattle.group_safety.proofs.rollover.Leads.{life-when-said}
use Rattle.group_safety.proofs.rollover.Makers.{mi-of-life}

-- the number that a life sent last
abbrev last_of : Option Life → ℕ
last_of None = 0
last_of (Some l) = last_sent (peers_of l.member l.past)

sent-tick : (m : Member) (seen : _) (sak : _) (p : List Entry)
    → last_sent (peers_of m p) ≤ last_sent (peers_of m (tick_turn m seen sak p).past)
sent-tick m seen sak p =
    let past = ap (λ q. last_sent (peers_of m q)) (sym (turn-past m seen sak p)) in
    let before : last_sent (peers_of m (ticked_past m seen sak p)) ≡ last_sent (peers_of m p) =
    sent-before m (tick_roster m p) (tick_key m seen sak p) (tick_lead m p) p in
    let g = go (says_at m seen sak p) refl before in omega arith
  where
    go : (o : Option Announcement) → says_at m seen sak p ≡ o
        → last_sent (peers_of m (ticked_past m seen sak p)) ≡ last_sent (peers_of m p)
        → last_sent (peers_of m p) ≤ last_sent
        (peers_of m (with_sent (says_at m seen sak p) (ticked_past m seen sak p)))
    go None none before = rw none (omega arith)
    go (Some a) said before =
        let next = announced-next m seen sak p a said in
        let some = sent-some m a (ticked_past m seen sak p) in rw said (omega arith)

sent-hear : (m : Member) (a : Announcement) (p : List Entry)
    → last_sent (peers_of m (hear_turn m a p).past) ≡ last_sent (peers_of m p)
sent-hear m a p = ap (λ q. last_sent (peers_of m q)) (sym (hear-past m a p))
    ∙ sent-heard m (follow_at m a p) (key_taken (answer_at m a p)) a p

module _ (settings : Settings) (users : List UserFrame) (run : Run) (is : IsSetting settings)
    (stepped : IsStepped settings users run) (unforged : IsUnforged settings run)
    (fresh : AllDiffer (drawn_mis run)) (from : Since) (paced : IsPaced from run) where
  -- a life's numbers never fall
  sent-on : (u : ℕ) (m : Mi) (n : ℕ) → n < length run → mi_at settings u (upto n run) ≡ Some m
      → mi_at settings u (upto (suc n) run) ≡ Some m
      → last_of (life settings u (upto n run)) ≤ last_of (life settings u (upto (suc n) run))
  sent-on u m n high here then =
      let s = event-at n run high in
      let x : Happening = s.0 in
      elim (part settings users u x (upto n run)
      (step-at settings users run stepped fresh n x high s.1)) [
        | parts.same same none ↦ let e = ap last_of (ap (life settings u) s.1 ∙ same) in omega arith
        | parts.ticks next l ev living after ↦
            let e = ap last_of (ap (life settings u) s.1 ∙ after) in let f = ap last_of living in
            let g = sent-tick l.member (seen_at settings u (upto n run) l next)
            (sak_in x.facts) l.past in omega arith
        | parts.hears number octets l a came living sec right after ↦
            let e = ap last_of (ap (life settings u) s.1 ∙ after) in let f = ap last_of living in
            let g = sent-hear l.member a l.past in omega arith
        | parts.born l none birth after fact ↦
            let same : l.member.mi ≡ m = let f =
            sym (mi-of-life settings u (x ∷ upto n run) l after)
            ∙ sym (ap (mi_at settings u) s.1) ∙ then in cc (f) in
            absurd (no-birth-of settings users run stepped fresh u u m n x high s.1 here
            (subst (λ k. In (facts.Life u k) x.facts) same fact))
      ]

  -- what is said has the next number of its life
  pub said-number : (z t : ℕ) (a : Announcement) (s : Said settings run z t a)
      → (mi_at settings t (upto z run) ≡ Some a.mi) ×
      (a.mn ≡ last_of (life settings t (upto z run)) + 1) ×
      (last_of (life settings t (upto (suc z) run)) ≡ a.mn)
  said-number z t a s =
      let l = s.life_then in
      let m = l.member in
      let seen = seen_at settings t (upto z run) l s.next in
      let sak = sak_in s.event.facts in
      let says = says-is m seen sak l.past a s.said in
      let after = ap last_of (life-when-said settings users run is stepped unforged fresh from paced
      z t a s) in
      let past = ap (λ q. last_sent (peers_of m q)) (sym (turn-past m seen sak l.past)) in
      let spoken = ap (λ o. last_sent (peers_of m (with_sent o (ticked_past m seen sak l.past))))
      s.said in (
        mi-of-life settings t (upto z run) l s.living
            ∙ ap Some (ap (λ (w : Announcement). w.mi) says),
        announced-next m seen sak l.past a s.said ∙ ap (λ n. n + 1) (sym (ap last_of s.living)),
        after ∙ past ∙ spoken ∙ sent-some m a (ticked_past m seen sak l.past),
      )

  not-earlier : (z y t u : ℕ) (a b : Announcement) → Said settings run z t a
      → Said settings run y u b → a.mi ≡ b.mi → a.mn ≡ b.mn → z < y → ⊥
  not-earlier z y t u a b s w same_mi same_mn less =
      let p = said-number z t a s in
      let q = said-number y u b w in
      let within = w.within in
      let one = one-life settings users run stepped fresh t u a.mi z y (omega arith)
      (omega arith) p.0 (q.0 ∙ ap Some (sym same_mi)) in
      let there : b.mn ≡ last_of (life settings t (upto y run)) + 1 =
      subst (λ v. b.mn ≡ last_of (life settings v (upto y run)) + 1) one.0 q.1 in
      let first = p.2 in
      let grows : last_of (life settings t (upto (suc z) run)) ≤ last_of
      (life settings t (upto y run)) =
      from_to (λ n. last_of (life settings t (upto (suc z) run)) ≤ last_of
      (life settings t (upto n run))) (suc z) y less (omega arith)
      (λ n k l h. let o = sent-on t a.mi n (omega arith) (one.1 n (omega arith) (omega arith))
      (one.1 (suc n) (omega arith) l) in omega arith) in
      omega arith

  pub one-frame : (z y t u : ℕ) (a b : Announcement) → Said settings run z t a
      → Said settings run y u b → a.mi ≡ b.mi → a.mn ≡ b.mn → z ≡ y
  one-frame z y t u a b s w mi mn =
      by_sum (cases_lt z y) (λ less. absurd (not-earlier z y t u a b s w mi mn less))
      (λ le. by_sum (cases_lt y z) (λ less. absurd
      (not-earlier y z u t b a w s (sym mi) (sym mn) less)) (λ le2. omega arith))

  -- one event says one thing
  pub one-saying : (z t u : ℕ) (a b : Announcement) → Said settings run z t a
      → Said settings run z u b → (t ≡ u) × (a ≡ b)
  one-saying z t u a b s w =
      let event = one-event z run s.event w.event s.at w.at in
      let tick : events.Tick t s.next ≡ events.Tick u w.next = sym s.tick
      ∙ ap (λ (v : Happening). v.event) event ∙ w.tick in
      let same_t : t ≡ u = cc (tick) in
      let same_n : s.next ≡ w.next = cc (tick) in
      let same_l : s.life_then ≡ w.life_then = let f = sym s.living
      ∙ ap (λ v. life settings v (upto z run)) same_t ∙ w.living in cc (f) in
      let says : says_at s.life_then.member (seen_at settings t (upto z run) s.life_then s.next)
      (sak_in s.event.facts) s.life_then.past
      ≡ says_at w.life_then.member (seen_at settings u (upto z run) w.life_then w.next)
      (sak_in w.event.facts) w.life_then.past =
      ap (λ (v : Life). says_at v.member (seen_at settings t (upto z run) v s.next)
      (sak_in s.event.facts) v.past) same_l
      ∙ ap (λ v. says_at w.life_then.member (seen_at settings v (upto z run) w.life_then s.next)
      (sak_in s.event.facts) w.life_then.past) same_t
      ∙ ap (λ v. says_at w.life_then.member (seen_at settings u (upto z run) w.life_then v)
      (sak_in s.event.facts) w.life_then.past) same_n
      ∙ ap (λ (v : Happening). says_at w.life_then.member
      (seen_at settings u (upto z run) w.life_then w.next) (sak_in v.facts) w.life_then.past)
      event in
      (same_t, let f = sym s.said ∙ says ∙ w.said in cc (f))
