-- The hitless rollover over stepped runs.
use Rattle.std.proofs.Common.{◌≡◌, ℕ, suc, ◌+◌, ◌≤◌, ◌<◌, List, ◌∷◌, length, refl, ap, sym}
use Rattle.std.proofs.Common.{◌∙◌, subst, arith}
use Rattle.std.proofs.Common.{Option, Some, None, option_map}
use Rattle.lan_base.specs.declared.frame.UserFrame.{UserFrame}
use Rattle.lan_base.specs.Timers.{retire_time}
use Rattle.rx_slots.specs.Numbers.{answer}
use Rattle.rx_slots.specs.Histories.{standing_key}
use Rattle.sak_exchange.specs.declared.held_key.Key.{Key}
use Rattle.sak_exchange.specs.Histories.{installs}
use Rattle.sak_exchange.specs.Held.{received, transmitting}
use Rattle.sak_exchange.specs.Lives.{Has}
use Rattle.lan_core.specs.declared.settings.Settings.{Settings}
use Rattle.lan_core.specs.Run.{Run, Happening}
use Rattle.lan_core.specs.Ledgers.{Install, install_of}
use Rattle.lan_core.specs.Ledgers as ledgers
use Rattle.lan_core.specs.Lives.{Life, life, receiving, transmitting_at, keys_in}
use Rattle.lan_core.specs.Types.{IsSetting}
use Rattle.lan_core.specs.Legal.{IsStepped}
use Rattle.lan_core.specs.Fresh.{IsFresh, IsUnforged}
use Rattle.lan_core.proofs.Public.{front-stepped, front-fresh, front-unforged}
use Rattle.group_safety.specs.Moments.{upto}
use Rattle.group_safety.specs.Rounds.{rounds}
use Rattle.group_safety.specs.Stations.{keys_at}
use Rattle.group_safety.specs.Steady.{Rollover, IsKeeper, IsSteady}
use Rattle.group_safety.specs.Time.{Flight, IsFlight, IsFound, Answers, HasSaid, IsInTime}
use Rattle.group_safety.specs.Hitless.{Hitless}
use Rattle.group_safety.proofs.rollover.Course.{Holds}
use Rattle.group_safety.proofs.Members.{In, in-contains, by_sum}
use Rattle.group_safety.proofs.once.Living.{IsLiving, install_by}
use Rattle.group_safety.proofs.once.Nexts.{in-later}
use Rattle.group_safety.proofs.once.RunLaws.{known, run-one_key}
use Rattle.group_safety.proofs.rollover.Spans.{from_to}
use Rattle.group_safety.proofs.rollover.AtMoments.{event-at, upto-whole}
use Rattle.group_safety.proofs.rollover.KeyFacts.{received-installed, transmitting-received}
use Rattle.group_safety.proofs.rollover.OneLife.{step-at}
use Rattle.group_safety.proofs.rollover.Said.{known-at}
use Rattle.group_safety.proofs.rollover.Lived.{kept-at}
use Rattle.group_safety.proofs.rollover.Makers.{keys-of-life}
use Rattle.group_safety.proofs.rollover.Timely.{held-old, held-new, soon-for-old}
use Rattle.group_safety.proofs.rollover.Slots.{sak_under, ans-differ, under-is}
use Rattle.group_safety.proofs.rollover.Flights.{answers-it, slots-at, has-in, flight}

installs-step : (x : Happening) (r : Run) (i : Install) → In i (ledgers.installs r)
    → In i (ledgers.installs (x ∷ r))
unfolding ledgers.installs
installs-step x r i h = in-later install_of x.facts (ledgers.installs r) i h

module _ (settings : Settings) (users : List UserFrame) (run : Run)
    (is : IsSetting settings) (stepped : IsStepped settings users run)
    (unforged : IsUnforged settings run) (fresh : IsFresh run) where
  installs-more : (n : ℕ) → n ≤ length run → (i : Install) → In i (ledgers.installs (upto n run))
      → In i (ledgers.installs run)
  installs-more n high i h =
      subst (λ r. In i (ledgers.installs r)) (upto-whole (length run) run (omega arith))
      (from_to (λ m. In i (ledgers.installs (upto m run))) n (length run) high h
      (λ m p q j. let s = event-at m run q in
      subst (λ r. In i (ledgers.installs r)) (sym s.1) (installs-step s.0 (upto m run) i j)))

  -- a key of a life is among the run's installs
  of-run : (n u : ℕ) (l : Life) (k : Key) → n ≤ length run → life settings u (upto n run) ≡ Some l
      → Has k (installs (keys_in l)) → In (install_by u k) (ledgers.installs run)
  of-run n u l k high living has =
      let v : IsLiving settings (upto n run) u l =
      (known-at settings users run is stepped unforged fresh.mis n).living u l living in
      installs-more n high (install_by u k) (v.backed k (has-in k (installs (keys_in l)) has))

  sending-of : (n s : ℕ) (key : Key) → n ≤ length run
      → transmitting_at settings s (upto n run) ≡ Some key
      → In (install_by s key) (ledgers.installs run)
  sending-of n s key high sends = go (life settings s (upto n run)) refl sends
    where
      go : (o : Option Life) → life settings s (upto n run) ≡ o
          → transmitting_at settings s (upto n run) ≡ Some key
          → In (install_by s key) (ledgers.installs run)
      go None e f = let g = rw e at f in absurd (cc (g))
      go (Some l) e f =
          let g : transmitting (keys_in l) ≡ Some key = rw e at f in
          of-run n s l key high e (received-installed (keys_in l) key
          (transmitting-received (keys_in l) key g))

  -- where a key of the frame's identifier is received, the frame is found
  found : (f : Flight) (F : IsFlight settings run f)
      → Holds f.key.id (keys_at settings f.receiver (upto f.delivery run)) → IsFound settings run f
  found f F H =
      let K = flight settings users run is stepped unforged fresh.mis f F in
      let l = K.life_then in
      let high = F.within in
      let here = keys-of-life settings f.receiver (upto f.delivery run) l K.living in
      let has = received-installed (keys_at settings f.receiver (upto f.delivery run)) H.key
      H.received_here in
      let mine = of-run f.delivery f.receiver l H.key (omega arith) K.living
      (subst (λ w. Has H.key (installs w)) here has) in
      let C = F.claims in
      let within = C.within in
      let theirs = sending-of f.claim f.sender f.key (omega arith) C.sends in
      let one = run-one_key settings users run (known settings users run stepped unforged) fresh
      (install_by f.receiver H.key) (install_by f.sender f.key)
      (in-contains (ledgers.installs run) (install_by f.receiver H.key) mine)
      (in-contains (ledgers.installs run) (install_by f.sender f.key) theirs) H.named in
      let kept = kept-at settings users run is stepped unforged fresh.mis f.receiver f.delivery
      (omega arith) in
      let under = under-is (received (keys_at settings f.receiver (upto f.delivery run))) H.key
      (ans-differ kept.0 (keys_at settings f.receiver (upto f.delivery run)) kept.1)
      H.received_here in
      let stands : standing_key (receiving f.receiver (upto f.delivery run)) f.key.an
      ≡ Some f.key.sak =
      slots-at settings users run is stepped unforged fresh.mis f.delivery (omega arith) f.receiver
      f.key.an
      ∙ ap (λ an. sak_under an (received (keys_at settings f.receiver (upto f.delivery run))))
      (sym one.1)
      ∙ ap (option_map (λ (w : Key). w.sak)) under ∙ ap Some one.0 in
      let answered = answers-it l.member.setup.sci settings.window
      (receiving f.receiver (upto f.delivery run)) f.key.sak K.sci f.key.an K.pn f.key.conf K.user
      K.key_is K.sent
      stands in
      record {
        event = K.event;
        at = K.at;
        arrival = answer l.member.setup.sci settings.window (receiving f.receiver
            (upto f.delivery run)) K.octets;
        fact = in-contains K.event.facts _ K.fact;
        answers = subst (λ o. Answers (answer l.member.setup.sci settings.window
            (receiving f.receiver (upto f.delivery run)) o)) (sym K.protected_so) answered;
        receives = record {
          key = H.key;
          received_here = in-contains (received (keys_at settings f.receiver
              (upto f.delivery run))) H.key
              (has-in H.key (received (keys_at settings f.receiver (upto f.delivery run)))
              H.received_here);
          number =
              one.1;
          secret = one.0;
        };
      }

  -- any frame under the old key that comes so soon is found
  old-found : (o : Rollover) (S : IsSteady settings run o) (f : Flight) → IsFlight settings run f
      → f.key.id ≡ o.old_id → o.made < f.delivery
      → HasSaid o.server f.receiver f.delivery (IsKeeper settings run o)
      → rounds o.from (upto f.delivery run) < rounds o.from (upto (suc o.start) run) + retire_time
      → IsFound settings run f
  old-found o S f F named after who soon =
      found f F
      (subst (λ v. Holds v (keys_at settings f.receiver (upto f.delivery run))) (sym named)
      (held-old settings users run is stepped unforged fresh.mis o.from S.whole_rounds o S
      f.delivery f.frame f.receiver F.event F.within F.at F.delivered after soon who))

  -- a frame in time is found
  in-time-found : (o : Rollover) (S : IsSteady settings run o) (f : Flight)
      → IsFlight settings run f → IsInTime settings run o f → IsFound settings run f
  in-time-found o S f F T =
      let K = flight settings users run is stepped unforged fresh.mis f F in
      let order = K.order in
      let high = F.within in
      by_sum T
      (λ t. let after = t.after in
      old-found o S f F t.named (omega arith) t.reaches
      (soon-for-old settings users run is stepped unforged fresh.mis o.from S.whole_rounds o S f
      F.pn (omega arith) F.claims t))
      (λ t. let after = t.after in
      found f F
      (subst (λ v. Holds v (keys_at settings f.receiver (upto f.delivery run))) (sym t.named)
      (held-new settings users run is stepped unforged fresh.mis o.from S.whole_rounds o S
      f.delivery f.receiver F.within (omega arith) t.last t.reaches)))

-- ---- with no other premise

-- a run with a rollover is of a group that may be set up so
setting-of : (settings : Settings) (users : List UserFrame) (run : Run) (o : Rollover)
    → IsStepped settings users run → IsFresh run → IsSteady settings run o → IsSetting settings
setting-of settings users run o stepped fresh S =
    (step-at settings users run stepped fresh.mis o.start S.begins.event S.begins.within
    S.begins.at).setting

pub any-old-found : (settings : Settings) (users : List UserFrame) (run : Run)
    → IsStepped settings users run → IsUnforged settings run → IsFresh run
    → (o : Rollover) (f : Flight) → IsSteady settings run o → IsFlight settings run f
    → f.key.id ≡ o.old_id → o.made < f.delivery
    → HasSaid o.server f.receiver f.delivery (IsKeeper settings run o)
    → rounds o.from (upto f.delivery run) < rounds o.from (upto (suc o.start) run) + retire_time
    → IsFound settings run f
any-old-found settings users run stepped unforged fresh o f S F named after who soon =
    old-found settings users run (setting-of settings users run o stepped fresh S) stepped unforged
    fresh o S f F named after who soon

-- over the run up to each of its moments
pub run-hitless : (settings : Settings) (users : List UserFrame) (run : Run)
    → IsStepped settings users run → IsUnforged settings run → IsFresh run → Hitless settings run
run-hitless settings users run stepped unforged fresh later front o f same S F T =
    let stepped_then = front-stepped settings users later front
    (subst (IsStepped settings users) same stepped) in
    let unforged_then = front-unforged settings later front
    (subst (IsUnforged settings) same unforged) in
    let fresh_then = front-fresh later front (subst IsFresh same fresh) in
    in-time-found settings users front
    (setting-of settings users front o stepped_then fresh_then S) stepped_then unforged_then
    fresh_then o S f F T
