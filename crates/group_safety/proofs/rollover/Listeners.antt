-- A steady rollover of a run, at those that listen.
use Rattle.std.proofs.Common.{◌≡◌, ◌≢◌, inl, inr, ℕ, suc, ◌+◌, ◌≤◌, ◌<◌, true, false, List, [], ◌∷◌}
use Rattle.std.proofs.Common.{◌++◌, length, refl, ap, sym, ◌∙◌, subst, arith}
use Rattle.std.proofs.Common.{Option, Some, None, is_some, max, unwrap_or}
use Rattle.std.proofs.lemmas.Bool.{cases_lt, eq-eqb}
use Rattle.lan_base.specs.declared.address.Mi.{Mi}
use Rattle.lan_base.specs.declared.key_id.KeyId.{KeyId}
use Rattle.lan_base.specs.declared.frame.UserFrame.{UserFrame}
use Rattle.lan_base.specs.Identifiers.{same_mi}
use Rattle.mkpdu_codec.specs.declared.announcement.Announcement.{Announcement}
use Rattle.peer_lists.specs.Acceptance.{Accepted}
use Rattle.sak_exchange.specs.declared.change.Cause.{Cause}
use Rattle.sak_exchange.specs.declared.report.Report.{Report}
use Rattle.sak_exchange.specs.declared.held_key.Key.{Key}
use Rattle.sak_exchange.specs.Histories.{Keying, ticked, installed, began, installs}
use Rattle.sak_exchange.specs.Histories.{has_begun}
use Rattle.sak_exchange.specs.Held.{KeepsRules, latest, old}
use Rattle.sak_exchange.specs.Beginning.{Beginning}
use Rattle.sak_exchange.specs.Reports.{reports_latest, reports_old}
use Rattle.sak_exchange.specs.Taking.{greatest_of}
use Rattle.sak_exchange.specs.Lives.{Has, IsQuiet, IsOver}
use Rattle.sak_exchange.proofs.Public.{by_test, same-itself}
use Rattle.mka_station.specs.Lives.{Member, Entry, live_words, peers_of}
use Rattle.mka_station.specs.Lives as lives
use Rattle.mka_station.specs.Views.{view, reports}
use Rattle.mka_station.specs.Hearing.{hear_turn, outcome_of, judged}
use Rattle.gcm_frames.specs.Tags.{is_sec}
use Rattle.std.specs.Prelude.{nat_eq, Ok}
use Rattle.mka_station.specs.Hearing.{follow_at}
use Rattle.lan_core.specs.declared.event.Event.TheVariants as events
use Rattle.lan_core.specs.declared.settings.Settings.{Settings}
use Rattle.lan_core.specs.Run.{Run, Happening}
use Rattle.lan_core.specs.Lives.{Life, life, lived, seen_at, sak_in, turn_at_tick}
use Rattle.lan_core.specs.Types.{IsSetting}
use Rattle.lan_core.specs.Legal.{IsStepped}
use Rattle.lan_base.specs.Differing.{AllDiffer}
use Rattle.lan_core.specs.Fresh.{IsUnforged, drawn_mis}
use Rattle.group_safety.specs.Moments.{upto, At}
use Rattle.group_safety.specs.Rounds.{Since, rounds}
use Rattle.group_safety.specs.Stations.{mi_at, keys_at}
use Rattle.group_safety.specs.Steady.{Begins, Rollover, IsListener, IsKeeper, IsSteady}
use Rattle.group_safety.proofs.rollover.Course.{Course, Rests, IsListening, IsKeeping}
use Rattle.group_safety.proofs.Members.{In, contains-in, all-in, in-map, by_sum}
use Rattle.group_safety.proofs.once.Histories.{with_began, with_key, view-keys, keys-heard, count-began}
use Rattle.group_safety.proofs.rollover.AtMoments.{one-event, upto-whole}
use Rattle.group_safety.proofs.rollover.KeyFacts.{installed-on, latest-received, received-installed}
use Rattle.group_safety.proofs.once.Rules.{taking-is}
use Rattle.group_safety.proofs.rollover.Begins.{led-is, all-report}
use Rattle.group_safety.proofs.rollover.EventKinds.{kind, IsReached}
use Rattle.group_safety.proofs.rollover.EventKinds as parts
use Rattle.group_safety.proofs.rollover.Shows.{begins-by}
use Rattle.group_safety.proofs.rollover.Shows as shows
use Rattle.group_safety.proofs.rollover.Turns.{IsHearTurn, kept-turn}
use Rattle.group_safety.proofs.rollover.Turns.{with_tick}
use Rattle.group_safety.proofs.rollover.TicksAreRounds.{IsPaced}
use Rattle.group_safety.proofs.rollover.Shown.{said-latest, said-old}
use Rattle.group_safety.proofs.rollover.OneLife.{step-at, unbroken-life, stands-at}
use Rattle.group_safety.proofs.rollover.Said.{Said, framed-said}
use Rattle.group_safety.proofs.rollover.Lived.{kept-at, life-kept, one-install-at, hear-turn-at}
use Rattle.group_safety.proofs.rollover.Lived.{lives-of, heard-said}
use Rattle.group_safety.proofs.rollover.Leads.{keys-when-said, life-when-said, installed-upto}
use Rattle.group_safety.proofs.rollover.Makers.{MadeAt, keys-of-life, mi-of-life, make-names}
use Rattle.group_safety.proofs.rollover.Makers.{turn-puts, maker, makes-rise, one-make}
use Rattle.group_safety.proofs.rollover.Words.{word-heard, word-other}
use Rattle.group_safety.proofs.rollover.OneFrame.{one-frame, one-saying, said-number}
use Rattle.group_safety.proofs.rollover.Servers.{TakenAt, rests, makes, takes, installs-at}
use Rattle.group_safety.proofs.rollover.Servers.{words-ticked, the-course}
use Rattle.group_safety.proofs.rollover.Rollovers.{tick-turn-then, beginning-tick}
use Rattle.group_safety.proofs.rollover.Rollovers.{grown-in, made-here, server-life}
use Rattle.group_safety.proofs.rollover.Rollovers.{led-here}
use Rattle.group_safety.proofs.rollover.Rollovers.{apart, rollover}

-- ---- histories

-- a number that is over the greatest is over each
over-each : (s : Mi) (h : List Keying) (n : ℕ) (k : Key) → IsOver (greatest_of s h) n
    → Has k (installs h) → k.id.server ≡ s → k.id.number < n
over-each s [] n k over has e = absurd has
over-each s (ticked b ∷ h) n k over has e = over-each s h n k over has e
over-each s (installed r j ∷ h) n k over (inl same) e =
    let here : same_mi j.id.server s ≡ true =
    rw (ap (λ (w : Key). w.id.server) same ∙ e) (same-itself s) in
    let o = rw here at over in
    let number = ap (λ (w : Key). w.id.number) same in omega arith
over-each s (installed r j ∷ h) n k over (inr has) e =
    by_test (same_mi j.id.server s)
    (λ t. let o = rw t at over in over-each s h n k (lower (greatest_of s h) o) has e)
    (λ t. let o = rw t at over in over-each s h n k o has e)
  where
    lower : (o : Option ℕ) → max j.id.number (unwrap_or o 0) < n → IsOver o n
    lower None less = tt
    lower (Some m) less = omega arith
over-each s (began b ∷ h) n k over has e = over-each s h n k over has e

quiet-installs : (new h : List Keying) (k : Key) → IsQuiet new → Has k (installs (new ++ h))
    → Has k (installs h)
quiet-installs [] h k q has = has
quiet-installs (ticked s ∷ new) h k q has = quiet-installs new h k q.1 has
quiet-installs (installed r j ∷ new) h k q has = absurd q
quiet-installs (began e ∷ new) h k q has = quiet-installs new h k q has

began-now : (e : ℕ) (h : List Keying) → has_begun (began e ∷ h) e ≡ true
began-now e h = let t = eq-eqb e e refl in rw t refl

-- what a hearing leaves in which a key begins
following-turn : (m : Member) (a : Announcement) (p : List Entry) (h g : List Keying)
    (b : Beginning) → IsHearTurn m a p h g → KeepsRules m.base g → follow_at m a p ≡ Some b
    → Has b.key (installs g) × (has_begun g b.key.epoch ≡ true)
following-turn m a p h g b t kept is =
    let h3 = with_key t.turn.roster t.turn.key (with_began t.turn.lead (with_tick t.turn.tick h)) in
    let follow = t.follow_is ∙ is in
    let whole : g ≡ began b.key.epoch ∷ h3 = t.turn.whole ∙ ap (λ o. with_began o h3) follow in
    let kept3 = (subst (KeepsRules m.base) whole kept).1 in
    let has = received-installed h3 b.key
    (latest-received m.base h3 b.key kept3 (t.turn.follow_latest b follow)) in (
      subst (λ w. Has b.key (installs w)) (sym whole) has,
      subst
          (λ w. has_begun w b.key.epoch ≡ true) (sym whole) (began-now b.key.epoch h3),
    )

-- ---- a life after an event

pub life-heard : (settings : Settings) (t : ℕ) (x : Happening) (r : Run) (number : ℕ)
    (octets : List ℕ) (l : Life) (a : Announcement) → IsReached r x.event t number octets
    → life settings t r ≡ Some l → is_sec octets ≡ false → judged l.member.setup octets ≡ Ok a
    → life settings t (x ∷ r) ≡ Some (lived l (hear_turn l.member a l.past))
unfolding life
life-heard settings t x r number octets l a (parts.delivered f there same ev) living sec right =
    let yes : nat_eq t t ≡ true = eq-eqb t t refl in
    let sec2 : is_sec f.octets ≡ false = ap is_sec same ∙ sec in
    let right2 : judged l.member.setup f.octets ≡ Ok a = ap (judged l.member.setup) same ∙ right in
    rw ev (rw (yes, there, living, sec2, right2) refl)
life-heard settings t x r number octets l a (parts.injected zero_is ev) living sec right =
    let yes : nat_eq t t ≡ true = eq-eqb t t refl in
    rw ev (rw (yes, living, sec, right) refl)

pub life-ticked : (settings : Settings) (t next : ℕ) (x : Happening) (r : Run) (l : Life)
    → x.event ≡ events.Tick t next → life settings t r ≡ Some l
    → life settings t (x ∷ r) ≡ Some (lived l (turn_at_tick settings t r l next (sak_in x.facts)))
unfolding life
life-ticked settings t next x r l ev living =
    let yes : nat_eq t t ≡ true = eq-eqb t t refl in rw ev (rw (yes, living) refl)

view-live : (m : Member) (p : List Entry) → live_words m (peers_of m p) ≡ (view m p).live
unfolding view
view-live m p = refl

-- ---- over a run

module _ (settings : Settings) (users : List UserFrame) (run : Run) (is : IsSetting settings)
    (stepped : IsStepped settings users run) (unforged : IsUnforged settings run)
    (fresh : AllDiffer (drawn_mis run)) (from : Since) (paced : IsPaced from run) where
  abbrev pub cc_ : Course
  cc_ = the-course settings users run is stepped unforged fresh from paced

  -- a station that begins a key has it, and it has begun
  begun-then : (x t : ℕ) (id : KeyId) (cause : Cause) → Begins run x t id cause
      → (k : Key) × Has k (installs (keys_at settings t (upto (suc x) run))) ×
      (has_begun (keys_at settings t (upto (suc x) run)) k.epoch ≡ true) × (k.id ≡ id)
  begun-then x t id cause B =
      elim (begins-by settings users (upto x run) B.event.event B.event.facts t id B.an B.epoch
      cause
      (kind settings users B.event (upto x run)
      (step-at settings users run stepped fresh x B.event B.within B.at))
      (contains-in B.event.facts _ B.fact)) [
        | shows.leads next l ev living b ↦
            let y = tick-turn-then settings users run is stepped unforged fresh from paced t x next
            B.event l B.within B.at ev living in
            let g = beginning-tick l.member _ _ l.past (keys_at settings t (upto x run))
            (keys_at settings t (upto (suc x) run)) b.by y.0 y.1 b.begins_now in (
              b.by.key,
              received-installed (keys_at settings t (upto (suc x) run)) b.by.key
                  (latest-received l.member.base (keys_at settings t (upto (suc x) run)) b.by.key
                  y.1 g.latest_is),
              ap is_some g.begun_is,
              b.id_is,
            )
        | shows.follows number octets l a came living sec right b ↦
            let after = life-heard settings t B.event
            (upto x run) number octets l a came living sec right in
            let within = B.within in
            let before = keys-of-life settings t (upto x run) l living in
            let turn = hear-turn-at settings users run is stepped unforged fresh from paced t x
            B.event l a B.at before (keys-of-life settings t (B.event ∷ upto x run) _ after) in
            let first = subst (KeepsRules l.member.base) (sym before)
            (life-kept settings users run is stepped unforged fresh x (omega arith) t l living)
            in
            let kept = kept-turn l.member.base (keys_at settings t (upto x run))
            (keys_at settings t (upto (suc x) run)) turn.turn first in
            let g = following-turn l.member a l.past (keys_at settings t (upto x run))
            (keys_at settings t (upto (suc x) run)) b.by turn kept b.begins_now in
            (b.by.key, g.0, g.1, b.id_is)
      ]

  module _ (o : Rollover) (S : IsSteady settings run (record o { from = from })) where
    -- the rollover, with the moment from which rounds count here
    abbrev rolled : Rollover
    rolled = record o { from = from }

    -- what is known of a listener
    pub record IsHeard (t sent : ℕ) (says : Accepted) : Type 0 where
      pub announcement : Announcement
      pub said : Said settings run sent t announcement
      pub uses : announcement.uses ≡ says.told.uses
      pub other : announcement.mi ≢ o.new_id.server
      pub before : suc sent ≤ o.start
      pub reports : reports_latest o.new_id announcement.uses ≡ true

    heard-of : (t sent : ℕ) (says : Accepted) → IsListener settings run rolled t sent says
        → IsHeard t sent says
    heard-of t sent says l =
        let s = l.sends in
        let a = l.announcement in
        let said = framed-said settings users run is stepped unforged fresh sent s.event s.number t
        s.octets s.profile a s.within s.at (contains-in s.event.facts _ s.fact) s.spelled in
        let sl = l.server_life in
        let live = contains-in (live_words sl.member (peers_of sl.member sl.past)) says l.live in
        let w = word-heard sl.member sl.past says live in
        let within = S.begins.within in
        let b : Announcement = w.0 in
        let h = heard-said settings users run is stepped unforged fresh
        (suc o.start) within o.server sl b l.living w.1 in
        let mi : a.mi ≡ b.mi = l.mi ∙ w.2.mi in
        let mn : a.mn ≡ b.mn = l.mn ∙ w.2.mn in
        let moment = one-frame settings users run is stepped unforged fresh from paced sent h.0 t
        h.1 a b said h.3 mi mn in
        let there = subst (λ v. Said settings run v h.1 b) (sym moment) h.3 in
        let one = one-saying settings users run is stepped unforged fresh from paced sent t h.1 a b
        said there in
        let own : sl.member.mi ≡ o.new_id.server =
        let f = sym (mi-of-life settings o.server (upto (suc o.start) run) sl l.living)
        ∙ server-life settings users run is stepped unforged fresh from paced o S (suc o.start)
        (let order = S.order in omega arith) within in cc (f) in
        let other : a.mi ≢ o.new_id.server =
        λ e. word-other sl.member sl.past says live (sym l.mi ∙ e ∙ sym own) in
        record {
          announcement = a;
          said = said;
          uses = ap (λ (v : Announcement). v.uses) one.1 ∙ sym w.2.uses;
          other = other;
          before = not-then t sent a said other (omega (arith, h.2, moment));
          reports = reported a says (ap (λ (v : Announcement). v.uses) one.1
              ∙ sym w.2.uses) sl l.living live;
        }
      where
        not-then : (t sent : ℕ) (a : Announcement) → Said settings run sent t a
            → a.mi ≢ o.new_id.server → sent ≤ o.start → suc sent ≤ o.start
        not-then t sent a said other low =
            by_sum (cases_lt sent o.start) (λ less. less)
            (λ le. let m = (led-here settings users run is stepped unforged fresh from paced o S).0
            in
            let same : sent ≡ o.start = omega arith in
            let at = subst (λ v. At run v said.event) same said.at in
            let event = one-event o.start run said.event m.event at m.at in
            let tick : events.Tick t said.next ≡ events.Tick o.server m.next = sym said.tick
            ∙ ap (λ (v : Happening). v.event) event ∙ m.tick in
            let station : t ≡ o.server = cc (tick) in
            let within = S.begins.within in
            let mine = (said-number settings users run is stepped unforged fresh from paced sent t a
            said).0 in
            let here = subst (λ v. mi_at settings v (upto o.start run) ≡ Some a.mi) station
            (subst (λ v. mi_at settings t (upto v run) ≡ Some a.mi) same mine) in
            let own = server-life settings users run is stepped unforged fresh from paced o S
            o.start (let order = S.order in omega arith) (omega arith) in
            let f = sym here ∙ own in let e : a.mi ≡ o.new_id.server = cc (f) in absurd (other e))

        reported : (a : Announcement) (says : Accepted) → a.uses ≡ says.told.uses → (sl : Life)
            → life settings o.server (upto (suc o.start) run) ≡ Some sl
            → In says (live_words sl.member (peers_of sl.member sl.past))
            → reports_latest o.new_id a.uses ≡ true
        reported a says uses sl living live =
            let led_all = led-here settings users run is stepped unforged fresh from paced o S in
            let m = led_all.0 in
            let l = m.life_then in
            let v = view l.member (lives.ticked ∷ l.past) in
            let r = led-is l.member v m.by m.leads in
            let seen = seen_at settings o.server (upto o.start run) l m.next in
            let sak = sak_in m.event.facts in
            let after = ap (life settings o.server) m.at
            ∙ life-ticked settings o.server m.next m.event (upto o.start run) l m.tick m.living in
            let same : sl ≡ lived l (turn_at_tick settings o.server (upto o.start run) l m.next
            sak) =
            let f = sym living ∙ after in cc (f) in
            let there = subst (λ (w : Life). In says
            (live_words w.member (peers_of w.member w.past))) same live in
            let words = subst (λ w. In says w)
            (words-ticked l.member seen sak l.past
            ∙ view-live l.member (lives.ticked ∷ l.past)) there in
            let all = all-report v.keys (reports v.live) m.by.key (r.caused ∙ ap Some led_all.1) in
            let told = in-map (λ (w : Accepted). let report : Report =
            record { mi = w.told.mi; uses = w.told.uses } in report) v.live says words in
            let yes = all-in (λ (w : Report). reports_latest m.by.key.id w.uses)
            (reports v.live) all _ told in
            subst (λ u. reports_latest o.new_id u ≡ true) (sym uses)
            (subst (λ (w : KeyId). reports_latest w says.told.uses ≡ true) m.named yes)

    -- the life of a listener
    listener-life : (t sent : ℕ) (says : Accepted)
        (l : IsListener settings run rolled t sent says) → (n : ℕ) → sent ≤ n → n ≤ length run
        → mi_at settings t (upto n run) ≡ Some (heard-of t sent says l).announcement.mi
    listener-life t sent says l =
        let h = heard-of t sent says l in
        let mine = (said-number settings users run is stepped unforged fresh from paced sent t
        h.announcement h.said).0 in
        let before = h.before in let within = S.begins.within in
        let unbroken = S.listeners_stay t sent says l in
        unbroken-life settings users run stepped fresh t h.announcement.mi sent (length run)
        (omega arith) (omega arith) mine (λ n x p k at. unbroken.on n x p at k)

    -- the keys of a listener right after it said so
    listener-keys : (t sent : ℕ) (says : Accepted)
        (l : IsListener settings run rolled t sent says)
        → (k : Key) × (latest (keys_at settings t (upto (suc sent) run)) ≡ Some k)
        × (k.id ≡ o.new_id)
    listener-keys t sent says l =
        let h = heard-of t sent says l in
        let s = h.said in
        let keys = keys-when-said settings run sent t h.announcement s
        (life-when-said settings users run is stepped unforged fresh from paced sent t
        h.announcement s) in
        let k = said-latest s.life_then.member _ _ s.life_then.past h.announcement o.new_id s.said
        h.reports in
        (k.0, ap latest keys ∙ k.1, k.2)

    keeper-keys : (t sent : ℕ) (says : Accepted) (l : IsListener settings run rolled t sent says)
        → reports_old o.old_id says.told.uses ≡ true
        → (k : Key) × (old (keys_at settings t (upto (suc sent) run)) ≡ Some k) × (k.id ≡ o.old_id)
    keeper-keys t sent says l keeps =
        let h = heard-of t sent says l in
        let s = h.said in
        let keys = keys-when-said settings run sent t h.announcement s
        (life-when-said settings users run is stepped unforged fresh from paced sent t
        h.announcement s) in
        let k = said-old s.life_then.member _ _ s.life_then.past h.announcement o.old_id s.said
        (subst (λ u. reports_old o.old_id u ≡ true) (sym h.uses) keeps) in
        (k.0, ap old keys ∙ k.1, k.2)

    listener-has : (t sent : ℕ) (says : Accepted) (l : IsListener settings run rolled t sent says)
        (n : ℕ) → suc sent ≤ n → n ≤ length run
        → Has (listener-keys t sent says l).0 (installs (keys_at settings t (upto n run)))
    listener-has t sent says l n low high =
        let k = listener-keys t sent says l in
        let kept = kept-at settings users run is stepped unforged fresh t (suc sent)
        (omega arith) in
        let first = received-installed (keys_at settings t (upto (suc sent) run)) k.0
        (latest-received kept.0 (keys_at settings t (upto (suc sent) run)) k.0 kept.1 k.1) in
        let g = grown-in settings users run is stepped unforged fresh from paced t
        (heard-of t sent says l).announcement.mi (suc sent) n low high
        (λ m p k. listener-life t sent says l m (omega arith) (omega arith)) in
        subst (λ w. Has k.0 (installs w)) (sym g.1)
        (installed-on k.0 g.0 (keys_at settings t (upto (suc sent) run)) first)

    -- it has the key after the make
    listener-after : (t sent : ℕ) (says : Accepted)
        (l : IsListener settings run rolled t sent says) → suc o.made ≤ suc sent
    listener-after t sent says l =
        let h = heard-of t sent says l in
        let k = listener-keys t sent says l in
        let before = h.before in let within = S.begins.within in
        let m = maker settings users run is stepped unforged fresh from paced (suc sent) t k.0
        (omega arith) (listener-has t sent says l (suc sent) (omega arith) (omega arith)) in
        let made_q = made-here settings users run is stepped unforged fresh from paced o S in
        let same = one-make settings users run is stepped unforged fresh from paced m.0 o.made m.1
        o.server
        m.2 made_q.0 m.4 made_q.1 (m.5 ∙ k.2 ∙ sym made_q.2) in
        omega (arith, m.3)

    -- where the server makes a key, it does not rest
    make-no_rest : (z : ℕ) (j : Key) → MadeAt settings run z o.server j → Rests cc_ o.server z → ⊥
    make-no_rest z j m r =
        let y = tick-turn-then settings users run is stepped unforged fresh from paced o.server z
        m.next m.event m.life_then m.within m.at m.tick m.living in
        let within = m.within in
        let base : ℕ = m.life_then.member.base in
        let h = keys_at settings o.server (upto z run) in
        let puts : y.0.turn.key ≡ Some j = y.0.key_is ∙ m.makes in
        let there = turn-puts base h (keys_at settings o.server (upto (suc z) run)) y.0.turn j
        puts in
        let before = quiet-installs r.new h j r.quiet
        (subst (λ w. Has j (installs w)) r.whole there) in
        let first = subst (KeepsRules base) (sym
        (keys-of-life settings o.server (upto z run) m.life_then m.living))
        (life-kept settings users run is stepped unforged fresh z
        (omega arith) o.server m.life_then m.living) in
        let below = installed-upto base h j first before in
        let epoch = (y.0.turn.may_install j puts).0 in
        let count = count-began y.0.turn.lead
        (with_tick y.0.turn.tick h) ∙ Rattle.group_safety.proofs.rollover.Rollovers.count-tick
        y.0.turn.tick h in
        omega arith

    -- a make under a greater number came after the make of the new key
    later-make : (z s : ℕ) (j : Key) → MadeAt settings run z s j → j.id.server ≡ o.new_id.server
        → o.new_id.number < j.id.number → (s ≡ o.server) × (suc o.made ≤ z)
    later-make z s j m owner less =
        let made_q = made-here settings users run is stepped unforged fresh from paced o S in
        let name = ap (λ (v : KeyId). v.server) made_q.2 in
        let number = ap (λ (v : KeyId). v.number) made_q.2 in
        by_sum (cases_lt o.made z)
        (λ after. let r = makes-rise settings users run is stepped unforged fresh from paced o.made
        z
        o.server s made_q.0 j made_q.1 m (name ∙ sym owner) after in (r.0, after))
        (λ le. by_sum (cases_lt z o.made)
        (λ before. let r = makes-rise settings users run is stepped unforged fresh from paced z
        o.made s
        o.server j made_q.0 m made_q.1 (owner ∙ sym name) before in
        let l = r.1 in absurd (omega arith))
        (λ le2. let same : z ≡ o.made = omega arith in
        let a = make-names settings users run is stepped unforged fresh from paced z s j m in
        let b = make-names settings users run is stepped unforged fresh from paced o.made o.server
        made_q.0
        made_q.1 in
        let within = m.within in
        let mine : mi_at settings s (upto z run) ≡ Some o.new_id.server = a.0 ∙ ap Some owner in
        let his : mi_at settings o.server (upto z run) ≡ Some o.new_id.server =
        subst (λ v. mi_at settings o.server (upto v run) ≡ Some o.new_id.server) (sym same)
        (b.0 ∙ ap Some name) in
        let one : s ≡ o.server = (stands-at settings users run stepped fresh z (omega arith)).apart
        s
        o.server o.new_id.server mine his in
        let here : j.id.number ≡ Rattle.sak_exchange.specs.Histories.made_count
        (keys_at settings o.server (upto o.made run)) + 1 =
        subst (λ v. j.id.number ≡ Rattle.sak_exchange.specs.Histories.made_count
        (keys_at settings o.server (upto v run)) + 1) same
        (subst (λ v. j.id.number ≡ Rattle.sak_exchange.specs.Histories.made_count
        (keys_at settings v (upto z run)) + 1) one a.1) in
        let there = b.1 in absurd (omega arith)))

    -- what a listener takes, the server made after the new key
    taken-later : (t sent : ℕ) (says : Accepted) (l : IsListener settings run rolled t sent says)
        (n : ℕ) (k : Key) → suc sent ≤ n → n < length run
        → TakenAt settings run n t k → k.id.server ≡ o.new_id.server
        → (z : ℕ) × (suc o.made ≤ z) × (z < n) × (Rests cc_ o.server z → ⊥)
    taken-later t sent says l n k low high T owner =
        let nk = listener-keys t sent says l in
        let r = taking-is T.life_then.member
        (view T.life_then.member (lives.heard T.heard ∷ T.life_then.past))
        (outcome_of T.life_then.member T.life_then.past T.heard) T.heard k T.takes in
        let here : (view T.life_then.member (lives.heard T.heard ∷ T.life_then.past)).keys
        ≡ keys_at settings t (upto n run) =
        view-keys T.life_then.member (lives.heard T.heard ∷ T.life_then.past)
        ∙ keys-heard T.life_then.member T.heard T.life_then.past
        ∙ sym (keys-of-life settings t (upto n run) T.life_then T.living) in
        let over = subst (λ w. IsOver (greatest_of T.heard.mi w) k.id.number) here r.over in
        let has = listener-has t sent says l n low (omega arith) in
        let less = over-each T.heard.mi (keys_at settings t (upto n run)) k.id.number nk.0 over has
        (ap (λ (v : KeyId). v.server) nk.2 ∙ sym owner ∙ r.server) in
        let above : o.new_id.number < k.id.number =
        subst (λ (v : KeyId). v.number < k.id.number) nk.2 less in
        let y = taken-turn t n k T high in
        let m = maker settings users run is stepped unforged fresh from paced (suc n) t k high y in
        let later = later-make m.0 m.1 m.2 m.4 (ap (λ (v : KeyId). v.server) m.5 ∙ owner)
        (subst (λ (v : KeyId). o.new_id.number < v.number) (sym m.5) above) in
        let mine = subst (λ v. MadeAt settings run m.0 v m.2) later.0 m.4 in (
          m.0,
          later.1,
          not-now t n k T m.0 o.server m.2 mine (omega (arith, m.3)),
          make-no_rest m.0 m.2 mine,
        )
      where
        taken-turn : (t n : ℕ) (k : Key) → TakenAt settings run n t k → n < length run
            → Has k (installs (keys_at settings t (upto (suc n) run)))
        taken-turn t n k T high =
            let turn = hear-turn-at settings users run is stepped unforged fresh from paced t n
            T.event T.life_then T.heard T.at
            (keys-of-life settings t (upto n run) T.life_then T.living) T.keys_after in
            turn-puts T.life_then.member.base (keys_at settings t (upto n run))
            (keys_at settings t (upto (suc n) run)) turn.turn k (turn.key_is ∙ T.takes)

        clash : (t n : ℕ) (x : Happening) (number : ℕ) (octets : List ℕ)
            → IsReached (upto n run) x.event t number octets → {s next : ℕ}
            → x.event ≡ events.Tick s next → ⊥
        clash t n x number octets (parts.delivered f there same ev) tick = let e = sym ev ∙ tick in
            cc (e)
        clash t n x number octets (parts.injected zero_is ev) tick = let e = sym ev ∙ tick in cc (e)

        not-now : (t n : ℕ) (k : Key) → TakenAt settings run n t k → (z s : ℕ) (j : Key)
            → MadeAt settings run z s j → z ≤ n → z < n
        not-now t n k T z s j m le =
            by_sum (cases_lt z n) (λ less. less)
            (λ ge. let same : z ≡ n = omega arith in
            let at = subst (λ v. At run v m.event) same m.at in
            let event = ap (λ (v : Happening). v.event) (one-event n run m.event T.event at T.at) in
            absurd (clash t n T.event T.number T.octets T.came (sym event ∙ m.tick)))

    -- A listener, by numbers.
    pub listening : (t sent : ℕ) (says : Accepted) → IsListener settings run rolled t sent says
        → IsListening cc_ o t (suc sent)
    listening t sent says l =
        let h = heard-of t sent says l in
        let k = listener-keys t sent says l in
        let trust = S.listeners_trust t sent says l in
        record {
          after = listener-after t sent says l;
          before = h.before;
          counted = let out = l.counts in rw out refl;
          life = lives-of settings users run is stepped unforged fresh from paced t
              (suc sent) h.announcement.mi (λ n p m. listener-life t sent says l n (omega arith) m);
          new_key = k.0;
          new_named = k.2;
          new_is = k.1;
          takes = λ n p m.
              let after = listener-after t sent says l in
              let elects = trust.on (suc n) (omega arith) m
              ∙ server-life settings users run is stepped unforged fresh from paced o S (suc n)
              (omega arith) m in
              elim (installs-at settings users run is stepped unforged fresh from paced t n
              h.announcement.mi o.new_id.server m
              (listener-life t sent says l n (omega arith) (omega arith))
              (listener-life t sent says l (suc n) (omega arith) m) elects) [
                | rests r ↦ inl r
                | makes j made_j serves ticks_one allowed ↦
                    let owner : j.id.server ≡ o.new_id.server = let f = sym serves ∙ elects in
                    cc (f) in
                    let mine = (make-names settings users run is stepped unforged fresh from paced n
                    t j made_j).0 in
                    let own : h.announcement.mi ≡ j.id.server = let f =
                    sym (listener-life t sent says l n (omega arith) (omega arith)) ∙ mine in
                    cc (f) in
                    absurd (h.other (own ∙ owner))
                | takes j T serves other ↦
                    let owner : j.id.server ≡ o.new_id.server = let f = sym serves ∙ elects in
                    cc (f) in
                    inr (taken-later t sent says l n j p m T owner)
              ];
        }

    -- A keeper, by numbers.
    pub keeping : (t sent : ℕ) (says : Accepted) → IsKeeper settings run rolled t sent says
        → IsKeeping cc_ o t (suc sent)
    unfolding listening listener-keys
    keeping t sent says K =
        let l = K.listener in
        let k = keeper-keys t sent says l K.keeps in
        record {
          listens = listening t sent says l;
          old_key = k.0;
          old_named = k.2;
          old_is = k.1;
          soon = λ late. soon t sent says K
              (subst (λ r. rounds from (upto (suc o.start) run) + o.lag < rounds from r)
              (upto-whole (length run) run (omega arith)) late);
        }
      where
        soon : (t sent : ℕ) (says : Accepted)
            (K : IsKeeper settings run rolled t sent says)
            → rounds from (upto (suc o.start) run) + o.lag < rounds from run
            → (n : ℕ) × (suc sent ≤ n) × (n < length run) ×
            (has_begun (keys_at settings t (upto (suc n) run))
            (listener-keys t sent says K.listener).0.epoch ≡ true)
            × (rounds from (upto (suc n) run) ≤ rounds from (upto (suc o.start) run) + o.lag)
        soon t sent says K late =
            let l = K.listener in
            let b = S.begun t sent says K late in
            let x : ℕ = b.0 in
            let B = b.2 in
            let within = B.within in
            let now = begun-then x t o.new_id b.1 B in
            let begins = S.follow t sent says K x b.1 B in
            let before = (heard-of t sent says l).before in
            let R = rollover settings users run is stepped unforged fresh from paced o S in
            let late_enough : o.start ≤ x = by_sum (cases_lt x o.start)
            (λ less. let never = R.unbegun t (suc x) now.0 less now.1 now.3 in let yes = now.2 in
            absurd (cc (never, yes)))
            (λ le. le) in
            let same = one-install-at settings users run is stepped unforged fresh t (suc x) now.0
            (listener-keys t sent says l).0 now.1
            (listener-has t sent says l (suc x) (omega arith) within)
            (now.3 ∙ sym (listener-keys t sent says l).2) in (
              x,
              omega arith,
              within,
              subst (λ (w : Key). has_begun
                  (keys_at settings t (upto (suc x) run)) w.epoch ≡ true) same now.2,
              begins.1,
            )
