-- A tick at a station of a group.
use Rattle.std.proofs.Common.{◌≡◌, ◌+◌, ℕ, Bool, true, false, cond, List, ◌∷◌, ◌++◌, length}
use Rattle.std.proofs.Common.{Option, Some, None, refl, ap, sym, subst, arith}
use Rattle.std.specs.Prelude.{◌&&◌, option_map, option_and_then, option_to_list, slice_get, is_none}
use Rattle.std.specs.Option.{option_or}
use Rattle.std.specs.List.{filter}
use Rattle.std.proofs.lemmas.Bool.{ne_eqb}
use Rattle.std.proofs.lemmas.List.{append-nil, length-map}
use Rattle.lan_base.specs.declared.frame.UserFrame.{UserFrame}
use Rattle.lan_base.specs.declared.suite.Suite.{Suite}
use Rattle.lan_base.specs.declared.suite.Suite.TheVariants.{GcmAes128, GcmAes256}
use Rattle.lan_base.specs.Suites.{sak_draws}
use Rattle.aes_block.specs.declared.secret.Secret.{Secret}
use Rattle.aes_block.specs.declared.secret.Secret.TheVariants.{S128, S256}
use Rattle.sak_exchange.specs.Held.{ends}
use Rattle.mka_station.specs.Tick.{Turn}
use Rattle.mka_station.specs.Drawing.{next_sak, sak_of, makes_next, is_short}
use Rattle.lan_core.specs.declared.event_facts.EventFacts.{EventFacts}
use Rattle.lan_core.specs.declared.event.Event.TheVariants as events
use Rattle.lan_core.specs.declared.fact.Fact.TheVariants as facts
use Rattle.lan_core.specs.declared.settings.Settings.{Settings}
use Rattle.lan_core.specs.declared.stop.Stop.{Stop}
use Rattle.lan_core.specs.declared.stop.Stop.TheVariants.{Limit, DrawsSpent, RepeatedDraw}
use Rattle.lan_core.proofs.FramesNumbered.{by_event}
use Rattle.lan_core.specs.Run.{Run, Happening, happened, Profile, stations}
use Rattle.lan_core.specs.Ledgers.{Frame, air, framed, gather, next_frame}
use Rattle.lan_core.specs.Lives.{Life, life, receiving, setup_of, drawn_mi, drawn_sak, sak_in, seen_at, lived_ticking, turn_at_tick}
use Rattle.lan_core.specs.Expected.{expected, drawn_from, tick_facts}
use Rattle.lan_core.specs.Order.{ticks}
use Rattle.lan_core.specs.Stops.{draws_needed, draws_in, is_spent, first_stop, passed, sak_of_tick, mi_number, sak_number}
use Rattle.lan_core.specs.Standing.{Seat, State, StandsFor, Numbers, AreDrawn, number_of_sak, in_order}
use Rattle.lan_core.specs.inside.Seats.{Ticks}
use Rattle.lan_core.specs.Answers.{GoesOn}
use Rattle.lan_core.specs.inside.Limits.{passed_with}
use Rattle.lan_core.specs.inside.Shown.{sent_in}
use Rattle.lan_core.specs.inside.Drawing.{stop_of, IfNoted}
use Rattle.lan_core.proofs.OwnLedgers.{AreOf, tick-is-of, reaction-sends, reaction-begins-none}
use Rattle.lan_core.proofs.Reactions.{reaction-air}
use Rattle.lan_core.proofs.TickDraws.{sak-shown, turn-same}
use Rattle.lan_core.proofs.LimitsPassed.{none-passed, passed-is}
use Rattle.lan_core.proofs.CarriedOver.{meets, draws-none, IsThere, order-length, order-sum}
use Rattle.lan_core.proofs.GroupMoved.{stands-after, counted-on, same-place}
use Rattle.lan_core.proofs.OctetsReach.{over-of}

-- ---- the key that a tick makes is the one that it shows

pub same-lived : (settings : Settings) (s : ℕ) (r : Run) (next : ℕ) (sak : Secret) (l : Life)
    → lived_ticking settings s r next (sak_in (tick_facts settings s r next sak l)) l
    ≡ lived_ticking settings s r next sak l
same-lived settings s r next sak l =
    go (makes_next l.member l.past (seen_at settings s r l next)) refl
  where
    go : (b : Bool) → makes_next l.member l.past (seen_at settings s r l next) ≡ b
        → lived_ticking settings s r next (sak_in (tick_facts settings s r next sak l)) l
        ≡ lived_ticking settings s r next sak l
    go true makes =
        ap (λ k. lived_ticking settings s r next k l) (sak-shown settings s r next sak l makes)
    go false none =
        ap (λ (t : Turn). record l { past = t.past })
        (turn-same l.member (seen_at settings s r l next)
        (sak_in (tick_facts settings s r next sak l)) sak l.past none)

-- ---- draws

-- a tick has enough draws, or too few
pub enough-draws : (suite : Suite) (makes : Bool) (nth : ℕ → Option (List ℕ))
    → (makes && is_none (next_sak suite nth)) ≡ false
    → is_spent (cond makes (sak_draws suite) 0) nth ≡ false
enough-draws suite false nth enough = refl
enough-draws GcmAes128 true nth enough = go (nth 0) refl enough
  where
    go : (first : Option (List ℕ)) → nth 0 ≡ first → is_none (option_map S128 first) ≡ false
        → is_spent 1 nth ≡ false
    go None zero enough = absurd (cc enough)
    go (Some a) zero enough = rw zero refl
enough-draws GcmAes256 true nth enough = go (nth 0) (nth 1) refl refl enough
  where
    go : (first second : Option (List ℕ)) → nth 0 ≡ first → nth 1 ≡ second
        → is_none (option_and_then (λ a. option_map (λ b. S256 (a ++ b)) second) first) ≡ false
        → is_spent 2 nth ≡ false
    go None second zero one enough = absurd (cc enough)
    go (Some a) None zero one enough = absurd (cc enough)
    go (Some a) (Some b) zero one enough = rw one refl

pub too-few-draws : (suite : Suite) (makes : Bool) (nth : ℕ → Option (List ℕ))
    → (nth 0 ≡ None → nth 1 ≡ None) → (makes && is_none (next_sak suite nth)) ≡ true
    → is_spent (cond makes (sak_draws suite) 0) nth ≡ true
too-few-draws suite false nth ends few = absurd (cc few)
too-few-draws GcmAes128 true nth ends few = go (nth 0) refl few
  where
    go : (first : Option (List ℕ)) → nth 0 ≡ first → is_none (option_map S128 first) ≡ true
        → is_spent 1 nth ≡ true
    go None zero few = rw zero refl
    go (Some a) zero few = absurd (cc few)
too-few-draws GcmAes256 true nth ends few = go (nth 0) (nth 1) refl refl few
  where
    go : (first second : Option (List ℕ)) → nth 0 ≡ first → nth 1 ≡ second
        → is_none (option_and_then (λ a. option_map (λ b. S256 (a ++ b)) second) first) ≡ true
        → is_spent 2 nth ≡ true
    go None second zero one few = rw (ends zero) refl
    go (Some a) None zero one few = rw one refl
    go (Some a) (Some b) zero one few = absurd (cc few)

-- ---- the air

pub tick-air : (settings : Settings) (s : ℕ) (r : Run) (next : ℕ) (sak : Secret) (l : Life) (fs : List Frame)
    → in_order (gather framed (tick_facts settings s r next sak l) fs)
    ≡ in_order fs ++ option_to_list (sent_in (tick_facts settings s r next sak l))
tick-air settings s r next sak l fs =
    let reaction = (turn_at_tick settings s r l next sak).reaction in
    rw (reaction-air s 0 (next_frame r) reaction fs, reaction-sends s 0 (next_frame r) reaction) (go reaction.sent)
  where
    go : (o : Option (List ℕ))
        → in_order (gather framed (option_to_list (option_map (λ octets. facts.Framed (next_frame r) s false octets) o)) fs)
        ≡ in_order fs ++ option_to_list o
    go None = sym (append-nil (in_order fs))
    go (Some octets) = refl

pub tick-emits : (settings : Settings) (s : ℕ) (r : Run) (next : ℕ) (sak : Secret) (l : Life) (fs : List Frame)
    → filter (λ f. f.sec) (gather framed (tick_facts settings s r next sak l) fs) ≡ filter (λ f. f.sec) fs
tick-emits settings s r next sak l fs =
    let reaction = (turn_at_tick settings s r l next sak).reaction in
    rw (reaction-air s 0 (next_frame r) reaction fs) (go reaction.sent)
  where
    go : (o : Option (List ℕ))
        → filter (λ f. f.sec) (gather framed (option_to_list (option_map (λ octets. facts.Framed (next_frame r) s false octets) o)) fs)
        ≡ filter (λ f. f.sec) fs
    go None = refl
    go (Some octets) = refl

-- ---- what a tick comes to

tick-began : (settings : Settings) (s : ℕ) (r : Run) (next : ℕ) (sak : Secret) (l : Life)
    → drawn_mi (tick_facts settings s r next sak l) ≡ None
tick-began settings s r next sak l =
    reaction-begins-none s 0 (next_frame r) (turn_at_tick settings s r l next sak).reaction

-- the suite is the group's
suite-is : (settings : Settings) (l : Life) (p : Profile) → l.member.setup ≡ setup_of settings p
    → l.member.setup.suite ≡ settings.suite
suite-is settings l p is = ap (λ s. s.suite) is

pub tick-expected : (settings : Settings) (users : List UserFrame) (r : Run) (s next : ℕ) (l : Life) (p : Profile)
    (nth : ℕ → Option (List ℕ)) → life settings s r ≡ Some l → l.member.setup ≡ setup_of settings p
    → expected settings users r (events.Tick s next) (drawn_from settings.suite nth)
    ≡ Some (tick_facts settings s r next (sak_of l.member.setup.suite nth) l)
unfolding expected
tick-expected settings users r s next l p nth lives setup = rw (lives, suite-is settings l p setup) refl

abbrev pub ticking : ℕ → ℕ → EventFacts → Happening
ticking s next event_facts = happened (events.Tick s next) event_facts.facts

pub tick-passes : (settings : Settings) (users : List UserFrame) (r : Run) (lan : State)
    → StandsFor settings users lan r → (s next : ℕ) (p : Profile) (there : IsThere settings s r lan.seats p)
    → (nth after : ℕ → Option (List ℕ)) (new : List Seat) (event_facts : EventFacts)
    → Ticks settings r s there.seat there.alive next nth after lan.seats new event_facts
    → passed (ticking s next event_facts ∷ r)
    ≡ passed_with (lan.air ++ option_to_list (sent_in event_facts.facts)) (lan.ticks + 1) event_facts.installs (length lan.names)
unfolding air stations
tick-passes settings users r lan stands s next p there nth after new event_facts did =
    let x = ticking s next event_facts in
    let sak = sak_of there.alive.member.setup.suite nth in
    let are = subst (λ fs. AreOf s fs) (sym did.facts) (tick-is-of settings s r next sak there.alive) in
    let count = counted-on r s x are there.seat.installs event_facts.installs there.seated.2 did.counted in
    let on : in_order (gather framed event_facts.facts (air r)) ≡ in_order (air r) ++ option_to_list (sent_in event_facts.facts) =
    subst (λ fs. in_order (gather framed fs (air r)) ≡ in_order (air r) ++ option_to_list (sent_in fs)) (sym did.facts)
    (tick-air settings s r next sak there.alive (air r)) in
    let put : lan.air ++ option_to_list (sent_in event_facts.facts) ≡ in_order (gather framed event_facts.facts (air r)) =
    rw stands.on_air (sym on) in
    let named : length lan.names ≡ length (stations r) =
    rw stands.names (length-map (stations r) (λ p. p.name)) in
    rw (
      put,
      order-length (gather framed event_facts.facts (air r)),
      order-sum (gather framed event_facts.facts (air r)),
      named,
      stands.ticked,
    )
    (passed-is (x ∷ r) _ _ (ticks r + 1) event_facts.installs (length (stations r)) refl refl (omega arith)
    (rw count (over-of x r s stands.within are)) (ap (λ ps. length ps) (append-nil (stations r))))

draw-stop : (suite : Suite) (r : Run) (drawn : Numbers) → AreDrawn suite r drawn → (sak : Option Secret)
    → option_map (λ first. RepeatedDraw first (draws_in suite r + 1)) (option_and_then (sak_number suite r) sak)
    ≡ stop_of drawn (option_and_then (number_of_sak drawn) sak)
draw-stop suite r drawn are None = refl
draw-stop suite r drawn are (Some sak) = rw (are.saks sak, are.count) refl

pub tick-stops : (settings : Settings) (users : List UserFrame) (r : Run) (lan : State)
    → StandsFor settings users lan r → (s next : ℕ) (p : Profile) (there : IsThere settings s r lan.seats p)
    → (nth after : ℕ → Option (List ℕ)) (new : List Seat) (event_facts : EventFacts)
    → Ticks settings r s there.seat there.alive next nth after lan.seats new event_facts
    → first_stop settings users r (events.Tick s next) nth
    ≡ option_or (option_map Limit (passed_with (lan.air ++ option_to_list (sent_in event_facts.facts)) (lan.ticks + 1)
    event_facts.installs (length lan.names)))
    (stop_of lan.drawn (option_and_then (number_of_sak lan.drawn) (drawn_sak event_facts.facts)))
tick-stops settings users r lan stands s next p there nth after new event_facts did =
    let l = there.alive in
    let sak = sak_of l.member.setup.suite nth in
    let enough : is_spent (draws_needed settings r (events.Tick s next)) nth ≡ false =
    rw there.lives (enough-draws l.member.setup.suite (makes_next l.member l.past (seen_at settings s r l next)) nth did.enough) in
    let shows : expected settings users r (events.Tick s next) (drawn_from settings.suite nth) ≡ Some event_facts.facts =
    rw did.facts (tick-expected settings users r s next l p nth there.lives there.seated.1) in
    let none : drawn_mi event_facts.facts ≡ None =
    subst (λ fs. drawn_mi fs ≡ None) (sym did.facts) (tick-began settings s r next sak l) in
    rw (
      meets settings users r (events.Tick s next) nth event_facts.facts enough shows,
      tick-passes settings users r lan stands s next p there nth after new event_facts did,
      none,
      draw-stop settings.suite r lan.drawn stands.drawn (drawn_sak event_facts.facts),
    )
    (or_none (option_map Limit (passed_with (lan.air ++ option_to_list (sent_in event_facts.facts)) (lan.ticks + 1)
    event_facts.installs (length lan.names))) (stop_of lan.drawn (option_and_then (number_of_sak lan.drawn) (drawn_sak event_facts.facts))))
  where
    or_none : (a b : Option Stop) → option_or a (option_or b None) ≡ option_or a b
    or_none None None = refl
    or_none None (Some b) = refl
    or_none (Some a) b = refl

-- a tick that has too few draws
pub tick-is-spent : (settings : Settings) (users : List UserFrame) (r : Run) (seats : List Seat) (s next : ℕ) (p : Profile)
    (there : IsThere settings s r seats p) (nth : ℕ → Option (List ℕ)) → (nth 0 ≡ None → nth 1 ≡ None)
    → is_short there.alive.member there.alive.past (seen_at settings s r there.alive next) nth ≡ true
    → first_stop settings users r (events.Tick s next) nth ≡ Some DrawsSpent
unfolding first_stop
tick-is-spent settings users r seats s next p there nth ends short =
    let l = there.alive in
    let few : is_spent (draws_needed settings r (events.Tick s next)) nth ≡ true =
    rw there.lives (too-few-draws l.member.setup.suite (makes_next l.member l.past (seen_at settings s r l next)) nth ends short) in
    rw few refl

-- the draws of a tick are noted
pub tick-noted : (suite : Suite) (r : Run) (old new : Numbers) (x : Happening) → AreDrawn suite r old
    → drawn_mi x.facts ≡ None → (sak : Option Secret) → sak_of_tick x.facts x.event ≡ sak
    → IfNoted (sak_draws suite) old new sak → AreDrawn suite (x ∷ r) new
unfolding draws_in mi_number sak_number
tick-noted suite r old new x are none None is noted =
    rw noted (draws-none suite x r old none is are)
tick-noted suite r old new x are none (Some sak) is noted = record {
  count = rw (none, is, noted.count, are.count) (omega arith);
  mis = λ mi. rw (none, noted.mis mi) (are.mis mi);
  saks = λ s. rw (is, noted.saks s, are.count, are.saks s) refl;
}

pub tick-stands : (settings : Settings) (users : List UserFrame) (r : Run) (lan : State)
    → StandsFor settings users lan r → (s next : ℕ) (p : Profile) → slice_get (stations r) s ≡ Some p
    → (there : IsThere settings s r lan.seats p)
    → (nth after : ℕ → Option (List ℕ)) (new : List Seat) (event_facts : EventFacts)
    → Ticks settings r s there.seat there.alive next nth after lan.seats new event_facts
    → option_map Limit (passed_with (lan.air ++ option_to_list (sent_in event_facts.facts)) (lan.ticks + 1) event_facts.installs
    (length lan.names)) ≡ None
    → (drawn : Numbers) → IfNoted (sak_draws settings.suite) lan.drawn drawn (drawn_sak event_facts.facts)
    → StandsFor settings users (record lan {
      air = lan.air ++ option_to_list (sent_in event_facts.facts);
      seats = new;
      ticks = lan.ticks + 1;
      drawn = drawn;
    }) (ticking s next event_facts ∷ r)
unfolding air life receiving
tick-stands settings users r lan stands s next p profile there nth after new event_facts did within drawn noted =
    let x = ticking s next event_facts in
    let l = there.alive in
    let sak = sak_of l.member.setup.suite nth in
    let told : event_facts.facts ≡ tick_facts settings s r next sak l = did.facts in
    let are = subst (λ fs. AreOf s fs) (sym told) (tick-is-of settings s r next sak l) in
    let none : drawn_mi event_facts.facts ≡ None =
    subst (λ fs. drawn_mi fs ≡ None) (sym told) (tick-began settings s r next sak l) in
    let on : in_order (gather framed event_facts.facts (air r)) ≡ in_order (air r) ++ option_to_list (sent_in event_facts.facts) =
    subst (λ fs. in_order (gather framed fs (air r)) ≡ in_order (air r) ++ option_to_list (sent_in fs)) (sym told)
    (tick-air settings s r next sak l (air r)) in
    let shows : expected settings users r (events.Tick s next) (drawn_from settings.suite nth) ≡ Some event_facts.facts =
    rw told (tick-expected settings users r s next l p nth there.lives there.seated.1) in
    let lived : lived_ticking settings s r next (sak_in event_facts.facts) l ≡ lived_ticking settings s r next sak l =
    subst (λ fs. lived_ticking settings s r next (sak_in fs) l ≡ lived_ticking settings s r next sak l) (sym told)
    (same-lived settings s r next sak l) in
    stands-after settings users r lan stands s x
    (record {
      starts = refl;
      claims = refl;
      reaching = λ t differ. refl;
      others = λ t differ. rw (ne_eqb s t (λ same. differ (sym same))) refl;
      facts = are;
      emits = subst (λ fs. filter (λ f. f.sec) (gather framed fs (air r)) ≡ filter (λ f. f.sec) (air r)) (sym told)
          (tick-emits settings s r next sak l (air r));
      numbers = by_event settings users r (events.Tick s next) (drawn_from settings.suite nth) event_facts.facts shows stands.numbered;
    })
    p (lived_ticking settings s r next sak l) new event_facts.installs
    (record {
      profile = profile;
      lives = rw (same-place s, there.lives, lived) refl;
      setup = there.seated.1;
      moved = did.moved;
      counted = counted-on r s x are there.seat.installs event_facts.installs there.seated.2 did.counted;
    })
    (lan.air ++ option_to_list (sent_in event_facts.facts)) (rw stands.on_air (sym on)) (lan.ticks + 1)
    (omega (arith, stands.ticked)) drawn
    (tick-noted settings.suite r lan.drawn drawn x stands.drawn none (drawn_sak event_facts.facts) refl noted)
    (none-passed (ticking s next event_facts ∷ r) _ (tick-passes settings users r lan stands s next p there nth after new event_facts did) within)

pub tick-goes-on : (settings : Settings) (users : List UserFrame) (r : Run) (lan : State)
    → StandsFor settings users lan r → (s next : ℕ) (p : Profile) → slice_get (stations r) s ≡ Some p
    → (there : IsThere settings s r lan.seats p)
    → (nth after : ℕ → Option (List ℕ)) (new : List Seat) (event_facts : EventFacts)
    → Ticks settings r s there.seat there.alive next nth after lan.seats new event_facts
    → option_or (option_map Limit (passed_with (lan.air ++ option_to_list (sent_in event_facts.facts)) (lan.ticks + 1)
    event_facts.installs (length lan.names)))
    (stop_of lan.drawn (option_and_then (number_of_sak lan.drawn) (drawn_sak event_facts.facts))) ≡ None
    → (drawn : Numbers) → IfNoted (sak_draws settings.suite) lan.drawn drawn (drawn_sak event_facts.facts)
    → GoesOn settings users r (events.Tick s next) nth after (record lan {
      air = lan.air ++ option_to_list (sent_in event_facts.facts);
      seats = new;
      ticks = lan.ticks + 1;
      drawn = drawn;
    }) event_facts.facts
tick-goes-on settings users r lan stands s next p profile there nth after new event_facts did goes drawn noted =
    record {
      goes = rw (tick-stops settings users r lan stands s next p there nth after new event_facts did) goes;
      shows = rw did.facts (tick-expected settings users r s next there.alive p nth there.lives there.seated.1);
      stands = tick-stands settings users r lan stands s next p profile there nth after new event_facts did
          (first_none _ _ goes) drawn noted;
      drawn = λ k. rw there.lives (did.drawn k);
    }
  where
    first_none : (a b : Option Stop) → option_or a b ≡ None → a ≡ None
    first_none None b is = refl
    first_none (Some a) b is = absurd (cc is)
