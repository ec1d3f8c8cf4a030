-- A station of a group starts again.
use Rattle.std.proofs.Common.{◌≡◌, ◌+◌, ℕ, cond, List, [], ◌∷◌, length, map}
use Rattle.std.proofs.Common.{Option, Some, None, refl, ap, sym, subst, arith}
use Rattle.std.specs.Prelude.{option_map, slice_get, sum}
use Rattle.std.specs.Option.{option_or}
use Rattle.std.proofs.lemmas.Bool.{ne_eqb, le-ltb}
use Rattle.lan_base.specs.declared.address.Mi.{Mi}
use Rattle.lan_base.specs.declared.frame.UserFrame.{UserFrame}
use Rattle.lan_base.specs.declared.suite.Suite.{Suite}
use Rattle.sak_exchange.specs.Histories.{install_count}
use Rattle.mka_station.specs.Lives.{keys_of}
use Rattle.mka_station.specs.Restart.{ending}
use Rattle.mka_station.specs.Standing.{drawn_mi as mi_of_draw, reborn}
use Rattle.lan_core.specs.declared.event_facts.EventFacts.{EventFacts}
use Rattle.lan_core.specs.declared.event.Event.{Event}
use Rattle.lan_core.specs.declared.event.Event.TheVariants as events
use Rattle.lan_core.specs.declared.fact.Fact.{Fact}
use Rattle.lan_core.specs.declared.settings.Settings.{Settings}
use Rattle.lan_core.specs.declared.stop.Stop.{Stop}
use Rattle.lan_core.specs.declared.stop.Stop.TheVariants.{DrawsSpent, RepeatedDraw}
use Rattle.lan_core.specs.declared.stop.Which.TheVariants.{Keys}
use Rattle.lan_core.specs.Run.{Run, Happening, happened, Profile, stations}
use Rattle.lan_core.specs.Ledgers.{Frame, air, installs_at, framed, gather}
use Rattle.lan_core.specs.Lives.{Life, life, receiving, setup_of, drawn_mi, slot_change}
use Rattle.lan_core.specs.Expected.{expected, drawn_from, restart_facts, reaction_facts}
use Rattle.lan_core.specs.Order.{IsWithin, ticks, most_installs}
use Rattle.lan_core.specs.Stops.{draws_needed, draws_in, first_stop, passed, stop_of_draw, sak_of_tick, mi_number, sak_number}
use Rattle.lan_core.specs.Standing.{Seat, State, StandsFor, Numbers, AreDrawn, number_of_mi}
use Rattle.lan_core.specs.inside.Seats.{IsMoved, Restarts, installs_in}
use Rattle.lan_core.specs.Answers.{GoesOn}
use Rattle.lan_core.specs.Noting.{MiIsNoted}
use Rattle.lan_core.specs.inside.Drawing.{stop_of}
use Rattle.lan_core.proofs.OwnLedgers.{AreOf, restart-is-of}
use Rattle.lan_core.proofs.Reactions.{reaction-air}
use Rattle.lan_core.proofs.SlotsFollow.{in-reaction, ending-count}
use Rattle.lan_core.proofs.LimitsPassed.{passed-is}
use Rattle.lan_core.proofs.CarriedOver.{meets, no-station, IsThere}
use Rattle.lan_core.proofs.GroupMoved.{IsQuiet, stands-after, counted-on, same-place}
use Rattle.lan_core.proofs.OctetsReach.{only-keys, over-of}

-- ---- draws

-- the draw of a member identifier is noted
pub mi-noted : (suite : Suite) (r : Run) (old new : Numbers) (x : Happening) (mi : Mi) → AreDrawn suite r old
    → drawn_mi x.facts ≡ Some mi → sak_of_tick x.facts x.event ≡ None → MiIsNoted old new mi
    → AreDrawn suite (x ∷ r) new
unfolding draws_in mi_number sak_number
mi-noted suite r old new x mi are is none noted = record {
  count = rw (is, none, noted.count, are.count) (omega arith);
  mis = λ m. rw (is, noted.mis m, are.count, are.mis m) refl;
  saks = λ s. rw (none, noted.saks s) (are.saks s);
}

-- a draw that repeats one before stops the group
pub mi-stop : (settings : Settings) (r : Run) (drawn : Numbers) (x : Happening) (mi : Mi) → AreDrawn settings.suite r drawn
    → drawn_mi x.facts ≡ Some mi → sak_of_tick x.facts x.event ≡ None
    → stop_of_draw settings.suite r x ≡ stop_of drawn (number_of_mi drawn mi)
mi-stop settings r drawn x mi are is none = rw (is, none, are.mis mi, are.count) (go (mi_number settings.suite r mi))
  where
    go : (o : Option ℕ) → option_map (λ first. RepeatedDraw first (draws_in settings.suite r + 1)) (option_or o None)
        ≡ option_map (λ first. RepeatedDraw first (draws_in settings.suite r + 1)) o
    go None = refl
    go (Some first) = refl

pub or-nothing : (o : Option Stop) → option_or o None ≡ o
or-nothing None = refl
or-nothing (Some stop) = refl

-- an event that needs a draw where there is none
pub no-draw : (settings : Settings) (users : List UserFrame) (r : Run) (e : Event) (nth : ℕ → Option (List ℕ))
    → draws_needed settings r e ≡ 1 → nth 0 ≡ None → first_stop settings users r e nth ≡ Some DrawsSpent
unfolding first_stop
no-draw settings users r e nth one none = rw (one, none) refl

-- ---- what a restart shows

ends_silently : (fs : List Frame) (s : ℕ) (l : Life) → gather framed (reaction_facts s 0 0 (ending l.member l.past)) fs ≡ fs
unfolding ending
ends_silently fs s l = reaction-air s 0 0 (ending l.member l.past) fs

pub restart-air : (s : ℕ) (mi : Mi) (l : Life) (fs : List Frame) → gather framed (restart_facts s mi l) fs ≡ fs
restart-air s mi l fs = ends_silently fs s l

pub restart-installs : (s : ℕ) (mi : Mi) (l : Life) → installs_in (restart_facts s mi l) ≡ 0
restart-installs s mi l = omega (arith, in-reaction s 0 0 (ending l.member l.past), ending-count l.member l.past)

abbrev pub restarting : ℕ → List Fact → Happening
restarting s shown = happened (events.Restart s) shown

pub restart-expected : (settings : Settings) (users : List UserFrame) (r : Run) (s : ℕ) (l : Life) (draw : List ℕ)
    (nth : ℕ → Option (List ℕ)) → life settings s r ≡ Some l → nth 0 ≡ Some draw
    → expected settings users r (events.Restart s) (drawn_from settings.suite nth) ≡ Some (restart_facts s (mi_of_draw draw) l)
unfolding expected
restart-expected settings users r s l draw nth lives drawn = rw (drawn, lives) refl

-- ---- what it comes to

quiet : (settings : Settings) (users : List UserFrame) (r : Run) (lan : State) → StandsFor settings users lan r
    → (s : ℕ) (mi : Mi) (l : Life) (shown : List Fact) → shown ≡ restart_facts s mi l
    → IsQuiet settings r s (restarting s shown)
unfolding air life
quiet settings users r lan stands s mi l shown is =
    let silent : gather framed shown (air r) ≡ air r = rw is (restart-air s mi l (air r)) in
    record {
      starts = refl;
      claims = refl;
      reaching = λ t differ. refl;
      others = λ t differ. rw (ne_eqb s t (λ same. differ (sym same))) refl;
      facts = rw is (restart-is-of s mi l);
      emits = rw silent refl;
      numbers = rw silent stands.numbered;
    }

pub restart-passes : (r : Run) → IsWithin r → (s : ℕ) (mi : Mi) (l : Life) (shown : List Fact)
    → shown ≡ restart_facts s mi l → passed (restarting s shown ∷ r) ≡ None
unfolding air
restart-passes r within s mi l shown is =
    let x = restarting s shown in
    let silent : gather framed shown (air r) ≡ air r = rw is (restart-air s mi l (air r)) in
    let are = subst (λ fs. AreOf s fs) (sym is) (restart-is-of s mi l) in
    let before = length (installs_at s r) in
    let none : before ≡ before + installs_in shown = omega (arith, ap installs_in is, restart-installs s mi l) in
    let count = counted-on r s x are before before refl none in
    let same = no-station x r refl in
    let few = le-ltb most_installs before (within.installs s) in
    cc (
      passed-is (x ∷ r) (length (air r)) (sum (map (λ frame. length frame.octets) (air r))) (ticks r) before
          (length (stations r)) (rw silent refl) (rw silent refl) (omega arith)
          (rw count (over-of x r s within are)) (ap (λ ps. length ps) same),
      only-keys r before within,
      ap (λ b. cond b (Some Keys) None) few,
    )

pub restart-stops : (settings : Settings) (users : List UserFrame) (r : Run) (lan : State)
    → StandsFor settings users lan r → (s : ℕ) (l : Life) (draw : List ℕ) (nth : ℕ → Option (List ℕ))
    → life settings s r ≡ Some l → nth 0 ≡ Some draw
    → first_stop settings users r (events.Restart s) nth ≡ stop_of lan.drawn (number_of_mi lan.drawn (mi_of_draw draw))
restart-stops settings users r lan stands s l draw nth lives drawn =
    let mi = mi_of_draw draw in
    let shown = restart_facts s mi l in
    let shows = restart-expected settings users r s l draw nth lives drawn in
    rw (
      meets settings users r (events.Restart s) nth shown (rw drawn refl) shows,
      restart-passes r stands.within s mi l shown refl,
      mi-stop settings r lan.drawn (restarting s shown) mi stands.drawn refl refl,
    )
    (or-nothing (stop_of lan.drawn (number_of_mi lan.drawn mi)))

pub restart-stands : (settings : Settings) (users : List UserFrame) (r : Run) (lan : State)
    → StandsFor settings users lan r → (s : ℕ) (p : Profile) → slice_get (stations r) s ≡ Some p
    → (there : IsThere settings s r lan.seats p) → (draw : List ℕ) (new : List Seat) (event_facts : EventFacts)
    → Restarts settings r s there.seat there.alive draw lan.seats new event_facts
    → (drawn : Numbers) → MiIsNoted lan.drawn drawn (mi_of_draw draw)
    → StandsFor settings users (record lan { seats = new; drawn = drawn }) (restarting s event_facts.facts ∷ r)
unfolding air life receiving
restart-stands settings users r lan stands s p profile there draw new event_facts did drawn noted =
    let x = restarting s event_facts.facts in
    let l = there.alive in
    let mi = mi_of_draw draw in
    let still = quiet settings users r lan stands s mi l event_facts.facts did.facts in
    let silent : gather framed event_facts.facts (air r) ≡ air r = rw did.facts (restart-air s mi l (air r)) in
    let shows : drawn_mi event_facts.facts ≡ Some mi = subst (λ fs. drawn_mi fs ≡ Some mi) (sym did.facts) refl in
    let begun : Life = record { member = record { setup = setup_of settings p; mi = mi; base = length (installs_at s r) }; past = [] } in
    let setup : setup_of settings p ≡ l.member.setup = sym there.seated.1 in
    let base : length (installs_at s r) ≡ l.member.base + install_count (keys_of l.member l.past) =
    omega (arith, there.seated.2, there.seated.0.installs) in
    let same : record { member = reborn l.member l.past draw; past = [] } ≡ begun =
    (λ i. record { member = record { setup = (sym setup) i; mi = mi; base = (sym base) i }; past = [] }) in
    stands-after settings users r lan stands s x still p begun new event_facts.installs
    (record {
      profile = profile;
      lives = rw (same-place s, profile, shows) refl;
      setup = refl;
      moved = subst (λ (l : Life). IsMoved settings.window l (gather (slot_change s) event_facts.facts (receiving s r)) s lan.seats new event_facts.installs) same did.moved;
      counted = counted-on r s x still.facts there.seat.installs event_facts.installs there.seated.2 did.counted;
    })
    lan.air (rw silent stands.on_air) lan.ticks (omega (arith, stands.ticked)) drawn
    (mi-noted settings.suite r lan.drawn drawn x mi stands.drawn shows refl noted)
    (restart-passes r stands.within s mi l event_facts.facts did.facts)

pub restart-goes-on : (settings : Settings) (users : List UserFrame) (r : Run) (lan : State)
    → StandsFor settings users lan r → (s : ℕ) (p : Profile) → slice_get (stations r) s ≡ Some p
    → (there : IsThere settings s r lan.seats p) → (draw : List ℕ) (new : List Seat) (event_facts : EventFacts)
    → Restarts settings r s there.seat there.alive draw lan.seats new event_facts
    → (nth after : ℕ → Option (List ℕ)) → nth 0 ≡ Some draw → ((k : ℕ) → after k ≡ nth (k + 1))
    → stop_of lan.drawn (number_of_mi lan.drawn (mi_of_draw draw)) ≡ None
    → (drawn : Numbers) → MiIsNoted lan.drawn drawn (mi_of_draw draw)
    → GoesOn settings users r (events.Restart s) nth after (record lan { seats = new; drawn = drawn }) event_facts.facts
restart-goes-on settings users r lan stands s p profile there draw new event_facts did nth after first taken goes drawn noted =
    record {
      goes = rw (restart-stops settings users r lan stands s there.alive draw nth there.lives first) goes;
      shows = rw did.facts (restart-expected settings users r s there.alive draw nth there.lives first);
      stands = restart-stands settings users r lan stands s p profile there draw new event_facts did drawn noted;
      drawn = taken;
    }
