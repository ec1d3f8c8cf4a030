-- Acts that choose nothing and add no user frame leave a tidy world.
use Rattle.std.proofs.Common.{◌≡◌, ◌<◌, ◌≤◌, ◌^◌, ◌+◌, ◌-◌, ◌==◌, ℕ, zero, suc, Bool, true, false}
use Rattle.std.proofs.Common.{List, [], ◌∷◌, length, Option, Some, None, refl, sym}
use Rattle.std.proofs.Common.{ap, ◌∙◌, subst, arith}
use Rattle.std.specs.Prelude.{cond, is_some, is_none, nat_lt, unwrap_or, option_map}
use Rattle.std.specs.Prelude.{option_and_then}
use Rattle.lan_base.specs.declared.frame.UserFrame.{UserFrame}
use Rattle.sak_exchange.specs.declared.held_key.Key.{Key}
use Rattle.mka_station.specs.Standing.{drawn_mi as mi_of_draw}
use Rattle.lan_core.specs.declared.event.Event.{Event}
use Rattle.lan_core.specs.declared.event.Event.TheVariants as events
use Rattle.lan_core.specs.declared.fact.Fact.TheVariants as facts
use Rattle.lan_core.specs.declared.settings.Settings.{Settings}
use Rattle.lan_core.specs.declared.stop.Stop.{Stop}
use Rattle.lan_core.specs.declared.stop.Stop.TheVariants.{DrawsSpent}
use Rattle.lan_core.specs.Run.{Run, stations}
use Rattle.lan_core.specs.Ledgers.{frame_at, next_frame}
use Rattle.lan_core.specs.Lives.{life, transmitting_at}
use Rattle.lan_core.specs.Claims.{waiting, frame_of_claim}
use Rattle.lan_core.specs.Expected.{expected, drawn_from, last_number, tick_facts, reached_facts}
use Rattle.lan_core.specs.Expected.{restart_facts, claim_fact, emit_facts}
use Rattle.lan_core.specs.Order.{Exists}
use Rattle.lan_core.specs.Legal.{IsStepped}
use Rattle.lan_core.specs.Stops.{MayCome, draws_needed, is_spent, first_stop}
use Rattle.lan_core.specs.Types.{IsTyped, IsSetting, AreOctets}
use Rattle.lan_core.specs.Unstopped.{next_under}
use Rattle.lan_core.proofs.Public.{number-frame, in-a-life}
use Rattle.trace_acts.specs.declared.choices.Choices.{Choices}
use Rattle.trace_acts.specs.Settings.{settings_of}
use Rattle.lan_schedule.specs.Races.{Phase}
use Rattle.lan_schedule.specs.World.{World, Kept, settings, count, sender, mark, is_racing}
use Rattle.lan_schedule.specs.Numbers.{shown_next, number_claimed}
use Rattle.lan_schedule.proofs.Calm.{calm-shown, calm-claimed}
use Rattle.lan_schedule.specs.Answers.{supply, answered, facts_shown}
use Rattle.lan_schedule.specs.Acts.{Act, nothing, refuse, happen, change, seq, look, perform, each}
use Rattle.lan_schedule.specs.Acts.{Course, Goes, Stops, shown, and_then, span, times, unless}
use Rattle.lan_schedule.specs.Acts.{exceed, race}
use Rattle.lan_schedule.specs.Acts.{world_of, world_after}
use Rattle.lan_schedule.specs.Lines.{feed, tick, round, pass, to_others, spread, is_passed_by, due}
use Rattle.lan_schedule.specs.Lines.{flow_round, send}
use Rattle.lan_schedule.specs.Sound.{IsTidy}
use Rattle.lan_schedule.specs.inside.Comes.{Comes, IsGoing, IsExact, named}
use Rattle.lan_schedule.proofs.Bounded.{AreBounded, TakesOne, stays-bounded}
use Rattle.lan_schedule.proofs.Tidying.{calm-left, Proceeds, event-proceeds, tidy-after, thrifty-calm, leaves-none}
use Rattle.next_numbers.proofs.Public.{waiting-framed}

-- ---- an event that no stop meets shows something

enough : (b : Bool) (o : Option Stop) → cond b (Some DrawsSpent) o ≡ None → b ≡ false
enough true o e = absurd (cc e)
enough false o e = refl

map-there : {A B : Type 0} (f : A → B) (o : Option A) → is_some o ≡ true
    → is_some (option_map f o) ≡ true
map-there f None there = absurd (cc there)
map-there f (Some a) there = refl

then-there : {A B : Type 0} (f : A → Option B) (o : Option A) → is_some o ≡ true
    → ((a : A) → o ≡ Some a → is_some (f a) ≡ true) → is_some (option_and_then f o) ≡ true
then-there f None there each = absurd (cc there)
then-there f (Some a) there each = each a refl

not-none : {A : Type 0} (o : Option A) → is_none o ≡ false → is_some o ≡ true
not-none None e = absurd (cc e)
not-none (Some a) e = refl

-- the first draw is there, where an event takes one
drawn-there : (nth : ℕ → Option (List ℕ)) → is_spent 1 nth ≡ false
    → is_some (option_map mi_of_draw (nth 0)) ≡ true
drawn-there nth e = map-there mi_of_draw (nth 0) (not-none (nth 0) e)

something : (settings : Settings) (users : List UserFrame) (r : Run) (given : Option UserFrame)
    (event : Event) (nth : ℕ → Option (List ℕ)) → IsStepped settings users r
    → MayCome settings users r given event → is_spent (draws_needed settings r event) nth ≡ false
    → is_some (expected settings users r event (drawn_from settings.suite nth)) ≡ true
unfolding expected
something settings users r given (events.Start name sci priority) nth stepped may enough =
    map-there (λ mi. facts.Life (length (stations r)) mi ∷ []) (option_map mi_of_draw (nth 0))
    (drawn-there nth enough)
something settings users r given (events.Tick s next) nth stepped may enough =
    map-there (tick_facts settings s r next (drawn_from settings.suite nth).sak) (life settings s r)
    (in-a-life settings users s r stepped may.0)
something settings users r given (events.Deliver frame s) nth stepped may enough =
    then-there (λ f. option_map (reached_facts settings s r frame f.octets) (life settings s r))
    (frame_at r frame) may.1
    (λ f is. map-there (reached_facts settings s r frame f.octets) (life settings s r)
    (in-a-life settings users s r stepped may.0))
something settings users r given (events.Restart s) nth stepped may enough =
    then-there (λ mi. option_map (restart_facts s mi) (life settings s r))
    (option_map mi_of_draw (nth 0)) (drawn-there nth enough)
    (λ mi is. map-there (restart_facts s mi) (life settings s r)
    (in-a-life settings users s r stepped may))
something settings users r given (events.Claim s user pn) nth stepped may enough =
    map-there (λ l. claim_fact settings s r pn (transmitting_at settings s r) ∷ [])
    (life settings s r) (in-a-life settings users s r stepped may.0)
something settings users r given events.Emit nth stepped may enough =
    then-there (emit_facts users r) (waiting settings r) may
    (λ w is. map-there (λ octets. facts.Framed (next_frame r) w.station true octets ∷ [])
    (frame_of_claim users r w) (waiting-framed settings users r w stepped is))
something settings users r given (events.Inject s octets) nth stepped may enough =
    map-there (reached_facts settings s r 0 octets) (life settings s r)
    (in-a-life settings users s r stepped may.0)

unwrapped : {A : Type 0} (o : Option A) (default : A) → is_some o ≡ true
    → o ≡ Some (unwrap_or o default)
unwrapped None default there = absurd (cc there)
unwrapped (Some a) default there = refl

-- what an event shows that goes on is what it has to show
pub shows-all : (w : World) (event : Event) → IsTidy w → Comes (happen event) w
    → first_stop (settings w) w.kept.users w.run event (supply w) ≡ None
    → expected (settings w) w.kept.users w.run event (drawn_from (settings w).suite (supply w))
    ≡ Some (facts_shown w event)
unfolding first_stop
shows-all w event tidy comes goes =
    unwrapped
    (expected (settings w) w.kept.users w.run event (drawn_from (settings w).suite (supply w))) []
    (something (settings w) w.kept.users w.run (named w event) event (supply w)
    tidy.sound.legal.stepped comes.0
    (enough (is_spent (draws_needed (settings w) w.run event) (supply w)) _ goes))

-- ---- acts that leave aside what was chosen and who sends

-- what is kept has the same choices, user frames and races, and the first station stays
pub record IsAside (old new : Kept) : Type 0 where
  pub chosen : new.chosen ≡ old.chosen
  pub users : new.users ≡ old.users
  pub begun : new.begun ≡ old.begun
  pub raced : new.raced ≡ old.raced
  pub phase : new.phase ≡ old.phase
  pub races : new.races ≡ old.races

-- an event has fields of their types, where at most so many user frames were sent
abbrev pub IsFit : ℕ → Event → Type 0
IsFit n (events.Start name sci priority) = IsTyped (events.Start name sci priority)
IsFit n (events.Claim s user pn) = user ≤ n
IsFit n (events.Inject s octets) = AreOctets octets
IsFit n _ = Unit {0}

-- an act chooses nothing and adds no user frame, where at most so many were sent
abbrev pub IsMild : ℕ → Act → Type 0
IsMild n nothing = Unit {0}
IsMild n (refuse kind) = Unit {0}
IsMild n (happen event) = IsFit n event
IsMild n (change f) = (kept : Kept) → IsAside kept (f kept)
IsMild n (seq first later) = IsMild n first × IsMild n later
IsMild n (look act) = (w : World) → length w.kept.users ≤ n → IsMild n (act w)
IsMild n (exceed excess) = Unit {0}
IsMild n (race workers control) = ⊥

-- a tidy world after the first station, with these choices and at most so many user frames
pub record IsOpen (n : ℕ) (chosen : Choices) (w : World) : Type 0 where
  pub same : w.kept.chosen ≡ chosen
  pub users : length w.kept.users ≤ n
  pub begun : w.kept.begun ≡ true
  pub calm : w.kept.raced ≡ false
  pub apart : is_racing w.kept.phase ≡ false
  pub bounded : AreBounded (settings w) w.run
  pub tidy : IsTidy w

not-below : (a b : ℕ) → nat_lt a b ≡ false → b ≤ a
not-below a b e = grind arith

takes-number : (n : ℕ) (b : Bool) → nat_lt last_number n ≡ b → cond b 0 n ≤ last_number
takes-number n true e = omega arith
takes-number n false e = not-below last_number n e

takes-one : (w : World) (event : Event) → w.kept.raced ≡ false → IsExact w event → TakesOne event
takes-one w (events.Claim s user pn) calm exact =
    let n = shown_next (settings w) s w.run in
    subst (λ (m : ℕ). m ≤ last_number) (sym (exact.0 ∙ calm-claimed w s calm))
    (takes-number n (nat_lt last_number n) refl)
takes-one w (events.Start name sci priority) calm exact = tt
takes-one w (events.Tick s next) calm exact = tt
takes-one w (events.Deliver frame s) calm exact = tt
takes-one w (events.Restart s) calm exact = tt
takes-one w events.Emit calm exact = tt
takes-one w (events.Inject s octets) calm exact = tt

few-stations : (s : ℕ) (w : World) → IsTidy w → Exists s w.run → s < 2 ^ 8
few-stations s w tidy there = let few = tidy.within.stations in omega (arith, few, there)

under-fits : (settings : Settings) (s : ℕ) (r : Run) (k : Option Key)
    → AreBounded settings r → next_under settings s r k < 2 ^ 64
under-fits settings s r None few = omega arith
under-fits settings s r (Some k) few = let most = few s k.epoch in omega (arith, most)

is-typed : (n : ℕ) (chosen : Choices) (w : World) (event : Event) → n < 2 ^ 32 → IsFit n event
    → IsOpen n chosen w → Comes (happen event) w → IsTyped event
is-typed n chosen w (events.Start name sci priority) below fit now comes = fit
is-typed n chosen w (events.Tick s next) below fit now comes = (
  few-stations s w now.tidy comes.0.0,
  subst (λ (m : ℕ). m < 2 ^ 64) (sym (comes.1 ∙ calm-shown w s now.calm))
      (under-fits (settings w) s w.run (transmitting_at (settings w) s w.run) now.bounded),
)
is-typed n chosen w (events.Deliver frame s) below fit now comes =
    let number = (number-frame (settings w) w.kept.users w.run frame
    now.tidy.sound.legal.stepped).0 comes.0.1 in
    let few = now.tidy.within.frames in
    (omega (arith, number.1, few), few-stations s w now.tidy comes.0.0)
is-typed n chosen w (events.Restart s) below fit now comes = few-stations s w now.tidy comes.0
is-typed n chosen w (events.Claim s user pn) below fit now comes =
    let one = takes-one w (events.Claim s user pn) now.calm comes.1 in (
      few-stations s w now.tidy comes.0.0,
      omega (arith, below, fit),
      omega (arith, one),
    )
is-typed n chosen w events.Emit below fit now comes = tt
is-typed n chosen w (events.Inject s octets) below fit now comes =
    (few-stations s w now.tidy comes.0.0, fit)

-- what holds of the group of these choices, and so of each world that is open with them
abbrev pub HasSetting : Choices → Type 0
HasSetting chosen = IsSetting (settings_of chosen)

happened-open : (n : ℕ) (chosen : Choices) (event : Event) (w : World) → n < 2 ^ 32
    → HasSetting chosen → IsFit n event → IsOpen n chosen w → Comes (happen event) w
    → first_stop (settings w) w.kept.users w.run event (supply w) ≡ None
    → IsOpen n chosen (world_after w event (facts_shown w event))
happened-open n chosen event w below setting fit now comes goes =
    let shows = shows-all w event now.tidy comes goes in
    let typed = is-typed n chosen w event below fit now comes in
    let set : IsSetting (settings w) =
    subst (λ (c : Choices). IsSetting (settings_of c)) (sym now.same) setting in
    let on : Proceeds w event (facts_shown w event) =
    event-proceeds w event (facts_shown w event) now.tidy comes typed set goes shows in
    record {
      same = now.same;
      users = now.users;
      begun = now.begun;
      calm = now.calm;
      apart = now.apart;
      bounded = stays-bounded (settings w) w.kept.users w.run event
          (drawn_from (settings w).suite (supply w)) (facts_shown w event) now.bounded
          (leaves-none w event now.calm comes.1) (takes-one w event now.calm comes.1) shows;
      tidy = tidy-after w event (facts_shown w event) on (calm-left w event now.calm typed comes.1) now.begun
          (λ apart. thrifty-calm w event (facts_shown w event) now.calm on apart);
    }

event-open : (n : ℕ) (chosen : Choices) (event : Event) (w : World) → n < 2 ^ 32
    → HasSetting chosen → IsFit n event → IsOpen n chosen w → Comes (happen event) w
    → IsOpen n chosen (world_of (perform (happen event) w))
event-open n chosen event w below setting fit now comes =
    by (first_stop (settings w) w.kept.users w.run event (supply w)) refl where
      by : (o : Option Stop) → first_stop (settings w) w.kept.users w.run event (supply w) ≡ o
          → IsOpen n chosen (world_of (shown w event (answered w event o)))
      by None goes = happened-open n chosen event w below setting fit now comes goes
      by (Some stop) stops = now

change-open : (n : ℕ) (chosen : Choices) (f : Kept → Kept) (w : World)
    → IsAside w.kept (f w.kept) → IsOpen n chosen w → IsTidy (record w { kept = f w.kept })
    → IsOpen n chosen (record w { kept = f w.kept })
change-open n chosen f w aside now tidy = record {
  same = aside.chosen ∙ now.same;
  users = subst (λ (us : List UserFrame). length us ≤ n) (sym aside.users) now.users;
  begun = aside.begun ∙ now.begun;
  calm = aside.raced ∙ now.calm;
  apart = ap (λ (p : Phase). is_racing p) aside.phase ∙ now.apart;
  bounded = subst (λ (c : Choices). AreBounded (settings_of c) w.run) (sym aside.chosen)
      now.bounded;
  tidy = tidy;
}

both-open : (n : ℕ) (chosen : Choices) (out : Course) (later : Act)
    → IsOpen n chosen (world_of out) → IsGoing out (λ v. IsTidy v → Comes later v)
    → ((v : World) → IsOpen n chosen v → Comes later v
    → IsOpen n chosen (world_of (perform later v)))
    → IsOpen n chosen (world_of (and_then out (λ v. perform later v)))
both-open n chosen (Goes v) later now going next = next v now (going now.tidy)
both-open n chosen (Stops v halt) later now going next = now

-- a mild act leaves such a world
pub stays-open : (n : ℕ) (chosen : Choices) → n < 2 ^ 32 → HasSetting chosen
    → (act : Act) (w : World) → IsMild n act → IsOpen n chosen w → Comes act w
    → IsOpen n chosen (world_of (perform act w))
stays-open n chosen below setting nothing w mild now comes = now
stays-open n chosen below setting (refuse kind) w mild now comes = now
stays-open n chosen below setting (happen event) w mild now comes =
    event-open n chosen event w below setting mild now comes
stays-open n chosen below setting (change f) w mild now comes =
    change-open n chosen f w (mild w.kept) now comes
stays-open n chosen below setting (seq first later) w mild now comes =
    both-open n chosen (perform first w) later
    (stays-open n chosen below setting first w mild.0 now comes.0) comes.1
    (λ v open_v comes_v. stays-open n chosen below setting later v mild.1 open_v comes_v)
stays-open n chosen below setting (look act) w mild now comes =
    stays-open n chosen below setting (act w) w (mild w now.users) now comes
stays-open n chosen below setting (exceed excess) w mild now comes = now
stays-open n chosen below setting (race workers control) w mild now comes = absurd mild

-- ---- mild acts

mild-span : (n : ℕ) (act : ℕ → Act) (first count : ℕ) → ((k : ℕ) → IsMild n (act k))
    → IsMild n (span act first count)
mild-span n act first zero mild = tt
mild-span n act first (suc count) mild = (mild first, mild-span n act (suc first) count mild)

mild-each : {A : Type 0} (n : ℕ) (act : A → Act) (xs : List A) → ((x : A) → IsMild n (act x))
    → IsMild n (each act xs)
mild-each n act [] mild = tt
mild-each n act (x ∷ xs) mild = (mild x, mild-each n act xs mild)

mild-unless : (n : ℕ) (b : Bool) (act : Act) → IsMild n act → IsMild n (unless b act)
mild-unless n true act mild = tt
mild-unless n false act mild = mild

mild-tick : (n s : ℕ) → IsMild n (tick s)
mild-tick n s = λ w few. tt

pub mild-ticks : (n s count : ℕ) → IsMild n (times count (tick s))
mild-ticks n s count = mild-span n (λ _. tick s) 0 count (λ k. mild-tick n s)

mild-round : (n : ℕ) → IsMild n round
mild-round n = λ w few. mild-span n tick 0 (count w) (λ s. mild-tick n s)

pub mild-rounds : (n rounds : ℕ) → IsMild n (times rounds round)
mild-rounds n rounds = mild-span n (λ _. round) 0 rounds (λ k. mild-round n)

mild-pass : (n number from s : ℕ) → IsMild n (pass number from s)
mild-pass n number from s = λ w few.
    mild-unless n (is_passed_by w from s) (happen (events.Deliver number s)) tt

mild-to_others : (n number from : ℕ) → IsMild n (to_others number from)
mild-to_others n number from = λ w few.
    mild-span n (pass number from) 0 (count w) (λ s. mild-pass n number from s)

pub mild-feed : (n first last s : ℕ) → IsMild n (feed first last s)
mild-feed n first last s =
    mild-span n (λ k. happen (events.Deliver (first + k) s)) 0 (last + 1 - first) (λ k. tt)

pub mild-mark : (n number : ℕ) → IsMild n (change (mark number))
mild-mark n number = λ kept. record {
  chosen = refl;
  users = refl;
  begun = refl;
  raced = refl;
  phase = refl;
  races = refl;
}

pub mild-spread : (n number : ℕ) → IsMild n (spread number)
mild-spread n number = λ w few.
    (mild-to_others n number (sender w number), mild-mark n number)

mild-flow_round : (n : ℕ) → IsMild n flow_round
mild-flow_round n = (
  λ kept. record {
    chosen = refl;
    users = refl;
    begun = refl;
    raced = refl;
    phase = refl;
    races = refl;
  },
  (mild-round n, λ w few. mild-each n spread (due w) (λ number. mild-spread n number)),
)

pub mild-flow : (n rounds : ℕ) → IsMild n (times rounds flow_round)
mild-flow n rounds = mild-span n (λ _. flow_round) 0 rounds (λ k. mild-flow_round n)

pub mild-send : (n s : ℕ) → IsMild n (send s)
mild-send n s = λ w few. (
  few,
  mild-unless n (number_claimed w s == 0) (happen events.Emit) tt,
)
