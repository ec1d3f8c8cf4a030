-- What an event leaves.
use Rattle.std.proofs.Common.{◌≡◌, ◌<◌, ◌≤◌, ℕ, ◌+◌, Bool, true, false, length, List, [], ◌∷◌, ◌++◌, Option, Some, None}
use Rattle.std.proofs.Common.{inl, inr, refl, sym, ap, ◌∙◌, subst, arith}
use Rattle.std.specs.Prelude.{◌⊎◌, Result, Ok, Err, MatchResult, unwrap_or, is_some, option_map}
use Rattle.std.specs.Result.{IsErrAnd}
use Rattle.lan_base.specs.declared.frame.UserFrame.{UserFrame}
use Rattle.lan_core.specs.declared.event.Event.{Event}
use Rattle.lan_core.specs.declared.event.Event.TheVariants as events
use Rattle.lan_core.specs.declared.fact.Fact.{Fact}
use Rattle.lan_core.specs.declared.settings.Settings.{Settings}
use Rattle.lan_core.specs.declared.stop.Stop.{Stop}
use Rattle.lan_core.specs.declared.stop.Stop.TheVariants as stops
use Rattle.lan_core.specs.declared.stop.StepError.{StepError}
use Rattle.lan_core.specs.declared.stop.StepError.TheVariants.{Stopped}
use Rattle.lan_core.specs.Run.{Run, Happening, happened, stations, facts_of}
use Rattle.lan_core.specs.Expected.{expected, drawn_from}
use Rattle.lan_core.specs.Stops.{MayCome, first_stop}
use Rattle.lan_core.specs.Types.{IsTyped}
use Rattle.lan_core.specs.Legal.{IsStep, IsStepped, IsThrifty, unused}
use Rattle.lan_core.specs.Order.{is_event_of}
use Rattle.association_slots.specs.Views.{ControlAt}
use Rattle.group_safety.specs.Accounts.{IsExact as IsExactIn}
use Rattle.station_words.specs.Ties.{HaveCaughtUp, HaveKeptUp, HaveLooked, KeepAhead, Followed}
use Rattle.trace_acts.proofs.Public.{handed-on}
use Rattle.station_words.proofs.Public.{looked-none as unlooked}
use Rattle.worker_races.specs.declared.merge.step.Step.{Step}
use Rattle.worker_races.specs.Carded.{AreCarded}
use Rattle.worker_races.specs.Going.{WereTold}
use Rattle.worker_races.proofs.Public.{carded-kept, looked-kept}
use Rattle.lan_core.specs.Standing.{State, StandsFor as GroupStandsFor}
use Rattle.lan_core.specs.Answers.{Answers, GoesOn}
use Rattle.lan_core.specs.Batches.{IsChecked}
use Rattle.rx_slots.specs.declared.arrival.Checked.{Checked}
use Rattle.fact_tally.specs.Summary.{counts}
use Rattle.trace_acts.specs.declared.halt.Halt.{Halt}
use Rattle.trace_acts.specs.declared.halt.Halt.TheVariants as halts
use Rattle.lan_base.specs.declared.sink.Unwritten.{Unwritten}
use Rattle.lan_base.specs.declared.sink.Unwritten.TheVariants as whys
use Rattle.trace_acts.specs.Names.{names_of}
use Rattle.trace_acts.specs.Settings.{rule_of}
use Rattle.trace_acts.specs.Supply.{draw_at, supply_nth}
use Rattle.trace_acts.specs.Halts.{halt_of, halt_of_unwritten}
use Rattle.lan_schedule.specs.declared.stage.Stage.{Stage}
use Rattle.lan_schedule.specs.World.{World, settings, puts, Flow, is_racing}
use Rattle.lan_schedule.specs.Answers.{supply, taken_by, answered, answer}
use Rattle.lan_schedule.specs.Acts.{happen, shown, world_after, world_of}
use Rattle.lan_schedule.specs.Sound.{IsTidy}
use Rattle.lan_schedule.specs.Reports.{Report}
use Rattle.lan_schedule.specs.Ends.{Moment, moment, IsReached, Ends}
use Rattle.lan_schedule.specs.Numbers.{shown_next, number_shown, decided}
use Rattle.lan_schedule.specs.Lines.{tick}
use Rattle.lan_schedule.specs.inside.Comes.{Comes, named}
use Rattle.lan_schedule.specs.inside.Set.{SaysAhead, AreSet, IsGiven}
use Rattle.lan_schedule.specs.Stages.{Says, StandsWith, StandsFor}
use Rattle.lan_schedule.specs.inside.Staged.{Did, DidWhere, FindsLeft, Happened, IsSetSince, WentOn}
use Rattle.lan_schedule.specs.inside.Recording.{Mark, StandsSince, LeavesAt, HasLooked, HasRecorded, stages_since}
use Rattle.lan_schedule.specs.inside.Recording.{HasStopped}
use Rattle.lan_schedule.specs.inside.Recording.{KeepSeats, KeepsStep, epoch_of, is_start}
use Rattle.lan_schedule.specs.inside.Recording.{steps_of}
use Rattle.lan_schedule.specs.Races.{Chance, behind_numbers}
use Rattle.lan_schedule.proofs.Ahead.{set-ahead}
use Rattle.lan_schedule.proofs.Claiming.{caught-up}
use Rattle.lan_schedule.proofs.Recorded.{GoesOnSo, HasStation, has-station, performed-here}
use Rattle.lan_schedule.proofs.Recorded.{recorded-more, same-some, seats-kept, seats-then}
use Rattle.lan_schedule.proofs.Chances.{chances-used, behind-decided, shown-is}
use Rattle.lan_schedule.proofs.Same.{IsSame, same-self, stands-moved}
use Rattle.lan_schedule.proofs.Doing.{told-none, ends-memory}
use Rattle.lan_schedule.proofs.Tidying.{Proceeds, event-proceeds, legal-after, thrifty-calm, tidy-after}
use Rattle.lan_schedule.proofs.Tidying.{exact-in}

-- what a step promises of a group
abbrev pub StepGoes : Option UserFrame → Event → Stage → Stage → Result (List Fact) StepError
    → Type 0
StepGoes given event old new result = (settings : Settings) (users : List UserFrame) (r : Run)
    → GroupStandsFor settings users old.lan r → MayCome settings users r given event
    → Answers settings users r event (supply_nth old.draws) (supply_nth new.draws) new.lan result

-- what a step told of a world
pub record Told (w : World) (event : Event) (facts : List Fact) (new : Stage) : Type 0 where
  pub answers : answer w event ≡ Ok facts
  pub lan : GroupStandsFor (settings w) w.kept.users new.lan (happened event facts ∷ w.run)
  pub draws : (k : ℕ) → supply_nth new.draws k ≡ supply (world_after w event facts) k
  pub stopless : first_stop (settings w) w.kept.users w.run event (supply w) ≡ None
  pub shows : expected (settings w) w.kept.users w.run event
      (drawn_from (settings w).suite (supply w)) ≡ Some facts

same-supply : {Tied : Bool → Bool → Settings → Run → List ControlAt → Type 0} (w : World)
    (old : Stage)
    → StandsWith Tied w old → supply_nth old.draws ≡ supply w
same-supply w old stands = λ i k. stands.draws k i

answers-by : (w : World) (event : Event) (facts : List Fact) (before : ℕ → Option (List ℕ))
    → before ≡ supply w
    → first_stop (settings w) w.kept.users w.run event before ≡ None
    → expected (settings w) w.kept.users w.run event (drawn_from (settings w).suite before)
    ≡ Some facts
    → answer w event ≡ Ok facts
answers-by w event facts before same goes shows =
    let none : first_stop (settings w) w.kept.users w.run event (supply w) ≡ None =
    subst (λ (nth : ℕ → Option (List ℕ)). first_stop (settings w) w.kept.users w.run event nth
    ≡ None) same goes in
    let some : expected (settings w) w.kept.users w.run event
    (drawn_from (settings w).suite (supply w)) ≡ Some facts =
    subst (λ (nth : ℕ → Option (List ℕ)).
    expected (settings w) w.kept.users w.run event (drawn_from (settings w).suite nth)
    ≡ Some facts) same shows in
    ap (λ (s : Option Stop). answered w event s) none
    ∙ ap (λ (o : Option (List Fact)). Ok (unwrap_or o [])) some

told-by : {Tied : Bool → Bool → Settings → Run → List ControlAt → Type 0} (w : World)
    (event : Event) (facts : List Fact) (old new : Stage) → StandsWith Tied w old
    → GoesOn (settings w) w.kept.users w.run event (supply_nth old.draws) (supply_nth new.draws)
    new.lan facts
    → Told w event facts new
told-by w event facts old new stands goes = record {
  answers = answers-by w event facts (supply_nth old.draws) (same-supply w old stands) goes.goes
      goes.shows;
  lan = goes.stands;
  draws = λ k.
      goes.drawn k ∙ stands.draws (k + taken_by w event)
      ∙ ap (λ (n : ℕ). draw_at (rule_of w.kept.chosen) n)
      (let e : w.kept.taken + (k + taken_by w event)
      ≡ w.kept.taken + taken_by w event + k = omega arith in e);
  stopless = subst (λ (nth : ℕ → Option (List ℕ)).
      first_stop (settings w) w.kept.users w.run event nth ≡ None) (same-supply w old stands)
      goes.goes;
  shows = subst (λ (nth : ℕ → Option (List ℕ)).
      expected (settings w) w.kept.users w.run event (drawn_from (settings w).suite nth)
      ≡ Some facts) (same-supply w old stands) goes.shows;
}

-- what an event answers by what its recorder answered
abbrev pub handed : Result (Unit {0}) Unwritten → Result (Unit {0}) Halt
handed (Ok done) = Ok tt
handed (Err why) = Err (halt_of_unwritten why)

-- what the group keeps beside the step
pub record Keeps (event : Event) (facts : List Fact) (old new : Stage) : Type 0 where
  pub line : new.line ≡ old.line
  pub lag : new.lag ≡ old.lag
  pub users : new.users ≡ old.users
  pub cuts : new.cuts ≡ old.cuts
  pub frames : new.frames ≡ record {
    frames = old.frames.frames
        ++ puts old.frames.rounds facts;
    rounds = old.frames.rounds;
  }
  pub raced : new.raced ≡ old.raced
  pub words : (raced racing : Bool) (settings : Settings) (users : List UserFrame) (r : Run)
      → GroupStandsFor settings users old.lan r
      → GroupStandsFor settings users new.lan (happened event facts ∷ r)
      → IsStepped settings users (happened event facts ∷ r)
      → (raced ≡ false → IsExactIn settings r event)
      → AreSet event raced racing settings r old.words
      → Says raced racing settings (happened event facts ∷ r) new.words
  pub cards : (raced racing : Bool) (settings : Settings) (users : List UserFrame) (r : Run)
      → GroupStandsFor settings users old.lan r
      → GroupStandsFor settings users new.lan (happened event facts ∷ r)
      → IsStepped settings users (happened event facts ∷ r)
      → AreSet event raced racing settings r old.words → AreCarded settings r old.words
      → AreCarded settings (happened event facts ∷ r) new.words
  pub tally : (shown : List Fact) → old.tally ≡ counts shown → new.tally ≡ counts (shown ++ facts)
  pub kept : (settings : Settings) (users : List UserFrame) (r : Run)
      → GroupStandsFor settings users old.lan r
      → GroupStandsFor settings users new.lan (happened event facts ∷ r)
      → KeepsStep event (epoch_of settings r event)
      (epoch_of settings (happened event facts ∷ r) event) (steps_of old) (steps_of new)
  pub followed : is_start event ≡ false → (settings : Settings) (users : List UserFrame) (r : Run)
      → GroupStandsFor settings users new.lan (happened event facts ∷ r)
      → IsStepped settings users (happened event facts ∷ r)
      → Followed settings (happened event facts ∷ r) facts old.words new.words
  pub seats : KeepSeats old.words new.words
  pub still : event ≡ events.Emit → new.words ≡ old.words

-- an event adds at most a step to what control performs: that is kept after it where it was before
kept-some : (old new : Stage) (event : Event) (before after : Option ℕ)
    → KeepsStep event before after (steps_of old) (steps_of new)
    → is_some new.steps ≡ is_some old.steps
kept-some old new event before after keeps =
    sym (same-some (λ steps. steps.items) new.steps) ∙ ap (λ o. is_some o) keeps
    ∙ same-some _ (steps_of old) ∙ same-some (λ steps. steps.items) old.steps

stands-after : (w : World) (event : Event) (facts : List Fact) (old new : Stage)
    → StandsWith (AreSet event) w old
    → (w.kept.raced ≡ false → IsExactIn (settings w) w.run event)
    → IsStepped (settings w) w.kept.users (happened event facts ∷ w.run)
    → Told w event facts new → Keeps event facts old new → StandsFor (world_after w event facts) new
stands-after w event facts old new stands exact stepped told keeps = record {
  begun = stands.begun;
  raced = keeps.raced ∙ stands.raced;
  keyed = stands.keyed;
  line = keeps.line ∙ stands.line;
  lag = keeps.lag ∙ stands.lag;
  lan = told.lan;
  draws = told.draws;
  users = keeps.users ∙ stands.users;
  flow = keeps.frames ∙ ap (λ (f : Flow).
      record { frames = f.frames ++ puts f.rounds facts; rounds = f.rounds }) stands.flow;
  cuts = keeps.cuts ∙ stands.cuts;
  words = keeps.words w.kept.raced (is_racing w.kept.phase) (settings w) w.kept.users w.run
      stands.lan told.lan stepped exact stands.words;
  cards = keeps.cards w.kept.raced (is_racing w.kept.phase) (settings w) w.kept.users w.run
      stands.lan told.lan stepped stands.words stands.cards;
  tally = keeps.tally (facts_of w.run) stands.tally;
  steps = kept-some old new event _ _ (keeps.kept (settings w) w.kept.users w.run stands.lan told.lan)
      ∙ stands.steps;
}

-- ---- what was kept

-- the laws of control beside workers
pub record Beside : Type 0 where
  pub goes_on : GoesOnSo
  pub tells : (settings : Settings) (users : List UserFrame) (old new : State) (r : Run) (t : ℕ)
      (x : Happening) (cs ds es : List ControlAt) → GroupStandsFor settings users old r
      → GroupStandsFor settings users new (x ∷ r) → IsStepped settings users r
      → IsStep settings users x r → is_event_of t x.event ≡ true → HaveLooked cs ds
      → KeepAhead settings r x.event ds → Followed settings (x ∷ r) x.facts ds es
      → WereTold settings r t x cs es

not-start : (event : Event) → is_start event ≡ false
    → (x : _) (x' : _) (x'' : _) → event ≡ events.Start x x' x'' → ⊥
not-start event goes x x' x'' is =
    let starts : is_start event ≡ true = ap (λ (e : Event). is_start e) is in
    absurd (let bad : false ≡ true = sym goes ∙ starts in cc)

-- where the step of an event was taken beside workers
ahead-racing : (w : World) (event : Event) (cs : List ControlAt) → w.kept.raced ≡ true
    → is_racing w.kept.phase ≡ true → is_start event ≡ false
    → AreSet event w.kept.raced (is_racing w.kept.phase) (settings w) w.run cs
    → KeepAhead (settings w) w.run event cs
ahead-racing w event cs raced racing goes set =
    set-ahead true true (settings w) w.run cs event (not-start event goes)
    (subst (λ (b : Bool). AreSet event b true (settings w) w.run cs) raced
    (subst (λ (b : Bool). AreSet event w.kept.raced b (settings w) w.run cs) racing set))

-- what was kept since a mark, with an event more
since-by : (mark : Mark) (w : World) (event : Event) (facts : List Fact) (old new : Stage)
    → Beside → StandsWith (AreSet event) w old → (is_racing w.kept.phase ≡ true → HasStation event)
    → IsStepped (settings w) w.kept.users (happened event facts ∷ w.run)
    → Told w event facts new → Keeps event facts old new → (o : Option (List Step))
    → is_some o ≡ is_some old.steps → HasLooked mark w old.words o
    → HasRecorded mark (world_after w event facts) new.words (option_map
    (λ (steps : List Step). steps ++ record {
      event = event;
      before = epoch_of (settings w) w.run event;
      after = epoch_of (settings w) (happened event facts ∷ w.run) event;
    } ∷ []) o)
since-by mark w event facts old new laws stands own stepped told keeps None same looked = tt
since-by mark w event facts old new laws stands own stepped told keeps (Some steps) same looked =
    let racing : is_racing w.kept.phase ≡ true = sym stands.steps ∙ sym same in
    let at = own racing in
    let x = happened event facts in (
      looked.0,
      recorded-more mark (settings w) w.kept.users w.run at.station x _ looked.1 new.words steps
          laws.goes_on looked.2
          (performed-here (settings w) w.kept.users w.run event facts at stepped.0)
          (laws.tells (settings w) w.kept.users old.lan new.lan w.run at.station x looked.1
          old.words new.words stands.lan told.lan stepped.1 stepped.0 at.own looked.4
          (ahead-racing w event old.words looked.0 racing at.starts_none stands.words)
          (keeps.followed at.starts_none (settings w) w.kept.users w.run told.lan stepped)),
    )

since-after : (mark : Mark) (w : World) (event : Event) (facts : List Fact) (old new : Stage)
    → Beside → IsSetSince event mark w old → (is_racing w.kept.phase ≡ true → HasStation event)
    → IsStepped (settings w) w.kept.users (happened event facts ∷ w.run)
    → Told w event facts new → Keeps event facts old new
    → HasRecorded mark (world_after w event facts) new.words (steps_of new)
since-after mark w event facts old new laws set own stepped told keeps =
    subst (λ (o : Option (List Step)). HasRecorded mark (world_after w event facts) new.words o)
    (sym (keeps.kept (settings w) w.kept.users w.run set.stands.lan told.lan))
    (since-by mark w event facts old new laws set.stands own stepped told keeps (steps_of old)
    (same-some (λ steps. steps.items) old.steps) set.looked)

-- ---- thrift

-- words that have caught up with a run leave few of its numbers out
abbrev pub KeepsThrift : Type 0
KeepsThrift = (settings : Settings) (users : List UserFrame) (state : State) (r : Run)
    (cs : List ControlAt) → GroupStandsFor settings users state r → IsStepped settings users r
    → HaveCaughtUp settings r cs → (s epoch : ℕ) → unused settings s epoch r ≤ 16

thrifty-after : (w : World) (event : Event) (facts : List Fact) (new : Stage) → Proceeds w event facts
    → KeepsThrift → StandsFor (world_after w event facts) new → is_racing w.kept.phase ≡ false
    → IsThrifty (settings w) (happened event facts ∷ w.run)
thrifty-after w event facts new on thrift stands apart = by w.kept.raced refl where
  by : (raced : Bool) → w.kept.raced ≡ raced
      → IsThrifty (settings w) (happened event facts ∷ w.run)
  by false calm = thrifty-calm w event facts calm on apart
  by true raced = (
    thrift (settings w) w.kept.users new.lan (happened event facts ∷ w.run) new.words stands.lan
        (legal-after w event facts on).stepped
        (caught-up w.kept.raced (is_racing w.kept.phase) (settings w)
        (happened event facts ∷ w.run) new.words raced apart stands.words),
    on.tidy.sound.thrifty apart,
  )

-- what is told of an event
abbrev pub report_of : Event → List Fact → World → Report
report_of event facts w =
    record { names = names_of (happened event facts ∷ w.run); facts = facts }

-- ---- the words are looked at

kept-up : (mark : Mark) (w : World) (words looked : List ControlAt) (o : Option (List Step))
    → (is_some o ≡ true → w.kept.raced ≡ true → HaveKeptUp (settings w) w.run words)
    → HaveLooked words looked → HasRecorded mark w words o → HasLooked mark w looked o
kept-up mark w words looked None up look is = tt
kept-up mark w words looked (Some steps) up look is =
    (is.0, words, is.1, up refl is.0, look)

-- in the midst of a race the words keep up with the run
up-racing : (mark : Mark) (w : World) (stage : Stage) → StandsFor w stage
    → is_some (steps_of stage) ≡ true → w.kept.raced ≡ true
    → HaveKeptUp (settings w) w.run stage.words
up-racing mark w stage stands some raced =
    let racing : is_racing w.kept.phase ≡ true =
    sym stands.steps ∙ sym (same-some (λ steps. steps.items) stage.steps) ∙ some in
    subst (λ (b : Bool). Says b true (settings w) w.run stage.words) raced
    (subst (λ (b : Bool). Says w.kept.raced b (settings w) w.run stage.words) racing stands.words)

looked-once : (mark : Mark) (w : World) (stage : Stage) (looked : List ControlAt)
    → StandsSince mark w stage
    → HaveLooked stage.words looked → HasLooked mark w looked (steps_of stage)
looked-once mark w stage looked since look = kept-up mark w stage.words looked (steps_of stage)
    (up-racing mark w stage since.stands) look since.recorded

pub looked-none : (mark : Mark) (w : World) (stage : Stage) → StandsSince mark w stage
    → HasLooked mark w stage.words (steps_of stage)
looked-none mark w stage since =
    looked-once mark w stage stage.words since (unlooked stage.words)

-- a stop of the group leaves what was kept
stop-leaves : (mark : Mark) (w : World) (line : ℕ) (stop : Stop) (stage : Stage)
    → HasStopped mark w stage → LeavesAt mark (halt_of line stop) w stage
stop-leaves mark w line stops.DrawsSpent stage has = has
stop-leaves mark w line (stops.Limit which) stage has = has
stop-leaves mark w line (stops.RepeatedDraw first second) stage has = has
stop-leaves mark w line (stops.Forged station) stage has = has

-- the group before a step, by what the step left of it
abbrev pub before_step : Stage → Stage → Stage
before_step earlier mid = record mid { lan = earlier.lan; draws = earlier.draws }

step-back : (earlier mid : Stage) → mid ≡ record earlier { lan = mid.lan; draws = mid.draws }
    → before_step earlier mid ≡ earlier
step-back earlier mid same = ap (λ (s : Stage). before_step earlier s) same

module _ {K : Type 0} (Took : K → Report → K → Type 0) (Broke : K → Report → K → Unwritten → Type 0)
  where
    -- the facts of an event were told, or the recorder broke at them
    told-ends : (mark : Mark) (w : World) (event : Event) (facts : List Fact) (later : List Chance)
        (a : K) (new : Moment Stage K) (why : Result (Unit {0}) Unwritten)
        → (world_after w event facts).kept.chances ≡ later → IsTidy (world_after w event facts)
        → StandsSince mark (world_after w event facts) new.value
        → MatchResult why (λ _. Took a (report_of event facts w) new.outlet)
        (λ y. Broke a (report_of event facts w) new.outlet y
        ⊎ ((y ≡ whys.Memory) × (new.outlet ≡ a)))
        → answer w event ≡ Ok facts → IsTidy w
        → Ends (stages_since mark) Took Broke w later (happen event) a new
        (handed why)
    told-ends mark w event facts later a new (Ok done) is tidy stands took shows before = (
      world_after w event facts,
      ap (λ (a : Result (List Fact) Halt). shown w event a) shows,
      record { stands = stands; tidy = tidy },
      record {
        told = report_of event facts w ∷ [];
        since = refl;
        by_one = (new.outlet, took, refl);
      },
      is,
      refl,
    )
    told-ends mark w event facts later a new (Err why) is tidy stands untold shows before = inr (record {
      world = world_after w event facts;
      tidy = tidy;
      counts = stands.stands.tally;
      same = refl;
      on_way = inr (sym (ap (λ (a : Result (List Fact) Halt). world_of (shown w event a)) shows));
      cause = elim untold [
        | inl broke ↦ inr (record {
          told = [];
          last = report_of event facts w;
          behind = [];
          since = refl;
          prompt = λ e. refl;
          before = a;
          by_one = refl;
          why = why;
          breaks = broke;
          is = refl;
        })
        | inr wants ↦ inl (
          ap (λ (y : Unwritten). halt_of_unwritten y) wants.0,
          record {
            world = w;
            tidy = before;
            same = refl;
            begins = refl;
            told = told-none w w a new.outlet refl wants.1;
            untold = report_of event facts w ∷ [];
            since = refl;
            few = omega arith;
          },
        )
      ];
    })

-- what was decided of an event is what the world has next
decided-here : {Tied : Bool → Bool → Settings → Run → List ControlAt → Type 0} (w : World)
    (event : Event) (stage : Stage) (later : List Chance) → StandsWith Tied w stage
    → decided stage.raced event ++ later ≡ decided w.kept.raced event ++ later
decided-here w event stage later stands =
    ap (λ (b : Bool). decided b event ++ later) stands.raced

same-seats : (old new : List ControlAt) → new ≡ old → KeepSeats old new
same-seats old new words = subst (λ (cs : List ControlAt). KeepSeats old cs) (sym words)
    (seats-kept old)

-- an event that finds the words as they are
plain-set : (event : Event) (mark : Mark) (w : World) (stage : Stage)
    → ((raced racing : Bool) (settings : Settings) (run : Run) (cs : List ControlAt)
    → Says raced racing settings run cs → AreSet event raced racing settings run cs)
    → FindsLeft (settings w) w.run event
    → IsReached (StandsSince mark) w stage → IsReached (IsSetSince event mark) w stage
plain-set event mark w stage set left reached = record {
  stands = record {
    stands = stands-moved w stage stage (same-self stage) refl refl refl
        (set w.kept.raced (is_racing w.kept.phase) (settings w) w.run stage.words
        reached.stands.stands.words) reached.stands.stands.cards reached.stands.stands;
    looked = looked-none mark w stage reached.stands;
    left = left;
  };
  tidy = reached.tidy;
}

module _ {K : Type 0} {Took : K → Report → K → Type 0} {Broke : K → Report → K → Unwritten → Type 0}
  where
    -- what follows a step was done, and its facts were told, or the recorder broke at them
    pub event-went : (event : Event) (facts : List Fact) (mid : Stage) (old new : Moment Stage K)
        (why : Result (Unit {0}) Unwritten) → IsTyped event → mid.lan ≡ new.value.lan
        → mid.draws ≡ new.value.draws
        → Keeps event facts old.value new.value → KeepsThrift → Beside
        → MatchResult why
        (λ _. Took old.outlet (record { names = new.value.lan.names; facts = facts }) new.outlet)
        (λ y. Broke old.outlet (record { names = new.value.lan.names; facts = facts }) new.outlet y
        ⊎ ((y ≡ whys.Memory) × (new.outlet ≡ old.outlet)))
        → WentOn Took Broke event facts mid old new (handed why)
    event-went event facts mid old new why typed lan draws keeps thrift laws wrote = record {
      ends = λ mark w later left reached comes went.
          let stands = reached.stands.stands in
          let goes : GoesOn (settings w) w.kept.users w.run event (supply_nth old.value.draws)
          (supply_nth new.value.draws) new.value.lan facts =
          subst (λ d. GoesOn (settings w) w.kept.users w.run event (supply_nth old.value.draws)
          (supply_nth d) new.value.lan facts) draws
          (subst (λ (lan : State). GoesOn (settings w) w.kept.users w.run event
          (supply_nth old.value.draws) (supply_nth mid.draws) lan facts) lan went) in
          let told = told-by w event facts old.value new.value stands goes in
          let on = event-proceeds w event facts reached.tidy comes typed told.lan.setting told.stopless
          told.shows in
          let after_it = stands-after w event facts old.value new.value stands
          (λ calm. exact-in w event calm typed comes.1) (legal-after w event facts on).stepped told
          keeps in
          let since : StandsSince mark (world_after w event facts) new.value = record {
            stands = after_it;
            recorded = since-after mark w event facts old.value new.value laws reached.stands
                (λ racing. has-station w event comes.1 racing) (legal-after w event facts on).stepped
                told keeps;
          } in
          let tidy = tidy-after w event facts on reached.stands.left stands.begun
          (λ apart. thrifty-after w event facts new.value on thrift after_it apart) in
          told-ends Took Broke mark w event facts later old.outlet new why
          (chances-used w event facts later (left ∙ decided-here w event old.value later stands)) tidy
          since
          (subst (λ (names : List (List ℕ)). MatchResult why
          (λ _. Took old.outlet (record { names = names; facts = facts }) new.outlet)
          (λ y. Broke old.outlet (record { names = names; facts = facts }) new.outlet y
          ⊎ ((y ≡ whys.Memory) × (new.outlet ≡ old.outlet))))
          after_it.lan.names wrote) told.answers reached.tidy;
      seats = keeps.seats;
      still = keeps.still;
    }

    -- what followed a step, by what the group was before it
    pub from-earlier : (event : Event) (facts : List Fact) (mid earlier : Stage) (a : K)
        (new : Moment Stage K) (r : Result (Unit {0}) Halt)
        → mid ≡ record earlier { lan = mid.lan; draws = mid.draws }
        → WentOn Took Broke event facts mid (moment (before_step earlier mid) a) new r
        → WentOn Took Broke event facts mid (moment earlier a) new r
    from-earlier event facts mid earlier a new r same went =
        subst (λ (s : Stage). WentOn Took Broke event facts mid (moment s a) new r)
        (step-back earlier mid same) went

    -- memory was wanting behind a step, and nothing was told
    pub went-wanting : (event : Event) (facts : List Fact) (mid : Stage) (old new : Moment Stage K)
        → new.value.tally ≡ old.value.tally → new.outlet ≡ old.outlet
        → KeepSeats old.value.words new.value.words
        → (event ≡ events.Emit → new.value.words ≡ old.value.words)
        → WentOn Took Broke event facts mid old new (Err halts.Memory)
    went-wanting event facts mid old new tally same seats still = record {
      ends = λ mark w later left reached comes went. ends-memory Took Broke (stages_since mark) (happen event) w later old.outlet new reached.tidy
          (tally ∙ reached.stands.stands.tally) same;
      seats = seats;
      still = still;
    }

    -- an error that `?` hands on behind a step is the error
    pub went-err : (event : Event) (facts : List Fact) (mid : Stage) (old new : Moment Stage K)
        (e : Halt) (r : Result (Unit {0}) Halt) → WentOn Took Broke event facts mid old new (Err e)
        → IsErrAnd r (λ y. y ≡ e) → WentOn Took Broke event facts mid old new r
    went-err event facts mid old new e r d is =
        handed-on (WentOn Took Broke event facts) mid old new e r d is

    -- the event of a step happened
    pub event-did : (given : Option UserFrame) (event : Event) (facts : List Fact) (mid : Stage)
        (old new : Moment Stage K) (r : Result (Unit {0}) Halt)
        → StepGoes given event old.value mid (Ok facts)
        → WentOn Took Broke event facts mid old new r → Happened Took Broke given event old new r
    event-did given event facts mid old new r step went = record {
      ends = λ mark w later left reached is comes. went.ends mark w later left reached comes
          (step (settings w) w.kept.users w.run reached.stands.stands.lan
          (subst (λ (g : Option UserFrame). MayCome (settings w) w.kept.users w.run g event)
          (sym is) comes.0));
      seats = went.seats;
      still = went.still;
    }

    -- the group met a stop in a world
    pub stopped-ends : (event : Event) (stop : Stop) (line : ℕ) (old new : Moment Stage K)
        (mark : Mark) (w : World) (later : List Chance) → line ≡ old.value.line
        → new.value.tally ≡ old.value.tally → new.outlet ≡ old.outlet
        → new.value.words ≡ old.value.words → new.value.steps ≡ old.value.steps
        → new.value.lan.names ≡ old.value.lan.names
        → w.kept.chances ≡ decided old.value.raced event ++ later
        → IsReached (IsSetSince event mark) w old.value
        → first_stop (settings w) w.kept.users w.run event (supply_nth old.value.draws) ≡ Some stop
        → Ends (stages_since mark) Took Broke w later (happen event)
        old.outlet new (Err (halt_of line stop))
    stopped-ends event stop line old new mark w later is_line tally same words steps names left reached
        first =
        let stands = reached.stands.stands in
        let at_line : line ≡ w.kept.line = is_line ∙ stands.line in
        let met : answer w event ≡ Err (halt_of line stop) =
        ap (λ (o : Option Stop). answered w event o)
        (subst (λ (nth : ℕ → Option (List ℕ)).
        first_stop (settings w) w.kept.users w.run event nth ≡ Some stop)
        (same-supply w old.value stands) first)
        ∙ ap (λ (n : ℕ). Err (halt_of n stop)) (sym at_line) in
        inl (record {
          world = w;
          stops = ap (λ (a : Result (List Fact) Halt). shown w event a) met;
          tidy = reached.tidy;
          leaves = stop-leaves mark w line stop new.value (record {
            counts = tally ∙ stands.tally;
            looked = subst (λ (cs : List ControlAt). HasLooked mark w cs (steps_of new.value))
                (sym words)
                (subst (λ o. HasLooked mark w old.value.words (option_map (λ steps. steps.items) o))
                (sym steps) reached.stands.looked);
            names = names ∙ stands.lan.names;
            steps = ap (λ o. is_some o) steps ∙ stands.steps;
          });
          told = told-none w w old.outlet new.outlet refl same;
          left = ap (λ (c : List Chance). behind_numbers c) left
              ∙ behind-decided old.value.raced event later;
          same = refl;
        })

    -- the group met a stop
    pub event-stopped : (given : Option UserFrame) (event : Event) (stop : Stop) (line : ℕ)
        (old new : Moment Stage K)
        → StepGoes given event old.value new.value (Err (Stopped stop)) → line ≡ old.value.line
        → new.value.tally ≡ old.value.tally → new.outlet ≡ old.outlet
        → new.value.words ≡ old.value.words → new.value.steps ≡ old.value.steps
        → new.value.lan.names ≡ old.value.lan.names
        → Happened Took Broke given event old new (Err (halt_of line stop))
    event-stopped given event stop line old new step is_line tally same words steps names = record {
      ends = λ mark w later left reached is comes. stopped-ends event stop line old new mark w later
          is_line tally same words steps names left reached
          (step (settings w) w.kept.users w.run reached.stands.stands.lan
          (subst (λ (g : Option UserFrame). MayCome (settings w) w.kept.users w.run g event)
          (sym is) comes.0));
      seats = same-seats old.value.words new.value.words words;
      still = λ emits. words;
    }

    -- a frame was admitted that its station had checked
    pub admit-did : (n s : ℕ) (a : Checked) (facts : List Fact) (mid : Stage)
        (old new : Moment Stage K) (r : Result (Unit {0}) Halt)
        → ((settings : Settings) (users : List UserFrame) (r : Run)
        → GroupStandsFor settings users old.value.lan r → IsChecked r n s a
        → Answers settings users r (events.Deliver n s) (supply_nth old.value.draws)
        (supply_nth mid.draws) mid.lan (Ok facts))
        → WentOn Took Broke (events.Deliver n s) facts mid old new r
        → DidWhere (λ w. IsChecked w.run n s a) Took Broke (happen (events.Deliver n s)) old new r
    admit-did n s a facts mid old new r goes went = record {
      chances = decided old.value.raced (events.Deliver n s);
      ends = λ mark w later is reached checked comes. went.ends mark w later is
          (plain-set (events.Deliver n s) mark w old.value (λ raced racing settings run cs says. says)
          tt reached) comes
          (goes (settings w) w.kept.users w.run reached.stands.stands.lan checked);
      seats = went.seats;
    }

    -- the group met a stop at it
    pub admit-stopped : (n s : ℕ) (a : Checked) (stop : Stop) (line : ℕ) (old new : Moment Stage K)
        → ((settings : Settings) (users : List UserFrame) (r : Run)
        → GroupStandsFor settings users old.value.lan r → IsChecked r n s a
        → first_stop settings users r (events.Deliver n s) (supply_nth old.value.draws) ≡ Some stop)
        → line ≡ old.value.line
        → new.value.tally ≡ old.value.tally → new.outlet ≡ old.outlet
        → new.value.words ≡ old.value.words → new.value.steps ≡ old.value.steps
        → new.value.lan.names ≡ old.value.lan.names
        → DidWhere (λ w. IsChecked w.run n s a) Took Broke (happen (events.Deliver n s)) old new
        (Err (halt_of line stop))
    admit-stopped n s a stop line old new first is_line tally same words steps names = record {
      chances = decided old.value.raced (events.Deliver n s);
      ends = λ mark w later is reached checked comes.
          stopped-ends (events.Deliver n s) stop line old new mark w later is_line tally same words
          steps names is
          (plain-set (events.Deliver n s) mark w old.value (λ raced racing settings run cs says. says)
          tt reached)
          (first (settings w) w.kept.users w.run reached.stands.stands.lan checked);
      seats = same-seats old.value.words new.value.words words;
    }

    -- an event that names no user frame, and finds the words as they are
    pub plainly : (event : Event) (old new : Moment Stage K) (r : Result (Unit {0}) Halt)
        → ((w : World) → None ≡ named w event)
        → ((raced racing : Bool) (settings : Settings) (run : Run) (cs : List ControlAt)
        → Says raced racing settings run cs → AreSet event raced racing settings run cs)
        → ((settings : Settings) (run : Run) → FindsLeft settings run event)
        → Happened Took Broke None event old new r → Did Took Broke (happen event) old new r
    plainly event old new r none set left h = record {
      chances = decided old.value.raced event;
      ends = λ mark w later is reached comes. h.ends mark w later is
          (plain-set event mark w old.value set (left (settings w) w.run) reached) (none w) comes;
      seats = h.seats;
    }

    -- a tick whose number was shown
    pub tick-does : (s n : ℕ) (old mid new : Moment Stage K) (r : Result (Unit {0}) Halt)
        → mid.outlet ≡ old.outlet → IsSame old.value mid.value → mid.value.line ≡ old.value.line
        → mid.value.users ≡ old.value.users → mid.value.cuts ≡ old.value.cuts
        → ((raced racing : Bool) (settings : Settings) (run : Run)
        → Says raced racing settings run old.value.words → s < length (stations run)
        → IsGiven raced (shown_next settings s run) n)
        → ((raced racing : Bool) (settings : Settings) (run : Run)
        → Says raced racing settings run old.value.words → s < length (stations run)
        → SaysAhead raced racing settings run (events.Tick s n) mid.value.words)
        → HaveLooked old.value.words mid.value.words
        → KeepSeats old.value.words mid.value.words
        → Happened Took Broke None (events.Tick s n) mid new r → Did Took Broke (tick s) old new r
    tick-does s n old mid new r outlet same line users cuts next ahead looked seats h = record {
      chances = decided mid.value.raced (events.Tick s n);
      ends = λ mark w later is reached comes.
          let racing = is_racing w.kept.phase in
          let says = reached.stands.stands.words in
          let there : s < length (stations w.run) = comes.0.0 in
          let decides : w.kept.chances ≡ decided w.kept.raced (events.Tick s n) ++ later =
          is ∙ ap (λ (b : Bool). decided b (events.Tick s n) ++ later)
          (same.raced ∙ reached.stands.stands.raced) in
          let number : n ≡ number_shown w s = shown-is w s n later decides
          (next w.kept.raced racing (settings w) w.run says there) in
          let comes_n : Comes (happen (events.Tick s n)) w =
          subst (λ (m : ℕ). Comes (happen (events.Tick s m)) w) (sym number) comes in
          subst (λ (m : ℕ). Ends (stages_since mark) Took Broke w later
          (happen (events.Tick s m)) old.outlet new r) number
          (subst (λ (k : K). Ends (stages_since mark) Took Broke w later
          (happen (events.Tick s n)) k new r) outlet
          (h.ends mark w later is (record {
            stands = record {
              stands = stands-moved w old.value mid.value same line users cuts
                  (ahead w.kept.raced racing (settings w) w.run says there)
                  (carded-kept (settings w) w.run old.value.words mid.value.words
                  (looked-kept old.value.words mid.value.words looked) reached.stands.stands.cards)
                  reached.stands.stands;
              looked = subst (λ o. HasLooked mark w mid.value.words (option_map (λ steps. steps.items) o))
                  (sym same.steps)
                  (looked-once mark w old.value mid.value.words reached.stands looked);
              left = tt;
            };
            tidy = reached.tidy;
          }) refl comes_n));
      seats = seats-then old.value.words mid.value.words new.value.words seats h.seats;
    }

    -- memory was wanting, and nothing was told
    pub event-wanting : (given : Option UserFrame) (event : Event) (old new : Moment Stage K)
        → new.value.tally ≡ old.value.tally → new.outlet ≡ old.outlet
        → KeepSeats old.value.words new.value.words
        → (event ≡ events.Emit → new.value.words ≡ old.value.words)
        → Happened Took Broke given event old new (Err halts.Memory)
    event-wanting given event old new tally same seats still = record {
      ends = λ mark w later left reached named comes. ends-memory Took Broke (stages_since mark) (happen event) w later
          old.outlet new reached.tidy (tally ∙ reached.stands.stands.tally) same;
      seats = seats;
      still = still;
    }

    -- an error that `?` hands on is the error
    pub happened-err : (given : Option UserFrame) (event : Event) (old new : Moment Stage K)
        (e : Halt) (r : Result (Unit {0}) Halt) → Happened Took Broke given event old new (Err e)
        → IsErrAnd r (λ y. y ≡ e) → Happened Took Broke given event old new r
    happened-err given event old new e r d is =
        handed-on (Happened Took Broke given) event old new e r d is
