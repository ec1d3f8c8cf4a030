-- What control performs in the midst of a race is kept, event by event; outside of one nothing is.
use Rattle.std.proofs.Common.{◌≡◌, ℕ, zero, suc, ◌==◌, arith, Bool, true, false, List, [], ◌∷◌, ◌++◌, Some, None, refl, sym, ap}
use Rattle.std.proofs.Common.{◌∙◌, subst}
use Rattle.std.specs.Prelude.{Option, is_some, option_map, unwrap_or, slice_get, Result, Ok, Err}
use Rattle.std.specs.Prelude.{OnOk, OnErr}
use Rattle.std.specs.declared.alloc.AllocError.{AllocError}
use Rattle.std.proofs.lemmas.List.{map-append}
use Rattle.atomic_table.specs.Seated.{TableId}
use Rattle.station_words.specs.Seats.{NoMoreOut}
use Rattle.station_words.specs.Ties.{tables_of}
use Rattle.station_words.proofs.Public.{out-none, out-started, out-then}
use Rattle.lan_base.specs.declared.frame.UserFrame.{UserFrame}
use Rattle.sak_exchange.specs.declared.held_key.Key.{Key}
use Rattle.association_slots.specs.Views.{AllIn, ControlAt}
use Rattle.lan_core.specs.declared.event.Event.{Event}
use Rattle.lan_core.specs.declared.event.Event.TheVariants as events
use Rattle.lan_core.specs.declared.settings.Settings.{Settings}
use Rattle.lan_core.specs.Legal.{IsStep}
use Rattle.lan_core.specs.Lives.{transmitting_at}
use Rattle.lan_core.specs.Order.{is_event_of}
use Rattle.lan_core.specs.Run.{Run, Happening, happened}
use Rattle.lan_core.specs.declared.fact.Fact.{Fact}
use Rattle.worker_races.specs.declared.merge.step.Step.{Step}
use Rattle.worker_races.specs.merge.Raced.{epoch_of as epoch_in}
use Rattle.worker_races.specs.merge.Table.{Controls}
use Rattle.worker_races.specs.Going.{HaveGone, WereTold}
use Rattle.worker_races.specs.Performed.{ArePerformed, IsPerformed, run_after}
use Rattle.trace_acts.specs.declared.halt.Halt.{Halt}
use Rattle.trace_acts.specs.Names.{names_of}
use Rattle.lan_schedule.specs.declared.stage.Stage.{Stage}
use Rattle.lan_schedule.specs.World.{World, is_racing}
use Rattle.lan_schedule.specs.Acts.{is_stop}
use Rattle.lan_schedule.specs.Stages.{StandsFor, Counts}
use Rattle.lan_schedule.specs.inside.Recording.{Mark, IsRecorded, HasRecorded, HasLooked, StandsSince}
use Rattle.lan_schedule.specs.inside.Recording.{LeavesAt, LeavesBy, KeepSeats, KeepsStep}
use Rattle.lan_schedule.specs.inside.Recording.{epoch_of}
use Rattle.lan_schedule.specs.inside.Recording.{is_start, steps_of}
use Rattle.lan_schedule.specs.inside.Comes.{IsExact}

-- ---- outside of a race

none-kept : (mark : Mark) (w : World) (words : List ControlAt) (o : Option (List Step))
    → is_some o ≡ false → HasRecorded mark w words o
none-kept mark w words None none = tt
none-kept mark w words (Some steps) none = absurd (cc none)

pub same-some : {X Y : Type 0} (f : X → Y) (o : Option X) → is_some (option_map f o) ≡ is_some o
same-some f None = refl
same-some f (Some x) = refl

-- outside of a race a group at work has kept all since any mark
pub since-apart : (mark : Mark) (w : World) (stage : Stage) → StandsFor w stage
    → is_racing w.kept.phase ≡ false → StandsSince mark w stage
since-apart mark w stage stands apart = record {
  stands = stands;
  recorded = none-kept mark w stage.words (steps_of stage)
      (same-some (λ steps. steps.items) stage.steps ∙ stands.steps ∙ apart);
}

looked-none : (mark : Mark) (w : World) (words : List ControlAt) (o : Option (List Step))
    → is_some o ≡ false → HasLooked mark w words o
looked-none mark w words None none = tt
looked-none mark w words (Some steps) none = absurd (cc none)

-- where no steps are kept
pub looked-apart : (mark : Mark) (w : World) (stage : Stage) → is_some stage.steps ≡ false
    → HasLooked mark w stage.words (steps_of stage)
looked-apart mark w stage none = looked-none mark w stage.words (steps_of stage)
    (same-some (λ steps. steps.items) stage.steps ∙ none)

-- a line that was refused leaves all
leaves-by : (stop : Bool) (mark : Mark) (w : World) (stage : Stage) → StandsSince mark w stage
    → (stop ≡ true → HasLooked mark w stage.words (steps_of stage)) → LeavesBy stop mark w stage
leaves-by true mark w stage since looked = record {
  counts = since.stands.tally;
  looked = looked refl;
  names = since.stands.lan.names;
  steps = since.stands.steps;
}
leaves-by false mark w stage since looked = since

pub leaves-so : (mark : Mark) (halt : Halt) (w : World) (stage : Stage) → StandsSince mark w stage
    → (is_stop halt ≡ true → HasLooked mark w stage.words (steps_of stage))
    → LeavesAt mark halt w stage
leaves-so mark halt w stage since looked = leaves-by (is_stop halt) mark w stage since looked

-- what a halt leaves has the world's tally
leaves-counts-by : (stop : Bool) (mark : Mark) (w : World) (stage : Stage)
    → LeavesBy stop mark w stage → Counts w stage
leaves-counts-by true mark w stage leaves = leaves.counts
leaves-counts-by false mark w stage leaves = leaves.stands.tally

pub leaves-counts : (mark : Mark) (halt : Halt) (w : World) (stage : Stage)
    → LeavesAt mark halt w stage → Counts w stage
leaves-counts mark halt w stage leaves = leaves-counts-by (is_stop halt) mark w stage leaves

-- and the names of its stations
leaves-names-by : (stop : Bool) (mark : Mark) (w : World) (stage : Stage)
    → LeavesBy stop mark w stage → stage.lan.names ≡ names_of w.run
leaves-names-by true mark w stage leaves = leaves.names
leaves-names-by false mark w stage leaves = leaves.stands.lan.names

pub leaves-names : (mark : Mark) (halt : Halt) (w : World) (stage : Stage)
    → LeavesAt mark halt w stage → stage.lan.names ≡ names_of w.run
leaves-names mark halt w stage leaves = leaves-names-by (is_stop halt) mark w stage leaves

-- ---- one event more

-- what a law says of it
pub record GoesOnSo : Type 0 where
  pub run : (r : Run) (performed : Controls) (t : ℕ) (x : Happening)
      → run_after (performed ++ (t, x) ∷ []) r ≡ x ∷ run_after performed r
  pub performed : (settings : Settings) (users : List UserFrame) (r : Run) (performed : Controls)
      (steps : List Step) (t : ℕ) (x : Happening) (kept : Step)
      → ArePerformed settings users r performed steps
      → IsPerformed settings users (run_after performed r) t x kept
      → ArePerformed settings users r (performed ++ (t, x) ∷ []) (steps ++ kept ∷ [])
  pub gone : (settings : Settings) (r : Run) (performed : Controls) (t : ℕ) (x : Happening)
      (old mid new : List ControlAt) → HaveGone settings r performed old mid
      → WereTold settings (run_after performed r) t x mid new
      → HaveGone settings r (performed ++ (t, x) ∷ []) old new

pub recorded-more : (mark : Mark) (settings : Settings) (users : List UserFrame) (r : Run) (t : ℕ)
    (x : Happening) (kept : Step) (before words : List ControlAt) (steps : List Step) → GoesOnSo
    → IsRecorded mark settings users r before steps → IsPerformed settings users r t x kept
    → WereTold settings r t x before words
    → IsRecorded mark settings users (x ∷ r) words (steps ++ kept ∷ [])
recorded-more mark settings users r t x kept before words steps on is performed told = record {
  performed = is.performed ++ (t, x) ∷ [];
  run = ap (λ (q : Run). x ∷ q) is.run ∙ sym (on.run mark.run is.performed t x);
  are = on.performed settings users mark.run is.performed steps t x kept is.are
      (subst (λ (q : Run). IsPerformed settings users q t x kept) is.run performed);
  gone = on.gone settings mark.run is.performed t x mark.words before words is.gone
      (subst (λ (q : Run). WereTold settings q t x before words) is.run told);
}

-- ---- the epochs that are kept

epoch-read : (o : Option Key) → unwrap_or (option_map (λ (k : Key). k.epoch) o) 0
    ≡ epoch_in o
epoch-read None = refl
epoch-read (Some k) = refl

-- an event of a station was kept with the epochs that transmit there before and after it
pub performed-so : (settings : Settings) (users : List UserFrame) (r : Run) (e : Event)
    (x : Happening) (s : ℕ) (kept : Step) → x.event ≡ e
    → kept ≡ record {
      event = e;
      before = epoch_of settings r e;
      after = epoch_of settings (x ∷ r) e;
    }
    → epoch_of settings r e ≡ option_map (λ (k : Key). k.epoch) (transmitting_at settings s r)
    → epoch_of settings (x ∷ r) e
    ≡ option_map (λ (k : Key). k.epoch) (transmitting_at settings s (x ∷ r))
    → is_event_of s x.event ≡ true → IsStep settings users x r
    → IsPerformed settings users r s x kept
performed-so settings users r e x s kept event is before after own step = record {
  step = step;
  own = own;
  event = ap (λ (k : Step). k.event) is ∙ sym event;
  before = ap (λ (k : Step). unwrap_or k.before 0) is
      ∙ ap (λ (o : Option ℕ). unwrap_or o 0) before ∙ epoch-read (transmitting_at settings s r);
  after = ap (λ (k : Step). unwrap_or k.after 0) is
      ∙ ap (λ (o : Option ℕ). unwrap_or o 0) after
      ∙ epoch-read (transmitting_at settings s (x ∷ r));
}

-- ---- the events that control performs

-- an event of a station, which starts none
pub record HasStation (event : Event) : Type 0 where
  pub station : ℕ
  pub own : is_event_of station event ≡ true
  pub starts_none : is_start event ≡ false
  pub kept : (settings : Settings) (r : Run) → epoch_of settings r event
      ≡ option_map (λ (k : Key). k.epoch) (transmitting_at settings station r)

same-number : (s : ℕ) → (s == s) ≡ true
same-number s = grind arith

-- none but these come in the midst of a race
pub has-station : (w : World) (event : Event) → IsExact w event → is_racing w.kept.phase ≡ true
    → HasStation event
has-station w (events.Start name sci priority) exact racing =
    absurd (let bad : false ≡ true = sym exact ∙ racing in cc)
has-station w (events.Tick s next) exact racing =
    record { station = s; own = same-number s; starts_none = refl; kept = λ settings r. refl }
has-station w (events.Deliver frame s) exact racing =
    record { station = s; own = same-number s; starts_none = refl; kept = λ settings r. refl }
has-station w (events.Restart s) exact racing =
    record { station = s; own = same-number s; starts_none = refl; kept = λ settings r. refl }
has-station w (events.Claim s user pn) exact racing =
    absurd (let bad : false ≡ true = sym exact.2 ∙ racing in cc)
has-station w events.Emit exact racing =
    absurd (let bad : false ≡ true = sym exact ∙ racing in cc)
has-station w (events.Inject s octets) exact racing =
    record { station = s; own = same-number s; starts_none = refl; kept = λ settings r. refl }

-- such an event as it was kept
pub performed-here : (settings : Settings) (users : List UserFrame) (r : Run) (event : Event)
    (shown : List Fact) (at : HasStation event) → IsStep settings users (happened event shown) r
    → IsPerformed settings users r at.station (happened event shown) (record {
      event = event;
      before = epoch_of settings r event;
      after = epoch_of settings (happened event shown ∷ r) event;
    })
performed-here settings users r event shown at step = performed-so settings users r event
    (happened event shown) at.station _ refl refl (at.kept settings r)
    (at.kept settings (happened event shown ∷ r)) at.own step

-- ---- tables and seats

pub seats-kept : (cs : List ControlAt) → KeepSeats cs cs
seats-kept cs = record { tables = λ s table at. at; out = out-none cs }

pub seats-then : (a b c : List ControlAt) → KeepSeats a b → KeepSeats b c → KeepSeats a c
seats-then a b c first second = record {
  tables = λ s table at. second.tables s table (first.tables s table at);
  out = out-then a b c first.out second.out;
}

pub seats-same : (old new : List ControlAt) → tables_of new ≡ tables_of old → NoMoreOut old new
    → KeepSeats old new
seats-same old new same out = record {
  tables = λ s table at. subst (λ (ts : List TableId). slice_get ts s ≡ Some table) (sym same) at;
  out = out;
}

-- ---- what an event keeps

kept-so : (event : Event) (before known after seen : Option ℕ) (old new : Option (List Step))
    → before ≡ known → after ≡ seen → KeepsStep event before after old new
    → KeepsStep event known seen old new
kept-so event before known after seen old new first then_ keeps =
    subst (λ (o : Option ℕ). KeepsStep event known o old new) then_
    (subst (λ (o : Option ℕ). KeepsStep event o after old new) first keeps)

-- an event that is not kept needs no epoch
pub kept-when : {S : Type 0} (items : S → List Step) (event : Event) (before known after seen : Option ℕ)
    (steps : Option S) (new : Option (List Step))
    → (is_some steps ≡ true → before ≡ known) → (is_some steps ≡ true → after ≡ seen)
    → KeepsStep event before after (option_map items steps) new
    → KeepsStep event known seen (option_map items steps) new
kept-when items event before known after seen None new first then_ keeps = keeps
kept-when items event before known after seen (Some own) new first then_ keeps =
    kept-so event before known after seen (Some (items own)) new (first refl) (then_ refl) keeps

-- ---- the words of a station that starts

front-get : {X : Type 0} (xs ys : List X) (s : ℕ) (x : X) → slice_get xs s ≡ Some x
    → slice_get (xs ++ ys) s ≡ Some x
front-get [] ys s x at = absurd (grind arith)
front-get (y ∷ xs) ys zero x at = at
front-get (y ∷ xs) ys (suc s) x at = front-get xs ys s x at

pub seats-started : (P : ControlAt → Type 0) (T : Type 0) (r : Result (Unit {0}) AllocError)
    (old new : List ControlAt) → ((c : ControlAt) → P c → AllIn c.view)
    → OnOk r ((c : ControlAt) × (new ≡ old ++ c ∷ []) × P c)
    → OnErr r ((new ≡ old) × T) → KeepSeats old new
seats-started P T (Ok done) old new fresh more same = subst (λ (cs : List ControlAt). KeepSeats old cs)
    (sym more.1) (record {
      tables = λ s table at. subst (λ (ts : List TableId). slice_get ts s ≡ Some table)
          (sym (map-append (λ (c : ControlAt). c.table) old (more.0 ∷ [])))
          (front-get (tables_of old) _ s table at);
      out = out-started old more.0 (fresh more.0 more.2);
    })
seats-started P T (Err e) old new fresh more same =
    subst (λ (cs : List ControlAt). KeepSeats old cs) (sym same.0) (seats-kept old)
