-- A race is run: its workers have the tables of the words still, and what its parts did is what the
-- whole race does.
use Rattle.std.proofs.Common.{◌≡◌, ◌<◌, ℕ, Bool, true, false, List, [], ◌∷◌, ◌++◌, length, Some, None, refl, sym, ap}
use Rattle.std.proofs.Common.{◌∙◌, subst, inl, inr, arith, take, drop, append-nil}
use Rattle.std.proofs.lemmas.List.{length-append, length-map, take_all, drop_all}
use Rattle.std.specs.List.{AllByRecursion}
use Rattle.std.specs.Prelude.{All, IfSome, Option, Result, Err, option_map, slice_get, slice_index_or}
use Rattle.atomic_table.specs.Seated.{TableId}
use Rattle.association_slots.specs.Views.{ControlAt}
use Rattle.data_workers.specs.Workers.{AreDone, HasTable, WorkerAt}
use Rattle.lan_core.specs.declared.settings.Settings.{Settings}
use Rattle.lan_core.specs.Run.{Profile, Run, stations}
use Rattle.lan_core.specs.Standing.{scis_in}
use Rattle.lan_core.proofs.Public.{same-scis}
use Rattle.station_words.specs.Seats.{AreAllIn}
use Rattle.station_words.specs.Ties.{tables_of}
use Rattle.trace_acts.specs.Names.{names_of}
use Rattle.trace_acts.specs.declared.halt.Halt.{Halt}
use Rattle.lan_base.specs.declared.sink.Unwritten.{Unwritten}
use Rattle.lan_schedule.specs.declared.race.Before.{Before}
use Rattle.lan_schedule.specs.declared.race.Ran.{Ran}
use Rattle.lan_schedule.specs.declared.stage.Stage.{Stage}
use Rattle.lan_schedule.specs.Races.{Burst, Chance, Excess, Numbered, behind_numbers, workers_of}
use Rattle.lan_schedule.specs.Races.{claims_in, count_numbered, woven_in}
use Rattle.lan_schedule.specs.World.{World, is_racing, settings}
use Rattle.lan_schedule.specs.Acts.{Act, Course, Stops, after_race, begun_race, perform, race, world_of}
use Rattle.lan_schedule.specs.Lines.{control_act, excess_of, run_race, unless_exceeded}
use Rattle.lan_schedule.specs.Reports.{Report}
use Rattle.lan_schedule.specs.Ends.{Ends, IsReached, Moment, moment}
use Rattle.lan_schedule.specs.Stages.{Says, StandsFor, stages}
use Rattle.lan_schedule.specs.Standing.{AreBursts, IsBurst}
use Rattle.lan_schedule.specs.Woven.{WasBegun}
use Rattle.lan_schedule.specs.inside.Beside.{AreHired, DidRace, EndsRace, HaveSeats, IsUnhired, RanBeside}
use Rattle.lan_schedule.specs.inside.Comes.{Comes}
use Rattle.lan_schedule.specs.inside.Recording.{KeepSeats}
use Rattle.lan_schedule.proofs.Doing.{both-chances, ends-memory, told-none}
use Rattle.lan_schedule.proofs.Hiring.{has-table, table-there}
use Rattle.lan_schedule.proofs.RunNone.{emitting-before}

-- ---- the workers are done

-- what is written back to a vector of as many is all of it
pub all-back : {A : Type 0} (many : ℕ) (new old : List A) → length new ≡ length old
    → many ≡ length old → take many (new ++ drop (length new) old) ≡ new
all-back {A} many new old same long =
    ap (λ (xs : List A). take many (new ++ xs)) (drop_all (length new) old (omega (arith, same)))
    ∙ ap (λ (xs : List A). take many xs) (append-nil new)
    ∙ take_all many new (omega (arith, same, long))

-- and have the tables of the words still
pub done-tables : (tables : List TableId) (old new : List ControlAt) (ws ds : List WorkerAt)
    → All (HasTable tables) ws → tables ≡ tables_of old → AreDone ws ds → KeepSeats old new
    → All (HasTable (tables_of new)) ds
done-tables tables old new ws ds has is done keep k x less =
    let many = done.count in
    let there : k < length ws = omega (arith, less, many) in
    one (slice_index_or ws k x) (slice_index_or ds k x) (has k x there) (done.each k x there).same.sender
    (done.each k x there).same.table
  where
    one : (w d : WorkerAt) → HasTable tables w → d.sender ≡ w.sender → d.seat.table ≡ w.seat.table
        → HasTable (tables_of new) d
    one w d has_it sender table = has-table (tables_of new) d
        ((λ i. slice_get (tables_of new) (sender i).station)
        ∙ keep.tables w.sender.station w.seat.table
        (ap (λ (ts : List TableId). slice_get ts w.sender.station) (sym is)
        ∙ table-there tables w has_it)
        ∙ ap (λ (t : TableId). Some t) (sym table))

-- what was taken is what was kept
pub taken-all : {V X : Type 0} (f : V → List X) (o : Option V) (xs : List X)
    → IfSome o (λ v. xs ≡ f v) → (all : List X) → option_map f o ≡ Some all → xs ≡ all
taken-all f None xs taken all is = absurd (cc is)
taken-all f (Some v) xs taken all is = let same : f v ≡ all = cc is in taken ∙ same

-- ---- the whole race

-- no seat is out of words outside of a race
all-in : (raced : Bool) (settings : Settings) (r : Run) (cs : List ControlAt)
    → Says raced false settings r cs → (length cs ≡ length (stations r)) × AreAllIn cs
all-in false settings r cs says = (says.many, λ s c at. (says.each s c at).2.all_in)
all-in true settings r cs says = (says.many, λ s c at. (says.each s c at).2.all_in)

stations-there : (many : ℕ) (names : List (List ℕ)) (bursts : List Burst) → length names ≡ many
    → AllByRecursion (IsBurst names) bursts
    → AllByRecursion (λ (b : Burst). b.station < many) bursts
stations-there many names [] same each = tt
stations-there many names (b ∷ bs) same each =
    ((let there = each.0.station in omega (arith, there, same)), stations-there many names bs same each.1)

-- so the bursts that lines keep find seats
have-seats : (w : World) (bursts : List Burst) (stage : Stage) → StandsFor w stage
    → is_racing w.kept.phase ≡ false → AreBursts (names_of w.run) bursts → HaveSeats bursts stage
have-seats w bursts stage stands apart fit =
    let words = all-in w.kept.raced (settings w) w.run stage.words
    (subst (λ (b : Bool). Says w.kept.raced b (settings w) w.run stage.words) apart stands.words) in
    let scis : length (scis_in stage.lan) ≡ length (stations w.run) =
    ap length (same-scis (settings w) w.kept.users stage.lan w.run stands.lan)
    ∙ length-map (stations w.run) (λ (p : Profile). p.sci) in
    record {
      stations = stations-there (length (scis_in stage.lan)) (names_of w.run) bursts
          (length-map (stations w.run) (λ (p : Profile). p.name) ∙ sym scis) fit.each;
      few = fit.few;
      many = words.0 ∙ sym scis;
      all_in = words.1;
    }

-- no list is one longer than itself
longer : {A : Type 0} (xs : List A) (x : A) → xs ≡ xs ++ x ∷ [] → ⊥
longer xs x same =
    let long = ap length same in let more = length-append xs (x ∷ []) in omega (arith, long, more)

-- a race that was begun is one more, so that it hired its workers
began-one : (bursts : List Burst) (w : World) (halt : Halt) (o : Option Excess) → o ≡ None
    → perform (unless_exceeded o (race (workers_of bursts) (control_act []))) w ≡ Stops w halt → ⊥
began-one bursts w halt None room stops =
    let workers = workers_of bursts in
    let v = begun_race workers w in
    let u = after_race workers w v in
    longer w.kept.races _
    (sym (ap (λ (o : Course). (world_of o).kept.races) stops)
    ∙ (emitting-before (count_numbered (claims_in (woven_in v.kept.chances))) u).races)
began-one bursts w halt (Some excess) room stops = absurd (cc room)

not-hired : (bursts : List Burst) (w : World) (halt : Halt) → WasBegun bursts w (Err halt)
    → IsUnhired w bursts [] halt → ⊥
not-hired bursts w halt was (inl stops) = began-one bursts w halt (excess_of bursts w) was.room stops
not-hired bursts w halt was (inr memory) = was.memory (ap (λ (h : Halt). Err h) memory)

module _ {K : Type 0} {Took : K → Report → K → Type 0} {Broke : K → Report → K → Unwritten → Type 0}
  where
    -- nobody was hired
    pub unhired-does : (bursts : List Burst) (control : List Numbered) (old new : Moment Stage K)
        (halt : Halt) → new.outlet ≡ old.outlet → new.value.tally ≡ old.value.tally
        → ((w : World) (lines : List Numbered) → IsReached StandsFor w old.value
        → HaveSeats bursts old.value → IsUnhired w bursts lines halt)
        → DidRace Took Broke bursts control old new (Err halt)
    unhired-does bursts control old new halt outlet tally unhired = record {
      chances = [];
      ends = λ w later left reached apart fit comes.
          by w later left reached (unhired w control reached
          (have-seats w bursts old.value reached.stands apart fit));
      woven = λ w later left reached apart fit comes begun.
          absurd (not-hired bursts w halt begun (unhired w [] reached
          (have-seats w bursts old.value reached.stands apart fit)));
    }
      where
        by : (w : World) (later : List Chance) → w.kept.chances ≡ later
            → IsReached StandsFor w old.value → IsUnhired w bursts control halt
            → Ends stages Took Broke w later
            (run_race bursts control w) old.outlet new (Err halt)
        by w later left reached (inl stops) = inl (record {
          world = w;
          stops = stops;
          tidy = reached.tidy;
          leaves = tally ∙ reached.stands.tally;
          told = told-none w w old.outlet new.outlet refl outlet;
          left = ap (λ (c : List Chance). behind_numbers c) left;
          same = refl;
        })
        by w later left reached (inr memory) =
            subst (λ (h : Halt). Ends stages Took Broke w later
            (run_race bursts control w) old.outlet new (Err h)) (sym memory)
            (ends-memory Took Broke stages (run_race bursts control w) w
            later old.outlet new reached.tidy (tally ∙ reached.stands.tally) outlet)

    -- workers were hired, control was performed beside them, and the race ended so
    pub raced-does : (bursts : List Burst) (control : List Numbered) (old begun now : Stage) (k : K)
        (new : Moment Stage K) (crew : List WorkerAt) (before : Before) (ran : Ran)
        (result : Result (Unit {0}) Halt) → before.line ≡ old.line → before.tally ≡ old.tally
        → ((w : World) → IsReached StandsFor w old → HaveSeats bursts old
        → AreHired w (workers_of bursts) old begun crew × (excess_of bursts w ≡ None))
        → RanBeside control crew begun now ran
        → EndsRace Took Broke before ran (moment now k) new result
        → DidRace Took Broke bursts control (moment old k) new result
    raced-does bursts control old begun now k new crew before ran result line tally hired beside ended =
        record {
          chances = beside.did.chances ++ ended.chances;
          ends = λ w later left reached apart fit comes.
              let are = hired w reached (have-seats w bursts old reached.stands apart fit) in
              let act : Act = race (workers_of bursts) (control_act control) in
              let may : Comes act w = subst (λ (o : Option Excess). Comes (unless_exceeded o act) w) are.1 comes in
              subst (λ (o : Option Excess). Ends stages Took Broke w later
              (unless_exceeded o act) k new result) (sym are.1)
              (ended.ends w later (workers_of bursts) control (record {
                first = old;
                reached = reached;
                apart = apart;
                begun = begun;
                crew = crew;
                hired = are.0;
                comes = may;
                beside = beside;
              }) (both-chances w.kept.chances beside.did.chances ended.chances later left)
              (line ∙ reached.stands.line) (tally ∙ reached.stands.tally));
          woven = λ w later left reached apart fit comes was.
              let are = hired w reached (have-seats w bursts old reached.stands apart fit) in
              let act : Act = race (workers_of bursts) (control_act control) in
              ended.woven w later (workers_of bursts) control (record {
                first = old;
                reached = reached;
                apart = apart;
                begun = begun;
                crew = crew;
                hired = are.0;
                comes = subst (λ (o : Option Excess). Comes (unless_exceeded o act) w) are.1 comes;
                beside = beside;
              }) (both-chances w.kept.chances beside.did.chances ended.chances later left)
              (line ∙ reached.stands.line) (tally ∙ reached.stands.tally) was.memory;
        }
