-- Workers are hired, one behind the other, and their race begins.
use Rattle.std.proofs.Common.{◌≡◌, ◌<◌, ◌+◌, ◌-◌, ◌^◌, ◌==◌, ℕ, zero, suc, Bool, true, false, List, [], ◌∷◌, ◌++◌, length, map, take, get_or, cond, Some, None, refl, sym, ap, ◌∙◌, subst, append_assoc, append-nil, length-append, add-one, arith}
use Rattle.std.specs.Prelude.{Option, option_map, slice_get, is_some}
use Rattle.std.specs.List.{AllByRecursion, range_with_len}
use Rattle.std.proofs.lemmas.List.{length-map, map-append, take_more}
use Rattle.std.proofs.lemmas.List.Concat.{flat_map-append}
use Rattle.std.proofs.lemmas.List.Elements.{All-push, recursion_from_All}
use Rattle.std.proofs.lemmas.Option.{get_or_from_slice_get, slice_get_read, slice_get_within, slice_get-map}
use Rattle.atomic_table.specs.Seated.{TableId}
use Rattle.lan_base.specs.declared.address.Sci.{Sci}
use Rattle.lan_base.specs.declared.frame.UserFrame.{UserFrame}
use Rattle.association_slots.specs.Views.{ControlAt, SeatAt}
use Rattle.data_workers.specs.Workers.{HasTable, WorkerAt}
use Rattle.lan_core.specs.declared.settings.Settings.{Settings}
use Rattle.lan_core.specs.Claims.{user_at}
use Rattle.lan_core.specs.Ledgers.{claims}
use Rattle.lan_core.specs.Run.{Run, Profile, facts_of, stations}
use Rattle.lan_core.specs.Standing.{StandsFor as GroupStandsFor, scis_in}
use Rattle.lan_core.specs.Types.{IsUserFrame}
use Rattle.lan_core.specs.declared.stop.Which.{Which}
use Rattle.lan_core.proofs.Public.{same-scis, stands-more}
use Rattle.fact_tally.specs.Summary.{Counts as Tallied, counts}
use Rattle.worker_races.specs.declared.merge.step.Step.{Step}
use Rattle.station_words.specs.Seats.{HasJoined, WasSeated}
use Rattle.station_words.specs.Ties.{tables_of, AreTied, AreToldAll, HaveCaughtUp, HaveKeptUp}
use Rattle.station_words.specs.Seats.{AreAllIn}
use Rattle.worker_races.specs.Carded.{AreCarded}
use Rattle.worker_races.specs.Going.{HaveJoined, WereSeated}
use Rattle.worker_races.specs.Senders.{AreSenders, IsNew, jobs_of}
use Rattle.worker_races.proofs.Public.{carded-kept, seated-kept}
use Rattle.trace_acts.specs.declared.halt.Halt.TheVariants as halts
use Rattle.trace_acts.specs.Supply.{supply_nth}
use Rattle.lan_schedule.specs.declared.stage.Stage.{Stage}
use Rattle.lan_schedule.specs.Races.{Burst, Excess, Worker, limit_of, worker_at, workers_of}
use Rattle.lan_schedule.specs.World.{World, is_racing, settings}
use Rattle.lan_schedule.specs.Acts.{Act, Stops, begun_race, perform}
use Rattle.lan_schedule.specs.Lines.{unless_exceeded}
use Rattle.lan_schedule.specs.Ends.{IsReached}
use Rattle.lan_schedule.specs.Sound.{IsTidy}
use Rattle.lan_schedule.specs.Stages.{Says, StandsFor}
use Rattle.lan_schedule.specs.inside.Beside.{AreHired, BeginsRace, HasEnlisted, HasMoved, HiredAll}
use Rattle.lan_schedule.specs.inside.Beside.{WasHired}
use Rattle.lan_schedule.specs.Woven.{worker_of}
use Rattle.lan_schedule.specs.inside.Beside.{mark_of}
use Rattle.lan_schedule.specs.inside.Recording.{HasRecorded, StandsSince}
use Rattle.lan_schedule.proofs.Claiming.{claims-tallied}
use Rattle.lan_schedule.proofs.RaceComes.{tidy-begun}
use Rattle.lan_schedule.proofs.Recorded.{same-some}

-- ---- tables

-- the table at a place
pub table-there : (tables : List TableId) (w : WorkerAt) → HasTable tables w
    → slice_get tables w.sender.station ≡ Some w.seat.table
table-there tables w has =
    slice_get_read tables (length tables) w.sender.station w.seat.table refl has.station
    (sym (has.table w.seat.table))

pub has-table : (tables : List TableId) (w : WorkerAt)
    → slice_get tables w.sender.station ≡ Some w.seat.table → HasTable tables w
has-table tables w at = record {
  station = slice_get_within tables w.sender.station w.seat.table at;
  table = λ d. get_or_from_slice_get tables w.sender.station w.seat.table d at;
}

-- a seat is of the table of its station's words
pub seat-table : (s : ℕ) (old new : List ControlAt) (seat : SeatAt) → WasSeated s old new seat
    → slice_get (tables_of old) s ≡ Some seat.table
seat-table s old new seat was =
    slice_get-map (λ (c : ControlAt). c.table) old s
    ∙ ap (λ (o : Option ControlAt). option_map (λ (c : ControlAt). c.table) o) was.there
    ∙ ap (λ (a : SeatAt). Some a.table) (sym was.seat_is)

-- ---- one seat more goes out, or comes back

pub seated-more : (ws : List WorkerAt) (w : WorkerAt) (a b c : List ControlAt) → WereSeated ws a b
    → WasSeated w.sender.station b c w.seat → WereSeated (ws ++ w ∷ []) a c
seated-more [] w a b c were was =
    (c, subst (λ (cs : List ControlAt). WasSeated w.sender.station cs c w.seat) were was, refl)
seated-more (x ∷ ws) w a b c were was = (were.0, were.1, seated-more ws w were.0 b c were.2 was)

pub joined-more : (settings : Settings) (r : Run) (ws : List WorkerAt) (w : WorkerAt)
    (a b c : List ControlAt) → HaveJoined settings r ws a b
    → HasJoined w.sender.station w.seat b c
    → (HaveKeptUp settings r b → HaveKeptUp settings r c)
    → HaveJoined settings r (ws ++ w ∷ []) a c
joined-more settings r [] w a b c have joined keeps = (
  c,
  subst (λ (cs : List ControlAt). HasJoined w.sender.station w.seat cs c) have joined,
  subst (λ (cs : List ControlAt). HaveKeptUp settings r cs → HaveKeptUp settings r c) have keeps,
  refl,
)
joined-more settings r (x ∷ ws) w a b c have joined keeps =
    (have.0, have.1, have.2, joined-more settings r ws w have.0 b c have.3 joined keeps)

-- ---- one worker more

pub moved-then : (a b c : Stage) → HasMoved a b → HasMoved b c → HasMoved a c
moved-then a b c first second = record {
  same = second.same ∙ ap (λ (s : Stage). record s { words = c.words }) first.same;
  tables = second.tables ∙ first.tables;
  keeps_up = λ settings r up. second.keeps_up settings r (first.keeps_up settings r up);
}

pub hired-one : (workers : List Worker) (worker : Worker) (old mid new : Stage)
    (crew : List WorkerAt) (w : WorkerAt) → HiredAll workers old mid crew → HasMoved old mid
    → WasHired worker mid new w → HiredAll (workers ++ worker ∷ []) old new (crew ++ w ∷ [])
hired-one workers worker old mid new crew w all moved was = record {
  are = map-append worker_of crew (w ∷ [])
      ∙ (λ i. all.are i ++ was.is i ∷ []);
  seated = seated-more crew w old.words mid.words new.words all.seated was.seated;
  fresh = All-push IsNew crew w all.fresh was.fresh;
  sendable = All-push (λ (w : WorkerAt). IsUserFrame w.sender.user) crew w all.sendable was.sendable;
  scis = All-push (λ (w : WorkerAt). slice_get (scis_in old.lan) w.sender.station ≡ Some w.sender.sci)
      crew w all.scis
      (ap (λ (s : Stage). slice_get (scis_in s.lan) w.sender.station) (sym moved.same) ∙ was.sci);
}

range-more : (a n m : ℕ) → m ≡ a + n → range_with_len a (suc n) ≡ range_with_len a n ++ m ∷ []
range-more a zero m is = let e : m ≡ a = omega (arith, is) in ap (λ (x : ℕ). x ∷ []) (sym e)
range-more a (suc n) m is =
    ap (λ (ns : List ℕ). a ∷ ns) (range-more (a + 1) n m (omega (arith, is)))

range-next : (j : ℕ) → range_with_len 0 (j + 1) ≡ range_with_len 0 j ++ j ∷ []
range-next j = ap (λ (n : ℕ). range_with_len 0 n) (add-one j) ∙ range-more 0 j j (omega arith)

-- the workers of a burst up to one place more
pub dealt-more : (b : Burst) (workers : List Worker) (j : ℕ)
    → (workers ++ map (worker_at b) (range_with_len 0 j)) ++ worker_at b j ∷ []
    ≡ workers ++ map (worker_at b) (range_with_len 0 (j + 1))
dealt-more b workers j =
    append_assoc workers (map (worker_at b) (range_with_len 0 j)) (worker_at b j ∷ [])
    ∙ ap (λ (ws : List Worker). workers ++ ws)
    (sym (map-append (worker_at b) (range_with_len 0 j) (j ∷ []))
    ∙ ap (λ (ns : List ℕ). map (worker_at b) ns) (sym (range-next j)))

-- the workers of one burst more
pub workers-more : (bursts : List Burst) (i : ℕ) (d : Burst) → i < length bursts
    → workers_of (take (i + 1) bursts)
    ≡ workers_of (take i bursts)
    ++ map (worker_at (get_or bursts i d)) (range_with_len 0 (get_or bursts i d).workers)
workers-more bursts i d less =
    ap workers_of (take_more bursts i d less)
    ∙ flat_map-append (λ (b : Burst). map (worker_at b) (range_with_len 0 b.workers)) (take i bursts)
    (get_or bursts i d ∷ [])
    ∙ ap (λ (ws : List Worker). workers_of (take i bursts) ++ ws)
    (append-nil (map (worker_at (get_or bursts i d)) (range_with_len 0 (get_or bursts i d).workers)))

-- ---- whose frames they send

abbrev user_of : WorkerAt → UserFrame
user_of w = w.sender.user

map-get : {A B : Type 0} (f : A → B) (xs : List A) (i : ℕ) (y : B)
    → slice_get (map f xs) i ≡ Some y → (x : A) × (slice_get xs i ≡ Some x) × (f x ≡ y)
map-get f [] i y at = absurd (cc at)
map-get f (x ∷ xs) zero y at = (x, refl, cc at)
map-get f (x ∷ xs) (suc i) y at = map-get f xs i y at

at-front : (front rest : List UserFrame) (u : UserFrame)
    → slice_get (front ++ u ∷ rest) (length front) ≡ Some u
at-front [] rest u = refl
at-front (x ∷ front) rest u = at-front front rest u

user-numbered : (users : List UserFrame) (n k : ℕ) → n ≡ k + 1 → user_at users n ≡ slice_get users k
user-numbered users n k is =
    let some : (n == 0) ≡ false = grind arith in
    let before : n - 1 ≡ k = omega (arith, is) in
    ap (λ (b : Bool). cond b None (slice_get users (n - 1))) some
    ∙ ap (λ (m : ℕ). slice_get users m) before

are-senders : (users front : List UserFrame) (r : Run) (scis : List Sci) (number : ℕ)
    (crew : List WorkerAt) → users ≡ front ++ map user_of crew → number ≡ length front + 1
    → scis ≡ map (λ (p : Profile). p.sci) (stations r)
    → AllByRecursion (λ (w : WorkerAt). IsUserFrame w.sender.user) crew
    → AllByRecursion (λ (w : WorkerAt). slice_get scis w.sender.station ≡ Some w.sender.sci) crew
    → AreSenders users r number crew
are-senders users front r scis number [] is at of_them fit have = tt
are-senders users front r scis number (w ∷ ws) is at of_them fit have =
    let p = map-get (λ (p : Profile). p.sci) (stations r) w.sender.station w.sender.sci
    (ap (λ (xs : List Sci). slice_get xs w.sender.station) (sym of_them) ∙ have.0) in
    let longer : length (front ++ user_of w ∷ []) ≡ length front + 1 =
    length-append front (user_of w ∷ []) in (
      record {
        profile = p.0;
        placed = p.1;
        sci = p.2;
        user = user-numbered users number (length front) at
            ∙ ap (λ (us : List UserFrame). slice_get us (length front)) is
            ∙ at-front front (map user_of ws) (user_of w);
        sendable = fit.0;
      },
      are-senders users (front ++ user_of w ∷ []) r scis (suc number) ws
          (is ∙ sym (append_assoc front (user_of w ∷ []) (map user_of ws)))
          (omega (arith, at, longer)) of_them fit.1 have.1,
    )

users-are : (crew : List WorkerAt) (workers : List Worker) → map worker_of crew ≡ workers
    → map (λ (worker : Worker). worker.user) workers ≡ map user_of crew
users-are crew workers are =
    ap (λ (ws : List Worker). map (λ (worker : Worker). worker.user) ws) (sym are) ∙ each crew
  where
    each : (crew : List WorkerAt)
        → map (λ (worker : Worker). worker.user) (map worker_of crew) ≡ map user_of crew
    each [] = refl
    each (w ∷ ws) = ap (λ (us : List UserFrame). user_of w ∷ us) (each ws)

-- ---- the race begins

-- words that say what they say of a run keep up with it
pub kept-up : (raced racing : Bool) (settings : Settings) (r : Run) (cs : List ControlAt)
    → (AreTied settings r cs → HaveKeptUp settings r cs)
    → (HaveCaughtUp settings r cs → HaveKeptUp settings r cs) → Says raced racing settings r cs
    → HaveKeptUp settings r cs
kept-up false racing settings r cs tell caught says = tell says
kept-up true false settings r cs tell caught says = caught says
kept-up true true settings r cs tell caught says = says

module _ (w : World) (workers : List Worker) (old mid new : Stage) (crew : List WorkerAt)
    (stands : StandsFor w old) (all : HiredAll workers old mid crew) (moved : HasMoved old mid)
    (begins : BeginsRace crew mid new true) (up : HaveKeptUp (settings w) w.run old.words) where
  abbrev begun : World
  begun = begun_race workers w

  same-words : new.words ≡ mid.words
  same-words = ap (λ (s : Stage). s.words) begins.2

  many : length workers ≡ length crew
  many = ap length (sym all.are) ∙ length-map crew worker_of

  users-longer : length begun.kept.users ≡ length w.kept.users + length crew
  users-longer =
      length-append w.kept.users (map (λ (worker : Worker). worker.user) workers)
      ∙ ap (λ (n : ℕ). length w.kept.users + n)
      (length-map workers (λ (worker : Worker). worker.user) ∙ many)

  begun-stands : StandsFor begun new
  begun-stands = record {
    begun = stands.begun;
    raced = ap (λ (s : Stage). s.raced) begins.2;
    keyed = stands.keyed;
    line = ap (λ (s : Stage). s.line) begins.2 ∙ ap (λ (s : Stage). s.line) moved.same ∙ stands.line;
    lag = ap (λ (s : Stage). s.lag) begins.2 ∙ ap (λ (s : Stage). s.lag) moved.same ∙ stands.lag;
    lan = subst (λ l. GroupStandsFor (settings w) begun.kept.users l w.run)
        (sym (ap (λ (s : Stage). s.lan) begins.2 ∙ ap (λ (s : Stage). s.lan) moved.same))
        (stands-more (settings w) w.kept.users (map (λ (worker : Worker). worker.user) workers)
        old.lan w.run stands.lan);
    draws = λ k. ap (λ (s : Stage). supply_nth s.draws k) begins.2
        ∙ ap (λ (s : Stage). supply_nth s.draws k) moved.same ∙ stands.draws k;
    users = ap (λ (s : Stage). s.users) begins.2
        ∙ ap (λ (s : Stage). s.users + length crew) moved.same
        ∙ ap (λ (n : ℕ). n + length crew) stands.users ∙ sym users-longer;
    flow = ap (λ (s : Stage). s.frames) begins.2 ∙ ap (λ (s : Stage). s.frames) moved.same
        ∙ stands.flow;
    cuts = ap (λ (s : Stage). s.cuts) begins.2 ∙ ap (λ (s : Stage). s.cuts) moved.same ∙ stands.cuts;
    words = subst (λ (cs : List ControlAt). HaveKeptUp (settings w) w.run cs) (sym same-words)
        (moved.keeps_up (settings w) w.run up);
    cards = subst (λ (cs : List ControlAt). AreCarded (settings w) w.run cs) (sym same-words)
        (carded-kept (settings w) w.run old.words mid.words
        (seated-kept crew old.words mid.words all.seated) stands.cards);
    tally = ap (λ (s : Stage). s.tally) begins.2 ∙ ap (λ (s : Stage). s.tally) moved.same
        ∙ stands.tally;
    steps = sym (same-some (λ steps. steps.items) new.steps)
        ∙ ap (λ (o : Option (List Step)). is_some o) begins.3;
  }

  begun-since : StandsSince (mark_of w new) begun new
  begun-since = record {
    stands = begun-stands;
    recorded = subst (λ (o : Option (List Step)). HasRecorded (mark_of w new) begun new.words o)
        (sym begins.3)
        (refl, record { performed = []; run = refl; are = tt; gone = refl });
  }

  begun-senders : AreSenders begun.kept.users w.run (length w.kept.users + 1) crew
  begun-senders =
      are-senders begun.kept.users w.kept.users w.run (scis_in old.lan) (length w.kept.users + 1) crew
      (ap (λ (us : List UserFrame). w.kept.users ++ us) (users-are crew workers all.are)) refl
      (same-scis (settings w) w.kept.users old.lan w.run stands.lan)
      (recursion_from_All (λ (w : WorkerAt). IsUserFrame w.sender.user) crew all.sendable)
      (recursion_from_All
      (λ (w : WorkerAt). slice_get (scis_in old.lan) w.sender.station ≡ Some w.sender.sci) crew all.scis)

  claims-low : length (claims w.run) + jobs_of crew + 16 < 2 ^ 32
  claims-low =
      let tally : mid.tally.claims ≡ (counts (facts_of w.run)).claims =
      ap (λ (s : Stage). s.tally.claims) moved.same
      ∙ ap (λ (t : Tallied). t.claims) stands.tally in
      let few = begins.1 in
      let all = claims-tallied w.run (omega (arith, tally, few)) in
      omega (arith, tally, few, all)

  pub are-hired : IsTidy w → AreHired w workers old new crew
  are-hired tidy = record {
    are = all.are;
    seated = subst (λ (cs : List ControlAt). WereSeated crew old.words cs) (sym same-words) all.seated;
    senders = begun-senders;
    fresh = all.fresh;
    stands = begun-since;
    tidy = tidy-begun workers w tidy;
    users_few = (let few = begins.0 in
        let had : mid.users ≡ length w.kept.users =
        ap (λ (s : Stage). s.users) moved.same ∙ stands.users in
        let longer = users-longer in omega (arith, few, had, longer));
    claims_few = claims-low;
  }

-- words and tally are as they were, whether the race began or not
pub begins-same : (crew : List WorkerAt) (mid new : Stage) (b : Bool) → BeginsRace crew mid new b
    → (new.words ≡ mid.words) × (new.tally ≡ mid.tally)
begins-same crew mid new true is =
    (ap (λ (s : Stage). s.words) is.2, ap (λ (s : Stage). s.tally) is.2)
begins-same crew mid new false is =
    (ap (λ (s : Stage). s.words) is.0, ap (λ (s : Stage). s.tally) is.0)

-- those that were enlisted are hired, in each world for which the group stands
pub enlisted : (w : World) (workers : List Worker) (old new : Stage) (crew : List WorkerAt)
    → ((settings : Settings) (r : Run) (cs : List ControlAt) → AreTied settings r cs
    → HaveKeptUp settings r cs)
    → ((settings : Settings) (r : Run) (cs : List ControlAt) → HaveCaughtUp settings r cs
    → HaveKeptUp settings r cs × AreAllIn cs × AreToldAll r cs) → IsReached StandsFor w old
    → HasEnlisted workers old new crew → AreHired w workers old new crew
enlisted w workers old new crew tell caught reached has =
    are-hired w workers old has.mid new crew reached.stands has.hired has.moved has.begins
    (kept-up w.kept.raced (is_racing w.kept.phase) (settings w) w.run old.words
    (tell (settings w) w.run old.words)
    (λ were. (caught (settings w) w.run old.words were).0) reached.stands.words)
    reached.tidy

-- ---- why nobody is hired

-- bursts ask for more than a limit leaves
pub exceeds : (o : Option Excess) (which : Which) (act : Act) (w : World)
    → Some which ≡ option_map limit_of o
    → perform (unless_exceeded o act) w ≡ Stops w (halts.Limit which)
exceeds None which act w is = absurd (cc is)
exceeds (Some excess) which act w is =
    let same : which ≡ limit_of excess = cc is in
    ap (λ (x : Which). Stops w (halts.Limit x)) (sym same)

pub exceeds-none : (found : Option Which) (o : Option Excess) → ((x : Which) → found ≡ Some x → ⊥)
    → found ≡ option_map limit_of o → o ≡ None
exceeds-none None None other is = refl
exceeds-none None (Some excess) other is = absurd (cc is)
exceeds-none (Some which) o other is = absurd (other which refl)
