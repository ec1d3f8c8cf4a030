-- Acts that look at the world, begun from the group at work.
use Rattle.std.proofs.Common.{◌≡◌, ℕ, ◌-◌, ◌≤◌, Bool, true, false, ◌==◌, List, length, subst}
use Rattle.std.proofs.Common.{refl, sym, ap, ◌∙◌, arith}
use Rattle.std.specs.Prelude.{Result, Ok, ◌||◌, is_some, option_map}
use Rattle.std.proofs.lemmas.List.{length-map}
use Rattle.lan_core.specs.Run.{Profile, stations}
use Rattle.lan_core.specs.declared.event.Event.TheVariants as events
use Rattle.worker_races.specs.Carded.{AreCarded}
use Rattle.trace_acts.specs.declared.halt.Halt.{Halt}
use Rattle.trace_acts.specs.declared.links.Link.{Link}
use Rattle.lan_base.specs.declared.sink.Unwritten.{Unwritten}
use Rattle.trace_acts.specs.Links.{is_cut}
use Rattle.trace_acts.specs.Supply.{supply_nth}
use Rattle.lan_schedule.specs.declared.frames.Put.{Put}
use Rattle.lan_schedule.specs.declared.stage.Stage.{Stage}
use Rattle.lan_schedule.specs.World.{World, Kept, count, settings, sender_at, mark, marked_at}
use Rattle.lan_schedule.specs.World.{is_racing}
use Rattle.lan_schedule.specs.Acts.{Act, nothing, happen, look, seq, change, span, each, unless}
use Rattle.lan_schedule.specs.Lines.{pass, is_passed_by, to_others, spread, due, due_of}
use Rattle.lan_schedule.specs.Lines.{begin_round, round_after}
use Rattle.lan_core.specs.Standing.{StandsFor as GroupStandsFor}
use Rattle.lan_schedule.specs.inside.Staged.{Did, Changed}
use Rattle.lan_schedule.specs.Sound.{IsTidy}
use Rattle.lan_schedule.specs.Reports.{Report}
use Rattle.lan_schedule.specs.Ends.{Moment}
use Rattle.lan_schedule.specs.World.{Flow}
use Rattle.lan_schedule.specs.Stages.{Says, StandsFor}
use Rattle.lan_schedule.proofs.Doing.{Leads, look-leads, change-does, nothing-does}

-- how many stations there are
pub stations-count : (w : World) (stage : Stage) → StandsFor w stage
    → length stage.lan.names ≡ count w
stations-count w stage stands =
    ap (λ (l : List (List ℕ)). length l) stands.lan.names
    ∙ length-map (stations w.run) (λ (p : Profile). p.name)

pub stations-few : (w : World) (stage : Stage) → StandsFor w stage → IsTidy w
    → length stage.lan.names ≤ 16
stations-few w stage stands tidy =
    let e = stations-count w stage stands in
    let few : count w ≤ 16 = tidy.within.stations in
    omega arith

-- all but the flow of frames is as before
pub record Flows (old new : Stage) : Type 0 where
  pub line : new.line ≡ old.line
  pub lag : new.lag ≡ old.lag
  pub lan : new.lan ≡ old.lan
  pub draws : new.draws ≡ old.draws
  pub users : new.users ≡ old.users
  pub cuts : new.cuts ≡ old.cuts
  pub words : new.words ≡ old.words
  pub tally : new.tally ≡ old.tally
  pub raced : new.raced ≡ old.raced
  pub steps : new.steps ≡ old.steps

-- the frames and the count of rounds change
flowing : (frames : Kept → List Put) (rounds : Kept → ℕ) (old new : Stage) → Flows old new
    → ((w : World) → StandsFor w old
    → new.frames ≡ record { frames = frames w.kept; rounds = rounds w.kept })
    → Changed (λ kept. record kept { frames = frames kept; rounds = rounds kept }) old new
flowing frames rounds old new same flow = record {
  stands = λ w stands. record {
    begun = stands.begun;
    raced = same.raced ∙ stands.raced;
    keyed = stands.keyed;
    line = same.line ∙ stands.line;
    lag = same.lag ∙ stands.lag;
    lan = subst (λ lan. GroupStandsFor (settings w) w.kept.users lan w.run) (sym same.lan)
        stands.lan;
    draws = λ k. ap (λ draws. supply_nth draws k) same.draws ∙ stands.draws k;
    users = same.users ∙ stands.users;
    flow = flow w stands;
    cuts = same.cuts ∙ stands.cuts;
    words = subst (λ words. Says w.kept.raced (is_racing w.kept.phase) (settings w) w.run words)
        (sym same.words) stands.words;
    cards = subst (λ words. AreCarded (settings w) w.run words) (sym same.words) stands.cards;
    tally = same.tally ∙ stands.tally;
    steps = ap (λ steps. is_some steps) same.steps ∙ stands.steps;
  };
  same = λ w. (refl, refl, refl);
  words = same.words;
  steps = ap (λ o. option_map (λ steps. steps.items) o) same.steps;
}

pub marked : (number : ℕ) (old new : Stage) → Flows old new
    → new.frames ≡ record {
      frames = marked_at (number - 1) old.frames.frames;
      rounds = old.frames.rounds;
    }
    → Changed (mark number) old new
marked number old new same flow =
    flowing (λ kept. marked_at (number - 1) kept.frames) (λ kept. kept.rounds) old new same
    (λ w stands. flow ∙ ap (λ (f : Flow).
    record { frames = marked_at (number - 1) f.frames; rounds = f.rounds }) stands.flow)

pub round-begun : (old new : Stage) → Flows old new
    → new.frames ≡ record { frames = old.frames.frames; rounds = round_after old.frames.rounds }
    → Changed (λ kept. record kept { rounds = round_after kept.rounds }) old new
round-begun old new same flow =
    flowing (λ kept. kept.frames) (λ kept. round_after kept.rounds) old new same
    (λ w stands. flow ∙ ap (λ (f : Flow). record { frames = f.frames; rounds = round_after f.rounds })
    stands.flow)

module _ {K : Type 0} {Took : K → Report → K → Type 0} {Broke : K → Report → K → Unwritten → Type 0}
  where
    -- one for each station
    pub stations-leads : (f : ℕ → Act) (n : ℕ) (now : Moment Stage K)
        → (length now.value.lan.names ≤ 255 → n ≡ length now.value.lan.names)
        → Leads Took Broke (look (λ w. span f 0 (count w))) now (span f 0 (n - 0)) now
    stations-leads f n now is = look-leads (λ w. span f 0 (count w)) _ now (λ w stands tidy.
        let few = stations-few w now.value stands tidy in
        let e : n ≡ length now.value.lan.names = is (omega arith) in
        let zero_off : n - 0 ≡ n = omega arith in
        ap (λ (k : ℕ). span f 0 k) (zero_off ∙ e ∙ stations-count w now.value stands))

    pub spread-leads : (number from : ℕ) (now : Moment Stage K)
        → from ≡ sender_at (number - 1) now.value.frames.frames
        → Leads Took Broke (spread number) now (seq (to_others number from) (change (mark number))) now
    spread-leads number from now is = look-leads _ _ now (λ w stands tidy.
        ap (λ (i : ℕ). seq (to_others number i) (change (mark number)))
        (is ∙ ap (λ (f : Flow). sender_at (number - 1) f.frames) stands.flow))

    pub due-leads : (frames : List ℕ) (now : Moment Stage K)
        → frames ≡ due_of now.value.lag now.value.frames.rounds now.value.frames.frames
        → Leads Took Broke (look (λ w. each spread (due w))) now (each spread frames) now
    due-leads frames now is = look-leads (λ w. each spread (due w)) (each spread frames) now
        (λ w stands tidy.
        ap (λ (l : List ℕ). each spread l)
        (is ∙ ap (λ (f : Flow). due_of now.value.lag f.rounds f.frames) stands.flow
        ∙ ap (λ (lag : ℕ). due_of lag w.kept.rounds w.kept.frames) stands.lag))

    pub mark-does : (number : ℕ) (old new : Moment Stage K)
        → Changed (mark number) old.value new.value → new.outlet ≡ old.outlet
        → Did Took Broke (change (mark number)) old new (Ok tt)
    mark-does number old new changed same =
        change-does (mark number) old new (λ kept. (refl, refl)) changed same

    pub begin-does : (old new : Moment Stage K)
        → Changed (λ kept. record kept { rounds = round_after kept.rounds }) old.value new.value
        → new.outlet ≡ old.outlet → Did Took Broke begin_round old new (Ok tt)
    begin-does old new changed same =
        change-does (λ kept. record kept { rounds = round_after kept.rounds }) old new (λ kept. (refl, refl))
        changed same

    -- an act that is not skipped
    pub unless-does : (b : Bool) (act : Act) (old new : Moment Stage K) (r : Result (Unit {0}) Halt)
        → b ≡ false → Did Took Broke act old new r → Did Took Broke (unless b act) old new r
    unless-does b act old new r e d =
        subst (λ (t : Bool). Did Took Broke (unless t act) old new r) (sym e) d

    -- an act that is skipped
    pub unless-skips : (b : Bool) (act : Act) (now : Moment Stage K) → b ≡ true
        → Did Took Broke (unless b act) now now (Ok tt)
    unless-skips b act now e =
        subst (λ (t : Bool). Did Took Broke (unless t act) now now (Ok tt)) (sym e) (nothing-does now)

    pub pass-leads : (number from s : ℕ) (now : Moment Stage K) → (s == from) ≡ false
        → is_cut from s now.value.cuts ≡ false
        → Leads Took Broke (pass number from s) now (happen (events.Deliver number s)) now
    pass-leads number from s now other whole = look-leads _ _ now (λ w stands tidy.
        let e : is_passed_by w from s ≡ false =
        ap (λ (b : Bool). b || is_cut from s w.kept.cuts) other
        ∙ ap (λ (cuts : List Link). is_cut from s cuts) (sym stands.cuts) ∙ whole in
        ap (λ (b : Bool). unless b (happen (events.Deliver number s))) (sym e))

    pub passed-leads : (number from s : ℕ) (now : Moment Stage K)
        → ((s == from) || is_cut from s now.value.cuts) ≡ true
        → Leads Took Broke (pass number from s) now nothing now
    passed-leads number from s now passed = look-leads _ _ now (λ w stands tidy.
        let e : is_passed_by w from s ≡ true =
        ap (λ (cuts : List Link). (s == from) || is_cut from s cuts) (sym stands.cuts) ∙ passed in
        ap (λ (b : Bool). unless b (happen (events.Deliver number s))) (sym e))
