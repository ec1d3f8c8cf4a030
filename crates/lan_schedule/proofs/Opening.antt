-- A group opens with the first station.
use Rattle.std.proofs.Common.{◌≡◌, ℕ, ◌+◌, true, false, List, [], Option, Some, None, inl, inr}
use Rattle.std.proofs.Common.{refl, sym, ap, ◌∙◌, subst, arith}
use Rattle.std.specs.Prelude.{◌⊎◌, Result, Ok, Err, is_some, length, unwrap_or}
use Rattle.std.specs.Result.{IsErrAnd}
use Rattle.lan_base.specs.Ranges.{IsCkn}
use Rattle.mka_kdf.specs.Kdf.{HasWrongLength}
use Rattle.trace_acts.specs.declared.choices.Keyed.{Keyed}
use Rattle.lan_base.specs.declared.frame.UserFrame.{UserFrame}
use Rattle.association_slots.specs.Views.{ControlAt}
use Rattle.lan_core.specs.Run.{stations}
use Rattle.lan_core.specs.Ledgers.{air}
use Rattle.lan_core.specs.Standing.{StandsFor as GroupStandsFor}
use Rattle.fact_tally.specs.Summary.{counts}
use Rattle.station_words.specs.Ties.{AreTied}
use Rattle.trace_text.specs.declared.line.Line.{Line}
use Rattle.trace_text.specs.declared.line.Line.TheVariants as lines
use Rattle.trace_text.specs.Writing.{IsInForm}
use Rattle.trace_acts.specs.declared.choices.Choices.{Choices}
use Rattle.trace_acts.specs.declared.halt.Halt.{Halt}
use Rattle.trace_acts.specs.declared.halt.Halt.TheVariants as halts
use Rattle.trace_acts.specs.declared.halt.Kind.{Kind}
use Rattle.lan_base.specs.declared.sink.Unwritten.{Unwritten}
use Rattle.trace_acts.specs.Supply.{draw_at, supply_nth}
use Rattle.trace_acts.specs.Settings.{settings_of, lag_of, rule_of, unkeyed}
use Rattle.trace_acts.specs.Kinds.{first_of, is_allowed}
use Rattle.trace_acts.specs.Choosing.{chosen_by}
use Rattle.trace_acts.specs.Places.{is_race, IsStation}
use Rattle.trace_acts.proofs.Public.{chosen-draws}
use Rattle.lan_schedule.specs.declared.stage.Stage.{Stage}
use Rattle.lan_schedule.specs.declared.commands.Replay.{Replay}
use Rattle.lan_schedule.specs.Races.{Phase, Apart, Chance, behind_numbers}
use Rattle.lan_schedule.specs.World.{World, Kept, nothing_kept, is_racing}
use Rattle.lan_schedule.specs.Acts.{Act, BeginsAt, IsOnWay, look, perform, Stops}
use Rattle.lan_schedule.specs.Deeds.{deed_in}
use Rattle.lan_schedule.specs.Kinds.{wrong_word, refusal}
use Rattle.lan_schedule.specs.Lines.{choose, deed, deed_at, act_of, unless_refused}
use Rattle.lan_schedule.specs.Sound.{IsTidy}
use Rattle.lan_schedule.specs.Reports.{Report}
use Rattle.lan_schedule.specs.Ends.{Moment, moment}
use Rattle.lan_schedule.specs.Standing.{Counts, IsNamed, IsStaged, StandsFor, Does}
use Rattle.lan_schedule.specs.Stages.{StandsFor as StageStandsFor}
use Rattle.lan_schedule.specs.inside.Staged.{Did, IsOpening}
use Rattle.lan_schedule.proofs.LinesCome.{IsRight, tidy-same, tidy-unbegun}
use Rattle.lan_schedule.proofs.Doing.{told-none}
use Rattle.lan_schedule.proofs.OnWay.{IsAs, as-self}
use Rattle.lan_schedule.proofs.EachDeed.{deed-comes, still-deed}
use Rattle.lan_schedule.proofs.Replaying.{memory-any, never-does, same-act, stands-counts}
use Rattle.lan_schedule.proofs.Replaying.{unbegun-does, opened-does}

-- what is kept when the group opens
abbrev pub opened : List Chance → Choices → ℕ → Kept
opened chances chosen line =
    record (nothing_kept chances) { line = line; chosen = chosen; begun = true }

opens-there : (chances : List Chance) (chosen : Choices) (line : ℕ) (stage : Stage) → is_some chosen.group ≡ true
    → stage.line ≡ line → stage.lag ≡ lag_of chosen
    → ((users : List UserFrame) → GroupStandsFor (settings_of chosen) users stage.lan [])
    → ((k : ℕ) → supply_nth stage.draws k ≡ draw_at (rule_of chosen) k)
    → stage.users ≡ 0
    → stage.frames ≡ record { frames = []; rounds = 0 } → stage.cuts ≡ [] → stage.words ≡ []
    → stage.tally ≡ counts [] → stage.raced ≡ false → is_some stage.steps ≡ false
    → StageStandsFor (record { run = []; kept = opened chances chosen line }) stage
unfolding stations air
opens-there chances chosen line stage keyed is_line lag lan draws users frames cuts
    words tally fresh none = record {
      begun = refl;
      raced = fresh;
      keyed = keyed;
      line = is_line;
      lag = lag;
      lan = lan [];
      draws = λ k. draws k ∙ ap (λ n. draw_at (rule_of chosen) n)
          (let e : k ≡ 0 + k = omega arith in e);
      users = users;
      flow = frames;
      cuts = cuts;
      words = subst (λ (cs : List ControlAt). AreTied (settings_of chosen) [] cs) (sym words)
          (record { many = refl; each = λ s control is. absurd (cc is) });
      cards = λ s control is k has. absurd has;
      tally = tally;
      steps = none;
    }

pub opens : (w : World) (chosen : Choices) (line : ℕ) (stage : Stage) → is_some chosen.group ≡ true
    → IsOpening w chosen line → stage.line ≡ line → stage.lag ≡ lag_of chosen
    → ((users : List UserFrame) → GroupStandsFor (settings_of chosen) users stage.lan [])
    → ((k : ℕ) → supply_nth stage.draws k ≡ draw_at (rule_of chosen) k)
    → stage.users ≡ 0
    → stage.frames ≡ record { frames = []; rounds = 0 } → stage.cuts ≡ [] → stage.words ≡ []
    → stage.tally ≡ counts [] → stage.raced ≡ false → is_some stage.steps ≡ false
    → StageStandsFor w stage
opens w chosen line stage keyed opening is_line lag lan draws users frames cuts words
    tally fresh none =
    let same : w ≡ record { run = []; kept = opened w.kept.chances chosen line } =
    λ i. record { run = opening.empty i; kept = opening.kept i } in
    subst (λ (v : World). StageStandsFor v stage) (sym same)
    (opens-there w.kept.chances chosen line stage keyed is_line lag lan draws users frames cuts
    words tally fresh none)

-- ---- lines before the first station

pub station-no-race : (line : Line) → IsStation line → is_race line ≡ false
station-no-race lines.Race station = absurd station
station-no-race _ station = refl

-- the first reason before any station
pub unbegun-reason : (line : Line) (chosen : Choices)
    → first_of (is_allowed line false chosen) (wrong_word (deed_in line []) [] [] 0)
    ≡ first_of (is_allowed line false chosen) None
unbegun-reason lines.Race chosen = refl
unbegun-reason _ chosen = refl

-- the world of a replay before the first station
abbrev pub waiting : List Chance → Replay → World
waiting chances replay = record {
  run = [];
  kept =
      record (nothing_kept chances) { line = replay.line; chosen = replay.chosen };
}

pub is-waiting : (w : World) (replay : Replay) → StandsFor w replay → replay.stage ≡ None
    → w ≡ waiting w.kept.chances replay
is-waiting w replay stands unbegun =
    let before = subst (λ (o : Option Stage). IsStaged w replay o) unbegun stands.stage in
    λ i. record { run = before.0 i; kept = before.1 i }

pub refusal-waiting : (chances : List Chance) (line : Line) (replay : Replay)
    → refusal line (waiting chances replay)
    ≡ first_of (is_allowed line false replay.chosen) None
unfolding stations
refusal-waiting chances line replay = unbegun-reason line replay.chosen

-- what an allowed line chooses
pub chosen-deed : (line : Line) (chosen : Choices) → is_allowed line false chosen ≡ true
    → ((x : _) (x' : _) (x'' : _) → line ≡ lines.Station x x' x'' → ⊥) → (w : World)
    → deed line w ≡ choose (chosen_by line)
chosen-deed (lines.Station name sci priority) chosen allowed other w =
    absurd (other name sci priority refl)
chosen-deed _ chosen allowed other w = cc allowed

-- a line leaves the name of a group what it may be
named-stays : (line : Line) → IsInForm line → (chosen : Choices) → IsNamed chosen.group
    → IsNamed (chosen_by line chosen).group
named-stays (lines.Group cak ckn) form chosen named = (form.fits.1.0.0, form.fits.1.0.1)
named-stays _ form chosen named = named

-- so it has no wrong length
never-long : (ckn : List ℕ) → IsCkn ckn → HasWrongLength ckn → ⊥
never-long ckn is (inl none) =
    let some = is.0 in let empty : length ckn ≡ 0 = ap length none in omega (arith, some, empty)
never-long ckn is (inr long) = let most = is.1 in omega (arith, most, long)

never-wrong : (chosen : Choices) (o : Option Keyed) → chosen.group ≡ o → is_some o ≡ true → IsNamed o
    → HasWrongLength (settings_of chosen).ckn → ⊥
never-wrong chosen None is keyed named wrong = cc keyed
never-wrong chosen (Some group) is keyed named wrong =
    never-long group.ckn named
    (subst (λ (o : Option Keyed). HasWrongLength (unwrap_or o unkeyed).ckn) is wrong)

-- ---- the first station

station-right : (line : Line) (v : World) → IsStation line → v.run ≡ []
    → is_some v.kept.chosen.group ≡ true → IsRight line v
unfolding stations
station-right (lines.Station name sci priority) v station empty keyed =
    record { allowed = keyed; words = rw empty refl }
station-right _ v station empty keyed = absurd station

begun-same : (line : Line) (w : World) → IsStation line
    → let v = record w { kept = record w.kept { begun = true } } in
    IsAs (deed line w) w (deed line v) v
begun-same (lines.Station name sci priority) w station = (refl, way, begins) where
  v : World
  v = record w { kept = record w.kept { begun = true } }

  way : (u : World) → IsOnWay (deed (lines.Station name sci priority) v) v u
      → IsOnWay (deed (lines.Station name sci priority) w) w u
  way u (inl (inl is)) = inl (inr is)
  way u (inl (inr is)) = inl (inr is)
  way u (inr on) = inr on

  begins : (u : World) → BeginsAt (deed (lines.Station name sci priority) v) v u
      → BeginsAt (deed (lines.Station name sci priority) w) w u
  begins u (inl is) = inr (v, refl, is)
  begins u (inr begun) = inr begun
begun-same _ w station = absurd station

module _ {K : Type 0} {Took : K → Report → K → Type 0} {Broke : K → Report → K → Unwritten → Type 0}
  where
    pub unbegun-refused : (line : Line) (kind : Kind) (now : Moment Replay K)
        → now.value.stage ≡ None
        → first_of (is_allowed line false now.value.chosen) None ≡ Some kind
        → Does Took Broke (act_of line) now now (Err (halts.Trace now.value.line kind))
    unbegun-refused line kind now unbegun first = record {
      chances = [];
      ends = λ w later left reached.
          let same = is-waiting w now.value reached.stands unbegun in
          let refused : refusal line w ≡ Some kind = ap (λ (v : World). refusal line v) same
          ∙ refusal-waiting w.kept.chances line now.value ∙ first in
          let out : perform (act_of line) w ≡ Stops w (halts.Trace now.value.line kind) =
          ap (λ (o : Option Kind). perform (unless_refused o (deed_at line w w.kept.phase)) w) refused
          ∙ ap (λ (n : ℕ). Stops w (halts.Trace n kind)) (ap (λ (v : World). v.kept.line) same) in
          inl (record {
            world = w;
            stops = out;
            tidy = reached.tidy;
            leaves = stands-counts w now.value reached.stands;
            told = told-none w w now.outlet now.outlet refl refl;
            left = ap (λ (c : List Chance). behind_numbers c) left;
            same = refl;
          });
    }

    -- a line that isn't refused does what it performs
    pub unbegun-performed : (line : Line) (old new : Moment Replay K) (r : Result (Unit {0}) Halt)
        → old.value.stage ≡ None
        → first_of (is_allowed line false old.value.chosen) None ≡ None
        → Does Took Broke (look (λ w. deed line w)) old new r → Does Took Broke (act_of line) old new r
    unbegun-performed line old new r unbegun first d =
        same-act (act_of line) (look (λ w. deed line w)) old new r (λ w stands.
        let same = is-waiting w old.value stands unbegun in
        let none : refusal line w ≡ None = ap (λ (v : World). refusal line v) same
        ∙ refusal-waiting w.kept.chances line old.value ∙ first in
        let apart : w.kept.phase ≡ Apart = ap (λ (v : World). v.kept.phase) same in
        subst (λ (o : Option Kind).
        IsAs (unless_refused o (deed_at line w w.kept.phase)) w (deed line w) w) (sym none)
        (subst (λ (p : Phase). IsAs (deed_at line w p) w (deed line w) w) (sym apart)
        (as-self (deed line w) w))) d

    pub chosen-does : (line : Line) → IsInForm line → (old new : Moment Replay K)
        → old.value.stage ≡ None → new.value.stage ≡ None → new.value.halted ≡ old.value.halted
        → new.value.line ≡ old.value.line → new.value.nothing ≡ old.value.nothing
        → new.value.chosen ≡ chosen_by line old.value.chosen → new.outlet ≡ old.outlet
        → new.value.phase ≡ old.value.phase → ((w : World) → deed line w ≡ choose (chosen_by line))
        → Does Took Broke (look (λ w. deed line w)) old new (Ok tt)
    chosen-does line form old new unbegun still halted is_line nothing is_chosen outlet phase is =
        same-act (look (λ w. deed line w)) (choose (chosen_by line)) old new (Ok tt)
        (λ w stands. subst (λ (act : Act). IsAs act w (choose (chosen_by line)) w) (sym (is w))
        (as-self (choose (chosen_by line)) w))
        (unbegun-does (λ kept. record kept { chosen = chosen_by line kept.chosen }) old new unbegun
        still halted nothing phase (λ kept. (refl, refl))
        (λ w tidy empty. tidy-unbegun w _ tidy empty refl refl refl
        (chosen-draws line form w.kept.chosen tidy.draws))
        (λ chances i. record (nothing_kept chances) { line = sym is_line i; chosen = sym is_chosen i })
        (λ named. subst (λ (c : Choices). IsNamed c.group) (sym is_chosen)
        (named-stays line form old.value.chosen named)) outlet)

    -- the group doesn't open: there is no memory, since its name is what it may be
    pub unopened-does : (act : Act) (old new : Moment Replay K) (r : Result (Unit {0}) Halt) (e : Halt)
        → old.value.stage ≡ None → is_some old.value.chosen.group ≡ true
        → ((w : World) → StandsFor w old.value → Counts w new.value) → new.outlet ≡ old.outlet
        → (e ≡ halts.Memory) ⊎ HasWrongLength (settings_of old.value.chosen).ckn
        → IsErrAnd r (λ y. y ≡ e) → Does Took Broke act old new r
    unopened-does act old new r e unbegun keyed counted same (inl memory) is =
        memory-any act old new r counted same memory is
    unopened-does act old new r e unbegun keyed counted same (inr wrong) is =
        never-does act old new r (λ w stands.
        let before = subst (λ (o : Option Stage). IsStaged w old.value o) unbegun stands.stage in
        never-wrong old.value.chosen old.value.chosen.group refl keyed before.3 wrong)

    -- the first station starts
    pub opening-does : (line : Line) → IsInForm line → (old new : Moment Replay K)
        (stage later : Stage) (r : Result (Unit {0}) Halt) → IsStation line → old.value.stage ≡ None
        → is_some old.value.chosen.group ≡ true
        → ((v : World) → IsTidy v → is_some old.value.chosen.group ≡ true
        → IsOpening v old.value.chosen old.value.line → StageStandsFor v stage)
        → Did Took Broke (look (λ w. deed line w)) (moment stage old.outlet) (moment later new.outlet)
        r
        → new.value.stage ≡ Some later → new.value.halted ≡ old.value.halted
        → new.value.phase ≡ old.value.phase
        → Does Took Broke (look (λ w. deed line w)) old new r
    opening-does line form old new stage later r station unbegun keyed stands d is halted phase =
        opened-does (look (λ w. deed line w))
        (λ w. record w { kept = record w.kept { begun = true } }) old new stage later r
        (λ w. refl) (λ w. refl) (λ w. refl)
        (λ w. still-deed line w (station-no-race line station))
        (λ w replay tidy.
        let same = is-waiting w old.value replay unbegun in
        let v : World = record w { kept = record w.kept { begun = true } } in
        let tidy_v = tidy-same w (record w.kept { begun = true }) tidy refl refl refl refl refl
        (λ e. absurd (let bad : true ≡ false = e in cc)) (λ e. e) in
        let opening : IsOpening v old.value.chosen old.value.line = record {
          empty = ap (λ (u : World). u.run) same;
          kept = ap (λ (u : World). record u.kept { begun = true }) same;
        } in
        let there : is_some v.kept.chosen.group
        ≡ true = ap (λ (u : World). is_some u.kept.chosen.group) same ∙ keyed in (
          stands v tidy_v keyed opening,
          tidy_v,
          deed-comes line form v tidy_v (ap (λ (u : World). is_racing u.kept.phase) same)
              (station-right line v station (ap (λ (u : World). u.run) same) there),
          begun-same line w station,
        )) is halted phase
        (λ w replay. ap (λ (u : World). u.kept.phase) (is-waiting w old.value replay unbegun)) d
