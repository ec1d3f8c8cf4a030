-- What both groups stand for once the part in the first and then that in the second were performed.
use Rattle.std.proofs.Common.{◌≡◌, ◌+◌, ◌++◌, ℕ, Bool, true, false, List, [], cond, append-nil, Result, Ok, Err}
use Rattle.std.proofs.Common.{Option, Some, None, refl, sym, ap, ◌∙◌, subst, arith}
use Rattle.std.specs.Prelude.{option_map, option_and_then}
use Rattle.std.specs.Option.{option_or}
use Rattle.std.proofs.Math.Path.{fun_ext}
use Rattle.lan_base.specs.declared.frame.UserFrame.{UserFrame}
use Rattle.lan_core.specs.declared.event.Event.{Event}
use Rattle.lan_core.specs.declared.settings.Settings.{Settings}
use Rattle.lan_core.specs.declared.stop.Stop.{Stop}
use Rattle.lan_core.specs.declared.stop.Stop.TheVariants.{DrawsSpent}
use Rattle.lan_core.specs.declared.stop.StepError.{StepError}
use Rattle.lan_core.specs.declared.stop.StepError.TheVariants as errors
use Rattle.lan_core.specs.Run.{Run}
use Rattle.lan_core.specs.Stops.{is_spent}
use Rattle.lan_core.specs.Standing.{Numbers, AreDrawn}
use Rattle.lan_core.specs.Answers.{IsWhy}
use Rattle.cak_roll.specs.declared.event.GroupNumber.TheVariants.{First, Second}
use Rattle.cak_roll.specs.declared.event.TwinEvent.{TwinEvent}
use Rattle.cak_roll.specs.declared.told.Told.{Told}
use Rattle.cak_roll.specs.Twin.{Pair, Twin, run_of, merged, events_in}
use Rattle.cak_roll.specs.Stepping.{Supply, behind, performed, draws_for, part_stop}
use Rattle.cak_roll.specs.Stepping.{first_draws, second_draws, first_part, second_part}
use Rattle.cak_roll.specs.Stepping.{in_groups}
use Rattle.cak_roll.specs.Standing.{Side, StandsIn, Held, IfThere, StandBoth, AreTraced}
use Rattle.cak_roll.specs.Answers.{told_of}
use Rattle.cak_roll.specs.inside.Sides.{events_stop, EventsGo, Happen}
use Rattle.cak_roll.specs.inside.Turns.{turn_stop, ThereGo, HappenThere, TurnGoes}
use Rattle.cak_roll.proofs.TurnStops.{traced-beside-part}

-- a part that nothing stops meets no stop of its own
unspent : (b : Bool) (o : Option Stop) → cond b (Some DrawsSpent) o ≡ None → o ≡ None
unspent true o none = absurd (cc none)
unspent false o none = none

-- a side goes on beside a part of the other one
pub beside : (settings other : Settings) (users : List UserFrame) (r s both : Run)
    (es : List Event) (nth : Supply) (ys : Run) (side : Side)
    → other.suite ≡ settings.suite
    → performed other users s es nth ≡ Some ys → events_stop other users s both es nth ≡ None
    → StandsIn settings users r both side → StandsIn settings users r (ys ++ both) side
beside settings other users r s both es nth ys side same there none stands =
    let stop = unspent (is_spent (draws_for other s es) nth)
    (part_stop other.suite other users s both es nth) none in
    record {
      suite = stands.suite;
      lan = stands.lan;
      numbers = stands.numbers;
      draws = subst (λ suite. AreTraced suite r (ys ++ both) side.draws) same
          (traced-beside-part other users s both es nth ys r side.draws there stop
          (subst (λ suite. AreTraced suite r both side.draws) (sym same) stands.draws));
    }

pub beside-there : (settings other : Settings) (users : List UserFrame) (r s both : Run)
    (es : List Event) (nth : Supply) (ys : Run) (o : Option Side)
    → other.suite ≡ settings.suite
    → performed other users s es nth ≡ Some ys → events_stop other users s both es nth ≡ None
    → IfThere settings users r both o → IfThere settings users r (ys ++ both) o
beside-there settings other users r s both es nth ys None same there none is = is
beside-there settings other users r s both es nth ys (Some side) same there none stands =
    beside settings other users r s both es nth ys side same there none stands

-- ---- the second group

pub there-some : (settings : Settings) (users : List UserFrame) (r both : Run) (es : List Event)
    (before after : Supply) (side : Side) (drawn : Numbers) (told more : List Told)
    (result : Result (Unit {0}) StepError)
    → Happen Second settings users r both es before after side drawn told more result
    → HappenThere settings users r both es before after (Some side) drawn told more result
there-some settings users r both es before after side drawn told more (Ok done) (ys, go) = (
  ys,
  record {
    goes = go.goes;
    shows = go.shows;
    tells = go.tells;
    stands = go.stands;
    noted = go.noted;
    taken = go.taken;
  },
)
there-some settings users r both es before after side drawn told more (Err error) why = why

pub there-none : (settings : Settings) (users : List UserFrame) (r both : Run) (es : List Event)
    (before : Supply) (drawn : Numbers) (told : List Told)
    → r ≡ [] → AreDrawn settings.suite both drawn → es ≡ []
    → HappenThere settings users r both es before before None drawn told told (Ok tt)
unfolding performed part_stop
there-none settings users r both es before drawn told empty are none = (
  [],
  subst (λ es. ThereGo settings users r both es before before None drawn told told []) (sym none)
      (record {
        goes = refl;
        shows = refl;
        tells = sym (append-nil told);
        stands = empty;
        noted = are;
        taken = λ k. let same : k ≡ k + 0 = omega arith in ap before same;
      }),
)

-- ---- both

module _ (pair : Pair) (users : List UserFrame) (t : Twin) (event : TwinEvent)
    (before between after : Supply) (suites : pair.second.suite ≡ pair.first.suite) where
  -- the supply that the first part leaves
  left-is : ((k : ℕ) → between k ≡ before (k + first_draws pair t event))
      → between ≡ behind (first_draws pair t event) before
  left-is taken = fun_ext taken

  pub turn-goes : (new : Held) (told more : List Told) (ys zs : Run) (noted : Numbers)
      → EventsGo First pair.first users (run_of First t) (merged t) (events_in pair First t event)
      before between new.first noted [] told ys
      → ThereGo pair.second users (run_of Second t) (ys ++ merged t)
      (events_in pair Second t event) between after new.second new.drawn told more zs
      → TurnGoes pair users t event (turn_stop pair users t event before) before after new more
      (in_groups event ys zs)
  turn-goes new told more ys zs noted one two =
      let left = left-is one.taken in
      record {
        goes = ap (λ o. option_or o (option_and_then
            (λ first. events_stop pair.second users (run_of Second t) (first ++ merged t)
            (events_in pair Second t event) (behind (first_draws pair t event) before))
            (first_part pair users t event before))) one.goes
            ∙ ap (option_and_then
            (λ first. events_stop pair.second users (run_of Second t) (first ++ merged t)
            (events_in pair Second t event) (behind (first_draws pair t event) before))) one.shows
            ∙ ap (events_stop pair.second users (run_of Second t) (ys ++ merged t)
            (events_in pair Second t event)) (sym left)
            ∙ two.goes;
        shows = ap (option_and_then
            (λ first. option_map (in_groups event first) (second_part pair users t event before)))
            one.shows
            ∙ ap (λ nth. option_map (in_groups event ys)
            (performed pair.second users (run_of Second t) (events_in pair Second t event) nth))
            (sym left)
            ∙ ap (option_map (in_groups event ys)) two.shows;
        tells = two.tells ∙ ap (λ ts. ts ++ told_of Second zs) one.tells;
        stands = record {
          first = beside pair.first pair.second users (ys ++ run_of First t) (run_of Second t)
              (ys ++ merged t) (events_in pair Second t event) between zs new.first suites two.shows
              two.goes one.stands;
          second = two.stands;
          drawn = subst (λ suite. AreDrawn suite (zs ++ (ys ++ merged t)) new.drawn) suites two.noted;
        };
        drawn = λ k. two.taken k ∙ one.taken (k + second_draws pair t event)
            ∙ ap before (omega arith);
      }

  -- ---- stops

  pub first-fails : (error : StepError)
      → IsWhy (events_stop pair.first users (run_of First t) (merged t)
      (events_in pair First t event) before) error
      → IsWhy (turn_stop pair users t event before) error
  first-fails errors.Memory why = tt
  first-fails (errors.Stopped stop) why =
      ap (λ o. option_or o (option_and_then
      (λ first. events_stop pair.second users (run_of Second t) (first ++ merged t)
      (events_in pair Second t event) (behind (first_draws pair t event) before))
      (first_part pair users t event before))) why

  pub second-fails : (side : Side) (noted : Numbers) (start told : List Told) (ys : Run)
      (error : StepError)
      → EventsGo First pair.first users (run_of First t) (merged t) (events_in pair First t event)
      before between side noted start told ys
      → IsWhy (events_stop pair.second users (run_of Second t) (ys ++ merged t)
      (events_in pair Second t event) between) error
      → IsWhy (turn_stop pair users t event before) error
  second-fails side noted start told ys errors.Memory one why = tt
  second-fails side noted start told ys (errors.Stopped stop) one why =
      ap (λ o. option_or o (option_and_then
      (λ first. events_stop pair.second users (run_of Second t) (first ++ merged t)
      (events_in pair Second t event) (behind (first_draws pair t event) before))
      (first_part pair users t event before))) one.goes
      ∙ ap (option_and_then
      (λ first. events_stop pair.second users (run_of Second t) (first ++ merged t)
      (events_in pair Second t event) (behind (first_draws pair t event) before))) one.shows
      ∙ ap (events_stop pair.second users (run_of Second t) (ys ++ merged t)
      (events_in pair Second t event)) (sym (left-is one.taken))
      ∙ why

  -- ---- as the calls answer

  -- the second group, before its part
  pub second-starts : (es : List Event) (old mid : Held) (start told : List Told) (ys : Run)
      → StandBoth pair users (run_of First t) (run_of Second t) (merged t) old
      → mid ≡ record old { first = mid.first; drawn = mid.drawn }
      → EventsGo First pair.first users (run_of First t) (merged t) es before between mid.first
      mid.drawn start told ys
      → IfThere pair.second users (run_of Second t) (ys ++ merged t) mid.second
      × AreDrawn pair.second.suite (ys ++ merged t) mid.drawn
  second-starts es old mid start told ys both same one = (
    subst (IfThere pair.second users (run_of Second t) (ys ++ merged t))
        (sym (ap (λ (h : Held). h.second) same))
        (beside-there pair.second pair.first users (run_of Second t) (run_of First t) (merged t) es
        before ys old.second (sym suites) one.shows one.goes both.second),
    subst (λ suite. AreDrawn suite (ys ++ merged t) mid.drawn) (sym suites) one.noted,
  )

  pub turned : (es fs : List Event) (mid new : Held) (start told more : List Told) (ys zs : Run)
      → es ≡ events_in pair First t event → fs ≡ events_in pair Second t event → start ≡ []
      → new ≡ record mid { second = new.second; drawn = new.drawn }
      → EventsGo First pair.first users (run_of First t) (merged t) es before between mid.first
      mid.drawn start told ys
      → ThereGo pair.second users (run_of Second t) (ys ++ merged t) fs between after new.second
      new.drawn told more zs
      → TurnGoes pair users t event (turn_stop pair users t event before) before after new more
      (in_groups event ys zs)
  turned es fs mid new start told more ys zs first second none same one two =
      turn-goes new told more ys zs mid.drawn
      (subst (λ side. EventsGo First pair.first users (run_of First t) (merged t)
      (events_in pair First t event) before between side mid.drawn [] told ys)
      (sym (ap (λ (h : Held). h.first) same))
      (subst (λ from. EventsGo First pair.first users (run_of First t) (merged t)
      (events_in pair First t event) before between mid.first mid.drawn from told ys) none
      (subst (λ es. EventsGo First pair.first users (run_of First t) (merged t) es before between
      mid.first mid.drawn start told ys) first one)))
      (subst (λ fs. ThereGo pair.second users (run_of Second t) (ys ++ merged t) fs between after
      new.second new.drawn told more zs) second two)

  pub one-fails : (es : List Event) (error : StepError) → es ≡ events_in pair First t event
      → IsWhy (events_stop pair.first users (run_of First t) (merged t) es before) error
      → IsWhy (turn_stop pair users t event before) error
  one-fails es error first why =
      first-fails error (subst (λ es. IsWhy (events_stop pair.first users (run_of First t) (merged t)
      es before) error) first why)

  pub two-fails : (es fs : List Event) (side : Side) (noted : Numbers) (start told : List Told)
      (ys : Run) (error : StepError) → es ≡ events_in pair First t event
      → fs ≡ events_in pair Second t event
      → EventsGo First pair.first users (run_of First t) (merged t) es before between side noted start
      told ys
      → IsWhy (events_stop pair.second users (run_of Second t) (ys ++ merged t) fs between) error
      → IsWhy (turn_stop pair users t event before) error
  two-fails es fs side noted start told ys error first second one why =
      second-fails side noted start told ys error
      (subst (λ es. EventsGo First pair.first users (run_of First t) (merged t) es before between side
      noted start told ys) first one)
      (subst (λ fs. IsWhy (events_stop pair.second users (run_of Second t) (ys ++ merged t) fs
      between) error) second why)
