-- Both parts of an event are performed, with the draws of both before either.
use Rattle.std.proofs.Common.{◌≡◌, ◌⊎◌, inl, inr, ◌+◌, ◌<◌, ℕ, true, false, List, [], cond}
use Rattle.std.proofs.Common.{Option, Some, Result, Ok, Err, IsErrAnd, refl, sym, ap, ◌∙◌, subst}
use Rattle.lan_base.specs.declared.frame.UserFrame.{UserFrame}
use Rattle.lan_core.specs.declared.event.Event.{Event}
use Rattle.lan_core.specs.declared.stop.Stop.{Stop}
use Rattle.lan_core.specs.declared.stop.Stop.TheVariants.{DrawsSpent}
use Rattle.lan_core.specs.declared.stop.StepError.{StepError}
use Rattle.lan_core.specs.declared.stop.StepError.TheVariants as errors
use Rattle.lan_core.specs.Stops.{is_spent}
use Rattle.lan_core.specs.Unstopped.{AreDraws}
use Rattle.lan_core.specs.Answers.{IsWhy}
use Rattle.cak_roll.specs.declared.event.GroupNumber.TheVariants.{First, Second}
use Rattle.cak_roll.specs.declared.event.TwinEvent.{TwinEvent}
use Rattle.cak_roll.specs.declared.told.Told.{Told}
use Rattle.cak_roll.specs.Twin.{Pair, Twin, events_in}
use Rattle.cak_roll.specs.Stepping.{Supply, twin_draws, twin_stop, first_stop_of}
use Rattle.cak_roll.specs.Stepping.{second_stop_of}
use Rattle.std.specs.Option.{option_or}
use Rattle.cak_roll.specs.Standing.{Held}
use Rattle.cak_roll.specs.inside.Turns.{turn_stop, TurnsUnless, Turns, BothPerform}
use Rattle.cak_roll.proofs.TurnStops.{TakeInTime, turn-stops}
use Rattle.cak_roll.proofs.Restarts.{IsRestart, two-draws, agree-happening, agree-turn}

module _ (pair : Pair) (users : List UserFrame) (t : Twin) (event : TwinEvent) (before : Supply)
    (suites : pair.second.suite ≡ pair.first.suite) (draws : AreDraws before) where
  -- at most one part draws
  pub performs-in-time : (after : Supply) (held : Held) (result : Result (List Told) StepError)
      → TakeInTime pair t event before → Turns pair users t event before after held result
      → BothPerform pair users t event before after held result
  performs-in-time after held result time turns =
      subst (λ stop. TurnsUnless stop pair users t event before after held result)
      (turn-stops pair users t event before suites draws time) turns

  module _ (one : IsRestart (events_in pair First t event))
      (two : IsRestart (events_in pair Second t event)) where
    -- the draws of both were taken
    pub performs-by-two : (taken left after : Supply) (held : Held)
        (result : Result (List Told) StepError) → ((k : ℕ) → k < 2 → taken k ≡ before k)
        → ((k : ℕ) → after k ≡ before (k + 2)) → is_spent 2 before ≡ false
        → Turns pair users t event taken left held result
        → BothPerform pair users t event before after held result
    performs-by-two taken left after held result agree takes enough turns =
        go result (subst (λ stop. TurnsUnless stop pair users t event taken left held result) stop turns)
      where
        count : twin_draws pair t event ≡ 2
        count = two-draws pair users t event taken before one two agree

        stop : turn_stop pair users t event taken ≡ twin_stop pair users t event before
        stop =
            agree-turn pair users t event taken before one two agree
            ∙ turn-stops pair users t event before suites draws
            (inr (inr (ap (λ n. is_spent n before) count ∙ enough)))

        go : (result : Result (List Told) StepError)
            → TurnsUnless (twin_stop pair users t event before) pair users t event taken left held
            result
            → BothPerform pair users t event before after held result
        go (Ok told) (x, turned) = (
          x,
          record {
            goes = turned.goes;
            shows = sym (agree-happening pair users t event taken before one two agree)
                ∙ turned.shows;
            tells = turned.tells;
            stands = turned.stands;
            drawn = λ k. takes k ∙ ap (λ n. before (k + n)) (sym count);
          },
        )
        go (Err error) why = why

    -- the draws of both are not there
    pub spent-by-two : (error : StepError)
        → (error ≡ errors.Memory) ⊎ ((error ≡ errors.Stopped DrawsSpent)
        × (is_spent 2 before ≡ true))
        → IsWhy (twin_stop pair users t event before) error
    unfolding twin_stop
    spent-by-two error (inl memory) =
        subst (IsWhy (twin_stop pair users t event before)) (sym memory) tt
    spent-by-two error (inr (stopped, spent)) =
        let count = two-draws pair users t event before before one two (λ k few. refl) in
        subst (IsWhy (twin_stop pair users t event before)) (sym stopped)
        (ap (λ b. cond b (Some DrawsSpent)
        (option_or (first_stop_of pair users t event before)
        (second_stop_of pair users t event before)))
        (ap (λ n. is_spent n before) count ∙ spent))

-- one part draws nothing
pub alone-in-time : (pair : Pair) (t : Twin) (event : TwinEvent) (nth : Supply)
    (es fs : List Event) → es ≡ events_in pair First t event → fs ≡ events_in pair Second t event
    → (es ≡ []) ⊎ (fs ≡ []) → TakeInTime pair t event nth
alone-in-time pair t event nth es fs first second (inl none) = inl (sym first ∙ none)
alone-in-time pair t event nth es fs first second (inr none) = inr (inl (sym second ∙ none))

-- an error is passed on
pub turn-refused : (stop : Option Stop) (pair : Pair) (users : List UserFrame) (t : Twin)
    (event : TwinEvent) (before after : Supply) (held : Held)
    (result : Result (List Told) StepError) (error : StepError)
    → IsErrAnd result (λ given. given ≡ error) → IsWhy stop error
    → TurnsUnless stop pair users t event before after held result
turn-refused stop pair users t event before after held (Ok told) error is why = absurd is
turn-refused stop pair users t event before after held (Err given) error is why =
    subst (IsWhy stop) (sym is) why
