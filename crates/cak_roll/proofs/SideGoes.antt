-- What an event of a group leaves among the events of both, and events one after the other.
use Rattle.std.proofs.Common.{◌≡◌, ◌⊎◌, inl, inr, ◌+◌, ◌==◌, ◌++◌, ℕ, true, false, List, [], ◌∷◌}
use Rattle.std.proofs.Common.{zero, suc, cond, get_or, replicate, append_assoc, append-nil, Result, Ok, Err, IsErrAnd}
use Rattle.std.proofs.Common.{Option, Some, None, refl, sym, ap, ◌∙◌, subst, arith}
use Rattle.std.specs.Prelude.{is_some, option_map, option_and_then}
use Rattle.std.specs.Option.{option_or}
use Rattle.lan_base.specs.declared.address.Mi.{Mi}
use Rattle.lan_base.specs.declared.frame.UserFrame.{UserFrame}
use Rattle.lan_base.specs.declared.suite.Suite.{Suite}
use Rattle.aes_block.specs.declared.secret.Secret.{Secret}
use Rattle.lan_core.specs.declared.event.Event.{Event}
use Rattle.lan_core.specs.declared.event.Event.TheVariants as events
use Rattle.lan_core.specs.declared.fact.Fact.{Fact}
use Rattle.lan_core.specs.declared.settings.Settings.{Settings}
use Rattle.lan_core.specs.declared.stop.StepError.{StepError}
use Rattle.lan_core.specs.declared.stop.StepError.TheVariants as errors
use Rattle.lan_core.specs.Run.{Run, Happening, happened}
use Rattle.lan_core.specs.Lives.{drawn_mi}
use Rattle.lan_core.specs.Claims.{waiting}
use Rattle.lan_core.specs.Expected.{expected, drawn_from}
use Rattle.lan_core.specs.Stops.{draws_needed, first_stop, draws_in}
use Rattle.lan_core.specs.Stops.{sak_of_tick}
use Rattle.lan_core.specs.Standing.{State, StandsFor, Numbers, AreDrawn}
use Rattle.lan_core.specs.Answers.{IsWhy}
use Rattle.lan_core.proofs.Public.{mapped, mi-noted, mi-shown, tick-noted}
use Rattle.next_numbers.proofs.Public.{waits-then}
use Rattle.next_numbers.specs.Numbers.{TellNext}
use Rattle.cak_roll.specs.declared.event.GroupNumber.{GroupNumber}
use Rattle.cak_roll.specs.declared.told.Told.{Told}
use Rattle.cak_roll.specs.Stepping.{Supply, shown, performed, stop_after, part_stop}
use Rattle.cak_roll.specs.Standing.{Side, StandsIn, AreTraced}
use Rattle.cak_roll.specs.Answers.{told_of}
use Rattle.cak_roll.specs.inside.Noting.{repeating, given_before, draws_of, over, IsNoted, DrawsOne}
use Rattle.cak_roll.specs.inside.Parts.{IsHomely, IsReadyEvent}
use Rattle.cak_roll.specs.inside.Sides.{unless_spent, event_stop, events_stop, EventGoes, Happens}
use Rattle.cak_roll.specs.inside.Sides.{EventsGo, Happen}
use Rattle.lan_core.specs.Claims.{next}
use Rattle.cak_roll.proofs.Traced.{traced-both, traced-none}
use Rattle.cak_roll.proofs.SideStops.{draws-one, given-is, repeats-is, group-stops, others-stop}

-- ---- what is noted

pub noted-is : (suite : Suite) (both : Run) (old new : Numbers) (y : Happening)
    → AreDrawn suite both old → DrawsOne y.event y.facts
    → IsNoted suite old new (drawn_mi y.facts) (sak_of_tick y.facts y.event)
    → AreDrawn suite (y ∷ both) new
noted-is suite both old new y are one noted =
    go (drawn_mi y.facts) (sak_of_tick y.facts y.event) refl refl one noted
  where
    go : (m : Option Mi) (k : Option Secret) → drawn_mi y.facts ≡ m
        → sak_of_tick y.facts y.event ≡ k → (m ≡ None) ⊎ (k ≡ None) → IsNoted suite old new m k
        → AreDrawn suite (y ∷ both) new
    go None None begins makes one noted =
        subst (AreDrawn suite (y ∷ both)) (sym noted)
        (tick-noted suite both old old y are begins None makes refl)
    go (Some mi) None begins makes one noted =
        mi-noted suite both old new y mi are begins makes noted
    go None (Some sak) begins makes one noted =
        tick-noted suite both old new y are begins (Some sak) makes noted
    go (Some mi) (Some sak) begins makes (inl none) noted = absurd (cc none)
    go (Some mi) (Some sak) begins makes (inr none) noted = absurd (cc none)

-- ---- an event

-- what a side is after an event that drew, where its group and its numbers are so
abbrev pub followed : Side → State → List (List ℕ) → ℕ → List Fact → Event → Side
followed side lan numbers count facts event =
    record {
      suite = side.suite;
      lan = lan;
      numbers = numbers;
      draws = side.draws ++ replicate (draws_of side.suite (drawn_mi facts)
          (sak_of_tick facts event)) (count + 1);
    }

pub event-goes : (settings : Settings) (users : List UserFrame) (r both : Run) (event : Event)
    (before after : Supply) (side new : Side) (old drawn : Numbers) (facts : List Fact)
    (lan : State) (numbers : List (List ℕ))
    → StandsIn settings users r both side → AreDrawn settings.suite both old
    → first_stop settings users r event before ≡ None
    → expected settings users r event (drawn_from settings.suite before) ≡ Some facts
    → StandsFor settings users lan (happened event facts ∷ r)
    → ((k : ℕ) → after k ≡ before (k + draws_needed settings r event))
    → TellNext settings (happened event facts ∷ r) numbers
    → repeating (old.count + 1) (given_before old (drawn_mi facts) (sak_of_tick facts event)) ≡ None
    → IsNoted side.suite old drawn (drawn_mi facts) (sak_of_tick facts event)
    → new ≡ followed side lan numbers old.count facts event
    → EventGoes settings users r both event before after new drawn facts
event-goes settings users r both event before after side new old drawn facts lan numbers
    stands are none shows lives taken tells free noted is =
    let y = happened event facts in
    let repeats = sym (repeats-is settings.suite both old y (old.count + 1)
    (given_before old (drawn_mi facts) (sak_of_tick facts event)) are refl
    (given-is settings.suite both old y are)) ∙ free in
    record {
      goes = others-stop settings users r both event before facts none shows ∙ repeats;
      shows = shows;
      stands = subst (StandsIn settings users (y ∷ r) (y ∷ both)) (sym is) (record {
        suite = stands.suite;
        lan = lives;
        numbers = tells;
        draws = subst (λ n. AreTraced settings.suite (y ∷ r) (y ∷ both)
            (side.draws ++ replicate (draws_of side.suite (drawn_mi facts)
            (sak_of_tick facts event)) (n + 1))) (sym are.count)
            (subst (λ suite. AreTraced settings.suite (y ∷ r) (y ∷ both)
            (side.draws ++ replicate (draws_of suite (drawn_mi facts)
            (sak_of_tick facts event)) (draws_in settings.suite both + 1))) (sym stands.suite)
            (traced-both settings.suite y r both side.draws stands.draws));
      });
      noted = noted-is settings.suite both old drawn y are
          (draws-one settings users r event before facts shows)
          (subst (λ suite. IsNoted suite old drawn (drawn_mi facts) (sak_of_tick facts event))
          stands.suite noted);
      taken = taken;
    }

-- it repeats a draw of the other group
pub event-repeats : (settings : Settings) (users : List UserFrame) (r both : Run) (event : Event)
    (before : Supply) (old : Numbers) (facts : List Fact) (error : StepError)
    → AreDrawn settings.suite both old
    → first_stop settings users r event before ≡ None
    → expected settings users r event (drawn_from settings.suite before) ≡ Some facts
    → IsWhy (repeating (old.count + 1) (given_before old (drawn_mi facts) (sak_of_tick facts event)))
    error
    → IsWhy (event_stop settings users r both event before) error
event-repeats settings users r both event before old facts errors.Memory are none shows why = tt
event-repeats settings users r both event before old facts (errors.Stopped stop) are none shows why =
    let y = happened event facts in
    let repeats = sym (repeats-is settings.suite both old y (old.count + 1)
    (given_before old (drawn_mi facts) (sak_of_tick facts event)) are refl
    (given-is settings.suite both old y are)) ∙ why in
    others-stop settings users r both event before facts none shows ∙ repeats

-- its group stops
pub event-stops : (settings : Settings) (users : List UserFrame) (r both : Run) (event : Event)
    (before : Supply) (side : Side) (old : Numbers) (next : ℕ) (was error : StepError)
    → IsHomely event → StandsIn settings users r both side → AreDrawn settings.suite both old
    → next ≡ old.count + 1
    → IsWhy (first_stop settings users r event before) was
    → error ≡ over side.draws next was
    → IsWhy (event_stop settings users r both event before) error
event-stops settings users r both event before side old next errors.Memory error homely stands are
    number why is =
    subst (IsWhy (event_stop settings users r both event before)) (sym is) tt
event-stops settings users r both event before side old next (errors.Stopped stop) error homely
    stands are number why is =
    subst (IsWhy (event_stop settings users r both event before)) (sym is)
    (sym (group-stops settings users r both event before side.draws old next homely stands.draws are
    number stop why))

-- ---- events one after the other

-- one event is a part
pub one-happens : (g : GroupNumber) (settings : Settings) (users : List UserFrame) (r both : Run)
    (event : Event) (before after : Supply) (side : Side) (drawn : Numbers)
    (told more : List Told) (facts : List Fact)
    → EventGoes settings users r both event before after side drawn facts
    → more ≡ told ++ record { group = g; facts = facts } ∷ []
    → EventsGo g settings users r both (event ∷ []) before after side drawn told more
    (happened event facts ∷ [])
unfolding performed part_stop
one-happens g settings users r both event before after side drawn told more facts goes tells =
    let count : draws_needed settings r event + 0 ≡ draws_needed settings r event = omega arith in
    let y = happened event facts in
    record {
      goes = ap (λ n. unless_spent n before
          (option_and_then (stop_after settings.suite r both)
          (shown settings users r event before))) count ∙ goes.goes;
      shows = ap (λ o. option_map (λ y. y ∷ []) (option_map (λ facts. happened event facts) o))
          goes.shows;
      tells = tells;
      stands = goes.stands;
      noted = goes.noted;
      taken = λ k. goes.taken k ∙ sym (ap (λ n. before (k + n)) count);
    }

pub one-stops : (settings : Settings) (users : List UserFrame) (r both : Run) (event : Event)
    (before : Supply) (error : StepError)
    → IsWhy (event_stop settings users r both event before) error
    → IsWhy (events_stop settings users r both (event ∷ []) before) error
unfolding performed part_stop
one-stops settings users r both event before error why =
    let count : draws_needed settings r event + 0 ≡ draws_needed settings r event = omega arith in
    subst (λ n. IsWhy (unless_spent n before
    (option_and_then (stop_after settings.suite r both) (shown settings users r event before)))
    error) (sym count) why

-- ---- a claim and its emission

none-more : (n : ℕ) → 0 + n ≡ n
none-more n = omega arith

module _ (g : GroupNumber) (settings : Settings) (users : List UserFrame) (r both : Run)
    (s user pn : ℕ) (before : Supply) where
  abbrev claim : Event
  claim = events.Claim s user pn

  abbrev sent : List Event
  sent = events.Emit ∷ events.Claim s user pn ∷ []

  pub sent-goes : (between after : Supply) (side new : Side) (noted drawn : Numbers)
      (told later more : List Told) (ys zs : Run)
      → EventsGo g settings users r both (events.Claim s user pn ∷ []) before between side noted told
      later ys
      → EventsGo g settings users (ys ++ r) (ys ++ both) (events.Emit ∷ []) between after new drawn
      later more zs
      → EventsGo g settings users r both (events.Emit ∷ events.Claim s user pn ∷ []) before after new
      drawn told more (zs ++ ys)
  unfolding performed part_stop expected
  sent-goes between after side new noted drawn told later more ys zs one two =
      let m = mapped (λ (z : Happening). z ∷ [])
      (shown settings users (ys ++ r) events.Emit between) zs two.shows in
      let z : Happening = m.0 in
      subst (λ ws. EventsGo g settings users r both sent before after new drawn told more (ws ++ ys))
      m.2 (record {
        goes = ap (λ o. option_or o (option_and_then
            (λ xs. option_and_then (stop_after settings.suite (xs ++ r) (xs ++ both))
            (shown settings users (xs ++ r) events.Emit before))
            (performed settings users r (claim ∷ []) before))) one.goes
            ∙ ap (option_and_then
            (λ xs. option_and_then (stop_after settings.suite (xs ++ r) (xs ++ both))
            (shown settings users (xs ++ r) events.Emit before))) one.shows
            ∙ two.goes;
        shows = ap (option_and_then
            (λ xs. option_map (λ x. x ∷ xs) (shown settings users (xs ++ r) events.Emit before)))
            one.shows
            ∙ ap (option_map (λ x. x ∷ ys)) m.1;
        tells = two.tells ∙ ap (λ ts. ts ++ told_of g zs) one.tells
            ∙ append_assoc told (told_of g ys) (told_of g zs)
            ∙ ap (λ ws. told ++ (told_of g ys ++ told_of g ws)) (sym m.2);
        stands = subst (λ ws. StandsIn settings users (ws ++ (ys ++ r)) (ws ++ (ys ++ both)) new)
            (sym m.2) two.stands;
        noted = subst (λ ws. AreDrawn settings.suite (ws ++ (ys ++ both)) drawn) (sym m.2) two.noted;
        taken = λ k.
            let same : (k + 0) + 0 ≡ k + 0 = omega arith in
            two.taken k ∙ one.taken (k + 0) ∙ ap before same;
      })

  pub sent-stops : (error : StepError)
      → IsWhy (events_stop settings users r both (events.Claim s user pn ∷ []) before) error
      → IsWhy (events_stop settings users r both (events.Emit ∷ events.Claim s user pn ∷ []) before)
      error
  unfolding performed part_stop
  sent-stops errors.Memory why = tt
  sent-stops (errors.Stopped stop) why =
      ap (λ o. option_or o (option_and_then
      (λ xs. option_and_then (stop_after settings.suite (xs ++ r) (xs ++ both))
      (shown settings users (xs ++ r) events.Emit before))
      (performed settings users r (claim ∷ []) before))) why

  pub emission-stops : (between after : Supply) (side : Side) (noted : Numbers)
      (told later : List Told) (ys : Run) (error : StepError)
      → EventsGo g settings users r both (events.Claim s user pn ∷ []) before between side noted told
      later ys
      → IsWhy (events_stop settings users (ys ++ r) (ys ++ both) (events.Emit ∷ []) between) error
      → IsWhy (events_stop settings users r both (events.Emit ∷ events.Claim s user pn ∷ []) before)
      error
  unfolding performed part_stop expected
  emission-stops between after side noted told later ys errors.Memory one why = tt
  emission-stops between after side noted told later ys (errors.Stopped stop) one why =
      ap (λ o. option_or o (option_and_then
      (λ xs. option_and_then (stop_after settings.suite (xs ++ r) (xs ++ both))
      (shown settings users (xs ++ r) events.Emit before))
      (performed settings users r (claim ∷ []) before))) one.goes
      ∙ ap (option_and_then
      (λ xs. option_and_then (stop_after settings.suite (xs ++ r) (xs ++ both))
      (shown settings users (xs ++ r) events.Emit before))) one.shows
      ∙ why

  -- a claim draws nothing
  pub claim-counts : (between : Supply) (side : Side) (old noted : Numbers) (told later : List Told)
      (ys : Run) → AreDrawn settings.suite both old
      → EventsGo g settings users r both (events.Claim s user pn ∷ []) before between side noted told
      later ys
      → noted.count ≡ old.count
  unfolding performed draws_in
  claim-counts between side old noted told later ys are one =
      let m = mapped (λ (y : Happening). y ∷ []) (shown settings users r claim before) ys one.shows in
      let f = mapped (λ facts. happened claim facts)
      (expected settings users r claim (drawn_from settings.suite before)) m.0 m.1 in
      let none : drawn_mi f.0 ≡ None =
      mi-shown settings users r claim (drawn_from settings.suite before) f.0 f.1 in
      one.noted.count
      ∙ ap (λ ws. draws_in settings.suite (ws ++ both)) (sym m.2)
      ∙ ap (λ (y : Happening). draws_in settings.suite (y ∷ both)) (sym f.2)
      ∙ ap (λ o. (cond (is_some o) 1 0 + 0) + draws_in settings.suite both) none
      ∙ none-more (draws_in settings.suite both) ∙ sym are.count

  -- behind a claim that got a number, its emission may come
  pub emission-ready : (between : Supply) (side new : Side) (noted : Numbers)
      (told later : List Told) (ys : Run) (given : Option UserFrame)
      → StandsIn settings users r both side
      → IsReadyEvent settings users r given (events.Claim s user pn) → (pn == 0) ≡ false
      → EventsGo g settings users r both (events.Claim s user pn ∷ []) before between new noted told
      later ys
      → IsReadyEvent settings users (ys ++ r) None events.Emit
  unfolding performed
  emission-ready between side new noted told later ys given stands ready some one =
      let m = mapped (λ (y : Happening). y ∷ []) (shown settings users r claim before) ys one.shows in
      let f = mapped (λ facts. happened claim facts)
      (expected settings users r claim (drawn_from settings.suite before)) m.0 m.1 in
      record {
        may_come = subst (λ ws. is_some (waiting settings (ws ++ r)) ≡ true) m.2
            (subst (λ (y : Happening). is_some (waiting settings (y ∷ r)) ≡ true) f.2
            (waits-then settings users r given s user pn (drawn_from settings.suite before) f.0
            stands.lan.in_turn ready.may_come f.1 some));
        homely = tt;
        next = tt;
      }

  -- a claim and its emission are a part
  pub sent-happens : (between after : Supply) (side new : Side) (noted drawn : Numbers)
      (told later more : List Told) (ys : Run) (result : Result (Unit {0}) StepError)
      → EventsGo g settings users r both (events.Claim s user pn ∷ []) before between side noted told
      later ys
      → Happen g settings users (ys ++ r) (ys ++ both) (events.Emit ∷ []) between after new drawn
      later more result
      → Happen g settings users r both (events.Emit ∷ events.Claim s user pn ∷ []) before after new
      drawn told more result
  sent-happens between after side new noted drawn told later more ys (Ok done) one (zs, two) =
      (zs ++ ys, sent-goes between after side new noted drawn told later more ys zs one two)
  sent-happens between after side new noted drawn told later more ys (Err error) one why =
      emission-stops between after side noted told later ys error one why

-- ---- no event

pub nothing-happens : (g : GroupNumber) (settings : Settings) (users : List UserFrame)
    (r both : Run) (before : Supply) (side : Side) (drawn : Numbers) (told : List Told)
    → StandsIn settings users r both side → AreDrawn settings.suite both drawn
    → EventsGo g settings users r both [] before before side drawn told told []
unfolding performed part_stop
nothing-happens g settings users r both before side drawn told stands are = record {
  goes = refl;
  shows = refl;
  tells = sym (append-nil told);
  stands = stands;
  noted = are;
  taken = λ k. let same : k ≡ k + 0 = omega arith in ap before same;
}

-- ---- an error is passed on

pub event-refused : (settings : Settings) (users : List UserFrame) (r both : Run) (event : Event)
    (before after : Supply) (side : Side) (drawn : Numbers)
    (result : Result (List Fact) StepError) (error : StepError)
    → IsErrAnd result (λ given. given ≡ error)
    → IsWhy (event_stop settings users r both event before) error
    → Happens settings users r both event before after side drawn result
event-refused settings users r both event before after side drawn (Ok facts) error is why = absurd is
event-refused settings users r both event before after side drawn (Err given) error is why =
    subst (IsWhy (event_stop settings users r both event before)) (sym is) why

pub part-refused : (g : GroupNumber) (settings : Settings) (users : List UserFrame) (r both : Run)
    (es : List Event) (before after : Supply) (side : Side) (drawn : Numbers)
    (told more : List Told) (result : Result (Unit {0}) StepError) (error : StepError)
    → IsErrAnd result (λ given. given ≡ error)
    → IsWhy (events_stop settings users r both es before) error
    → Happen g settings users r both es before after side drawn told more result
part-refused g settings users r both es before after side drawn told more (Ok done) error is why =
    absurd is
part-refused g settings users r both es before after side drawn told more (Err given) error is why =
    subst (IsWhy (events_stop settings users r both es before)) (sym is) why

-- ---- a group in which nothing happened

get-nothing : {A : Type 0} (i : ℕ) (a : A) → get_or [] i a ≡ a
get-nothing zero a = refl
get-nothing (suc i) a = refl

pub side-begins : (settings : Settings) (users : List UserFrame) (whole : Run) (side : Side)
    → side.suite ≡ settings.suite → StandsFor settings users side.lan [] → side.numbers ≡ []
    → side.draws ≡ [] → StandsIn settings users [] whole side
unfolding next
side-begins settings users whole side suite lan numbers draws = record {
  suite = suite;
  lan = lan;
  numbers = subst (TellNext settings []) (sym numbers)
      (λ s epoch. ap (λ ns. get_or ns epoch 1) (get-nothing s []) ∙ get-nothing epoch 1);
  draws = subst (AreTraced settings.suite [] whole) (sym draws)
      (traced-none settings.suite whole);
}
