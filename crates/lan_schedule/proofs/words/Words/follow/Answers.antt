use Rattle.std.proofs.Common.{List, ◌∷◌, sym, ap, ◌∙◌, subst}
use Rattle.lan_core.specs.declared.event.Event.{Event}
use Rattle.station_words.specs.Ties.{Followed}
use Rattle.worker_races.specs.Carded.{AreCarded}
use Rattle.lan_schedule.specs.inside.Recording.{KeepSeats, is_start}
use Rattle.lan_schedule.proofs.Recorded.{seats-same, seats-then}
use Rattle.association_slots.specs.Views.{ControlAt}
use Rattle.lan_core.specs.Run.{happened}
use Rattle.lan_schedule.specs.inside.Set.{SaysAhead}
use Rattle.lan_schedule.proofs.Ahead.{behind-by, carries-ahead}
use Rattle.lan_schedule.proofs.Unmoved.{unmoved-by}
use Rattle.lan_schedule.proofs.words.Words.follow.Goals as goal

pub returns-clause-says : goal.returns-clause-says
returns-clause-says g c = λ raced racing settings users before r stood stands stepped exact set.
    let x = happened c.args.event.now c.args.facts.now in
    let followed = c.follow.ensures.followed settings users (x ∷ r) stands in
    behind-by raced racing settings r (x ∷ r) c.args.event.now _ _
    (λ calm taken. c.law_all_words_stay_tied.ensures settings users before c.args.lan.now x r _ _
    stood stands stepped.0 (exact calm) taken followed)
    (λ taken. c.law_all_words_stay_caught_up.ensures settings users before c.args.lan.now x r _ _
    stood stands stepped.0 taken followed)
    (λ taken. c.law_all_words_keep_up.ensures settings users before c.args.lan.now x r _ _
    stood stands stepped.0 taken followed)
    (subst (λ (cs : List ControlAt). SaysAhead raced racing settings r c.args.event.now cs)
    (sym c.self.view_is)
    (c.in_ok-begin.ensures.ahead raced racing settings users before r stood stepped.1 set))

pub returns-in-Emit-clause-says : goal.returns-in-Emit-clause-says
returns-in-Emit-clause-says g c = λ raced racing settings users before r stood stands stepped exact set.
    let x = happened c.args.event.now c.args.facts.now in
    let followed = unmoved-by settings users r c.args.event.now c.args.facts.now c.in-Emit.is stepped.0 _ in
    behind-by raced racing settings r (x ∷ r) c.args.event.now _ _
    (λ calm taken. c.law_all_words_stay_tied.ensures settings users before c.args.lan.now x r _ _
    stood stands stepped.0 (exact calm) taken followed)
    (λ taken. c.law_all_words_stay_caught_up.ensures settings users before c.args.lan.now x r _ _
    stood stands stepped.0 taken followed)
    (λ taken. c.law_all_words_keep_up.ensures settings users before c.args.lan.now x r _ _
    stood stands stepped.0 taken followed)
    (c.in_ok-begin.ensures.ahead raced racing settings users before r stood stepped.1 set)

pub returns-clause-cards : goal.returns-clause-cards
returns-clause-cards g c = λ raced racing settings users before r stood stands stepped set carded.
    let x = happened c.args.event.now c.args.facts.now in
    c.law_cards_stay_right.ensures settings users before c.args.lan.now x r _ _ stood stands
    stepped.1 stepped.0
    (carries-ahead raced racing settings r c.args.event.now _
    (subst (λ (cs : List ControlAt). SaysAhead raced racing settings r c.args.event.now cs)
    (sym c.self.view_is)
    (c.in_ok-begin.ensures.ahead raced racing settings users before r stood stepped.1 set)))
    (c.follow.ensures.followed settings users (x ∷ r) stands)
    (subst (λ (cs : List ControlAt). AreCarded settings r cs) (sym c.self.view_is)
    (c.in_ok-begin.ensures.cards raced racing settings users r stepped.1 set carded))

pub returns-in-Emit-clause-cards : goal.returns-in-Emit-clause-cards
returns-in-Emit-clause-cards g c = λ raced racing settings users before r stood stands stepped set carded.
    let x = happened c.args.event.now c.args.facts.now in
    c.law_cards_stay_right.ensures settings users before c.args.lan.now x r _ _ stood stands
    stepped.1 stepped.0
    (carries-ahead raced racing settings r c.args.event.now _
    (c.in_ok-begin.ensures.ahead raced racing settings users before r stood stepped.1 set))
    (unmoved-by settings users r c.args.event.now c.args.facts.now c.in-Emit.is stepped.0 _)
    (c.in_ok-begin.ensures.cards raced racing settings users r stepped.1 set carded)

pub returns-clause-followed : goal.returns-clause-followed
returns-clause-followed g c = λ goes settings users r stands stepped.
    let x = happened c.args.event.now c.args.facts.now in
    subst (λ (cs : List ControlAt). Followed settings (x ∷ r) c.args.facts.now cs c.follow.new.self)
    (c.self.view_is ∙ c.in_ok-begin.ensures.same goes)
    (c.follow.ensures.followed settings users (x ∷ r) stands)

pub returns-in-Emit-clause-followed : goal.returns-in-Emit-clause-followed
returns-in-Emit-clause-followed g c = λ goes settings users r stands stepped.
    let x = happened c.args.event.now c.args.facts.now in
    subst (λ (cs : List ControlAt). Followed settings (x ∷ r) c.args.facts.now cs c.begin.new.self)
    (c.in_ok-begin.ensures.same goes)
    (unmoved-by settings users r c.args.event.now c.args.facts.now c.in-Emit.is stepped.0
    c.begin.new.self)

pub returns-clause-still : goal.returns-clause-still
returns-clause-still g c = λ emits. absurd (c.in_default.not-Emit emits)

pub returns-in-Emit-clause-still : goal.returns-in-Emit-clause-still
returns-in-Emit-clause-still g c = λ emits.
    c.in_ok-begin.ensures.same (ap (λ (e : Event). is_start e) emits)

pub returns-in_err-begin-clause-still : goal.returns-in_err-begin-clause-still
returns-in_err-begin-clause-still g c = λ emits.
    c.in_err-begin.ensures.same (ap (λ (e : Event). is_start e) emits)

pub returns-clause-seats : goal.returns-clause-seats
returns-clause-seats g c =
    seats-then _ _ _ c.in_ok-begin.ensures.seats
    (subst (λ (cs : List ControlAt). KeepSeats cs c.follow.new.self) c.self.view_is
    (seats-same _ _ c.follow.ensures.same c.follow.ensures.out))

pub returns-in_err-begin-clause-seats : goal.returns-in_err-begin-clause-seats
returns-in_err-begin-clause-seats g c = c.in_err-begin.ensures.seats
