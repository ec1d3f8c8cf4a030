use Rattle.std.proofs.Common.{◌≡◌, List, true, false, sym, ap, ◌∙◌, subst}
use Rattle.lan_core.specs.declared.event.Event.{Event}
use Rattle.lan_schedule.specs.inside.Recording.{is_start, KeepSeats}
use Rattle.lan_schedule.proofs.Recorded.{seats-kept, seats-started}
use Rattle.association_slots.specs.Views.{ControlAt}
use Rattle.group_safety.specs.Accounts.{blank}
use Rattle.station_words.specs.Telling.{Tells}
use Rattle.worker_races.specs.Carded.{AreCarded}
use Rattle.lan_schedule.specs.inside.Set.{AreSet}
use Rattle.lan_schedule.proofs.Ahead.{on-ok, start-ahead, start-cards, set-ahead}
use Rattle.lan_schedule.proofs.words.Words.begin.Goals as goal

pub returns-in-Start-clause-ahead : goal.returns-in-Start-clause-ahead
returns-in-Start-clause-ahead c = λ raced racing settings users before r stood stepped set.
    let law = c.law_new_words_are_tied.ensures in
    on-ok _ _ _ (start-ahead raced racing settings r c.args.event.now _ _ _ _ _ c.in-Start.is
    (λ w tied tells. law.tied settings users before r _ _ _ _ w stood stepped tied tells)
    (λ w caught tells. law.caught_up settings users before r _ _ _ _ w stood stepped caught tells)
    (λ w kept tells. law.kept_up settings users before r _ _ _ _ w stood stepped kept tells)
    (subst (λ (cs : List ControlAt). AreSet c.args.event.now raced racing settings r cs)
    (sym c.self.view_is) set)) c.start.ensures.one_more

pub returns-in_default-clause-ahead : goal.returns-in_default-clause-ahead
returns-in_default-clause-ahead c = λ raced racing settings users before r stood stepped set.
    set-ahead raced racing settings r _ c.args.event.now c.in_default.not-Start set

pub returns-in-Start-clause-seats : goal.returns-in-Start-clause-seats
returns-in-Start-clause-seats c =
    subst (λ (cs : List ControlAt). KeepSeats cs c.start.new.self) c.self.view_is
    (seats-started (λ (made : ControlAt). Tells blank made.view) _ c.start.result _ _
    (λ made tells. tells.all_in) c.start.ensures.one_more c.start.ensures.unchanged)

pub returns-in_default-clause-seats : goal.returns-in_default-clause-seats
returns-in_default-clause-seats c = seats-kept _

pub returns-in-Start-clause-same : goal.returns-in-Start-clause-same
returns-in-Start-clause-same c = λ goes.
    let starts : is_start c.args.event.now ≡ true =
    ap (λ (e : Event). is_start e) c.in-Start.is in
    absurd (let bad : false ≡ true = sym goes ∙ starts in cc)

pub returns-in-Start-clause-cards : goal.returns-in-Start-clause-cards
returns-in-Start-clause-cards c = λ raced racing settings users r stepped set carded.
    on-ok _ _ _ (start-cards raced racing settings r c.args.event.now _ _ _ _ _ c.in-Start.is
    (λ w many were.
    c.law_new_words_owe_no_card.ensures settings users r _ w stepped many were)
    (subst (λ (cs : List ControlAt). AreSet c.args.event.now raced racing settings r cs)
    (sym c.self.view_is) set)
    (subst (λ (cs : List ControlAt). AreCarded settings r cs) (sym c.self.view_is) carded))
    c.start.ensures.one_more

pub returns-in_default-clause-cards : goal.returns-in_default-clause-cards
returns-in_default-clause-cards c = λ raced racing settings users r stepped set carded. carded
