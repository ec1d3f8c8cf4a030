use Rattle.std.proofs.Common.{List, sym, subst}
use Rattle.association_slots.specs.Views.{ControlAt}
use Rattle.lan_core.specs.declared.event.Event.TheVariants.{Tick}
use Rattle.lan_schedule.specs.Stages.{Says}
use Rattle.lan_schedule.proofs.Ahead.{given-by, ahead-by}
use Rattle.lan_schedule.proofs.words.Words.next.Goals as goal

pub returns-clause-next : goal.returns-clause-next
returns-clause-next c = λ raced racing settings r says there.
    given-by raced racing settings r c.args.station c.next.result c.self.inside.controls
    (λ tied. c.next.ensures.next settings r tied there)
    (λ kept. c.next.ensures.not_below settings r kept there)
    (subst (λ (cs : List ControlAt). Says raced racing settings r cs) (sym c.self.view_is) says)

pub returns-clause-ahead : goal.returns-clause-ahead
returns-clause-ahead c = λ raced racing settings r says there.
    ahead-by raced racing settings r (Tick c.args.station c.next.result) c.self.inside.controls _
    (λ tied. c.next.ensures.ahead settings r tied there)
    (λ caught. (c.next.ensures.catches_up settings r caught there).1)
    (λ kept. c.next.ensures.keeps_up settings r kept there)
    (subst (λ (cs : List ControlAt). Says raced racing settings r cs) (sym c.self.view_is) says)
