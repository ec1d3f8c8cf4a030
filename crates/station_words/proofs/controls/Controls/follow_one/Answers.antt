use Rattle.std.proofs.Common.{◌∷◌, [], refl, ap, ◌∙◌, subst, arith, set, List}
use Rattle.std.proofs.lemmas.Option.{slice_get_read}
use Rattle.association_slots.specs.Views.{ControlAt}
use Rattle.station_words.specs.Ties.{tables_of, Followed}
use Rattle.station_words.specs.Seats.{NoMoreOut}
use Rattle.station_words.proofs.Out.{out-same, out-set}
use Rattle.station_words.proofs.Stations.{has-card, tables-set, followed-one, followed-none}
use Rattle.station_words.proofs.controls.Controls.follow_one.Goals as goal

pub returns-then-place-len-clause-followed : goal.returns-then-place-len-clause-followed
returns-then-place-len-clause-followed g c = λ settings users r stands.
    let cs = c.self.inside.controls.items in
    let at = slice_get_read cs _ c.from-place.result c.index_mut.result.now refl (omega arith) c.index_mut.ensures.value in
    subst (λ (old : List ControlAt). Followed settings r (c.args.fact.now ∷ []) old (set cs c.from-place.result c.moved.new.control)) c.self.view_is
    (followed-one settings r cs c.args.fact.now c.from-place.result c.index_mut.result.now c.moved.new.control c.card_of-card.result (c.from-place.ensures ∙ c.place.ensures) at
    (has-card settings r c.args.fact.now c.card_of-card.result (c.card_of-card.ensures settings users r stands)) c.moved.ensures.tells c.moved.ensures.keeps_up c.moved.ensures.seats
    (c.card_of-card.ensures settings users r stands) c.moved.ensures.cards)

pub returns-else-place-len-clause-followed : goal.returns-else-place-len-clause-followed
returns-else-place-len-clause-followed g c = λ settings users r stands.
    subst (λ (old : List ControlAt). Followed settings r (c.args.fact.now ∷ []) old old) c.self.view_is
    (followed-none settings r c.self.inside.controls.items c.args.fact.now (omega (arith, c.from-place.ensures, c.place.ensures)))

pub returns-then-place-len-clause-same : goal.returns-then-place-len-clause-same
returns-then-place-len-clause-same g c =
    let cs = c.self.inside.controls.items in
    let at = slice_get_read cs _ c.from-place.result c.index_mut.result.now refl (omega arith) c.index_mut.ensures.value in
    tables-set cs c.from-place.result c.index_mut.result.now c.moved.new.control at c.moved.ensures.same ∙ ap tables_of c.self.view_is

pub returns-then-place-len-clause-out : goal.returns-then-place-len-clause-out
returns-then-place-len-clause-out g c =
    let cs = c.self.inside.controls.items in
    let at = slice_get_read cs _ c.from-place.result c.index_mut.result.now refl (omega arith) c.index_mut.ensures.value in
    subst (λ (old : List ControlAt). NoMoreOut old (set cs c.from-place.result c.moved.new.control)) c.self.view_is
    (out-set cs c.from-place.result c.index_mut.result.now c.moved.new.control at
    (out-same c.index_mut.result.now.view c.moved.new.control.view c.moved.ensures.seats))
