use Rattle.std.proofs.Common.{◌≡◌, ℕ, refl, sym, ap, ◌∙◌, subst, arith, set, List}
use Rattle.std.proofs.lemmas.Option.{slice_get_read}
use Rattle.association_slots.specs.Views.{ControlAt}
use Rattle.station_words.specs.Telling.{KeepUp}
use Rattle.station_words.specs.Ties.{tables_of, HaveKeptUp}
use Rattle.station_words.specs.Seats.{HasJoined}
use Rattle.station_words.proofs.Stations.{tables-set, said-same, has-joined}
use Rattle.station_words.proofs.controls.Controls.join.Goals as goal

pub returns-then-place-len-clause-same : goal.returns-then-place-len-clause-same
returns-then-place-len-clause-same c =
    let cs = c.self.inside.controls.items in
    let at = slice_get_read cs _ c.from-place.result c.index_mut.result.now refl (omega arith) c.index_mut.ensures.value in
    tables-set cs c.from-place.result c.index_mut.result.now c.join.new.self at c.join.ensures.same ∙ ap tables_of c.self.view_is

pub returns-then-place-len-clause-told : goal.returns-then-place-len-clause-told
returns-then-place-len-clause-told c =
    let cs = c.self.inside.controls.items in
    let at = slice_get_read cs _ c.from-place.result c.index_mut.result.now refl (omega arith) c.index_mut.ensures.value in
    let same : c.from-place.result ≡ c.args.station = c.from-place.ensures in
    subst (λ (old : List ControlAt). HasJoined c.args.station c.args.seat old (set cs c.from-place.result c.join.new.self)) c.self.view_is
    (subst (λ (s : ℕ). HasJoined s c.args.seat cs (set cs c.from-place.result c.join.new.self)) same
    (has-joined cs c.from-place.result c.index_mut.result.now c.join.new.self c.args.seat at c.join.ensures.told c.join.ensures.learned))

pub returns-then-place-len-clause-keeps_up : goal.returns-then-place-len-clause-keeps_up
returns-then-place-len-clause-keeps_up c = λ settings r up.
    let cs = c.self.inside.controls.items in
    let at = slice_get_read cs _ c.from-place.result c.index_mut.result.now refl (omega arith) c.index_mut.ensures.value in
    said-same KeepUp settings r cs c.from-place.result c.index_mut.result.now c.join.new.self (subst (HaveKeptUp settings r) (sym c.self.view_is) up) at c.join.ensures.keeps_up
