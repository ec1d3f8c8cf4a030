use Rattle.std.proofs.Common.{◌≡◌, ℕ, refl, sym, ap, ◌∙◌, subst, arith, set, List}
use Rattle.std.proofs.lemmas.Option.{slice_get_read}
use Rattle.std.specs.Prelude.{IfSome, IfNone}
use Rattle.association_slots.specs.Views.{ControlAt}
use Rattle.station_words.specs.Telling.{KeepUp}
use Rattle.station_words.specs.Ties.{tables_of, HaveKeptUp}
use Rattle.station_words.specs.Seats.{WasSeated, HasNoSeat}
use Rattle.station_words.proofs.Stations.{tables-set, said-same, was-seated, was-full, no-seat}
use Rattle.station_words.proofs.controls.Controls.seat.Goals as goal

pub returns-then-place-len-clause-same : goal.returns-then-place-len-clause-same
returns-then-place-len-clause-same c =
    let cs = c.self.inside.controls.items in
    let at = slice_get_read cs _ c.from-place.result c.index_mut.result.now refl (omega arith) c.index_mut.ensures.value in
    tables-set cs c.from-place.result c.index_mut.result.now c.seat.new.self at c.seat.ensures.same ∙ ap tables_of c.self.view_is

pub returns-then-place-len-clause-some : goal.returns-then-place-len-clause-some
returns-then-place-len-clause-some c =
    let cs = c.self.inside.controls.items in
    let at = slice_get_read cs _ c.from-place.result c.index_mut.result.now refl (omega arith) c.index_mut.ensures.value in
    let same : c.from-place.result ≡ c.args.station = c.from-place.ensures in
    subst (λ (old : List ControlAt). IfSome c.seat.result (WasSeated c.args.station old (set cs c.from-place.result c.seat.new.self))) c.self.view_is
    (subst (λ (s : ℕ). IfSome c.seat.result (WasSeated s cs (set cs c.from-place.result c.seat.new.self))) same
    (was-seated cs c.from-place.result c.index_mut.result.now c.seat.new.self c.seat.result at c.seat.ensures.some))

pub returns-then-place-len-clause-none : goal.returns-then-place-len-clause-none
returns-then-place-len-clause-none c =
    let cs = c.self.inside.controls.items in
    let at = slice_get_read cs _ c.from-place.result c.index_mut.result.now refl (omega arith) c.index_mut.ensures.value in
    subst (λ (old : List ControlAt). IfNone c.seat.result (set cs c.from-place.result c.seat.new.self ≡ old)) c.self.view_is
    (was-full cs c.from-place.result c.index_mut.result.now c.seat.new.self c.seat.result at c.seat.ensures.none)

pub returns-then-place-len-clause-keeps_up : goal.returns-then-place-len-clause-keeps_up
returns-then-place-len-clause-keeps_up c = λ settings r up.
    let cs = c.self.inside.controls.items in
    let at = slice_get_read cs _ c.from-place.result c.index_mut.result.now refl (omega arith) c.index_mut.ensures.value in
    said-same KeepUp settings r cs c.from-place.result c.index_mut.result.now c.seat.new.self (subst (HaveKeptUp settings r) (sym c.self.view_is) up) at c.seat.ensures.keeps_up

pub returns-then-place-len-clause-full : goal.returns-then-place-len-clause-full
returns-then-place-len-clause-full c =
    let cs = c.self.inside.controls.items in
    let at = slice_get_read cs _ c.from-place.result c.index_mut.result.now refl (omega arith) c.index_mut.ensures.value in
    subst (λ (old : List ControlAt). IfNone c.seat.result (HasNoSeat c.args.station old)) c.self.view_is
    (subst (λ (s : ℕ). IfNone c.seat.result (HasNoSeat s cs)) c.from-place.ensures
    (no-seat cs c.from-place.result c.index_mut.result.now c.seat.new.self c.seat.result at c.seat.ensures.none))
