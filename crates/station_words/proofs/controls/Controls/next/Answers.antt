use Rattle.std.proofs.Common.{◌≡◌, ℕ, List, Some, refl, sym, ap, ◌∙◌, subst, arith, set}
use Rattle.std.proofs.lemmas.Option.{slice_get_read}
use Rattle.std.specs.Prelude.{slice_get}
use Rattle.association_slots.specs.Views.{ControlAt}
use Rattle.station_words.specs.Ties.{HaveLooked}
use Rattle.lan_core.specs.declared.event.Event.TheVariants as events
use Rattle.group_safety.proofs.Public.{next-told}
use Rattle.station_words.specs.Telling.{KeepUp, CatchUp}
use Rattle.station_words.specs.Ties.{tables_of, AreTied, AreAhead, HaveKeptUp, KeepAhead, HaveCaughtUp, CaughtAhead}
use Rattle.station_words.proofs.Stations.{looked-none, looked-set, tables-set, next-all, said-shown, said-ahead, said-near}
use Rattle.station_words.proofs.controls.Controls.next.Goals as goal

pub returns-then-place-len-clause-next : goal.returns-then-place-len-clause-next
returns-then-place-len-clause-next c = λ settings r tied there.
    let cs = c.self.inside.controls.items in
    let at = slice_get_read cs _ c.from-place.result c.index_mut.result.now refl (omega arith) c.index_mut.ensures.value in
    let at_s = subst (λ (p : ℕ). slice_get cs p ≡ Some c.index_mut.result.now) c.from-place.ensures at in
    (next-all settings r cs c.args.station c.index_mut.result.now c.next.new.self (subst (AreTied settings r) (sym c.self.view_is) tied) at_s (next-told settings c.args.station r) c.next.result c.next.ensures.next c.next.ensures.tells).0

pub returns-then-place-len-clause-ahead : goal.returns-then-place-len-clause-ahead
returns-then-place-len-clause-ahead c = λ settings r tied there.
    let cs = c.self.inside.controls.items in
    let at = slice_get_read cs _ c.from-place.result c.index_mut.result.now refl (omega arith) c.index_mut.ensures.value in
    let same : c.from-place.result ≡ c.args.station = c.from-place.ensures in
    let at_s = subst (λ (p : ℕ). slice_get cs p ≡ Some c.index_mut.result.now) same at in
    subst (λ (p : ℕ). AreAhead settings r (events.Tick c.args.station c.next.result) (set cs p c.next.new.self)) (sym same)
    (next-all settings r cs c.args.station c.index_mut.result.now c.next.new.self (subst (AreTied settings r) (sym c.self.view_is) tied) at_s (next-told settings c.args.station r) c.next.result c.next.ensures.next c.next.ensures.tells).1

pub returns-then-place-len-clause-same : goal.returns-then-place-len-clause-same
returns-then-place-len-clause-same c =
    let cs = c.self.inside.controls.items in
    let at = slice_get_read cs _ c.from-place.result c.index_mut.result.now refl (omega arith) c.index_mut.ensures.value in
    tables-set cs c.from-place.result c.index_mut.result.now c.next.new.self at c.next.ensures.same ∙ ap tables_of c.self.view_is

pub returns-then-place-len-clause-not_below : goal.returns-then-place-len-clause-not_below
returns-then-place-len-clause-not_below c = λ settings r up there.
    let cs = c.self.inside.controls.items in
    let at = slice_get_read cs _ c.from-place.result c.index_mut.result.now refl (omega arith) c.index_mut.ensures.value in
    let at_s = subst (λ (p : ℕ). slice_get cs p ≡ Some c.index_mut.result.now) c.from-place.ensures at in
    said-ahead KeepUp settings r cs c.args.station c.index_mut.result.now c.next.new.self (subst (HaveKeptUp settings r) (sym c.self.view_is) up) at_s (next-told settings c.args.station r) c.next.result c.next.ensures.not_below

pub returns-then-place-len-clause-keeps_up : goal.returns-then-place-len-clause-keeps_up
returns-then-place-len-clause-keeps_up c = λ settings r up there.
    let cs = c.self.inside.controls.items in
    let at = slice_get_read cs _ c.from-place.result c.index_mut.result.now refl (omega arith) c.index_mut.ensures.value in
    let same : c.from-place.result ≡ c.args.station = c.from-place.ensures in
    let at_s = subst (λ (p : ℕ). slice_get cs p ≡ Some c.index_mut.result.now) same at in
    subst (λ (p : ℕ). KeepAhead settings r (events.Tick c.args.station c.next.result) (set cs p c.next.new.self)) (sym same)
    (said-shown KeepUp settings r cs c.args.station c.index_mut.result.now c.next.new.self (subst (HaveKeptUp settings r) (sym c.self.view_is) up) at_s c.next.result c.next.ensures.keeps_up)

pub returns-then-place-len-clause-catches_up : goal.returns-then-place-len-clause-catches_up
returns-then-place-len-clause-catches_up c = λ settings r caught there.
    let cs = c.self.inside.controls.items in
    let at = slice_get_read cs _ c.from-place.result c.index_mut.result.now refl (omega arith) c.index_mut.ensures.value in
    let same : c.from-place.result ≡ c.args.station = c.from-place.ensures in
    let at_s = subst (λ (p : ℕ). slice_get cs p ≡ Some c.index_mut.result.now) same at in
    let had = subst (HaveCaughtUp settings r) (sym c.self.view_is) caught in (
      said-near CatchUp settings r cs c.args.station c.index_mut.result.now c.next.new.self had at_s (next-told settings c.args.station r) c.next.result (λ m t. (c.next.ensures.catches_up m t).0),
      subst (λ (p : ℕ). CaughtAhead settings r (events.Tick c.args.station c.next.result) (set cs p c.next.new.self)) (sym same)
          (said-shown CatchUp settings r cs c.args.station c.index_mut.result.now c.next.new.self had at_s c.next.result (λ m t. (c.next.ensures.catches_up m t).1)),
    )

pub returns-then-place-len-clause-looked : goal.returns-then-place-len-clause-looked
returns-then-place-len-clause-looked c =
    let cs = c.self.inside.controls.items in
    let at = slice_get_read cs _ c.from-place.result c.index_mut.result.now refl (omega arith) c.index_mut.ensures.value in
    subst (λ (old : List ControlAt). HaveLooked old (set cs c.from-place.result c.next.new.self)) c.self.view_is
    (looked-set cs c.from-place.result c.index_mut.result.now c.next.new.self at c.next.ensures.points c.next.ensures.seats c.next.ensures.cards
    (λ settings r up. (
      c.from-place.result,
      c.next.result,
      said-shown KeepUp settings r cs c.from-place.result c.index_mut.result.now c.next.new.self up at c.next.result c.next.ensures.keeps_up,
    )))

pub returns-else-place-len-clause-looked : goal.returns-else-place-len-clause-looked
returns-else-place-len-clause-looked c =
    subst (λ (old : List ControlAt). HaveLooked old old) c.self.view_is (looked-none c.self.inside.controls.items)
