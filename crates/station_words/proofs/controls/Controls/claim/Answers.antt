use Rattle.std.proofs.Common.{◌≡◌, ℕ, List, Some, refl, sym, ap, ◌∙◌, subst, arith, set}
use Rattle.std.proofs.lemmas.Option.{slice_get_read}
use Rattle.std.specs.Prelude.{slice_get}
use Rattle.lan_core.specs.declared.event.Event.TheVariants as events
use Rattle.association_slots.specs.Views.{ControlAt}
use Rattle.group_safety.proofs.Public.{next-told}
use Rattle.station_words.specs.Telling.{KeepUp, CatchUp}
use Rattle.station_words.specs.Ties.{tables_of, AreTied, AreAhead, HaveKeptUp, KeepAhead, HaveCaughtUp, CaughtAhead, KeepCards}
use Rattle.station_words.specs.Seats.{AreAllIn, HasGot, NoMoreOut}
use Rattle.station_words.proofs.Out.{out-set}
use Rattle.station_words.proofs.Stations.{tables-set, claim-all, said-gained, all-in-set, cards-set, cards-kept, number_of}
use Rattle.station_words.proofs.controls.Controls.claim.Goals.{in-Ok, in-Err}
use Rattle.station_words.proofs.controls.Controls.claim.Goals as goal

pub returns-after-claim-clause-claimed : goal.returns-after-claim-clause-claimed
returns-after-claim-clause-claimed g c = λ settings r tied there low.
    let cs = c.self.inside.controls.items in
    let at = slice_get_read cs _ c.from-place.result c.index_mut.result.now refl (omega arith) c.index_mut.ensures.value in
    let at_s = subst (λ (p : ℕ). slice_get cs p ≡ Some c.index_mut.result.now) c.from-place.ensures at in
    let number : c.match-claim.result ≡ number_of c.claim.result = elim c.match-claim.branch [
      | in-Ok w ↦ w.result-is ∙ sym (ap number_of w.in-Ok.is)
      | in-Err w ↦ w.result-is ∙ sym (ap number_of w.in-Err.is)
    ] in
    (claim-all settings r cs c.args.station c.index_mut.result.now c.claim.new.self (subst (AreTied settings r) (sym c.self.view_is) tied) at_s (next-told settings c.args.station r) 0 c.match-claim.result c.claim.result number low c.claim.ensures.claimed).0

pub returns-after-claim-clause-ahead : goal.returns-after-claim-clause-ahead
returns-after-claim-clause-ahead g c = λ settings r user tied there low.
    let cs = c.self.inside.controls.items in
    let at = slice_get_read cs _ c.from-place.result c.index_mut.result.now refl (omega arith) c.index_mut.ensures.value in
    let same : c.from-place.result ≡ c.args.station = c.from-place.ensures in
    let at_s = subst (λ (p : ℕ). slice_get cs p ≡ Some c.index_mut.result.now) same at in
    let number : c.match-claim.result ≡ number_of c.claim.result = elim c.match-claim.branch [
      | in-Ok w ↦ w.result-is ∙ sym (ap number_of w.in-Ok.is)
      | in-Err w ↦ w.result-is ∙ sym (ap number_of w.in-Err.is)
    ] in
    subst (λ (p : ℕ). AreAhead settings r (events.Claim c.args.station user c.match-claim.result) (set cs p c.claim.new.self)) (sym same)
    (claim-all settings r cs c.args.station c.index_mut.result.now c.claim.new.self (subst (AreTied settings r) (sym c.self.view_is) tied) at_s (next-told settings c.args.station r) user c.match-claim.result c.claim.result number low c.claim.ensures.claimed).1

pub returns-after-claim-clause-same : goal.returns-after-claim-clause-same
returns-after-claim-clause-same g c =
    let cs = c.self.inside.controls.items in
    let at = slice_get_read cs _ c.from-place.result c.index_mut.result.now refl (omega arith) c.index_mut.ensures.value in
    tables-set cs c.from-place.result c.index_mut.result.now c.claim.new.self at c.claim.ensures.same ∙ ap tables_of c.self.view_is

pub returns-after-claim-clause-gained : goal.returns-after-claim-clause-gained
returns-after-claim-clause-gained g c = λ settings r user up all_in there.
    let cs = c.self.inside.controls.items in
    let at = slice_get_read cs _ c.from-place.result c.index_mut.result.now refl (omega arith) c.index_mut.ensures.value in
    let same : c.from-place.result ≡ c.args.station = c.from-place.ensures in
    let at_s = subst (λ (p : ℕ). slice_get cs p ≡ Some c.index_mut.result.now) same at in
    let number : c.match-claim.result ≡ number_of c.claim.result = elim c.match-claim.branch [
      | in-Ok w ↦ w.result-is ∙ sym (ap number_of w.in-Ok.is)
      | in-Err w ↦ w.result-is ∙ sym (ap number_of w.in-Err.is)
    ] in
    let kept = subst (HaveKeptUp settings r) (sym c.self.view_is) up in
    let ins = subst AreAllIn (sym c.self.view_is) all_in in
    let by = said-gained KeepUp settings r cs c.args.station c.index_mut.result.now c.claim.new.self kept at_s (next-told settings c.args.station r) (λ a u. u) user c.match-claim.result c.claim.result number
    (c.claim.ensures.gained _ (kept.each c.args.station c.index_mut.result.now at_s).2 (ins c.args.station c.index_mut.result.now at_s)) in (
      subst (λ (old : List ControlAt). HasGot settings c.args.station r old c.match-claim.result) c.self.view_is by.0,
      subst (λ (p : ℕ). KeepAhead settings r (events.Claim c.args.station user c.match-claim.result) (set cs p c.claim.new.self)) (sym same) by.1,
    )

pub returns-after-claim-clause-catches_up : goal.returns-after-claim-clause-catches_up
returns-after-claim-clause-catches_up g c = λ settings r user up there.
    let cs = c.self.inside.controls.items in
    let at = slice_get_read cs _ c.from-place.result c.index_mut.result.now refl (omega arith) c.index_mut.ensures.value in
    let same : c.from-place.result ≡ c.args.station = c.from-place.ensures in
    let at_s = subst (λ (p : ℕ). slice_get cs p ≡ Some c.index_mut.result.now) same at in
    let number : c.match-claim.result ≡ number_of c.claim.result = elim c.match-claim.branch [
      | in-Ok w ↦ w.result-is ∙ sym (ap number_of w.in-Ok.is)
      | in-Err w ↦ w.result-is ∙ sym (ap number_of w.in-Err.is)
    ] in
    let kept = subst (HaveCaughtUp settings r) (sym c.self.view_is) up in
    let by = said-gained CatchUp settings r cs c.args.station c.index_mut.result.now c.claim.new.self kept at_s (next-told settings c.args.station r) (λ a u. u.keep_up) user c.match-claim.result c.claim.result number
    (c.claim.ensures.catches_up _ (kept.each c.args.station c.index_mut.result.now at_s).2) in (
      subst (λ (old : List ControlAt). HasGot settings c.args.station r old c.match-claim.result) c.self.view_is by.0,
      subst (λ (p : ℕ). CaughtAhead settings r (events.Claim c.args.station user c.match-claim.result) (set cs p c.claim.new.self)) (sym same) by.1,
    )

pub returns-after-claim-clause-all_in : goal.returns-after-claim-clause-all_in
returns-after-claim-clause-all_in g c = λ all_in.
    let cs = c.self.inside.controls.items in
    let at = slice_get_read cs _ c.from-place.result c.index_mut.result.now refl (omega arith) c.index_mut.ensures.value in
    all-in-set cs c.from-place.result c.index_mut.result.now c.claim.new.self at c.claim.ensures.all_in (subst AreAllIn (sym c.self.view_is) all_in)

pub returns-after-claim-clause-cards : goal.returns-after-claim-clause-cards
returns-after-claim-clause-cards g c =
    let cs = c.self.inside.controls.items in
    let at = slice_get_read cs _ c.from-place.result c.index_mut.result.now refl (omega arith) c.index_mut.ensures.value in
    subst (λ (old : List ControlAt). KeepCards old (set cs c.from-place.result c.claim.new.self)) c.self.view_is
    (cards-set cs c.from-place.result c.index_mut.result.now c.claim.new.self at c.claim.ensures.cards)

pub returns-else-place-len-clause-cards : goal.returns-else-place-len-clause-cards
returns-else-place-len-clause-cards g c =
    subst (λ (old : List ControlAt). KeepCards old old) c.self.view_is (cards-kept c.self.inside.controls.items)

pub returns-after-claim-clause-out : goal.returns-after-claim-clause-out
returns-after-claim-clause-out g c =
    let cs = c.self.inside.controls.items in
    let at = slice_get_read cs _ c.from-place.result c.index_mut.result.now refl (omega arith) c.index_mut.ensures.value in
    subst (λ (old : List ControlAt). NoMoreOut old (set cs c.from-place.result c.claim.new.self)) c.self.view_is
    (out-set cs c.from-place.result c.index_mut.result.now c.claim.new.self at c.claim.ensures.out)
