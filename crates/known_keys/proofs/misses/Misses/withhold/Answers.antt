use Rattle.std.proofs.Common.{refl, sym, subst}
use Rattle.known_keys.specs.Maps.{Missed}
use Rattle.known_keys.specs.declared.giving.NoSak.{NoSak}
use Rattle.known_keys.specs.inside.Missing.{IsWithheld}
use Rattle.known_keys.proofs.misses.Misses.withhold.Goals as goal

pub returns-in_ok-insert-in-OtherSuite : goal.returns-in_ok-insert-in-OtherSuite
returns-in_ok-insert-in-OtherSuite c =
    let d = c.self.inside in
    let old : Missed = record { offsets = d.offsets.entries; suites = d.suites.keys; wraps = d.wraps.keys; named = d.named; strange = d.strange.keys } in
    let new : Missed = record old { suites = c.insert.new.self.keys; named = c.put.new.self } in
    let is_first = c.in_ok-insert-in-OtherSuite.field-0 in
    subst (λ (m : Missed). IsWithheld c.args.an c.args.it c.args.nanos c.args.why m new is_first) c.self.view_is
    (subst (λ (why : NoSak). IsWithheld c.args.an c.args.it c.args.nanos why old new is_first) (sym c.in-OtherSuite.is)
    (record {
      named = c.in_ok-put.ensures;
      offsets = refl;
      suites = λ q. c.in_ok-insert-in-OtherSuite.ensures.updates.0 q;
      wraps = refl;
      strange = refl;
      first = c.in_ok-insert-in-OtherSuite.ensures.added;
    }))

pub returns-in_ok-insert-in-WrongWrap : goal.returns-in_ok-insert-in-WrongWrap
returns-in_ok-insert-in-WrongWrap c =
    let d = c.self.inside in
    let old : Missed = record { offsets = d.offsets.entries; suites = d.suites.keys; wraps = d.wraps.keys; named = d.named; strange = d.strange.keys } in
    let new : Missed = record old { wraps = c.insert-in-WrongWrap.new.self.keys; named = c.put.new.self } in
    let is_first = c.in_ok-insert-in-WrongWrap.field-0 in
    subst (λ (m : Missed). IsWithheld c.args.an c.args.it c.args.nanos c.args.why m new is_first) c.self.view_is
    (subst (λ (why : NoSak). IsWithheld c.args.an c.args.it c.args.nanos why old new is_first) (sym c.in-WrongWrap.is)
    (record {
      named = c.in_ok-put.ensures;
      offsets = refl;
      suites = refl;
      wraps = λ q. c.in_ok-insert-in-WrongWrap.ensures.updates.0 q;
      strange = refl;
      first = c.in_ok-insert-in-WrongWrap.ensures.added;
    }))
