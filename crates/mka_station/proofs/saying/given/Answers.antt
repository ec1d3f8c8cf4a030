use Rattle.std.proofs.Common.{◌∙◌, Some, ap, sym}
use Rattle.sak_exchange.specs.Held.{latest}
use Rattle.mka_station.proofs.Keys.{key-told}
use Rattle.mka_station.proofs.Uses.{unserved, ungiven-none, ungiven, given-held}
use Rattle.mka_station.proofs.saying.given.Goals as goal

pub returns-then-not-serves-clause-value : goal.returns-then-not-serves-clause-value
returns-then-not-serves-clause-value c = λ base own h s. unserved c.args.kek.now c.args.live.now h c.args.serves c.if-not-serves.true

pub returns-in_default-clause-value : goal.returns-in_default-clause-value
returns-in_default-clause-value c = λ base own h s.
    let l = key-told h (latest h) c.latest.result c.key_of.result c.key_of.ensures (c.latest.ensures base own _ h s) in ungiven-none c.args.kek.now c.args.serves c.args.live.now h (sym l ∙ c.in_default.is)

pub returns-then-not-is_given-clause-value : goal.returns-then-not-is_given-clause-value
returns-then-not-is_given-clause-value c = λ base own h s.
    let l = key-told h (latest h) c.latest.result c.key_of.result c.key_of.ensures (c.latest.ensures base own _ h s) in
    ungiven c.args.kek.now c.args.serves c.args.live.now h c.in-Some.key (sym l ∙ c.in-Some.is) (sym (c.is_given.ensures base own h s) ∙ c.if-not-is_given.true)

pub returns-clause-value : goal.returns-clause-value
returns-clause-value c = λ base own h s.
    let l = key-told h (latest h) c.latest.result c.key_of.result c.key_of.ensures (c.latest.ensures base own _ h s) in
    ap Some c.given_as.ensures.value ∙ given-held c.args.kek.now c.args.serves c.args.live.now h c.in-Some.key c.if-not-serves.false (sym l ∙ c.in-Some.is) (sym (c.is_given.ensures base own h s) ∙ c.if-not-is_given.false)
