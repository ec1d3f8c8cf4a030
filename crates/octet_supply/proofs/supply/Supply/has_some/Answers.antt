use Rattle.std.proofs.Common.{◌∙◌, ap, arith, inl, inr, length, length-drop, refl, sym}
use Rattle.octet_supply.specs.Supplying.{Held}
use Rattle.octet_supply.proofs.Supplies.{fills-none, no-octets}
use Rattle.octet_supply.proofs.supply.Supply.has_some.Goals as goal

pub returns-clause-fills : goal.returns-clause-fills
returns-clause-fills g c = λ limit text given s.
    let view = ap (λ (h : Held). length h.octets) c.self.view_is in
    let long = length-drop c.self.inside.start c.self.inside.piece.items in
    fills-none limit text given c.args.self.now.octets _ _ c.ask.result
    (no-octets c.args.self.now.octets (omega (arith, view, long, c.len.ensures, c.if-self-len.false)))
    (c.ask.ensures.fills limit text given s)

pub returns-then-self-len-clause-asks : goal.returns-then-self-len-clause-asks
returns-then-self-len-clause-asks g c = inl (record { source = refl; same = refl; answer = inl refl })

pub returns-then-self-clause-asks : goal.returns-then-self-clause-asks
returns-then-self-clause-asks g c = inl (record { source = refl; same = refl; answer = inr refl })

pub returns-clause-asks : goal.returns-clause-asks
returns-clause-asks g c =
    let view = ap (λ (h : Held). length h.octets) c.self.view_is in
    let long = length-drop c.self.inside.start c.self.inside.piece.items in
    inr (record {
      none = no-octets c.args.self.now.octets (omega (arith, view, long, c.len.ensures, c.if-self-len.false));
      calm = sym (ap (λ (h : Held). h.past) c.self.view_is) ∙ c.if-self.false;
      once = c.ask.ensures.asks;
    })
