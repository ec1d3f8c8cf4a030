use Rattle.std.proofs.Common.{◌≡◌, ◌∙◌, ◌++◌, ◌<◌, ◌-◌, ℕ, sym, ap, refl, arith, drop, length, take, inl, inr}
use Rattle.std.specs.Prelude.{nat_lt}
use Rattle.std.proofs.lemmas.Bool.{ltb-true}
use Rattle.std.proofs.lemmas.List.{drop-append-le}
use Rattle.octet_supply.specs.Supplying.{Held}
use Rattle.octet_supply.proofs.Supplies.{front-of, fills-past, fills-more}
use Rattle.octet_supply.proofs.supply.Supply.hold.Goals as goal

pub returns-then-count-eq0-clause-fills : goal.returns-then-count-eq0-clause-fills
returns-then-count-eq0-clause-fills c = λ limit text given rest s none.
    let old = c.args.self.now in
    let octets = c.args.octets.now in
    let count = c.min-count.result in
    let f = front-of limit text given old (octets ++ rest) c.requires.within s in
    let same = c.self.view_is ∙ c.forget.ensures.same in
    let start = c.self.inside.start in
    let room : c.self.inside.room ≡ old.room = ap (λ (h : Held). h.room) same in
    let given_is : c.self.inside.given ≡ old.given = ap (λ (h : Held). h.given) same in
    let past : c.self.inside.room < length octets = ltb-true _ _ c.if-self.true in
    let items : drop start c.extend_from_slice.new.self.items ≡ old.octets ++ take count octets =
    ap (drop start) c.in_ok-extend_from_slice.ensures.items
    ∙ drop-append-le start c.self.inside.piece.items (take count octets) c.self.invariant.0
    ∙ ap (λ (h : Held). h.octets ++ take count octets) same in
    fills-past limit text given octets rest old
    (record { octets = drop start c.extend_from_slice.new.self.items; given = c.self.inside.given; room = c.self.inside.room - count; past = nat_lt c.self.inside.room (length octets) })
    count s.count f c.requires.few (omega (arith, room, past))
    (omega (arith, c.min-count.ensures, room)) c.if-count-eq0.true
    (λ i. record { octets = items i; given = given_is i; room = room i - count; past = c.if-self.true i })

pub returns-clause-fills : goal.returns-clause-fills
returns-clause-fills c = λ limit text given rest s none.
    let old = c.args.self.now in
    let octets = c.args.octets.now in
    let count = c.min-count.result in
    let f = front-of limit text given old (octets ++ rest) c.requires.within s in
    let same = c.self.view_is ∙ c.forget.ensures.same in
    let start = c.self.inside.start in
    let room : c.self.inside.room ≡ old.room = ap (λ (h : Held). h.room) same in
    let given_is : c.self.inside.given ≡ old.given = ap (λ (h : Held). h.given) same in
    let past = nat_lt c.self.inside.room (length octets) in
    let items : drop start c.extend_from_slice.new.self.items ≡ old.octets ++ take count octets =
    ap (drop start) c.in_ok-extend_from_slice.ensures.items
    ∙ drop-append-le start c.self.inside.piece.items (take count octets) c.self.invariant.0
    ∙ ap (λ (h : Held). h.octets ++ take count octets) same in
    fills-more past (nat_lt 0 count) limit text given octets rest old
    (record { octets = drop start c.extend_from_slice.new.self.items; given = c.self.inside.given; room = c.self.inside.room - count; past = past })
    count s.count f c.requires.few none
    (ap (λ (k : ℕ). nat_lt k (length octets)) room) refl
    (omega (arith, c.min-count.ensures, room))
    (λ i. record { octets = items i; given = given_is i; room = room i - count; past = past })
    (λ is. elim c.else-self.either [
      | inl w ↦ omega (arith, w.1)
      | inr w ↦ absurd (cc (sym is ∙ w))
    ])
