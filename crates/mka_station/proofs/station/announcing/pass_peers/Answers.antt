use Rattle.std.proofs.Common.{◌∙◌, ◌+◌, ◌∷◌, ℕ, refl, subst}
use Rattle.peer_lists.specs.Histories.{last_sent, may_send, sent, ticked}
use Rattle.peer_lists.specs.Table.{StandsFor as PeersStandFor}
use Rattle.mka_station.proofs.Counts.{counted-next, next-counted}
use Rattle.mka_station.proofs.station.announcing.pass_peers.Goals as goal

pub sent-requires-clause-next : goal.sent-requires-clause-next
sent-requires-clause-next c = λ own h ps. (next-counted (may_send h) (last_sent h + 1) 4294967296 c.in-Some.mn c.next_number.result (c.next_number.ensures own h ps) c.in-Some.is).0

pub sent-requires-clause-once : goal.sent-requires-clause-once
sent-requires-clause-once c = λ own h ps. (next-counted (may_send h) (last_sent h + 1) 4294967296 c.in-Some.mn c.next_number.result (c.next_number.ensures own h ps) c.in-Some.is).1

pub returns-in-Some-clause-stands : goal.returns-in-Some-clause-stands
returns-in-Some-clause-stands c = λ own h s few.
    let g = ticked ∷ h in
    let t = c.tick.ensures.stands own h s in
    let n = (next-counted (may_send g) (last_sent g + 1) 4294967296 c.in-Some.mn c.next_number.result (c.next_number.ensures own g t) c.in-Some.is).0 in
    rw c.if-announced.true (subst (λ (x : ℕ). PeersStandFor own c.sent.new.self (sent x ∷ g)) n (c.sent.ensures.stands own g t))

pub returns-in_default-clause-stands : goal.returns-in_default-clause-stands
returns-in_default-clause-stands c = λ own h s few.
    let g = ticked ∷ h in
    let n = counted-next (may_send g) (last_sent g + 1) 4294967296 c.next_number.result (c.next_number.ensures own g (c.tick.ensures.stands own h s)) refl few in absurd (cc (n, c.in_default.is))

pub returns-in-Some-clause-shown : goal.returns-in-Some-clause-shown
returns-in-Some-clause-shown c = c.sent.ensures.shown ∙ c.tick.ensures.shown
