use Rattle.std.proofs.Common.{◌∙◌, ap, subst, sym}
use Rattle.std.specs.Option.{option_or}
use Rattle.sak_exchange.specs.Held.{latest, old}
use Rattle.lan_core.specs.Lives.{keys_in}
use Rattle.lan_core.specs.Standing.{Seat, Sits}
use Rattle.lan_core.proofs.HeldByNumber.{held_numbered, of-two}
use Rattle.lan_core.proofs.seat.Seat.held.Goals as goal

pub returns : goal.returns
returns c = λ window l h sits.
    let s = subst (λ (seat : Seat). Sits window l h seat) (sym c.self.view_is) sits in
    let first = c.with_number-latest.ensures ∙ ap (held_numbered c.args.an) (c.latest.ensures l.member l.past s.station) in
    let second = c.with_number.ensures ∙ ap (held_numbered c.args.an) (c.old.ensures l.member l.past s.station) in
    c.or.ensures ∙ (λ i. option_or (first i) (second i)) ∙ of-two (keys_in l) c.args.an (latest (keys_in l)) (old (keys_in l))
