use Rattle.std.proofs.Common.{◌≡◌, ◌∙◌, ap, subst, sym}
use Rattle.sak_exchange.specs.Held.{latest, old}
use Rattle.lan_core.specs.Lives.{keys_in, receiving, lowest_under}
use Rattle.lan_core.specs.Standing.{Seat, Sits}
use Rattle.lan_core.specs.inside.Following.{lowest_held}
use Rattle.lan_core.proofs.SlotsFollow.{lowest-same}
use Rattle.lan_core.proofs.seat.Seat.seen.Goals as goal

pub returns : goal.returns
returns c = λ settings place r l sits.
    let s = subst (λ (seat : Seat). Sits settings.window l (receiving place r) seat) (sym c.self.view_is) sits in
    let own = l.member.setup.sci in
    let h = receiving place r in
    let first : c.lowest_under.result ≡ lowest_under settings own h (latest (keys_in l)) =
    c.lowest_under.ensures own settings.window h s.slots
    ∙ (ap (lowest_held own settings.window h) (c.latest.ensures l.member l.past s.station) ∙ lowest-same settings own h (keys_in l) (latest (keys_in l))) in
    let second : c.lowest_under-2.result ≡ lowest_under settings own h (old (keys_in l)) =
    c.lowest_under-2.ensures own settings.window h s.slots
    ∙ (ap (lowest_held own settings.window h) (c.old.ensures l.member l.past s.station) ∙ lowest-same settings own h (keys_in l) (old (keys_in l))) in
    (λ i. record { next = c.args.next; latest = first i; old = second i })
