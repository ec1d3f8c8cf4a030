use Rattle.std.proofs.Common.{◌≡◌, sym, ap, ◌∙◌, subst, arith}
use Rattle.cak_roll.specs.Twin.{adopters, place_among, place_in}
use Rattle.cak_roll.specs.Standing.{AreMembers}
use Rattle.cak_roll.proofs.MembersFollow.{few-adopters, place-within}
use Rattle.cak_roll.proofs.members.Members.place.Goals as goal

pub returns-in-Second : goal.returns-in-Second
returns-in-Second c = λ pair users t run are.
    let st = subst (AreMembers t) (sym c.self.view_is) are in
    let at : c.position.result ≡ place_among c.args.station c.self.inside.adopters.items =
    rw c.deref.ensures.value at c.position.ensures in
    let is : c.position.result ≡ place_among c.args.station (adopters t) =
    at ∙ ap (place_among c.args.station) st.adopters in
    let few = few-adopters pair users t run in
    let within = place-within c.args.station (adopters t) in
    subst (λ g. c.octet_of.result ≡ place_in g c.args.station t) (sym c.in-Second.is)
    (c.octet_of.ensures (omega (arith, few, within, is)) ∙ is)
