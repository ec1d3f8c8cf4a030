use Rattle.std.proofs.Common.{◌≡◌, ◌∙◌, ◌+◌, List, refl, ap, subst, sym, arith}
use Rattle.rx_slots.specs.Standing.{StandsFor as SlotsStandFor}
use Rattle.sak_exchange.specs.declared.change.Change.{Change}
use Rattle.sak_exchange.proofs.Public.{by_test}
use Rattle.mka_station.specs.declared.reaction.Reaction.{Reaction}
use Rattle.mka_station.specs.Drawing.{sak_of, is_short}
use Rattle.mka_station.specs.Tick.{tick_turn}
use Rattle.lan_core.specs.Lives.{lived}
use Rattle.lan_core.specs.Standing.{Seat, Sits}
use Rattle.lan_core.specs.inside.Following.{followed, count_installed}
use Rattle.lan_core.proofs.SlotsFollow.{tick-count}
use Rattle.lan_core.proofs.SeatGoesOn.{alive-ticked, alive, sits-with}
use Rattle.lan_core.proofs.seat.Seat.advance.Goals as goal

pub installs_after-self-inside-requires : goal.installs_after-self-inside-requires
installs_after-self-inside-requires g c =
    let l = c.self.invariant.0 in
    let s = c.self.invariant.1 in
    let sak = sak_of l.member.setup.suite (g.D.Draws.nth c.args.draws.now) in
    let is = c.as_slice-changes.ensures ∙ ap (λ (r : Reaction). r.changes) (c.in_ok-reaction.ensures.reaction l.member l.past s.station) in
    omega (
      arith,
      ap count_installed is,
      tick-count l.member c.args.seen.now sak l.past,
      c.law_turns_count.ensures.ticked l.member c.args.seen.now sak l.past,
      c.requires.installs,
      ap (λ (seat : Seat). seat.installs) c.self.view_is,
    )

pub invariant_of-self-2 : goal.invariant_of-self-2
invariant_of-self-2 g c =
    let l = c.self.invariant.0 in
    let s = c.self.invariant.1 in
    let sak = sak_of l.member.setup.suite (g.D.Draws.nth c.args.draws.now) in
    let cs = c.as_slice-changes.result.now in
    let is = c.as_slice-changes.ensures ∙ ap (λ (r : Reaction). r.changes) (c.in_ok-reaction.ensures.reaction l.member l.past s.station) in (
      lived l (tick_turn l.member c.args.seen.now sak l.past),
      alive-ticked l _ _ c.args.seen.now sak cs s (c.in_ok-reaction.ensures.stands l.member l.past s.station) is
          refl c.installs_after-self-inside.ensures
          (c.law_turns_count.ensures.sent l.member c.args.seen.now sak l.past),
    )

pub returns-clause-stands : goal.returns-clause-stands
returns-clause-stands g c = λ window l h sits.
    let s = subst (λ (seat : Seat). Sits window l h seat) (sym c.self.view_is) sits in
    let sak = sak_of l.member.setup.suite (g.D.Draws.nth c.args.draws.now) in
    let cs = c.in_ok-reaction.reaction.changes in
    let same = c.as_slice-changes.ensures in
    let is : cs ≡ (tick_turn l.member c.args.seen.now sak l.past).reaction.changes = ap (λ (r : Reaction). r.changes) (c.in_ok-reaction.ensures.reaction l.member l.past s.station) in
    sits-with window (lived l (tick_turn l.member c.args.seen.now sak l.past)) (followed cs h) _
    (alive-ticked l _ _ c.args.seen.now sak cs (alive window l h _ s) (c.in_ok-reaction.ensures.stands l.member l.past s.station) is
    refl
    (c.installs_after-self-inside.ensures ∙ ap (λ (ds : List Change). c.self.inside.installs + count_installed ds) same)
    (c.law_turns_count.ensures.sent l.member c.args.seen.now sak l.past))
    (subst (λ (ds : List Change). SlotsStandFor l.member.setup.sci window c.follow.new.slots (followed ds h)) same (c.follow.ensures l.member.setup.sci window h s.slots))

pub returns-clause-enough : goal.returns-clause-enough
returns-clause-enough g c = λ window l h sits.
    let s = subst (λ (seat : Seat). Sits window l h seat) (sym c.self.view_is) sits in
    by_test (is_short l.member l.past c.args.seen.now (g.D.Draws.nth c.args.draws.now))
    (λ t. absurd (cc ((c.in_ok-reaction.ensures.spent l.member l.past s.station).1 t)))
    (λ f. f)
