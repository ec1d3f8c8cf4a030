use Rattle.std.proofs.Common.{◌≡◌, ◌∙◌, ◌+◌, List, ap, subst, sym, refl, arith}
use Rattle.rx_slots.specs.Standing.{StandsFor as SlotsStandFor}
use Rattle.sak_exchange.specs.declared.change.Change.{Change}
use Rattle.mka_station.specs.declared.reaction.Reaction.{Reaction}
use Rattle.mka_station.specs.Hearing.{heard_turn}
use Rattle.lan_core.specs.Lives.{lived}
use Rattle.lan_core.specs.Standing.{Seat, Sits}
use Rattle.lan_core.specs.inside.Following.{followed, count_installed}
use Rattle.lan_core.proofs.SlotsFollow.{heard-count, heard-installs}
use Rattle.lan_core.proofs.SeatGoesOn.{alive-heard, alive, sits-with}
use Rattle.lan_core.proofs.seat.Seat.hear.Goals as goal

pub installs_after-self-inside-requires : goal.installs_after-self-inside-requires
installs_after-self-inside-requires c =
    let l = c.self.invariant.0 in
    let s = c.self.invariant.1 in
    let is = c.as_slice-changes.ensures ∙ ap (λ (r : Reaction). r.changes) (c.in_ok-reaction.ensures.reaction l.member l.past s.station) in
    omega (
      arith,
      ap count_installed is,
      heard-count l.member c.args.judgement.now l.past,
      heard-installs l.member c.args.judgement.now l.past (λ a. c.law_turns_count.ensures.heard l.member a l.past),
      c.requires.installs,
      ap (λ (seat : Seat). seat.installs) c.self.view_is,
    )

pub invariant_of-self-2 : goal.invariant_of-self-2
invariant_of-self-2 c =
    let l = c.self.invariant.0 in
    let s = c.self.invariant.1 in
    let cs = c.as_slice-changes.result.now in
    let is = c.as_slice-changes.ensures ∙ ap (λ (r : Reaction). r.changes) (c.in_ok-reaction.ensures.reaction l.member l.past s.station) in (
      lived l (heard_turn l.member c.args.judgement.now l.past),
      alive-heard l _ _ c.args.judgement.now cs s (c.in_ok-reaction.ensures.stands l.member l.past s.station) is
          refl c.installs_after-self-inside.ensures
          (λ a. c.law_turns_count.ensures.silent l.member a l.past),
    )

pub returns-clause-stands : goal.returns-clause-stands
returns-clause-stands c = λ window l h sits.
    let s = subst (λ (seat : Seat). Sits window l h seat) (sym c.self.view_is) sits in
    let cs = c.in_ok-reaction.reaction.changes in
    let same = c.as_slice-changes.ensures in
    let is : cs ≡ (heard_turn l.member c.args.judgement.now l.past).reaction.changes = ap (λ (r : Reaction). r.changes) (c.in_ok-reaction.ensures.reaction l.member l.past s.station) in
    sits-with window (lived l (heard_turn l.member c.args.judgement.now l.past)) (followed cs h) _
    (alive-heard l _ _ c.args.judgement.now cs (alive window l h _ s) (c.in_ok-reaction.ensures.stands l.member l.past s.station) is
    refl
    (c.installs_after-self-inside.ensures ∙ ap (λ (ds : List Change). c.self.inside.installs + count_installed ds) same)
    (λ a. c.law_turns_count.ensures.silent l.member a l.past))
    (subst (λ (ds : List Change). SlotsStandFor l.member.setup.sci window c.follow.new.slots (followed ds h)) same (c.follow.ensures l.member.setup.sci window h s.slots))
