-- The cards of words that a race leaves, and of those of a station that is about to start.
use Rattle.std.proofs.Common.{◌≡◌, ◌<◌, ℕ, List, [], ◌∷◌, ◌++◌, length, Some, refl, sym, ap, ◌∙◌, subst, arith}
use Rattle.std.proofs.Common.{inl, inr}
use Rattle.std.proofs.lemmas.Bool.{cases_lt}
use Rattle.lan_base.specs.declared.frame.UserFrame.{UserFrame}
use Rattle.sak_exchange.specs.declared.held_key.Key.{Key}
use Rattle.association_slots.specs.Cards.{card_at}
use Rattle.association_slots.specs.Steps.{seated, told}
use Rattle.association_slots.specs.Views.{ControlAt, SeatAt}
use Rattle.association_slots.specs.declared.view.ControlView.{ControlView}
use Rattle.data_workers.specs.Workers.{WorkerAt}
use Rattle.lan_core.specs.declared.settings.Settings.{Settings}
use Rattle.lan_core.specs.Legal.{IsStepped}
use Rattle.lan_core.specs.Parts.{followed_by}
use Rattle.lan_core.specs.Run.{Happening, Run, stations}
use Rattle.lan_core.proofs.Public.{alike-itself}
use Rattle.group_safety.proofs.Public.{get-more}
use Rattle.worker_races.specs.merge.Sealing.{AreCards, HasInstalled}
use Rattle.worker_races.specs.merge.Weaving.{IsWoven}
use Rattle.worker_races.proofs.weaving.Installed.{installed-without}
use Rattle.worker_races.proofs.weaving.NoStation.{none-there}
use Rattle.station_words.specs.Seats.{HasJoined, WasSeated}
use Rattle.station_words.specs.Ties.{HaveLooked, KeepCards}
use Rattle.station_words.proofs.Public.{cards-set}
use Rattle.worker_races.specs.Beside.{Race, WereBeside, attempts_in, cards_in}
use Rattle.worker_races.specs.Carded.{AreCarded}
use Rattle.worker_races.specs.Going.{HaveJoined, WereSeated}
use Rattle.worker_races.specs.Performed.{happenings, run_after}
use Rattle.worker_races.specs.Reading.{view_in}
use Rattle.worker_races.proofs.CardsOn.{none-installed}
use Rattle.worker_races.proofs.Gone.{some-at}
use Rattle.worker_races.proofs.Races.{many-after, same-stations, stepped-on}
use Rattle.worker_races.proofs.Sealed.{same-cards}

-- ---- words whose cards stay

pub carded-kept : (settings : Settings) (r : Run) (old new : List ControlAt) → KeepCards old new
    → AreCarded settings r old → AreCarded settings r new
carded-kept settings r old new kept carded s d there k has =
    let y = kept s d there in same-cards y.0.view d.view y.2 k.epoch ∙ carded s y.0 y.1 k has

kept-then : (a b c : List ControlAt) → KeepCards a b → KeepCards b c → KeepCards a c
kept-then a b c first second s d there =
    let y = second s d there in let x = first s y.0 y.1 in (x.0, x.1, y.2 ∙ x.2)

pub looked-kept : (old new : List ControlAt) → HaveLooked old new → KeepCards old new
looked-kept old new look s d there = let y = look.each s d there in (y.0, y.1, y.4)

seated-one : (s : ℕ) (old new : List ControlAt) (seat : SeatAt) → WasSeated s old new seat → KeepCards old new
seated-one s old new seat was = subst (λ cs. KeepCards old cs) (sym was.new_is)
    (cards-set old s was.control (record was.control { view = seated was.control.view }) was.there refl)

pub seated-kept : (ws : List WorkerAt) (old new : List ControlAt) → WereSeated ws old new → KeepCards old new
seated-kept [] old new were = subst (λ cs. KeepCards old cs) (sym were) (λ s d there. (d, there, refl))
seated-kept (w ∷ ws) old new were =
    kept-then old were.0 new (seated-one w.sender.station old were.0 w.seat were.1) (seated-kept ws were.0 new were.2)

joined-one : (s : ℕ) (seat : SeatAt) (old new : List ControlAt) → HasJoined s seat old new → KeepCards old new
joined-one s seat old new has = subst (λ cs. KeepCards old cs) (sym has.new_is)
    (cards-set old s has.control (record has.control { view = told has.control.view seat.view }) has.there refl)

joined-kept : (settings : Settings) (r : Run) (ws : List WorkerAt) (old new : List ControlAt)
    → HaveJoined settings r ws old new → KeepCards old new
joined-kept settings r [] old new have = subst (λ cs. KeepCards old cs) (sym have) (λ s d there. (d, there, refl))
joined-kept settings r (w ∷ ws) old new have =
    kept-then old have.0 new (joined-one w.sender.station w.seat old have.0 have.1) (joined-kept settings r ws have.0 new have.3)

-- ---- who installed a key

placed : (settings : Settings) (users : List UserFrame) (s : ℕ) (k : Key) (r : Run) → IsStepped settings users r
    → HasInstalled settings s k r → s < length (stations r)
placed settings users s k r stepped has = elim (cases_lt s (length (stations r))) [
  | inl there ↦ there
  | inr past ↦ absurd (none-installed settings users s k r stepped (none-there settings users s r stepped past) has)
]

-- ---- a station that is about to start

pub carded-more : (settings : Settings) (users : List UserFrame) (r : Run) (cs : List ControlAt) (c : ControlAt)
    → IsStepped settings users r → length cs ≡ length (stations r) → AreCarded settings r cs
    → AreCarded settings r (cs ++ c ∷ [])
carded-more settings users r cs c stepped many carded s d there k has =
    let less = placed settings users s k r stepped has in
    let some = some-at cs s (omega (arith, less, many)) in
    let both : Some some.0 ≡ Some d = sym (get-more cs (c ∷ []) s some.0 some.1) ∙ there in
    let same : some.0 ≡ d = cc both in
    subst (λ (e : ControlAt). card_at e.view k.epoch ≡ record { sak = k.sak; conf = k.conf }) same
    (carded s some.0 some.1 k has)

-- ---- behind a race

module _ (race : Race) (is : WereBeside race)
    (carded : AreCarded race.settings (run_after race.performed race.run) race.moved) where
  abbrev on : Run
  on = run_after race.performed race.run

  after : AreCarded race.settings on race.after
  after = carded-kept race.settings on race.moved race.after
      (kept-then race.moved race.looked race.after (looked-kept race.moved race.looked is.looked)
      (joined-kept race.settings on race.ended race.looked race.after is.joined)) carded

  pub cards-known : AreCards race.settings (cards_in race) on
  cards-known s k has =
      let less = placed race.settings race.users s k on (stepped-on race is) has in
      let some = some-at race.after s
      (let many = many-after race is in let same = ap length (same-stations race is) in omega (arith, less, many, same)) in
      ap (λ (c : ControlView). card_at c k.epoch) (ap view_in some.1) ∙ after s some.0 some.1 k has

  pub cards-behind : (part : List Happening)
      → IsWoven race.base part (happenings race.performed) (attempts_in race)
      → IsStepped race.settings race.users (followed_by part race.run)
      → AreCarded race.settings (followed_by part race.run) race.after
  cards-behind part woven whole s c there k has =
      after s c there k
      (subst (λ hs. HasInstalled race.settings s k (followed_by hs race.run)) woven.control
      (installed-without race.settings race.users s k part race.run race.run whole
      (alike-itself race.settings race.run) (λ h. h) has))
