-- The frames of the logs are those of the workers' user frames, protected under the cards of the
-- words.
use Rattle.std.proofs.Common.{◌≡◌, ◌+◌, ℕ, suc, List, [], ◌∷◌, map, Some, sym, ap, ◌∙◌, subst}
use Rattle.std.specs.List.{AllByRecursion}
use Rattle.std.specs.Prelude.{slice_get}
use Rattle.lan_base.specs.declared.frame.Protected.{Protected}
use Rattle.aes_block.specs.Secrets.{secret_octets}
use Rattle.gcm_frames.specs.Protected.{protected}
use Rattle.association_slots.specs.Cards.{card_at}
use Rattle.association_slots.specs.Steps.{told}
use Rattle.association_slots.specs.declared.view.ControlView.{ControlView}
use Rattle.data_workers.specs.declared.entry.Entry.{Entry}
use Rattle.data_workers.specs.declared.entry.Entry.TheVariants.{Taken, Refused}
use Rattle.data_workers.specs.Told.{IsToldEntry, IsToldFrame}
use Rattle.data_workers.specs.Workers.{WorkerAt}
use Rattle.data_workers.proofs.Public.{told_log}
use Rattle.lan_core.specs.Run.{stations}
use Rattle.worker_races.specs.merge.Sealing.{AreSealed, IfFrame, IsSealedUnder}
use Rattle.worker_races.specs.Beside.{Race, WereBeside, cards_in, logs_in}
use Rattle.worker_races.specs.Reading.{view_at}
use Rattle.worker_races.proofs.Hands.{AreHands, Hand}
use Rattle.worker_races.proofs.Races.{hands}

-- a card is what its words say
pub same-cards : (c d : ControlView) → d.card_words ≡ c.card_words → (epoch : ℕ) → card_at d epoch ≡ card_at c epoch
same-cards c d same epoch = ap (λ ws. card_at (record c { card_words = ws }) epoch) same

module _ (race : Race) (is : WereBeside race) where
  module _ (number : ℕ) (d : WorkerAt) (hand : Hand race.users race.run race.before race.after number d) where
    sealed-frame : (p : Protected) → IsToldFrame (told hand.came.view d.seat.view) d.sender p
        → IsSealedUnder race.users (cards_in race) race.run number p
    sealed-frame p told_it = record {
      user = d.sender.user;
      named = hand.sender.user;
      profile = hand.sender.profile;
      placed = subst (λ s. slice_get (stations race.run) s ≡ Some hand.sender.profile) (sym told_it.of_station) hand.sender.placed;
      octets = told_it.octets
          ∙ ((λ i. protected (secret_octets (same i).sak) (sym hand.sender.sci i) p.an p.pn (same i).conf d.sender.user));
    }
      where
        same : card_at (told hand.came.view d.seat.view) p.epoch ≡ cards_in race p.station p.epoch
        same = sym (same-cards (told hand.came.view d.seat.view) (view_at race.after d.sender.station) hand.came.grown.card_words p.epoch)
            ∙ ap (λ s. cards_in race s p.epoch) (sym told_it.of_station)

    sealed-log : (log : List Entry) → AllByRecursion (IsToldEntry (told hand.came.view d.seat.view) d.sender) log
        → AllByRecursion (IfFrame (IsSealedUnder race.users (cards_in race) race.run number)) log
    sealed-log [] told_all = tt
    sealed-log (Taken p ∷ log) told_all = (sealed-frame p told_all.0, sealed-log log told_all.1)
    sealed-log (Refused s why ∷ log) told_all = (tt, sealed-log log told_all.1)

  sealed-logs : (number : ℕ) (ds : List WorkerAt) → AreHands race.users race.run race.before race.after number ds
      → AreSealed race.users (cards_in race) race.run number (map (λ (w : WorkerAt). w.log) ds)
  sealed-logs number [] are = tt
  sealed-logs number (d ∷ ds) are = (
    sealed-log number d are.0 d.log
        (told_log d.sender d.seat.view are.0.came.view are.0.came.learned are.0.began.seat.view d.log are.0.log),
    sealed-logs (suc number) ds are.1,
  )

  pub are-sealed : AreSealed race.users (cards_in race) race.run (race.base + 1) (logs_in race)
  are-sealed = sealed-logs (race.base + 1) race.ended (hands race is)
