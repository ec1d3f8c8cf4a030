-- What stands in the log of a worker, by what its seat knows: v when the worker was made, w now.
use Rattle.std.specs.Prelude.{◌≡◌, ℕ, ◌+◌, ◌^◌, ◌<◌, ◌≤◌, true, false, List, [], ◌∷◌, length, ⊤}
use Rattle.std.specs.List.{AllByRecursion}
use Rattle.association_slots.specs.Cards.{Knows}
use Rattle.association_slots.specs.Views.{In, HasLoaded, present_at, claims}
use Rattle.association_slots.specs.declared.card.Card.{Card}
use Rattle.association_slots.specs.declared.view.Addition.{Addition}
use Rattle.association_slots.specs.declared.view.Mark.{Mark}
use Rattle.association_slots.specs.declared.view.NextSeen.{NextSeen}
use Rattle.association_slots.specs.declared.view.SeatView.{SeatView}
use Rattle.lan_base.specs.declared.frame.Protected.{Protected}
use Rattle.packet_claims.specs.declared.answers.NoClaim.{NoClaim}
use Rattle.packet_claims.specs.declared.answers.NoClaim.TheVariants.{NoKey, Exhausted}
use Rattle.data_workers.specs.declared.entry.Entry.{Entry}
use Rattle.data_workers.specs.declared.entry.Entry.TheVariants.{Taken, Refused}
use Rattle.data_workers.specs.declared.sender.Sender.{Sender}
use Rattle.data_workers.specs.Entries.{epoch_of, frame_under}

-- What the seat did, told by the log

-- the claim under which a frame was protected, by a seat of that number
abbrev pub claim_of : ℕ → Protected → Addition
claim_of number p =
    record { seat = number; an = p.an; met = p.epoch; loaded = p.epoch; claimed = true; pn = p.pn }

-- the claims of a seat, newest first: one for each frame of a log, and those before
abbrev pub claims_after : ℕ → List Entry → List Addition → List Addition
claims_after number [] before = before
claims_after number (Taken p ∷ log) before = claims_after number log (claim_of number p ∷ before)
claims_after number (Refused station why ∷ log) before = claims_after number log before

-- the notes of a seat, newest first: one for each refusal for want of a key, and those before
abbrev pub notes_after : List Entry → List ℕ → List ℕ
notes_after [] before = before
notes_after (Taken p ∷ log) before = notes_after log before
notes_after (Refused station (NoKey after) ∷ log) before = notes_after log (after ∷ before)
notes_after (Refused station (Exhausted epoch) ∷ log) before = notes_after log before

-- Each entry

-- a claim of the seat, under an epoch and an association number that it loaded, and the sender's
-- frame, protected under the card that the seat read of that epoch. The epoch is above the one
-- that was pointed at last when the seat was made, or it is that one and was present then; epoch
-- and number are not below those that the seat was given
pub record IsProtectedBy (w : SeatView) (s : Sender) (p : Protected) : Type 0 where
  pub of_station : p.station ≡ s.station
  pub claim : In (claim_of w.number p) w.additions
  pub range : (1 ≤ p.pn) × (p.pn < 2 ^ 32)
  pub loaded : (0 < p.epoch) × In (present_at p.an p.epoch) w.loaded
  pub card : Card
  pub knows : Knows w.reads p.epoch card
  pub octets : p.octets ≡ frame_under s card p.an p.pn
  pub start : (w.start.last ≤ p.epoch) × (w.start.present ≡ false → w.start.last < p.epoch)
  pub given : (f : NextSeen) → In f w.start.given → (f.epoch ≤ p.epoch)
      × (f.an ≡ p.an → f.epoch ≡ p.epoch → f.next ≤ p.pn)

-- the seat noted that nothing was present after the epoch, or loaded the epoch and has the mark of
-- a seat of its number that no packet number of it is left. The epoch is not below the one that
-- was pointed at last when the seat was made
abbrev pub IsCause : SeatView → NoClaim → Type 0
IsCause w (NoKey after) = In after w.notes × (w.start.last ≤ after)
IsCause w (Exhausted epoch) =
    ((m : Mark) × In m w.over × (m.seat ≡ w.number) × (m.epoch ≡ epoch)) × HasLoaded w epoch
    × (w.start.last ≤ epoch)

abbrev pub IsEntry : SeatView → Sender → Entry → Type 0
IsEntry w s (Taken p) = IsProtectedBy w s p
IsEntry w s (Refused station why) = (station ≡ s.station) × IsCause w why

-- Their order

-- of an entry and a later one: under one epoch packet numbers rise, and a frame's epoch is above
-- each after which nothing was present before
abbrev pub Rises : Entry → Entry → Type 0
Rises (Taken p) (Taken q) = q.epoch ≡ p.epoch → p.pn < q.pn
Rises (Taken p) (Refused station why) = ⊤
Rises (Refused station (NoKey after)) (Taken q) = after < q.epoch
Rises (Refused station (NoKey after)) (Refused other why) = ⊤
Rises (Refused station (Exhausted epoch)) y = ⊤

-- and epochs never fall
abbrev pub Precedes : Entry → Entry → Type 0
Precedes x y = (epoch_of x ≤ epoch_of y) × Rises x y

-- each entry precedes all later ones
abbrev pub InOrder : List Entry → Type 0
InOrder [] = ⊤
InOrder (x ∷ log) = AllByRecursion (Precedes x) log × InOrder log

-- The log has what the seat did since it knew v, in order, and nothing else; the seat loaded the
-- current word for each entry
pub record IsLog (v w : SeatView) (s : Sender) (log : List Entry) : Type 0 where
  pub number : w.number ≡ v.number
  pub start : w.start ≡ v.start
  pub loads : v.loads + length log ≤ w.loads
  pub claims_are : claims w.additions ≡ claims_after v.number log (claims v.additions)
  pub notes_are : w.notes ≡ notes_after log v.notes
  pub entries : AllByRecursion (IsEntry w s) log
  pub in_order : InOrder log
