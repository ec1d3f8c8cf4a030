-- What a call of `claim` did to the view v of its seat, which is w after it.
use Rattle.std.specs.Prelude.{◌≡◌, ◌⊎◌, ℕ, ◌^◌, ◌<◌, ◌≤◌, true, false, List, ◌∷◌, ◌++◌, map, Result, Ok, Err}
use Rattle.association_slots.specs.Cards.{Knows}
use Rattle.association_slots.specs.Views.{In, HasLoaded, present_at}
use Rattle.lan_base.specs.declared.association_number.AssociationNumber.{AssociationNumber}
use Rattle.association_slots.specs.declared.card.Card.{Card}
use Rattle.association_slots.specs.declared.view.Addition.{Addition}
use Rattle.association_slots.specs.declared.view.Current.{Current}
use Rattle.association_slots.specs.declared.view.Mark.{Mark}
use Rattle.association_slots.specs.declared.view.NextSeen.{NextSeen}
use Rattle.association_slots.specs.declared.view.SeatView.{SeatView}
use Rattle.packet_claims.specs.declared.answers.Claim.{Claim}
use Rattle.packet_claims.specs.declared.answers.NoClaim.{NoClaim}
use Rattle.packet_claims.specs.declared.answers.NoClaim.TheVariants.{NoKey, Exhausted}

-- the mark of an epoch that was gone when its slot was reached
abbrev pub gone_mark : Addition → Mark
gone_mark a = record { seat = a.seat; an = a.an; epoch = a.loaded }

-- What stays of the view, and the additions that got nothing on the way, newest first: each found
-- its epoch gone
pub record Stays (v w : SeatView) (lost : List Addition) : Type 0 where
  pub number : w.number ≡ v.number
  pub limit : w.limit ≡ v.limit
  pub start : w.start ≡ v.start
  pub lost_nothing : (a : Addition) → In a lost → (a.claimed ≡ false) × (v.start.last ≤ a.loaded)
      × (a.loaded ≤ a.met)
  pub gone : w.gone ≡ map gone_mark lost ++ v.gone
  pub loaded : (p : Current) → In p v.loaded → In p w.loaded
  pub reads : (more : List (ℕ × ℕ)) × (w.reads ≡ more ++ v.reads)

-- The epoch of an answer is below none that the seat loaded, noted, marked or was given, nor below
-- the one that was pointed at last when the seat was made
pub record NotBelow (v : SeatView) (epoch : ℕ) : Type 0 where
  pub loaded : (p : Current) → In p v.loaded → p.epoch ≤ epoch
  pub notes : (e : ℕ) → In e v.notes → e ≤ epoch
  pub start : v.start.last ≤ epoch
  pub given : (f : NextSeen) → In f v.start.given → f.epoch ≤ epoch

-- That of an epoch that was present is above each after which nothing was
pub record Above (v : SeatView) (epoch : ℕ) : Type 0 where
  pub notes : (e : ℕ) → In e v.notes → e < epoch
  pub start : v.start.present ≡ false → v.start.last < epoch

-- the current word was loaded; exactly one claim more and no note: a packet number of what the last load showed, above all that
-- the seat claimed of its epoch, with the card of the epoch by the words that the seat read
pub record IsClaim (v w : SeatView) (an : AssociationNumber) (epoch pn : ℕ)
    (card : Card) : Type 0 where
  pub lost : List Addition
  pub stays : Stays v w lost
  pub loads : v.loads < w.loads
  pub additions : w.additions ≡ record {
    seat = v.number;
    an = an;
    met = epoch;
    loaded = epoch;
    claimed = true;
    pn = pn;
  } ∷ lost ++ v.additions
  pub notes : w.notes ≡ v.notes
  pub over : w.over ≡ v.over
  pub not_below : NotBelow v epoch
  pub above : Above v epoch
  pub shown : w.shown ≡ present_at an epoch
  pub loaded : In (present_at an epoch) w.loaded
  pub latest : (p : Current) → In p w.loaded → p.epoch ≤ epoch
  pub number : (0 < epoch) × (pn < 2 ^ 32)
  pub first : 1 ≤ pn
  pub rises : (a : Addition) → In a v.additions → a.claimed ≡ true → a.met ≡ epoch → a.pn < pn
  pub given : (f : NextSeen) → In f v.start.given → f.an ≡ an → f.epoch ≡ epoch → f.next ≤ pn
  pub knows : Knows w.reads epoch card

-- the current word was loaded; exactly one note more and no claim: the last load found nothing
-- present after that epoch
pub record IsNoKey (v w : SeatView) (after : ℕ) : Type 0 where
  pub lost : List Addition
  pub stays : Stays v w lost
  pub loads : v.loads < w.loads
  pub additions : w.additions ≡ lost ++ v.additions
  pub notes : w.notes ≡ after ∷ v.notes
  pub over : w.over ≡ v.over
  pub absent : (w.shown.present ≡ false) × (w.shown.epoch ≡ after)
  pub not_below : NotBelow v after
  pub latest : (p : Current) → In p w.loaded → p.epoch ≤ after

-- the current word was loaded; no claim and no note: a seat of this number found no packet number left in the epoch that the
-- last load showed as present, before, or now by one addition more; marks stay
pub record IsExhausted (v w : SeatView) (epoch : ℕ) : Type 0 where
  pub lost : List Addition
  pub stays : Stays v w lost
  pub loads : v.loads < w.loads
  pub additions : (w.additions ≡ lost ++ v.additions) ⊎ (w.additions ≡ record {
    seat = v.number;
    an = w.shown.an;
    met = epoch;
    loaded = epoch;
    claimed = false;
    pn = 0;
  } ∷ lost ++ v.additions)
  pub notes : w.notes ≡ v.notes
  pub over : (m : Mark) × In m w.over × (m.seat ≡ v.number) × (m.epoch ≡ epoch)
  pub marks : (m : Mark) → In m v.over → In m w.over
  pub not_below : NotBelow v epoch
  pub above : Above v epoch
  pub shown : (w.shown.present ≡ true) × (w.shown.epoch ≡ epoch)
  pub loaded : HasLoaded w epoch
  pub latest : (p : Current) → In p w.loaded → p.epoch ≤ epoch

-- what the call did, by its answer
abbrev pub Did : SeatView → SeatView → Result Claim NoClaim → Type 0
Did v w (Ok k) = IsClaim v w k.an k.epoch k.pn k.card
Did v w (Err (NoKey after)) = IsNoKey v w after
Did v w (Err (Exhausted epoch)) = IsExhausted v w epoch
