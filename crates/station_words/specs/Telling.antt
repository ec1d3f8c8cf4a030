-- How the words of a station tell its account, by what the hand that moves them knows.
use Rattle.std.specs.Prelude.{◌≡◌, ◌≤◌, ◌<◌, ℕ, true, false, not, map, max, List, Bool, Result, Ok, Err}
use Rattle.lan_base.specs.declared.association_number.AssociationNumber.{AssociationNumber}
use Rattle.association_slots.specs.Cards.{card_at, cards_given}
use Rattle.association_slots.specs.Learned.{Learned}
use Rattle.association_slots.specs.Views.{In, slot, current, present_at, AllIn, IsOpen, count, claimed}
use Rattle.association_slots.specs.Views.{told_sum}
use Rattle.association_slots.specs.Steps.{above_claims}
use Rattle.association_slots.specs.declared.view.Addition.{Addition}
use Rattle.association_slots.specs.declared.view.ControlView.{ControlView}
use Rattle.association_slots.specs.declared.view.Current.{Current}
use Rattle.association_slots.specs.declared.view.Mark.{Mark}
use Rattle.packet_claims.specs.declared.answers.Claim.{Claim}
use Rattle.packet_claims.specs.declared.answers.NoClaim.{NoClaim}
use Rattle.packet_claims.specs.declared.answers.NoClaim.TheVariants.{NoKey, Exhausted}
use Rattle.group_safety.specs.Transmitting.{Sending, now, names}
use Rattle.group_safety.specs.Accounts.{Account, next_now, with_claim, gaining}
use Rattle.lan_core.specs.Expected.{last_number}
use Rattle.station_words.specs.Counting.{times_in, past_claims, greatest_seen}

-- what a current word shows of what transmits, and what it shows to transmit
abbrev pub word_of : Sending → Current
word_of p = record { epoch = p.epoch; present = p.present; an = p.an }

abbrev pub sending_of : Current → Sending
sending_of p = record { epoch = p.epoch; present = p.present; an = p.an }

-- what control knows of seats: which numbers are out, and all that came back
pub record OfSeats : Type 0 where
  pub out : List Bool
  pub told : List Addition
  pub over : List Mark
  pub gone : List Mark
  pub notes : List ℕ
  pub reads : List (ℕ × ℕ)

abbrev pub of_seats : ControlView → OfSeats
of_seats c = record {
  out = c.out;
  told = c.told;
  over = c.told_over;
  gone = c.told_gone;
  notes = c.told_notes;
  reads = c.told_reads;
}

-- the least next number under what this shows, by what control saw and was told of claims
abbrev pub least_under : ControlView → Current → ℕ
least_under c p = max (slot c p.an).seen (above_claims p.epoch c.told)

-- The words of a station keep up with its account, also while seats are out, whose claims the
-- account may not have yet.
pub record KeepUp (a : Account) (c : ControlView) : Type 0 where
  pub learned : Learned c
  -- packet numbers go from 1
  pub first : c.first ≡ 1
  -- the current word was stored for each beginning and each end of what transmitted
  pub points : c.points ≡ map word_of a.carried.points
  -- a slot is open exactly where the current word names it, and then has its epoch; control knows
  -- that its next number is not below the account's
  pub slots : (an : AssociationNumber) → (slot c an).shut ≡ not (names (now a.carried) an)
  pub open_now : (current c).present ≡ true → IsOpen c (current c).an (current c).epoch
  pub least : (current c).present ≡ true → (1 ≤ a.nexts (current c).epoch)
      × (a.nexts (current c).epoch ≤ least_under c (current c))
  -- nothing is told of epochs that have not begun
  pub later : (epoch : ℕ) → (current c).epoch < epoch → a.nexts epoch ≡ 1
  -- each installed key has a card
  pub cards : cards_given c ≡ a.carried.installs
  -- the numbers that were shown are those that were loaded, in order
  pub shows : map (λ seen. seen.next) c.loads ≡ a.shows
  -- under each epoch the account's next number is past what it claimed, and not below what control
  -- saw; nothing else raised it
  pub seen : (epoch : ℕ)
      → a.nexts epoch ≡ max 1 (max (past_claims epoch a.claims) (greatest_seen epoch c.loads))

-- The words of a station have caught up with its account, after workers claimed beside: no seat is
-- out, and the account has the claims that seats told, each as often. The words may be ahead of it,
-- by additions that got no number.
pub record CatchUp (a : Account) (c : ControlView) : Type 0 where
  pub all_in : AllIn c
  pub keep_up : KeepUp a c
  pub claims : (epoch pn : ℕ) → count (claimed epoch pn) c.told ≡ times_in epoch pn a.claims

-- An account has claims that another has not, and is past them; what transmits and what was shown
-- is the same.
pub record HasClaimsBeside (a b : Account) : Type 0 where
  pub carried : b.carried ≡ a.carried
  pub shows : b.shows ≡ a.shows
  pub claims : (epoch : ℕ) → past_claims epoch a.claims ≤ past_claims epoch b.claims
  pub nexts : (epoch : ℕ) → b.nexts epoch ≡ max (a.nexts epoch) (past_claims epoch b.claims)

-- The words of a station tell its account. No seat is out.
pub record Tells (a : Account) (c : ControlView) : Type 0 where
  pub all_in : AllIn c
  pub keep_up : KeepUp a c
  -- the next number is the account's
  pub next : (current c).present ≡ true
      → told_sum c (current c).an (current c).epoch ≡ a.nexts (current c).epoch
  pub low : (x : Addition) → In x c.told → x.met ≤ (current c).epoch
  -- the claims are those that seats told, each as often
  pub claims : (epoch pn : ℕ) → count (claimed epoch pn) c.told ≡ times_in epoch pn a.claims

-- where control knew c: a claim of the next number of the key that transmits, with its card, or the
-- answer that none does; then this account is told
abbrev pub IsClaimed : Account → ControlView → Result Claim NoClaim → (Account → Type 0) → Type 0
IsClaimed a c (Ok k) Told = (word_of (now a.carried) ≡ present_at k.an k.epoch) × (k.pn ≡ next_now a)
    × (k.card ≡ card_at c k.epoch) × Told (with_claim k.epoch k.pn a)
IsClaimed a c (Err (NoKey after)) Told =
    ((now a.carried).present ≡ false) × (after ≡ (now a.carried).epoch) × Told a
IsClaimed a c (Err (Exhausted epoch)) Told = ⊥

-- The same where the words keep up with an account: the number is not below the next one, and the
-- words may have no packet number left though the account has.
abbrev pub HasGained : Account → ControlView → Result Claim NoClaim → (Account → Type 0) → Type 0
HasGained a c (Ok k) Says = (word_of (now a.carried) ≡ present_at k.an k.epoch)
    × (next_now a ≤ k.pn) × (1 ≤ k.pn) × (k.pn ≤ last_number) × (k.card ≡ card_at c k.epoch)
    × Says (gaining k.pn a)
HasGained a c (Err (NoKey after)) Says =
    ((now a.carried).present ≡ false) × (after ≡ (now a.carried).epoch) × Says a
HasGained a c (Err (Exhausted epoch)) Says = (current c ≡ present_at (current c).an epoch)
    × (last_number < told_sum c (current c).an epoch) × Says a
