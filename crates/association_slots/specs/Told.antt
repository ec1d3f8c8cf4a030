-- What a seat's calls tell.
use Rattle.std.specs.Prelude.{◌≡◌, ◌≢◌, ◌⊎◌, ℕ, ◌^◌, ◌<◌, ◌≤◌, true, false, List, ◌++◌}
use Rattle.association_slots.specs.Words.{epoch_of, flag_of, next_of}
use Rattle.association_slots.specs.Views.{In}
use Rattle.association_slots.specs.Steps.{added}
use Rattle.association_slots.specs.declared.view.Current.{Current}
use Rattle.association_slots.specs.declared.view.Addition.{Addition}
use Rattle.association_slots.specs.declared.view.NextSeen.{NextSeen}
use Rattle.association_slots.specs.declared.view.Mark.{Mark}
use Rattle.association_slots.specs.declared.view.Added.{Added}
use Rattle.association_slots.specs.declared.view.Added.TheVariants.{Number, Over, Gone}
use Rattle.association_slots.specs.declared.view.SeatView.{SeatView}

-- What a seat may conclude from a load of the current word: its epoch is below none that the seat
-- was shown, was given, noted or marked, and was not found gone; where it is present, it is above
-- those after which nothing was present
pub record Sees (v : SeatView) (p : Current) : Type 0 where
  pub small : (p.epoch ≤ v.limit) × (p.present ≡ true → 0 < p.epoch)
  pub later : v.shown.epoch ≤ p.epoch
  pub later_loaded : (q : Current) → In q v.loaded → q.epoch ≤ p.epoch
  pub later_notes : (e : ℕ) → In e v.notes → (e ≤ p.epoch) × (p.present ≡ true → e < p.epoch)
  pub later_start : (v.start.last ≤ p.epoch) × (v.start.present ≡ false → p.present ≡ true
      → v.start.last < p.epoch)
  pub later_given : (f : NextSeen) → In f v.start.given → f.epoch ≤ p.epoch
  pub later_over : (m : Mark) → In m v.over → (m.seat ≡ v.number) × (p.present ≡ true
      → m.epoch ≤ p.epoch)
  pub not_gone : p.present ≡ true → (m : Mark) → In m v.gone → m.epoch ≢ p.epoch

-- n is a packet number, above each that the seat claimed of the epoch
abbrev pub IsAboveClaims : SeatView → ℕ → ℕ → Type 0
IsAboveClaims v epoch n = (1 ≤ n) × ((a : Addition) → In a v.additions → a.claimed ≡ true
    → a.met ≡ epoch → a.pn < n)

-- What the slot's word was that an addition with that answer met. A number: it was open with the
-- loaded epoch, and the number its next one, a packet number, above all that the seat claimed of
-- the epoch and not below what it was given. None since all were taken: it was open with that
-- epoch, and its next number was no packet number. None since the epoch was gone: it was shut, or
-- showed a later epoch
abbrev pub Gives : SeatView → Added → ℕ → Type 0
Gives v (Number n) word = (epoch_of word ≡ v.shown.epoch) × (flag_of word ≡ false)
    × (n ≡ next_of word) × (n < 2 ^ 32) × ((f : NextSeen) → In f v.start.given → f.an ≡ v.shown.an
    → f.epoch ≡ v.shown.epoch → f.next ≤ n) × IsAboveClaims v v.shown.epoch n
Gives v Over word = (epoch_of word ≡ v.shown.epoch) × (flag_of word ≡ false)
    × (2 ^ 32 ≤ next_of word)
Gives v Gone word = (v.shown.epoch < epoch_of word)
    ⊎ ((epoch_of word ≡ v.shown.epoch) × (flag_of word ≡ true))

-- the seat made one addition more, which met a word, with that answer
abbrev pub IsAdded : SeatView → Added → SeatView → Type 0
IsAdded v answer w = (word : ℕ) × (w ≡ added v (epoch_of word) answer) × Gives v answer word

-- the seat has read more card words, or none
abbrev pub ReadsMore : SeatView → SeatView → Type 0
ReadsMore v w = (more : List (ℕ × ℕ)) × (w ≡ record v { reads = more ++ v.reads })
