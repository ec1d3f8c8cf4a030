-- the definitions on worked values, by computing; and tables that keep the rule, after a claim, a
-- lost one, and one past the last number
use Rattle.std.proofs.Common.{◌≡◌, ◌≢◌, ℕ, ◌+◌, ◌-◌, ◌*◌, ◌%◌, ◌^◌, ◌<◌, ◌≤◌, true, false, List, [], ◌∷◌, ◌++◌, set, get_or, length, replicate, refl, ap, ◌∙◌, subst, inl, inr, arith}
use mathlib.Core.Option.{none, some}
use lib.ListN.{get_elem?}
use Rattle.atomic_table.specs.Table.{State, Me, step, Allows}
use Rattle.std.specs.Prelude.{bit_or}
use Rattle.aes_block.specs.declared.secret.Secret.TheVariants.{S128, S256}
use Rattle.lan_base.specs.AssociationNumbers.{number_of}
use Rattle.lan_base.specs.declared.association_number.AssociationNumber.{AssociationNumber}
use Rattle.lan_base.specs.declared.association_number.AssociationNumber.TheVariants.{An1, An2}
use Rattle.association_slots.specs.Words.{epoch_of, flag_of, next_of, shown_by, open_word, present_word, absent_word}
use Rattle.association_slots.specs.Views.{In, IsOpen, slot, blank_slot, current, absent_after, present_at, top, free_number, lost, claimed, count, told_sum}
use Rattle.association_slots.specs.Cards.{card_words, card_in, cards_given, card_at, Knows}
use Rattle.association_slots.specs.Steps.{at_first, wrote, raised, closed, pointed, least_next, new_seat, seated, told, loaded, answer, added}
use Rattle.association_slots.specs.Rule.{Slotted}
use Rattle.association_slots.specs.declared.card.Card.{Card}
use Rattle.association_slots.specs.declared.view.Current.{Current}
use Rattle.association_slots.specs.declared.view.Addition.{Addition}
use Rattle.association_slots.specs.declared.view.Mark.{Mark}
use Rattle.association_slots.specs.declared.view.Added.TheVariants.{Number, Over, Gone}
use Rattle.association_slots.specs.declared.view.ControlView.{ControlView}
use Rattle.association_slots.specs.declared.view.SeatView.{SeatView}
use Rattle.association_slots.specs.declared.view.View.{View}
use Rattle.association_slots.specs.declared.view.View.TheVariants.{Control, Seat, Spent}
use Rattle.association_slots.specs.inside.Plays.{Loads, Adds, Raises, Shuts, Points, Writes}
use Rattle.association_slots.proofs.SlotNumbers.{an_back}
use Rattle.association_slots.proofs.ControlKeeps.{loads, raises, shuts, points}
use Rattle.association_slots.proofs.CardsKeep.{writes_at}
use Rattle.association_slots.proofs.AddKeeps.{adding}
use Rattle.association_slots.proofs.SeatsKeep.{opens, each_shut, splits, joins}

-- Words

-- a slot that is open with epoch 3 at number 7, the same one shut, and one that was never raised
open_at : open_word 3 7 ≡ 0x30000000007
open_at = refl

open_read : (epoch_of 0x30000000007 ≡ 3) × (flag_of 0x30000000007 ≡ false)
    × (next_of 0x30000000007 ≡ 7)
open_read = (refl, refl, refl)

shut_read : (epoch_of 0x38000000007 ≡ 3) × (flag_of 0x38000000007 ≡ true)
    × (next_of 0x38000000007 ≡ 7)
shut_read = (refl, refl, refl)

blank_read : (epoch_of 0x8000000000 ≡ 0) × (flag_of 0x8000000000 ≡ true)
    × (next_of 0x8000000000 ≡ 0)
blank_read = (refl, refl, refl)

-- sixteen additions past the last number leave the epoch and the bit
past_read : (epoch_of 0x30100000010 ≡ 3) × (flag_of 0x30100000010 ≡ false)
    × (next_of 0x30100000010 ≡ 2 ^ 32 + 16)
past_read = (refl, refl, refl)

-- epoch 3 is present under AN 1, and then nothing is
present_read : (present_word 3 An1 ≡ 0x38000000001) × (shown_by 0x38000000001 ≡ present_at An1 3)
present_read = (refl, refl)

absent_read : (absent_word 3 ≡ 0x30000000000) × (shown_by 0x30000000000 ≡ absent_after 3)
absent_read = (refl, refl)

-- Cards

abbrev key : List ℕ
key = 0x00 ∷ 0x01 ∷ 0x02 ∷ 0x03 ∷ 0x04 ∷ 0x05 ∷ 0x06 ∷ 0x07 ∷ 0x08 ∷ 0x09 ∷ 0x0a ∷ 0x0b ∷ 0x0c ∷ 0x0d ∷ 0x0e ∷ 0x0f ∷ []

abbrev short : Card
short = record { sak = S128 key; conf = true }

abbrev long : Card
long = record { sak = S256 (key ++ key); conf = false }

short_words : card_words short ≡ 0x0001020304050607 ∷ 0x08090a0b0c0d0e0f ∷ 0 ∷ 0 ∷ 1 ∷ []
short_words = refl

short_back : card_in 0x0001020304050607 0x08090a0b0c0d0e0f 0 0 1 ≡ short
short_back = refl

long_words : card_words long ≡ 0x0001020304050607 ∷ 0x08090a0b0c0d0e0f ∷ 0x0001020304050607 ∷ 0x08090a0b0c0d0e0f ∷ 2 ∷ []
long_words = refl

long_back : card_in 0x0001020304050607 0x08090a0b0c0d0e0f 0x0001020304050607 0x08090a0b0c0d0e0f 2 ≡ long
long_back = refl

-- by its five words, that is the card of epoch 1
knows_short : Knows ((9, 1) ∷ (8, 0) ∷ (7, 0) ∷ (6, 0x08090a0b0c0d0e0f) ∷ (5, 0x0001020304050607) ∷ []) 1 short
knows_short = (0x0001020304050607, 0x08090a0b0c0d0e0f, 0, 0, 1, inr (inr (inr (inr (inl refl)))), inr (inr (inr (inl refl))), inr (inr (inl refl)), inr (inl refl), inl refl, refl)

-- A history: a table with room for two cards, whose slots start at number 1

abbrev fresh : ControlView
fresh = at_first 1 2

abbrev carded : ControlView
carded = record fresh { card_words = fresh.card_words ++ card_words short }

abbrev opened : ControlView
opened = raised carded An1 1

abbrev first_on : ControlView
first_on = pointed opened (present_at An1 1)

at_start : (current fresh ≡ absent_after 0) × (slot fresh An1 ≡ blank_slot) × (free_number fresh ≡ 1)
    × (cards_given fresh ≡ 0)
at_start = (refl, refl, refl, refl)

first_card : (cards_given carded ≡ 1) × (card_at carded 1 ≡ short)
first_card = (refl, refl)

now_open : (slot opened An1 ≡ record { epoch = 1; shut = false; seen = 1 }) × (top opened.raises ≡ 1)
    × (current opened ≡ absent_after 0)
now_open = (refl, refl, refl)

now_pointed : current first_on ≡ present_at An1 1
now_pointed = refl

-- a seat goes out, with number 1 and the least next number of AN 1
abbrev out : ControlView
out = seated first_on

abbrev seat : SeatView
seat = new_seat first_on

abbrev shown : SeatView
shown = loaded seat (present_at An1 1)

goes_out : (seat.number ≡ 1)
    × (seat.start ≡ record { last = 1; present = true; given = record { an = An1; epoch = 1; next = 1 } ∷ [] })
    × (free_number out ≡ 2)
goes_out = (refl, refl, refl)

loads_epoch : (shown.shown ≡ present_at An1 1) × (shown.loaded ≡ present_at An1 1 ∷ []) × (shown.notes ≡ [])
loads_epoch = (refl, refl, refl)

notes_absence : ((loaded seat (absent_after 1)).loaded ≡ [])
    × ((loaded seat (absent_after 1)).notes ≡ 1 ∷ [])
notes_absence = (refl, refl)

-- what an addition gives, after a load of epoch 1: the first number, the last one, none since all
-- were taken, and none since the slot shows a later epoch or was shut
gives_first : answer 1 (open_word 1 1) ≡ Number 1
gives_first = refl

gives_last : answer 1 (open_word 1 (2 ^ 32 - 1)) ≡ Number 0xffffffff
gives_last = refl

gives_over : answer 1 (open_word 1 (2 ^ 32)) ≡ Over
gives_over = refl

gives_gone : (answer 1 (open_word 2 1) ≡ Gone) × (answer 1 0x18000000001 ≡ Gone)
gives_gone = (refl, refl)

-- what the seat then knows
abbrev claim_one : Addition
claim_one = record { seat = 1; an = An1; met = 1; loaded = 1; claimed = true; pn = 1 }

knows_number : added shown 1 (Number 1) ≡ record shown { added = true; additions = claim_one ∷ [] }
knows_number = refl

knows_over : added shown 1 Over ≡ record shown {
  added = true;
  additions = record { seat = 1; an = An1; met = 1; loaded = 1; claimed = false; pn = 0 } ∷ [];
  over = record { seat = 1; an = An1; epoch = 1 } ∷ [];
}
knows_over = refl

knows_gone : added shown 2 Gone ≡ record shown {
  added = true;
  additions = record { seat = 1; an = An1; met = 2; loaded = 1; claimed = false; pn = 0 } ∷ [];
  gone = record { seat = 1; an = An1; epoch = 1 } ∷ [];
}
knows_gone = refl

-- the seat that claimed number 1 comes back
abbrev back : ControlView
back = told out (added shown 1 (Number 1))

comes_back : (back.told ≡ claim_one ∷ []) × (free_number back ≡ 1) × (told_sum back An1 1 ≡ 2)
    × (least_next back An1 ≡ record { an = An1; epoch = 1; next = 2 })
comes_back = (refl, refl, refl, refl)

counts_claim : (count (claimed 1 1) back.told ≡ 1) × (count (claimed 1 2) back.told ≡ 0)
    × (count (lost An1 1) back.told ≡ 0)
counts_claim = (refl, refl, refl)

-- one that overshot would come back with its mark, and hand it on to the next seat of its number
marks_stay : let late = told out (added shown 1 Over) in ((new_seat late).over ≡ record { seat = 1; an = An1; epoch = 1 } ∷ [])
    × (count (lost An1 1) late.told ≡ 1) × (told_sum late An1 1 ≡ 2)
marks_stay = (refl, refl, refl)

-- epoch 2 with a key of 256 bits is raised under AN 2 and pointed at, and AN 1 is shut
abbrev later : ControlView
later = pointed (raised (record back { card_words = back.card_words ++ card_words long }) An2 2) (present_at An2 2)

abbrev ended : ControlView
ended = closed later An1 2

later_cards : (cards_given later ≡ 2) × (card_at later 1 ≡ short) × (card_at later 2 ≡ long)
later_cards = (refl, refl, refl)

has_ended : (slot ended An1 ≡ record { epoch = 1; shut = true; seen = 2 })
    × (ended.found ≡ record { an = An1; epoch = 1; next = 2 } ∷ [])
    × (slot ended An2 ≡ record { epoch = 2; shut = false; seen = 1 })
    × (current ended ≡ present_at An2 2)
has_ended = (refl, refl, refl, refl)

-- a new seat is given the open slot alone
next_seat : (new_seat ended).start ≡ record { last = 2; present = true; given = record { an = An2; epoch = 2; next = 1 } ∷ [] }
next_seat = refl

-- Tables that keep the rule, each from the one before by one step

abbrev at : List ℕ → List View → State ℕ View
at words views = record { words = words; homes = []; views = views }

-- one step, on a word that held that, after which a view is w
stepped_on : (id k held : ℕ) (f : ℕ → ℕ) (then : ℕ → Me ℕ View → Type 0) (v w : View) (ws : List ℕ) (vs : List View) → Allows Slotted 0 id (v, []) k f then → ((m : Me ℕ View) → then (get_or ws k 0) m → m.0 ≡ w) → get_elem? vs id ≡ some v → get_or ws k 0 ≡ held → held < 2 ^ 64
    → Slotted (at ws vs) → Slotted (at (set ws k (f (get_or ws k 0))) (set vs id w))
stepped_on id k held f then v w ws vs allows is here holds small r = let q = allows (at ws vs) r refl here (omega arith) in subst (λ (y : View). Slotted (at (set ws k (f (get_or ws k 0))) (set vs id y))) (is _ q.4) q.3

abbrev view_of : Me ℕ View → View
view_of m = m.0

wrote_on : (c : ControlView) (ws : List ℕ) (vs : List View) (x : ℕ) → length c.card_words < 5 * c.limit → get_or ws (5 + length c.card_words) 0 ≡ 0 → Slotted (at ws (Control c ∷ vs)) → Slotted (at (set ws (5 + length c.card_words) x) (Control (wrote c x) ∷ vs))
wrote_on c ws vs x room holds = stepped_on 0 (5 + length c.card_words) 0 (λ _. x) (λ _. Writes (step 0 (5 + length c.card_words) x 0 none) (Control c, []) x) (Control c) (Control (wrote c x)) ws (Control c ∷ vs) (writes_at 0 0 (Control c, []) x _ refl refl room) (λ m is. ap view_of is.0) refl holds (omega arith)

raised_on : (c : ControlView) (ws : List ℕ) (vs : List View) (k : AssociationNumber) (e held : ℕ) → (slot c k).shut ≡ true → top c.raises < e → 5 * e ≤ length c.card_words → epoch_of (open_word e c.first) ≡ e → get_or ws (number_of k) 0 ≡ held → held < 2 ^ 64 → Slotted (at ws (Control c ∷ vs)) → Slotted (at (set ws (number_of k) (open_word e c.first)) (Control (raised c k e) ∷ vs))
raised_on c ws vs k e held shut above carded shows = stepped_on 0 (number_of k) held (λ _. open_word e c.first) (Raises (step 0 (number_of k) (open_word e c.first) 0 none) (Control c, [])) (Control c) (Control (raised c k e)) ws (Control c ∷ vs) (raises 0 0 (Control c, []) k e refl shut above carded) (λ m is. ap view_of is.0 ∙ (λ i. let y : View = Control (raised c (an_back k i) (shows i)) in y)) refl

pointed_on : (c : ControlView) (ws : List ℕ) (vs : List View) (an : AssociationNumber) (e held : ℕ) → IsOpen c an e → (current c).epoch < e → shown_by (present_word e an) ≡ present_at an e → get_or ws 4 0 ≡ held → held < 2 ^ 64 → Slotted (at ws (Control c ∷ vs)) → Slotted (at (set ws 4 (present_word e an)) (Control (pointed c (present_at an e)) ∷ vs))
pointed_on c ws vs an e held opened above shows = stepped_on 0 4 held (λ _. present_word e an) (λ _. Points (step 0 4 (present_word e an) 0 none) (Control c, []) (present_word e an)) (Control c) (Control (pointed c (present_at an e))) ws (Control c ∷ vs) (points 0 0 (Control c, []) an e (present_word e an) refl opened above refl) (λ m is. ap view_of is.0 ∙ ap (λ (x : Current). let y : View = Control (pointed c x) in y) shows) refl

shut_on : (c : ControlView) (ws : List ℕ) (vs : List View) (k : AssociationNumber) (held : ℕ) → (slot c k).shut ≡ false → ((current c).present ≡ true → (current c).an ≢ k) → get_or ws (number_of k) 0 ≡ held → held < 2 ^ 64 → Slotted (at ws (Control c ∷ vs)) → Slotted (at (set ws (number_of k) (bit_or (get_or ws (number_of k) 0) (2 ^ 39))) (Control (closed c k (next_of (get_or ws (number_of k) 0))) ∷ vs))
shut_on c ws vs k held is_open away = stepped_on 0 (number_of k) held (λ w. bit_or w (2 ^ 39)) (Shuts (step 0 (number_of k) (2 ^ 39) 0 none) (Control c, [])) (Control c) (Control (closed c k (next_of (get_or ws (number_of k) 0)))) ws (Control c ∷ vs) (shuts 0 0 (Control c, []) k refl is_open away) (λ m is. ap view_of is.0 ∙ ap (λ (j : AssociationNumber). let y : View = Control (closed c j (next_of (get_or ws (number_of k) 0))) in y) (an_back k)) refl

loaded_on : (c : ControlView) (v : SeatView) (ws : List ℕ) (held : ℕ) → get_or ws 4 0 ≡ held → held < 2 ^ 64 → Slotted (at ws (Control c ∷ Seat v ∷ [])) → Slotted (at (set ws 4 (get_or ws 4 0)) (Control c ∷ Seat (loaded v (shown_by (get_or ws 4 0))) ∷ []))
loaded_on c v ws held = stepped_on 1 4 held (λ w. w) (Loads (step 0 4 0 0 none) (Seat v, [])) (Seat v) (Seat (loaded v (shown_by (get_or ws 4 0)))) ws (Control c ∷ Seat v ∷ []) (loads 0 1 (Seat v, []) refl) (λ m is. ap view_of is.0) refl

added_on : (c : ControlView) (v : SeatView) (ws : List ℕ) (held : ℕ) → v.shown.present ≡ true → v.added ≡ false → ((x : Mark) → In x v.over → x.epoch ≢ v.shown.epoch) → get_or ws (number_of v.shown.an) 0 ≡ held → held < 2 ^ 64 → Slotted (at ws (Control c ∷ Seat v ∷ []))
    → Slotted (at (set ws (number_of v.shown.an) ((get_or ws (number_of v.shown.an) 0 + 1) % 2 ^ 64)) (Control c ∷ Seat (added v (epoch_of (get_or ws (number_of v.shown.an) 0)) (answer v.shown.epoch (get_or ws (number_of v.shown.an) 0))) ∷ []))
added_on c v ws held present waits free = stepped_on 1 (number_of v.shown.an) held (λ w. (w + 1) % 2 ^ 64) (Adds (step 0 (number_of v.shown.an) 1 0 none) (Seat v, [])) (Seat v) (Seat (added v (epoch_of (get_or ws (number_of v.shown.an) 0)) (answer v.shown.epoch (get_or ws (number_of v.shown.an) 0)))) ws (Control c ∷ Seat v ∷ []) (adding 0 1 (Seat v, []) refl present waits free) (λ m is. ap view_of is.0) refl

-- The slots start at number n: the card of epoch 1 is stored

abbrev word_1 : ℕ
word_1 = 0x0001020304050607

abbrev word_2 : ℕ
word_2 = 0x08090a0b0c0d0e0f

abbrev with_words : ℕ → List ℕ → ControlView
with_words n words = record (at_first n 2) { card_words = words }

abbrev first_card_words : List ℕ
first_card_words = word_1 ∷ word_2 ∷ 0 ∷ 0 ∷ 1 ∷ []

-- the words before a slot was raised
abbrev start : List ℕ → List ℕ
start cards = 2 ^ 39 ∷ 2 ^ 39 ∷ 2 ^ 39 ∷ 2 ^ 39 ∷ 0 ∷ cards

carded_so : (n : ℕ) → 1 ≤ n → n < 2 ^ 32 → Slotted (at (start (first_card_words ++ replicate 5 0)) (Control (with_words n first_card_words) ∷ []))
carded_so n positive low = wrote_on (with_words n (word_1 ∷ word_2 ∷ 0 ∷ 0 ∷ [])) (start (word_1 ∷ word_2 ∷ 0 ∷ 0 ∷ replicate 6 0)) [] 1 (omega arith) refl
    (wrote_on (with_words n (word_1 ∷ word_2 ∷ 0 ∷ [])) (start (word_1 ∷ word_2 ∷ 0 ∷ replicate 7 0)) [] 0 (omega arith) refl
    (wrote_on (with_words n (word_1 ∷ word_2 ∷ [])) (start (word_1 ∷ word_2 ∷ replicate 8 0)) [] 0 (omega arith) refl
    (wrote_on (with_words n (word_1 ∷ [])) (start (word_1 ∷ replicate 9 0)) [] word_2 (omega arith) refl
    (wrote_on (at_first n 2) (start (replicate 10 0)) [] word_1 (omega arith) refl
    (opens n 2 (start (replicate 10 0)) positive low refl (each_shut (start (replicate 10 0)) refl refl refl refl) refl)))))

-- its slot is raised and pointed at, a seat goes out, loads, and claims number 1, and comes back

abbrev running : ℕ → ℕ → List ℕ
running slot_word current_word = 2 ^ 39 ∷ slot_word ∷ 2 ^ 39 ∷ 2 ^ 39 ∷ current_word ∷ first_card_words ++ replicate 5 0

pointed_so : Slotted (at (running (open_word 1 1) (present_word 1 An1)) (Control first_on ∷ []))
pointed_so = pointed_on opened (running (open_word 1 1) 0) [] An1 1 0 (refl, refl) (omega arith) refl refl (omega arith)
    (raised_on carded (running (2 ^ 39) 0) [] An1 1 (2 ^ 39) refl (omega arith) (omega arith) refl refl (omega arith) (carded_so 1 (omega arith) (omega arith)))

loaded_so : Slotted (at (running (open_word 1 1) (present_word 1 An1)) (Control out ∷ Seat shown ∷ []))
loaded_so = loaded_on out seat (running (open_word 1 1) (present_word 1 An1)) (present_word 1 An1) refl (omega arith)
    (splits 0 (Control first_on) refl (omega arith) (at (running (open_word 1 1) (present_word 1 An1)) (Control first_on ∷ [])) pointed_so refl)

claimed_so : Slotted (at (running (open_word 1 2) (present_word 1 An1)) (Control out ∷ Seat (added shown 1 (Number 1)) ∷ []))
claimed_so = added_on out shown (running (open_word 1 1) (present_word 1 An1)) (open_word 1 1) refl refl (λ m i. absurd i) refl (omega arith) loaded_so

told_so : Slotted (at (running (open_word 1 2) (present_word 1 An1)) (Control back ∷ Spent ∷ []))
told_so = joins 0 (Control out) 1 (Seat (added shown 1 (Number 1))) refl refl (at (running (open_word 1 2) (present_word 1 An1)) (Control out ∷ Seat (added shown 1 (Number 1)) ∷ [])) claimed_so refl (λ e. omega arith) refl

-- Or, while it is between load and addition, epoch 2 is raised and pointed at and its slot is shut:
-- it finds epoch 1 gone

abbrev moved_on : ControlView
moved_on = pointed (raised (record out { card_words = first_card_words ++ first_card_words }) An2 2) (present_at An2 2)

abbrev behind : ℕ → ℕ → ℕ → List ℕ → List ℕ
behind one two now cards = 2 ^ 39 ∷ one ∷ two ∷ 2 ^ 39 ∷ now ∷ first_card_words ++ cards

abbrev out_with : List ℕ → ControlView
out_with words = record out { card_words = first_card_words ++ words }

recarded_so : Slotted (at (behind (open_word 1 1) (2 ^ 39) (present_word 1 An1) first_card_words) (Control (out_with first_card_words) ∷ Seat shown ∷ []))
recarded_so = wrote_on (out_with (word_1 ∷ word_2 ∷ 0 ∷ 0 ∷ [])) (behind (open_word 1 1) (2 ^ 39) (present_word 1 An1) (word_1 ∷ word_2 ∷ replicate 3 0)) (Seat shown ∷ []) 1 (omega arith) refl
    (wrote_on (out_with (word_1 ∷ word_2 ∷ 0 ∷ [])) (behind (open_word 1 1) (2 ^ 39) (present_word 1 An1) (word_1 ∷ word_2 ∷ replicate 3 0)) (Seat shown ∷ []) 0 (omega arith) refl
    (wrote_on (out_with (word_1 ∷ word_2 ∷ [])) (behind (open_word 1 1) (2 ^ 39) (present_word 1 An1) (word_1 ∷ word_2 ∷ replicate 3 0)) (Seat shown ∷ []) 0 (omega arith) refl
    (wrote_on (out_with (word_1 ∷ [])) (behind (open_word 1 1) (2 ^ 39) (present_word 1 An1) (word_1 ∷ replicate 4 0)) (Seat shown ∷ []) word_2 (omega arith) refl
    (wrote_on out (running (open_word 1 1) (present_word 1 An1)) (Seat shown ∷ []) word_1 (omega arith) refl loaded_so))))

moved_so : Slotted (at (behind (open_word 1 1) (open_word 2 1) (present_word 2 An2) first_card_words) (Control moved_on ∷ Seat shown ∷ []))
moved_so = pointed_on (raised (out_with first_card_words) An2 2) (behind (open_word 1 1) (open_word 2 1) (present_word 1 An1) first_card_words) (Seat shown ∷ []) An2 2 (present_word 1 An1) (refl, refl) (omega arith) refl refl (omega arith)
    (raised_on (out_with first_card_words) (behind (open_word 1 1) (2 ^ 39) (present_word 1 An1) first_card_words) (Seat shown ∷ []) An2 2 (2 ^ 39) refl (omega arith) (omega arith) refl refl (omega arith) recarded_so)

shut_so : Slotted (at (behind 0x18000000001 (open_word 2 1) (present_word 2 An2) first_card_words) (Control (closed moved_on An1 1) ∷ Seat shown ∷ []))
shut_so = shut_on moved_on (behind (open_word 1 1) (open_word 2 1) (present_word 2 An2) first_card_words) (Seat shown ∷ []) An1 (open_word 1 1) refl (λ _ e. absurd (let n : 2 ≡ 1 = ap number_of e in omega arith)) refl (omega arith) moved_so

gone_so : Slotted (at (behind 0x18000000002 (open_word 2 1) (present_word 2 An2) first_card_words) (Control (closed moved_on An1 1) ∷ Seat (added shown 1 Gone) ∷ []))
gone_so = added_on (closed moved_on An1 1) shown (behind 0x18000000001 (open_word 2 1) (present_word 2 An2) first_card_words) 0x18000000001 refl refl (λ m i. absurd i) refl (omega arith) shut_so

-- Or the slots start at the last number: it claims that, loads again, and finds none left

abbrev last_on : ControlView
last_on = pointed (raised (with_words 0xffffffff first_card_words) An1 1) (present_at An1 1)

abbrev last_seat : SeatView
last_seat = loaded (new_seat last_on) (present_at An1 1)

abbrev again : SeatView
again = loaded (added last_seat 1 (Number 0xffffffff)) (present_at An1 1)

last_so : Slotted (at (running (open_word 1 (2 ^ 32)) (present_word 1 An1)) (Control (seated last_on) ∷ Seat again ∷ []))
last_so = loaded_on (seated last_on) (added last_seat 1 (Number 0xffffffff)) (running (open_word 1 (2 ^ 32)) (present_word 1 An1)) (present_word 1 An1) refl (omega arith)
    (added_on (seated last_on) last_seat (running (open_word 1 0xffffffff) (present_word 1 An1)) (open_word 1 0xffffffff) refl refl (λ m i. absurd i) refl (omega arith)
    (loaded_on (seated last_on) (new_seat last_on) (running (open_word 1 0xffffffff) (present_word 1 An1)) (present_word 1 An1) refl (omega arith)
    (splits 0 (Control last_on) refl (omega arith) (at (running (open_word 1 0xffffffff) (present_word 1 An1)) (Control last_on ∷ []))
    (pointed_on (raised (with_words 0xffffffff first_card_words) An1 1) (running (open_word 1 0xffffffff) 0) [] An1 1 0 (refl, refl) (omega arith) refl refl (omega arith)
    (raised_on (with_words 0xffffffff first_card_words) (running (2 ^ 39) 0) [] An1 1 (2 ^ 39) refl (omega arith) (omega arith) refl refl (omega arith) (carded_so 0xffffffff (omega arith) (omega arith)))) refl)))

over_so : Slotted (at (running (open_word 1 (2 ^ 32 + 1)) (present_word 1 An1)) (Control (seated last_on) ∷ Seat (added again 1 Over) ∷ []))
over_so = added_on (seated last_on) again (running (open_word 1 (2 ^ 32)) (present_word 1 An1)) (open_word 1 (2 ^ 32)) refl refl (λ m i. absurd i) refl (omega arith) last_so
