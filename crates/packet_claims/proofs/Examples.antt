-- what a claim does, on worked values
use Rattle.std.proofs.Common.{◌≡◌, ℕ, ◌+◌, ◌≤◌, true, false, [], ◌∷◌, ◌++◌, Ok, Err, refl, sym, ap, inl, inr, ⊎_elim, arith}
use Rattle.std.proofs.lemmas.Bool.{false≢true}
use Rattle.aes_block.specs.declared.secret.Secret.TheVariants.{S128}
use Rattle.lan_base.specs.declared.association_number.AssociationNumber.TheVariants.{An1, An2}
use Rattle.association_slots.specs.Views.{In, absent_after, present_at}
use Rattle.association_slots.specs.Cards.{card_words}
use Rattle.association_slots.specs.Steps.{at_first, raised, pointed, seated, new_seat, told, loaded, added}
use Rattle.association_slots.specs.declared.card.Card.{Card}
use Rattle.association_slots.specs.declared.view.Addition.{Addition}
use Rattle.association_slots.specs.declared.view.Added.TheVariants.{Number, Over, Gone}
use Rattle.association_slots.specs.declared.view.Current.{Current}
use Rattle.association_slots.specs.declared.view.ControlView.{ControlView}
use Rattle.association_slots.specs.declared.view.NextSeen.{NextSeen}
use Rattle.association_slots.specs.declared.view.SeatView.{SeatView}
use Rattle.packet_claims.specs.Alone.{next_now, IsNextClaim}
use Rattle.packet_claims.specs.Claims.{NotBelow, Above, gone_mark, Did}
use Rattle.packet_claims.specs.declared.answers.NoClaim.TheVariants.{NoKey, Exhausted}

-- epoch 1 was pointed at under AN 1 when a seat went out

abbrev card : Card
card = record { sak = S128 (0 ∷ 1 ∷ 2 ∷ 3 ∷ 4 ∷ 5 ∷ 6 ∷ 7 ∷ 8 ∷ 9 ∷ 10 ∷ 11 ∷ 12 ∷ 13 ∷ 14 ∷ 15 ∷ []); conf = true }

abbrev one_epoch : ControlView
one_epoch = pointed (raised (record (at_first 1 2) { card_words = card_words card ++ card_words card }) An1 1) (present_at An1 1)

abbrev seat : SeatView
seat = new_seat one_epoch

abbrev shown : SeatView
shown = loaded seat (present_at An1 1)

-- it read the words of the card that lie from there on
abbrev read : SeatView → ℕ → SeatView
read v from = record v { reads = (from + 4, 1) ∷ (from + 3, 0) ∷ (from + 2, 0) ∷ (from + 1, 0x08090a0b0c0d0e0f) ∷ (from, 0x0001020304050607) ∷ v.reads }

given_low : (n : ℕ) → 1 ≤ n → NotBelow seat n
given_low n some = record {
  loaded = λ e i. absurd i;
  notes = λ e i. absurd i;
  start = some;
  given = λ f i. ⊎_elim (λ same. let e = ap (λ (g : NextSeen). g.epoch) same in omega arith) (λ b. absurd b) i;
}

above : (n : ℕ) → Above seat n
above n = record { notes = λ e i. absurd i; start = λ absent. absurd (false≢true (sym absent)) }

latest_one : (p : Current) → In p (present_at An1 1 ∷ []) → p.epoch ≤ 1
latest_one p i = ⊎_elim (λ same. let e = ap (λ (q : Current). q.epoch) same in omega arith) (λ b. absurd b) i

latest_low : (p : Current) → In p (present_at An1 1 ∷ []) → p.epoch ≤ 3
latest_low p i = let l = latest_one p i in omega arith

-- it claims number 1
abbrev claimed : SeatView
claimed = read (added shown 1 (Number 1)) 5

claims : Did seat claimed (Ok (record { an = An1; epoch = 1; pn = 1; card = card }))
claims = record {
  lost = [];
  loads = omega arith;
  stays = record { number = refl; limit = refl; start = refl; lost_nothing = λ a i. absurd i; gone = refl; loaded = λ e i. absurd i; reads = (claimed.reads, refl) };
  additions = refl;
  notes = refl;
  over = refl;
  not_below = given_low 1 (omega arith);
  above = above 1;
  shown = refl;
  loaded = inl refl;
  latest = latest_one;
  number = (omega arith, omega arith);
  first = omega arith;
  rises = λ a i. absurd i;
  given = λ f i _ _. ⊎_elim (λ same. let e = ap (λ (g : NextSeen). g.next) same in omega arith) (λ b. absurd b) i;
  knows = (0x0001020304050607, 0x08090a0b0c0d0e0f, 0, 0, 1, inr (inr (inr (inr (inl refl)))), inr (inr (inr (inl refl))), inr (inr (inl refl)), inr (inl refl), inl refl, refl);
}

-- where that was the only seat, it was the next number, and when control is told of it the next one
-- is 2
next_was : next_now one_epoch ≡ 1
next_was = refl

is_next : IsNextClaim one_epoch (told (seated one_epoch) claimed) (record { an = An1; epoch = 1; pn = 1; card = card })
is_next = (refl, refl, refl, refl, refl, refl)

next_is : next_now (told (seated one_epoch) claimed) ≡ 2
next_is = refl

-- it finds that epoch 2 had taken the slot of AN 1 when it got there, and claims number 1 of epoch
-- 3
abbrev lost : Addition
lost = record { seat = 1; an = An1; met = 2; loaded = 1; claimed = false; pn = 0 }

marked : gone_mark lost ≡ record { seat = 1; an = An1; epoch = 1 }
marked = refl

abbrev after_loss : SeatView
after_loss = read (added (loaded (added shown 2 Gone) (present_at An2 3)) 3 (Number 1)) 15

claims_later : Did seat after_loss (Ok (record { an = An2; epoch = 3; pn = 1; card = card }))
claims_later = record {
  lost = lost ∷ [];
  loads = omega arith;
  stays = record { number = refl; limit = refl; start = refl; lost_nothing = λ a i. ⊎_elim (λ same. (ap (λ (b : Addition). b.claimed) (sym same), let e = ap (λ (b : Addition). b.loaded) same in omega arith, let e = ap (λ (b : Addition). b.loaded) same in let f = ap (λ (b : Addition). b.met) same in omega arith)) (λ b. absurd b) i; gone = refl; loaded = λ e i. absurd i; reads = (after_loss.reads, refl) };
  additions = refl;
  notes = refl;
  over = refl;
  not_below = given_low 3 (omega arith);
  above = above 3;
  shown = refl;
  loaded = inl refl;
  latest = λ p i. ⊎_elim (λ same. let e = ap (λ (q : Current). q.epoch) same in omega arith) (latest_low p) i;
  number = (omega arith, omega arith);
  first = omega arith;
  rises = λ a i. absurd i;
  given = λ f i _ _. ⊎_elim (λ same. let e = ap (λ (g : NextSeen). g.next) same in omega arith) (λ b. absurd b) i;
  knows = (0x0001020304050607, 0x08090a0b0c0d0e0f, 0, 0, 1, inr (inr (inr (inr (inl refl)))), inr (inr (inr (inl refl))), inr (inr (inl refl)), inr (inl refl), inl refl, refl);
}

-- it is shown that nothing is present after epoch 1
no_key : Did seat (loaded seat (absent_after 1)) (Err (NoKey 1))
no_key = record {
  lost = [];
  loads = omega arith;
  stays = record { number = refl; limit = refl; start = refl; lost_nothing = λ a i. absurd i; gone = refl; loaded = λ e i. absurd i; reads = ([], refl) };
  additions = refl;
  notes = refl;
  over = refl;
  absent = (refl, refl);
  latest = λ p i. absurd i;
  not_below = given_low 1 (omega arith);
}

-- it finds no number left in epoch 1, by an addition
exhausted : Did seat (added shown 1 Over) (Err (Exhausted 1))
exhausted = record {
  lost = [];
  loads = omega arith;
  stays = record { number = refl; limit = refl; start = refl; lost_nothing = λ a i. absurd i; gone = refl; loaded = λ e i. absurd i; reads = ([], refl) };
  additions = inr refl;
  notes = refl;
  over = (record { seat = 1; an = An1; epoch = 1 }, inl refl, refl, refl);
  marks = λ m i. absurd i;
  shown = (refl, refl);
  latest = latest_one;
  not_below = given_low 1 (omega arith);
  above = above 1;
  loaded = (An1, inl refl);
}
