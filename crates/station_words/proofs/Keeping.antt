-- What the fields keep, call by call.
use Rattle.std.proofs.Common.{◌≡◌, ◌≢◌, ℕ, zero, suc, ◌+◌, ◌<◌, ◌≤◌, Bool, true, false, not, ◌&&◌}
use Rattle.std.proofs.Common.{List, [], ◌∷◌, ◌++◌, length, get_or, refl, sym, ap, ◌∙◌, subst, arith}
use Rattle.std.proofs.Common.{length-set, get_or-set_other, get_or-set_same}
use Rattle.std.proofs.lemmas.Bool.{and_from, eq-eqb, ltb-true, leb-true, le-leb}
use Rattle.std.proofs.lemmas.List.{length-append}
use Rattle.std.specs.Prelude.{nat_lt, nat_le}
use Rattle.lan_base.specs.declared.association_number.AssociationNumber.{AssociationNumber}
use Rattle.lan_base.specs.declared.association_number.AssociationNumber.TheVariants.{An0, An1, An2, An3}
use Rattle.lan_base.specs.AssociationNumbers.{number_of, same_an}
use Rattle.lan_base.proofs.Public.{number_of-few}
use Rattle.aes_block.specs.declared.secret.Secret.{Secret}
use Rattle.aes_block.specs.declared.secret.Secret.TheVariants.{S128, S256}
use Rattle.association_slots.specs.Cards.{cards_given, card_words, sak_words, flags_of}
use Rattle.association_slots.specs.Views.{blank_slot, slot, current, absent_after, present_at}
use Rattle.association_slots.specs.Views.{IsOpen, AllIn, free, free_number}
use Rattle.association_slots.specs.Steps.{at_first, raised, closed, looked, pointed, seated, told}
use Rattle.association_slots.specs.declared.view.SeatView.{SeatView}
use Rattle.association_slots.specs.declared.card.Card.{Card}
use Rattle.association_slots.specs.declared.view.Current.{Current}
use Rattle.association_slots.specs.declared.view.SlotView.{SlotView}
use Rattle.association_slots.specs.declared.view.ControlView.{ControlView}
use Rattle.association_slots.proofs.Public.{slot_set}
use Rattle.sak_exchange.proofs.Public.{by_test, not-true, same-an-equal, same-an-itself}
use Rattle.group_safety.specs.Transmitting.{names as names_it, may_begin}
use Rattle.station_words.specs.Telling.{sending_of}
use Rattle.station_words.specs.inside.Kept.{IsKept}

abbrev pub names : Current → AssociationNumber → Bool
names p an = names_it (sending_of p) an

-- ---- what the current word names

pub and-false : (b : Bool) → (b && false) ≡ false
and-false true = refl
and-false false = refl

pub differ : (a b : AssociationNumber) → a ≢ b → same_an a b ≡ false
differ a b ne = by_test (same_an a b) (λ e. absurd (ne (same-an-equal a b e))) (λ e. e)

apart-by : (a b : AssociationNumber) → number_of a ≢ number_of b → a ≢ b
apart-by a b ne e = ne (ap number_of e)

pub names-other : (p : Current) (i : AssociationNumber) → i ≢ p.an → names p i ≡ false
names-other p i ne = ap (λ (b : Bool). p.present && b) (differ p.an i (λ e. ne (sym e))) ∙ and-false p.present

pub names-same : (p : Current) → p.present ≡ true → names p p.an ≡ true
names-same p is = and_from _ _ is (same-an-itself p.an)

first-true : (a b : Bool) → (a && b) ≡ true → a ≡ true
first-true true b e = refl
first-true false b e = e

second-true : (a b : Bool) → (a && b) ≡ true → b ≡ true
second-true true b e = e
second-true false true e = refl
second-true false false e = e

pub named : (p : Current) (i : AssociationNumber) → names p i ≡ true → (p.present ≡ true) × (p.an ≡ i)
named p i is = (first-true p.present (same_an p.an i) is, same-an-equal p.an i (second-true p.present (same_an p.an i) is))

pub absent-names : (p : Current) (i : AssociationNumber) → p.present ≡ false → names p i ≡ false
absent-names p i absent = ap (λ (b : Bool). b && same_an p.an i) absent

same-number : (a b : AssociationNumber) → number_of a ≡ number_of b → a ≡ b
same-number a b e = same-an-equal a b (eq-eqb (number_of a) (number_of b) e)

-- ---- at the start

pub none-out : AllIn (at_first 1 4096)
none-out zero = refl
none-out (suc zero) = refl
none-out (suc (suc zero)) = refl
none-out (suc (suc (suc zero))) = refl
none-out (suc (suc (suc (suc zero)))) = refl
none-out (suc (suc (suc (suc (suc zero))))) = refl
none-out (suc (suc (suc (suc (suc (suc zero)))))) = refl
none-out (suc (suc (suc (suc (suc (suc (suc zero))))))) = refl
none-out (suc (suc (suc (suc (suc (suc (suc (suc i)))))))) = refl

pub kept-first : IsKept (at_first 1 4096) (absent_after 0) 0
kept-first = record {
  first = refl;
  limit = refl;
  four = refl;
  shown = refl;
  given = refl;
  top_is = refl;
  slots = blank;
  epoch = λ is. absurd (cc is);
}
  where
    blank : (an : AssociationNumber) → (slot (at_first 1 4096) an).shut ≡ not (names (absent_after 0) an)
    blank An0 = refl
    blank An1 = refl
    blank An2 = refl
    blank An3 = refl

-- ---- what calls ask

free-first : (bs : List Bool) → get_or bs 0 false ≡ false → free bs ≡ 0
free-first [] none = refl
free-first (false ∷ bs) none = refl
free-first (true ∷ bs) none = absurd (cc none)

-- where no seat is out there is room for one
pub has-room : (c : ControlView) → AllIn c → free_number c ≤ 8
has-room c all_in = let z = free-first c.out (all_in 0) in omega arith

pub no-room : (c : ControlView) → AllIn c → nat_le (free_number c) 8 ≡ false → ⊥
no-room c all_in none = let room = has-room c all_in in absurd (cc (sym (le-leb (free_number c) 8 room) ∙ none))

module _ (c : ControlView) (p : Current) (cards : ℕ) (k : IsKept c p cards) where
  pub carded : cards_given c ≡ cards
  carded = let z = k.given in omega arith

  -- where the current word names a slot, that is open with its epoch
  pub open-now : p.present ≡ true → IsOpen c p.an p.epoch
  open-now is = (k.slots p.an ∙ ap not (names-same p is), k.epoch is)

  -- ---- a card more

  pub kept-card : (words : List ℕ) → length words ≡ 5 → IsKept (record c { card_words = c.card_words ++ words }) p (cards + 1)
  kept-card words five = record {
    first = k.first;
    limit = k.limit;
    four = k.four;
    shown = k.shown;
    given = let z = k.given in let l = length-append c.card_words words in omega arith;
    top_is = k.top_is;
    slots = k.slots;
    epoch = k.epoch;
  }

  -- ---- a key begins

  module _ (an : AssociationNumber) (epoch : ℕ) (none : names p an ≡ false) where
    abbrev opened : SlotView
    opened = record { epoch = epoch; shut = false; seen = c.first }

    abbrev d : ControlView
    d = pointed (raised c an epoch) (present_at an epoch)

    long : number_of an < length c.slots
    long = let z = k.four in let few = number_of-few an in omega arith

    here : slot d an ≡ opened
    here = get_or-set_same c.slots (number_of an) opened blank_slot long

    pub slot-shut : (slot c an).shut ≡ true
    slot-shut = k.slots an ∙ ap not none

    pub open-raised : IsOpen (raised c an epoch) an epoch
    open-raised = (ap (λ (s : SlotView). s.shut) here, ap (λ (s : SlotView). s.epoch) here)

    pub kept-begun-alone : p.present ≡ false → IsKept d (present_at an epoch) cards
    kept-begun-alone absent = record {
      first = k.first;
      limit = k.limit;
      four = length-set c.slots (number_of an) opened ∙ k.four;
      shown = refl;
      given = k.given;
      top_is = refl;
      slots = slot_set (λ i s. s.shut ≡ not (same_an an i)) c.slots an opened long
          (sym (ap not (same-an-itself an)))
          (λ i ne. k.slots i ∙ (ap not (absent-names p i absent) ∙ sym (ap not (differ an i (λ e. ne (ap number_of (sym e)))))));
      epoch = λ _. ap (λ (s : SlotView). s.epoch) here;
    }

    apart : p.present ≡ true → p.an ≢ an
    apart is e = let t : names p an ≡ true = subst (λ (i : AssociationNumber). names p i ≡ true) e (names-same p is) in absurd (cc (sym t ∙ none))

    there : p.present ≡ true → slot d p.an ≡ slot c p.an
    there is = get_or-set_other c.slots (number_of an) (number_of p.an) opened blank_slot (λ e. apart is (same-number p.an an e))

    pub seen-begun-alone : (slot d an).seen ≡ c.first
    seen-begun-alone = ap (λ (s : SlotView). s.seen) here

    pub seen-begun : p.present ≡ true → (n : ℕ) → (slot (closed d p.an n) an).seen ≡ c.first
    seen-begun is n = ap (λ (s : SlotView). s.seen) (get_or-set_other d.slots (number_of p.an) (number_of an) (record { epoch = (slot d p.an).epoch; shut = true; seen = n }) blank_slot (λ e. apart is (sym (same-number an p.an e)))) ∙ seen-begun-alone

    -- the slot that transmitted can be shut
    pub may-shut : p.present ≡ true → (slot d p.an).shut ≡ false
    may-shut is = ap (λ (s : SlotView). s.shut) (there is) ∙ (open-now is).0

    pub away : p.present ≡ true → an ≢ p.an
    away is e = apart is (sym e)

    pub kept-begun : p.present ≡ true → (n : ℕ) → IsKept (closed d p.an n) (present_at an epoch) cards
    kept-begun is n = record {
      first = k.first;
      limit = k.limit;
      four = length-set d.slots (number_of p.an) shut_one ∙ (length-set c.slots (number_of an) opened ∙ k.four);
      shown = refl;
      given = k.given;
      top_is = refl;
      slots = slot_set (λ i s. s.shut ≡ not (same_an an i)) d.slots p.an shut_one long2
          (sym (ap not (differ an p.an (away is))))
          (λ j ne. slot_set (λ i s. number_of i ≢ number_of p.an → s.shut ≡ not (same_an an i)) c.slots an opened long
          (λ _. sym (ap not (same-an-itself an)))
          (λ i nei nep. k.slots i ∙ (ap not (names-other p i (apart-by i p.an nep)) ∙ sym (ap not (differ an i (λ e. nei (ap number_of (sym e))))))) j ne);
      epoch = λ _. ap (λ (s : SlotView). s.epoch) (get_or-set_other d.slots (number_of p.an) (number_of an) shut_one blank_slot (λ e. away is (same-number an p.an e))) ∙ ap (λ (s : SlotView). s.epoch) here;
    }
      where
        shut_one : SlotView
        shut_one = record { epoch = (slot d p.an).epoch; shut = true; seen = n }

        long2 : number_of p.an < length d.slots
        long2 = let z = k.four in let y = length-set c.slots (number_of an) opened in let x = number_of-few p.an in omega arith

  -- ---- a key ends

  abbrev gone : Current
  gone = absent_after p.epoch

  pub kept-ended : (an : AssociationNumber) (n : ℕ) → names p an ≡ true → IsKept (closed (pointed c (absent_after (current c).epoch)) an n) gone cards
  kept-ended an n is = record {
    first = k.first;
    limit = k.limit;
    four = length-set c.slots (number_of an) shut_one ∙ k.four;
    shown = ap (λ (q : Current). absent_after q.epoch) k.shown;
    given = k.given;
    top_is = k.top_is;
    slots = slot_set (λ i s. s.shut ≡ true) c.slots an shut_one long refl
        (λ i ne. k.slots i ∙ ap not (names-other p i (λ e. ne (ap number_of (e ∙ (named p an is).1)))));
    epoch = λ present. absurd (cc present);
  }
    where
      shut_one : SlotView
      shut_one = record { epoch = (slot c an).epoch; shut = true; seen = n }

      long : number_of an < length c.slots
      long = let z = k.four in let few = number_of-few an in omega arith

  pub may-end : (an : AssociationNumber) → names p an ≡ true → (slot c an).shut ≡ false
  may-end an is = k.slots an ∙ ap not is

  -- ---- control looks, and a seat comes back

  pub kept-looked : (n : ℕ) → p.present ≡ true → IsKept (looked c p.an n) p cards
  kept-looked n is = record {
    first = k.first;
    limit = k.limit;
    four = length-set c.slots (number_of p.an) seen_one ∙ k.four;
    shown = k.shown;
    given = k.given;
    top_is = k.top_is;
    slots = slot_set (λ i s. s.shut ≡ not (names p i)) c.slots p.an seen_one long (k.slots p.an) (λ i ne. k.slots i);
    epoch = λ _. ap (λ (s : SlotView). s.epoch) (get_or-set_same c.slots (number_of p.an) seen_one blank_slot long) ∙ k.epoch is;
  }
    where
      seen_one : SlotView
      seen_one = record { epoch = (slot c p.an).epoch; shut = (slot c p.an).shut; seen = n }

      long : number_of p.an < length c.slots
      long = let z = k.four in let few = number_of-few p.an in omega arith

  pub seen-looked : (n : ℕ) → (slot (looked c p.an n) p.an).seen ≡ n
  seen-looked n = ap (λ (s : SlotView). s.seen) (get_or-set_same c.slots (number_of p.an) (record { epoch = (slot c p.an).epoch; shut = (slot c p.an).shut; seen = n }) blank_slot
      (let z = k.four in let few = number_of-few p.an in omega arith))

pub five-words : (card : Card) → length (card_words card) ≡ 5
five-words card = by card.sak where
  by : (s : Secret) → length (sak_words s ++ flags_of card ∷ []) ≡ 5
  by (S128 o) = refl
  by (S256 o) = refl

-- a seat goes out, and comes back
pub kept-seated : (c : ControlView) (p : Current) (cards : ℕ) → IsKept c p cards → IsKept (seated c) p cards
kept-seated c p cards k = record {
  first = k.first;
  limit = k.limit;
  four = k.four;
  shown = k.shown;
  given = k.given;
  top_is = k.top_is;
  slots = k.slots;
  epoch = k.epoch;
}

pub kept-told : (c : ControlView) (p : Current) (cards : ℕ) (v : SeatView) → IsKept c p cards → IsKept (told c v) p cards
kept-told c p cards v k = record {
  first = k.first;
  limit = k.limit;
  four = k.four;
  shown = k.shown;
  given = k.given;
  top_is = k.top_is;
  slots = k.slots;
  epoch = k.epoch;
}

pub may-parts : (an : AssociationNumber) (epoch : ℕ) (p : Current) (installs : ℕ) → may_begin an epoch (sending_of p) installs ≡ true → (p.epoch < epoch) × (epoch ≤ installs) × (names p an ≡ false)
may-parts an epoch p installs is =
    let b = first-true (nat_lt p.epoch epoch) _ is in let r = second-true (nat_lt p.epoch epoch) _ is in
    let d = first-true (nat_le epoch installs) _ r in let e = second-true (nat_le epoch installs) _ r in
    (ltb-true p.epoch epoch b, leb-true epoch installs d, not-true (names p an) e)
