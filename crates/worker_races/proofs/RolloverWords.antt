-- The words of a station that goes from one key to the next, as control knows them: while it transmits under the first
-- one, of which one number was claimed and shown, and once it transmits under the second. And those of a station that
-- was given both keys and has begun neither.
use Rattle.std.proofs.Common.{◌≡◌, ◌⊎◌, inl, inr, ◌<◌, ◌≤◌, ◌+◌, ◌-◌, ◌==◌, ◌&&◌, ℕ, Bool, true, false, List, [], ◌∷◌, length, refl, subst, arith}
use Rattle.std.proofs.lemmas.Bool.{cases_Bool, eqb-true}
use Rattle.std.specs.Prelude.{slice_index, replicate}
use Rattle.lan_base.specs.declared.association_number.AssociationNumber.{AssociationNumber}
use Rattle.lan_base.specs.declared.association_number.AssociationNumber.TheVariants.{An0, An1}
use Rattle.association_slots.specs.Cards.{Knows, card_at, card_in}
use Rattle.association_slots.specs.Learned.{IsNext, IsTold, Learned, WasNext}
use Rattle.association_slots.specs.Rule.{Settled, tagged}
use Rattle.association_slots.specs.Views.{In, IsOpen, WasAbsent, WasShut, blank_slot, claimed, count, one, present_at, slot}
use Rattle.association_slots.specs.declared.card.Card.{Card}
use Rattle.association_slots.specs.declared.view.Addition.{Addition}
use Rattle.association_slots.specs.declared.view.ControlView.{ControlView}
use Rattle.association_slots.specs.declared.view.Current.{Current}
use Rattle.association_slots.specs.declared.view.NextSeen.{NextSeen}
use Rattle.association_slots.specs.declared.view.SlotView.{SlotView}
use Rattle.worker_races.proofs.Cases.{by-an, five, one-most, only, three, two}
use Rattle.worker_races.proofs.FirstKey.{Shown, claim, claim-told, known, none_out, one-told, one_out, sends-learned, sends_with, waits_with}
use Rattle.worker_races.proofs.FirstKey as one_key

-- ---- the views

-- the words of both cards
abbrev pub words : List ℕ
words = 0 ∷ 1 ∷ 0 ∷ 0 ∷ 1 ∷ 0 ∷ 2 ∷ 0 ∷ 0 ∷ 1 ∷ []

-- a seat read them
abbrev pub reads : List (ℕ × ℕ)
reads =
    (14, 1) ∷ (13, 0) ∷ (12, 0) ∷ (11, 2) ∷ (10, 0)
    ∷ (9, 1) ∷ (8, 0) ∷ (7, 0) ∷ (6, 1) ∷ (5, 0) ∷ []

abbrev pub slot_of : ℕ → Bool → ℕ → SlotView
slot_of epoch shut seen = record { epoch = epoch; shut = shut; seen = seen }

abbrev pub seen : ℕ → NextSeen
seen next = record { an = An0; epoch = 1; next = next }

-- a claim of the first seat under the second key
abbrev pub under_second : ℕ → Addition
under_second pn = record { seat = 1; an = An1; met = 2; loaded = 2; claimed = true; pn = pn }

-- under the first key, one number was claimed, and a tick showed the next one
abbrev pub first_shown : List Bool → Shown
first_shown out = record { cards = words; seen = 2; loads = seen 2 ∷ []; out = out; told = claim 1 ∷ []; notes = []; read = [] }

abbrev pub sends_first : List Bool → ControlView
sends_first out = sends_with (first_shown out)

-- Under the second key. The first one's slot was shut, and its next number was then 3, since a worker
-- had claimed one more.
abbrev pub sends_second : List Bool → List Addition → List (ℕ × ℕ) → ControlView
sends_second out told read = record {
  first = 1;
  limit = 4096;
  card_words = words;
  slots = slot_of 1 true 3 ∷ slot_of 2 false 1 ∷ replicate 2 blank_slot;
  raises = (An1, 2) ∷ (An0, 1) ∷ [];
  found = seen 3 ∷ [];
  points = present_at An1 2 ∷ present_at An0 1 ∷ [];
  loads = seen 2 ∷ seen 2 ∷ [];
  out = out;
  told = told;
  told_over = [];
  told_gone = [];
  told_notes = [];
  told_reads = read;
}

-- both cards were given, and nothing began
abbrev pub waits : List Bool → List ℕ → ControlView
waits out notes = waits_with words out notes

-- what the seats told: one claim long ago, and then two of a worker
abbrev pub of_old : List Addition
of_old = claim 1 ∷ []

abbrev pub of_all : List Addition
of_all = under_second 1 ∷ claim 2 ∷ claim 1 ∷ []

-- ---- what control did

module _ (out : List Bool) (told : List Addition) (read : List (ℕ × ℕ)) where
  abbrev c : ControlView
  c = sends_second out told read

  second-settled : length out ≡ 8 → Settled c
  second-settled eight = record {
    four = refl;
    eight = eight;
    first_small = (omega arith, omega arith);
    names_open = λ is. (refl, refl);
    rise = (
      only (λ (q : AssociationNumber × ℕ). q.1 < 2) (An0, 1) (omega arith),
      ((λ q i. absurd i), tt),
    );
    raised_once = two (λ r. (0 < r.1) × (r.1 ≤ 2) × (((slot c r.0).epoch ≡ r.1) ⊎ WasShut c r.0 r.1))
        (An1, 2) (An0, 1) (omega arith, omega arith, inl refl) (omega arith, omega arith, inl refl);
    has_card = omega arith;
    slot_low = by-an (λ an. (slot c an).epoch ≤ 2) (omega arith) (omega arith) (omega arith) (omega arith);
    slot_raised = by-an (λ an. 0 < (slot c an).epoch → In (an, (slot c an).epoch) c.raises)
        (λ less. inr (inl refl)) (λ less. inl refl)
        (λ less. absurd (omega (arith, less))) (λ less. absurd (omega (arith, less)));
    open_some = by-an (λ an. (slot c an).shut ≡ false → 0 < (slot c an).epoch)
        (λ bad. absurd (cc bad)) (λ is. omega arith) (λ bad. absurd (cc bad)) (λ bad. absurd (cc bad));
    slot_shut = by-an (λ an. 0 < (slot c an).epoch → (slot c an).shut ≡ true
        → WasShut c an (slot c an).epoch)
        (λ less is. (seen 3, inl refl, refl, refl)) (λ less bad. absurd (cc bad))
        (λ less e. absurd (omega (arith, less))) (λ less e. absurd (omega (arith, less)));
    found_raised = only (λ (f : NextSeen). In (f.an, f.epoch) c.raises) (seen 3) (inr (inl refl));
    found_gone = by-an (λ an. (slot c an).shut ≡ false → (f : NextSeen) → In f c.found
        → f.epoch ≡ (slot c an).epoch → ⊥)
        (λ bad f i. absurd (cc bad))
        (λ is. only (λ (f : NextSeen). f.epoch ≡ 2 → ⊥) (seen 3) (λ e. omega (arith, e)))
        (λ bad f i. absurd (cc bad)) (λ bad f i. absurd (cc bad));
    points_low = two (λ (p : Current). (p.epoch ≤ 2) × (p.present ≡ true → In (p.an, p.epoch) c.raises))
        (present_at An1 2) (present_at An0 1)
        (omega arith, λ is. inl refl) (omega arith, λ is. inr (inl refl));
    pointed_low = omega arith;
    absent_low = absent;
  }
    where
      absent : (e : ℕ) → WasAbsent c.points e → (e ≤ 2) × (true ≡ true → e < 2)
      absent e was = elim was [
        | inl both ↦ (let bad = both.0 in absurd (cc bad))
        | inr more ↦ elim more [
          | inl both ↦ (let bad = both.0 in absurd (cc bad))
          | inr none ↦ (omega (arith, none), λ is. omega (arith, none))
        ]
      ]

-- ---- cards

-- what was read is what the cards' words are
is-read : (r : ℕ × ℕ) → In r reads → slice_index words (r.0 - 5) ≡ r.1
is-read = five (λ (r : ℕ × ℕ). slice_index words (r.0 - 5) ≡ r.1) (14, 1) (13, 0) (12, 0) (11, 2) (10, 0)
    ((9, 1) ∷ (8, 0) ∷ (7, 0) ∷ (6, 1) ∷ (5, 0) ∷ []) refl refl refl refl refl
    (five (λ (r : ℕ × ℕ). slice_index words (r.0 - 5) ≡ r.1) (9, 1) (8, 0) (7, 0) (6, 1) (5, 0) []
    refl refl refl refl refl (λ r i. absurd i))

abbrev pub first_card : Card
first_card = card_in 0 1 0 0 1

abbrev pub second_card : Card
second_card = card_in 0 2 0 0 1

pub first-words : Knows reads 1 first_card
first-words = (
  0,
  1,
  0,
  0,
  1,
  inr (inr (inr (inr (inr (inr (inr (inr (inr (inl refl))))))))),
  inr (inr (inr (inr (inr (inr (inr (inr (inl refl)))))))),
  inr (inr (inr (inr (inr (inr (inr (inl refl))))))),
  inr (inr (inr (inr (inr (inr (inl refl)))))),
  inr (inr (inr (inr (inr (inl refl))))),
  refl,
)

pub second-words : Knows reads 2 second_card
second-words = (
  0,
  2,
  0,
  0,
  1,
  inr (inr (inr (inr (inl refl)))),
  inr (inr (inr (inl refl))),
  inr (inr (inl refl)),
  inr (inl refl),
  inl refl,
  refl,
)

-- ---- what control learned

pub waits-learned : (out : List Bool) (notes : List ℕ) → length out ≡ 8
    → ((e : ℕ) → In e notes → 0 ≡ e) → Learned (waits out notes)
waits-learned out notes eight noted = one_key.waits-learned words out notes eight noted

pub first-learned : (out : List Bool) → length out ≡ 8 → Learned (sends_first out)
first-learned out eight = sends-learned (first_shown out) (record {
  enough = omega arith;
  eight = eight;
  claims = one-told;
  loaded = only (λ (f : NextSeen). In (f.an, f.epoch) (sends_first out).raises × (f.next ≤ 2)) (seen 2) (inl refl, omega arith);
  noted = λ e i. absurd i;
  were_read = λ r i. absurd i;
})

-- What was told behind the beginning: the claim of long ago, while the seat is out; and those of the
-- worker, once it is back.
pub record AreRight (out : List Bool) (told : List Addition) (read : List (ℕ × ℕ)) : Type 0 where
  pub each : (x : Addition) → In x told → IsTold (sends_second out told read) x
  pub differ : (epoch pn : ℕ) → count (claimed epoch pn) told ≤ 1
  pub twice : (number epoch : ℕ) (of_it : Bool)
      → count (tagged number epoch of_it) told ≤ 1
  pub next : (n : ℕ) × IsNext (sends_second out told read) An1 2 n
  pub was_next : WasNext (sends_second out told read) (seen 3)
  pub cards : (epoch : ℕ) (card : Card) → 0 < epoch → Knows read epoch card
      → card_at (sends_second out told read) epoch ≡ card

pub second-learned : (out : List Bool) (told : List Addition) (read : List (ℕ × ℕ)) → length out ≡ 8
    → AreRight out told read → Learned (sends_second out told read)
second-learned out told read eight are = record {
  settled = second-settled out told read eight;
  additions = are.each;
  differ = are.differ;
  twice = are.twice;
  open_next = by-an (λ an. (epoch : ℕ) → IsOpen (sends_second out told read) an epoch → (n : ℕ) × IsNext (sends_second out told read) an epoch n)
      (λ epoch is. absurd (let bad = is.0 in cc bad))
      (λ epoch is. subst (λ (e : ℕ). (n : ℕ) × IsNext (sends_second out told read) An1 e n) is.1 are.next)
      (λ epoch is. absurd (let bad = is.0 in cc bad)) (λ epoch is. absurd (let bad = is.0 in cc bad));
  shut_next = only (λ f. WasNext (sends_second out told read) f) (seen 3) are.was_next;
  loads = two (λ (f : NextSeen). In (f.an, f.epoch) ((An1, 2) ∷ (An0, 1) ∷ [])) (seen 2) (seen 2)
      (inr (inl refl)) (inr (inl refl));
  over = λ m i. absurd i;
  gone = λ m i. absurd i;
  noted = λ e i. absurd i;
  cards = are.cards;
}

-- the words while the worker's seat is out, and once it is back
abbrev pub moved : ControlView
moved = sends_second one_out of_old []

abbrev pub joined : ControlView
joined = sends_second none_out of_all reads

pub while-out : AreRight one_out of_old []
while-out = record {
  each = only (λ x. IsTold moved x) (claim 1)
      (claim-told moved 1 (omega arith) (omega arith) refl (inr (inl refl)) (inr (inl refl)));
  differ = λ epoch pn. one-most ((1 == epoch) && (1 == pn));
  twice = λ number epoch of_it. omega arith;
  next = (
    1,
    record {
      above_claims = only (λ x. x.claimed ≡ true → x.an ≡ An1 → x.met ≡ 2 → x.pn < 1) (claim 1)
          (λ is an e. absurd (cc an));
      above_loads = two (λ (f : NextSeen). f.an ≡ An1 → f.epoch ≡ 2 → f.next ≤ 1) (seen 2) (seen 2)
          (λ an e. absurd (cc an)) (λ an e. absurd (cc an));
      above_over = λ m i. absurd i;
      is_sum = λ all. refl;
      bound = λ all. omega arith;
    },
  );
  was_next = record {
    above_claims = only (λ x. x.claimed ≡ true → x.an ≡ An0 → x.met ≡ 1 → x.pn < 3) (claim 1)
        (λ is an e. omega arith);
    above_loads = two (λ (f : NextSeen). f.an ≡ An0 → f.epoch ≡ 1 → f.next ≤ 3) (seen 2) (seen 2)
        (λ an e. omega arith) (λ an e. omega arith);
    above_over = λ m i. absurd i;
    low = λ all. absurd (let bad : true ≡ false = all 0 in cc bad);
  };
  cards = λ epoch card some knows. absurd knows.5;
}

-- of three numbers no two agree in epoch and number
all-differ : (epoch pn : ℕ) → count (claimed epoch pn) of_all ≤ 1
all-differ epoch pn = elim (cases_Bool (1 == epoch)) [
  | inl is ↦ subst (λ (e : ℕ). count (claimed e pn) of_all ≤ 1) (eqb-true 1 epoch is)
      (let few = first-two (cases_Bool (2 == pn)) in omega (arith, few))
  | inr none ↦ rw none (one-most ((2 == epoch) && (1 == pn)))
]
  where
    first-two : ((2 == pn) ≡ true) ⊎ ((2 == pn) ≡ false) → one (2 == pn) + (one (1 == pn) + 0) ≤ 1
    first-two (inl is) = subst (λ (n : ℕ). one (2 == n) + (one (1 == n) + 0) ≤ 1) (eqb-true 2 pn is) (omega arith)
    first-two (inr none) = let few = one-most (1 == pn) in rw none (omega (arith, few))

pub once-back : AreRight none_out of_all reads
once-back = record {
  each = three (λ x. IsTold joined x) (under_second 1) (claim 2) (claim 1)
      (record {
        seat = (omega arith, omega arith);
        raised = inl refl;
        pointed = inl refl;
        claim = λ is. (refl, omega arith, omega arith);
        cause = λ all bad. absurd (cc bad);
      })
      (claim-told joined 2 (omega arith) (omega arith) refl (inr (inl refl)) (inr (inl refl)))
      (claim-told joined 1 (omega arith) (omega arith) refl (inr (inl refl)) (inr (inl refl)));
  differ = all-differ;
  twice = λ number epoch of_it. omega arith;
  next = (
    2,
    record {
      above_claims = three (λ x. x.claimed ≡ true → x.an ≡ An1 → x.met ≡ 2 → x.pn < 2)
          (under_second 1) (claim 2) (claim 1)
          (λ is an e. omega arith) (λ is an e. absurd (cc an)) (λ is an e. absurd (cc an));
      above_loads = two (λ (f : NextSeen). f.an ≡ An1 → f.epoch ≡ 2 → f.next ≤ 2) (seen 2) (seen 2)
          (λ an e. absurd (cc an)) (λ an e. absurd (cc an));
      above_over = λ m i. absurd i;
      is_sum = λ all. refl;
      bound = λ all. omega arith;
    },
  );
  was_next = record {
    above_claims = three (λ x. x.claimed ≡ true → x.an ≡ An0 → x.met ≡ 1 → x.pn < 3)
        (under_second 1) (claim 2) (claim 1)
        (λ is an e. absurd (cc an)) (λ is an e. omega arith) (λ is an e. omega arith);
    above_loads = two (λ (f : NextSeen). f.an ≡ An0 → f.epoch ≡ 1 → f.next ≤ 3) (seen 2) (seen 2)
        (λ an e. omega arith) (λ an e. omega arith);
    above_over = λ m i. absurd i;
    low = λ all. (omega arith, omega arith);
  };
  cards = known joined reads is-read;
}
