-- The words of a station up to its first key, as control knows them, whatever cards were given: before that
-- key begins, and while it transmits and a few of its packet numbers were told.
use Rattle.std.proofs.Common.{◌≡◌, ◌⊎◌, inl, inr, ◌<◌, ◌≤◌, ◌+◌, ◌*◌, ◌-◌, ◌==◌, ◌&&◌, ℕ, Bool, true, false}
use Rattle.std.proofs.Common.{List, [], ◌∷◌, length, refl, sym, ap, ◌∙◌, subst, arith}
use Rattle.std.proofs.lemmas.Bool.{cases_Bool, eqb-true}
use Rattle.std.specs.Prelude.{slice_index, replicate}
use Rattle.lan_base.specs.declared.association_number.AssociationNumber.{AssociationNumber}
use Rattle.lan_base.specs.declared.association_number.AssociationNumber.TheVariants.{An0}
use Rattle.association_slots.specs.Cards.{Knows, card_at, card_in}
use Rattle.association_slots.specs.Learned.{IsNext, IsTold, Learned}
use Rattle.association_slots.specs.Rule.{Settled, tagged}
use Rattle.association_slots.specs.Views.{In, IsOpen, WasAbsent, WasShut, blank_slot, claimed, count, met, one, present_at, slot}
use Rattle.association_slots.specs.declared.card.Card.{Card}
use Rattle.association_slots.specs.declared.view.Addition.{Addition}
use Rattle.association_slots.specs.declared.view.ControlView.{ControlView}
use Rattle.association_slots.specs.declared.view.Current.{Current}
use Rattle.association_slots.specs.declared.view.NextSeen.{NextSeen}
use Rattle.worker_races.proofs.Cases.{by-an, one-most, only}

-- ---- the views

-- what a station's words show beside its first key: the words of its cards, the next number of the key's
-- slot, what control saw of that, the seats that are out, and what those that came back told
pub record Shown : Type 0 where
  pub cards : List ℕ
  pub seen : ℕ
  pub loads : List NextSeen
  pub out : List Bool
  pub told : List Addition
  pub notes : List ℕ
  pub read : List (ℕ × ℕ)

-- the cards were given, and no key has begun
abbrev pub waits_with : List ℕ → List Bool → List ℕ → ControlView
waits_with cards out notes = record {
  first = 1;
  limit = 4096;
  card_words = cards;
  slots = replicate 4 blank_slot;
  raises = [];
  found = [];
  points = [];
  loads = [];
  out = out;
  told = [];
  told_over = [];
  told_gone = [];
  told_notes = notes;
  told_reads = [];
}

-- the first key transmits under AN 0, as epoch 1
abbrev pub sends_with : Shown → ControlView
sends_with w = record {
  first = 1;
  limit = 4096;
  card_words = w.cards;
  slots = record { epoch = 1; shut = false; seen = w.seen } ∷ replicate 3 blank_slot;
  raises = (An0, 1) ∷ [];
  found = [];
  points = present_at An0 1 ∷ [];
  loads = w.loads;
  out = w.out;
  told = w.told;
  told_over = [];
  told_gone = [];
  told_notes = w.notes;
  told_reads = w.read;
}

-- a claim of a number by the first seat
abbrev pub claim : ℕ → Addition
claim pn = record { seat = 1; an = An0; met = 1; loaded = 1; claimed = true; pn = pn }

abbrev pub none_out : List Bool
none_out = replicate 8 false

abbrev pub one_out : List Bool
one_out = true ∷ replicate 7 false

-- ---- what control did

waits-settled : (cards : List ℕ) (out : List Bool) (notes : List ℕ) → length out ≡ 8 → Settled (waits_with cards out notes)
waits-settled cards out notes eight = record {
  four = refl;
  eight = eight;
  first_small = (omega arith, omega arith);
  names_open = λ bad. absurd (cc bad);
  rise = tt;
  raised_once = λ r i. absurd i;
  has_card = omega arith;
  slot_low = by-an (λ an. (slot c an).epoch ≤ 0) (omega arith) (omega arith) (omega arith) (omega arith);
  slot_raised = by-an (λ an. 0 < (slot c an).epoch → In {A = AssociationNumber × ℕ} (an, (slot c an).epoch) [])
      (λ less. absurd (omega (arith, less))) (λ less. absurd (omega (arith, less)))
      (λ less. absurd (omega (arith, less))) (λ less. absurd (omega (arith, less)));
  open_some = by-an (λ an. (slot c an).shut ≡ false → 0 < (slot c an).epoch)
      (λ bad. absurd (cc bad)) (λ bad. absurd (cc bad)) (λ bad. absurd (cc bad)) (λ bad. absurd (cc bad));
  slot_shut = by-an (λ an. 0 < (slot c an).epoch → (slot c an).shut ≡ true → WasShut c an (slot c an).epoch)
      (λ less e. absurd (omega (arith, less))) (λ less e. absurd (omega (arith, less)))
      (λ less e. absurd (omega (arith, less))) (λ less e. absurd (omega (arith, less)));
  found_raised = λ f i. absurd i;
  found_gone = λ an was f i. absurd i;
  points_low = λ p i. absurd i;
  pointed_low = omega arith;
  absent_low = λ e none. (omega (arith, none), λ bad. absurd (cc bad));
}
  where
    c : ControlView
    c = waits_with cards out notes

sends-settled : (w : Shown) → 5 ≤ length w.cards → length w.out ≡ 8 → Settled (sends_with w)
sends-settled w enough eight = record {
  four = refl;
  eight = eight;
  first_small = (omega arith, omega arith);
  names_open = λ is. (refl, refl);
  rise = ((λ q i. absurd i), tt);
  raised_once = only (λ r. (0 < r.1) × (r.1 ≤ 1) × (((slot c r.0).epoch ≡ r.1) ⊎ WasShut c r.0 r.1))
      (An0, 1) (omega arith, omega arith, inl refl);
  has_card = omega (arith, enough);
  slot_low = by-an (λ an. (slot c an).epoch ≤ 1) (omega arith) (omega arith) (omega arith) (omega arith);
  slot_raised = by-an (λ an. 0 < (slot c an).epoch → In (an, (slot c an).epoch) ((An0, 1) ∷ []))
      (λ less. inl refl) (λ less. absurd (omega (arith, less)))
      (λ less. absurd (omega (arith, less))) (λ less. absurd (omega (arith, less)));
  open_some = by-an (λ an. (slot c an).shut ≡ false → 0 < (slot c an).epoch)
      (λ is. omega arith) (λ bad. absurd (cc bad)) (λ bad. absurd (cc bad)) (λ bad. absurd (cc bad));
  slot_shut = by-an (λ an. 0 < (slot c an).epoch → (slot c an).shut ≡ true → WasShut c an (slot c an).epoch)
      (λ less bad. absurd (cc bad)) (λ less e. absurd (omega (arith, less)))
      (λ less e. absurd (omega (arith, less))) (λ less e. absurd (omega (arith, less)));
  found_raised = λ f i. absurd i;
  found_gone = λ an was f i. absurd i;
  points_low = only (λ (p : Current). (p.epoch ≤ 1) × (p.present ≡ true → In (p.an, p.epoch) ((An0, 1) ∷ [])))
      (present_at An0 1) (omega arith, λ is. inl refl);
  pointed_low = omega arith;
  absent_low = absent;
}
  where
    c : ControlView
    c = sends_with w

    absent : (e : ℕ) → WasAbsent c.points e → (e ≤ 1) × (true ≡ true → e < 1)
    absent e was = elim was [
      | inl both ↦ (let bad = both.0 in absurd (cc bad))
      | inr none ↦ (omega (arith, none), λ is. omega (arith, none))
    ]

-- ---- cards

-- where what was read is what the cards' words are, what is known of a card is what control gave
pub known : (c : ControlView) (read : List (ℕ × ℕ)) → ((r : ℕ × ℕ) → In r read → slice_index c.card_words (r.0 - 5) ≡ r.1)
    → (epoch : ℕ) (card : Card) → 0 < epoch → Knows read epoch card → card_at c epoch ≡ card
known c read are epoch card some knows =
    let first = wrote 0 knows.0 (subst (λ (n : ℕ). In (n, knows.0) read) zero-more knows.5) in
    let second = wrote 1 knows.1 knows.6 in let third = wrote 2 knows.2 knows.7 in
    let fourth = wrote 3 knows.3 knows.8 in let fifth = wrote 4 knows.4 knows.9 in
    (λ i. card_in (first i) (second i) (third i) (fourth i) (fifth i)) ∙ sym knows.10
  where
    zero-more : 5 * epoch ≡ 5 * epoch + 0
    zero-more = omega arith

    wrote : (i w : ℕ) → In (5 * epoch + i, w) read → slice_index c.card_words (5 * (epoch - 1) + i) ≡ w
    wrote i w there = ap (λ (n : ℕ). slice_index c.card_words n) (same i) ∙ are _ there
      where
        same : (i : ℕ) → 5 * (epoch - 1) + i ≡ 5 * epoch + i - 5
        same i = omega (arith, some)

-- ---- what control learned

pub waits-learned : (cards : List ℕ) (out : List Bool) (notes : List ℕ) → length out ≡ 8 → ((e : ℕ) → In e notes → 0 ≡ e)
    → Learned (waits_with cards out notes)
waits-learned cards out notes eight noted = record {
  settled = waits-settled cards out notes eight;
  additions = λ a i. absurd i;
  differ = λ epoch pn. omega arith;
  twice = λ number epoch of_it. omega arith;
  open_next = by-an (λ an. (epoch : ℕ) → IsOpen c an epoch → (n : ℕ) × IsNext c an epoch n)
      (λ epoch is. absurd (let bad = is.0 in cc bad)) (λ epoch is. absurd (let bad = is.0 in cc bad))
      (λ epoch is. absurd (let bad = is.0 in cc bad)) (λ epoch is. absurd (let bad = is.0 in cc bad));
  shut_next = λ f i. absurd i;
  loads = λ f i. absurd i;
  over = λ m i. absurd i;
  gone = λ m i. absurd i;
  noted = noted;
  cards = λ epoch card some knows. absurd knows.5;
}
  where
    c : ControlView
    c = waits_with cards out notes

pub claim-told : (c : ControlView) (pn : ℕ) → 1 ≤ pn → pn ≤ 2 → c.first ≡ 1 → In (An0, 1) c.raises
    → In (present_at An0 1) c.points → IsTold c (claim pn)
claim-told c pn low high one raised pointed = record {
  seat = (omega arith, omega arith);
  raised = raised;
  pointed = pointed;
  claim = λ is. (refl, omega (arith, low, one), omega (arith, high));
  cause = λ all bad. absurd (cc bad);
}

-- so many claims were told, each of another number, and none is above their count
pub record AreFew (told : List Addition) : Type 0 where
  pub each : (a : Addition) → In a told → (pn : ℕ) × (claim pn ≡ a) × (1 ≤ pn)
      × (pn ≤ count (met An0 1) told)
  pub few : count (met An0 1) told ≤ 2
  pub differ : (epoch pn : ℕ) → count (claimed epoch pn) told ≤ 1
  pub twice : (number epoch : ℕ) (of_it : Bool) → count (tagged number epoch of_it) told ≤ 1

-- and all else is as the key's words make it
pub record AreRight (w : Shown) : Type 0 where
  pub enough : 5 ≤ length w.cards
  pub eight : length w.out ≡ 8
  pub claims : AreFew w.told
  pub loaded : (f : NextSeen) → In f w.loads
      → In (f.an, f.epoch) (sends_with w).raises × (f.next ≤ 1 + count (met An0 1) w.told)
  pub noted : (e : ℕ) → In e w.notes → 0 ≡ e
  pub were_read : (r : ℕ × ℕ) → In r w.read → slice_index w.cards (r.0 - 5) ≡ r.1

pub sends-learned : (w : Shown) → AreRight w → Learned (sends_with w)
sends-learned w are = record {
  settled = sends-settled w are.enough are.eight;
  additions = told-so;
  differ = are.claims.differ;
  twice = are.claims.twice;
  open_next = by-an (λ an. (epoch : ℕ) → IsOpen c an epoch → (n : ℕ) × IsNext c an epoch n)
      (λ epoch is. (1 + count (met An0 1) w.told, subst (λ (e : ℕ). IsNext c An0 e (1 + count (met An0 1) w.told)) is.1 next))
      (λ epoch is. absurd (let bad = is.0 in cc bad)) (λ epoch is. absurd (let bad = is.0 in cc bad))
      (λ epoch is. absurd (let bad = is.0 in cc bad));
  shut_next = λ f i. absurd i;
  loads = λ f i. (are.loaded f i).0;
  over = λ m i. absurd i;
  gone = λ m i. absurd i;
  noted = λ e i. inr (are.noted e i);
  cards = known c w.read are.were_read;
}
  where
    c : ControlView
    c = sends_with w

    told-so : (a : Addition) → In a w.told → IsTold c a
    told-so a i = let k = are.claims.each a i in let few = are.claims.few in let high = k.3 in
        subst (λ (x : Addition). IsTold c x) k.1 (claim-told c k.0 k.2 (omega (arith, high, few)) refl (inl refl) (inl refl))

    next : IsNext c An0 1 (1 + count (met An0 1) w.told)
    next = record {
      above_claims = λ a i is an e. (let k = are.claims.each a i in let high = k.3 in
          let same : k.0 ≡ a.pn = ap (λ (x : Addition). x.pn) k.1 in omega (arith, high, same));
      above_loads = λ f i an e. (are.loaded f i).1;
      above_over = λ m i. absurd i;
      is_sum = λ all. refl;
      bound = λ all. (let few = are.claims.few in omega (arith, few));
    }

-- ---- none, one and two claims

both-false : (a : Bool) (m n : ℕ) → (m ≡ n → ⊥) → (p : ℕ) → one (a && (m == p)) + (one (a && (n == p)) + 0) ≤ 1
both-false false m n apart p = omega arith
both-false true m n apart p = elim (cases_Bool (m == p)) [
  | inl is ↦ elim (cases_Bool (n == p)) [
    | inl so ↦ absurd (apart (eqb-true m p is ∙ sym (eqb-true n p so)))
    | inr none ↦ rw (is, none) (omega arith)
  ]
  | inr none ↦ (let most = one-most (n == p) in rw none (omega (arith, most)))
]

pub none-told : AreFew []
none-told = record {
  each = λ a i. absurd i;
  few = omega arith;
  differ = λ epoch pn. omega arith;
  twice = λ number epoch of_it. omega arith;
}

pub one-told : AreFew (claim 1 ∷ [])
one-told = record {
  each = only (λ a. (pn : ℕ) × (claim pn ≡ a) × (1 ≤ pn) × (pn ≤ 1)) (claim 1) (1, refl, omega arith, omega arith);
  few = omega arith;
  differ = λ epoch pn. one-most ((1 == epoch) && (1 == pn));
  twice = λ number epoch of_it. omega arith;
}

pub two-told : AreFew (claim 2 ∷ claim 1 ∷ [])
two-told = record {
  each = λ a i. elim i [
    | inl e ↦ (2, e, omega arith, omega arith)
    | inr j ↦ only (λ a. (pn : ℕ) × (claim pn ≡ a) × (1 ≤ pn) × (pn ≤ 2)) (claim 1) (1, refl, omega arith, omega arith) a j
  ];
  few = omega arith;
  differ = λ epoch pn. both-false (1 == epoch) 2 1 (λ e. omega (arith, e)) pn;
  twice = λ number epoch of_it. omega arith;
}
