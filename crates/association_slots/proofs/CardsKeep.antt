-- Card words are stored once, and read.
use Rattle.std.proofs.Common.{◌≡◌, ◌≢◌, ℕ, ◌+◌, ◌-◌, ◌*◌, ◌<◌, ◌≤◌, List, [], ◌∷◌, ◌++◌, length, get_or, set, refl, sym, ap, ◌∙◌, subst, inl, ⊎_elim, arith, length-set, length-append, get_or-set_other, get_or-set_same}
use Rattle.std.proofs.lemmas.List.{set-get_or}
use mathlib.Core.Logic.{dite}
use mathlib.Core.Option.{none, some}
use native.Mathlib.Decide.{ℕ_discrete}
use lib.ListN.{get_elem?}
use Rattle.atomic_table.specs.Table.{step, keeps, Allows}
use Rattle.atomic_table.proofs.Lists.{at_set}
use Rattle.lan_base.specs.AssociationNumbers.{number_of}
use Rattle.lan_base.specs.declared.association_number.AssociationNumber.{AssociationNumber}
use Rattle.lan_base.proofs.Public.{number_of-few}
use Rattle.association_slots.specs.Words.{epoch_of, flag_of, next_of, shown_by}
use Rattle.association_slots.specs.Views.{HasLoaded, slot, control_of, seat_of}
use Rattle.association_slots.specs.Steps.{wrote, did_read}
use Rattle.association_slots.specs.Rule.{IsAsLeft, HoldsCards, Fits, Follows, Around, Slotted}
use Rattle.association_slots.specs.inside.Plays.{Writes, Reads}
use Rattle.association_slots.specs.declared.view.ControlView.{ControlView}
use Rattle.association_slots.specs.declared.view.SeatView.{SeatView}
use Rattle.association_slots.specs.declared.view.View.{View}
use Rattle.association_slots.specs.declared.view.View.TheVariants.{Control, Seat}
use Rattle.association_slots.proofs.Lists.{Moved, moved_set}
use Rattle.association_slots.proofs.StaysSettled.{settled_wrote}
use Rattle.association_slots.proofs.Grows.{Grown, ledger_grows, told_grows, seat_grows, sums_grow, follows_moved, grown_words, grown_wrote, in_front}
use Rattle.association_slots.proofs.Learning.{learned}
use Rattle.association_slots.proofs.ControlKeeps.{M, known, control_steps, control_else, alone_else, numbers_from, seat_back}

words_card : (c : ControlView) (ws : List ℕ) (j n : ℕ) → IsAsLeft c ws → IsAsLeft (wrote c n) (set ws (5 + j) n)
words_card c ws j n ok = record {
  epochs = λ k. ap epoch_of (at_slot k) ∙ ok.epochs k;
  shuts = λ k. ap flag_of (at_slot k) ∙ ok.shuts k;
  seen = λ k. subst (λ (w : ℕ). (slot c k).seen ≤ next_of w) (sym (at_slot k)) (ok.seen k);
  shows = ap shown_by (else 4 (omega arith)) ∙ ok.shows;
}
  where
    else : (k : ℕ) → k < 5 → get_or (set ws (5 + j) n) k 0 ≡ get_or ws k 0
    else k l = get_or-set_other ws (5 + j) k n 0 (λ e. omega arith)

    at_slot : (k : AssociationNumber) → get_or (set ws (5 + j) n) (number_of k) 0 ≡ get_or ws (number_of k) 0
    at_slot k = let few = number_of-few k in else (number_of k) (omega arith)

at_end : (xs : List ℕ) (x : ℕ) → get_or (xs ++ x ∷ []) (length xs) 0 ≡ x
at_end [] x = refl
at_end (y ∷ xs) x = at_end xs x

-- 8. control stores the next card word
writes : (n id : ℕ) (m : M) (x : ℕ) → m.0 ≡ Control (control_of m.0) → length (control_of m.0).card_words < 5 * (control_of m.0).limit
    → Allows Slotted n id m (5 + length (control_of m.0).card_words) (λ _. x) (λ _. Writes (step n (5 + length (control_of m.0).card_words) x 0 none) m x)
writes n id m x is room s r _ at fits =
    let c = control_of m.0 in let q = known s.words s.views id c r (at ∙ ap some is) in let a = q.1 in let d = wrote c x in let us = set s.words (5 + length c.card_words) x in
    let g : Grown c s.words d us = grown_wrote c s.words (5 + length c.card_words) x (omega arith) in
    let cards : HoldsCards d us = record {
      size = length-set s.words (5 + length c.card_words) x ∙ a.cards.size;
      room = let e = length-append c.card_words (x ∷ []) in omega arith;
      lie = λ j l. dite (ℕ_discrete j (length c.card_words))
          (λ same. ap (λ (i : ℕ). get_or us (5 + i) 0) same ∙ (get_or-set_same s.words (5 + length c.card_words) x 0 (let z = a.cards.size in omega arith) ∙ (sym (at_end c.card_words x) ∙ ap (λ (i : ℕ). get_or d.card_words i 0) (sym same))))
          (λ ne. let e = length-append c.card_words (x ∷ []) in let before : j < length c.card_words = omega arith in get_or-set_other s.words (5 + length c.card_words) (5 + j) x 0 (λ y. ne (omega arith)) ∙ (a.cards.lie j before ∙ sym (in_front c.card_words (x ∷ []) j before)));
    } in
    let kept : Around d us (set s.views 0 (Control d)) = control_steps c d s.words us s.views a (words_card c s.words (length c.card_words) x a.words) cards (settled_wrote c x a.settled) g (λ v. seat_grows c s.words d us g a.settled v refl (λ z. z)) refl refl refl (told_grows c s.words d us g refl refl refl a.told)
    (λ k. sums_grow c s.words d us g s.views _ a.settled a.ledger k (λ j _. let few = number_of-few j in inl (refl, ap next_of (get_or-set_other s.words (5 + length c.card_words) (number_of j) x 0 (λ y. omega arith)))) (λ f i. inl i) (λ f i. inl i) a.sums) in (
      Control d,
      keeps,
      tt,
      (d, subst (λ (i : ℕ). Around d us (set s.views i (Control d))) q.0 kept),
      (refl, learned d us (set s.views 0 (Control d)) kept),
    )

pub writes_at : (n id : ℕ) (m : M) (x k : ℕ) → k ≡ 5 + length (control_of m.0).card_words → m.0 ≡ Control (control_of m.0) → length (control_of m.0).card_words < 5 * (control_of m.0).limit
    → Allows Slotted n id m k (λ _. x) (λ _. Writes (step n k x 0 none) m x)
writes_at n id m x k at is room = subst (λ (j : ℕ). Allows Slotted n id m j (λ _. x) (λ _. Writes (step n j x 0 none) m x)) (sym at) (writes n id m x is room)

-- the seat's read of a stored card word
seat_reads : (c : ControlView) (ws : List ℕ) (vs : List View) → Around c ws vs → (id : ℕ) (v : SeatView) (i : ℕ) → get_elem? vs id ≡ some (Seat v) → i < length c.card_words → Around c ws (set vs id (Seat (did_read v (5 + i) (get_or ws (5 + i) 0))))
seat_reads c ws vs a id v i at l = record {
  at_control = control_else vs id c v w a.at_control at;
  alone = alone_else vs id w a.alone;
  words = a.words;
  cards = a.cards;
  settled = a.settled;
  seats = λ j u e. ⊎_elim (λ (t : (j ≡ id) × (Seat w ≡ Seat u)). subst (λ (y : SeatView). Fits c ws y × Follows xs y) (ap seat_of t.1) (mine, follows_moved vs xs w k waits))
      (λ (t : (j ≢ id) × (get_elem? vs j ≡ some (Seat u))). let o = a.seats j u t.1 in (o.0, follows_moved vs xs u k o.1)) (at_set vs id j (Seat w) (Seat u) e);
  numbers = numbers_from vs xs (seat_back vs id v w at refl) a.numbers;
  ledger = ledger_grows c ws c ws g vs xs k a.ledger;
  sums = sums_grow c ws c ws g vs xs a.settled a.ledger k (λ j _. inl (refl, refl)) (λ f i. inl i) (λ f i. inl i) a.sums;
  told = a.told;
}
  where
    w : SeatView
    w = did_read v (5 + i) (get_or ws (5 + i) 0)

    xs : List View
    xs = set vs id (Seat (did_read v (5 + i) (get_or ws (5 + i) 0)))

    k : Moved vs xs
    k = moved_set vs id (Seat v) (Seat w) at refl refl refl

    g : Grown c ws c ws
    g = grown_words c ws ws (λ j. omega arith)

    mine : Fits c ws w
    mine = let o = (a.seats id v at).0 in record {
      number = o.number;
      own = o.own;
      own_over = o.own_over;
      own_gone = o.own_gone;
      limit = o.limit;
      low = o.low;
      shown = o.shown;
      loaded = o.loaded;
      noted = o.noted;
      start = o.start;
      given = o.given;
      claims_rise = o.claims_rise;
      not_below = o.not_below;
      reads = λ q j. ⊎_elim (λ e. (i, ap (λ (z : ℕ × ℕ). z.0) (sym e), l, sym (a.cards.lie i l) ∙ ap (λ (z : ℕ × ℕ). z.1) e)) (o.reads q) j;
    }

    waits : Follows vs w
    waits = let o = (a.seats id v at).1 in record { inherits = o.inherits; not_yet = o.not_yet; not_later = o.not_later; not_gone = o.not_gone }

-- 7. a seat loads a word of the card of an epoch that it loaded
pub reads : (n id : ℕ) (m : M) (e j k : ℕ) → k ≡ 5 * e + j → j < 5 → m.0 ≡ Seat (seat_of m.0) → HasLoaded (seat_of m.0) e → Allows Slotted n id m k (λ w. w) (Reads (step n k 0 0 none) m)
reads n id m e j k at_k five is was s r _ at fits =
    let c = r.0 in let a = r.1 in let v = seat_of m.0 in let i : ℕ = 5 * (e - 1) + j in
    let o = (a.seats id v (at ∙ ap some is)).0.loaded _ was.1 in let p = a.settled.points_low _ o.1 in let raised = a.settled.raised_once _ (p.1 refl) in
    let some_e = raised.0 in let low = raised.1 in let h = a.settled.has_card in
    let here : 5 + i ≡ k = omega arith in let l : i < length c.card_words = omega arith in (
      Seat (did_read v k (get_or s.words k 0)),
      keeps,
      tt,
      (
        c,
        subst (λ (us : List ℕ). Around c us (set s.views id (Seat (did_read v k (get_or s.words k 0))))) (sym (set-get_or s.words k 0))
            (subst (λ (z : ℕ). Around c s.words (set s.views id (Seat (did_read v z (get_or s.words z 0))))) here (seat_reads c s.words s.views a id v i (at ∙ ap some is) l)),
      ),
      refl,
    )
