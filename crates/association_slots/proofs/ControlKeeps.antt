-- Each step of control, and a load by a seat, keeps the rule.
use Rattle.std.proofs.Common.{◌≡◌, ◌≢◌, ◌⊎◌, ℕ, ◌+◌, ◌*◌, ◌^◌, ◌<◌, ◌≤◌, Bool, true, false, List, [], ◌∷◌, length, get_or, set, refl, sym, ap, ◌∙◌, subst, inl, inr, ⊎_elim, arith, get_or-set_other, get_or-set_same}
use Rattle.std.proofs.lemmas.List.{set-get_or}
use mathlib.Core.Option.{none, some, some-ne-none, some-injective}
use lib.ListN.{get_elem?}
use Rattle.std.proofs.lemmas.Bool.{false≢true}
use Rattle.std.specs.Prelude.{bit_or}
use Rattle.atomic_table.specs.Table.{Me, step, keeps, Allows}
use Rattle.atomic_table.proofs.Lists.{at_set, set_here, set_else, set_again}
use Rattle.lan_base.specs.AssociationNumbers.{number_of}
use Rattle.lan_base.specs.declared.association_number.AssociationNumber.{AssociationNumber}
use Rattle.lan_base.proofs.Public.{number_of-few}
use Rattle.association_slots.specs.Words.{epoch_of, flag_of, next_of, shown_by, open_word, present_word, absent_word}
use Rattle.association_slots.specs.Views.{In, slot, current, absent_after, present_at, IsOpen, top, control_of, seat_of, overs, gones}
use Rattle.association_slots.specs.Steps.{loaded, raised, closed, pointed, looked}
use Rattle.association_slots.specs.Rule.{IsAsLeft, HoldsCards, Settled, AtLeast, Fits, Follows, Sums, ToldFits, Around, Slotted}
use Rattle.association_slots.specs.inside.Plays.{Shows, Loads, Raises, Shuts, Points, Looks, Learns}
use Rattle.association_slots.specs.declared.view.Current.{Current}
use Rattle.association_slots.specs.declared.view.NextSeen.{NextSeen}
use Rattle.association_slots.specs.declared.view.SlotView.{SlotView}
use Rattle.association_slots.specs.declared.view.ControlView.{ControlView}
use Rattle.association_slots.specs.declared.view.SeatView.{SeatView}
use Rattle.association_slots.specs.declared.view.View.{View}
use Rattle.association_slots.specs.declared.view.View.TheVariants.{Control, Seat}
use Rattle.association_slots.proofs.SlotNumbers.{an_back}
use Rattle.association_slots.proofs.WordParts.{open_epoch, open_flag, open_next, shut_epoch, shut_flag, shut_next, present_shows, absent_shows}
use Rattle.association_slots.proofs.Lists.{Moved, moved_set, among_at}
use Rattle.association_slots.proofs.StaysSettled.{words_slot, words_point, cards_else, slot_set, settled_raised, settled_closed, settled_pointed, settled_looked}
use Rattle.association_slots.proofs.Grows.{Grown, ledger_grows, told_grows, seat_grows, sums_grow, seat_pointed, seat_loaded, follows_moved, follows_loaded, grown_words, grown_raised, grown_closed, grown_looked, grown_pointed}
use Rattle.association_slots.proofs.Learning.{is_next, learned}

abbrev pub M : Type 0
M = Me ℕ View

abbrev is_seat : View → Bool
is_seat (Seat v) = true
is_seat _ = false

pub not_both : (c : ControlView) (v : SeatView) → Control c ≡ Seat v → ⊥
not_both c v e = false≢true (ap is_seat e)

abbrev pub Numbers : List View → Type 0
Numbers vs = (i j : ℕ) (u v : SeatView) → get_elem? vs i ≡ some (Seat u) → get_elem? vs j ≡ some (Seat v) → u.number ≡ v.number → i ≡ j

pub numbers_from : (vs xs : List View) → ((j : ℕ) (u : SeatView) → get_elem? xs j ≡ some (Seat u) → (w : SeatView) × (get_elem? vs j ≡ some (Seat w)) × (w.number ≡ u.number)) → Numbers vs → Numbers xs
numbers_from vs xs back ok i j u v a b e = let x = back i u a in let y = back j v b in ok i j x.0 y.0 x.1 y.1 (x.2 ∙ (e ∙ sym y.2))

pub some_long : (vs : List View) (d : View) → get_elem? vs 0 ≡ some d → 0 < length vs
some_long [] d e = absurd (some-ne-none d (sym e))
some_long (x ∷ xs) d e = omega arith

-- whose view is control's, and which it is
pub known : (ws : List ℕ) (vs : List View) (id : ℕ) (c : ControlView) → (d : ControlView) × Around d ws vs → get_elem? vs id ≡ some (Control c) → (0 ≡ id) × Around c ws vs
known ws vs id c r at = let here : id ≡ 0 = r.1.alone id c at in (sym here, subst (λ (d : ControlView). Around d ws vs) (ap control_of (some-injective _ _ (sym r.1.at_control ∙ (ap (get_elem? vs) (sym here) ∙ at)))) r.1)

pub same_cards : (c d : ControlView) (ws : List ℕ) → d.card_words ≡ c.card_words → d.limit ≡ c.limit → HoldsCards c ws → HoldsCards d ws
same_cards c d ws same limit ok = record { size = ok.size ∙ ap (λ (n : ℕ). 5 + 5 * n) (sym limit); room = let r = ok.room in let e = ap length same in omega arith; lie = subst (λ (l : List ℕ). (j : ℕ) → j < length l → get_or ws (5 + j) 0 ≡ get_or l j 0) (sym same) ok.lie }

pub wide : (c : ControlView) (ws : List ℕ) (vs : List View) → Around c ws vs → 4 < length ws
wide c ws vs a = let s = a.cards.size in omega arith

-- control steps, and tells nothing of additions
pub control_steps : (c d : ControlView) (ws us : List ℕ) (vs : List View) → Around c ws vs → IsAsLeft d us → HoldsCards d us → Settled d → Grown c ws d us → ((v : SeatView) → Fits c ws v → Fits d us v)
    → d.told ≡ c.told → d.told_over ≡ c.told_over → d.told_gone ≡ c.told_gone → ToldFits d → (Moved vs (set vs 0 (Control d)) → Sums d us (set vs 0 (Control d))) → Around d us (set vs 0 (Control d))
control_steps c d ws us vs a words cards settled grows seats told over gone fits sums =
    let m : Moved vs (set vs 0 (Control d)) = moved_set vs 0 (Control c) (Control d) a.at_control told over gone in record {
      at_control = set_here vs 0 (Control d) (some_long vs (Control c) a.at_control);
      alone = λ j x e. ⊎_elim (λ (t : (j ≡ 0) × (Control d ≡ Control x)). t.0) (λ (t : (j ≢ 0) × (get_elem? vs j ≡ some (Control x))). a.alone j x t.1) (at_set vs 0 j (Control d) (Control x) e);
      words = words;
      settled = settled;
      seats = λ j u e. let s = a.seats j u (back j u e) in (seats u s.0, follows_moved vs (set vs 0 (Control d)) u m s.1);
      numbers = numbers_from vs (set vs 0 (Control d)) (λ j u e. (u, back j u e, refl)) a.numbers;
      cards = cards;
      ledger = ledger_grows c ws d us grows vs (set vs 0 (Control d)) m a.ledger;
      sums = sums m;
      told = fits;
    }
  where
    back : (j : ℕ) (u : SeatView) → get_elem? (set vs 0 (Control d)) j ≡ some (Seat u) → get_elem? vs j ≡ some (Seat u)
    back j u e = ⊎_elim (λ (t : (j ≡ 0) × (Control d ≡ Seat u)). absurd (not_both d u t.1)) (λ (t : (j ≢ 0) × (get_elem? vs j ≡ some (Seat u))). t.1) (at_set vs 0 j (Control d) (Seat u) e)

-- a seat's view at id, among those of the seats after its step
pub seat_back : (vs : List View) (id : ℕ) (v w : SeatView) → get_elem? vs id ≡ some (Seat v) → w.number ≡ v.number → (j : ℕ) (u : SeatView) → get_elem? (set vs id (Seat w)) j ≡ some (Seat u)
    → (x : SeatView) × (get_elem? vs j ≡ some (Seat x)) × (x.number ≡ u.number)
seat_back vs id v w at same j u e = ⊎_elim
    (λ (t : (j ≡ id) × (Seat w ≡ Seat u)). (v, ap (get_elem? vs) t.0 ∙ at, sym same ∙ ap (λ (x : View). (seat_of x).number) t.1))
    (λ (t : (j ≢ id) × (get_elem? vs j ≡ some (Seat u))). (u, t.1, refl)) (at_set vs id j (Seat w) (Seat u) e)

pub control_else : (vs : List View) (id : ℕ) (c : ControlView) (v w : SeatView) → get_elem? vs 0 ≡ some (Control c) → get_elem? vs id ≡ some (Seat v) → get_elem? (set vs id (Seat w)) 0 ≡ some (Control c)
control_else vs id c v w zero_at at = set_else vs id 0 (Seat w) (λ e. not_both c v (some-injective _ _ (sym zero_at ∙ (ap (get_elem? vs) e ∙ at)))) ∙ zero_at

pub alone_else : (vs : List View) (id : ℕ) (w : SeatView) → ((j : ℕ) (d : ControlView) → get_elem? vs j ≡ some (Control d) → j ≡ 0) → (j : ℕ) (d : ControlView) → get_elem? (set vs id (Seat w)) j ≡ some (Control d) → j ≡ 0
alone_else vs id w ok j d e = ⊎_elim (λ (t : (j ≡ id) × (Seat w ≡ Control d)). absurd (not_both d w (sym t.1))) (λ (t : (j ≢ id) × (get_elem? vs j ≡ some (Control d))). ok j d t.1) (at_set vs id j (Seat w) (Control d) e)

-- a seat loads
seat_loads : (c : ControlView) (ws : List ℕ) (vs : List View) → Around c ws vs → (id : ℕ) (v : SeatView) (p : Current) → get_elem? vs id ≡ some (Seat v) → p ≡ current c → Around c ws (set vs id (Seat (loaded v p)))
seat_loads c ws vs a id v p at is =
    let w = loaded v p in let m : Moved vs (set vs id (Seat w)) = moved_set vs id (Seat v) (Seat w) at refl refl refl in let mine = a.seats id v at in record {
      at_control = control_else vs id c v w a.at_control at;
      alone = alone_else vs id w a.alone;
      words = a.words;
      settled = a.settled;
      seats = λ j u e. ⊎_elim
          (λ (t : (j ≡ id) × (Seat w ≡ Seat u)). subst (λ (x : SeatView). Fits c ws x × Follows (set vs id (Seat w)) x) (ap seat_of t.1) (seat_loaded c ws v p is a.settled mine.0, follows_moved vs (set vs id (Seat w)) w m (follows_loaded c ws vs v p is a.settled a.ledger mine.1)))
          (λ (t : (j ≢ id) × (get_elem? vs j ≡ some (Seat u))). let s = a.seats j u t.1 in (s.0, follows_moved vs (set vs id (Seat w)) u m s.1)) (at_set vs id j (Seat w) (Seat u) e);
      numbers = numbers_from vs (set vs id (Seat w)) (seat_back vs id v w at refl) a.numbers;
      cards = a.cards;
      ledger = ledger_grows c ws c ws (grown_words c ws ws (λ j. omega arith)) vs (set vs id (Seat w)) m a.ledger;
      sums = sums_grow c ws c ws (grown_words c ws ws (λ j. omega arith)) vs (set vs id (Seat w)) a.settled a.ledger m (λ j _. inl (refl, refl)) (λ f i. inl i) (λ f i. inl i) a.sums;
      told = a.told;
    }

same_words : (ws : List ℕ) (i : ℕ) (P : List ℕ → Type 0) → P ws → P (set ws i (get_or ws i 0))
same_words ws i P = subst P (sym (set-get_or ws i 0))

-- 1. a seat loads the current word
pub loads : (n id : ℕ) (m : M) → m.0 ≡ Seat (seat_of m.0) → Allows Slotted n id m 4 (λ w. w) (Loads (step n 4 0 0 none) m)
loads n id m is s r _ at fits =
    let c = r.0 in let a = r.1 in let v = seat_of m.0 in let w : ℕ = get_or s.words 4 0 in let at' = at ∙ ap some is in let k = (a.seats id v at').0 in
    let epoch : epoch_of w ≡ (current c).epoch = ap (λ (q : Current). q.epoch) a.words.shows in
    let present : flag_of w ≡ (current c).present = ap (λ (q : Current). q.present) a.words.shows in (
      Seat (loaded v (shown_by w)),
      keeps,
      tt,
      (c, same_words s.words 4 (λ ws. Around c ws (set s.views id (Seat (loaded v (shown_by w))))) (seat_loads c s.words s.views a id v (shown_by w) at' a.words.shows)),
      (
        refl,
        record {
          small = (
            (let l = a.settled.pointed_low in let h = a.settled.has_card in let o = a.cards.room in let z = k.limit in omega (arith, epoch)),
            λ f. let nm = a.settled.names_open (sym present ∙ f) in let z = a.settled.open_some (current c).an nm.0 in let y = nm.1 in omega (arith, epoch),
          );
          later = let q = k.low in omega (arith, epoch);
          later_loaded = λ p i. let q = (a.settled.points_low _ (k.loaded p i).1).0 in omega (arith, epoch);
          later_notes = λ e i. let q = a.settled.absent_low e (k.noted e i) in ((let l = q.0 in omega (arith, epoch)), λ f. let l = q.1 (sym present ∙ f) in omega (arith, epoch));
          later_start = ((let q = k.start.0 in omega (arith, epoch)), λ p f. let q = k.start.1 p (sym present ∙ f) in omega (arith, epoch));
          later_given = λ f i. let q = (k.given f i).1 in let l = k.start.0 in omega (arith, epoch);
          later_over = λ x i. (k.own_over x i, λ f. let o = (a.ledger.over x (among_at overs x s.views id (Seat v) at' i)).2 in let l = (a.settled.points_low _ o).0 in omega (arith, epoch));
          not_gone = λ f x i same. let g = (a.ledger.gone x (among_at gones x s.views id (Seat v) at' i)).0 in let nm = a.settled.names_open (sym present ∙ f) in a.settled.found_gone (current c).an nm.0 g.0 g.1 (g.3 ∙ (same ∙ (epoch ∙ sym nm.1)));
        },
      ),
    )

-- 3. control swaps a slot to open
pub raises : (n id : ℕ) (m : M) (k : AssociationNumber) (e : ℕ) → m.0 ≡ Control (control_of m.0) → (slot (control_of m.0) k).shut ≡ true → top (control_of m.0).raises < e → 5 * e ≤ length (control_of m.0).card_words
    → Allows Slotted n id m (number_of k) (λ _. open_word e (control_of m.0).first) (Raises (step n (number_of k) (open_word e (control_of m.0).first) 0 none) m)
raises n id m k e is shut above carded s r _ at fits =
    let c = control_of m.0 in let q = known s.words s.views id c r (at ∙ ap some is) in let a = q.1 in let w : ℕ = open_word e c.first in let d = raised c k e in let us = set s.words (number_of k) w in
    let x : SlotView = record { epoch = e; shut = false; seen = c.first } in let long = wide c s.words s.views a in
    let few = number_of-few k in let low : c.first < 2 ^ 39 = let f = a.settled.first_small in omega arith in
    let next : next_of (get_or us (number_of k) 0) ≡ c.first = ap next_of (get_or-set_same s.words (number_of k) w 0 (omega arith)) ∙ open_next e c.first low in
    let g = grown_raised c s.words k e w above a.settled in
    let slots : (j : AssociationNumber) → 0 < (slot d j).epoch → (((slot c j).epoch ≡ (slot d j).epoch) × (next_of (get_or us (number_of j) 0) ≡ next_of (get_or s.words (number_of j) 0))) ⊎ ((next_of (get_or us (number_of j) 0) ≡ c.first) × (top c.raises < (slot d j).epoch)) =
    slot_set (λ j y. 0 < y.epoch → (((slot c j).epoch ≡ y.epoch) × (next_of (get_or us (number_of j) 0) ≡ next_of (get_or s.words (number_of j) 0))) ⊎ ((next_of (get_or us (number_of j) 0) ≡ c.first) × (top c.raises < y.epoch))) c.slots k x (let f = a.settled.four in omega arith)
    (λ _. inr (next, above)) (λ j ne _. inl (refl, ap next_of (get_or-set_other s.words (number_of k) (number_of j) w 0 ne))) in
    let kept : Around d us (set s.views 0 (Control d)) = control_steps c d s.words us s.views a
    (words_slot c s.words k w x d.raises c.found c.loads a.settled.four long a.words (open_epoch e c.first low) (open_flag e c.first low) (let z = open_next e c.first low in omega arith))
    (same_cards c d us refl refl (cards_else c s.words (number_of k) w (omega arith) a.cards)) (settled_raised c k e shut above carded a.settled) g (λ v. seat_grows c s.words d us g a.settled v refl (λ z. z)) refl refl refl (told_grows c s.words d us g refl refl refl a.told)
    (λ m. sums_grow c s.words d us g s.views _ a.settled a.ledger m slots (λ f i. inl i) (λ f i. inl i) a.sums) in (
      Control d,
      keeps,
      tt,
      (d, subst (λ (i : ℕ). Around d us (set s.views i (Control d))) q.0 kept),
      ((λ i. let y : M = (Control (raised c (sym (an_back k) i) (sym (open_epoch e c.first low) i)), m.1) in y), learned d us (set s.views 0 (Control d)) kept),
    )

-- 4. control shuts a slot
pub shuts : (n id : ℕ) (m : M) (k : AssociationNumber) → m.0 ≡ Control (control_of m.0) → (slot (control_of m.0) k).shut ≡ false → ((current (control_of m.0)).present ≡ true → (current (control_of m.0)).an ≢ k)
    → Allows Slotted n id m (number_of k) (λ w. bit_or w (2 ^ 39)) (Shuts (step n (number_of k) (2 ^ 39) 0 none) m)
shuts n id m k is opened away s r _ at fits =
    let c = control_of m.0 in let q = known s.words s.views id c r (at ∙ ap some is) in let a = q.1 in let few = number_of-few k in let w : ℕ = get_or s.words (number_of k) 0 in let d = closed c k (next_of w) in let w' : ℕ = bit_or w (2 ^ 39) in let us = set s.words (number_of k) w' in
    let x : SlotView = record { epoch = (slot c k).epoch; shut = true; seen = next_of w } in let long = wide c s.words s.views a in
    let g = grown_closed c s.words k w' opened a.settled in
    let next : next_of (get_or us (number_of k) 0) ≡ next_of w = ap next_of (get_or-set_same s.words (number_of k) w' 0 (omega arith)) ∙ shut_next w in
    let slots : (j : AssociationNumber) → 0 < (slot d j).epoch → (((slot c j).epoch ≡ (slot d j).epoch) × (next_of (get_or us (number_of j) 0) ≡ next_of (get_or s.words (number_of j) 0))) ⊎ ((next_of (get_or us (number_of j) 0) ≡ c.first) × (top c.raises < (slot d j).epoch)) =
    slot_set (λ j y. 0 < y.epoch → (((slot c j).epoch ≡ y.epoch) × (next_of (get_or us (number_of j) 0) ≡ next_of (get_or s.words (number_of j) 0))) ⊎ ((next_of (get_or us (number_of j) 0) ≡ c.first) × (top c.raises < y.epoch))) c.slots k x (let f = a.settled.four in omega arith)
    (λ _. inl (refl, next)) (λ j ne _. inl (refl, ap next_of (get_or-set_other s.words (number_of k) (number_of j) w' 0 ne))) in
    let New : NextSeen → Type 0 = λ f. (0 < f.epoch) × ((slot c f.an).epoch ≡ f.epoch) × (f.next ≡ next_of (get_or s.words (number_of f.an) 0)) in
    let kept : Around d us (set s.views 0 (Control d)) = control_steps c d s.words us s.views a
    (words_slot c s.words k w' x c.raises d.found c.loads a.settled.four long a.words (shut_epoch w ∙ a.words.epochs k) (shut_flag w) (let z = shut_next w in omega arith))
    (same_cards c d us refl refl (cards_else c s.words (number_of k) w' (omega arith) a.cards)) (settled_closed c k (next_of w) opened away a.settled) g (λ v. seat_grows c s.words d us g a.settled v refl (λ z. z)) refl refl refl (told_grows c s.words d us g refl refl refl a.told)
    (λ m. sums_grow c s.words d us g s.views _ a.settled a.ledger m slots (λ f. ⊎_elim (λ e. inr (subst New e (a.settled.open_some k opened, refl, refl))) inl) (λ f i. inl i) a.sums) in (
      Control d,
      keeps,
      tt,
      (d, subst (λ (i : ℕ). Around d us (set s.views i (Control d))) q.0 kept),
      (
        (λ i. let y : M = (Control (closed c (sym (an_back k) i) (next_of w)), m.1) in y),
        subst (λ (j : AssociationNumber). Shows c j (next_of w)) (sym (an_back k)) (a.words.seen k, is_next c s.words s.views a k (slot c k).epoch (opened, refl)),
        learned d us (set s.views 0 (Control d)) kept,
      ),
    )

-- 5. control stores the current word
stores : (n id : ℕ) (m : M) (w : ℕ) (p : Current) → m.0 ≡ Control (control_of m.0) → shown_by w ≡ p → (p.present ≡ true → IsOpen (control_of m.0) p.an p.epoch)
    → (current (control_of m.0)).epoch ≤ p.epoch → (p.present ≡ true → (current (control_of m.0)).epoch < p.epoch) → ((c : ControlView) → Settled c → c ≡ control_of m.0 → p.epoch ≤ top c.raises)
    → Allows Slotted n id m 4 (λ _. w) (λ _. Points (step n 4 w 0 none) m w)
stores n id m w p is shows names later above low s r _ at fits =
    let c = control_of m.0 in let q = known s.words s.views id c r (at ∙ ap some is) in let a = q.1 in let d = pointed c p in let us = set s.words 4 w in
    let g = grown_pointed c s.words p w in
    let kept : Around d us (set s.views 0 (Control d)) = control_steps c d s.words us s.views a (words_point c s.words w p (wide c s.words s.views a) a.words shows) (same_cards c d us refl refl (cards_else c s.words 4 w (omega arith) a.cards)) (settled_pointed c p names later above (low c a.settled refl) a.settled) g (λ v. seat_pointed c s.words us p v g a.settled later above) refl refl refl (record { noted = λ e i. inr (a.told.noted e i); reads = a.told.reads })
    (λ m. sums_grow c s.words d us g s.views _ a.settled a.ledger m (λ j _. let few = number_of-few j in inl (refl, ap next_of (get_or-set_other s.words 4 (number_of j) w 0 (λ z. omega arith)))) (λ f i. inl i) (λ f i. inl i) a.sums) in (
      Control d,
      keeps,
      tt,
      (d, subst (λ (i : ℕ). Around d us (set s.views i (Control d))) q.0 kept),
      (ap (λ (x : Current). let y : M = (Control (pointed c x), m.1) in y) (sym shows), learned d us (set s.views 0 (Control d)) kept),
    )

pub points : (n id : ℕ) (m : M) (an : AssociationNumber) (e w : ℕ) → m.0 ≡ Control (control_of m.0) → IsOpen (control_of m.0) an e → (current (control_of m.0)).epoch < e → w ≡ present_word e an
    → Allows Slotted n id m 4 (λ _. w) (λ _. Points (step n 4 w 0 none) m w)
points n id m an e w is opened above same = stores n id m w (present_at an e) is (ap shown_by same ∙ present_shows e an)
    (λ _. opened) (omega arith) (λ _. above) (λ c ok at_m. let l = ok.slot_low an in let z : (slot c an).epoch ≡ e = ap (λ (d : ControlView). (slot d an).epoch) at_m ∙ opened.1 in omega arith)

pub unpoints : (n id : ℕ) (m : M) (w : ℕ) → m.0 ≡ Control (control_of m.0) → w ≡ absent_word (current (control_of m.0)).epoch
    → Allows Slotted n id m 4 (λ _. w) (λ _. Points (step n 4 w 0 none) m w)
unpoints n id m w is same = let e : ℕ = (current (control_of m.0)).epoch in stores n id m w (absent_after e) is (ap shown_by same ∙ absent_shows e)
    (λ f. absurd (false≢true f)) (omega arith) (λ f. absurd (false≢true f)) (λ c ok at_m. let l = ok.pointed_low in let z : (current c).epoch ≡ e = ap (λ (d : ControlView). (current d).epoch) at_m in omega arith)

-- 6. control looks at an open slot
pub looks : (n id : ℕ) (m : M) (k : AssociationNumber) → m.0 ≡ Control (control_of m.0) → (slot (control_of m.0) k).shut ≡ false → Allows Slotted n id m (number_of k) (λ w. w) (Looks (step n (number_of k) 0 0 none) m)
looks n id m k is opened s r _ at fits =
    let c = control_of m.0 in let q = known s.words s.views id c r (at ∙ ap some is) in let a = q.1 in let few = number_of-few k in let w : ℕ = get_or s.words (number_of k) 0 in let d = looked c k (next_of w) in
    let x : SlotView = record { epoch = (slot c k).epoch; shut = (slot c k).shut; seen = next_of w } in
    let g = grown_looked c s.words k (next_of w) a.settled in
    let long : number_of k < length c.slots = let f = a.settled.four in omega arith in
    let slots : (j : AssociationNumber) → 0 < (slot d j).epoch → (((slot c j).epoch ≡ (slot d j).epoch) × (next_of (get_or s.words (number_of j) 0) ≡ next_of (get_or s.words (number_of j) 0))) ⊎ ((next_of (get_or s.words (number_of j) 0) ≡ c.first) × (top c.raises < (slot d j).epoch)) =
    slot_set (λ j y. 0 < y.epoch → (((slot c j).epoch ≡ y.epoch) × (next_of (get_or s.words (number_of j) 0) ≡ next_of (get_or s.words (number_of j) 0))) ⊎ ((next_of (get_or s.words (number_of j) 0) ≡ c.first) × (top c.raises < y.epoch))) c.slots k x long
    (λ _. inl (refl, refl)) (λ j ne _. inl (refl, refl)) in
    let New : NextSeen → Type 0 = λ f. In (f.an, f.epoch) c.raises × AtLeast d s.words f.an f.epoch f.next in
    let news : New (record { an = k; epoch = (slot c k).epoch; next = next_of w }) = (
      a.settled.slot_raised k (a.settled.open_some k opened),
      record { now = λ _. omega arith; then = λ f i _ e. absurd (a.settled.found_gone k opened f i e) },
    ) in
    let kept : Around d s.words (set s.views 0 (Control d)) = control_steps c d s.words s.words s.views a
    (same_words_back s.words (number_of k) (IsAsLeft d) (words_slot c s.words k w x c.raises c.found d.loads a.settled.four (wide c s.words s.views a) a.words (a.words.epochs k) (a.words.shuts k) (omega arith)))
    (same_cards c d s.words refl refl a.cards) (settled_looked c k (next_of w) a.settled) g (λ v. seat_grows c s.words d s.words g a.settled v refl (λ z. z)) refl refl refl (told_grows c s.words d s.words g refl refl refl a.told)
    (λ m. sums_grow c s.words d s.words g s.views _ a.settled a.ledger m slots (λ f i. inl i) (λ f. ⊎_elim (λ e. inr (subst New e news)) inl) a.sums) in (
      Control d,
      keeps,
      tt,
      (d, same_words s.words (number_of k) (λ us. Around d us (set s.views id (Control d))) (subst (λ (i : ℕ). Around d s.words (set s.views i (Control d))) q.0 kept)),
      (
        (λ i. let y : M = (Control (looked c (sym (an_back k) i) (next_of w)), m.1) in y),
        subst (λ (j : AssociationNumber). Shows c j (next_of w)) (sym (an_back k)) (a.words.seen k, is_next c s.words s.views a k (slot c k).epoch (opened, refl)),
        learned d s.words (set s.views 0 (Control d)) kept,
      ),
    )
  where
    same_words_back : (ws : List ℕ) (i : ℕ) (P : List ℕ → Type 0) → P (set ws i (get_or ws i 0)) → P ws
    same_words_back ws i P = subst P (set-get_or ws i 0)

-- 3. control swaps a slot to open, whose place and new word are told by what they equal
pub raises_as : (n id : ℕ) (m : M) (k : AssociationNumber) (j e w : ℕ) → j ≡ number_of k → m.0 ≡ Control (control_of m.0) → (slot (control_of m.0) k).shut ≡ true → top (control_of m.0).raises < e → 5 * e ≤ length (control_of m.0).card_words → w ≡ open_word e (control_of m.0).first
    → Allows Slotted n id m j (λ _. w) (Raises (step n j w 0 none) m)
raises_as n id m k j e w at is shut above carded same = subst (λ (i : ℕ). Allows Slotted n id m i (λ _. w) (Raises (step n i w 0 none) m)) (sym at) (subst (λ (x : ℕ). Allows Slotted n id m (number_of k) (λ _. x) (Raises (step n (number_of k) x 0 none) m)) (sym same) (raises n id m k e is shut above carded))

pub shuts_at : (n id : ℕ) (m : M) (k : AssociationNumber) (j : ℕ) → j ≡ number_of k → m.0 ≡ Control (control_of m.0) → (slot (control_of m.0) k).shut ≡ false → ((current (control_of m.0)).present ≡ true → (current (control_of m.0)).an ≢ k)
    → Allows Slotted n id m j (λ w. bit_or w (2 ^ 39)) (Shuts (step n j (2 ^ 39) 0 none) m)
shuts_at n id m k j at is opened away = subst (λ (i : ℕ). Allows Slotted n id m i (λ w. bit_or w (2 ^ 39)) (Shuts (step n i (2 ^ 39) 0 none) m)) (sym at) (shuts n id m k is opened away)

pub looks_at : (n id : ℕ) (m : M) (k : AssociationNumber) (j : ℕ) → j ≡ number_of k → m.0 ≡ Control (control_of m.0) → (slot (control_of m.0) k).shut ≡ false → Allows Slotted n id m j (λ w. w) (Looks (step n j 0 0 none) m)
looks_at n id m k j at is opened = subst (λ (i : ℕ). Allows Slotted n id m i (λ w. w) (Looks (step n i 0 0 none) m)) (sym at) (looks n id m k is opened)

-- control learns, by a load of the current word
pub learns : (n id : ℕ) (m : M) → m.0 ≡ Control (control_of m.0) → Allows Slotted n id m 4 (λ w. w) (Learns (step n 4 0 0 none) m)
learns n id m is s r _ at fits =
    let c = control_of m.0 in let q = known s.words s.views id c r (at ∙ ap some is) in (
      m.0,
      keeps,
      tt,
      (c, subst (λ (t : List ℕ × List View). Around c t.0 t.1) (λ i. (sym (set-get_or s.words 4 0) i, sym (set_again s.views id m.0 at) i)) q.1),
      (refl, learned c s.words s.views q.1),
    )
