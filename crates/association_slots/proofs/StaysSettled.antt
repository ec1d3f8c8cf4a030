-- What control did, over each of its steps.
use Rattle.std.proofs.Common.{◌≡◌, ◌≢◌, ◌⊎◌, ℕ, ◌+◌, ◌<◌, ◌≤◌, Bool, true, false, List, [], ◌∷◌, length, get_or, set, refl, sym, ap, ◌∙◌, subst, inl, inr, ⊎_elim, arith, length-append, ◌*◌, length-set, get_or-set_other, get_or-set_same}
use Rattle.lan_base.specs.AssociationNumbers.{number_of}
use Rattle.lan_base.specs.declared.association_number.AssociationNumber.{AssociationNumber}
use Rattle.lan_base.proofs.Public.{number_of-few}
use Rattle.std.proofs.lemmas.Bool.{false≢true}
use Rattle.association_slots.specs.Words.{epoch_of, flag_of, next_of}
use Rattle.association_slots.specs.Words.{shown_by}
use Rattle.association_slots.specs.Views.{In, slot, blank_slot, current, top, WasShut}
use Rattle.association_slots.specs.Steps.{wrote, raised, closed, pointed, looked}
use Rattle.association_slots.specs.Rule.{IsAsLeft, Rise, Settled, HoldsCards}
use Rattle.association_slots.specs.declared.view.Current.{Current}
use Rattle.association_slots.specs.declared.view.NextSeen.{NextSeen}
use Rattle.association_slots.specs.declared.view.SlotView.{SlotView}
use Rattle.association_slots.specs.declared.view.Addition.{Addition}
use Rattle.association_slots.specs.declared.view.Mark.{Mark}
use Rattle.association_slots.specs.declared.view.ControlView.{ControlView}
use Rattle.association_slots.proofs.SlotNumbers.{same_number, same_or_apart}

-- a fact of each slot, after the slot k changed
pub slot_set : (P : AssociationNumber → SlotView → Type 0) (ss : List SlotView) (k : AssociationNumber) (x : SlotView) → number_of k < length ss → P k x → ((j : AssociationNumber) → number_of j ≢ number_of k → P j (get_or ss (number_of j) blank_slot)) → (j : AssociationNumber) → P j (get_or (set ss (number_of k) x) (number_of j) blank_slot)
slot_set P ss k x long here else j = ⊎_elim
    (λ e. subst (λ (n : AssociationNumber). P n (get_or (set ss (number_of k) x) (number_of n) blank_slot)) (sym e) (subst (P k) (sym (get_or-set_same ss (number_of k) x blank_slot long)) here))
    (λ ne. subst (P j) (sym (get_or-set_other ss (number_of k) (number_of j) x blank_slot ne)) (else j ne))
    (same_or_apart j k)

-- the slot k goes to x, and its word to n
pub words_slot : (c : ControlView) (ws : List ℕ) (k : AssociationNumber) (n : ℕ) (x : SlotView) (raises : List (AssociationNumber × ℕ)) (found loads : List NextSeen) → length c.slots ≡ 4 → 4 < length ws → IsAsLeft c ws
    → epoch_of n ≡ x.epoch → flag_of n ≡ x.shut → x.seen ≤ next_of n → IsAsLeft (record c { slots = set c.slots (number_of k) x; raises = raises; found = found; loads = loads }) (set ws (number_of k) n)
words_slot c ws k n x raises found loads four wide ok epoch shut seen = record {
  epochs = λ j. (each j).0;
  shuts = λ j. (each j).1;
  seen = λ j. (each j).2;
  shows = ap shown_by (get_or-set_other ws (number_of k) 4 n 0 (λ e. let few = number_of-few k in omega arith)) ∙ ok.shows;
}
  where
    Fits : ℕ → SlotView → Type 0
    Fits w y = (epoch_of w ≡ y.epoch) × (flag_of w ≡ y.shut) × (y.seen ≤ next_of w)

    each : (j : AssociationNumber) → Fits (get_or (set ws (number_of k) n) (number_of j) 0) (get_or (set c.slots (number_of k) x) (number_of j) blank_slot)
    each j = ⊎_elim
        (λ e. subst (λ (z : ℕ × SlotView). Fits z.0 z.1) (λ i. (sym (here_word e) i, sym (here_slot e) i)) (epoch, shut, seen))
        (λ ne. subst (λ (z : ℕ × SlotView). Fits z.0 z.1) (λ i. (sym (get_or-set_other ws (number_of k) (number_of j) n 0 ne) i, sym (get_or-set_other c.slots (number_of k) (number_of j) x blank_slot ne) i)) (ok.epochs j, ok.shuts j, ok.seen j))
        (same_or_apart j k)
      where
        here_word : j ≡ k → get_or (set ws (number_of k) n) (number_of j) 0 ≡ n
        here_word e = ap (λ (m : AssociationNumber). get_or (set ws (number_of k) n) (number_of m) 0) e ∙ get_or-set_same ws (number_of k) n 0 (let few = number_of-few k in omega arith)

        here_slot : j ≡ k → get_or (set c.slots (number_of k) x) (number_of j) blank_slot ≡ x
        here_slot e = ap (λ (m : AssociationNumber). get_or (set c.slots (number_of k) x) (number_of m) blank_slot) e ∙ get_or-set_same c.slots (number_of k) x blank_slot (let few = number_of-few k in omega arith)

-- a seat adds to the slot k
pub words_added : (c : ControlView) (ws : List ℕ) (k : AssociationNumber) (n : ℕ) → 4 < length ws → IsAsLeft c ws → epoch_of n ≡ epoch_of (get_or ws (number_of k) 0) → flag_of n ≡ flag_of (get_or ws (number_of k) 0) → next_of (get_or ws (number_of k) 0) ≤ next_of n → IsAsLeft c (set ws (number_of k) n)
words_added c ws k n wide ok epoch flag grows = record {
  epochs = λ j. each (λ w. epoch_of w ≡ (slot c j).epoch) j (λ s. epoch ∙ s) (ok.epochs j);
  shuts = λ j. each (λ w. flag_of w ≡ (slot c j).shut) j (λ s. flag ∙ s) (ok.shuts j);
  seen = λ j. each (λ w. (slot c j).seen ≤ next_of w) j (λ s. omega arith) (ok.seen j);
  shows = ap shown_by (get_or-set_other ws (number_of k) 4 n 0 (λ e. let few = number_of-few k in omega arith)) ∙ ok.shows;
}
  where
    each : (P : ℕ → Type 0) (j : AssociationNumber) → (P (get_or ws (number_of k) 0) → P n) → P (get_or ws (number_of j) 0) → P (get_or (set ws (number_of k) n) (number_of j) 0)
    each P j step was = ⊎_elim
        (λ e. subst P (sym (ap (λ (m : AssociationNumber). get_or (set ws (number_of k) n) (number_of m) 0) e ∙ get_or-set_same ws (number_of k) n 0 (let few = number_of-few k in omega arith))) (step (subst (λ (m : AssociationNumber). P (get_or ws (number_of m) 0)) e was)))
        (λ ne. subst P (sym (get_or-set_other ws (number_of k) (number_of j) n 0 ne)) was)
        (same_or_apart j k)

-- the current word goes to n
pub words_point : (c : ControlView) (ws : List ℕ) (n : ℕ) (p : Current) → 4 < length ws → IsAsLeft c ws → shown_by n ≡ p → IsAsLeft (pointed c p) (set ws 4 n)
words_point c ws n p wide ok is = record {
  epochs = λ j. ap epoch_of (else j) ∙ ok.epochs j;
  shuts = λ j. ap flag_of (else j) ∙ ok.shuts j;
  seen = λ j. subst (λ (w : ℕ). (slot c j).seen ≤ next_of w) (sym (else j)) (ok.seen j);
  shows = ap shown_by (get_or-set_same ws 4 n 0 wide) ∙ is;
}
  where
    else : (j : AssociationNumber) → get_or (set ws 4 n) (number_of j) 0 ≡ get_or ws (number_of j) 0
    else j = get_or-set_other ws 4 (number_of j) n 0 (λ e. let few = number_of-few j in omega arith)

pub words_out : (c : ControlView) (ws : List ℕ) (out : List Bool) (told : List Addition) (over gone : List Mark) (notes : List ℕ) (reads : List (ℕ × ℕ)) → IsAsLeft c ws → IsAsLeft (record c { out = out; told = told; told_over = over; told_gone = gone; told_notes = notes; told_reads = reads }) ws
words_out c ws out told over gone notes reads ok = record { epochs = ok.epochs; shuts = ok.shuts; seen = ok.seen; shows = ok.shows }

-- an epoch is raised once
pub once : (rs : List (AssociationNumber × ℕ)) → Rise rs → (r q : AssociationNumber × ℕ) → In r rs → In q rs → r.1 ≡ q.1 → r.0 ≡ q.0
once [] falls r q i j e = absurd i
once (x ∷ rs) falls r q i j e = ⊎_elim
    (λ a. ⊎_elim (λ b. ap (λ (z : AssociationNumber × ℕ). z.0) (sym a ∙ b)) (λ b. let l = falls.0 q b in let z : x.1 ≡ r.1 = ap (λ (z : AssociationNumber × ℕ). z.1) a in absurd (omega arith)) j)
    (λ a. ⊎_elim (λ b. let l = falls.0 r a in let z : x.1 ≡ q.1 = ap (λ (z : AssociationNumber × ℕ). z.1) b in absurd (omega arith)) (λ b. once rs falls.1 r q a b e) j)
    i

-- Raise: the slot k is shut, and e is above every raised epoch
pub settled_raised : (c : ControlView) (k : AssociationNumber) (e : ℕ) → (slot c k).shut ≡ true → top c.raises < e → 5 * e ≤ length c.card_words → Settled c → Settled (raised c k e)
settled_raised c k e shut above carded ok = record {
  four = length-set c.slots (number_of k) x ∙ ok.four;
  eight = ok.eight;
  first_small = ok.first_small;
  names_open = λ p. let was = ok.names_open p in (open_else _ was.0 (λ y. y.shut ≡ false) was.0, open_else _ was.0 (λ y. y.epoch ≡ (current c).epoch) was.1);
  has_card = carded;
  rise = ((λ q i. let l = (ok.raised_once q i).1 in omega arith), ok.rise);
  raised_once = λ q i. ⊎_elim
      (λ is. subst (λ (r : AssociationNumber × ℕ). (0 < r.1) × (r.1 ≤ e) × (((slot (raised c k e) r.0).epoch ≡ r.1) ⊎ WasShut c r.0 r.1)) is (omega arith, omega arith, inl (ap (λ (y : SlotView). y.epoch) (get_or-set_same c.slots (number_of k) x blank_slot long))))
      (λ i'. let l = ok.raised_once q i' in (l.0, (let m = l.1 in omega arith), ⊎_elim (still q.0 q.1 l.0) inr l.2)) i;
  slot_low = slot_set (λ i y. y.epoch ≤ e) c.slots k x long (omega arith) (λ i _. let m = ok.slot_low i in omega arith);
  slot_raised = slot_set (λ i y. 0 < y.epoch → In (i, y.epoch) (raised c k e).raises) c.slots k x long (λ _. inl refl) (λ i _ z. inr (ok.slot_raised i z));
  slot_shut = slot_set (λ i y. 0 < y.epoch → y.shut ≡ true → WasShut c i y.epoch) c.slots k x long (λ _ s. absurd (false≢true s)) (λ i _. ok.slot_shut i);
  open_some = slot_set (λ i y. y.shut ≡ false → 0 < y.epoch) c.slots k x long (λ _. omega arith) (λ i _. ok.open_some i);
  found_raised = λ f i. inr (ok.found_raised f i);
  found_gone = slot_set (λ i y. y.shut ≡ false → (f : NextSeen) → In f c.found → f.epoch ≢ y.epoch) c.slots k x long (λ _ f i same. let l = (ok.raised_once _ (ok.found_raised f i)).1 in omega arith) (λ i _. ok.found_gone i);
  points_low = λ p i. let l = ok.points_low p i in (l.0, λ q. inr (l.1 q));
  pointed_low = let l = ok.pointed_low in omega arith;
  absent_low = ok.absent_low;
}
  where
    x : SlotView
    x = record { epoch = e; shut = false; seen = c.first }

    long : number_of k < length c.slots
    long = let f = ok.four in let few = number_of-few k in omega arith

    -- a slot that is open is another one
    open_else : (j : AssociationNumber) → (slot c j).shut ≡ false → (P : SlotView → Type 0) → P (slot c j) → P (get_or (set c.slots (number_of k) x) (number_of j) blank_slot)
    open_else j opened P p = subst P (sym (get_or-set_other c.slots (number_of k) (number_of j) x blank_slot (λ same. false≢true (sym opened ∙ (ap (λ (i : ℕ). (get_or c.slots i blank_slot).shut) same ∙ shut))))) p

    still : (j : AssociationNumber) (n : ℕ) → 0 < n → (slot c j).epoch ≡ n → ((slot (raised c k e) j).epoch ≡ n) ⊎ WasShut c j n
    still j n some at = ⊎_elim
        (λ same. inr (subst (λ (z : AssociationNumber × ℕ). WasShut c z.0 z.1) (λ i. (sym same i, ((ap (λ (m : AssociationNumber). (slot c m).epoch) (sym same)) ∙ at) i)) (ok.slot_shut k (let z : (slot c k).epoch ≡ n = ap (λ (m : AssociationNumber). (slot c m).epoch) (sym same) ∙ at in omega arith) shut)))
        (λ ne. inl (ap (λ (y : SlotView). y.epoch) (get_or-set_other c.slots (number_of k) (number_of j) x blank_slot ne) ∙ at))
        (same_or_apart j k)

-- Shut: the slot k is open, and the current word does not name it
pub settled_closed : (c : ControlView) (k : AssociationNumber) (w : ℕ) → (slot c k).shut ≡ false → ((current c).present ≡ true → (current c).an ≢ k) → Settled c → Settled (closed c k w)
settled_closed c k w opened away ok = record {
  four = length-set c.slots (number_of k) x ∙ ok.four;
  eight = ok.eight;
  first_small = ok.first_small;
  has_card = ok.has_card;
  names_open = λ p. let was = ok.names_open p in
      subst (λ (y : SlotView). (y.shut ≡ false) × (y.epoch ≡ (current c).epoch)) (sym (get_or-set_other c.slots (number_of k) (number_of (current c).an) x blank_slot (λ same. away p (same_number (current c).an k same)))) was;
  rise = ok.rise;
  raised_once = λ q i. let l = ok.raised_once q i in (l.0, l.1, ⊎_elim (λ at. inl (same_epoch q.0 ∙ at)) (λ s. inr (before q.0 q.1 s)) l.2);
  slot_low = slot_set (λ i y. y.epoch ≤ top c.raises) c.slots k x long (ok.slot_low k) (λ i _. ok.slot_low i);
  slot_raised = slot_set (λ i y. 0 < y.epoch → In (i, y.epoch) c.raises) c.slots k x long (ok.slot_raised k) (λ i _. ok.slot_raised i);
  slot_shut = slot_set (λ i y. 0 < y.epoch → y.shut ≡ true → WasShut (closed c k w) i y.epoch) c.slots k x long (λ _ _. (record { an = k; epoch = (slot c k).epoch; next = w }, inl refl, refl, refl)) (λ i _ z s. before i _ (ok.slot_shut i z s));
  open_some = slot_set (λ i y. y.shut ≡ false → 0 < y.epoch) c.slots k x long (λ s. absurd (false≢true (sym s))) (λ i _. ok.open_some i);
  found_raised = λ f i. ⊎_elim (λ is. subst (λ (g : NextSeen). In (g.an, g.epoch) c.raises) is here) (ok.found_raised f) i;
  found_gone = slot_set (λ i y. y.shut ≡ false → (f : NextSeen) → In f (closed c k w).found → f.epoch ≢ y.epoch) c.slots k x long (λ s. absurd (false≢true (sym s)))
      (λ i ne o f. ⊎_elim (λ is. subst (λ (g : NextSeen). g.epoch ≢ (slot c i).epoch) is (λ z. ne (ap number_of (sym (once c.raises ok.rise (k, (slot c k).epoch) (i, (slot c i).epoch) here (ok.slot_raised i (ok.open_some i o)) z))))) (ok.found_gone i o f));
  points_low = ok.points_low;
  pointed_low = ok.pointed_low;
  absent_low = ok.absent_low;
}
  where
    x : SlotView
    x = record { epoch = (slot c k).epoch; shut = true; seen = w }

    long : number_of k < length c.slots
    long = let f = ok.four in let few = number_of-few k in omega arith

    here : In (k, (slot c k).epoch) c.raises
    here = ok.slot_raised k (ok.open_some k opened)

    before : (j : AssociationNumber) (e : ℕ) → WasShut c j e → WasShut (closed c k w) j e
    before j e s = (s.0, inr s.1, s.2, s.3)

    same_epoch : (j : AssociationNumber) → (get_or (set c.slots (number_of k) x) (number_of j) blank_slot).epoch ≡ (slot c j).epoch
    same_epoch = slot_set (λ j y. y.epoch ≡ (slot c j).epoch) c.slots k x long refl (λ _ _. refl)

-- Current: p names an open slot, if it is present
pub settled_pointed : (c : ControlView) (p : Current) → (p.present ≡ true → ((slot c p.an).shut ≡ false) × ((slot c p.an).epoch ≡ p.epoch)) → (current c).epoch ≤ p.epoch → (p.present ≡ true → (current c).epoch < p.epoch) → p.epoch ≤ top c.raises → Settled c → Settled (pointed c p)
settled_pointed c p names later above low ok = record {
  four = ok.four;
  eight = ok.eight;
  first_small = ok.first_small;
  has_card = ok.has_card;
  names_open = names;
  rise = ok.rise;
  raised_once = ok.raised_once;
  slot_low = ok.slot_low;
  slot_raised = ok.slot_raised;
  slot_shut = ok.slot_shut;
  open_some = ok.open_some;
  found_raised = ok.found_raised;
  found_gone = ok.found_gone;
  points_low = λ q i. ⊎_elim (λ is. subst (λ (g : Current). (g.epoch ≤ p.epoch) × (g.present ≡ true → In (g.an, g.epoch) c.raises)) is (omega arith, λ y. let n = names y in subst (λ (z : ℕ). In (p.an, z) c.raises) n.1 (ok.slot_raised p.an (ok.open_some p.an n.0))))
      (λ i'. let l = ok.points_low q i' in ((let m = l.0 in omega arith), l.1)) i;
  pointed_low = low;
  absent_low = λ e i. ⊎_elim (λ (t : (p.present ≡ false) × (p.epoch ≡ e)). (omega (arith, t.1), λ y. absurd (false≢true (sym t.0 ∙ y)))) (λ old. let l = (ok.absent_low e old).0 in (omega arith, λ y. let b = above y in omega arith)) i;
}

-- a look at the slot k
pub settled_looked : (c : ControlView) (k : AssociationNumber) (w : ℕ) → Settled c → Settled (looked c k w)
settled_looked c k w ok = record {
  four = length-set c.slots (number_of k) x ∙ ok.four;
  eight = ok.eight;
  first_small = ok.first_small;
  has_card = ok.has_card;
  names_open = λ p. let was = ok.names_open p in (same _ ∙ was.0, same_epoch _ ∙ was.1);
  rise = ok.rise;
  raised_once = λ q i. let l = ok.raised_once q i in (l.0, l.1, ⊎_elim (λ at. inl (same_epoch q.0 ∙ at)) inr l.2);
  slot_low = λ j. subst (λ (e : ℕ). e ≤ top c.raises) (sym (same_epoch j)) (ok.slot_low j);
  slot_raised = slot_set (λ i y. 0 < y.epoch → In (i, y.epoch) c.raises) c.slots k x long (ok.slot_raised k) (λ i _. ok.slot_raised i);
  slot_shut = slot_set (λ i y. 0 < y.epoch → y.shut ≡ true → WasShut c i y.epoch) c.slots k x long (ok.slot_shut k) (λ i _. ok.slot_shut i);
  open_some = slot_set (λ i y. y.shut ≡ false → 0 < y.epoch) c.slots k x long (ok.open_some k) (λ i _. ok.open_some i);
  found_raised = ok.found_raised;
  found_gone = λ j o f i z. ok.found_gone j (sym (same j) ∙ o) f i (z ∙ same_epoch j);
  points_low = ok.points_low;
  pointed_low = ok.pointed_low;
  absent_low = ok.absent_low;
}
  where
    x : SlotView
    x = record { epoch = (slot c k).epoch; shut = (slot c k).shut; seen = w }

    long : number_of k < length c.slots
    long = let f = ok.four in let few = number_of-few k in omega arith

    same : (j : AssociationNumber) → (get_or (set c.slots (number_of k) x) (number_of j) blank_slot).shut ≡ (slot c j).shut
    same = slot_set (λ j y. y.shut ≡ (slot c j).shut) c.slots k x long refl (λ _ _. refl)

    same_epoch : (j : AssociationNumber) → (get_or (set c.slots (number_of k) x) (number_of j) blank_slot).epoch ≡ (slot c j).epoch
    same_epoch = slot_set (λ j y. y.epoch ≡ (slot c j).epoch) c.slots k x long refl (λ _ _. refl)

pub settled_out : (c : ControlView) (out : List Bool) (told : List Addition) (over gone : List Mark) (notes : List ℕ) (reads : List (ℕ × ℕ)) → length out ≡ 8 → Settled c → Settled (record c { out = out; told = told; told_over = over; told_gone = gone; told_notes = notes; told_reads = reads })
settled_out c out told over gone notes reads eight ok = record { four = ok.four; eight = eight; first_small = ok.first_small; names_open = ok.names_open; rise = ok.rise; raised_once = ok.raised_once; has_card = ok.has_card; slot_low = ok.slot_low; slot_raised = ok.slot_raised; slot_shut = ok.slot_shut; open_some = ok.open_some; found_raised = ok.found_raised; found_gone = ok.found_gone; points_low = ok.points_low; pointed_low = ok.pointed_low; absent_low = ok.absent_low }

pub settled_wrote : (c : ControlView) (x : ℕ) → Settled c → Settled (wrote c x)
settled_wrote c x ok = record { four = ok.four; eight = ok.eight; first_small = ok.first_small; names_open = ok.names_open; rise = ok.rise; raised_once = ok.raised_once; has_card = let h = ok.has_card in let l = length-append c.card_words (x ∷ []) in omega arith; slot_low = ok.slot_low; slot_raised = ok.slot_raised; slot_shut = ok.slot_shut; open_some = ok.open_some; found_raised = ok.found_raised; found_gone = ok.found_gone; points_low = ok.points_low; pointed_low = ok.pointed_low; absent_low = ok.absent_low }

-- a step on a word below the cards
pub cards_else : (c : ControlView) (ws : List ℕ) (k n : ℕ) → k < 5 → HoldsCards c ws → HoldsCards c (set ws k n)
cards_else c ws k n low ok = record { size = length-set ws k n ∙ ok.size; room = ok.room; lie = λ j l. get_or-set_other ws k (5 + j) n 0 (λ e. omega arith) ∙ ok.lie j l }
