-- A seat goes out, and comes back; and the table at the start.
use Rattle.std.proofs.Common.{◌≡◌, ◌≢◌, ◌⊎◌, ℕ, zero, suc, ◌+◌, ◌-◌, ◌*◌, ◌^◌, ◌<◌, ◌≤◌, max, Bool, true, false, not, ◌&&◌, ◌||◌, cond, eqb, List, [], ◌∷◌, ◌++◌, length, get_or, set, refl, sym, ap, ◌∙◌, subst, inl, inr, ⊎_elim, arith, eq-eqb, length-set, get_or-set_other, get_or-set_same, replicate}
use Rattle.std.proofs.lemmas.List.{length-replicate}
use mathlib.Core.Logic.{dite}
use mathlib.Core.Option.{some, some-ne-none, some-injective}
use native.Mathlib.Decide.{ℕ_discrete}
use lib.ListN.{get_elem?}
use Rattle.std.proofs.lemmas.Bool.{false≢true, eqb-true, and_parts}
use Rattle.atomic_table.specs.Table.{Splits, Joins, opening}
use Rattle.atomic_table.proofs.Lists.{at_set, set_here, set_else, at_longer}
use Rattle.lan_base.specs.AssociationNumbers.{number_of, same_an}
use Rattle.lan_base.specs.declared.association_number.AssociationNumber.{AssociationNumber}
use Rattle.lan_base.specs.declared.association_number.AssociationNumber.TheVariants.{An0, An1, An2, An3}
use Rattle.association_slots.specs.Words.{epoch_of, flag_of, next_of, shown_by}
use Rattle.association_slots.specs.Views.{told_sum, present_at, was_pointed, In, Among, cons_if, slot, current, weigh, adds, overs, gones, one, met, of_seat, free, control_of, seat_of}
use Rattle.association_slots.specs.Steps.{at_first, above_claims, least_next, given_of, seated, new_seat, told}
use Rattle.association_slots.specs.Rule.{AtLeast, Fits, Follows, Around, Slotted}
use Rattle.association_slots.specs.Learned.{Learned}
use Rattle.association_slots.proofs.Learning.{learned}
use Rattle.association_slots.specs.declared.view.Current.{Current}
use Rattle.association_slots.specs.declared.view.NextSeen.{NextSeen}
use Rattle.association_slots.proofs.SlotNumbers.{same_number}
use Rattle.association_slots.specs.declared.view.Addition.{Addition}
use Rattle.association_slots.specs.declared.view.Mark.{Mark}
use Rattle.association_slots.specs.declared.view.ControlView.{ControlView}
use Rattle.association_slots.specs.declared.view.SeatView.{SeatView}
use Rattle.association_slots.specs.declared.view.View.{View}
use Rattle.association_slots.specs.declared.view.View.TheVariants.{Control, Seat, Spent}
use Rattle.association_slots.proofs.Lists.{Moved, moved_set, in_append, in_left, in_right, in_cons_if, weigh-append, weigh-set, weigh_at, among_at, among_from, among_set, among_on, among_snoc, among_longer}
use Rattle.association_slots.proofs.StaysSettled.{once, words_out, settled_out}
use Rattle.association_slots.proofs.Grows.{Grown, ledger_grows, told_grows, seat_grows, sums_grow, follows_moved, grown_out, not_true}
use Rattle.association_slots.proofs.ControlKeeps.{same_cards, not_both, known, Numbers, numbers_from, some_long}

-- the first free place is free
pub free_at : (bs : List Bool) → free bs < length bs → get_or bs (free bs) false ≡ false
free_at [] l = refl
free_at (false ∷ bs) l = refl
free_at (true ∷ bs) l = free_at bs (omega arith)

pub in_of_seat : (q : ℕ) (m : Mark) (ms : List Mark) → In m (of_seat q ms) → In m ms × (m.seat ≡ q)
in_of_seat q m [] i = absurd i
in_of_seat q m (x ∷ ms) i = go (λ k. in_of_seat q m ms k) (eqb x.seat q) refl i
  where
    go : (In m (of_seat q ms) → In m ms × (m.seat ≡ q)) → (b : Bool) → eqb x.seat q ≡ b → In m (cons_if b x (of_seat q ms)) → In m (x ∷ ms) × (m.seat ≡ q)
    go more true is j = ⊎_elim (λ e. (inl e, ap (λ (y : Mark). y.seat) (sym e) ∙ eqb-true x.seat q is)) (λ k. let r = more k in (inr r.0, r.1)) j
    go more false is k = let r = more k in (inr r.0, r.1)

to_of_seat : (q : ℕ) (m : Mark) (ms : List Mark) → In m ms → m.seat ≡ q → In m (of_seat q ms)
to_of_seat q m [] i is = absurd i
to_of_seat q m (x ∷ ms) i is = go (λ k. to_of_seat q m ms k is) (eqb x.seat q) refl i
  where
    go : (In m ms → In m (of_seat q ms)) → (b : Bool) → eqb x.seat q ≡ b → In m (x ∷ ms) → In m (cons_if b x (of_seat q ms))
    go more true at j = ⊎_elim inl (λ k. inr (more k)) j
    go more false at j = ⊎_elim (λ e. absurd (false≢true (sym at ∙ eq-eqb x.seat q (ap (λ (y : Mark). y.seat) e ∙ is)))) more j

at_end : (vs : List View) (w v : View) (j : ℕ) → get_elem? (vs ++ w ∷ []) j ≡ some v → (get_elem? vs j ≡ some v) ⊎ ((j ≡ length vs) × (w ≡ v))
at_end [] w v zero e = inr (refl, some-injective w v e)
at_end [] w v (suc j) e = absurd (some-ne-none v (sym e))
at_end (x ∷ vs) w v zero e = inl e
at_end (x ∷ vs) w v (suc j) e = ⊎_elim inl (λ t. inr (ap suc t.0, t.1)) (at_end vs w v j e)

either : (a b : Bool) → (a || b) ≡ true → (a ≡ true) ⊎ (b ≡ true)
either true b is = inl refl
either false b is = inr is

-- what was pointed at stands among the points
in_points : (k : AssociationNumber) (e : ℕ) (ps : List Current) → was_pointed k e ps ≡ true → In (present_at k e) ps
in_points k e [] is = absurd (false≢true is)
in_points k e (p ∷ ps) is = ⊎_elim
    (λ here. let q = and_parts _ _ here in let r = and_parts _ _ q.1 in inl (λ i. record { epoch = eqb-true p.epoch e r.1 i; present = q.0 i; an = same_number p.an k (eqb-true (number_of p.an) (number_of k) r.0) i }))
    (λ more. inr (in_points k e ps more))
    (either (p.present && (same_an p.an k && (eqb p.epoch e))) (was_pointed k e ps) is)

in_given : (c : ControlView) (k : AssociationNumber) (f : NextSeen) (rest : List NextSeen) → In f (given_of c k rest) → (((slot c k).shut ≡ false) × In (present_at k (slot c k).epoch) c.points × (least_next c k ≡ f)) ⊎ In f rest
in_given c k f rest i = ⊎_elim (λ t. let p = and_parts _ _ t.0 in inl (not_true _ p.0, in_points k (slot c k).epoch c.points p.1, t.1)) inr (in_cons_if (not (slot c k).shut && was_pointed k (slot c k).epoch c.points) (least_next c k) f rest i)

max_low : (x y n : ℕ) → x ≤ n → y ≤ n → max x y ≤ n
max_low x y n a b = omega arith

-- what was claimed under an epoch is below what its slot shows
above_low : (e n : ℕ) (xs : List Addition) → ((a : Addition) → In a xs → a.claimed ≡ true → a.met ≡ e → a.pn + 1 ≤ n) → above_claims e xs ≤ n
above_low e n [] each = omega arith
above_low e n (x ∷ xs) each = max_low _ _ n (at (x.claimed && (eqb x.met e)) refl) (above_low e n xs (λ a i. each a (inr i)))
  where
    at : (b : Bool) → (x.claimed && (eqb x.met e)) ≡ b → cond b (x.pn + 1) 0 ≤ n
    at true is = let p = and_parts _ _ is in each x (inl refl) p.0 (eqb-true x.met e p.1)
    at false is = omega arith

-- what a seat is given is no more than what the slot shows
given_fits : (c : ControlView) (ws : List ℕ) (vs : List View) → Around c ws vs → (k : AssociationNumber) → (slot c k).shut ≡ false → In (k, (slot c k).epoch) c.raises × AtLeast c ws k (slot c k).epoch (least_next c k).next
given_fits c ws vs a k opened = let z = a.settled.open_some k opened in let e : ℕ = (slot c k).epoch in let next : ℕ = next_of (get_or ws (number_of k) 0) in (
  a.settled.slot_raised k z,
  record {
    now = λ _. let s = a.sums.sum k z in let t = weigh_at (λ (u : View). weigh (λ b. one (met k e b)) (adds u)) vs 0 (Control c) a.at_control in
        max_low _ _ next (a.words.seen k) (max_low _ _ next (omega arith) (above_low e next c.told claims_low));
    then = λ f i _ same. absurd (a.settled.found_gone k opened f i same);
  },
)
  where
    claims_low : (b : Addition) → In b c.told → b.claimed ≡ true → b.met ≡ (slot c k).epoch → b.pn + 1 ≤ next_of (get_or ws (number_of k) 0)
    claims_low b i is at = let m = a.ledger.additions b (among_at adds b vs 0 (Control c) a.at_control i) in
        let here : b.an ≡ k = once c.raises a.settled.rise (b.an, b.met) (k, (slot c k).epoch) m.raised (a.settled.slot_raised k (a.settled.open_some k opened)) at in
        (subst (λ (t : AssociationNumber × ℕ). AtLeast c ws t.0 t.1 (b.pn + 1)) (λ j. (here j, at j)) (m.claim is).3).now (opened, refl)

-- the word of an open slot has come to the least next number that control knows of
pub counted_fits : (c : ControlView) (ws : List ℕ) (vs : List View) → Around c ws vs → (k : AssociationNumber) → (slot c k).shut ≡ false → (least_next c k).next ≤ next_of (get_or ws (number_of k) 0)
counted_fits c ws vs a k opened = (given_fits c ws vs a k opened).1.now (opened, refl)

pub counted_low : (c : ControlView) (k : AssociationNumber) (e : ℕ) → (slot c k).epoch ≡ e → told_sum c k e ≤ (least_next c k).next
counted_low c k e is = subst (λ (n : ℕ). told_sum c k n ≤ (least_next c k).next) is (omega arith)

pub splits : (id : ℕ) (v : View) → v ≡ Control (control_of v) → free (control_of v).out < 8 → Splits Slotted id v (Control (seated (control_of v))) (Seat (new_seat (control_of v)))
splits id v is room s r at =
    let c = control_of v in let q = known s.words s.views id c r (at ∙ ap some is) in
    (seated c, subst (λ (i : ℕ). Around (seated c) s.words (set s.views i (Control (seated c)) ++ Seat (new_seat c) ∷ [])) q.0 (made c s.words s.views q.1 room))
  where
    made : (c : ControlView) (ws : List ℕ) (vs : List View) → Around c ws vs → free c.out < 8 → Around (seated c) ws (set vs 0 (Control (seated c)) ++ Seat (new_seat c) ∷ [])
    made c ws vs a room = record {
      at_control = at_longer ys (Seat n ∷ []) 0 (Control d) here;
      alone = λ j x e. ⊎_elim (λ t. ⊎_elim (λ u. u.0) (λ u. a.alone j x u.1) (at_set vs 0 j (Control d) (Control x) t)) (λ t. absurd (not_both x n (sym t.1))) (at_end ys (Seat n) (Control x) j e);
      words = words_out c ws d.out c.told c.told_over c.told_gone c.told_notes c.told_reads a.words;
      settled = settled_out c d.out c.told c.told_over c.told_gone c.told_notes c.told_reads (length-set c.out (free c.out) true ∙ a.settled.eight) a.settled;
      seats = λ j u e. ⊎_elim (λ t. let o = old j u t in let s = a.seats j u o in (seat_grows c ws d ws g a.settled u refl (stays u) s.0, follows_moved vs xs u moved s.1)) (λ t. subst (λ (y : SeatView). Fits d ws y × Follows xs y) (ap seat_of t.1) (fresh, fresh_waits)) (at_end ys (Seat n) (Seat u) j e);
      numbers = numbers;
      cards = same_cards c d ws refl refl a.cards;
      ledger = ledger_grows c ws d ws g vs xs moved a.ledger;
      sums = sums_grow c ws d ws g vs xs a.settled a.ledger moved (λ j _. inl (refl, refl)) (λ f i. inl i) (λ f i. inl i) a.sums;
      told = told_grows c ws d ws g refl refl refl a.told;
    }
      where
        d : ControlView
        d = seated c

        n : SeatView
        n = new_seat c

        ys : List View
        ys = set vs 0 (Control d)

        xs : List View
        xs = set vs 0 (Control (seated c)) ++ Seat (new_seat c) ∷ []

        long : free c.out < length c.out
        long = let e = a.settled.eight in omega arith

        g : Grown c ws d ws
        g = grown_out c ws d.out c.told c.told_over c.told_gone c.told_notes c.told_reads

        here : get_elem? ys 0 ≡ some (Control d)
        here = set_here vs 0 (Control d) (some_long vs (Control c) a.at_control)

        old : (j : ℕ) (u : SeatView) → get_elem? ys j ≡ some (Seat u) → get_elem? vs j ≡ some (Seat u)
        old j u e = ⊎_elim (λ (t : (j ≡ 0) × (Control d ≡ Seat u)). absurd (not_both d u t.1)) (λ (t : (j ≢ 0) × (get_elem? vs j ≡ some (Seat u))). t.1) (at_set vs 0 j (Control d) (Seat u) e)

        stays : (u : SeatView) → get_or c.out (u.number - 1) false ≡ true → get_or d.out (u.number - 1) false ≡ true
        stays u is = dite (ℕ_discrete (u.number - 1) (free c.out)) (λ e. ap (λ (k : ℕ). get_or d.out k false) e ∙ get_or-set_same c.out (free c.out) true false long) (λ ne. get_or-set_other c.out (free c.out) (u.number - 1) true false ne ∙ is)

        apart : (j : ℕ) (u : SeatView) → get_elem? vs j ≡ some (Seat u) → u.number ≢ n.number
        apart j u e is = let k = (a.seats j u e).0.number in let m : u.number - 1 ≡ free c.out = omega arith in false≢true (sym (free_at c.out long) ∙ (ap (λ (i : ℕ). get_or c.out i false) (sym m) ∙ k.2))

        moved : Moved vs xs
        moved = let m = moved_set vs 0 (Control c) (Control d) a.at_control refl refl refl in record {
          adds_back = λ x i. ⊎_elim (λ b. absurd b) (m.adds_back x) (among_snoc adds x ys (Seat n) i);
          overs_back = λ x i. ⊎_elim (λ b. among_at overs x vs 0 (Control c) a.at_control (in_of_seat n.number x c.told_over b).0) (m.overs_back x) (among_snoc overs x ys (Seat n) i);
          overs_on = λ x i. among_longer overs x ys (Seat n ∷ []) (m.overs_on x i);
          gones_back = λ x i. ⊎_elim (λ b. absurd b) (m.gones_back x) (among_snoc gones x ys (Seat n) i);
          gones_on = λ x i. among_longer gones x ys (Seat n ∷ []) (m.gones_on x i);
          tallies = λ h. let t = m.tallies h in let s = weigh-append (λ (u : View). weigh h (adds u)) ys (Seat n ∷ []) in omega arith;
        }

        fresh : Fits d ws n
        fresh = record {
          number = (omega arith, (let l = room in omega arith), subst (λ (k : ℕ). get_or d.out k false ≡ true) (let l = room in omega arith) (get_or-set_same c.out (free c.out) true false long));
          own = λ b i. absurd i;
          own_over = λ m i. (in_of_seat n.number m c.told_over i).1;
          own_gone = λ m i. absurd i;
          limit = refl;
          low = omega arith;
          shown = λ p. absurd (false≢true p);
          loaded = λ e i. absurd i;
          noted = λ e i. absurd i;
          start = (omega arith, λ f t. absurd (false≢true (sym f ∙ t)));
          given = λ f i. ⊎_elim (gift An0 f) (λ i. ⊎_elim (gift An1 f) (λ i. ⊎_elim (gift An2 f) (λ i. ⊎_elim (gift An3 f) (λ i. absurd i) (in_given c An3 f _ i)) (in_given c An2 f _ i)) (in_given c An1 f _ i)) (in_given c An0 f _ i);
          claims_rise = tt;
          not_below = λ f _ b i. absurd i;
          reads = λ r i. absurd i;
        }
          where
            gift : (k : AssociationNumber) → (f : NextSeen) → ((slot c k).shut ≡ false) × In (present_at k (slot c k).epoch) c.points × (least_next c k ≡ f) → In (present_at f.an f.epoch) c.points × (f.epoch ≤ (current c).epoch) × AtLeast d ws f.an f.epoch f.next
            gift k f t = let z = given_fits c ws vs a k t.0 in subst (λ (x : NextSeen). In (present_at x.an x.epoch) c.points × (x.epoch ≤ (current c).epoch) × AtLeast d ws x.an x.epoch x.next) t.2 (t.1, (a.settled.points_low _ t.1).0, record { now = z.1.now; then = z.1.then })

        fresh_waits : Follows xs n
        fresh_waits = record {
          inherits = λ m i is. ⊎_elim (λ b. b) (λ b. let f = among_from overs m ys b in from m is f.0 f.1 f.2 f.3) (among_snoc overs m ys (Seat n) i);
          not_yet = λ p. absurd (false≢true p);
          not_later = λ p. absurd (false≢true p);
          not_gone = λ p. absurd (false≢true p);
        }
          where
            from : (m : Mark) → m.seat ≡ n.number → (j : ℕ) (v : View) → get_elem? ys j ≡ some v → In m (overs v) → In m n.over
            from m is j (Control x) e i = ⊎_elim (λ (t : (j ≡ 0) × (Control d ≡ Control x)). to_of_seat n.number m c.told_over (subst (λ (y : View). In m (overs y)) (sym t.1) i) is)
                (λ (t : (j ≢ 0) × (get_elem? vs j ≡ some (Control x))). absurd (t.0 (a.alone j x t.1))) (at_set vs 0 j (Control d) (Control x) e)
            from m is j (Seat u) e i = let o = old j u e in absurd (apart j u o (sym ((a.seats j u o).0.own_over m i) ∙ is))
            from m is j Spent e i = absurd i

        numbers : Numbers xs
        numbers i j u v e f q = ⊎_elim
            (λ s. ⊎_elim (λ t. a.numbers i j u v (old i u s) (old j v t) q) (λ t. absurd (apart i u (old i u s) (q ∙ ap (λ (y : View). (seat_of y).number) (sym t.1)))) (at_end ys (Seat n) (Seat v) j f))
            (λ s. ⊎_elim (λ t. absurd (apart j v (old j v t) (sym q ∙ ap (λ (y : View). (seat_of y).number) (sym s.1)))) (λ t. s.0 ∙ sym t.0) (at_end ys (Seat n) (Seat v) j f))
            (at_end ys (Seat n) (Seat u) i e)

abbrev is_control : View → Bool
is_control (Control c) = true
is_control _ = false

-- what stands in one view may move to another
among_move : {A : Type 0} (f : View → List A) (x : A) (vs : List View) (i j : ℕ) (v y w : View) → get_elem? vs i ≡ some v → get_elem? vs j ≡ some y → j ≢ i → (In x (f v) → In x (f y)) → Among f x vs → Among f x (set vs i w)
among_move f x vs i j v y w at to ne keep m = let r = among_from f x vs m in dite (ℕ_discrete r.0 i)
    (λ is. among_at f x (set vs i w) j y (set_else vs i j w ne ∙ to) (keep (subst (λ (z : View). In x (f z)) (some-injective _ _ (sym r.2 ∙ (ap (get_elem? vs) is ∙ at))) r.3)))
    (λ other. among_at f x (set vs i w) r.0 r.1 (set_else vs i r.0 w other ∙ r.2) r.3)

pub joins : (id : ℕ) (v : View) (other : ℕ) (w : View) → v ≡ Control (control_of v) → w ≡ Seat (seat_of w) → Joins Slotted id v other w (Control (told (control_of v) (seat_of w))) Spent
joins id v other w is is_seat s r at apart at_other =
    let c = control_of v in let u = seat_of w in let q = known s.words s.views id c r (at ∙ ap some is) in let d = told c u in
    let there : get_elem? s.views other ≡ some (Seat u) = ⊎_elim (λ (t : (other ≡ id) × (Control d ≡ w)). absurd (apart t.0)) (λ (t : (other ≢ id) × (get_elem? s.views other ≡ some w)). t.1 ∙ ap some is_seat) (at_set s.views id other (Control d) w at_other) in
    (d, subst (λ (i : ℕ). Around d s.words (set (set s.views i (Control d)) other Spent)) q.0 (joined c s.words s.views q.1 other u there (λ e. apart (e ∙ q.0))))
  where
    joined : (c : ControlView) (ws : List ℕ) (vs : List View) → Around c ws vs → (o : ℕ) (u : SeatView) → get_elem? vs o ≡ some (Seat u) → o ≢ 0 → Around (told c u) ws (set (set vs 0 (Control (told c u))) o Spent)
    joined c ws vs a o u at ne = record {
      at_control = set_else ys o 0 Spent (λ e. ne (sym e)) ∙ here;
      alone = λ j x e. ⊎_elim (λ t. absurd (spent_is_no_control x t.1)) (λ t. ⊎_elim (λ k. k.0) (λ k. a.alone j x k.1) (at_set vs 0 j (Control d) (Control x) t.1)) (at_set ys o j Spent (Control x) e);
      words = words_out c ws d.out d.told d.told_over d.told_gone d.told_notes d.told_reads a.words;
      settled = settled_out c d.out d.told d.told_over d.told_gone d.told_notes d.told_reads (length-set c.out (u.number - 1) false ∙ a.settled.eight) a.settled;
      seats = λ j y e. let b = back j y e in let s = a.seats j y b.1 in (seat_grows c ws d ws g a.settled y refl (stays j y b.0 b.1) s.0, follows_moved vs xs y moved s.1);
      numbers = numbers_from vs xs (λ j y e. (y, (back j y e).1, refl)) a.numbers;
      cards = same_cards c d ws refl refl a.cards;
      ledger = ledger_grows c ws d ws g vs xs moved a.ledger;
      sums = sums_grow c ws d ws g vs xs a.settled a.ledger moved (λ j _. inl (refl, refl)) (λ f i. inl i) (λ f i. inl i) a.sums;
      told = record {
        noted = λ e i. ⊎_elim ((a.seats o u at).0.noted e) (a.told.noted e) (in_append e u.notes c.told_notes i);
        reads = λ r i. ⊎_elim ((a.seats o u at).0.reads r) (a.told.reads r) (in_append r u.reads c.told_reads i);
      };
    }
      where
        d : ControlView
        d = told c u

        ys : List View
        ys = set vs 0 (Control d)

        xs : List View
        xs = set (set vs 0 (Control (told c u))) o Spent

        g : Grown c ws d ws
        g = grown_out c ws d.out d.told d.told_over d.told_gone d.told_notes d.told_reads

        here : get_elem? ys 0 ≡ some (Control d)
        here = set_here vs 0 (Control d) (some_long vs (Control c) a.at_control)

        at_o : get_elem? ys o ≡ some (Seat u)
        at_o = set_else vs 0 o (Control d) ne ∙ at

        spent_is_no_control : (x : ControlView) → Spent ≡ Control x → ⊥
        spent_is_no_control x e = false≢true (ap is_control e)

        spent_is_no_seat : (x : SeatView) → Spent ≡ Seat x → ⊥
        spent_is_no_seat x e = absurd (cc)

        back : (j : ℕ) (y : SeatView) → get_elem? xs j ≡ some (Seat y) → (j ≢ o) × (get_elem? vs j ≡ some (Seat y))
        back j y e = ⊎_elim (λ (t : (j ≡ o) × (Spent ≡ Seat y)). absurd (spent_is_no_seat y t.1))
            (λ (t : (j ≢ o) × (get_elem? ys j ≡ some (Seat y))). (t.0, ⊎_elim (λ (k : (j ≡ 0) × (Control d ≡ Seat y)). absurd (not_both d y k.1)) (λ (k : (j ≢ 0) × (get_elem? vs j ≡ some (Seat y))). k.1) (at_set vs 0 j (Control d) (Seat y) t.1))) (at_set ys o j Spent (Seat y) e)

        stays : (j : ℕ) (y : SeatView) → j ≢ o → get_elem? vs j ≡ some (Seat y) → get_or c.out (y.number - 1) false ≡ true → get_or d.out (y.number - 1) false ≡ true
        stays j y other e is = get_or-set_other c.out (u.number - 1) (y.number - 1) false false (λ z. other (a.numbers j o y u e at (let k = (a.seats j y e).0.number in let l = (a.seats o u at).0.number in omega arith))) ∙ is

        moved : Moved vs xs
        moved = record {
          adds_back = λ x i. ⊎_elim (λ b. absurd b) (λ b. ⊎_elim (λ k. ⊎_elim (among_at adds x vs o (Seat u) at) (among_at adds x vs 0 (Control c) a.at_control) (in_append x u.additions c.told k)) (λ k. k) (among_set adds x vs 0 (Control d) b)) (among_set adds x ys o Spent i);
          overs_back = λ x i. ⊎_elim (λ b. absurd b) (λ b. ⊎_elim (λ k. ⊎_elim (among_at overs x vs o (Seat u) at) (among_at overs x vs 0 (Control c) a.at_control) (in_append x u.over c.told_over k)) (λ k. k) (among_set overs x vs 0 (Control d) b)) (among_set overs x ys o Spent i);
          overs_on = λ x i. among_move overs x ys o 0 (Seat u) (Control d) Spent at_o here (λ e. ne (sym e)) (in_left x u.over c.told_over) (among_on overs x vs 0 (Control c) (Control d) a.at_control (in_right x u.over c.told_over) i);
          gones_back = λ x i. ⊎_elim (λ b. absurd b) (λ b. ⊎_elim (λ k. ⊎_elim (among_at gones x vs o (Seat u) at) (among_at gones x vs 0 (Control c) a.at_control) (in_append x u.gone c.told_gone k)) (λ k. k) (among_set gones x vs 0 (Control d) b)) (among_set gones x ys o Spent i);
          gones_on = λ x i. among_move gones x ys o 0 (Seat u) (Control d) Spent at_o here (λ e. ne (sym e)) (in_left x u.gone c.told_gone) (among_on gones x vs 0 (Control c) (Control d) a.at_control (in_right x u.gone c.told_gone) i);
          tallies = λ h. let s = weigh-set (λ (y : View). weigh h (adds y)) vs 0 (Control c) (Control d) a.at_control in let t = weigh-set (λ (y : View). weigh h (adds y)) ys o (Seat u) Spent at_o in let k = weigh-append h u.additions c.told in omega arith;
        }

-- the table at the start
pub opens : (first limit : ℕ) (ws : List ℕ) → 1 ≤ first → first < 2 ^ 32 → length ws ≡ 5 + 5 * limit → ((k : AssociationNumber) → get_or ws (number_of k) 0 ≡ 2 ^ 39) → get_or ws 4 0 ≡ 0 → Slotted (opening ws [] (Control (at_first first limit)))
opens first limit ws some_first low size shut absent = (
  at_first first limit,
  record {
    at_control = refl;
    alone = λ j d e. one_view j (Control d) e;
    words = record {
      epochs = λ j. ap epoch_of (shut j) ∙ sym (zero_epoch j);
      shuts = λ j. ap flag_of (shut j) ∙ sym (each (λ j. (slot C j).shut ≡ true) refl refl refl refl j);
      seen = λ j. let z : (slot C j).seen ≡ 0 = each (λ j. (slot C j).seen ≡ 0) refl refl refl refl j in omega arith;
      shows = ap shown_by absent;
    };
    cards = record { size = size; room = omega arith; lie = λ j l. absurd (omega arith) };
    settled = record {
      four = refl;
      eight = refl;
      first_small = (some_first, low);
      names_open = λ t. absurd (false≢true t);
      rise = tt;
      raised_once = λ q i. absurd i;
      has_card = omega arith;
      slot_low = λ j. let z = zero_epoch j in omega arith;
      slot_raised = λ j z. let y = zero_epoch j in absurd (omega arith);
      open_some = λ j o. absurd (false≢true (sym o ∙ each (λ j. (slot C j).shut ≡ true) refl refl refl refl j));
      slot_shut = λ j z. let y = zero_epoch j in absurd (omega arith);
      found_raised = λ f i. absurd i;
      found_gone = λ j o f i. absurd i;
      points_low = λ p i. absurd i;
      pointed_low = omega arith;
      absent_low = λ e z. (omega arith, λ t. absurd (false≢true t));
    };
    seats = λ j u e. absurd (not_both C u (there j (Seat u) e));
    numbers = λ i j u v e. absurd (not_both C u (there i (Seat u) e));
    ledger = record {
      additions = λ b i. absurd (nothing_among adds b i);
      differ = λ e p. omega arith;
      over = λ m i. absurd (nothing_among overs m i);
      gone = λ m i. absurd (nothing_among gones m i);
      cause = λ b i. absurd (nothing_among adds b i);
      twice = λ q e s. omega arith;
    };
    sums = record {
      sum = λ j z. let y = zero_epoch j in absurd (omega arith);
      bound = λ j z. let y = zero_epoch j in absurd (omega arith);
      shut_sum = λ f i. absurd i;
      loads = λ f i. absurd i;
    };
    told = record { noted = λ e i. absurd i; reads = λ r i. absurd i };
  },
)
  where
    C : ControlView
    C = at_first first limit

    each : (P : AssociationNumber → Type 0) → P An0 → P An1 → P An2 → P An3 → (j : AssociationNumber) → P j
    each P a b c d An0 = a
    each P a b c d An1 = b
    each P a b c d An2 = c
    each P a b c d An3 = d

    zero_epoch : (j : AssociationNumber) → (slot C j).epoch ≡ 0
    zero_epoch = each (λ j. (slot C j).epoch ≡ 0) refl refl refl refl

    one_view : (j : ℕ) (d : View) → get_elem? (Control C ∷ []) j ≡ some d → j ≡ 0
    one_view zero d e = refl
    one_view (suc j) d e = absurd (some-ne-none d (sym e))

    there : (j : ℕ) (d : View) → get_elem? (Control C ∷ []) j ≡ some d → Control C ≡ d
    there zero d e = some-injective _ _ e
    there (suc j) d e = absurd (some-ne-none d (sym e))

    nothing_among : {A : Type 0} (f : View → List A) (y : A) → In y (f (Control C)) ⊎ ⊥ → In y (f (Control C))
    nothing_among f y i = ⊎_elim (λ a. a) (λ b. absurd b) i

pub each_shut : (ws : List ℕ) → get_or ws 0 0 ≡ 2 ^ 39 → get_or ws 1 0 ≡ 2 ^ 39 → get_or ws 2 0 ≡ 2 ^ 39 → get_or ws 3 0 ≡ 2 ^ 39 → (k : AssociationNumber) → get_or ws (number_of k) 0 ≡ 2 ^ 39
each_shut ws a b c d An0 = a
each_shut ws a b c d An1 = b
each_shut ws a b c d An2 = c
each_shut ws a b c d An3 = d

-- what control has learned at the start
pub learned_first : (first limit : ℕ) → 1 ≤ first → first < 2 ^ 32 → Learned (at_first first limit)
unfolding opens
learned_first first limit some_first low = let start = opens first limit (blank_words limit) some_first low (size limit) (each_shut (blank_words limit) refl refl refl refl) refl in
    learned (at_first first limit) (blank_words limit) (Control (at_first first limit) ∷ []) start.1
  where
    blank_words : ℕ → List ℕ
    blank_words n = 2 ^ 39 ∷ 2 ^ 39 ∷ 2 ^ 39 ∷ 2 ^ 39 ∷ 0 ∷ replicate (5 * n) 0

    size : (n : ℕ) → length (blank_words n) ≡ 5 + 5 * n
    size n = let zeros : List ℕ = replicate (5 * n) 0 in let l : length zeros ≡ 5 * n = length-replicate (5 * n) 0 in omega arith
