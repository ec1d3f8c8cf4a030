-- The words keep up with the account, call by call.
use Rattle.std.proofs.Common.{◌≡◌, ℕ, ◌+◌, ◌^◌, Result, Ok, Err, MatchResult, ◌<◌, ◌≤◌, ◌==◌, Bool, true, false, not, ◌&&◌, cond, max, List, [], ◌∷◌, ◌++◌, map, Some, None, refl, sym, ap, ◌∙◌, subst, arith, eq-eqb, ◌⊎◌, inl, inr}
use Rattle.std.proofs.lemmas.Bool.{ne_eqb, lt-ltb, eqb-true, ltb-true, ltb-false}
use Rattle.std.specs.Prelude.{nat_lt}
use Rattle.sak_exchange.proofs.Public.{by_test}
use Rattle.lan_base.specs.declared.association_number.AssociationNumber.{AssociationNumber}
use Rattle.association_slots.specs.Views.{In, slot, current, newest, absent_after, present_at, IsOpen, was_pointed}
use Rattle.association_slots.specs.Steps.{at_first, looked as looked_at, seated, new_seat, told, above_claims}
use Rattle.association_slots.specs.Steps.{least_next}
use Rattle.association_slots.specs.Learned.{Learned, IsNext}
use Rattle.association_slots.specs.declared.view.Addition.{Addition}
use Rattle.association_slots.specs.declared.view.Current.{Current}
use Rattle.association_slots.specs.declared.view.NextSeen.{NextSeen}
use Rattle.association_slots.specs.declared.view.ControlView.{ControlView}
use Rattle.association_slots.specs.declared.view.SeatView.{SeatView}
use Rattle.association_slots.proofs.Public.{once}
use Rattle.packet_claims.specs.Alone.{next_now as next_told, IsNextClaim}
use Rattle.packet_claims.specs.Claims.{IsClaim, Did}
use Rattle.packet_claims.specs.declared.answers.Claim.{Claim}
use Rattle.packet_claims.specs.declared.answers.NoClaim.{NoClaim}
use Rattle.packet_claims.specs.declared.answers.NoClaim.TheVariants.{NoKey, Exhausted}
use Rattle.packet_claims.proofs.Public.{given_at, newest_pointed}
use Rattle.group_safety.specs.Transmitting.{Sending, Carried, now, newest as latest, names as names_it}
use Rattle.group_safety.specs.Transmitting.{silent_after, installed, may_begin, begun, ended}
use Rattle.group_safety.specs.Accounts.{Account, next_now, showing, gaining}
use Rattle.station_words.specs.Counting.{past_claims, greatest_seen}
use Rattle.station_words.specs.Telling.{KeepUp, HasGained, word_of, sending_of, least_under}
use Rattle.station_words.specs.inside.Kept.{IsKept}
use Rattle.station_words.proofs.Keeping.{open-now, carded, may-parts, names, and-false, seen-looked}

pub some-if : {A : Type 0} (b : Bool) (x y : A) → cond b (Some x) None ≡ Some y → (b ≡ true) × (x ≡ y)
some-if true x y e = (refl, grind arith)
some-if false x y e = absurd (cc e)

pub newest-word : (ps : List Sending) → newest (map word_of ps) ≡ word_of (latest ps)
newest-word [] = refl
newest-word (p ∷ ps) = refl

first-parts : (an : AssociationNumber) (epoch : ℕ) (p : Sending) (installs : ℕ) → may_begin an epoch p installs ≡ true → p.epoch < epoch
first-parts an epoch p installs is = (may-parts an epoch (word_of p) installs is).0

-- ---- what was claimed

-- more that is told raises what is above the claims
above-more : (epoch : ℕ) (xs ys : List Addition) → above_claims epoch ys ≤ above_claims epoch (xs ++ ys)
above-more epoch [] ys = omega arith
above-more epoch (x ∷ xs) ys = let z = above-more epoch xs ys in omega arith

-- control was told of a seat, and learned of it
pub told-more : (l : Account) (c : ControlView) (v : SeatView) → KeepUp l c → Learned (told c v) → KeepUp l (told c v)
told-more l c v t learned = record {
  learned = learned;
  first = t.first;
  points = t.points;
  slots = t.slots;
  open_now = t.open_now;
  least = λ is. more (t.least is);
  later = t.later;
  cards = t.cards;
  shows = t.shows;
  seen = t.seen;
}
  where
    more : (1 ≤ l.nexts (current c).epoch) × (l.nexts (current c).epoch ≤ least_under c (current c)) → (1 ≤ l.nexts (current c).epoch) × (l.nexts (current c).epoch ≤ least_under (told c v) (current c))
    more low = let z = above-more (current c).epoch v.additions c.told in let high = low.1 in (low.0, omega arith)

-- a number that is above each claim of an epoch
above-by : (epoch n : ℕ) (xs : List Addition) → ((a : Addition) → In a xs → a.claimed ≡ true → a.met ≡ epoch → a.pn < n) → above_claims epoch xs ≤ n
above-by epoch n [] all = omega arith
above-by epoch n (x ∷ xs) all = let z = above-by epoch n xs (λ a i. all a (inr i)) in by_test (x.claimed && (x.met == epoch))
    (λ y. let first = one-below x.claimed (x.met == epoch) y in let small = all x (inl refl) first.0 (eqb-true x.met epoch first.1) in rw y (omega arith))
    (λ y. rw y (omega arith))
  where
    one-below : (a b : Bool) → (a && b) ≡ true → (a ≡ true) × (b ≡ true)
    one-below true b e = (refl, e)
    one-below false b e = absurd (cc e)

-- the next number of an open slot, as control learns it, is above the claims that it was told
pub next-above : (c : ControlView) (p : Current) (n : ℕ) → Learned c → IsOpen c p.an p.epoch → IsNext c p.an p.epoch n → above_claims p.epoch c.told ≤ n
next-above c p n learned opened is = above-by p.epoch n c.told (λ a i claimed met. is.above_claims a i claimed (same a i met) met)
  where
    same : (a : Addition) → In a c.told → a.met ≡ p.epoch → a.an ≡ p.an
    same a i met =
        let s = learned.settled in
        let here : In (p.an, (slot c p.an).epoch) c.raises = s.slot_raised p.an (s.open_some p.an opened.0) in
        once c.raises s.rise (a.an, a.met) (p.an, (slot c p.an).epoch) (learned.additions a i).raised here (met ∙ sym opened.1)

-- ---- what was shown

showing-here : (n : ℕ) (a : Account) → (now a.carried).present ≡ true → (showing n a).nexts (now a.carried).epoch ≡ max n (a.nexts (now a.carried).epoch)
showing-here n a is = let same = eq-eqb (now a.carried).epoch (now a.carried).epoch refl in rw (is, same) refl

pub showing-other : (n : ℕ) (a : Account) (e : ℕ) → (e == (now a.carried).epoch) ≡ false → (showing n a).nexts e ≡ a.nexts e
showing-other n a e ne = rw ne (ap (λ (b : Bool). cond b (max n (a.nexts e)) (a.nexts e)) (and-false (now a.carried).present))

showing-none : (n : ℕ) (a : Account) (e : ℕ) → (now a.carried).present ≡ false → (showing n a).nexts e ≡ a.nexts e
showing-none n a e none = rw none refl

module _ (c : ControlView) (p : Current) (cards : ℕ) (k : IsKept c p cards) (l : Account) (t : KeepUp l c) where
  pub told-now : current c ≡ word_of (now l.carried)
  told-now = ap newest t.points ∙ newest-word l.carried.points

  pub now-is : word_of (now l.carried) ≡ p
  now-is = sym told-now ∙ k.shown

  pub names-are : (an : AssociationNumber) → names_it (now l.carried) an ≡ names p an
  names-are an = ap (λ (q : Current). names q an) now-is

  pub installs-are : l.carried.installs ≡ cards
  installs-are = sym t.cards ∙ carded c p cards k

  pub up-installed : (j : Carried) (words : List ℕ) → IsKept (record c { card_words = c.card_words ++ words }) p (cards + 1) → Learned (record c { card_words = c.card_words ++ words }) → installed l.carried ≡ Some j
      → KeepUp (record l { carried = j }) (record c { card_words = c.card_words ++ words })
  up-installed j words more learned is = subst (λ (q : Carried). KeepUp (record l { carried = q }) (record c { card_words = c.card_words ++ words })) (some-if _ _ j is).1 (record {
    learned = learned;
    first = more.first;
    points = t.points;
    slots = t.slots;
    open_now = t.open_now;
    least = t.least;
    later = t.later;
    cards = carded _ p (cards + 1) more ∙ ap (λ (n : ℕ). n + 1) (sym installs-are);
    shows = t.shows;
    seen = t.seen;
  })

  -- a key may begin that is later than what transmitted last
  pub later-now : (j : Carried) (an : AssociationNumber) (epoch : ℕ) → begun an epoch l.carried ≡ Some j → (current c).epoch < epoch
  later-now j an epoch is =
      let z : (current c).epoch ≡ (now l.carried).epoch = ap (λ (q : Current). q.epoch) told-now in
      let m = first-parts an epoch (now l.carried) l.carried.installs (some-if _ _ j is).0 in omega arith

  -- a key that may not begin does not
  pub not-begun : (j : Carried) (an : AssociationNumber) (epoch : ℕ) → begun an epoch l.carried ≡ Some j → may_begin an epoch (sending_of p) cards ≡ false → ⊥
  not-begun j an epoch is none = absurd (cc (sym none ∙ (same ∙ (some-if _ _ j is).0)))
    where
      same : may_begin an epoch (sending_of p) cards ≡ may_begin an epoch (now l.carried) l.carried.installs
      same = λ i. may_begin an epoch (sending_of (sym now-is i)) (sym installs-are i)

  -- a key began, and other words show it
  pub up-begun : (e : ControlView) (j : Carried) (an : AssociationNumber) (epoch : ℕ) → IsKept e (present_at an epoch) cards → e.points ≡ present_at an epoch ∷ c.points → (slot e an).seen ≡ c.first → e.loads ≡ c.loads → Learned e → begun an epoch l.carried ≡ Some j → KeepUp (record l { carried = j }) e
  up-begun e j an epoch ke more_points seen same_loads learned is = subst (λ (q : Carried). KeepUp (record l { carried = q }) e) (some-if _ _ j is).1 (record {
    learned = learned;
    first = ke.first;
    points = more_points ∙ ap (λ (ps : List Current). present_at an epoch ∷ ps) t.points;
    slots = ke.slots;
    open_now = λ _. subst (λ (q : Current). IsOpen e q.an q.epoch) (sym ke.shown) (open-now e (present_at an epoch) cards ke refl);
    least = λ _. subst (λ (q : Current). (1 ≤ l.nexts q.epoch) × (l.nexts q.epoch ≤ least_under e q)) (sym ke.shown) first_one;
    later = λ f lt. t.later f (let z = epoch_is in let y = later-now j an epoch is in omega arith);
    cards = carded e (present_at an epoch) cards ke ∙ (sym (carded c p cards k) ∙ t.cards);
    shows = ap (map (λ (f : NextSeen). f.next)) same_loads ∙ t.shows;
    seen = λ f. t.seen f ∙ ap (λ (fs : List NextSeen). max 1 (max (past_claims f l.claims) (greatest_seen f fs))) (sym same_loads);
  })
    where
      epoch_is : (current e).epoch ≡ epoch
      epoch_is = ap (λ (q : Current). q.epoch) ke.shown

      first_one : (1 ≤ l.nexts epoch) × (l.nexts epoch ≤ max (slot e an).seen (above_claims epoch e.told))
      first_one = let z = k.first in let y = t.later epoch (later-now j an epoch is) in (omega arith, omega (arith, seen))

  abbrev gone_if : Bool → Carried
  gone_if b = cond b (record l.carried { points = silent_after (now l.carried).epoch ∷ l.carried.points }) l.carried

  -- the key that transmitted ended, and other words show it
  pub up-ended : (e : ControlView) (an : AssociationNumber) → IsKept e (absent_after p.epoch) cards → e.points ≡ absent_after (current c).epoch ∷ c.points → e.loads ≡ c.loads → Learned e → names p an ≡ true → KeepUp (record l { carried = ended an l.carried }) e
  up-ended e an ke more_points same_loads learned is = record {
    learned = learned;
    first = ke.first;
    points = more_points ∙ ((λ i. absent_after (told-now i).epoch ∷ t.points i) ∙ sym (ap (λ (b : Bool). map word_of (gone_if b).points) it_names));
    slots = λ i. ke.slots i ∙ sym (ap (λ (b : Bool). not (names_it (now (gone_if b)) i)) it_names);
    open_now = λ present. absurd (cc (sym present ∙ ap (λ (q : Current). q.present) ke.shown));
    least = λ present. absurd (cc (sym present ∙ ap (λ (q : Current). q.present) ke.shown));
    later = λ f lt. t.later f (let z = epoch_is in omega arith);
    cards = carded e _ cards ke ∙ (sym (carded c p cards k) ∙ (t.cards ∙ sym (ap (λ (b : Bool). (gone_if b).installs) it_names)));
    shows = ap (map (λ (f : NextSeen). f.next)) same_loads ∙ t.shows;
    seen = λ f. t.seen f ∙ ap (λ (fs : List NextSeen). max 1 (max (past_claims f l.claims) (greatest_seen f fs))) (sym same_loads);
  }
    where
      it_names : names_it (now l.carried) an ≡ true
      it_names = names-are an ∙ is

      epoch_is : (current e).epoch ≡ (current c).epoch
      epoch_is = ap (λ (q : Current). q.epoch) ke.shown ∙ sym (ap (λ (q : Current). q.epoch) k.shown)

  pub up-unended : (an : AssociationNumber) → names p an ≡ false → KeepUp (record l { carried = ended an l.carried }) c
  up-unended an none = subst (λ (b : Bool). KeepUp (record l { carried = gone_if b }) c) (sym (names-are an ∙ none)) t

  -- ---- packet numbers

  -- what control knows of the next number under what the current word shows
  pub least-is : p.present ≡ true → (1 ≤ l.nexts p.epoch) × (l.nexts p.epoch ≤ least_under c p)
  least-is is = subst (λ (q : Current). q.present ≡ true → (1 ≤ l.nexts q.epoch) × (l.nexts q.epoch ≤ least_under c q)) k.shown t.least is

  pub up-looked : (n : ℕ) → p.present ≡ true → (slot c p.an).seen ≤ n → above_claims p.epoch c.told ≤ n → IsKept (looked_at c p.an n) p cards → Learned (looked_at c p.an n) → KeepUp (showing n l) (looked_at c p.an n)
  up-looked n is seen above ke learned = record {
    learned = learned;
    first = ke.first;
    points = t.points;
    slots = λ i. ke.slots i ∙ ap not (sym (names-are i));
    open_now = λ _. subst (λ (q : Current). IsOpen (looked_at c p.an n) q.an q.epoch) (sym k.shown) (open-now _ p cards ke is);
    least = λ _. subst (λ (q : Current). (1 ≤ (showing n l).nexts q.epoch) × ((showing n l).nexts q.epoch ≤ least_under (looked_at c p.an n) q)) (sym k.shown) here;
    later = λ e lt. showing-other n l e (ne_eqb e (now l.carried).epoch (λ same. let z = epoch_is in absurd (omega (arith, same)))) ∙ t.later e lt;
    cards = t.cards;
    shows = (λ i. n ∷ t.shows i) ∙ sym (ap (λ (b : Bool). cond b (n ∷ l.shows) l.shows) (lt-ltb 0 n (let z = least-is is in let y = z.0 in let x = z.1 in let w = seen in let v = above in omega arith)));
    seen = λ e. seen-one e (by_test (e == (now l.carried).epoch) (λ y. inl y) (λ y. inr y));
  }
    where
      epoch_is : (current c).epoch ≡ (now l.carried).epoch
      epoch_is = ap (λ (q : Current). q.epoch) told-now

      present : (now l.carried).present ≡ true
      present = ap (λ (q : Current). q.present) now-is ∙ is

      slot-epoch : (slot c p.an).epoch ≡ (now l.carried).epoch
      slot-epoch = k.epoch is ∙ sym (ap (λ (q : Current). q.epoch) now-is)

      seen-one : (e : ℕ) → ((e == (now l.carried).epoch) ≡ true) ⊎ ((e == (now l.carried).epoch) ≡ false)
          → (showing n l).nexts e ≡ max 1 (max (past_claims e l.claims) (max (cond ((slot c p.an).epoch == e) n 0) (greatest_seen e c.loads)))
      seen-one e (inl y) =
          let same : ((slot c p.an).epoch == e) ≡ true = eq-eqb (slot c p.an).epoch e (slot-epoch ∙ sym (eqb-true e (now l.carried).epoch y)) in
          let z = t.seen e in rw (y, present, same) (omega arith)
      seen-one e (inr n_y) =
          let other : ((slot c p.an).epoch == e) ≡ false = ne_eqb (slot c p.an).epoch e (λ same. absurd (cc (sym n_y ∙ eq-eqb e (now l.carried).epoch (sym same ∙ slot-epoch)))) in
          let z = t.seen e in let q = showing-other n l e n_y in rw other (omega arith)

      nexts_are : (showing n l).nexts p.epoch ≡ max n (l.nexts p.epoch)
      nexts_are = subst (λ (q : Current). q.present ≡ true → (showing n l).nexts q.epoch ≡ max n (l.nexts q.epoch)) now-is (showing-here n l) is

      here : (1 ≤ (showing n l).nexts p.epoch) × ((showing n l).nexts p.epoch ≤ max (slot (looked_at c p.an n) p.an).seen (above_claims p.epoch c.told))
      here = let z = least-is is in let low = z.0 in let high = z.1 in let y = seen-looked c p cards k n in let x = nexts_are in let w = seen in (omega arith, omega arith)

  -- where no key transmits 0 is shown
  pub up-unlooked : p.present ≡ false → KeepUp (showing 0 l) c
  up-unlooked none = record {
    learned = t.learned;
    first = t.first;
    points = t.points;
    slots = t.slots;
    open_now = t.open_now;
    least = λ is. absurd (cc (sym is ∙ (ap (λ (q : Current). q.present) k.shown ∙ none)));
    later = λ e lt. showing-none 0 l e absent ∙ t.later e lt;
    cards = t.cards;
    shows = t.shows;
    seen = λ e. showing-none 0 l e absent ∙ t.seen e;
  }
    where
      absent : (now l.carried).present ≡ false
      absent = ap (λ (q : Current). q.present) now-is ∙ none

  -- what is shown is not below the account's next number
  pub next-present : p.present ≡ true → next_now l ≡ l.nexts p.epoch
  next-present is = ap (λ (b : Bool). cond b (l.nexts (now l.carried).epoch) 0) (ap (λ (q : Current). q.present) now-is ∙ is) ∙ ap (λ (q : Current). l.nexts q.epoch) now-is

  pub next-absent : p.present ≡ false → next_now l ≡ 0
  next-absent is = ap (λ (b : Bool). cond b (l.nexts (now l.carried).epoch) 0) (ap (λ (q : Current). q.present) now-is ∙ is)

  pub shown-ahead : (n : ℕ) → p.present ≡ true → (slot c p.an).seen ≤ n → above_claims p.epoch c.told ≤ n → (next_now l ≤ n) × (next_now l ≡ 0 → n ≡ 0)
  shown-ahead n is seen above = let z = least-is is in let low = z.0 in let high = z.1 in let y = next-present is in let w = seen in let v = above in
      (omega arith, λ none. absurd (omega (arith, none, low, y)))

  -- ---- seats

  pub up-seated : Learned (seated c) → KeepUp l (seated c)
  up-seated learned = record {
    learned = learned;
    first = t.first;
    points = t.points;
    slots = t.slots;
    open_now = t.open_now;
    least = t.least;
    later = t.later;
    cards = t.cards;
    shows = t.shows;
    seen = t.seen;
  }

  pub up-told : (v : SeatView) → Learned (told c v) → KeepUp l (told c v)
  up-told v learned = told-more l c v t learned

  -- a seat went out and came back
  pub up-back : (v : SeatView) → Learned (told (seated c) v) → KeepUp l (told (seated c) v)
  up-back v learned = record {
    learned = learned;
    first = t.first;
    points = t.points;
    slots = t.slots;
    open_now = t.open_now;
    least = λ is. more (t.least is);
    later = t.later;
    cards = t.cards;
    shows = t.shows;
    seen = t.seen;
  }
    where
      more : (1 ≤ l.nexts (current c).epoch) × (l.nexts (current c).epoch ≤ least_under c (current c)) → (1 ≤ l.nexts (current c).epoch) × (l.nexts (current c).epoch ≤ least_under (told (seated c) v) (current c))
      more low = let z = above-more (current c).epoch v.additions c.told in let high = low.1 in (low.0, omega arith)

  -- ---- a claim where no seat is out

  module _ (v : SeatView) (known : Learned (told (seated c) v)) where
    abbrev d : ControlView
    d = told (seated c) v

    -- a seat is given what control knows of the next number
    given-least : (x : Claim) → (current c).present ≡ true → x.an ≡ (current c).an → x.epoch ≡ (current c).epoch → IsClaim (new_seat c) v x.an x.epoch x.pn x.card → least_under c (current c) ≤ x.pn
    given-least x is an_is epoch_is claim =
        let opened = t.open_now is in
        let pointed : was_pointed (current c).an (slot c (current c).an).epoch c.points ≡ true = subst (λ (n : ℕ). was_pointed (current c).an n c.points ≡ true) (sym opened.1) (newest_pointed c.points is) in
        let both : (not (slot c (current c).an).shut && was_pointed (current c).an (slot c (current c).an).epoch c.points) ≡ true = ap (λ (b : Bool). not b && was_pointed (current c).an (slot c (current c).an).epoch c.points) opened.0 ∙ pointed in
        let low : (least_next c (current c).an).next ≤ x.pn = claim.given (least_next c (current c).an) (given_at c (current c).an both) (sym an_is) (opened.1 ∙ sym epoch_is) in
        let above : least_under c (current c) ≤ (least_next c (current c).an).next =
        subst (λ (n : ℕ). max (slot c (current c).an).seen (above_claims n c.told) ≤ (least_next c (current c).an).next) opened.1 (omega arith) in omega arith

    gaining-is : (n : ℕ) → (now l.carried).present ≡ true → 1 ≤ n → gaining n l ≡ record l {
      nexts = λ e. cond (e == (now l.carried).epoch) (max (n + 1) (l.nexts e)) (l.nexts e);
      claims = ((now l.carried).epoch, n) ∷ l.claims;
    }
    gaining-is n is some = let more = lt-ltb 0 n (omega arith) in rw (is, more) refl

    up-claim : (x : Claim) → IsNextClaim c d x → IsClaim (new_seat c) v x.an x.epoch x.pn x.card → (current c).present ≡ true → HasGained l c (Ok x) (λ m. KeepUp m d)
    up-claim x n claim is = (
      sym told-now ∙ here,
      (let y = next-is in let z = t.least is in let high = z.1 in let w = given-least x is n.0 n.1 claim in omega arith),
      claim.first,
      (let y = claim.number.1 in omega arith),
      n.3,
      subst (λ (m : Account). KeepUp m d) (sym (gaining-is x.pn present claim.first)) (record {
        learned = known;
        first = t.first;
        points = t.points;
        slots = t.slots;
        open_now = t.open_now;
        least = λ _. let z = t.least is in let low = z.0 in let high = z.1 in let y = next_one in let w = above_it in (omega arith, omega arith);
        later = λ e lt. ap (λ (b : Bool). cond b (max (x.pn + 1) (l.nexts e)) (l.nexts e)) (apart e lt) ∙ t.later e lt;
        cards = t.cards;
        shows = t.shows;
        seen = λ e. seen-one e (by_test (e == (now l.carried).epoch) (λ y. inl y) (λ y. inr y));
      }),
    )
      where
        seen-one : (e : ℕ) → ((e == (now l.carried).epoch) ≡ true) ⊎ ((e == (now l.carried).epoch) ≡ false)
            → cond (e == (now l.carried).epoch) (max (x.pn + 1) (l.nexts e)) (l.nexts e)
            ≡ max 1 (max (max (cond ((now l.carried).epoch == e) (x.pn + 1) 0) (past_claims e l.claims)) (greatest_seen e c.loads))
        seen-one e (inl y) =
            let same : ((now l.carried).epoch == e) ≡ true = eq-eqb (now l.carried).epoch e (sym (eqb-true e (now l.carried).epoch y)) in
            let z = t.seen e in rw (y, same) (omega arith)
        seen-one e (inr n_y) =
            let other : ((now l.carried).epoch == e) ≡ false = ne_eqb (now l.carried).epoch e (λ same. absurd (cc (sym n_y ∙ eq-eqb e (now l.carried).epoch (sym same)))) in
            let z = t.seen e in rw (n_y, other) (omega arith)

        here : current c ≡ present_at x.an x.epoch
        here = λ i. record { epoch = sym n.1 i; present = is i; an = sym n.0 i }

        present : (now l.carried).present ≡ true
        present = ap (λ (q : Current). q.present) (sym told-now) ∙ is

        epoch_is : (current c).epoch ≡ (now l.carried).epoch
        epoch_is = ap (λ (q : Current). q.epoch) told-now

        next-is : next_now l ≡ l.nexts (current c).epoch
        next-is = ap (λ (b : Bool). cond b (l.nexts (now l.carried).epoch) 0) present ∙ ap l.nexts (sym epoch_is)

        apart : (e : ℕ) → (current c).epoch < e → (e == (now l.carried).epoch) ≡ false
        apart e lt = ne_eqb e (now l.carried).epoch (λ same. let z = epoch_is in absurd (omega (arith, same)))

        next_one : cond ((current c).epoch == (now l.carried).epoch) (max (x.pn + 1) (l.nexts (current c).epoch)) (l.nexts (current c).epoch) ≡ max (x.pn + 1) (l.nexts (current c).epoch)
        next_one = ap (λ (b : Bool). cond b (max (x.pn + 1) (l.nexts (current c).epoch)) (l.nexts (current c).epoch)) (eq-eqb (current c).epoch (now l.carried).epoch epoch_is)

        above_it : above_claims (current c).epoch d.told ≡ max (x.pn + 1) (above_claims (current c).epoch c.told)
        above_it = ap (above_claims (current c).epoch) n.4 ∙ (let same = eq-eqb x.epoch (current c).epoch n.1 in rw same refl)

    up-won : (r : Result Claim NoClaim) → (current c).present ≡ true → Did (new_seat c) v r → MatchResult r (IsNextClaim c d) (λ _. ⊥) → HasGained l c r (λ m. KeepUp m d)
    up-won (Ok x) is did n = up-claim x n did is
    up-won (Err e) is did n = absurd n

    -- by the answer
    pub up-claimed : (r : Result Claim NoClaim) → ((current c).present ≡ true → next_told c < 2 ^ 32 → MatchResult r (IsNextClaim c d) (λ _. ⊥))
        → ((current c).present ≡ true → 2 ^ 32 ≤ next_told c → r ≡ Err (Exhausted (current c).epoch))
        → ((current c).present ≡ false → r ≡ Err (NoKey (current c).epoch)) → Did (new_seat c) v r → HasGained l c r (λ m. KeepUp m d)
    up-claimed r next over none did = by_test (current c).present
        (λ is. by_test (nat_lt (next_told c) (2 ^ 32))
        (λ low. up-won r is did (next is (ltb-true (next_told c) (2 ^ 32) low)))
        (λ high. let much : 2 ^ 32 ≤ next_told c = ltb-false (next_told c) (2 ^ 32) high in
        subst (λ (q : Result Claim NoClaim). HasGained l c q (λ m. KeepUp m d)) (sym (over is much)) (
          (λ i. record { epoch = (current c).epoch; present = is i; an = (current c).an }),
          omega arith,
          up-back v known,
        )))
        (λ is. subst (λ (q : Result Claim NoClaim). HasGained l c q (λ m. KeepUp m d)) (sym (none is)) (
          ap (λ (q : Current). q.present) (sym told-now) ∙ is,
          ap (λ (q : Current). q.epoch) told-now,
          up-back v known,
        ))
