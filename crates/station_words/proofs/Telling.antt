-- The words tell the account, call by call.
use Rattle.std.proofs.Common.{◌≡◌, ℕ, ◌+◌, ◌^◌, ◌<◌, ◌≤◌, ◌==◌, Bool, true, false, ◌&&◌, cond, List, [], ◌∷◌, ◌++◌, Some, Result, Ok, Err, MatchResult, refl, sym, ap, ◌∙◌, subst, ◌⊎◌, inl, inr, ⊎_elim, arith, eq-eqb, get_or, max}
use Rattle.std.proofs.lemmas.Bool.{ne_eqb, lt-ltb, eqb-true}
use Rattle.std.specs.Prelude.{nat_lt}
use Rattle.sak_exchange.proofs.Public.{by_test}
use Rattle.lan_base.specs.declared.association_number.AssociationNumber.{AssociationNumber}
use Rattle.lan_base.specs.AssociationNumbers.{same_an}
use Rattle.association_slots.specs.Views.{In, slot, current, absent_after, present_at, AllIn}
use Rattle.association_slots.specs.Views.{one, met, count, claimed as claims_it, told_sum}
use Rattle.association_slots.specs.Steps.{at_first, looked as looked_at, seated, new_seat, told, above_claims}
use Rattle.association_slots.specs.Learned.{Learned}
use Rattle.association_slots.specs.declared.view.Addition.{Addition}
use Rattle.association_slots.specs.declared.view.Current.{Current}
use Rattle.association_slots.specs.declared.view.ControlView.{ControlView}
use Rattle.association_slots.specs.declared.view.SeatView.{SeatView}
use Rattle.association_slots.proofs.Public.{in_append, weigh-append, weigh_none}
use Rattle.packet_claims.specs.Alone.{next_now as next_told, IsNextClaim}
use Rattle.packet_claims.specs.Claims.{IsNoKey, Did}
use Rattle.packet_claims.specs.declared.answers.Claim.{Claim}
use Rattle.packet_claims.specs.declared.answers.NoClaim.{NoClaim}
use Rattle.packet_claims.specs.declared.answers.NoClaim.TheVariants.{NoKey}
use Rattle.lan_core.specs.Expected.{last_number}
use Rattle.group_safety.specs.Transmitting.{Carried, now, silent_after, installed, begun, ended}
use Rattle.group_safety.specs.Accounts.{Account, next_now, looked, showing, with_claim}
use Rattle.station_words.specs.Counting.{past_claims, greatest_seen}
use Rattle.station_words.specs.Telling.{KeepUp, OfSeats, of_seats, Tells, IsClaimed, word_of}
use Rattle.station_words.specs.inside.Kept.{IsKept}
use Rattle.station_words.proofs.Keeping.{names}
use Rattle.station_words.proofs.KeepingUp.{told-now, now-is, names-are, later-now, up-installed, up-begun, up-ended, least-is, next-present, up-back, showing-other}

-- no addition met a later epoch
none-met : (an : AssociationNumber) (e f : ℕ) (xs : List Addition) → ((a : Addition) → In a xs → a.met ≤ f) → f < e → count (met an e) xs ≡ 0
none-met an e f xs low lt = weigh_none (λ a. one (met an e a)) xs (λ a i. no (same_an a.an an) a (low a i))
  where
    no : (s : Bool) → (a : Addition) → a.met ≤ f → one (s && (a.met == e)) ≡ 0
    no true a l = ap one (ne_eqb a.met e (λ same. absurd (omega arith)))
    no false a l = refl

module _ (c : ControlView) (p : Current) (cards : ℕ) (k : IsKept c p cards) (l : Account) (t : Tells l c) where
  abbrev u : KeepUp l c
  u = t.keep_up

  now-told : current c ≡ word_of (now l.carried)
  now-told = told-now c p cards k l u

  now-word : word_of (now l.carried) ≡ p
  now-word = now-is c p cards k l u

  pub tells-installed : (j : Carried) (words : List ℕ) → IsKept (record c { card_words = c.card_words ++ words }) p (cards + 1) → Learned (record c { card_words = c.card_words ++ words }) → installed l.carried ≡ Some j
      → Tells (record l { carried = j }) (record c { card_words = c.card_words ++ words })
  tells-installed j words more learned is = record {
    all_in = t.all_in;
    keep_up = up-installed c p cards k l u j words more learned is;
    next = t.next;
    low = t.low;
    claims = t.claims;
  }

  -- a key began, and other words show it
  pub tells-begun : (e : ControlView) (j : Carried) (an : AssociationNumber) (epoch : ℕ) → IsKept e (present_at an epoch) cards → e.points ≡ present_at an epoch ∷ c.points → (slot e an).seen ≡ c.first → of_seats e ≡ of_seats c → e.loads ≡ c.loads → Learned e → begun an epoch l.carried ≡ Some j → Tells (record l { carried = j }) e
  tells-begun e j an epoch ke more_points seen same same_loads learned is = record {
    all_in = subst (λ (out : List Bool). (i : ℕ) → get_or out i false ≡ false) (sym (ap (λ (o : OfSeats). o.out) same)) t.all_in;
    keep_up = up-begun c p cards k l u e j an epoch ke more_points seen same_loads learned is;
    next = λ _. subst (λ (q : Current). told_sum e q.an q.epoch ≡ l.nexts q.epoch) (sym ke.shown) first_one;
    low = λ a i. let z = epoch_is in let y = after in let x = t.low a (subst (In a) same_told i) in omega arith;
    claims = λ f pn. ap (count (claims_it f pn)) same_told ∙ t.claims f pn;
  }
    where
      same_told : e.told ≡ c.told
      same_told = ap (λ (o : OfSeats). o.told) same

      after : (current c).epoch < epoch
      after = later-now c p cards k l u j an epoch is

      epoch_is : (current e).epoch ≡ epoch
      epoch_is = ap (λ (q : Current). q.epoch) ke.shown

      first_one : told_sum e an epoch ≡ l.nexts epoch
      first_one = let z = ke.first in let y = none-met an epoch (current c).epoch c.told t.low after in
          let x : count (met an epoch) e.told ≡ count (met an epoch) c.told = ap (count (met an epoch)) same_told in
          let w = u.later epoch after in omega arith

  abbrev gone_if : Bool → Carried
  gone_if b = cond b (record l.carried { points = silent_after (now l.carried).epoch ∷ l.carried.points }) l.carried

  -- the key that transmitted ended, and other words show it
  pub tells-ended : (e : ControlView) (an : AssociationNumber) → IsKept e (absent_after p.epoch) cards → e.points ≡ absent_after (current c).epoch ∷ c.points → of_seats e ≡ of_seats c → e.loads ≡ c.loads → Learned e → names p an ≡ true → Tells (record l { carried = ended an l.carried }) e
  tells-ended e an ke more_points same same_loads learned is = record {
    all_in = subst (λ (out : List Bool). (i : ℕ) → get_or out i false ≡ false) (sym (ap (λ (o : OfSeats). o.out) same)) t.all_in;
    keep_up = up-ended c p cards k l u e an ke more_points same_loads learned is;
    next = λ present. absurd (cc (sym present ∙ ap (λ (q : Current). q.present) ke.shown));
    low = λ a i. let z = epoch_is in let x = t.low a (subst (In a) (ap (λ (o : OfSeats). o.told) same) i) in omega arith;
    claims = λ f pn. ap (λ (o : OfSeats). count (claims_it f pn) o.told) same ∙ t.claims f pn;
  }
    where
      epoch_is : (current e).epoch ≡ (current c).epoch
      epoch_is = ap (λ (q : Current). q.epoch) ke.shown ∙ sym (ap (λ (q : Current). q.epoch) k.shown)

  pub tells-unended : (an : AssociationNumber) → names p an ≡ false → Tells (record l { carried = ended an l.carried }) c
  tells-unended an none = subst (λ (b : Bool). Tells (record l { carried = gone_if b }) c) (sym (names-are c p cards k l u an ∙ none)) t

  -- ---- packet numbers

  pub sum-present : p.present ≡ true → next_now l ≡ told_sum c p.an p.epoch
  sum-present is = next-present c p cards k l u is ∙ sym (subst (λ (q : Current). q.present ≡ true → told_sum c q.an q.epoch ≡ l.nexts q.epoch) k.shown t.next is)

  -- a tick shows just the next number: no next number moves
  looked-is : (n : ℕ) → p.present ≡ true → n ≡ told_sum c p.an p.epoch → showing n l ≡ looked l
  looked-is n is sum = λ i. record {
    carried = l.carried;
    nexts = λ e. nexts_are e i;
    claims = l.claims;
    shows = shows_are i;
  }
    where
      present : (now l.carried).present ≡ true
      present = ap (λ (q : Current). q.present) now-word ∙ is

      next_is : n ≡ next_now l
      next_is = sum ∙ sym (sum-present is)

      low : 1 ≤ n
      low = let z = least-is c p cards k l u is in let y = z.0 in let x = next-present c p cards k l u is in let w = next_is in omega arith

      nexts_are : (e : ℕ) → (showing n l).nexts e ≡ l.nexts e
      nexts_are e = by_test (e == (now l.carried).epoch)
          (λ y. let same : l.nexts e ≡ n = ap l.nexts (eqb-true e (now l.carried).epoch y) ∙ (sym (ap (λ (b : Bool). cond b (l.nexts (now l.carried).epoch) 0) present) ∙ sym next_is) in rw (y, present) (omega (arith, same)))
          (λ y. showing-other n l e y)

      shows_are : cond (nat_lt 0 n) (n ∷ l.shows) l.shows ≡ (looked l).shows
      shows_are = ap (λ (b : Bool). cond b (n ∷ l.shows) l.shows) (lt-ltb 0 n low) ∙ ((λ i. next_is i ∷ l.shows) ∙ sym (ap (λ (b : Bool). cond b (next_now l ∷ l.shows) l.shows) present))

  pub tells-looked : (n : ℕ) → p.present ≡ true → KeepUp (showing n l) (looked_at c p.an n) → n ≡ told_sum c p.an p.epoch → Tells (looked l) (looked_at c p.an n)
  tells-looked n is up sum = record {
    all_in = t.all_in;
    keep_up = subst (λ (m : Account). KeepUp m (looked_at c p.an n)) (looked-is n is sum) up;
    next = t.next;
    low = t.low;
    claims = t.claims;
  }

  pub tells-unlooked : p.present ≡ false → Tells (looked l) c
  tells-unlooked is = subst (λ (b : Bool). Tells (record l { shows = cond b (next_now l ∷ l.shows) l.shows }) c) (sym (ap (λ (q : Current). q.present) now-word ∙ is)) t

  -- ---- a claim

  module _ (v : SeatView) (known : Learned (told (seated c) v)) (all_back : AllIn (told (seated c) v)) where
    abbrev d : ControlView
    d = told (seated c) v

    low-told : (a : Addition) → In a d.told → a.met ≤ (current c).epoch
    low-told a i = let r = (known.settled.raised_once _ (known.additions a i).raised).1 in let z = k.top_is in let y : (current c).epoch ≡ p.epoch = ap (λ (q : Current). q.epoch) k.shown in omega arith

    tells-claim : (x : Claim) → IsNextClaim c d x → (current c).present ≡ true → IsClaimed l c (Ok x) (λ m. Tells m d)
    tells-claim x n is = (
      sym now-told ∙ here,
      n.2 ∙ (told_is ∙ sym next_is),
      n.3,
      record {
        all_in = all_back;
        keep_up = claim-up;
        next = λ _. n.5 ∙ (ap (λ (m : ℕ). m + 1) (sym n.2) ∙ sym (ap (λ (b : Bool). cond b (x.pn + 1) (l.nexts (current c).epoch)) (eq-eqb (current c).epoch x.epoch (sym n.1))));
        low = low-told;
        claims = λ e pn. ap (count (claims_it e pn)) n.4 ∙ ap (λ (m : ℕ). one ((x.epoch == e) && (x.pn == pn)) + m) (t.claims e pn);
      },
    )
      where
        here : current c ≡ present_at x.an x.epoch
        here = λ i. record { epoch = sym n.1 i; present = is i; an = sym n.0 i }

        told_is : next_told c ≡ l.nexts (current c).epoch
        told_is = t.next is

        next_is : next_now l ≡ l.nexts (current c).epoch
        next_is = ap (λ (q : Current). cond q.present (l.nexts q.epoch) 0) (sym now-told) ∙ ap (λ (b : Bool). cond b (l.nexts (current c).epoch) 0) is

        apart : (e : ℕ) → (current c).epoch < e → (e == x.epoch) ≡ false
        apart e lt = ne_eqb e x.epoch (λ same. let y = n.1 in absurd (omega (arith, same)))

        -- the number that was claimed is told
        above_it : x.pn + 1 ≤ above_claims (current c).epoch d.told
        above_it = subst (λ (xs : List Addition). x.pn + 1 ≤ above_claims (current c).epoch xs) (sym n.4)
            (let same = eq-eqb x.epoch (current c).epoch n.1 in rw same (omega arith))

        next_one : (with_claim x.epoch x.pn l).nexts (current c).epoch ≡ x.pn + 1
        next_one = ap (λ (b : Bool). cond b (x.pn + 1) (l.nexts (current c).epoch)) (eq-eqb (current c).epoch x.epoch (sym n.1))

        seen-one : (e : ℕ) → ((e == x.epoch) ≡ true) ⊎ ((e == x.epoch) ≡ false)
            → cond (e == x.epoch) (x.pn + 1) (l.nexts e)
            ≡ max 1 (max (max (cond (x.epoch == e) (x.pn + 1) 0) (past_claims e l.claims)) (greatest_seen e c.loads))
        seen-one e (inl y) =
            let e_is : e ≡ x.epoch = eqb-true e x.epoch y in
            let same : (x.epoch == e) ≡ true = eq-eqb x.epoch e (sym e_is) in
            let here : x.pn ≡ l.nexts e = n.2 ∙ (told_is ∙ ap l.nexts (sym n.1 ∙ sym e_is)) in
            let z = u.seen e in rw (y, same) (omega arith)
        seen-one e (inr n_y) =
            let other : (x.epoch == e) ≡ false = ne_eqb x.epoch e (λ same. absurd (cc (sym n_y ∙ eq-eqb e x.epoch (sym same)))) in
            let z = u.seen e in rw (n_y, other) (omega arith)

        claim-up : KeepUp (with_claim x.epoch x.pn l) d
        claim-up = record {
          learned = known;
          first = u.first;
          points = u.points;
          slots = u.slots;
          open_now = u.open_now;
          least = λ _. let z = next_one in let y = above_it in (omega arith, omega arith);
          later = λ e lt. ap (λ (b : Bool). cond b (x.pn + 1) (l.nexts e)) (apart e lt) ∙ u.later e lt;
          cards = u.cards;
          shows = u.shows;
          seen = λ e. seen-one e (by_test (e == x.epoch) (λ y. inl y) (λ y. inr y));
        }

    tells-none : (current c).present ≡ false → (after : ℕ) → IsNoKey (new_seat c) v after → Tells l d
    tells-none absent after n = record {
      all_in = all_back;
      keep_up = up-back c p cards k l u v known;
      next = λ is. absurd (cc (sym is ∙ absent));
      low = low-told;
      claims = λ e pn. let w = weigh-append (λ a. one (claims_it e pn a)) v.additions c.told in let z = none e pn in let y = t.claims e pn in omega arith;
    }
      where
        none : (e pn : ℕ) → count (claims_it e pn) v.additions ≡ 0
        none e pn = weigh_none (λ a. one (claims_it e pn a)) v.additions (λ a i. unclaimed a (subst (In a) n.additions i))
          where
            unclaimed : (a : Addition) → In a (n.lost ++ []) → one (claims_it e pn a) ≡ 0
            unclaimed a i = ⊎_elim (λ j. ap (λ (b : Bool). one (b && ((a.met == e) && (a.pn == pn)))) (n.stays.lost_nothing a j).0) (λ j. absurd j) (in_append a n.lost [] i)

    won : (r : Result Claim NoClaim) → (current c).present ≡ true → MatchResult r (IsNextClaim c d) (λ _. ⊥) → IsClaimed l c r (λ m. Tells m d)
    won (Ok x) is n = tells-claim x n is
    won (Err e) is n = absurd n

    -- by the answer
    pub tells-claimed : (r : Result Claim NoClaim) → ((current c).present ≡ true → next_told c < 2 ^ 32 → MatchResult r (IsNextClaim c d) (λ _. ⊥))
        → ((current c).present ≡ false → r ≡ Err (NoKey (current c).epoch)) → Did (new_seat c) v r → next_now l ≤ last_number → IsClaimed l c r (λ m. Tells m d)
    tells-claimed r next none did low = by (current c).present refl
      where
        by : (b : Bool) → (current c).present ≡ b → IsClaimed l c r (λ m. Tells m d)
        by true is = won r is (next is (let z : next_now l ≡ l.nexts (current c).epoch = next-is is in let y = t.next is in omega arith))
          where
            next-is : (current c).present ≡ true → next_now l ≡ l.nexts (current c).epoch
            next-is present = ap (λ (q : Current). cond q.present (l.nexts q.epoch) 0) (sym now-told) ∙ ap (λ (b : Bool). cond b (l.nexts (current c).epoch) 0) present
        by false is = subst (λ (q : Result Claim NoClaim). IsClaimed l c q (λ m. Tells m d)) (sym (none is)) (
          ap (λ (q : Current). q.present) (sym now-told) ∙ is,
          ap (λ (q : Current). q.epoch) now-told,
          tells-none is (current c).epoch (subst (Did (new_seat c) v) (none is) did),
        )
