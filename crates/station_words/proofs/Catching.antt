-- The words have caught up with the account: how far they are ahead, and call by call.
use Rattle.std.proofs.Common.{◌≡◌, ◌⊎◌, ℕ, ◌+◌, ◌-◌, ◌^◌, ◌<◌, ◌≤◌, ◌==◌, Bool, true, false, not, ◌&&◌}
use Rattle.std.proofs.Common.{List, [], ◌∷◌, ◌++◌, map, length, filter, Result, Ok, Err, refl, sym, ap, ◌∙◌, subst}
use Rattle.std.proofs.Common.{inl, inr, ⊎_elim, arith, get_or}
use Rattle.std.proofs.lemmas.Bool.{eqb-true, lt-ltb}
use Rattle.std.specs.List.{range_with_len}
use Rattle.sak_exchange.proofs.Public.{by_test}
use Rattle.lan_base.specs.declared.association_number.AssociationNumber.{AssociationNumber}
use Rattle.lan_base.specs.AssociationNumbers.{same_an}
use Rattle.association_slots.specs.Views.{In, slot, current, present_at, AllIn, IsOpen, WasShut, one, met, lost}
use Rattle.association_slots.specs.Views.{weigh, count, claimed, told_sum}
use Rattle.association_slots.specs.Steps.{looked as looked_at, seated, new_seat, told}
use Rattle.association_slots.specs.Learned.{Learned}
use Rattle.association_slots.specs.declared.view.Addition.{Addition}
use Rattle.association_slots.specs.declared.view.Current.{Current}
use Rattle.association_slots.specs.declared.view.Mark.{Mark}
use Rattle.association_slots.specs.declared.view.NextSeen.{NextSeen}
use Rattle.association_slots.specs.declared.view.ControlView.{ControlView}
use Rattle.association_slots.specs.declared.view.SeatView.{SeatView}
use Rattle.association_slots.proofs.Public.{in_append, once, weigh-append, weigh_none}
use Rattle.packet_claims.specs.Claims.{Did, Stays}
use Rattle.packet_claims.specs.declared.answers.Claim.{Claim}
use Rattle.packet_claims.specs.declared.answers.NoClaim.{NoClaim}
use Rattle.packet_claims.specs.declared.answers.NoClaim.TheVariants.{NoKey, Exhausted}
use Rattle.group_safety.specs.Transmitting.{Carried, now, names}
use Rattle.group_safety.specs.Accounts.{Account, next_now, showing, gaining}
use Rattle.station_words.specs.Counting.{times_in, times_under, past_claims, greatest_seen}
use Rattle.station_words.specs.Telling.{KeepUp, Tells, CatchUp, HasClaimsBeside, HasGained, OfSeats, of_seats}
use Rattle.station_words.specs.Telling.{word_of, least_under}
use Rattle.station_words.specs.inside.Kept.{IsKept}
use Rattle.station_words.proofs.KeepingUp.{next-present}
use Rattle.station_words.proofs.Counts.{times-in-range, past-above, past-below, past-some, unused-few}
use Rattle.station_words.proofs.Counts.{seen-below, seen-some, counted, count-one, claimed-is, is-claimed, above-in}
use Rattle.station_words.proofs.Counts.{claim_of, met-parts, claims-in-range, range-few}

both-true : (a b : Bool) → (a && b) ≡ true → (a ≡ true) × (b ≡ true)
both-true true b e = (refl, e)
both-true false b e = absurd (cc e)

-- ---- what control knows of an epoch that was raised, with no seat out

-- its claims and what control saw are no more than the sum of what was told, which is above all
-- packet numbers where a seat marked the epoch as over
record IsSummed (c : ControlView) (an : AssociationNumber) (e : ℕ) : Type 0 where
  pub claims : (a : Addition) → In a c.told → a.claimed ≡ true → a.an ≡ an → a.met ≡ e → a.pn < told_sum c an e
  pub loads : (f : NextSeen) → In f c.loads → f.an ≡ an → f.epoch ≡ e → f.next ≤ told_sum c an e
  pub over : (m : Mark) → In m c.told_over → m.an ≡ an → m.epoch ≡ e → 2 ^ 32 < told_sum c an e

summed : (c : ControlView) (an : AssociationNumber) (e : ℕ) → Learned c → AllIn c → In (an, e) c.raises → IsSummed c an e
summed c an e known all_in raised = ⊎_elim
    (λ (here : (slot c an).epoch ≡ e). by_test (slot c an).shut
    (λ shut. shut-sum (subst (WasShut c an) here (known.settled.slot_shut an (let z = (known.settled.raised_once (an, e) raised).0 in omega (arith, here)) shut)))
    (λ opened. let o = known.open_next an e (opened, here) in let sum = o.1.is_sum all_in in record {
      claims = λ a i got an_is met_is. let z = o.1.above_claims a i got an_is met_is in omega (arith, sum);
      loads = λ f i an_is epoch_is. let z = o.1.above_loads f i an_is epoch_is in omega (arith, sum);
      over = λ m i an_is epoch_is. let z = o.1.above_over m i an_is epoch_is in omega (arith, sum);
    }))
    shut-sum
    (known.settled.raised_once (an, e) raised).2
  where
    shut-sum : WasShut c an e → IsSummed c an e
    shut-sum was =
        let w = known.shut_next was.0 was.1 in
        let low : was.0.next ≤ told_sum c an e = subst (λ (i : AssociationNumber). was.0.next ≤ told_sum c i e) was.2 (subst (λ (n : ℕ). was.0.next ≤ told_sum c was.0.an n) was.3 (w.low all_in).0) in record {
          claims = λ a i got an_is met_is. let z = w.above_claims a i got (an_is ∙ sym was.2) (met_is ∙ sym was.3) in omega (arith, low);
          loads = λ f i an_is epoch_is. let z = w.above_loads f i (an_is ∙ sym was.2) (epoch_is ∙ sym was.3) in omega (arith, low);
          over = λ m i an_is epoch_is. let z = w.above_over m i (an_is ∙ sym was.2) (epoch_is ∙ sym was.3) in omega (arith, low);
        }

module _ (l : Account) (c : ControlView) (t : CatchUp l c) where
  abbrev known : Learned c
  known = t.keep_up.learned

  -- a claim of the account was told
  told-one : (e pn : ℕ) → 1 ≤ times_in e pn l.claims → (a : Addition) × In a c.told × (a.claimed ≡ true) × (a.met ≡ e) × (a.pn ≡ pn)
  told-one e pn some =
      let same = t.claims e pn in
      let a = counted (claimed e pn) c.told (omega arith) in
      let is = claimed-is e pn a.0 a.2 in (a.0, a.1, is.0, is.1, is.2)

  -- the account's next number is not above the sum
  nexts-low : (an : AssociationNumber) (e : ℕ) → In (an, e) c.raises → l.nexts e ≤ told_sum c an e
  nexts-low an e raised =
      let is = summed c an e known t.all_in raised in
      let z = t.keep_up.seen e in
      let first = t.keep_up.first in
      let one_claim = past-below e (told_sum c an e) l.claims (λ pn some. let a = told-one e pn some in
      let low = is.claims a.0 a.1 a.2 (once c.raises known.settled.rise (a.0.an, a.0.met) (an, e) (known.additions a.0 a.1).raised raised a.3) a.3 in let number = a.4 in omega arith) in
      let one_load = seen-below e (told_sum c an e) c.loads (λ f i epoch_is. is.loads f i (once c.raises known.settled.rise (f.an, f.epoch) (an, e) (known.loads f i) raised epoch_is) epoch_is) in
      omega arith

  pub not-behind : (an : AssociationNumber) (e : ℕ) → IsOpen c an e → l.nexts e ≤ told_sum c an e
  not-behind an e opened = nexts-low an e (subst (λ (n : ℕ). In (an, n) c.raises) opened.1 (known.settled.slot_raised an (known.settled.open_some an opened.0)))

  some-next : (e : ℕ) → 1 ≤ l.nexts e
  some-next e = let z = t.keep_up.seen e in omega arith

  -- claims that met an epoch on a slot are below the account's next number
  within : (an : AssociationNumber) (e : ℕ) (a : Addition) → In a c.told → claim_of (met an e) a ≡ true → (a.claimed ≡ true) × (a.met ≡ e) × (1 ≤ a.pn) × (a.pn < 1 + (l.nexts e - 1))
  within an e a i is =
      let both = both-true (met an e a) a.claimed is in
      let epoch_is = eqb-true a.met e (both-true (same_an a.an an) (a.met == e) both.0).1 in
      let first = t.keep_up.first in
      let number = ((known.additions a i).claim both.1).1 in
      let told = count-one (claimed e a.pn) a c.told i (is-claimed e a both.1 epoch_is) in
      let same = t.claims e a.pn in
      let above = past-above e a.pn l.claims (omega arith) in
      let z = t.keep_up.seen e in (both.1, epoch_is, omega arith, omega arith)

  in-numbers : (an : AssociationNumber) (e : ℕ) → count (claim_of (met an e)) c.told ≤ weigh (λ m. count (claimed e m) c.told) (range_with_len 1 (l.nexts e - 1))
  in-numbers an e = claims-in-range e 1 (l.nexts e - 1) (claim_of (met an e)) c.told (within an e)

  in-claims : (an : AssociationNumber) (e : ℕ) → count (claim_of (met an e)) c.told ≤ weigh (λ m. times_in e m l.claims) (range_with_len 1 (l.nexts e - 1))
  in-claims an e = subst (λ (h : ℕ → ℕ). count (claim_of (met an e)) c.told ≤ weigh h (range_with_len 1 (l.nexts e - 1))) (λ i m. t.claims e m i) (in-numbers an e)

  pub little-ahead : (an : AssociationNumber) (e : ℕ) → count (lost an e) c.told ≤ 16 → told_sum c an e ≤ l.nexts e + 16
  little-ahead an e few =
      let parts : count (met an e) c.told ≡ count (claim_of (met an e)) c.told + count (lost an e) c.told = met-parts (met an e) c.told in
      let first = t.keep_up.first in
      let low = in-numbers an e in
      let high = range-few e (l.nexts e - 1) c.told (known.differ e) in
      let some = some-next e in omega arith

  -- few claims leave a number
  pub left-over : (an : AssociationNumber) (e : ℕ) → count (lost an e) c.told ≤ 16 → told_sum c an e ≤ times_under e l.claims + 17
  left-over an e few =
      let parts : count (met an e) c.told ≡ count (claim_of (met an e)) c.told + count (lost an e) c.told = met-parts (met an e) c.told in
      let first = t.keep_up.first in
      let low = in-claims an e in
      let high = times-in-range e l.claims 1 (l.nexts e - 1) in omega arith

  -- an epoch that was marked as over has no number left
  pub marked-over : (m : Mark) → In m c.told_over → 2 ^ 32 < told_sum c m.an m.epoch
  marked-over m i =
      let raised = (known.settled.points_low (present_at m.an m.epoch) (known.over m i)).1 refl in
      (summed c m.an m.epoch known t.all_in raised).over m i refl refl

  -- an epoch of which a next number is above the first one was raised
  reached : (e : ℕ) → (l.nexts e ≡ 1) ⊎ ((an : AssociationNumber) × In (an, e) c.raises)
  reached e = ⊎_elim
      (λ (none : past_claims e l.claims ≡ 0). ⊎_elim
      (λ (none_seen : greatest_seen e c.loads ≡ 0). let z = t.keep_up.seen e in inl (omega (arith, none, none_seen)))
      (λ (f : (g : NextSeen) × In g c.loads × (g.epoch ≡ e)). inr (f.0.an, subst (λ (n : ℕ). In (f.0.an, n) c.raises) f.2 (known.loads f.0 f.1)))
      (seen-some e c.loads))
      (λ (some : (pn : ℕ) × (1 ≤ times_in e pn l.claims)). let a = told-one e some.0 some.1 in
      inr (a.0.an, subst (λ (n : ℕ). In (a.0.an, n) c.raises) a.3 (known.additions a.0 a.1).raised))
      (past-some e l.claims)

  -- few numbers below the next one were claimed by nobody
  pub few-unused : (e : ℕ) (unused : ℕ → Bool) → ((m : ℕ) → 1 ≤ times_in e m l.claims → unused m ≡ false) → ((an : AssociationNumber) → count (lost an e) c.told ≤ 16)
      → length (filter unused (range_with_len 1 (l.nexts e - 1))) ≤ 16
  few-unused e unused none few =
      let sum = unused-few unused (λ m. times_in e m l.claims) (l.nexts e - 1) (λ m. let z = t.claims e m in let y = known.differ e m in omega arith) none in ⊎_elim
      (λ (same : l.nexts e ≡ 1). omega (arith, sum, same))
      (λ (raised : (an : AssociationNumber) × In (an, e) c.raises).
      let parts : count (met raised.0 e) c.told ≡ count (claim_of (met raised.0 e)) c.told + count (lost raised.0 e) c.told = met-parts (met raised.0 e) c.told in
      let first = t.keep_up.first in
      let low = in-claims raised.0 e in
      let some = nexts-low raised.0 e raised.1 in
      let at_most = few raised.0 in omega (arith, sum))
      (reached e)

-- ---- words that tell have caught up

pub tells-caught : (l : Account) (c : ControlView) → Tells l c → CatchUp l c
tells-caught l c t = record { all_in = t.all_in; keep_up = t.keep_up; claims = t.claims }

-- ---- all seats came back

pub caught-beside : (l m : Account) (c : ControlView) → KeepUp l c → AllIn c → HasClaimsBeside l m → ((epoch pn : ℕ) → count (claimed epoch pn) c.told ≡ times_in epoch pn m.claims) → CatchUp m c
caught-beside l m c t all_in beside counts = record {
  all_in = all_in;
  keep_up = record {
    learned = t.learned;
    first = t.first;
    points = subst (λ (q : Carried). c.points ≡ map word_of q.points) (sym beside.carried) t.points;
    slots = subst (λ (q : Carried). (an : AssociationNumber) → (slot c an).shut ≡ not (names (now q) an)) (sym beside.carried) t.slots;
    open_now = t.open_now;
    least = λ is. let z = t.least is in let low = z.0 in let high = z.1 in let n = beside.nexts (current c).epoch in let y = above in (omega arith, omega arith);
    later = λ e lt. let z = t.later e lt in let n = beside.nexts e in let none = past-below e 0 m.claims (λ pn some. let a = told-one e pn some in absurd (none-later e a.0 lt a.1 a.2 a.3)) in omega arith;
    cards = t.cards ∙ sym (ap (λ (q : Carried). q.installs) beside.carried);
    shows = t.shows ∙ sym beside.shows;
    seen = λ e. let z = t.seen e in let n = beside.nexts e in let more = beside.claims e in omega arith;
  };
  claims = counts;
}
  where
    told-one : (e pn : ℕ) → 1 ≤ times_in e pn m.claims → (a : Addition) × In a c.told × (a.claimed ≡ true) × (a.met ≡ e) × (a.pn ≡ pn)
    told-one e pn some =
        let same = counts e pn in
        let a = counted (claimed e pn) c.told (omega arith) in
        let is = claimed-is e pn a.0 a.2 in (a.0, a.1, is.0, is.1, is.2)

    above : past_claims (current c).epoch m.claims ≤ least_under c (current c)
    above = past-below (current c).epoch (least_under c (current c)) m.claims (λ pn some. let a = told-one (current c).epoch pn some in
        let low = above-in (current c).epoch a.0 c.told a.1 a.2 a.3 in let number = a.4 in omega arith)

    -- a claim is of an epoch that was pointed at
    none-later : (e : ℕ) (a : Addition) → (current c).epoch < e → In a c.told → a.claimed ≡ true → a.met ≡ e → ⊥
    none-later e a lt i got same =
        let it = t.learned.additions a i in
        let low = (t.learned.settled.points_low (present_at a.an a.loaded) it.pointed).0 in
        let met_is = (it.claim got).0 in absurd (omega (arith, low, met_is, same, lt))

-- ---- control's moves

-- where no seat came or went and nothing was claimed
pub caught-still : (l m : Account) (c d : ControlView) → CatchUp l c → KeepUp m d → of_seats d ≡ of_seats c → m.claims ≡ l.claims → CatchUp m d
caught-still l m c d t up same claims = record {
  all_in = subst (λ (out : List Bool). (i : ℕ) → get_or out i false ≡ false) (sym (ap (λ (o : OfSeats). o.out) same)) t.all_in;
  keep_up = up;
  claims = λ e pn. ap (λ (o : OfSeats). count (claimed e pn) o.told) same ∙ (t.claims e pn ∙ ap (times_in e pn) (sym claims));
}

-- control looked where a key transmits
pub caught-looked : (c : ControlView) (p : Current) (cards : ℕ) (k : IsKept c p cards) (l : Account) (t : CatchUp l c) (n : ℕ) → p.present ≡ true → IsOpen c p.an p.epoch → n ≡ told_sum c p.an p.epoch
    → KeepUp (showing n l) (looked_at c p.an n) → count (lost p.an p.epoch) c.told ≤ 16 → (n ≤ next_now l + 16) × CatchUp (showing n l) (looked_at c p.an n)
caught-looked c p cards k l t n is opened sum up few = (
  (let ahead = little-ahead l c t p.an p.epoch few in let now_is = next-present c p cards k l t.keep_up is in omega (arith, sum)),
  record { all_in = t.all_in; keep_up = up; claims = t.claims },
)

-- ---- a claim

-- what an answer claims
abbrev claims_by : Result Claim NoClaim → List (ℕ × ℕ)
claims_by (Ok x) = (x.epoch, x.pn) ∷ []
claims_by (Err e) = []

module _ (c : ControlView) (v : SeatView) where
  -- additions that got nothing claim nothing
  none-lost : (e pn : ℕ) (xs : List Addition) → Stays (new_seat c) v xs → count (claimed e pn) (xs ++ []) ≡ 0
  none-lost e pn xs stays = weigh_none (λ a. one (claimed e pn a)) (xs ++ []) (λ a i.
      ⊎_elim (λ j. ap (λ (b : Bool). one (b && ((a.met == e) && (a.pn == pn)))) (stays.lost_nothing a j).0) (λ j. absurd j) (in_append a xs [] i))

  claims-by : (r : Result Claim NoClaim) (e pn : ℕ) → Did (new_seat c) v r → count (claimed e pn) v.additions ≡ times_in e pn (claims_by r)
  claims-by (Ok x) e pn did =
      let none = none-lost e pn did.lost did.stays in
      let all : count (claimed e pn) v.additions ≡ one ((x.epoch == e) && (x.pn == pn)) + count (claimed e pn) (did.lost ++ []) = ap (count (claimed e pn)) did.additions in omega arith
  claims-by (Err (NoKey after)) e pn did = ap (count (claimed e pn)) did.additions ∙ none-lost e pn did.lost did.stays
  claims-by (Err (Exhausted epoch)) e pn did = ⊎_elim
      (λ same. ap (count (claimed e pn)) same ∙ none-lost e pn did.lost did.stays)
      (λ same. let none = none-lost e pn did.lost did.stays in ap (count (claimed e pn)) same ∙ (omega (arith, none)))
      did.additions

  abbrev d : ControlView
  d = told (seated c) v

  pub caught-claimed : (l : Account) → CatchUp l c → (r : Result Claim NoClaim) → AllIn (told (seated c) v) → Did (new_seat c) v r
      → HasGained l c r (λ m. KeepUp m (told (seated c) v)) → HasGained l c r (λ m. CatchUp m (told (seated c) v))
  caught-claimed l t r all_back did gained = by r did gained
    where
      counts : (q : Result Claim NoClaim) → Did (new_seat c) v q → (e pn : ℕ) → count (claimed e pn) d.told ≡ times_in e pn (claims_by q) + times_in e pn l.claims
      counts q is e pn = let w = weigh-append (λ a. one (claimed e pn a)) v.additions c.told in let z = claims-by q e pn is in let y = t.claims e pn in omega arith

      caught : (q : Result Claim NoClaim) → Did (new_seat c) v q → (m : Account) → KeepUp m d → ((e pn : ℕ) → times_in e pn m.claims ≡ times_in e pn (claims_by q) + times_in e pn l.claims) → CatchUp m d
      caught q is m up same = record { all_in = all_back; keep_up = up; claims = λ e pn. counts q is e pn ∙ sym (same e pn) }

      gaining-claims : (n epoch : ℕ) (an : AssociationNumber) → word_of (now l.carried) ≡ present_at an epoch → 1 ≤ n → (gaining n l).claims ≡ (epoch, n) ∷ l.claims
      gaining-claims n epoch an is some =
          let present : (now l.carried).present ≡ true = ap (λ (q : Current). q.present) is in
          let epoch_is : (now l.carried).epoch ≡ epoch = ap (λ (q : Current). q.epoch) is in
          let more = lt-ltb 0 n (omega arith) in rw (present, more) (ap (λ (e : ℕ). (e, n) ∷ l.claims) epoch_is)

      by : (q : Result Claim NoClaim) → Did (new_seat c) v q → HasGained l c q (λ m. KeepUp m d) → HasGained l c q (λ m. CatchUp m d)
      by (Ok x) is g = (
        g.0,
        g.1,
        g.2,
        g.3,
        g.4,
        caught (Ok x) is (gaining x.pn l) g.5
            (λ e pn. ap (times_in e pn) (gaining-claims x.pn x.epoch x.an g.0 g.2) ∙ omega arith),
      )
      by (Err (NoKey after)) is g = (g.0, g.1, caught (Err (NoKey after)) is l g.2 (λ e pn. omega arith))
      by (Err (Exhausted epoch)) is g = (g.0, g.1, caught (Err (Exhausted epoch)) is l g.2 (λ e pn. omega arith))
