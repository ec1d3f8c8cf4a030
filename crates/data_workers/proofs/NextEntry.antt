-- A log with the entry of one job more.
use Rattle.std.proofs.Common.{◌≡◌, ℕ, ◌+◌, ◌<◌, ◌≤◌, length, arith, Bool, true, false, List, [], ◌∷◌, ◌++◌, Result, Ok, Err, refl, sym, ap, ◌∙◌, subst, inl, inr, ⊎_elim}
use Rattle.std.proofs.lemmas.Bool.{false≢true}
use Rattle.std.proofs.lemmas.List.{length-append}
use Rattle.std.specs.List.{AllByRecursion}
use Rattle.association_slots.specs.Views.{In, cons_if, claims}
use Rattle.association_slots.specs.declared.view.Addition.{Addition}
use Rattle.association_slots.specs.declared.view.NextSeen.{NextSeen}
use Rattle.association_slots.specs.declared.view.Start.{Start}
use Rattle.association_slots.specs.declared.view.SeatView.{SeatView}
use Rattle.packet_claims.specs.declared.answers.Claim.{Claim}
use Rattle.packet_claims.specs.declared.answers.NoClaim.{NoClaim}
use Rattle.packet_claims.specs.declared.answers.NoClaim.TheVariants.{NoKey, Exhausted}
use Rattle.packet_claims.specs.Claims.{Stays, NotBelow, IsClaim, IsNoKey, IsExhausted, Did}
use Rattle.data_workers.specs.declared.entry.Entry.{Entry}
use Rattle.data_workers.specs.declared.entry.Entry.TheVariants.{Taken, Refused}
use Rattle.data_workers.specs.declared.sender.Sender.{Sender}
use Rattle.data_workers.specs.Entries.{taken_by, entry_of, epoch_in}
use Rattle.data_workers.specs.Logs.{claim_of, claims_after, notes_after, IsProtectedBy, IsEntry, Precedes, InOrder, IsLog}
use Rattle.data_workers.proofs.Growing.{Grows, claim_grows, no_key_grows, exhausted_grows, entry_on}

-- Of lists

module _ {A : Type 0} where
  pub all_from : (P Q : A → Type 0) → ((x : A) → P x → Q x) → (xs : List A) → AllByRecursion P xs → AllByRecursion Q xs
  all_from P Q f [] a = tt
  all_from P Q f (x ∷ xs) a = (f x a.0, all_from P Q f xs a.1)

  -- one more at the end
  all_more : (P : A → Type 0) (xs : List A) (y : A) → AllByRecursion P xs → P y → AllByRecursion P (xs ++ y ∷ [])
  all_more P [] y a p = (p, tt)
  all_more P (x ∷ xs) y a p = (a.0, all_more P xs y a.1 p)

order_more : (xs : List Entry) (y : Entry) → InOrder xs → AllByRecursion (λ x. Precedes x y) xs → InOrder (xs ++ y ∷ [])
order_more [] y o a = (tt, tt)
order_more (x ∷ xs) y o a = (all_more (Precedes x) xs y o.0 a.0, order_more xs y o.1 a.1)

-- Of claims and notes

claims_more : (n : ℕ) (xs ys : List Entry) (before : List Addition) → claims_after n (xs ++ ys) before ≡ claims_after n ys (claims_after n xs before)
claims_more n [] ys before = refl
claims_more n (Taken p ∷ xs) ys before = claims_more n xs ys (claim_of n p ∷ before)
claims_more n (Refused station why ∷ xs) ys before = claims_more n xs ys before

notes_more : (xs ys : List Entry) (before : List ℕ) → notes_after (xs ++ ys) before ≡ notes_after ys (notes_after xs before)
notes_more [] ys before = refl
notes_more (Taken p ∷ xs) ys before = notes_more xs ys before
notes_more (Refused station (NoKey after) ∷ xs) ys before = notes_more xs ys (after ∷ before)
notes_more (Refused station (Exhausted epoch) ∷ xs) ys before = notes_more xs ys before

left_out : {A : Type 0} (b : Bool) (x : A) (xs : List A) → b ≡ false → cons_if b x xs ≡ xs
left_out true x xs e = absurd (false≢true (sym e))
left_out false x xs e = refl

-- additions that claimed nothing are no claims
no_claims : (xs ys : List Addition) → ((a : Addition) → In a xs → a.claimed ≡ false) → claims (xs ++ ys) ≡ claims ys
no_claims [] ys none = refl
no_claims (a ∷ xs) ys none = left_out a.claimed a (claims (xs ++ ys)) (none a (inl refl)) ∙ no_claims xs ys (λ b i. none b (inr i))

lost_claims : (v w : SeatView) (lost : List Addition) → Stays v w lost → claims (lost ++ v.additions) ≡ claims v.additions
lost_claims v w lost s = no_claims lost v.additions (λ a i. (s.lost_nothing a i).0)

exhausted_claims : (v w : SeatView) (epoch : ℕ) → IsExhausted v w epoch → claims w.additions ≡ claims v.additions
exhausted_claims v w epoch k = let none = lost_claims v w k.lost k.stays in ⊎_elim (λ is. ap claims is ∙ none) (λ is. ap claims is ∙ none) k.additions

-- The new entry, and that it follows the others

module _ (s : Sender) (v w : SeatView) where
  after_claim : (k : Claim) → IsClaim v w k.an k.epoch k.pn k.card → (x : Entry) → IsEntry v s x → Precedes x (Taken (taken_by s k))
  after_claim k c (Taken p) t = (c.not_below.loaded _ t.loaded.1, λ same. c.rises (claim_of v.number p) t.claim refl (sym same))
  after_claim k c (Refused station (NoKey after)) t = (c.not_below.notes after t.1.0, c.above.notes after t.1.0)
  after_claim k c (Refused station (Exhausted epoch)) t = (c.not_below.loaded _ t.1.1.1, tt)

  after_refusal : (why : NoClaim) → NotBelow v (epoch_in why) → (x : Entry) → IsEntry v s x → Precedes x (Refused s.station why)
  after_refusal why n (Taken p) t = (n.loaded _ t.loaded.1, tt)
  after_refusal why n (Refused station (NoKey after)) t = (n.notes after t.1.0, tt)
  after_refusal why n (Refused station (Exhausted epoch)) t = (n.loaded _ t.1.1.1, tt)

  is_taken : (k : Claim) → IsClaim v w k.an k.epoch k.pn k.card → IsProtectedBy w s (taken_by s k)
  is_taken k c = let p = taken_by s k in record {
    of_station = refl;
    claim = subst (λ (n : ℕ). In (claim_of n p) w.additions) (sym c.stays.number) (subst (In (claim_of v.number p)) (sym c.additions) (inl refl));
    range = (c.first, c.number.1);
    loaded = (c.number.0, c.loaded);
    card = k.card;
    knows = c.knows;
    octets = refl;
    start = subst (λ (b : Start). (b.last ≤ p.epoch) × (b.present ≡ false → b.last < p.epoch)) (sym c.stays.start) (c.not_below.start, c.above.start);
    given = subst (λ (b : Start). (f : NextSeen) → In f b.given → (f.epoch ≤ p.epoch) × (f.an ≡ p.an → f.epoch ≡ p.epoch → f.next ≤ p.pn)) (sym c.stays.start) (λ f i. (c.not_below.given f i, c.given f i));
  }

-- The log u to v, and one job more, v to w

module _ (s : Sender) (u v w : SeatView) (log : List Entry) (l : IsLog u v s log) where
  more_loads : (y : Entry) → v.loads < w.loads → u.loads + length (log ++ y ∷ []) ≤ w.loads
  more_loads y more = let before = l.loads in let one = length-append log (y ∷ []) in omega (arith, more, before, one)

  entries_more : (y : Entry) → Grows v w → IsEntry w s y → AllByRecursion (IsEntry w s) (log ++ y ∷ [])
  entries_more y g e = all_more (IsEntry w s) log y (all_from (IsEntry v s) (IsEntry w s) (entry_on s v w g) log l.entries) e

  in_order_more : (y : Entry) → ((x : Entry) → IsEntry v s x → Precedes x y) → InOrder (log ++ y ∷ [])
  in_order_more y each = order_more log y l.in_order (all_from (IsEntry v s) (λ x. Precedes x y) each log l.entries)

  -- an entry that is no claim leaves the claims, one that is no note the notes
  same_claims : (y : Entry) → ((before : List Addition) → claims_after u.number (y ∷ []) before ≡ before) → claims w.additions ≡ claims v.additions → claims w.additions ≡ claims_after u.number (log ++ y ∷ []) (claims u.additions)
  same_claims y none is = is ∙ (l.claims_are ∙ (sym (none (claims_after u.number log (claims u.additions))) ∙ sym (claims_more u.number log (y ∷ []) (claims u.additions))))

  same_notes : (y : Entry) → ((before : List ℕ) → notes_after (y ∷ []) before ≡ before) → w.notes ≡ v.notes → w.notes ≡ notes_after (log ++ y ∷ []) u.notes
  same_notes y none is = is ∙ (l.notes_are ∙ (sym (none (notes_after log u.notes)) ∙ sym (notes_more log (y ∷ []) u.notes)))

  claimed : (k : Claim) → IsClaim v w k.an k.epoch k.pn k.card → IsLog u w s (log ++ Taken (taken_by s k) ∷ [])
  claimed k c = let p = taken_by s k in let y = Taken p in record {
    number = c.stays.number ∙ l.number;
    start = c.stays.start ∙ l.start;
    loads = more_loads y c.loads;
    claims_are = ap claims c.additions ∙ (ap (λ (xs : List Addition). claim_of v.number p ∷ xs) (lost_claims v w c.lost c.stays)
        ∙ ((λ i. claim_of (l.number i) p ∷ l.claims_are i) ∙ sym (claims_more u.number log (y ∷ []) (claims u.additions))));
    notes_are = same_notes y (λ before. refl) c.notes;
    entries = entries_more y (claim_grows v w k.an k.epoch k.pn k.card c) (is_taken s v w k c);
    in_order = in_order_more y (after_claim s v w k c);
  }

  noted : (after : ℕ) → IsNoKey v w after → IsLog u w s (log ++ Refused s.station (NoKey after) ∷ [])
  noted after c = let y = Refused s.station (NoKey after) in record {
    number = c.stays.number ∙ l.number;
    start = c.stays.start ∙ l.start;
    loads = more_loads y c.loads;
    claims_are = same_claims y (λ before. refl) (ap claims c.additions ∙ lost_claims v w c.lost c.stays);
    notes_are = c.notes ∙ (ap (λ (xs : List ℕ). after ∷ xs) l.notes_are ∙ sym (notes_more log (y ∷ []) u.notes));
    entries = entries_more y (no_key_grows v w after c) (refl, (subst (In after) (sym c.notes) (inl refl), subst (λ (b : Start). b.last ≤ after) (sym c.stays.start) c.not_below.start));
    in_order = in_order_more y (after_refusal s v w (NoKey after) c.not_below);
  }

  exhausted : (epoch : ℕ) → IsExhausted v w epoch → IsLog u w s (log ++ Refused s.station (Exhausted epoch) ∷ [])
  exhausted epoch c = let y = Refused s.station (Exhausted epoch) in record {
    number = c.stays.number ∙ l.number;
    start = c.stays.start ∙ l.start;
    loads = more_loads y c.loads;
    claims_are = same_claims y (λ before. refl) (exhausted_claims v w epoch c);
    notes_are = same_notes y (λ before. refl) c.notes;
    entries = entries_more y (exhausted_grows v w epoch c) (refl, ((c.over.0, c.over.1, c.over.2 ∙ sym c.stays.number, c.over.3), c.loaded, subst (λ (b : Start). b.last ≤ epoch) (sym c.stays.start) c.not_below.start));
    in_order = in_order_more y (after_refusal s v w (Exhausted epoch) c.not_below);
  }

  -- the log after one job more
  pub next_entry : (r : Result Claim NoClaim) → Did v w r → IsLog u w s (log ++ entry_of s r ∷ [])
  next_entry (Ok k) d = claimed k d
  next_entry (Err (NoKey after)) d = noted after d
  next_entry (Err (Exhausted epoch)) d = exhausted epoch d
