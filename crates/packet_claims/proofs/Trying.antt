-- What a claim has done, step by step.
use Rattle.std.proofs.Common.{◌≡◌, ◌≢◌, ◌⊎◌, ℕ, ◌+◌, ◌<◌, ◌≤◌, Bool, true, false, not, List, [], ◌∷◌, ◌++◌, refl, sym, ap, ◌∙◌, subst, inl, inr, ⊎_elim, arith}
use Rattle.std.proofs.lemmas.Bool.{false≢true, cases_lt}
use Rattle.association_slots.specs.Cards.{Knows}
use Rattle.association_slots.specs.Words.{epoch_of, flag_of}
use Rattle.association_slots.specs.Views.{In, cons_if, greatest, mark, present_at}
use Rattle.association_slots.specs.Steps.{loaded, addition}
use Rattle.association_slots.specs.Told.{Sees, IsAdded, ReadsMore}
use Rattle.association_slots.specs.declared.card.Card.{Card}
use Rattle.association_slots.specs.declared.view.Current.{Current}
use Rattle.association_slots.specs.declared.view.Mark.{Mark}
use Rattle.association_slots.specs.declared.view.Start.{Start}
use Rattle.association_slots.specs.declared.view.Addition.{Addition}
use Rattle.association_slots.specs.declared.view.Added.TheVariants.{Number, Over, Gone}
use Rattle.association_slots.specs.declared.view.SeatView.{SeatView}
use Rattle.association_slots.proofs.Public.{behind_cons_if, at_cons_if, in_cons_if, in_right, is_present}
use Rattle.std.proofs.Common.{Result, Err}
use Rattle.packet_claims.specs.declared.answers.Claim.{Claim}
use Rattle.packet_claims.specs.declared.answers.NoClaim.{NoClaim}
use Rattle.packet_claims.specs.declared.answers.NoClaim.TheVariants.{NoKey, Exhausted}
use Rattle.packet_claims.specs.Claims.{Stays, NotBelow, Above, IsClaim, IsNoKey, IsExhausted}
use Rattle.packet_claims.specs.inside.Tries.{Tries}

greatest_low : (m : Mark) (ms : List Mark) → In m ms → m.epoch ≤ greatest ms
greatest_low m [] i = absurd i
greatest_low m (x ∷ ms) i = ⊎_elim (λ e. let z : x.epoch ≡ m.epoch = ap (λ (y : Mark). y.epoch) e in omega arith) (λ j. let r = greatest_low m ms j in omega arith) i

greatest_in : (ms : List Mark) → 0 < greatest ms → (m : Mark) × In m ms × (m.epoch ≡ greatest ms)
greatest_in [] z = absurd (omega arith)
greatest_in (x ∷ ms) z = ⊎_elim (λ l. let r = greatest_in ms (omega arith) in (r.0, inr r.1, (let e = r.2 in omega arith))) (λ l. (x, inl refl, omega arith)) (cases_lt x.epoch (greatest ms))

-- an epoch above all that were overshot was not
pub not_over : (v : SeatView) (p : Current) → greatest v.over < p.epoch → (m : Mark) → In m (loaded v p).over → m.epoch ≢ (loaded v p).shown.epoch
not_over v p above m i same = let l = greatest_low m v.over i in absurd (omega arith)

cons_true : {A : Type 0} (b : Bool) (x : A) (xs : List A) → b ≡ true → cons_if b x xs ≡ x ∷ xs
cons_true true x xs e = refl
cons_true false x xs e = absurd (false≢true e)

cons_false : {A : Type 0} (b : Bool) (x : A) (xs : List A) → b ≡ false → cons_if b x xs ≡ xs
cons_false true x xs e = absurd (false≢true (sym e))
cons_false false x xs e = refl

pub begins : (v : SeatView) → Tries v v 0
begins v = record {
  lost = [];
  stays = record { number = refl; limit = refl; start = refl; lost_nothing = λ a i. absurd i; gone = refl; loaded = λ q i. i; reads = ([], refl) };
  loads = omega arith;
  additions = refl;
  notes = refl;
  over = refl;
  last = λ z. absurd (omega arith);
}

module _ (v0 v : SeatView) (tried : ℕ) (t : Tries v0 v tried) (p : Current) (sees : Sees v p) where
  not_below : NotBelow v0 p.epoch
  not_below = record {
    loaded = λ q i. sees.later_loaded q (t.stays.loaded q i);
    notes = λ e i. (sees.later_notes e (subst (In e) (sym t.notes) i)).0;
    start = subst (λ (s : Start). s.last ≤ p.epoch) t.stays.start sees.later_start.0;
    given = λ f i. sees.later_given f (subst (λ (s : Start). In f s.given) (sym t.stays.start) i);
  }

  above : p.present ≡ true → Above v0 p.epoch
  above is = record {
    notes = λ e i. (sees.later_notes e (subst (In e) (sym t.notes) i)).1 is;
    start = λ none. subst (λ (s : Start). s.present ≡ false → p.present ≡ true → s.last < p.epoch) t.stays.start sees.later_start.1 none is;
  }

  loaded_it : p.present ≡ true → In (present_at p.an p.epoch) (loaded v p).loaded
  loaded_it is = subst (λ (q : Current). In q (loaded v p).loaded) (is_present p is) (at_cons_if p.present p v.loaded is)

  -- this load is the latest, and none showed a later epoch
  latest : (q : Current) → In q (loaded v p).loaded → q.epoch ≤ p.epoch
  latest q i = ⊎_elim (λ (z : (p.present ≡ true) × (p ≡ q)). let e = ap (λ (r : Current). r.epoch) z.1 in omega arith) (sees.later_loaded q) (in_cons_if p.present p q v.loaded i)

  stays_loaded : Stays v0 (loaded v p) t.lost
  stays_loaded = record {
    number = t.stays.number;
    limit = t.stays.limit;
    start = t.stays.start;
    lost_nothing = t.stays.lost_nothing;
    gone = t.stays.gone;
    loaded = λ q i. behind_cons_if p.present p q v.loaded (t.stays.loaded q i);
    reads = t.stays.reads;
  }

  more_loads : v0.loads < (loaded v p).loads
  more_loads = let s = t.loads in omega (arith, s)

  no_note : p.present ≡ true → (loaded v p).notes ≡ v0.notes
  no_note is = cons_false (not p.present) p.epoch v.notes (ap not is) ∙ t.notes

  pub no_key : p.present ≡ false → IsNoKey v0 (loaded v p) p.epoch
  no_key is = record {
    lost = t.lost;
    stays = stays_loaded;
    loads = more_loads;
    additions = t.additions;
    notes = cons_true (not p.present) p.epoch v.notes (ap not is) ∙ ap (λ (ns : List ℕ). p.epoch ∷ ns) t.notes;
    over = t.over;
    absent = (is, refl);
    not_below = not_below;
    latest = latest;
  }

  pub was_over : p.present ≡ true → p.epoch ≤ greatest v.over → IsExhausted v0 (loaded v p) p.epoch
  was_over is low = let s = sees.small.1 is in let g = greatest_in v.over (omega arith) in let l = sees.later_over g.0 g.1 in record {
    lost = t.lost;
    stays = stays_loaded;
    loads = more_loads;
    additions = inl t.additions;
    notes = no_note is;
    over = (g.0, g.1, l.0 ∙ t.stays.number, (let e = g.2 in let h = l.1 is in omega arith));
    marks = λ m i. subst (In m) (sym t.over) i;
    not_below = not_below;
    above = above is;
    shown = (is, refl);
    loaded = (p.an, loaded_it is);
    latest = latest;
  }

  pub fills : p.present ≡ true → (w : SeatView) → IsAdded (loaded v p) Over w → IsExhausted v0 w p.epoch
  fills is w a = subst (λ (z : SeatView). IsExhausted v0 z p.epoch) (sym a.1) (record {
    lost = t.lost;
    loads = more_loads;
    stays = record { number = stays_loaded.number; limit = stays_loaded.limit; start = stays_loaded.start; lost_nothing = stays_loaded.lost_nothing; gone = stays_loaded.gone; loaded = stays_loaded.loaded; reads = stays_loaded.reads };
    additions = inr ((λ i. the_addition (t.stays.number i) (a.2.0 i)) ∙ ap (λ (xs : List Addition). the_lost ∷ xs) t.additions);
    notes = no_note is;
    over = (mark (loaded v p), inl refl, t.stays.number, refl);
    marks = λ m i. inr (subst (In m) (sym t.over) i);
    not_below = not_below;
    above = above is;
    shown = (is, refl);
    loaded = (p.an, loaded_it is);
    latest = latest;
  })
    where
      the_lost : Addition
      the_lost = record { seat = v0.number; an = p.an; met = p.epoch; loaded = p.epoch; claimed = false; pn = 0 }

      the_addition : ℕ → ℕ → List Addition
      the_addition q e = let x : Addition = record { seat = q; an = p.an; met = e; loaded = p.epoch; claimed = false; pn = 0 } in x ∷ v.additions

  -- each new start finds a greater epoch
  pub further : p.present ≡ true → tried < p.epoch
  further is = ⊎_elim
      (λ z. let l = t.last z in let later = sees.later in let e = l.0 in let m = l.2 in
      let apart : m.0.epoch ≢ p.epoch = sees.not_gone is m.0 m.1 in ⊎_elim (λ b. b) (λ b. absurd (apart (let q = m.2 in omega arith))) (cases_lt tried p.epoch))
      (λ z. let s = sees.small.1 is in omega arith) (cases_lt 0 tried)

  pub goes_on : p.present ≡ true → (w : SeatView) → IsAdded (loaded v p) Gone w → Tries v0 w p.epoch
  goes_on is w a = subst (λ (z : SeatView). Tries v0 z p.epoch) (sym a.1) (record {
    lost = addition (loaded v p) (epoch_of a.0) false 0 ∷ t.lost;
    loads = (let s = more_loads in omega (arith, s));
    stays = record {
      number = t.stays.number;
      limit = t.stays.limit;
      start = t.stays.start;
      lost_nothing = λ b. ⊎_elim (λ e. subst (λ (x : Addition). (x.claimed ≡ false) × (v0.start.last ≤ x.loaded) × (x.loaded ≤ x.met)) e (refl, not_below.start, ⊎_elim (λ less. omega arith) (λ (z : (epoch_of a.0 ≡ p.epoch) × (flag_of a.0 ≡ true)). let e' = z.0 in omega arith) a.2)) (t.stays.lost_nothing b);
      gone = ap (λ (ms : List Mark). mark (loaded v p) ∷ ms) t.stays.gone;
      loaded = stays_loaded.loaded;
      reads = t.stays.reads;
    };
    additions = ap (λ (xs : List Addition). addition (loaded v p) (epoch_of a.0) false 0 ∷ xs) t.additions;
    notes = no_note is;
    over = t.over;
    last = λ _. (refl, sees.small.0, (mark (loaded v p), inl refl, refl));
  })

  pub wins : p.present ≡ true → (u w : SeatView) (n : ℕ) (card : Card) → IsAdded (loaded v p) (Number n) u → ReadsMore u w → Knows w.reads p.epoch card → IsClaim v0 w p.an p.epoch n card
  wins is u w n card a more knows = subst (λ (z : SeatView). Knows z.reads p.epoch card → IsClaim v0 z p.an p.epoch n card) (sym (more.1 ∙ ap (λ (y : SeatView). let z : SeatView = record y { reads = more.0 ++ y.reads } in z) a.1)) (λ k. record {
    lost = t.lost;
    loads = more_loads;
    stays = record {
      number = t.stays.number;
      limit = t.stays.limit;
      start = t.stays.start;
      lost_nothing = t.stays.lost_nothing;
      gone = t.stays.gone;
      loaded = stays_loaded.loaded;
      reads = (more.0 ++ t.stays.reads.0, ap (λ (rs : List (ℕ × ℕ)). more.0 ++ rs) t.stays.reads.1 ∙ sym (Rattle.std.proofs.Common.append_assoc more.0 t.stays.reads.0 v0.reads));
    };
    additions = (λ i. the_addition (t.stays.number i) (a.2.0 i)) ∙ ap (λ (xs : List Addition). the_claim ∷ xs) t.additions;
    notes = no_note is;
    over = t.over;
    not_below = not_below;
    above = above is;
    shown = is_present p is;
    loaded = loaded_it is;
    latest = latest;
    number = (sees.small.1 is, a.2.3);
    first = a.2.5.0;
    rises = λ b i. a.2.5.1 b (subst (In b) (sym t.additions) (in_right b t.lost v0.additions i));
    given = λ f i. a.2.4 f (subst (λ (s : Start). In f s.given) (sym t.stays.start) i);
    knows = k;
  }) knows
    where
      the_claim : Addition
      the_claim = record { seat = v0.number; an = p.an; met = p.epoch; loaded = p.epoch; claimed = true; pn = n }

      the_addition : ℕ → ℕ → List Addition
      the_addition q e = let x : Addition = record { seat = q; an = p.an; met = e; loaded = p.epoch; claimed = true; pn = n } in x ∷ v.additions

abbrev after_in : Result Claim NoClaim → ℕ
after_in (Err (NoKey after)) = after
after_in r = 0

abbrev epoch_in : Result Claim NoClaim → ℕ
epoch_in (Err (Exhausted epoch)) = epoch
epoch_in r = 0

abbrev pub refusal : NoClaim → Result Claim NoClaim
refusal why = Err why

pub same_after : (a b : ℕ) → refusal (NoKey a) ≡ refusal (NoKey b) → a ≡ b
same_after a b same = ap after_in same

pub same_epoch : (a b : ℕ) → refusal (Exhausted a) ≡ refusal (Exhausted b) → a ≡ b
same_epoch a b same = ap epoch_in same
