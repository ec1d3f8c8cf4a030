-- A log whose seat was told.
use Rattle.std.proofs.Common.{◌≡◌, ℕ, ◌+◌, ◌≤◌, Bool, true, false, List, [], ◌∷◌, ◌++◌, refl, sym, ap, subst, arith}
use Rattle.std.specs.List.{AllByRecursion}
use Rattle.association_slots.specs.Cards.{Knows}
use Rattle.association_slots.specs.Learned.{Learned}
use Rattle.association_slots.specs.Steps.{told}
use Rattle.association_slots.specs.Views.{In, cons_if, claims, claimed, count, present_at}
use Rattle.association_slots.specs.declared.card.Card.{Card}
use Rattle.association_slots.specs.declared.view.Addition.{Addition}
use Rattle.association_slots.specs.declared.view.ControlView.{ControlView}
use Rattle.association_slots.specs.declared.view.SeatView.{SeatView}
use Rattle.association_slots.proofs.Public.{in_left}
use Rattle.lan_base.specs.declared.frame.Protected.{Protected}
use Rattle.packet_claims.specs.declared.answers.NoClaim.TheVariants.{NoKey, Exhausted}
use Rattle.data_workers.specs.declared.entry.Entry.{Entry}
use Rattle.data_workers.specs.declared.entry.Entry.TheVariants.{Taken, Refused}
use Rattle.data_workers.specs.declared.sender.Sender.{Sender}
use Rattle.data_workers.specs.Entries.{frame_under}
use Rattle.data_workers.specs.Logs.{claim_of, claims_after, IsProtectedBy, IsEntry, IsLog}
use Rattle.data_workers.specs.Told.{IsToldFrame, IsToldEntry, times_taken}
use Rattle.data_workers.proofs.NextEntry.{all_from}

module _ (s : Sender) (w : SeatView) (c : ControlView) (learned : Learned (told c w)) where
  knows_told : (epoch : ℕ) (card : Card) → Knows w.reads epoch card → Knows (told c w).told_reads epoch card
  knows_told epoch card k = let more = λ (r : ℕ × ℕ) (i : In r w.reads). in_left r w.reads c.told_reads i in (k.0, k.1, k.2, k.3, k.4, more _ k.5, more _ k.6, more _ k.7, more _ k.8, more _ k.9, k.10)

  told_frame : (p : Protected) → IsProtectedBy w s p → IsToldFrame (told c w) s p
  told_frame p t = let a = claim_of w.number p in let x = learned.additions a (in_left a w.additions c.told t.claim) in let z = x.claim refl in record {
    of_station = t.of_station;
    pointed = x.pointed;
    range = (z.1, z.2);
    octets = subst (λ (card : Card). p.octets ≡ frame_under s card p.an p.pn) (sym (learned.cards p.epoch t.card t.loaded.0 (knows_told p.epoch t.card t.knows))) t.octets;
  }

  told_entry : (x : Entry) → IsEntry w s x → IsToldEntry (told c w) s x
  told_entry (Taken p) t = told_frame p t
  told_entry (Refused station (NoKey after)) t = (t.0, learned.noted after (in_left after w.notes c.told_notes t.1.0))
  told_entry (Refused station (Exhausted epoch)) t =
      let m = t.1.0.0 in let told_it = in_left m w.over c.told_over t.1.0.1 in
      (t.0, (m, told_it, t.1.0.3, subst (λ (e : ℕ). In (present_at m.an e) c.points) t.1.0.3 (learned.over m told_it)))

  pub told_log : (v : SeatView) (log : List Entry) → IsLog v w s log → AllByRecursion (IsToldEntry (told c w) s) log
  told_log v log l = all_from (IsEntry w s) (IsToldEntry (told c w) s) told_entry log l.entries

-- what is counted of claims alone
claims_counted : (epoch pn : ℕ) (xs : List Addition) → count (claimed epoch pn) xs ≡ count (claimed epoch pn) (claims xs)
claims_counted epoch pn [] = refl
claims_counted epoch pn (a ∷ xs) = let r = claims_counted epoch pn xs in by_case a.claimed refl r
  where
    by_case : (b : Bool) → a.claimed ≡ b → count (claimed epoch pn) xs ≡ count (claimed epoch pn) (claims xs) → count (claimed epoch pn) (a ∷ xs) ≡ count (claimed epoch pn) (cons_if a.claimed a (claims xs))
    by_case true is r = rw is (omega (arith, r))
    by_case false is r = rw is (omega (arith, r))

log_counted : (epoch pn number : ℕ) (log : List Entry) (before : List Addition) → count (claimed epoch pn) (claims_after number log before) ≡ times_taken epoch pn log + count (claimed epoch pn) before
log_counted epoch pn number [] before = omega arith
log_counted epoch pn number (Taken p ∷ log) before = let r = log_counted epoch pn number log (claim_of number p ∷ before) in omega (arith, r)
log_counted epoch pn number (Refused station why ∷ log) before = log_counted epoch pn number log before

pub log_counts : (v w : SeatView) (s : Sender) (log : List Entry) → IsLog v w s log → (epoch pn : ℕ) → count (claimed epoch pn) w.additions ≡ times_taken epoch pn log + count (claimed epoch pn) v.additions
log_counts v w s log l epoch pn =
    let a = claims_counted epoch pn w.additions in let b = ap (count (claimed epoch pn)) l.claims_are in let k = log_counted epoch pn v.number log (claims v.additions) in let e = claims_counted epoch pn v.additions in omega (arith, a, b, k, e)

count_both : (p : Addition → Bool) (xs ys : List Addition) → count p (xs ++ ys) ≡ count p xs + count p ys
count_both p [] ys = omega arith
count_both p (x ∷ xs) ys = let r = count_both p xs ys in omega (arith, r)

pub told_once : (v w : SeatView) (s : Sender) (log : List Entry) → IsLog v w s log → (c : ControlView) → Learned (told c w) → (epoch pn : ℕ) → times_taken epoch pn log + (count (claimed epoch pn) v.additions + count (claimed epoch pn) c.told) ≤ 1
told_once v w s log l c learned epoch pn =
    let most = learned.differ epoch pn in let both = count_both (claimed epoch pn) w.additions c.told in let own = log_counts v w s log l epoch pn in omega (arith, most, both, own)
