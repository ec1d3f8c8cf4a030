-- Claims of one account stand beside another account, event by event.
use Rattle.std.proofs.Common.{◌≡◌, ◌⊎◌, ℕ, ◌+◌, ◌==◌, ◌&&◌, Bool, true, false, cond, max, List, ◌∷◌}
use Rattle.std.proofs.Common.{refl, sym, ap, ◌∙◌, inl, inr, arith, eq-eqb}
use Rattle.std.proofs.lemmas.Bool.{ne_eqb, eqb-true}
use Rattle.std.specs.Prelude.{nat_lt}
use Rattle.sak_exchange.proofs.Public.{by_test}
use Rattle.association_slots.specs.declared.view.ControlView.{ControlView}
use Rattle.lan_core.specs.declared.event.Event.{Event}
use Rattle.lan_core.specs.declared.event.Event.TheVariants as events
use Rattle.group_safety.specs.Transmitting.{Carried, now}
use Rattle.group_safety.specs.Accounts.{Account, showing, gaining, onward, claims_of}
use Rattle.station_words.specs.Counting.{past_claims}
use Rattle.station_words.specs.Telling.{KeepUp, HasClaimsBeside}

pub beside-first : (a : Account) (c : ControlView) → KeepUp a c → HasClaimsBeside a a
beside-first a c t = record {
  carried = refl;
  shows = refl;
  claims = λ e. omega arith;
  nexts = λ e. let z = t.seen e in omega arith;
}

pub beside-moved : (a b : Account) (k : Carried) → HasClaimsBeside a b → HasClaimsBeside (record a { carried = k }) (record b { carried = k })
beside-moved a b k h = record { carried = refl; shows = h.shows; claims = h.claims; nexts = h.nexts }

-- both showed a number
beside-shown : (a b : Account) (n : ℕ) → HasClaimsBeside a b → HasClaimsBeside (showing n a) (showing n b)
beside-shown a b n h = record {
  carried = h.carried;
  shows = ap (λ (ns : List ℕ). cond (nat_lt 0 n) (n ∷ ns) ns) h.shows;
  claims = h.claims;
  nexts = λ e. one-next e (here e b) (here e a) (ap (λ (q : Carried). (now q).present && (e == (now q).epoch)) h.carried);
}
  where
    here : ℕ → Account → Bool
    here e m = (now m.carried).present && (e == (now m.carried).epoch)

    one-next : (e : ℕ) (x y : Bool) → x ≡ y → cond x (max n (b.nexts e)) (b.nexts e) ≡ max (cond y (max n (a.nexts e)) (a.nexts e)) (past_claims e b.claims)
    one-next e true true same = let z = h.nexts e in omega arith
    one-next e false false same = let z = h.nexts e in omega arith
    one-next e true false same = absurd (cc same)
    one-next e false true same = absurd (cc same)

pub beside-event : (a b : Account) (s : ℕ) (event : Event) → claims_of event ≡ 0 → HasClaimsBeside a b → HasClaimsBeside (onward s event a) (onward s event b)
beside-event a b s (events.Start name sci priority) none h = h
beside-event a b s (events.Tick t n) none h = by_test (t == s) (λ y. rw y (beside-shown a b n h)) (λ y. rw y h)
beside-event a b s (events.Deliver frame t) none h = h
beside-event a b s (events.Restart t) none h = h
beside-event a b s (events.Claim t user pn) none h = absurd (cc none)
beside-event a b s events.Emit none h = h
beside-event a b s (events.Inject t octets) none h = h

-- one claimed a number
pub beside-claim : (a b : Account) (n : ℕ) → HasClaimsBeside a b → HasClaimsBeside a (gaining n b)
beside-claim a b n h = by_test ((now b.carried).present && nat_lt 0 n)
    (λ y. rw y (record {
      carried = h.carried;
      shows = h.shows;
      claims = λ e. let z = h.claims e in omega arith;
      nexts = λ e. one-next e (by_test (e == (now b.carried).epoch) (λ x. inl x) (λ x. inr x));
    }))
    (λ y. rw y h)
  where
    one-next : (e : ℕ) → ((e == (now b.carried).epoch) ≡ true) ⊎ ((e == (now b.carried).epoch) ≡ false)
        → cond (e == (now b.carried).epoch) (max (n + 1) (b.nexts e)) (b.nexts e) ≡ max (a.nexts e) (max (cond ((now b.carried).epoch == e) (n + 1) 0) (past_claims e b.claims))
    one-next e (inl y) =
        let same : ((now b.carried).epoch == e) ≡ true = eq-eqb (now b.carried).epoch e (sym (eqb-true e (now b.carried).epoch y)) in
        let z = h.nexts e in rw (y, same) (omega arith)
    one-next e (inr n_y) =
        let other : ((now b.carried).epoch == e) ≡ false = ne_eqb (now b.carried).epoch e (λ same. absurd (cc (sym n_y ∙ eq-eqb e (now b.carried).epoch (sym same)))) in
        let z = h.nexts e in rw (n_y, other) (omega arith)
