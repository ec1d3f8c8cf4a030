-- How the key that transmits moves in a turn of a life: it stays, it ends, or one begins whose epoch
-- is above all that began.
use Rattle.std.proofs.Common.{◌≡◌, ◌⊎◌, ◌<◌, ◌≤◌, ℕ, Bool, true, false, not, cond, List, [], ◌∷◌, refl, sym, ap, ◌∙◌, subst, arith, inl, inr}
use Rattle.std.proofs.Common.{Option, Some, None, filter}
use Rattle.std.specs.Prelude.{◌==◌}
use Rattle.std.specs.List.{find}
use Rattle.std.proofs.lemmas.Bool.{eqb-true, eqb-false, eq-eqb, cases_Bool, cases_eq, cases_lt}
use Rattle.lan_base.specs.declared.address.Mi.{Mi}
use Rattle.sak_exchange.specs.declared.held_key.Key.{Key}
use Rattle.sak_exchange.specs.Histories.{Keying, ticked, installed, began, installs, install_count, has_begun, beginnings, last_begun}
use Rattle.sak_exchange.specs.Held.{KeepsRules, ends, received, has_epoch, transmitting}
use Rattle.sak_exchange.specs.Lives.{Has}
use Rattle.sak_exchange.specs.Beginning.{Beginning}
use Rattle.sak_exchange.proofs.Public.{begun-upto}
use Rattle.group_safety.proofs.Public.{with_key, with_began}
use Rattle.group_safety.proofs.Public.{IsTurn, with_tick, kept-turn, turn-new, news}
use Rattle.group_safety.proofs.Public.{received-installed, transmitting-last, transmits-later}
use Rattle.group_safety.proofs.Public.{one-epoch}
use Rattle.sak_exchange.proofs.Public.{begun-stays, beginnings-fall}
use Rattle.lan_base.specs.Falling.{IsFalling, IsAbove}

-- ---- what began

pub last-began : (h : List Keying) (f : ℕ) → last_begun h ≡ Some f → has_begun h f ≡ true
last-began [] f is = absurd (cc is)
last-began (ticked s ∷ h) f is = last-began h f is
last-began (installed r k ∷ h) f is = last-began h f is
last-began (began g ∷ h) f is = let same : g ≡ f = cc is in rw (eq-eqb g f same) refl

began-last : (h : List Keying) (e : ℕ) → has_begun h e ≡ true → (f : ℕ) × (last_begun h ≡ Some f)
began-last [] e is = absurd (cc is)
began-last (ticked s ∷ h) e is = began-last h e is
began-last (installed r k ∷ h) e is = began-last h e is
began-last (began g ∷ h) e is = (g, refl)

begun-under : (n : ℕ) (h : List Keying) (e : ℕ) → IsAbove n (beginnings h) → has_begun h e ≡ true → e < n
begun-under n [] e above is = absurd (cc is)
begun-under n (ticked s ∷ h) e above is = begun-under n h e above is
begun-under n (installed r k ∷ h) e above is = begun-under n h e above is
begun-under n (began f ∷ h) e above is = elim (cases_Bool (f == e)) [
  | inl same ↦ (let equal = eqb-true f e same in let less = above.0 in omega (arith, equal, less))
  | inr other ↦ begun-under n h e above.1 (rw other at is)
]

greatest : (h : List Keying) (e f : ℕ) → IsFalling (beginnings h) → has_begun h e ≡ true → last_begun h ≡ Some f → e ≤ f
greatest [] e f fall is last = absurd (cc is)
greatest (ticked s ∷ h) e f fall is last = greatest h e f fall is last
greatest (installed r k ∷ h) e f fall is last = greatest h e f fall is last
greatest (began g ∷ h) e f fall is last =
    let same : g ≡ f = cc last in
    elim (cases_Bool (g == e)) [
      | inl this ↦ (let equal = eqb-true g e this in omega (arith, equal, same))
      | inr other ↦ (let less = begun-under g h e fall.0 (rw other at is) in omega (arith, less, same))
    ]

last-is-greatest : (base : ℕ) (h : List Keying) (e f : ℕ) → KeepsRules base h → has_begun h e ≡ true → last_begun h ≡ Some f → e ≤ f
last-is-greatest base h e f kept is last = greatest h e f (beginnings-fall base h kept) is last

-- ---- what is received

has-filter : (p : Key → Bool) (ks : List Key) (k : Key) → Has k (filter p ks) → Has k ks
has-filter p [] k has = has
has-filter p (j ∷ ks) k has = go (λ h. has-filter p ks k h) (p j) has
  where
    go : (Has k (filter p ks) → Has k ks) → (b : Bool) → Has k (cond b (j ∷ filter p ks) (filter p ks)) → Has k (j ∷ ks)
    go rest true has = elim has [ inl same ↦ inl same | inr later ↦ inr (rest later) ]
    go rest false has = inr (rest has)

pub has-ticked : (t : Option Bool) (h : List Keying) (k : Key) → Has k (received (with_tick t h)) → Has k (received h)
unfolding received
has-ticked None h k has = has
has-ticked (Some s) h k has = has-filter (λ j. not (ends (ticked s) h j)) (received h) k has

has-began : (b : Option Beginning) (h : List Keying) (k : Key) → Has k (received (with_began b h)) → Has k (received h)
unfolding received
has-began None h k has = has
has-began (Some b) h k has = has-filter (λ j. not (ends (began b.key.epoch) h j)) (received h) k has

has-installed : (r : Option (List Mi)) (n : Option Key) (h : List Keying) (k : Key) → Has k (received (with_key r n h))
    → (n ≡ Some k) ⊎ Has k (received h)
unfolding received
has-installed r None h k has = inr has
has-installed r (Some n) h k (inl same) = inl (ap Some same)
has-installed r (Some n) h k (inr later) = inr (has-filter (λ j. not (ends (installed r n) h j)) (received h) k later)

turn-received : (base : ℕ) (h g : List Keying) (t : IsTurn base h g) (k : Key) → Has k (received g)
    → (t.key ≡ Some k) ⊎ Has k (received h)
turn-received base h g t k has =
    elim (has-installed t.roster t.key (with_began t.lead (with_tick t.tick h)) k
    (has-began t.follow (with_key t.roster t.key (with_began t.lead (with_tick t.tick h))) k (subst (λ w. Has k (received w)) t.whole has))) [
      | inl new ↦ inl new
      | inr old ↦ inr (has-ticked t.tick h k (has-began t.lead (with_tick t.tick h) k old))
    ]

count-same : (b : Option Beginning) (t : Option Bool) (h : List Keying) → install_count (with_began b (with_tick t h)) ≡ install_count h
count-same None None h = refl
count-same None (Some s) h = refl
count-same (Some b) None h = refl
count-same (Some b) (Some s) h = refl

-- an installed key is of this life
pub installed-above : (base : ℕ) (h : List Keying) (k : Key) → KeepsRules base h → Has k (installs h) → base < k.epoch
installed-above base [] k kept has = absurd has
installed-above base (ticked s ∷ h) k kept has = installed-above base h k kept has
installed-above base (installed r n ∷ h) k kept (inl same) =
    let e = ap (λ (w : Key). w.epoch) same in let next = kept.0 in omega (arith, e, next)
installed-above base (installed r n ∷ h) k kept (inr has) = installed-above base h k kept.2 has
installed-above base (began e ∷ h) k kept has = installed-above base h k kept.1 has

find-it : (e : ℕ) (ks : List Key) (k : Key) → ((j : Key) → Has j ks → j.epoch ≡ e → j ≡ k) → Has k ks → k.epoch ≡ e
    → find (has_epoch e) ks ≡ Some k
find-it e [] k one has is = absurd has
find-it e (j ∷ ks) k one has is = elim (cases_Bool (j.epoch == e)) [
  | inl same ↦ rw same (ap Some (one j (inl refl) (eqb-true j.epoch e same)))
  | inr other ↦ rw other (find-it e ks k (λ i h. one i (inr h)) (elim has [
    | inl same ↦ absurd (eqb-false j.epoch e other (ap (λ (w : Key). w.epoch) same ∙ is))
    | inr later ↦ later
  ]) is)
]

-- ---- the law of a turn

-- a key transmits that began in the turn
pub record IsBegun (base : ℕ) (h g : List Keying) (b : Key) : Type 0 where
  pub sends : transmitting g ≡ Some b
  pub above : base < b.epoch
  pub later : (e : ℕ) → has_begun h e ≡ true → e < b.epoch
  pub begun : has_begun g b.epoch ≡ true

module _ (base : ℕ) (h g : List Keying) (t : IsTurn base h g) (kept : KeepsRules base h) where
  kept-then : KeepsRules base g
  kept-then = kept-turn base h g t kept

  pub begun-on : (e : ℕ) → has_begun h e ≡ true → has_begun g e ≡ true
  begun-on e is = subst (λ w. has_begun w e ≡ true) (sym (turn-new base h g t)) (begun-stays (news t.tick t.lead t.roster t.key t.follow) h e is)

  -- it had begun before
  stays : (b : Key) → transmitting g ≡ Some b → has_begun h b.epoch ≡ true → transmitting h ≡ Some b
  unfolding transmitting
  stays b sends before =
      let last = began-last h b.epoch before in
      let f = last.0 in
      let low : f ≤ b.epoch = transmits-later base g b f kept-then (begun-on f (last-began h f last.1)) sends in
      let high : b.epoch ≤ f = last-is-greatest base h b.epoch f kept before last.1 in
      let same : b.epoch ≡ f = omega (arith, low, high) in
      let there : Has b (received h) = elim (turn-received base h g t b (transmitting-last g b sends).1) [
        | inl new ↦ absurd (let m = (t.may_install b new).0 in let c = count-same t.lead t.tick h in
            let u = begun-upto base h b.epoch kept before in omega (arith, m, c, u))
        | inr old ↦ old
      ] in
      rw last.1 (find-it f (received h) b
      (λ j has is. one-epoch base h j b kept (received-installed h j has) (received-installed h b there) (is ∙ sym same)) there same)

  starts : (b : Key) → transmitting g ≡ Some b → has_begun h b.epoch ≡ false → IsBegun base h g b
  starts b sends not_before = record {
    sends = sends;
    above = installed-above base g b kept-then (received-installed g b (transmitting-last g b sends).1);
    later = λ e is. (let low = transmits-later base g b e kept-then (begun-on e is) sends in
        elim (cases_eq e b.epoch) [
          | inl same ↦ absurd (let yes = subst (λ w. has_begun h w ≡ true) same is in cc (yes, not_before))
          | inr other ↦ lower e b.epoch low other
        ]);
    begun = last-began g b.epoch (transmitting-last g b sends).0;
  }
    where
      lower : (m n : ℕ) → m ≤ n → (m ≡ n → ⊥) → m < n
      lower m n low other = elim (cases_lt m n) [ inl less ↦ less | inr more ↦ absurd (other (omega (arith, low, more))) ]

  pub keys-move : (transmitting g ≡ transmitting h) ⊎ ((transmitting g ≡ None) ⊎ ((b : Key) × IsBegun base h g b))
  keys-move = go (transmitting g) refl
    where
      go : (o : Option Key) → transmitting g ≡ o → (transmitting g ≡ transmitting h) ⊎ ((transmitting g ≡ None) ⊎ ((b : Key) × IsBegun base h g b))
      go None is = inr (inl is)
      go (Some b) is = elim (cases_Bool (has_begun h b.epoch)) [
        | inl before ↦ inl (is ∙ sym (stays b is before))
        | inr new ↦ inr (inr (b, starts b is new))
      ]
