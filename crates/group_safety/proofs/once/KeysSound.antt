-- What holds of the keys of a life: how they are numbered, and what their fields are.
use Rattle.std.proofs.Common.{◌≡◌, ◌<◌, ◌≤◌, ◌+◌, ◌^◌, refl, sym, ap, ◌∙◌, subst, inl, inr, ℕ, List}
use Rattle.std.proofs.Common.{[], ◌∷◌, length, find, filter, Bool, false, not, Option, Some, None}
use Rattle.std.proofs.Common.{arith}
use Rattle.std.specs.Prelude.{option_and_then}
use Rattle.std.proofs.lemmas.Bool.{eqb-true}
use Rattle.lan_base.specs.declared.address.Mi.{Mi}
use Rattle.lan_base.specs.declared.key_id.KeyId.{KeyId}
use Rattle.lan_base.specs.Identifiers.{same_mi}
use Rattle.sak_exchange.specs.declared.held_key.Key.{Key}
use Rattle.sak_exchange.specs.Histories.{Keying, ticked, installed, began, installs, last_key}
use Rattle.sak_exchange.specs.Histories.{last_roster, last_begun, install_count, made_count}
use Rattle.sak_exchange.specs.Held.{received, latest, old, transmitting, ends, with_new, has_epoch}
use Rattle.sak_exchange.specs.Taking.{greatest_of}
use Rattle.lan_base.specs.Differing.{DiffersFrom}
use Rattle.sak_exchange.specs.Lives.{IsOver, IsNumbered, TakesNoneOfOwn, identifiers}
use Rattle.sak_exchange.proofs.Public.{identifiers-differ, find-passes}
use Rattle.lan_core.specs.Types.{IsSecret}
use Rattle.group_safety.proofs.Members.{In, in-unfiltered}
use Rattle.group_safety.proofs.once.Ledgers.{Made}
use Rattle.group_safety.proofs.once.Currents.{some-same, none-some}
use Rattle.group_safety.proofs.once.Histories.{handed, made_of}
use Rattle.group_safety.proofs.once.LiveHeard.{in-find}

-- an installed key: its epoch is the next one, and its fields are in their ranges
pub record IsKeyOf (base : ℕ) (h : List Keying) (k : Key) : Type 0 where
  pub epoch : k.epoch ≡ (base + install_count h) + 1
  pub server : length k.id.server.0 ≡ 12
  pub number : k.id.number < 2 ^ 32
  pub sak : IsSecret k.sak

abbrev pub AreKeys : ℕ → List Keying → Type 0
AreKeys base [] = Unit {0}
AreKeys base (ticked s ∷ h) = AreKeys base h
AreKeys base (installed r k ∷ h) = IsKeyOf base h k × AreKeys base h
AreKeys base (began e ∷ h) = AreKeys base h

pub record AreSound (base : ℕ) (own : Mi) (most : ℕ) (h : List Keying) : Type 0 where
  pub numbered : IsNumbered own h
  pub others : TakesNoneOfOwn own h
  pub keys : AreKeys base h
  pub few : made_count h ≤ most

pub sound-none : (base : ℕ) (own : Mi) (most : ℕ) → AreSound base own most []
sound-none base own most = record { numbered = tt; others = tt; keys = tt; few = omega arith }

pub sound-ticked : (base : ℕ) (own : Mi) (most : ℕ) (s : Bool) (h : List Keying)
    → AreSound base own most h
    → AreSound base own most (ticked s ∷ h)
sound-ticked base own most s h v =
    record { numbered = v.numbered; others = v.others; keys = v.keys; few = v.few }

pub sound-began : (base : ℕ) (own : Mi) (most e : ℕ) (h : List Keying) → AreSound base own most h
    → AreSound base own most (began e ∷ h)
sound-began base own most e h v =
    record { numbered = v.numbered; others = v.others; keys = v.keys; few = v.few }

pub sound-more : (base : ℕ) (own : Mi) (most more : ℕ) (h : List Keying) → most ≤ more
    → AreSound base own most h → AreSound base own more h
sound-more base own most more h less v =
    let few = v.few in
    record {
      numbered = v.numbered;
      others = v.others;
      keys = v.keys;
      few =
          omega (arith, less, few);
    }

pub sound-made : (base : ℕ) (own : Mi) (most : ℕ) (r : List Mi) (k : Key) (h : List Keying)
    → AreSound base own most h → k.id.server ≡ own → k.id.number ≡ made_count h + 1
    → IsKeyOf base h k
    → AreSound base own (most + 1) (installed (Some r) k ∷ h)
sound-made base own most r k h v server number is =
    let few = v.few in
    record {
      numbered = (server, number, v.numbered);
      others = v.others;
      keys = (is, v.keys);
      few =
          omega (arith, few);
    }

pub sound-taken : (base : ℕ) (own : Mi) (most : ℕ) (k : Key) (h : List Keying)
    → AreSound base own most h → IsOver (greatest_of k.id.server h) k.id.number
    → same_mi k.id.server own ≡ false → IsKeyOf base h k
    → AreSound base own most (installed None k ∷ h)
sound-taken base own most k h v over other is =
    record {
      numbered = (over, v.numbered);
      others = (other, v.others);
      keys = (is, v.keys);
      few =
          v.few;
    }

-- ---- a new key is new

none-in : (i : KeyId) (is : List KeyId) → DiffersFrom i is → In i is → ⊥
none-in i [] none h = elim h [ ]
none-in i (j ∷ js) none (inl e) = none.0 e
none-in i (j ∷ js) none (inr h) = none-in i js none.1 h

pub new-key : (base : ℕ) (own : Mi) (most : ℕ) (r : Option (List Mi)) (k : Key) (h : List Keying)
    → AreSound base own most (installed r k ∷ h) → ¬ (In k.id (identifiers h))
new-key base own most r k h v i =
    none-in k.id (identifiers h) (identifiers-differ own (installed r k ∷ h) v.numbered v.others).0
    i

-- ---- the latest key is the last one

in-new : (x : Keying) (ks js : List Key) (k : Key) → In k (with_new x ks)
    → (In k ks → In k js) → In k (with_new x js)
in-new (ticked s) ks js k h f = f h
in-new (installed r n) ks js k (inl e) f = inl e
in-new (installed r n) ks js k (inr h) f = inr (f h)
in-new (began e) ks js k h f = f h

new-installs : (x : Keying) (h : List Keying) (k : Key) → In k (with_new x (installs h))
    → In k (installs (x ∷ h))
new-installs (ticked s) h k i = i
new-installs (installed r n) h k i = i
new-installs (began e) h k i = i

pub received-installed : (h : List Keying) (k : Key) → In k (received h) → In k (installs h)
unfolding received
received-installed [] k i = elim i [ ]
received-installed (x ∷ h) k i =
    new-installs x h k
    (in-new x (filter (λ k. not (ends x h k)) (received h)) (installs h) k i
    (λ j. received-installed h k (in-unfiltered (λ k. not (ends x h k)) (received h) k j)))

pub latest-installed : (h : List Keying) (k : Key) → latest h ≡ Some k → In k (installs h)
unfolding latest
latest-installed h k e = go (last_key h) e
  where
    go : (o : Option Key) → option_and_then (λ l. find (has_epoch l.epoch) (received h)) o ≡ Some k
        → In k (installs h)
    go None f = absurd (none-some f)
    go (Some l) f = received-installed h k (in-find (has_epoch l.epoch) (received h) k f)

pub old-installed : (h : List Keying) (k : Key) → old h ≡ Some k → In k (installs h)
unfolding old
old-installed h k e = go (last_key h) e
  where
    go : (o : Option Key)
        → option_and_then (λ l. find (λ k. not (has_epoch l.epoch k)) (received h)) o ≡ Some k
        → In k (installs h)
    go None f = absurd (none-some f)
    go (Some l) f =
        received-installed h k (in-find (λ k. not (has_epoch l.epoch k)) (received h) k f)

pub transmitting-installed : (h : List Keying) (k : Key) → transmitting h ≡ Some k
    → In k (installs h)
unfolding transmitting
transmitting-installed h k e = go (last_begun h) e
  where
    go : (o : Option ℕ) → option_and_then (λ e. find (has_epoch e) (received h)) o ≡ Some k
        → In k (installs h)
    go None f = absurd (none-some f)
    go (Some n) f = received-installed h k (in-find (has_epoch n) (received h) k f)

-- what is known of each installed key
pub record IsKeyIn (k : Key) : Type 0 where
  pub server : length k.id.server.0 ≡ 12
  pub number : k.id.number < 2 ^ 32
  pub sak : IsSecret k.sak

pub installed-key : (base : ℕ) (h : List Keying) (k : Key) → AreKeys base h → In k (installs h)
    → IsKeyIn k
installed-key base [] k v i = elim i [ ]
installed-key base (ticked s ∷ h) k v i = installed-key base h k v i
installed-key base (installed r n ∷ h) k v (inl e) =
    subst IsKeyIn (sym e)
    (record { server = v.0.server; number = v.0.number; sak = v.0.sak })
installed-key base (installed r n ∷ h) k v (inr i) = installed-key base h k v.1 i
installed-key base (began e ∷ h) k v i = installed-key base h k v i

epoch-most : (base : ℕ) (h : List Keying) (k : Key) → AreKeys base h → In k (installs h)
    → k.epoch ≤ base + install_count h
epoch-most base [] k v i = elim i [ ]
epoch-most base (ticked s ∷ h) k v i = epoch-most base h k v i
epoch-most base (installed r n ∷ h) k v (inl e) =
    let same : k.epoch ≡ n.epoch = ap (λ (w : Key). w.epoch) e in
    let is = v.0.epoch in omega (arith, same, is)
epoch-most base (installed r n ∷ h) k v (inr i) =
    let less = epoch-most base h k v.1 i in omega (arith, less)
epoch-most base (began e ∷ h) k v i = epoch-most base h k v i

-- of the installed keys only the last one has its epoch
last-of : (base : ℕ) (h : List Keying) (l k : Key) → AreKeys base h → last_key h ≡ Some l
    → In k (installs h) → k.epoch ≡ l.epoch → k ≡ l
last-of base [] l k v last i e = elim i [ ]
last-of base (ticked s ∷ h) l k v last i e = last-of base h l k v last i e
last-of base (installed r n ∷ h) l k v last (inl p) e = p ∙ some-same last
last-of base (installed r n ∷ h) l k v last (inr i) e =
    let less = epoch-most base h k v.1 i in
    let same : n.epoch ≡ l.epoch = ap (λ (w : Key). w.epoch) (some-same last) in
    let is = v.0.epoch in
    absurd (omega (arith, less, same, is, e))
last-of base (began x ∷ h) l k v last i e = last-of base h l k v last i e

pub latest-last : (base : ℕ) (h : List Keying) (k : Key) → AreKeys base h → latest h ≡ Some k
    → last_key h ≡ Some k
unfolding latest
latest-last base h k v e = go (last_key h) refl e
  where
    go : (o : Option Key) → last_key h ≡ o
        → option_and_then (λ l. find (has_epoch l.epoch) (received h)) o ≡ Some k → o ≡ Some k
    go None is f = absurd (none-some f)
    go (Some l) is f =
        let place = received-installed h k (in-find (has_epoch l.epoch) (received h) k f) in
        let same = eqb-true k.epoch l.epoch (find-passes (has_epoch l.epoch) (received h) k f) in
        ap Some (sym (last-of base h l k v is place same))

-- the last key, where it was made, is a made one with its roster
pub last-made : (h : List Keying) (k : Key) (ms : List Mi) → last_key h ≡ Some k
    → last_roster h ≡ Some ms
    → In (record { key = handed k; roster = ms }) (made_of h)
last-made [] k ms last made = absurd (none-some last)
last-made (ticked s ∷ h) k ms last made = last-made h k ms last made
last-made (installed None n ∷ h) k ms last made = absurd (none-some made)
last-made (installed (Some r) n ∷ h) k ms last made =
    inl (λ i. record { key = handed (some-same (sym last) i); roster = some-same (sym made) i })
last-made (began e ∷ h) k ms last made = last-made h k ms last made

-- a made key has the server's own identifier
pub made-own : (own : Mi) (h : List Keying) (d : Made) → IsNumbered own h → In d (made_of h)
    → d.key.id.server ≡ own
made-own own [] d v i = elim i [ ]
made-own own (ticked s ∷ h) d v i = made-own own h d v i
made-own own (installed None k ∷ h) d v i = made-own own h d v.1 i
made-own own (installed (Some r) k ∷ h) d v (inl e) = ap (λ (w : Made). w.key.id.server) e ∙ v.0
made-own own (installed (Some r) k ∷ h) d v (inr i) = made-own own h d v.2 i
made-own own (began e ∷ h) d v i = made-own own h d v i
