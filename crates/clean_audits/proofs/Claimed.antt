-- The claims that wait for their emission: each has its claim and its install, and no two of them use
-- one packet number.
use Rattle.std.proofs.Common.{◌≡◌, ◌<◌, ◌≤◌, ◌^◌, refl, sym, ap, ◌∙◌, subst, inl, inr, ◌⊎◌, ℕ, zero, suc}
use Rattle.std.proofs.Common.{List, [], ◌∷◌, ◌++◌, length, Bool, true, false, cond, ◌&&◌, Option, Some, None, arith}
use Rattle.std.specs.Prelude.{◌==◌, option_map, slice_get}
use Rattle.std.specs.List.{filter}
use Rattle.std.proofs.lemmas.Bool.{and_parts, eqb-false, eqb-true, eq-eqb}
use Rattle.std.proofs.lemmas.List.{append-nil}
use Rattle.lan_base.specs.declared.frame.UserFrame.{UserFrame}
use Rattle.aes_block.specs.Secrets.{secret_octets}
use Rattle.sak_exchange.specs.declared.held_key.Key.{Key}
use Rattle.sak_exchange.specs.Held.{transmitting}
use Rattle.lan_core.specs.declared.event.Event.{Event}
use Rattle.lan_core.specs.declared.event.Event.TheVariants as events
use Rattle.lan_core.specs.declared.fact.Fact.{Fact}
use Rattle.lan_core.specs.declared.settings.Settings.{Settings}
use Rattle.lan_core.specs.Run.{Run, Happening, happened}
use Rattle.lan_core.specs.Ledgers.{Claim, claim_of, claims, Install, install_at, install_of, installs}
use Rattle.lan_core.specs.Lives.{Life, keys_in, life, transmitting_at}
use Rattle.lan_core.specs.Claims.{Waiting, claimed, claimed_by, next, waiting_under}
use Rattle.lan_core.specs.Counted.{AreCounted}
use Rattle.lan_core.specs.Expected.{claim_fact, expected}
use Rattle.lan_core.specs.Fresh.{IsFresh, IsUnforged}
use Rattle.lan_core.specs.Legal.{IsStep, IsStepped}
use Rattle.lan_core.specs.Order.{IsClaimable}
use Rattle.lan_core.specs.Types.{IsSecret}
use Rattle.group_safety.specs.Once.{Once, sak_of, sci_of, use_of}
use Rattle.group_safety.proofs.Public.{In, in-either, in-get, in-later, same-place}
use Rattle.group_safety.proofs.Public.{known, IsKnown, install_by, chained, mapped, claimed-next}
use Rattle.group_safety.proofs.Public.{installed-key, transmitting-installed, run-once}
use Rattle.clean_audits.proofs.Finding.{find-only}

-- ---- each waiting claim

-- as a claim
abbrev pub claim_by : Waiting → Claim
claim_by w = record { station = w.station; an = w.key.an; epoch = w.key.epoch; pn = w.pn }

-- it was claimed, its key was installed, and its number is a packet number
pub record IsBacked (r : Run) (w : Waiting) : Type 0 where
  pub claim : In (claim_by w) (claims r)
  pub install : In (install_by w.station w.key) (installs r)
  pub secret : IsSecret w.key.sak
  pub first : 1 ≤ w.pn
  pub last : w.pn < 2 ^ 32

backed-later : (x : Happening) (r : Run) (w : Waiting) → IsBacked r w → IsBacked (x ∷ r) w
unfolding claims installs
backed-later x r w b = record {
  claim = in-later claim_of x.facts (claims r) (claim_by w) b.claim;
  install = in-later install_of x.facts (installs r) (install_by w.station w.key) b.install;
  secret = b.secret;
  first = b.first;
  last = b.last;
}

-- what a claim that got a number shows
shown-claim : (settings : Settings) (users : List UserFrame) (s user pn : ℕ) (f : List Fact) (r : Run)
    (k : Key)
    → IsStep settings users (happened (events.Claim s user pn) f) r
    → transmitting_at settings s r ≡ Some k → (pn == 0) ≡ false
    → In (record { station = s; an = k.an; epoch = k.epoch; pn = pn })
    (claims (happened (events.Claim s user pn) f ∷ r))
unfolding expected claims
shown-claim settings users s user pn f r k step sends some =
    let shown = mapped (λ l. claim_fact settings s r pn (transmitting_at settings s r) ∷ [])
    (life settings s r) f step.shows in
    rw (sym shown.2) (rw (sends, some) (inl refl))

new-backed : (settings : Settings) (users : List UserFrame) (s user pn : ℕ) (f : List Fact) (r : Run)
    (w : Waiting)
    → IsStep settings users (happened (events.Claim s user pn) f) r → IsKnown settings users r
    → In w (waiting_under s user pn (transmitting_at settings s r))
    → IsBacked (happened (events.Claim s user pn) f ∷ r) w
unfolding installs
new-backed settings users s user pn f r w step k there =
    go (transmitting_at settings s r) refl (pn == 0) refl there
  where
    x : Happening
    x = happened (events.Claim s user pn) f

    one : (key : Key) → transmitting_at settings s r ≡ Some key → (pn == 0) ≡ false
        → IsBacked (x ∷ r) (record { station = s; key = key; pn = pn; user = user })
    one key sends some =
        let l = chained (λ (l : Life). transmitting (keys_in l)) (life settings s r) key sends in
        let v = k.living s l.0 l.1 in
        let apart = eqb-false pn 0 some in
        record {
          claim = shown-claim settings users s user pn f r key step sends some;
          install = in-later install_of f (installs r) (install_by s key)
              (v.backed key (transmitting-installed (keys_in l.0) key l.2));
          secret = (installed-key l.0.member.base (keys_in l.0) key v.keys.keys
              (transmitting-installed (keys_in l.0) key l.2)).sak;
          first = positive pn apart;
          last = step.in_order.0.2;
        }
      where
        positive : (n : ℕ) → (n ≡ 0 → ⊥) → 1 ≤ n
        positive zero apart = absurd (apart refl)
        positive (suc n) apart = omega arith

    go : (o : Option Key) → transmitting_at settings s r ≡ o → (b : Bool) → (pn == 0) ≡ b
        → In w (waiting_under s user pn o) → IsBacked (x ∷ r) w
    go None sends b none there = elim there [ ]
    go (Some key) sends true none there = elim (rw none at there) [ ]
    go (Some key) sends false some there = elim (rw some at there) [
      | inl same ↦ subst (IsBacked (x ∷ r)) (sym same) (one key sends some)
      | inr never ↦ elim never [ ]
    ]

none-claimed : (settings : Settings) (w : Waiting) → In w (claimed settings []) → ⊥
unfolding claimed
none-claimed settings w there = there

pub backed : (settings : Settings) (users : List UserFrame) (r : Run) (w : Waiting)
    → IsStepped settings users r → IsUnforged settings r → In w (claimed settings r) → IsBacked r w
backed settings users [] w stepped unforged there = absurd (none-claimed settings w there)
backed settings users (x ∷ r) w stepped unforged there =
    elim (in-either (claimed settings r) (claimed_by settings r x.event) w
    (subst (λ ws. In w ws) (claimed-next settings x r) there)) [
      | inl older ↦ backed-later x r w (backed settings users r w stepped.1 unforged.1 older)
      | inr new ↦ by_event x.event x.facts stepped.0 new
    ]
  where
    by_event : (e : Event) (f : List Fact) → IsStep settings users (happened e f) r
        → In w (claimed_by settings r e) → IsBacked (happened e f ∷ r) w
    by_event (events.Claim s user pn) f step new =
        new-backed settings users s user pn f r w step (known settings users r stepped.1 unforged.1) new
    by_event (events.Start name sci priority) f step new = elim new [ ]
    by_event (events.Tick s next) f step new = elim new [ ]
    by_event (events.Deliver frame s) f step new = elim new [ ]
    by_event (events.Restart s) f step new = elim new [ ]
    by_event events.Emit f step new = elim new [ ]
    by_event (events.Inject s octets) f step new = elim new [ ]

-- ---- their numbers rise

-- an event adds one at most
abbrev IsOneAtMost : List Waiting → Type 0
IsOneAtMost ws = (ws ≡ []) ⊎ ((w : Waiting) × (ws ≡ w ∷ []))

under-one : (s user pn : ℕ) (o : Option Key) → IsOneAtMost (waiting_under s user pn o)
under-one s user pn None = inl refl
under-one s user pn (Some k) = go (pn == 0)
  where
    go : (b : Bool)
        → IsOneAtMost (cond b [] (record { station = s; key = k; pn = pn; user = user } ∷ []))
    go true = inl refl
    go false = inr (record { station = s; key = k; pn = pn; user = user }, refl)

event-one : (settings : Settings) (r : Run) (e : Event) → IsOneAtMost (claimed_by settings r e)
event-one settings r (events.Claim s user pn) = under-one s user pn (transmitting_at settings s r)
event-one settings r (events.Start name sci priority) = inl refl
event-one settings r (events.Tick s next) = inl refl
event-one settings r (events.Deliver frame s) = inl refl
event-one settings r (events.Restart s) = inl refl
event-one settings r events.Emit = inl refl
event-one settings r (events.Inject s octets) = inl refl

get-one : {A : Type 0} (xs : List A) (x y : A) (n : ℕ) → slice_get (xs ++ x ∷ []) n ≡ Some y
    → (slice_get xs n ≡ Some y) ⊎ ((n ≡ length xs) × (y ≡ x))
get-one [] x y zero e = inr (refl, cc e)
get-one [] x y (suc n) e = absurd (cc e)
get-one (z ∷ zs) x y zero e = inl e
get-one (z ∷ zs) x y (suc n) e = elim (get-one zs x y n e) [
  | inl there ↦ inl there
  | inr last ↦ inr (ap suc last.0, last.1)
]

get-less : {A : Type 0} (xs : List A) (n : ℕ) (a : A) → slice_get xs n ≡ Some a → n < length xs
get-less [] n a e = absurd (cc e)
get-less (x ∷ xs) zero a e = omega arith
get-less (x ∷ xs) (suc n) a e = let less = get-less xs n a e in omega (arith, less)

-- a new one is not below the next number
new-above : (settings : Settings) (users : List UserFrame) (e : Event) (f : List Fact) (r : Run)
    (w : Waiting) → IsStep settings users (happened e f) r → In w (claimed_by settings r e)
    → next settings w.station w.key.epoch r ≤ w.pn
new-above settings users (events.Claim s user pn) f r w step there =
    go (transmitting_at settings s r) (pn == 0) refl there step.in_order.1.2
  where
    go : (o : Option Key) (b : Bool) → (pn == 0) ≡ b → In w (waiting_under s user pn o)
        → (pn ≡ 0) ⊎ IsClaimable settings s r pn o → next settings w.station w.key.epoch r ≤ w.pn
    go None b is there may = elim there [ ]
    go (Some k) true is there may = elim (rw is at there) [ ]
    go (Some k) false is there (inl none) = absurd (eqb-false pn 0 is none)
    go (Some k) false is there (inr may) = elim (rw is at there) [
      | inl same ↦ subst (λ (v : Waiting). next settings v.station v.key.epoch r ≤ v.pn) (sym same) may.0
      | inr never ↦ elim never [ ]
    ]
new-above settings users (events.Start name sci priority) f r w step there = elim there [ ]
new-above settings users (events.Tick s next) f r w step there = elim there [ ]
new-above settings users (events.Deliver frame s) f r w step there = elim there [ ]
new-above settings users (events.Restart s) f r w step there = elim there [ ]
new-above settings users events.Emit f r w step there = elim there [ ]
new-above settings users (events.Inject s octets) f r w step there = elim there [ ]

-- of two under one epoch of a station the later one has the greater number
pub rising : (settings : Settings) (users : List UserFrame) (r : Run) (j k : ℕ) (w u : Waiting)
    → IsStepped settings users r → IsUnforged settings r
    → slice_get (claimed settings r) j ≡ Some w → slice_get (claimed settings r) k ≡ Some u → j < k
    → w.station ≡ u.station → w.key.epoch ≡ u.key.epoch → w.pn < u.pn
rising settings users [] j k w u stepped unforged first second less station epoch =
    absurd (none-claimed settings w (in-get (claimed settings []) j w first))
rising settings users (x ∷ r) j k w u stepped unforged first second less station epoch =
    go (event-one settings r x.event)
    (λ one other. rising settings users r j k w u stepped.1 unforged.1 one other less station epoch)
    (subst (λ ws. slice_get ws j ≡ Some w) (claimed-next settings x r) first)
    (subst (λ ws. slice_get ws k ≡ Some u) (claimed-next settings x r) second)
  where
    old : List Waiting
    old = claimed settings r

    newest : slice_get old j ≡ Some w → In u (claimed_by settings r x.event) → w.pn < u.pn
    newest one there =
        let b = backed settings users r w stepped.1 unforged.1 (in-get old j w one) in
        let below : w.pn < next settings w.station w.key.epoch r =
        (known settings users r stepped.1 unforged.1).plain.below (claim_by w) b.claim in
        let above = new-above settings users x.event x.facts r u stepped.0 there in
        let same : next settings w.station w.key.epoch r ≡ next settings u.station u.key.epoch r =
        λ t. next settings (station t) (epoch t) r in
        omega (arith, below, above, same)

    go : IsOneAtMost (claimed_by settings r x.event)
        → (slice_get old j ≡ Some w → slice_get old k ≡ Some u → w.pn < u.pn)
        → slice_get (old ++ claimed_by settings r x.event) j ≡ Some w
        → slice_get (old ++ claimed_by settings r x.event) k ≡ Some u → w.pn < u.pn
    go (inl none) before one other =
        let same = ap (λ ws. old ++ ws) none ∙ append-nil old in
        before (subst (λ ws. slice_get ws j ≡ Some w) same one)
        (subst (λ ws. slice_get ws k ≡ Some u) same other)
    go (inr (y, is)) before one other =
        let a = get-one old y w j (subst (λ ws. slice_get (old ++ ws) j ≡ Some w) is one) in
        let b = get-one old y u k (subst (λ ws. slice_get (old ++ ws) k ≡ Some u) is other) in
        cases a b
      where
        cases : (slice_get old j ≡ Some w) ⊎ ((j ≡ length old) × (w ≡ y))
            → (slice_get old k ≡ Some u) ⊎ ((k ≡ length old) × (u ≡ y)) → w.pn < u.pn
        cases (inl one) (inl other) = before one other
        cases (inl one) (inr last) =
            newest one (subst (λ ws. In u ws) (sym is) (inl last.1))
        cases (inr last) (inl other) =
            let j_is = last.0 in let k_less = get-less old k u other in
            absurd (omega (arith, j_is, k_less, less))
        cases (inr last) (inr also) =
            let j_is = last.0 in let k_is = also.0 in absurd (omega (arith, j_is, k_is, less))

-- ---- one install under one epoch

most-epoch : (is : List Install) (j : Install) → AreCounted is → In j is
    → j.epoch ≤ length (filter (λ (i : Install). i.station == j.station) is)
most-epoch [] j counted there = elim there [ ]
most-epoch (k ∷ older) j counted (inl same) =
    subst (λ (i : Install). i.epoch ≤ length (filter (λ (m : Install). m.station == i.station) (k ∷ older)))
    (sym same) here
  where
    here : k.epoch ≤ length (filter (λ (m : Install). m.station == k.station) (k ∷ older))
    here = let is = counted.0 in rw (eq-eqb k.station k.station refl) (omega (arith, is))
most-epoch (k ∷ older) j counted (inr there) =
    go (k.station == j.station) (most-epoch older j counted.1 there)
  where
    rest : List Install
    rest = filter (λ (i : Install). i.station == j.station) older

    go : (b : Bool) → j.epoch ≤ length rest → j.epoch ≤ length (cond b (k ∷ rest) rest)
    go true less = omega (arith, less)
    go false less = less

epoch-above : (k j : Install) (older : List Install) → AreCounted (k ∷ older) → In j older
    → k.station ≡ j.station → k.epoch ≡ j.epoch → ⊥
epoch-above k j older counted there station epoch =
    let most = most-epoch older j counted.1 there in
    let is = counted.0 in
    let same : length (filter (λ (i : Install). i.station == k.station) older)
    ≡ length (filter (λ (i : Install). i.station == j.station) older) =
    ap (λ n. length (filter (λ (i : Install). i.station == n) older)) station in
    omega (arith, most, is, same, epoch)

one-epoch : (is : List Install) (i j : Install) → AreCounted is → In i is → In j is
    → i.station ≡ j.station → i.epoch ≡ j.epoch → i ≡ j
one-epoch [] i j counted hi hj station epoch = elim hi [ ]
one-epoch (k ∷ older) i j counted (inl a) (inl b) station epoch = a ∙ sym b
one-epoch (k ∷ older) i j counted (inl a) (inr b) station epoch =
    absurd (epoch-above k j older counted b (ap (λ (m : Install). m.station) (sym a) ∙ station)
    (ap (λ (m : Install). m.epoch) (sym a) ∙ epoch))
one-epoch (k ∷ older) i j counted (inr a) (inl b) station epoch =
    absurd (epoch-above k i older counted a (ap (λ (m : Install). m.station) (sym b) ∙ sym station)
    (ap (λ (m : Install). m.epoch) (sym b) ∙ sym epoch))
one-epoch (k ∷ older) i j counted (inr a) (inr b) station epoch =
    one-epoch older i j counted.1 a b station epoch

pub install-found : (r : Run) (i : Install) → AreCounted (installs r) → In i (installs r)
    → install_at i.station i.epoch r ≡ Some i
install-found r i counted there =
    find-only (λ (j : Install). (j.station == i.station) && (j.epoch == i.epoch)) (installs r) i there
    (rw (eq-eqb i.station i.station refl, eq-eqb i.epoch i.epoch refl) refl)
    (λ j here passes.
    let both = and_parts (j.station == i.station) (j.epoch == i.epoch) passes in
    one-epoch (installs r) j i counted here there (eqb-true j.station i.station both.0)
    (eqb-true j.epoch i.epoch both.1))

-- ---- no two use one number

-- the claims' use of a packet number
pub claims-sak : (r : Run) (w : Waiting) → AreCounted (installs r) → IsBacked r w
    → sak_of r (claim_by w) ≡ Some (secret_octets w.key.sak)
claims-sak r w counted b =
    ap (option_map (λ (i : Install). secret_octets i.sak))
    (install-found r (install_by w.station w.key) counted b.install)

pub apart : (settings : Settings) (users : List UserFrame) (r : Run) (j k : ℕ) (w u : Waiting)
    → IsStepped settings users r → IsFresh r → IsUnforged settings r → AreCounted (installs r)
    → slice_get (claimed settings r) j ≡ Some w → slice_get (claimed settings r) k ≡ Some u → j < k
    → w.station ≡ u.station → w.key.sak ≡ u.key.sak → w.pn ≡ u.pn → ⊥
apart settings users r j k w u stepped fresh unforged counted first second less station sak pn =
    let k' = known settings users r stepped unforged in
    let b = backed settings users r w stepped unforged (in-get (claimed settings r) j w first) in
    let c = backed settings users r u stepped unforged (in-get (claimed settings r) k u second) in
    let saks : sak_of r (claim_by w) ≡ sak_of r (claim_by u) = claims-sak r w counted b
    ∙ ap (λ s. Some (secret_octets s)) sak ∙ sym (claims-sak r u counted c) in
    let uses : use_of r (claim_by w) ≡ use_of r (claim_by u) =
    λ t. record { sak = saks t; sci = sci_of r (station t); pn = pn t } in
    let once : Once r = run-once settings users r k' fresh in
    let same = same-place (use_of r) (claims r) once (claim_by w) (claim_by u) b.claim c.claim uses in
    let rise = rising settings users r j k w u stepped unforged first second less station
    (ap (λ (c : Claim). c.epoch) same) in
    omega (arith, rise, pn)
