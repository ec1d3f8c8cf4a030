-- The ledgers and the lives of a run after one more event.
use Rattle.std.proofs.Common.{◌≡◌, ◌≢◌, ◌<◌, ◌≤◌, refl, sym, ap, ◌∙◌, subst, inl, inr, ◌⊎◌, ℕ, zero}
use Rattle.std.proofs.Common.{suc, false}
use Rattle.std.proofs.Common.{List, [], ◌∷◌, ◌++◌, length, cond, Option, Some, None, arith}
use Rattle.std.specs.Prelude.{option_map, option_and_then, slice_get, ◌==◌}
use Rattle.std.proofs.lemmas.Bool.Decides.{eqb_tells}
use Rattle.sak_exchange.specs.declared.held_key.Key.{Key}
use Rattle.lan_core.specs.declared.event.Event.TheVariants as events
use Rattle.lan_core.specs.declared.fact.Fact.{Fact}
use Rattle.lan_core.specs.declared.fact.Fact.TheVariants as facts
use Rattle.lan_core.specs.declared.settings.Settings.{Settings}
use Rattle.lan_core.specs.Run.{Run, Happening, started, stations}
use Rattle.lan_core.specs.Ledgers.{Birth, births, Install, install_of, installs, Frame, air, Claim}
use Rattle.lan_core.specs.Ledgers.{claims, gather, with_one}
use Rattle.lan_core.specs.Lives.{life, life_after, drawn_sak}
use Rattle.lan_core.specs.Claims.{claimed, claimed_by}
use Rattle.lan_core.specs.Order.{ticks}
use Rattle.lan_core.specs.Fresh.{drawn_saks, sak_drawn}
use Rattle.group_safety.specs.Once.{makes, shown_made}
use Rattle.group_safety.proofs.Members.{In, in-right}
use Rattle.group_safety.proofs.once.Currents.{some-same}
use Rattle.group_safety.proofs.once.Gists.{IsGist, installed_at}

-- ---- ledgers

pub births-next : (x : Happening) (r : Run) {bs : List Birth} {is : List Install} {fs : List Frame}
    {cs : List Claim}
    → IsGist x.facts bs is fs cs → births (x ∷ r) ≡ bs ++ births r
unfolding births
births-next x r g = g.births (births r)

pub installs-next : (x : Happening) (r : Run) {bs : List Birth} {is : List Install}
    {fs : List Frame} {cs : List Claim}
    → IsGist x.facts bs is fs cs → installs (x ∷ r) ≡ is ++ installs r
unfolding installs
installs-next x r g = g.installs (installs r)

pub air-next : (x : Happening) (r : Run) {bs : List Birth} {is : List Install} {fs : List Frame}
    {cs : List Claim}
    → IsGist x.facts bs is fs cs → air (x ∷ r) ≡ fs ++ air r
unfolding air
air-next x r g = g.air (air r)

pub claims-next : (x : Happening) (r : Run) {bs : List Birth} {is : List Install} {fs : List Frame}
    {cs : List Claim}
    → IsGist x.facts bs is fs cs → claims (x ∷ r) ≡ cs ++ claims r
unfolding claims
claims-next x r g = g.claims (claims r)

pub makes-next : (x : Happening) (r : Run)
    → makes (x ∷ r) ≡ gather install_of (shown_made x.facts x.event) (makes r)
unfolding makes
makes-next x r = refl

-- an event that is no tick makes no key
pub makes-same : (x : Happening) (r : Run) → shown_made x.facts x.event ≡ []
    → makes (x ∷ r) ≡ makes r
makes-same x r none = makes-next x r ∙ ap (λ w. gather install_of w (makes r)) none

pub drawn-next : (x : Happening) (r : Run)
    → drawn_saks (x ∷ r) ≡ with_one (sak_drawn x.facts x.event) (drawn_saks r)
unfolding drawn_saks
drawn-next x r = refl

pub stations-next : (x : Happening) (r : Run) → stations (x ∷ r) ≡ stations r ++ started x.event
unfolding stations
stations-next x r = refl

pub claimed-next : (settings : Settings) (x : Happening) (r : Run)
    → claimed settings (x ∷ r) ≡ claimed settings r ++ claimed_by settings r x.event
unfolding claimed
claimed-next settings x r = refl

pub life-next : (settings : Settings) (s : ℕ) (x : Happening) (r : Run)
    → life settings s (x ∷ r) ≡ life_after settings s r x.facts x.event (life settings s r)
unfolding life
life-next settings s x r = refl

pub ticks-more : (x : Happening) (r : Run) → ticks r ≤ ticks (x ∷ r)
ticks-more x r = omega arith

-- ---- the SAK that facts install

snoc-none : {A : Type 0} (xs : List A) (a : A) → xs ++ a ∷ [] ≡ [] → ⊥
snoc-none [] a e = absurd (cc e)
snoc-none (x ∷ xs) a e = absurd (cc e)

cons-tail : {A : Type 0} (x y : A) (xs ys : List A) → x ∷ xs ≡ y ∷ ys → xs ≡ ys
cons-tail x y xs ys e = cc e

cons-head : {A : Type 0} (x y : A) (xs ys : List A) → x ∷ xs ≡ y ∷ ys → x ≡ y
cons-head x y xs ys e = cc e

snoc-one : {A : Type 0} (xs : List A) (a b : A) → xs ++ a ∷ [] ≡ b ∷ [] → (xs ≡ []) × (a ≡ b)
snoc-one [] a b e = (refl, cons-head a b [] [] e)
snoc-one (x ∷ xs) a b e = absurd (snoc-none xs a (cons-tail x b (xs ++ a ∷ []) [] e))

pub gather-behind : {A : Type 0} (read : Fact → Option A) (f : List Fact) (xs : List A)
    → gather read f xs ≡ gather read f [] ++ xs
gather-behind read [] xs = refl
gather-behind read (fact ∷ f) xs = go (read fact) (λ ys. gather-behind read f ys)
  where
    go : (o : Option _) → ((ys : List _) → gather read f ys ≡ gather read f [] ++ ys)
        → gather read f (with_one o xs) ≡ gather read f (with_one o []) ++ xs
    go None behind = behind xs
    go (Some a) behind =
        behind (a ∷ xs) ∙ assoc (gather read f []) ∙ ap (λ w. w ++ xs) (sym (behind (a ∷ [])))
      where
        assoc : (ys : List _) → ys ++ a ∷ xs ≡ (ys ++ a ∷ []) ++ xs
        assoc [] = refl
        assoc (y ∷ ys) = ap (λ w. y ∷ w) (assoc ys)

-- facts only add to a ledger, and add what is read of each
pub in-later : {A : Type 0} (read : Fact → Option A) (f : List Fact) (xs : List A) (y : A)
    → In y xs → In y (gather read f xs)
in-later read f xs y i =
    subst (λ w. In y w) (sym (gather-behind read f xs)) (in-right (gather read f []) xs y i)

in-one : {A : Type 0} (o : Option A) (xs : List A) (y : A) → o ≡ Some y → In y (with_one o xs)
in-one o xs y e = subst (λ w. In y (with_one w xs)) (sym e) (inl refl)

pub in-gathered : {A : Type 0} (read : Fact → Option A) (f : List Fact) (xs : List A) (fact : Fact)
    (y : A) → In fact f → read fact ≡ Some y → In y (gather read f xs)
in-gathered read [] xs fact y i e = elim i [ ]
in-gathered read (g ∷ f) xs fact y (inl same) e =
    in-later read f (with_one (read g) xs) y (in-one (read g) xs y (ap read (sym same) ∙ e))
in-gathered read (g ∷ f) xs fact y (inr i) e = in-gathered read f (with_one (read g) xs) fact y i e

drawn-none : (f : List Fact) → gather install_of f [] ≡ [] → drawn_sak f ≡ None
drawn-none [] e = refl
drawn-none (facts.Installed s id an epoch sak ∷ f) e =
    let i : Install = record { station = s; id = id; an = an; epoch = epoch; sak = sak } in
    absurd (snoc-none (gather install_of f []) i (sym (gather-behind install_of f (i ∷ [])) ∙ e))
drawn-none (fact ∷ f) e = drawn-none f e

drawn-one : (f : List Fact) (i : Install) → gather install_of f [] ≡ i ∷ []
    → drawn_sak f ≡ Some i.sak
drawn-one [] i e = absurd (cc e)
drawn-one (facts.Installed s id an epoch sak ∷ f) i e =
    let j : Install = record { station = s; id = id; an = an; epoch = epoch; sak = sak } in
    ap (λ (w : Install). Some w.sak)
    (snoc-one (gather install_of f []) j i (sym (gather-behind install_of f (j ∷ [])) ∙ e)).1
drawn-one (fact ∷ f) i e = drawn-one f i e

-- the SAK that facts install is that of the key which they install
pub drawn-is : (f : List Fact) (s : ℕ) (k : Option Key) {bs : List Birth} {fs : List Frame}
    {cs : List Claim}
    → IsGist f bs (installed_at s k) fs cs → drawn_sak f ≡ option_map (λ k. k.sak) k
drawn-is f s None g = drawn-none f (g.installs [])
drawn-is f s (Some k) g =
    drawn-one f (record { station = s; id = k.id; an = k.an; epoch = k.epoch; sak = k.sak })
    (g.installs [])

-- ---- lists

pub get-more : {A : Type 0} (xs ys : List A) (n : ℕ) (a : A) → slice_get xs n ≡ Some a
    → slice_get (xs ++ ys) n ≡ Some a
get-more [] ys n a e = absurd (cc e)
get-more (x ∷ xs) ys zero a e = e
get-more (x ∷ xs) ys (suc n) a e = get-more xs ys n a e

pub get-last : {A : Type 0} (xs : List A) (a : A) → slice_get (xs ++ a ∷ []) (length xs) ≡ Some a
get-last [] a = refl
get-last (x ∷ xs) a = get-last xs a

pub in-get : {A : Type 0} (xs : List A) (n : ℕ) (a : A) → slice_get xs n ≡ Some a → In a xs
in-get [] n a e = absurd (cc e)
in-get (x ∷ xs) zero a e = inl (sym (some-same e))
in-get (x ∷ xs) (suc n) a e = inr (in-get xs n a e)

pub get-there : {A : Type 0} (xs : List A) (n : ℕ) → n < length xs → (a : A)
    × (slice_get xs n ≡ Some a)
get-there [] n less = absurd (omega arith)
get-there (x ∷ xs) zero less = (x, refl)
get-there (x ∷ xs) (suc n) less = get-there xs n (omega arith)

pub get-less : {A : Type 0} (xs : List A) (n : ℕ) (a : A) → slice_get xs n ≡ Some a → n < length xs
get-less [] n a e = absurd (cc e)
get-less (x ∷ xs) zero a e = omega arith
get-less (x ∷ xs) (suc n) a e = let less = get-less xs n a e in omega (arith, less)

-- ---- a choice by station

pub at-or-other : {A : Type 0} (s t : ℕ) (here there : A) (a : A) → cond (s == t) here there ≡ a
    → ((s ≡ t) × (here ≡ a)) ⊎ ((s ≢ t) × (there ≡ a))
at-or-other s t here there a e = elim (eqb_tells s t) [
  | inl y ↦ inl (y.1, (rw y.0 at e))
  | inr y ↦ inr (y.1, (rw y.0 at e))
]

-- ---- options

pub mapped : {A B : Type 0} (f : A → B) (o : Option A) (b : B) → option_map f o ≡ Some b
    → (a : A) × (o ≡ Some a) × (f a ≡ b)
mapped f None b is = absurd (cc is)
mapped f (Some a) b is = (a, refl, some-same is)

pub chained : {A B : Type 0} (f : A → Option B) (o : Option A) (b : B)
    → option_and_then f o ≡ Some b
    → (a : A) × (o ≡ Some a) × (f a ≡ Some b)
chained f None b is = absurd (cc is)
chained f (Some a) b is = (a, refl, is)

-- ---- lives that an event leaves as they were

pub other-tick : (settings : Settings) (t s next : ℕ) (x : Happening) (r : Run)
    → x.event ≡ events.Tick s next → (s == t) ≡ false → life settings t (x ∷ r) ≡ life settings t r
unfolding life
other-tick settings t s next x r ev apart = rw ev (rw apart refl)

pub other-restart : (settings : Settings) (t s : ℕ) (x : Happening) (r : Run)
    → x.event ≡ events.Restart s → (s == t) ≡ false → life settings t (x ∷ r) ≡ life settings t r
unfolding life
other-restart settings t s x r ev apart = rw ev (rw apart refl)

pub claim-life : (settings : Settings) (t : ℕ) (x : Happening) (r : Run) (s user pn : ℕ)
    → x.event ≡ events.Claim s user pn → life settings t (x ∷ r) ≡ life settings t r
unfolding life
claim-life settings t x r s user pn ev = rw ev refl

pub emit-life : (settings : Settings) (t : ℕ) (x : Happening) (r : Run) → x.event ≡ events.Emit
    → life settings t (x ∷ r) ≡ life settings t r
unfolding life
emit-life settings t x r ev = rw ev refl
