-- Each fact speaks of a station that is there, and the stations have names, each another.
use Rattle.std.proofs.Common.{◌≡◌, ◌≢◌, ◌∙◌, ◌<◌, ◌≤◌, ℕ, zero, suc, Bool, true, false, cond, List, [], ◌∷◌, ◌++◌, length, map}
use Rattle.std.proofs.Common.{Option, Some, None, refl, sym, ap, subst, arith}
use Rattle.std.specs.Prelude.{◌==◌, All, option_map, slice_get}
use Rattle.std.proofs.lemmas.List.{length-append, append-nil}
use Rattle.std.proofs.lemmas.List.Elements.{All-nil, All-cons, All-append, All-weaker, All-head, All-tail}
use Rattle.lan_base.specs.declared.address.Mi.{Mi}
use Rattle.lan_base.specs.declared.address.Sci.{Sci}
use Rattle.lan_base.specs.declared.frame.UserFrame.{UserFrame}
use Rattle.lan_base.specs.declared.name.Name.{Name}
use Rattle.lan_base.specs.Differing.{AllDiffer, DiffersFrom}
use Rattle.lan_base.specs.Name.{IsName}
use Rattle.sak_exchange.specs.declared.held_key.Key.{Key}
use Rattle.lan_core.specs.declared.event.Event.{Event}
use Rattle.lan_core.specs.declared.event.Event.TheVariants as events
use Rattle.lan_core.specs.declared.fact.Fact.{Fact}
use Rattle.lan_core.specs.declared.fact.Fact.TheVariants as facts
use Rattle.lan_core.specs.declared.settings.Settings.{Settings}
use Rattle.lan_core.specs.Run.{Run, Happening, Profile, happened, place, started, stations, facts_of}
use Rattle.lan_core.specs.Ledgers.{frame_at, next_frame}
use Rattle.lan_core.specs.Lives.{life, drawn_mi, sak_in, transmitting_at}
use Rattle.lan_core.specs.Claims.{waiting, frame_of_claim, frame_by, user_at}
use Rattle.lan_core.specs.Expected.{tick_facts, reached_facts, restart_facts, claim_fact, number_fact, lack, emit_facts, expected}
use Rattle.lan_core.specs.Legal.{IsStep, IsStepped}
use Rattle.lan_core.specs.Places.{names, ArePlaced}
use Rattle.lan_core.proofs.FramesNumbered.{mapped, chained}
use Rattle.lan_core.proofs.OwnLedgers.{AreOf, tick-is-of, reached-is-of, restart-is-of}

-- ---- places

placed-of : (s count : ℕ) (fs : List Fact) → AreOf s fs → s < count
    → All (λ fact. place fact < count) fs
placed-of s count [] are less = All-nil (λ fact. place fact < count)
placed-of s count (fact ∷ fs) (is, are) less =
    All-cons (λ fact. place fact < count) fact fs (omega (arith, is, less))
    (placed-of s count fs are less)

stations-grow : (x : Happening) (r : Run) → length (stations r) ≤ length (stations (x ∷ r))
unfolding stations
stations-grow x r = let e = length-append (stations r) (started x.event) in omega (arith, e)

placed-more : (m n : ℕ) (fs : List Fact) → m ≤ n → All (λ fact. place fact < m) fs
    → All (λ fact. place fact < n) fs
placed-more m n fs more =
    All-weaker (λ fact. place fact < m) (λ fact. place fact < n)
    (λ fact less. omega (arith, less, more)) fs

at-there : (settings : Settings) (users : List UserFrame) (s : ℕ) (e : Event) (f : List Fact) (r : Run)
    → s < length (stations r) → AreOf s f → ArePlaced (happened e f ∷ r) f
at-there settings users s e f r exists are =
    let grow = stations-grow (happened e f) r in
    placed-of s (length (stations (happened e f ∷ r))) f are (omega (arith, exists, grow))

got-less : {A : Type 0} (xs : List A) (n : ℕ) (a : A) → slice_get xs n ≡ Some a → n < length xs
got-less [] n a is = absurd (cc is)
got-less (x ∷ xs) zero a is = omega arith
got-less (x ∷ xs) (suc n) a is = let less = got-less xs n a is in omega (arith, less)

-- a start shows the life of the station that comes next
pub start-shows : (settings : Settings) (users : List UserFrame) (name : Name) (sci : Sci) (priority : ℕ)
    (f : List Fact) (r : Run) → IsStep settings users (happened (events.Start name sci priority) f) r
    → (mi : Mi) × (f ≡ facts.Life (length (stations r)) mi ∷ [])
unfolding expected
start-shows settings users name sci priority f r step =
    let is = mapped (λ mi. facts.Life (length (stations r)) mi ∷ []) (drawn_mi f) f step.shows in
    (is.0, sym is.2)

of-claim : (settings : Settings) (s : ℕ) (r : Run) (pn : ℕ) (k : Option Key)
    → AreOf s (claim_fact settings s r pn k ∷ [])
of-claim settings s r pn k = go (pn == 0) k
  where
    go : (b : Bool) (j : Option Key)
        → AreOf s (cond b (facts.Unclaimed s (lack settings s r k)) (number_fact s pn j) ∷ [])
    go true j = (refl, tt)
    go false None = (refl, tt)
    go false (Some j) = (refl, tt)

by-event : (settings : Settings) (users : List UserFrame) (e : Event) (f : List Fact) (r : Run)
    → IsStep settings users (happened e f) r → ArePlaced (happened e f ∷ r) f
unfolding expected stations
by-event settings users (events.Start name sci priority) f r step =
    let is = start-shows settings users name sci priority f r step in
    let p : Profile = record { name = name; sci = sci; priority = priority } in
    let grown = length-append (stations r) (p ∷ []) in
    placed-of (length (stations r)) (length (stations r ++ p ∷ [])) f
    (subst (AreOf (length (stations r))) (sym is.1) (refl, tt)) (omega (arith, grown))
by-event settings users (events.Tick s next) f r step =
    let is = mapped (tick_facts settings s r next (sak_in f)) (life settings s r) f step.shows in
    at-there settings users s (events.Tick s next) f r step.in_order.1.0
    (subst (AreOf s) is.2 (tick-is-of settings s r next (sak_in f) is.0))
by-event settings users (events.Deliver frame s) f r step =
    let there = chained (λ x. option_map (reached_facts settings s r frame x.octets) (life settings s r))
    (frame_at r frame) f step.shows in
    let is = mapped (reached_facts settings s r frame there.0.octets) (life settings s r) f there.2 in
    at-there settings users s (events.Deliver frame s) f r step.in_order.1.0
    (subst (AreOf s) is.2 (reached-is-of settings s r frame there.0.octets is.0))
by-event settings users (events.Restart s) f r step =
    let drew = chained (λ mi. option_map (restart_facts s mi) (life settings s r)) (drawn_mi f) f
    step.shows in
    let is = mapped (restart_facts s drew.0) (life settings s r) f drew.2 in
    at-there settings users s (events.Restart s) f r step.in_order.1.0
    (subst (AreOf s) is.2 (restart-is-of s drew.0 is.0))
by-event settings users (events.Claim s user pn) f r step =
    let is = mapped (λ l. claim_fact settings s r pn (transmitting_at settings s r) ∷ [])
    (life settings s r) f step.shows in
    at-there settings users s (events.Claim s user pn) f r step.in_order.1.0
    (subst (AreOf s) is.2 (of-claim settings s r pn (transmitting_at settings s r)))
by-event settings users events.Emit f r step =
    let there = chained (emit_facts users r) (waiting settings r) f step.shows in
    let is = mapped (λ octets. facts.Framed (next_frame r) there.0.station true octets ∷ [])
    (frame_of_claim users r there.0) f there.2 in
    let at = chained (λ p. option_map (frame_by there.0 p) (user_at users there.0.user))
    (slice_get (stations r) there.0.station) is.0 is.1 in
    at-there settings users there.0.station events.Emit f r
    (got-less (stations r) there.0.station at.0 at.1)
    (subst (AreOf there.0.station) is.2 (refl, tt))
by-event settings users (events.Inject s octets) f r step =
    let is = mapped (reached_facts settings s r 0 octets) (life settings s r) f step.shows in
    at-there settings users s (events.Inject s octets) f r step.in_order.1.0
    (subst (AreOf s) is.2 (reached-is-of settings s r 0 octets is.0))

pub step-placed : (settings : Settings) (users : List UserFrame) (x : Happening) (r : Run)
    → IsStep settings users x r → ArePlaced (x ∷ r) x.facts
step-placed settings users x r step = by-event settings users x.event x.facts r step

pub all-placed : (settings : Settings) (users : List UserFrame) (r : Run)
    → IsStepped settings users r → ArePlaced r (facts_of r)
all-placed settings users [] stepped = All-nil (λ fact. place fact < length (stations []))
all-placed settings users (x ∷ r) (step, before) =
    All-append (λ fact. place fact < length (stations (x ∷ r))) (facts_of r) x.facts
    (placed-more (length (stations r)) (length (stations (x ∷ r))) (facts_of r) (stations-grow x r)
    (all-placed settings users r before))
    (step-placed settings users x r step)

-- ---- names

named-more : {A B : Type 0} (f : A → B) (xs ys : List A) → map f (xs ++ ys) ≡ map f xs ++ map f ys
named-more f [] ys = refl
named-more f (x ∷ xs) ys = ap (λ zs. f x ∷ zs) (named-more f xs ys)

differs-more : (name : Name) (others : List Name) (last : Name) → DiffersFrom name others
    → name ≢ last → DiffersFrom name (others ++ last ∷ [])
differs-more name [] last differs other = (other, tt)
differs-more name (next ∷ others) last (first, differs) other =
    (first, differs-more name others last differs other)

differ-more : (ps : List Profile) (last : Name) → AllDiffer (map (λ p. p.name) ps)
    → All (λ p. p.name ≢ last) ps → AllDiffer (map (λ p. p.name) ps ++ last ∷ [])
differ-more [] last differ new = (tt, tt)
differ-more (p ∷ ps) last (differs, differ) new = (
  differs-more p.name (map (λ p. p.name) ps) last differs
      (All-head (λ (p : Profile). p.name ≢ last) p ps new),
  differ-more ps last differ (All-tail (λ (p : Profile). p.name ≢ last) p ps new),
)

-- names, each another
abbrev AreNamed : List Name → Type 0
AreNamed ns = All IsName ns × AllDiffer ns

one-name : (settings : Settings) (users : List UserFrame) (e : Event) (f : List Fact) (r : Run)
    → IsStep settings users (happened e f) r → AreNamed (names r)
    → AreNamed (map (λ p. p.name) (stations r ++ started e))
one-name settings users (events.Start name sci priority) f r step (are, differ) =
    let p : Profile = record { name = name; sci = sci; priority = priority } in
    let new = All-weaker (λ (p : Profile). (p.name ≢ name) × (p.sci ≢ sci)) (λ p. p.name ≢ name)
    (λ p both. both.0) (stations r) step.in_order.1.0 in
    subst AreNamed (sym (named-more (λ (p : Profile). p.name) (stations r) (p ∷ []))) (
      All-append IsName (names r) (name ∷ []) are
          (All-cons IsName name [] step.in_order.0.0 (All-nil IsName)),
      differ-more (stations r) name differ new,
    )
one-name settings users (events.Tick s next) f r step are =
    rw (append-nil (stations r)) are
one-name settings users (events.Deliver frame s) f r step are =
    rw (append-nil (stations r)) are
one-name settings users (events.Restart s) f r step are =
    rw (append-nil (stations r)) are
one-name settings users (events.Claim s user pn) f r step are =
    rw (append-nil (stations r)) are
one-name settings users events.Emit f r step are =
    rw (append-nil (stations r)) are
one-name settings users (events.Inject s octets) f r step are =
    rw (append-nil (stations r)) are

pub run-named : (settings : Settings) (users : List UserFrame) (r : Run)
    → IsStepped settings users r → All IsName (names r) × AllDiffer (names r)
unfolding stations
run-named settings users [] stepped = (All-nil IsName, tt)
run-named settings users (x ∷ r) (step, before) =
    one-name settings users x.event x.facts r step (run-named settings users r before)
