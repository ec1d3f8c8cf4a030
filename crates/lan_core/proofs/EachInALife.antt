-- Each station of a stepped run is in a life.
use Rattle.std.proofs.Common.{◌≡◌, ◌<◌, ℕ, zero, suc, Bool, true, false, cond, List, [], ◌∷◌, ◌++◌, length}
use Rattle.std.proofs.Common.{Option, Some, None, is_some, refl, arith}
use Rattle.std.specs.Prelude.{◌==◌, option_map, option_and_then, slice_get}
use Rattle.std.proofs.lemmas.Bool.{eqb-false}
use Rattle.std.proofs.lemmas.List.{length-append}
use Rattle.lan_base.specs.declared.frame.UserFrame.{UserFrame}
use Rattle.lan_core.specs.declared.event.Event.{Event}
use Rattle.lan_core.specs.declared.event.Event.TheVariants as events
use Rattle.lan_core.specs.declared.fact.Fact.{Fact}
use Rattle.lan_core.specs.declared.fact.Fact.TheVariants as facts
use Rattle.lan_core.specs.declared.settings.Settings.{Settings}
use Rattle.lan_core.specs.Run.{Run, Profile, started, stations}
use Rattle.lan_core.specs.Lives.{Life, life, life_after, lived_reached, lived_hearing, lived_ticking}
use Rattle.lan_core.specs.Lives.{begun, reaches, drawn_mi, sak_in}
use Rattle.lan_core.specs.Expected.{expected, drawn_in, restart_facts}
use Rattle.lan_core.specs.Order.{Exists}
use Rattle.lan_core.specs.Legal.{IsStepped}

-- ---- options

mapped : {A B C : Type 0} (f : A → B) (g : A → C) (o : Option A) (b : B) → option_map f o ≡ Some b
    → is_some (option_map g o) ≡ true
mapped f g None b is = absurd (cc is)
mapped f g (Some a) b is = refl

chained : {A B C : Type 0} (f : A → Option B) (g : A → C) (o : Option A) (b : B)
    → option_and_then f o ≡ Some b → is_some (option_map g o) ≡ true
chained f g None b is = absurd (cc is)
chained f g (Some a) b is = refl

stays : {A : Type 0} (f : A → A) (o : Option A) → is_some o ≡ true → is_some (option_map f o) ≡ true
stays f None is = is
stays f (Some a) is = refl

place : {A C : Type 0} (f : A → Option C) (each : (a : A) → is_some (f a) ≡ true) (xs : List A)
    (n : ℕ) → n < length xs → is_some (option_and_then f (slice_get xs n)) ≡ true
place f each [] n less = absurd (omega arith)
place f each (a ∷ others) zero less = each a
place f each (a ∷ others) (suc n) less = place f each others n (omega arith)

reached : (l : Option Life) (o : Option (List ℕ)) → is_some l ≡ true
    → is_some (lived_reached l o) ≡ true
reached l None is = is
reached l (Some octets) is = stays (λ l. lived_hearing l octets) l is

-- ---- events

chosen : (b : Bool) (l m : Option Life) → is_some l ≡ true → is_some m ≡ true
    → is_some (cond b l m) ≡ true
chosen true l m first second = first
chosen false l m first second = second

started_there : (settings : Settings) (s : ℕ) (r : Run) (shown : List Fact) (p : Profile)
    (l : Option Life) (b : Bool) → (length (stations r) == s) ≡ b
    → is_some (begun settings s r shown p) ≡ true → s < length (stations r ++ p ∷ [])
    → (s < length (stations r) → is_some l ≡ true)
    → is_some (cond b (begun settings s r shown p) l) ≡ true
started_there settings s r shown p l true same begins less before = begins
started_there settings s r shown p l false differ begins less before =
    let other = eqb-false (length (stations r)) s differ in
    let count = length-append (stations r) (p ∷ []) in
    before (omega arith)

no_more : (s : ℕ) (ps : List Profile) → s < length (ps ++ []) → s < length ps
no_more s ps less = let count = length-append ps [] in omega arith

after : (settings : Settings) (users : List UserFrame) (s : ℕ) (r : Run) (shown : List Fact)
    (e : Event) (l : Option Life) → expected settings users r e (drawn_in shown) ≡ Some shown
    → s < length (stations r ++ started e) → (s < length (stations r) → is_some l ≡ true)
    → is_some (life_after settings s r shown e l) ≡ true
unfolding expected
after settings users s r shown (events.Start name sci priority) l is less before =
    let p : Profile = record { name = name; sci = sci; priority = priority } in
    started_there settings s r shown p l (length (stations r) == s) refl
    (mapped (λ mi. facts.Life (length (stations r)) mi ∷ []) _ (drawn_mi shown) shown is) less before
after settings users s r shown (events.Tick station next) l is less before =
    let here = before (no_more s (stations r) less) in
    chosen (station == s) _ l (stays (lived_ticking settings s r next (sak_in shown)) l here) here
after settings users s r shown (events.Deliver frame station) l is less before =
    reached l (reaches s r (events.Deliver frame station))
    (before (no_more s (stations r) less))
after settings users s r shown (events.Restart station) l is less before =
    let exists = no_more s (stations r) less in
    chosen (station == s) _ l
    (place (begun settings s r shown)
    (λ p. chained
    (λ mi. option_map (restart_facts station mi) (life settings station r)) _
    (drawn_mi shown) shown is)
    (stations r) s exists)
    (before exists)
after settings users s r shown (events.Claim station user pn) l is less before =
    before (no_more s (stations r) less)
after settings users s r shown events.Emit l is less before =
    before (no_more s (stations r) less)
after settings users s r shown (events.Inject station octets) l is less before =
    reached l (reaches s r (events.Inject station octets))
    (before (no_more s (stations r) less))

pub in-a-life : (settings : Settings) (users : List UserFrame) (s : ℕ) (r : Run)
    → IsStepped settings users r → Exists s r → is_some (life settings s r) ≡ true
unfolding life stations
in-a-life settings users s [] stepped exists = absurd (omega arith)
in-a-life settings users s (x ∷ r) (step, before) exists =
    after settings users s r x.facts x.event (life settings s r) step.shows exists
    (in-a-life settings users s r before)
