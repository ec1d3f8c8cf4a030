-- What a race does to a world: what was shown before it stays.
use Rattle.std.proofs.Common.{ℕ, zero, suc, Bool, true, false, List, [], ◌∷◌, refl}
use Rattle.std.specs.Prelude.{cond, Result, Ok, Err}
use Rattle.lan_core.specs.declared.event.Event.{Event}
use Rattle.lan_core.specs.declared.event.Event.TheVariants as events
use Rattle.lan_core.specs.declared.fact.Fact.{Fact}
use Rattle.lan_core.specs.declared.settings.Settings.{Settings}
use Rattle.lan_core.specs.Run.{Run, Happening, happened}
use Rattle.trace_acts.specs.declared.halt.Halt.{Halt}
use Rattle.trace_acts.specs.Names.{names_of}
use Rattle.trace_acts.proofs.Public.{begins-self, begins-then, then-begins}
use Rattle.lan_schedule.specs.Races.{Worker, Claimed, claims_in}
use Rattle.lan_schedule.specs.World.{World, settings}
use Rattle.lan_schedule.specs.Answers.{answer}
use Rattle.lan_schedule.specs.Acts.{Course, Goes, Stops, shown, with_claims, woven, claim_of}
use Rattle.lan_schedule.specs.Acts.{emitting, emitting_all, beside, after_race, since, is_stop}
use Rattle.lan_schedule.specs.Reports.{reports}
use Rattle.lan_schedule.specs.Ends.{Begins, reported}

-- ---- what was shown stays

one-more : (x : Happening) (r : Run) → Begins (reports r) (reports (x ∷ r))
one-more x r =
    record { more = record { names = names_of (x ∷ r); facts = x.facts } ∷ []; parts = refl }

claims-begin : (settings : Settings) (workers : List Worker) (users : ℕ) (claims : List Claimed)
    (r : Run) → Begins (reports r) (reports (with_claims settings workers users claims r))
claims-begin settings workers users [] r = begins-self (reports r)
claims-begin settings workers users (c ∷ later) r =
    let x = claim_of settings workers users c r in
    begins-then (reports r) (reports (x ∷ r))
    (reports (with_claims settings workers users later (x ∷ r))) (one-more x r)
    (claims-begin settings workers users later (x ∷ r))

woven-begins : (settings : Settings) (workers : List Worker) (users : ℕ)
    (claims : List (List Claimed)) (events : List Happening) (r : Run)
    → Begins (reports r) (reports (woven settings workers users claims events r))
woven-begins settings workers users claims [] r =
    claims-begin settings workers users (claims_in claims) r
woven-begins settings workers users [] (x ∷ later) r =
    begins-then (reports r) (reports (x ∷ r))
    (reports (woven settings workers users [] later (x ∷ r))) (one-more x r)
    (woven-begins settings workers users [] later (x ∷ r))
woven-begins settings workers users (now ∷ claims) (x ∷ later) r =
    let s = with_claims settings workers users now r in
    begins-then (reports r) (reports s) (reports (woven settings workers users claims later (x ∷ s)))
    (claims-begin settings workers users now r)
    (begins-then (reports s) (reports (x ∷ s))
    (reports (woven settings workers users claims later (x ∷ s))) (one-more x s)
    (woven-begins settings workers users claims later (x ∷ s)))

pub shown-begins : (w : World) (event : Event) (r : Result (List Fact) Halt)
    → Begins (reports w.run) (reported (shown w event r))
shown-begins w event (Ok facts) = one-more (happened event facts) w.run
shown-begins w event (Err halt) = begins-self (reports w.run)

emitting-begins : (count : ℕ) (w : World) → Begins (reports w.run) (reported (emitting count w))
emitting-begins zero w = begins-self (reports w.run)
emitting-begins (suc count) w =
    then-begins reports (reports w.run) (shown w events.Emit (answer w events.Emit))
    (λ v. emitting count v) (shown-begins w events.Emit (answer w events.Emit))
    (λ v. emitting-begins count v)

unless-begins : (b : Bool) (w : World) (out : Course) → Begins (reports w.run) (reported out)
    → Begins (reports w.run) (reported (cond b (Goes w) out))
unless-begins true w out h = begins-self (reports w.run)
unless-begins false w out h = h

after-begins : (workers : List Worker) (w v : World)
    → Begins (reports w.run) (reports (after_race workers w v).run)
after-begins workers w v = woven-begins (settings w) workers _ _ (since w v) w.run

-- a race, whatever control did, leaves what was shown before it
pub race-begins : (workers : List Worker) (w : World) (out : Course)
    → Begins (reports w.run) (reported (beside workers w out))
race-begins workers w (Goes v) =
    let u = after_race workers w v in
    begins-then (reports w.run) (reports u.run) (reported (emitting_all v u))
    (after-begins workers w v) (emitting-begins _ u)
race-begins workers w (Stops v halt) =
    let u = after_race workers w v in
    begins-then (reports w.run) (reports u.run)
    (reported (cond (is_stop halt) (Goes u) (emitting_all v u))) (after-begins workers w v)
    (unless-begins (is_stop halt) u (emitting_all v u) (emitting-begins _ u))
