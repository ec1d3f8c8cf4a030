-- What can be performed in a tidy world.
use Rattle.std.proofs.Common.{◌≡◌, ◌<◌, ◌≤◌, ℕ, zero, suc, ◌-◌, ◌==◌, Bool, true, false}
use Rattle.std.proofs.Common.{List, [], ◌∷◌, ◌++◌, length, Option, Some, None, refl, sym}
use Rattle.std.proofs.Common.{ap, ◌∙◌, subst, length-append, arith}
use Rattle.std.specs.Prelude.{Result, Ok, Err, cond, map, is_some, nat_eq, ◌||◌}
use Rattle.std.specs.List.{AllByRecursion, find, filter, list_any}
use Rattle.std.specs.Cmp.Lexicographic.{pointwise}
use Rattle.std.proofs.lemmas.List.{map-append}
use Rattle.sak_exchange.specs.declared.held_key.Key.{Key}
use Rattle.lan_core.specs.declared.event.Event.{Event}
use Rattle.lan_core.specs.declared.event.Event.TheVariants as events
use Rattle.lan_core.specs.declared.fact.Fact.{Fact}
use Rattle.lan_core.specs.declared.settings.Settings.{Settings}
use Rattle.lan_core.specs.Run.{Run, Happening, Profile, started, stations}
use Rattle.lan_core.specs.Ledgers.{Frame, air, framed, frame_at}
use Rattle.lan_core.specs.Claims.{next}
use Rattle.lan_core.specs.Stops.{IsNextShown}
use Rattle.lan_core.specs.Lives.{transmitting_at}
use Rattle.trace_acts.specs.declared.halt.Halt.{Halt}
use Rattle.trace_acts.specs.Names.{is_in, names_of}
use Rattle.trace_acts.specs.Settings.{lag_of}
use Rattle.trace_acts.proofs.Public.{comes-each, comes-span, comes-unless, find-gather}
use Rattle.trace_acts.proofs.Public.{find-more, halfway, is-going, Lasts, world-in}
use Rattle.lan_schedule.specs.declared.frames.Put.{Put}
use Rattle.lan_schedule.specs.World.{World, count, settings, sender, mark, marked_at}
use Rattle.lan_core.specs.Unstopped.{next_under}
use Rattle.lan_schedule.specs.Races.{Worker, Claimed, claims_in, woven_in, number_in}
use Rattle.lan_schedule.specs.Numbers.{stands}
use Rattle.lan_schedule.specs.Answers.{answer}
use Rattle.lan_schedule.specs.Acts.{happen, change, perform}
use Rattle.lan_schedule.specs.Acts.{Course, Goes, Stops, shown, each, times}
use Rattle.lan_schedule.specs.Acts.{beside, after_race, since, woven, with_claims}
use Rattle.lan_schedule.specs.Acts.{claim_of, emitting, rules}
use Rattle.lan_schedule.specs.Acts.{world_after}
use Rattle.lan_schedule.specs.Lines.{round_after, tick, round, pass, to_others, spread, is_passed_by, is_due}
use Rattle.lan_schedule.specs.Lines.{due_of, due, flow_round}
use Rattle.lan_schedule.specs.Sound.{IsTidy, numbers_of}
use Rattle.lan_schedule.specs.inside.Comes.{asks, Comes}

-- ---- later worlds

-- a frame is on the air
abbrev pub IsOnAir : Run → ℕ → Type 0
IsOnAir r number = is_some (frame_at r number) ≡ true

-- what was there is there still
pub record IsLater (w v : World) : Type 0 where
  pub count : count w ≤ count v
  pub names : (name : List ℕ) → is_in name (names_of w.run) ≡ true
      → is_in name (names_of v.run) ≡ true
  pub frames : (number : ℕ) → IsOnAir w.run number → IsOnAir v.run number

pub later-self : (w : World) → IsLater w w
later-self w =
    record { count = omega arith; names = λ name there. there; frames = λ number there. there }

pub later-later : (w v u : World) → IsLater w v → IsLater v u → IsLater w u
later-later w v u f g = record {
  count = omega (arith, f.count, g.count);
  names = λ name there. g.names name (f.names name there);
  frames =
      λ number there. g.frames number (f.frames number there);
}

any-more : {A : Type 0} (p : A → Bool) (xs ys : List A) → list_any p xs ≡ true
    → list_any p (xs ++ ys) ≡ true
any-more p [] ys there = absurd (let bad : false ≡ true = there in cc bad)
any-more p (x ∷ xs) ys there = by (p x) (λ f. any-more p xs ys f) there where
  by : (b : Bool) → (list_any p xs ≡ true → list_any p (xs ++ ys) ≡ true)
      → (b || list_any p xs) ≡ true → (b || list_any p (xs ++ ys)) ≡ true
  by true f there = refl
  by false f there = f there

names-more : (r : Run) (more : List Profile) (name : List ℕ) → is_in name (names_of r) ≡ true
    → is_in name (map (λ (p : Profile). p.name) (stations r ++ more)) ≡ true
names-more r more name there =
    subst (λ (names : List (List ℕ)). is_in name names ≡ true)
    (sym (map-append (λ (p : Profile). p.name) (stations r) more))
    (any-more (pointwise nat_eq name) (names_of r) _ there)

later-event : (w : World) (event : Event) (facts : List Fact)
    → IsLater w (world_after w event facts)
unfolding stations air
later-event w event facts = record {
  count = let e = length-append (stations w.run) (started event) in omega arith;
  names = names-more w.run (started event);
  frames = λ number there. find-gather (λ f. f.number == number) framed facts (air w.run) there;
}

later-shown : (w v : World) (event : Event) (r : Result (List Fact) Halt) → shown w event r ≡ Goes v
    → IsLater w v
later-shown w v event (Ok facts) e =
    let same : world_after w event facts
    ≡ v = cc in subst (λ (u : World). IsLater w u) same (later-event w event facts)
later-shown w v event (Err halt) e = absurd (let bad : Stops w halt ≡ Goes v = e in cc)

-- ---- races

-- what was there in a run is there still
record IsLaterRun (r s : Run) : Type 0 where
  count : length (stations r) ≤ length (stations s)
  names : (name : List ℕ) → is_in name (names_of r) ≡ true → is_in name (names_of s) ≡ true
  frames : (number : ℕ) → IsOnAir r number → IsOnAir s number

run-self : (r : Run) → IsLaterRun r r
run-self r =
    record { count = omega arith; names = λ name there. there; frames = λ number there. there }

run-then : (r s t : Run) → IsLaterRun r s → IsLaterRun s t → IsLaterRun r t
run-then r s t f g = record {
  count = omega (arith, f.count, g.count);
  names = λ name there. g.names name (f.names name there);
  frames = λ number there. g.frames number (f.frames number there);
}

run-one : (x : Happening) (r : Run) → IsLaterRun r (x ∷ r)
unfolding stations air
run-one x r = record {
  count = let e = length-append (stations r) (started x.event) in omega arith;
  names = names-more r (started x.event);
  frames = λ number there. find-gather (λ f. f.number == number) framed x.facts (air r) there;
}

run-claims : (settings : Settings) (workers : List Worker) (users : ℕ) (claims : List Claimed)
    (r : Run) → IsLaterRun r (with_claims settings workers users claims r)
run-claims settings workers users [] r = run-self r
run-claims settings workers users (c ∷ more) r =
    let x = claim_of settings workers users c r in
    run-then r (x ∷ r) _ (run-one x r) (run-claims settings workers users more (x ∷ r))

run-woven : (settings : Settings) (workers : List Worker) (users : ℕ)
    (claims : List (List Claimed)) (events : List Happening) (r : Run)
    → IsLaterRun r (woven settings workers users claims events r)
run-woven settings workers users claims [] r =
    run-claims settings workers users (claims_in claims) r
run-woven settings workers users [] (x ∷ more) r =
    run-then r (x ∷ r) _ (run-one x r) (run-woven settings workers users [] more (x ∷ r))
run-woven settings workers users (now ∷ claims) (x ∷ more) r =
    let s = with_claims settings workers users now r in
    run-then r s _ (run-claims settings workers users now r)
    (run-then s (x ∷ s) _ (run-one x s)
    (run-woven settings workers users claims more (x ∷ s)))

later-emitting : (n : ℕ) (w v : World) → emitting n w ≡ Goes v → IsLater w v
later-emitting zero w v e = subst (λ (u : World). IsLater w u) (world-in w v e) (later-self w)
later-emitting (suc n) w v e =
    let h = halfway (shown w events.Emit (answer w events.Emit)) (λ u. emitting n u) v e in
    later-later w h.half v (later-shown w h.half events.Emit (answer w events.Emit) h.first)
    (later-emitting n h.half v h.then_)

later-race : (workers : List Worker) (w v : World) (out : Course) → beside workers w out ≡ Goes v
    → IsLater w v
later-race workers w v (Goes u) e =
    let mid = after_race workers w u in
    let run = run-woven (settings w) workers (length w.kept.users) (woven_in u.kept.chances)
    (since w u) w.run in
    later-later w mid v (record { count = run.count; names = run.names; frames = run.frames })
    (later-emitting _ mid v e)
later-race workers w v (Stops u halt) e = absurd (cc e)

pub lasts : Lasts rules asks IsLater
lasts = record {
  self = later-self;
  then_ = later-later;
  kept = λ w kept.
      record { count = omega arith; names = λ name there. there; frames = λ number there. there };
  happens = λ w v event e. later-shown w v event (answer w event) e;
  beside = later-race;
}

-- ---- ticks

pub one-at-least : (settings : Settings) (s epoch : ℕ) (r : Run) → 1 ≤ next settings s epoch r
unfolding next
one-at-least settings s epoch [] = omega arith
one-at-least settings s epoch (x ∷ r) = let h = one-at-least settings s epoch r in omega arith

next-shown : (settings : Settings) (s : ℕ) (r : Run) (k : Option Key)
    → IsNextShown settings s r (next_under settings s r k) k
next-shown settings s r None = refl
next-shown settings s r (Some k) = (one-at-least settings s k.epoch r, omega arith)

-- a number that stands isn't below the next one
fits-shown : (settings : Settings) (s : ℕ) (r : Run) (k : Option Key) (raced b : Bool) (number : ℕ)
    → stands raced (next_under settings s r k) number ≡ b
    → IsNextShown settings s r (cond b number (next_under settings s r k)) k
fits-shown settings s r k raced false number e = next-shown settings s r k
fits-shown settings s r k false true number e = absurd (cc e)
fits-shown settings s r None true true number e = absurd (cc e)
fits-shown settings s r (Some k) true true number e =
    let next : next settings s k.epoch r ≤ number = grind arith in
    (let one = one-at-least settings s k.epoch r in omega (arith, one, next), next)

pub comes-tick : (s : ℕ) (w : World) → s < count w → Comes (tick s) w
comes-tick s w lt = (
  (
    lt,
    fits-shown (settings w) s w.run (transmitting_at (settings w) s w.run) w.kept.raced _
        (number_in w.kept.chances) refl,
  ),
  refl,
)

pub comes-ticks : (s n : ℕ) (w : World) → IsTidy w → s < count w → Comes (times n (tick s)) w
comes-ticks s n w tidy lt = comes-span lasts (λ _. tick s) 0 n w tidy
    (λ k v ge below l tidy_v. comes-tick s v (omega (arith, l.count)))

pub comes-round : (w : World) → IsTidy w → Comes round w
comes-round w tidy = comes-span lasts tick 0 (count w) w tidy
    (λ k v ge below l tidy_v. comes-tick k v (omega (arith, l.count)))

pub comes-rounds : (n : ℕ) (w : World) → IsTidy w → Comes (times n round) w
comes-rounds n w tidy = comes-span lasts (λ _. round) 0 n w tidy
    (λ k v ge below l tidy_v. comes-round v tidy_v)

-- ---- frames

pub comes-pass : (number from s : ℕ) (w : World) → s < count w → IsOnAir w.run number
    → Comes (pass number from s) w
comes-pass number from s w lt there =
    comes-unless rules asks (is_passed_by w from s) (happen (events.Deliver number s)) w
    (λ e. ((lt, there), tt))

pub comes-to_others : (number from : ℕ) (w : World) → IsTidy w → IsOnAir w.run number
    → Comes (to_others number from) w
comes-to_others number from w tidy there =
    comes-span lasts (pass number from) 0 (count w) w tidy
    (λ k v ge below l tidy_v. comes-pass number from k v (omega (arith, l.count))
    (l.frames number there))

numbers-marked : (n : ℕ) (frames : List Put)
    → map (λ (put : Put). put.number) (marked_at n frames) ≡ map (λ (put : Put). put.number) frames
numbers-marked n [] = refl
numbers-marked zero (put ∷ others) = refl
numbers-marked (suc n) (put ∷ others) =
    ap (λ (l : List ℕ). put.number ∷ l) (numbers-marked n others)

-- a mark leaves a world tidy
pub tidy-marked : (number : ℕ) (w : World) → IsTidy w
    → IsTidy (record w { kept = mark number w.kept })
tidy-marked number w tidy = record {
  sound = tidy.sound;
  within = tidy.within;
  frames = numbers-marked (number - 1) w.kept.frames ∙ tidy.frames;
  numbered = tidy.numbered;
  in_turn = tidy.in_turn;
  few = tidy.few;
  unspent = tidy.unspent;
  waits = tidy.waits;
  draws = tidy.draws;
  dealt = tidy.dealt;
}

pub comes-spread : (number : ℕ) (w : World) → IsTidy w → IsOnAir w.run number
    → Comes (spread number) w
comes-spread number w tidy there = (
  comes-to_others number (sender w number) w tidy there,
  is-going (perform (to_others number (sender w number)) w)
      (λ v. IsTidy v → Comes (change (mark number)) v)
      (λ v e tidy_v. tidy-marked number v tidy_v),
)

pub all-more : {A : Type 0} (P Q : A → Type 0) (xs : List A) → ((x : A) → P x → Q x) → AllByRecursion P xs
    → AllByRecursion Q xs
all-more P Q [] h all = tt
all-more P Q (x ∷ xs) h all = (h x all.0, all-more P Q xs h all.1)

all-end : {A : Type 0} (P : A → Type 0) (xs : List A) (y : A) → AllByRecursion P xs → P y
    → AllByRecursion P (xs ++ y ∷ [])
all-end P [] y all here = (here, tt)
all-end P (x ∷ xs) y all here = (all.0, all-end P xs y all.1 here)

same-number : (n : ℕ) → (n == n) ≡ true
same-number n = grind arith

-- the numbers of frames are found
numbers-found : (xs : List Frame)
    → AllByRecursion (λ number. is_some (find (λ (f : Frame). f.number == number) xs) ≡ true)
    (numbers_of xs)
numbers-found [] = tt
numbers-found (f ∷ earlier) =
    all-end (λ number. is_some (find (λ (g : Frame). g.number == number) (f ∷ earlier)) ≡ true)
    (numbers_of earlier) f.number
    (all-more (λ number. is_some (find (λ (g : Frame). g.number == number) earlier) ≡ true) _
    (numbers_of earlier)
    (λ number there. find-more (λ (g : Frame). g.number == number) f earlier there)
    (numbers-found earlier))
    (ap (λ (b : Bool). is_some (cond b (Some f) (find (λ (g : Frame). g.number == f.number)
    earlier))) (same-number f.number))

have-one : (P : ℕ → Type 0) (put : Put) (others : List Put) (b : Bool) → P put.number
    → AllByRecursion P (map (λ (q : Put). q.number) others)
    → AllByRecursion P (map (λ (q : Put). q.number) (cond b (put ∷ others) others))
have-one P put others true here all = (here, all)
have-one P put others false here all = all

due-have : (P : ℕ → Type 0) (lag rounds : ℕ) (frames : List Put)
    → AllByRecursion P (map (λ (put : Put). put.number) frames) → AllByRecursion P (due_of lag rounds frames)
due-have P lag rounds [] all = tt
due-have P lag rounds (put ∷ others) all =
    have-one P put (filter (is_due lag rounds) others) (is_due lag rounds put) all.0
    (due-have P lag rounds others all.1)

-- what is due is on the air
due-there : (w : World) → IsTidy w → AllByRecursion (λ number. IsOnAir w.run number) (due w)
due-there w tidy =
    due-have (λ number. IsOnAir w.run number) (lag_of w.kept.chosen) w.kept.rounds w.kept.frames
    (subst (λ (l : List ℕ). AllByRecursion (λ number. IsOnAir w.run number) l) (sym tidy.frames)
    (numbers-found (air w.run)))

pub comes-due : (w : World) → IsTidy w → Comes (each spread (due w)) w
comes-due w tidy =
    comes-each lasts (λ number. IsOnAir w.run number) spread (due w) w tidy (due-there w tidy)
    (λ number v there l tidy_v. comes-spread number v tidy_v (l.frames number there))

pub comes-flow_round : (w : World) → IsTidy w → Comes flow_round w
comes-flow_round w tidy = (
  record {
    sound = tidy.sound;
    within = tidy.within;
    frames = tidy.frames;
    numbered = tidy.numbered;
    in_turn = tidy.in_turn;
    few = tidy.few;
    unspent = tidy.unspent;
    waits = tidy.waits;
    draws = tidy.draws;
    dealt = tidy.dealt;
  },
  λ tidy_v. (
    comes-round _ tidy_v,
    is-going (perform round (record w { kept = record w.kept { rounds = round_after w.kept.rounds } }))
        (λ v. IsTidy v → Comes (each spread (due v)) v)
        (λ v e tidy_u. comes-due v tidy_u),
  ),
)

pub comes-flow : (n : ℕ) (w : World) → IsTidy w → Comes (times n flow_round) w
comes-flow n w tidy = comes-span lasts (λ _. flow_round) 0 n w tidy
    (λ k v ge below l tidy_v. comes-flow_round v tidy_v)
