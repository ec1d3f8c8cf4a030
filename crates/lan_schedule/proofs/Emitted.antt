-- Emissions behind a race: each finds a frame that waits, and they change neither names nor whether
-- a race was begun.
use Rattle.std.proofs.Common.{◌≡◌, ◌<◌, ◌≤◌, ℕ, zero, suc, ◌+◌, Bool, true, false, List, [], ◌∷◌, ◌++◌}
use Rattle.std.proofs.Common.{length, map, filter, refl, sym, ap, ◌∙◌, subst, arith, append-nil, append_assoc}
use Rattle.std.specs.Prelude.{Option, Some, None, is_some, Result, Ok, Err, unwrap_or, option_map}
use Rattle.std.specs.Prelude.{option_and_then, slice_get, cond}
use Rattle.std.proofs.lemmas.List.{map-append}
use Rattle.lan_base.specs.declared.frame.UserFrame.{UserFrame}
use Rattle.lan_core.specs.declared.event.Event.TheVariants.{Emit}
use Rattle.lan_core.specs.declared.fact.Fact.{Fact}
use Rattle.lan_core.specs.declared.settings.Settings.{Settings}
use Rattle.lan_core.specs.declared.stop.Stop.{Stop}
use Rattle.lan_core.specs.Claims.{Waiting, claimed, frame_of_claim, waiting}
use Rattle.lan_core.specs.Expected.{Drawn, drawn_from, emit_facts, expected}
use Rattle.lan_core.specs.Ledgers.{Frame, air, emitted, framed, with_one}
use Rattle.lan_core.specs.Run.{Run, happened, stations}
use Rattle.lan_core.specs.Stops.{first_stop}
use Rattle.trace_acts.specs.declared.halt.Halt.{Halt}
use Rattle.trace_acts.specs.Names.{names_of}
use Rattle.lan_schedule.specs.World.{World, is_racing, settings}
use Rattle.lan_schedule.specs.Answers.{answer, answered, facts_shown, supply}
use Rattle.lan_schedule.specs.Acts.{Course, Goes, Stops, and_then, happen, perform, shown, span, times}
use Rattle.lan_schedule.specs.Acts.{world_after, world_of}
use Rattle.lan_schedule.specs.Reports.{Report, reports}
use Rattle.lan_schedule.specs.Sound.{IsTidy}
use Rattle.lan_schedule.specs.inside.Comes.{Comes}
use Rattle.lan_schedule.specs.inside.Weaves.{reports_with}
use Rattle.trace_acts.proofs.Public.{is-going}

-- ---- what an emission shows

facts-few : (o : Option (List ℕ)) (f : List ℕ → Fact)
    → length (unwrap_or (option_map (λ octets. f octets ∷ []) o) []) ≤ 1
facts-few None f = omega arith
facts-few (Some octets) f = omega arith

emit-few : (users : List UserFrame) (r : Run) (o : Option Waiting)
    → length (unwrap_or (option_and_then (emit_facts users r) o) []) ≤ 1
emit-few users r None = omega arith
emit-few users r (Some w) = facts-few (frame_of_claim users r w) _

shown-few : (settings : Settings) (users : List UserFrame) (r : Run) (drawn : Drawn)
    → length (unwrap_or (expected settings users r Emit drawn) []) ≤ 1
unfolding expected
shown-few settings users r drawn = emit-few users r (waiting settings r)

-- an emission, where it shows something
answered-few : (w : World) (o : Option Stop) (facts : List Fact) → answered w Emit o ≡ Ok facts
    → length facts ≤ 1
answered-few w None facts is =
    let same : facts_shown w Emit ≡ facts = cc is in
    subst (λ (l : List Fact). length l ≤ 1) same
    (shown-few (settings w) w.kept.users w.run (drawn_from (settings w).suite (supply w)))
answered-few w (Some stop) facts is = absurd (cc is)

answer-few : (w : World) (facts : List Fact) → answer w Emit ≡ Ok facts → length facts ≤ 1
answer-few w facts is =
    answered-few w (first_stop (settings w) w.kept.users w.run Emit (supply w)) facts is

-- ---- how many wait

sec-few : (b : Bool) (f : Frame) (frames : List Frame)
    → length (cond b (f ∷ frames) frames) ≤ suc (length frames)
sec-few true f frames = omega arith
sec-few false f frames = omega arith

one-framed : (o : Option Frame) (frames : List Frame)
    → length (filter (λ (f : Frame). f.sec) (with_one o frames))
    ≤ suc (length (filter (λ (f : Frame). f.sec) frames))
one-framed None frames = omega arith
one-framed (Some f) frames = sec-few f.sec f (filter (λ (f : Frame). f.sec) frames)

emitted-more : (facts : List Fact) (r : Run) → length facts ≤ 1
    → length (emitted (happened Emit facts ∷ r)) ≤ suc (length (emitted r))
unfolding air
emitted-more [] r few = omega arith
emitted-more (fact ∷ []) r few = one-framed (framed fact) (air r)
emitted-more (fact ∷ other ∷ later) r few = absurd (omega (arith, few))

claimed-still : (settings : Settings) (facts : List Fact) (r : Run)
    → claimed settings (happened Emit facts ∷ r) ≡ claimed settings r
unfolding claimed
claimed-still settings facts r = append-nil (claimed settings r)

is-there : {A : Type 0} (xs : List A) (i : ℕ) → i < length xs → is_some (slice_get xs i) ≡ true
is-there [] i less = absurd (omega (arith, less))
is-there (x ∷ xs) zero less = refl
is-there (x ∷ xs) (suc i) less = is-there xs i (omega (arith, less))

-- behind an emission fewer wait
IsNext : ℕ → World → Type 0
IsNext n v = (is_racing v.kept.phase ≡ false)
    × (length (emitted v.run) + n ≤ length (claimed (settings v) v.run))

next-emit : (n : ℕ) (u v : World) (r : Result (List Fact) Halt) → answer u Emit ≡ r
    → shown u Emit r ≡ Goes v → is_racing u.kept.phase ≡ false
    → length (emitted u.run) + suc n ≤ length (claimed (settings u) u.run) → IsNext n v
unfolding IsNext
next-emit n u v (Ok facts) is goes apart waits =
    let same : world_after u Emit facts ≡ v = cc goes in
    let more = emitted-more facts u.run (answer-few u facts is) in
    let still = ap length (claimed-still (settings u) facts u.run) in
    subst (λ (v : World). (is_racing v.kept.phase ≡ false)
    × (length (emitted v.run) + n ≤ length (claimed (settings v) v.run))) same
    (apart, omega (arith, more, still, waits))
next-emit n u v (Err halt) is goes apart waits = absurd (cc goes)

comes-span : (i n : ℕ) (u : World) → is_racing u.kept.phase ≡ false
    → length (emitted u.run) + n ≤ length (claimed (settings u) u.run)
    → Comes (span (λ _. happen Emit) i n) u
unfolding IsNext
comes-span i zero u apart waits = tt
comes-span i (suc n) u apart waits = (
  (is-there (claimed (settings u) u.run) (length (emitted u.run)) (omega (arith, waits)), apart),
  is-going (perform (happen Emit) u) (λ v. IsTidy v → Comes (span (λ _. happen Emit) (suc i) n) v)
      (λ v goes tidy. let next = next-emit n u v (answer u Emit) refl goes apart waits in
      comes-span (suc i) n v next.0 next.1),
)

-- so many emissions can be performed, where so many frames wait
pub comes-emits : (n : ℕ) (u : World) → is_racing u.kept.phase ≡ false
    → length (emitted u.run) + n ≤ length (claimed (settings u) u.run)
    → Comes (times n (happen Emit)) u
comes-emits n u apart waits = comes-span 0 n u apart waits

-- ---- what they leave

-- what was shown from one world up to another was shown under the same names
pub record ShowsMore (u v : World) : Type 0 where
  pub more : List (List Fact)
  pub shows : reports v.run ≡ reports u.run ++ reports_with (names_of u.run) more
  pub names : names_of v.run ≡ names_of u.run
  pub raced : v.kept.raced ≡ u.kept.raced

more-self : (u : World) → ShowsMore u u
more-self u = record {
  more = [];
  shows = sym (append-nil (reports u.run));
  names = refl;
  raced = refl;
}

more-then : (u v x : World) → ShowsMore u v → ShowsMore v x → ShowsMore u x
more-then u v x f g = record {
  more = f.more ++ g.more;
  shows = g.shows
      ∙ ap (λ (names : List (List ℕ)). reports v.run ++ reports_with names g.more) f.names
      ∙ ap (λ (l : List Report). l ++ reports_with (names_of u.run) g.more) f.shows
      ∙ append_assoc (reports u.run) (reports_with (names_of u.run) f.more)
      (reports_with (names_of u.run) g.more)
      ∙ ap (λ (l : List Report). reports u.run ++ l)
      (sym (map-append (λ (facts : List Fact). record { names = names_of u.run; facts = facts })
      f.more g.more));
  names = g.names ∙ f.names;
  raced = g.raced ∙ f.raced;
}

more-both : (u : World) (out : Course) (g : World → Course) → ShowsMore u (world_of out)
    → ((v : World) → ShowsMore v (world_of (g v))) → ShowsMore u (world_of (and_then out g))
more-both u (Goes v) g f h = more-then u v (world_of (g v)) f (h v)
more-both u (Stops v halt) g f h = f

same-names : (facts : List Fact) (r : Run) → names_of (happened Emit facts ∷ r) ≡ names_of r
unfolding stations
same-names facts r = ap (λ ps. map (λ p. p.name) ps) (append-nil (stations r))

more-shown : (u : World) (r : Result (List Fact) Halt) → ShowsMore u (world_of (shown u Emit r))
more-shown u (Ok facts) = record {
  more = facts ∷ [];
  shows = ap (λ (names : List (List ℕ)).
      reports u.run ++ record { names = names; facts = facts } ∷ []) (same-names facts u.run);
  names = same-names facts u.run;
  raced = refl;
}
more-shown u (Err halt) = more-self u

more-span : (i n : ℕ) (u : World) → ShowsMore u (world_of (perform (span (λ _. happen Emit) i n) u))
more-span i zero u = more-self u
more-span i (suc n) u =
    more-both u (shown u Emit (answer u Emit)) (λ v. perform (span (λ _. happen Emit) (suc i) n) v)
    (more-shown u (answer u Emit)) (λ v. more-span (suc i) n v)

pub emits-more : (n : ℕ) (u : World) → ShowsMore u (world_of (perform (times n (happen Emit)) u))
emits-more n u = more-span 0 n u
