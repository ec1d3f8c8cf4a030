-- What can be performed in a tidy world.
use Rattle.std.proofs.Common.{◌≡◌, ◌≤◌, ℕ, ◌+◌, ◌-◌, ◌==◌, Bool, true, false}
use Rattle.std.proofs.Common.{List, [], ◌∷◌, ◌++◌, Option, Some, None, refl, sym}
use Rattle.std.proofs.Common.{◌∙◌, subst, arith}
use Rattle.std.specs.Prelude.{is_some, not, ◌||◌}
use Rattle.std.specs.List.{AllByRecursion}
use Rattle.lan_core.specs.declared.stop.Stop.{Stop}
use Rattle.lan_core.specs.Run.{Run}
use Rattle.lan_core.specs.Ledgers.{air, framed, frame_at}
use Rattle.lan_core.proofs.Public.{number-frame}
use Rattle.cak_roll.specs.declared.event.GroupNumber.{GroupNumber}
use Rattle.cak_roll.specs.declared.event.GroupNumber.TheVariants.{First, Second}
use Rattle.cak_roll.specs.declared.event.TwinEvent.{TwinEvent}
use Rattle.cak_roll.specs.declared.event.TwinEvent.TheVariants as twins
use Rattle.cak_roll.specs.Twin.{TwinHappening, Twin, part_of, run_of, setting_of, takes_part}
use Rattle.cak_roll.specs.Stepping.{happening, twin_stop}
use Rattle.cak_roll.proofs.Public.{twin-stepped}
use Rattle.trace_acts.proofs.Public.{comes-each, comes-span, comes-unless, find-gather}
use Rattle.trace_acts.proofs.Public.{is-going, Lasts, not-false, world-in}
use Rattle.twin_schedule.specs.World.{World, Kept, pair_of, count, frames, joined, sender, spread_in}
use Rattle.twin_schedule.specs.World.{has_spread}
use Rattle.twin_schedule.specs.Acts.{Act, happen, change, seq, perform, Goes, answered, rules, span}
use Rattle.twin_schedule.specs.Acts.{times, supply, world_after}
use Rattle.twin_schedule.specs.Lines.{tick_in, tick_both, round, is_passed_by, pass, spread}
use Rattle.twin_schedule.specs.Lines.{spread_group, flow_round}
use Rattle.twin_schedule.specs.Sound.{IsTidy}
use Rattle.twin_schedule.specs.inside.Comes.{asks, Comes}

-- ---- later worlds

-- a frame is on the air of a group
abbrev pub IsOnAir : GroupNumber → Twin → ℕ → Type 0
IsOnAir g t number = is_some (frame_at (run_of g t) number) ≡ true

-- the frames that were there are there still
pub record IsLater (w v : World) : Type 0 where
  pub frames : (g : GroupNumber) (number : ℕ) → IsOnAir g w.run number → IsOnAir g v.run number

pub later-self : (w : World) → IsLater w w
later-self w = record { frames = λ g number there. there }

pub later-later : (w v u : World) → IsLater w v → IsLater v u → IsLater w u
later-later w v u f g =
    record { frames = λ h number there. g.frames h number (f.frames h number there) }

part-on-air : (number : ℕ) (ys r : Run) → is_some (frame_at r number) ≡ true
    → is_some (frame_at (ys ++ r) number) ≡ true
unfolding air
part-on-air number [] r there = there
part-on-air number (y ∷ ys) r there =
    find-gather (λ f. f.number == number) framed y.facts (air (ys ++ r))
    (part-on-air number ys r there)

later-event : (w : World) (event : TwinEvent) (x : TwinHappening) → IsLater w (world_after w event x)
unfolding run_of
later-event w event x = record {
  frames = λ g number there. part-on-air number (part_of g x) (run_of g w.run) there;
}

later-kept : (w : World) (kept : Kept) → IsLater w (record w { kept = kept })
later-kept w kept = record { frames = λ g number there. there }

later-answered : (w v : World) (event : TwinEvent) (stop : Option Stop) (o : Option TwinHappening)
    → answered w event stop o ≡ Goes v → IsLater w v
later-answered w v event (Some stop) o e = absurd (cc e)
later-answered w v event None (Some x) e =
    subst (λ (u : World). IsLater w u) (world-in (world_after w event x) v e) (later-event w event x)
later-answered w v event None None e =
    subst (λ (u : World). IsLater w u) (world-in w v e) (later-self w)

pub lasts : Lasts rules asks IsLater
lasts = record {
  self = later-self;
  then_ = later-later;
  kept = later-kept;
  happens = λ w v event e.
      later-answered w v event (twin_stop (pair_of w) w.kept.users w.run event (supply w))
      (happening (pair_of w) w.kept.users w.run event (supply w)) e;
  beside = λ none w v out e. absurd none;
}

-- ---- ticks

comes-tick_in : (g : GroupNumber) (s : ℕ) (w : World) → Comes (tick_in g s) w
comes-tick_in g s w =
    comes-unless rules asks (not (takes_part g s w.run)) (happen (twins.Tick s g)) w
    (λ e. (not-false (takes_part g s w.run) e, tt))

pub comes-tick_both : (s : ℕ) (w : World) → Comes (tick_both s) w
comes-tick_both s w = (
  comes-tick_in First s w,
  is-going (perform (tick_in First s) w) (λ v. IsTidy v → Comes (tick_in Second s) v)
      (λ v e tidy. comes-tick_in Second s v),
)

pub comes-ticks : (s n : ℕ) (w : World) → IsTidy w → Comes (times n (tick_both s)) w
comes-ticks s n w tidy = comes-span lasts (λ _. tick_both s) 0 n w tidy
    (λ k v ge lt l tidy_v. comes-tick_both s v)

pub comes-round : (w : World) → IsTidy w → Comes round w
comes-round w tidy = comes-span lasts tick_both 0 (count w) w tidy
    (λ k v ge lt l tidy_v. comes-tick_both k v)

pub comes-rounds : (n : ℕ) (w : World) → IsTidy w → Comes (times n round) w
comes-rounds n w tidy = comes-span lasts (λ _. round) 0 n w tidy
    (λ k v ge lt l tidy_v. comes-round v tidy_v)

-- ---- frames

or-false : (a b : Bool) → (a || b) ≡ false → a ≡ false
or-false true b e = absurd (cc e)
or-false false b e = refl

comes-pass : (g : GroupNumber) (number from s : ℕ) (w : World) → IsOnAir g w.run number
    → Comes (pass g number from s) w
comes-pass g number from s w there =
    comes-unless rules asks (is_passed_by g from s w) (happen (twins.Deliver g number s)) w
    (λ e. ((not-false (takes_part g s w.run) (or-false (not (takes_part g s w.run)) _ e), there), tt))

all-units : (xs : List ℕ) → AllByRecursion (λ x. Unit {0}) xs
all-units [] = tt
all-units (x ∷ xs) = (tt, all-units xs)

pub comes-spread : (g : GroupNumber) (number : ℕ) (w : World) → IsTidy w → IsOnAir g w.run number
    → Comes (spread g number) w
comes-spread g number w tidy there =
    comes-each lasts (λ s. Unit {0}) (pass g number (sender g number w.run)) (joined g w.run) w tidy
    (all-units (joined g w.run)) (λ s v any l tidy_v. comes-pass g number (sender g number w.run) s v (l.frames g number there))

within-air : (g : GroupNumber) (number : ℕ) (w : World) → IsTidy w → 1 ≤ number
    → number ≤ frames g w.run → IsOnAir g w.run number
within-air g number w tidy low high =
    let found = number-frame (setting_of (pair_of w) g) w.kept.users (run_of g w.run) number
    (twin-stepped (pair_of w) w.kept.users w.run g tidy.legal) in
    found.1 (low, high)

-- what no world looks at leaves a world tidy
pub tidy-same : (w : World) (kept : Kept) → IsTidy w → kept.chosen ≡ w.kept.chosen
    → kept.second ≡ w.kept.second → kept.users ≡ w.kept.users
    → (kept.begun ≡ false → w.kept.begun ≡ false) → IsTidy (record w { kept = kept })
tidy-same w kept tidy chosen second users begun = record {
  legal = rw (chosen, second, users) tidy.legal;
  fresh = tidy.fresh;
  waits = λ e. tidy.waits (begun e);
  lone = λ e. tidy.lone (sym second ∙ e);
  draws = rw chosen tidy.draws;
}

tidy-spread : (g : GroupNumber) (n : ℕ) (w : World) → IsTidy w
    → IsTidy (record w { kept = has_spread g n w.kept })
tidy-spread First n w tidy = tidy-same w _ tidy refl refl refl (λ e. e)
tidy-spread Second n w tidy = tidy-same w _ tidy refl refl refl (λ e. e)

pub comes-spread_group : (g : GroupNumber) (w : World) → IsTidy w → Comes (spread_group g) w
comes-spread_group g w tidy =
    let first = spread_in g w.kept in
    let some = frames g w.run in
    let act : ℕ → Act = λ place. spread g (place + 1) in (
      comes-span lasts act first (some - first) w tidy
          (λ k v ge lt l tidy_v. comes-spread g (k + 1) v tidy_v
          (l.frames g (k + 1) (within-air g (k + 1) w tidy (omega arith) (omega (arith, ge, lt))))),
      is-going (perform (span act first (some - first)) w)
          (λ v. IsTidy v → Comes (change (has_spread g some)) v)
          (λ v e tidy_v. tidy-spread g some v tidy_v),
    )

pub comes-flow_round : (w : World) → IsTidy w → Comes flow_round w
comes-flow_round w tidy = (
  comes-round w tidy,
  is-going (perform round w)
      (λ v. IsTidy v → Comes (seq (spread_group First) (spread_group Second)) v)
      (λ v e tidy_v. (
        comes-spread_group First v tidy_v,
        is-going (perform (spread_group First) v) (λ u. IsTidy u → Comes (spread_group Second) u)
            (λ u f tidy_u. comes-spread_group Second u tidy_u),
      )),
)

pub comes-flow : (n : ℕ) (w : World) → IsTidy w → Comes (times n flow_round) w
comes-flow n w tidy = comes-span lasts (λ _. flow_round) 0 n w tidy
    (λ k v ge lt l tidy_v. comes-flow_round v tidy_v)
