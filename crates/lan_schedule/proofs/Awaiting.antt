-- A claim that got a number waits for its emission.
use Rattle.std.proofs.Common.{◌≡◌, ℕ, ◌==◌, true, false, Option, Some, None, refl, subst}
use Rattle.std.specs.Prelude.{is_some}
use Rattle.lan_core.specs.declared.event.Event.TheVariants as events
use Rattle.lan_core.specs.declared.stop.Stop.{Stop}
use Rattle.lan_core.specs.Claims.{waiting}
use Rattle.lan_core.specs.Expected.{drawn_from}
use Rattle.lan_core.specs.Stops.{first_stop}
use Rattle.next_numbers.proofs.Public.{waits-then as waits-in-run}
use Rattle.lan_schedule.specs.World.{World, settings}
use Rattle.lan_schedule.specs.Answers.{supply, answered, facts_shown}
use Rattle.lan_schedule.specs.Acts.{happen, perform, shown, world_after, Goes}
use Rattle.lan_schedule.specs.Sound.{IsTidy}
use Rattle.lan_schedule.specs.inside.Comes.{Comes, named}
use Rattle.lan_schedule.proofs.Settled.{shows-all}

pub waits-then : (w v : World) (s user pn : ℕ) → IsTidy w
    → perform (happen (events.Claim s user pn)) w ≡ Goes v
    → Comes (happen (events.Claim s user pn)) w
    → (pn == 0) ≡ false → is_some (waiting (settings v) v.run) ≡ true
waits-then w v s user pn tidy goes comes some =
    by (first_stop (settings w) w.kept.users w.run (events.Claim s user pn) (supply w)) refl goes
  where
    by : (o : Option Stop)
        → first_stop (settings w) w.kept.users w.run (events.Claim s user pn) (supply w) ≡ o
        → shown w (events.Claim s user pn) (answered w (events.Claim s user pn) o) ≡ Goes v
        → is_some (waiting (settings v) v.run) ≡ true
    by None free e =
        let same : world_after w (events.Claim s user pn)
        (facts_shown w (events.Claim s user pn)) ≡ v = cc e in
        subst (λ (u : World). is_some (waiting (settings u) u.run) ≡ true) same
        (waits-in-run (settings w) w.kept.users w.run (named w (events.Claim s user pn)) s user
        pn (drawn_from (settings w).suite (supply w)) (facts_shown w (events.Claim s user pn))
        tidy.in_turn comes.0 (shows-all w (events.Claim s user pn) tidy comes free) some)
    by (Some stop) free e = absurd (cc e)
