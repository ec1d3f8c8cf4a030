-- What lies on the way of acts.
use Rattle.std.proofs.Common.{◌≡◌, List, ◌++◌, refl}
use Rattle.std.specs.Prelude.{ℕ}
use Rattle.trace_acts.proofs.Public.{grows as grows-by, IsAs as IsAsBy, Stays}
use Rattle.trace_acts.proofs.Public.{as-append as append-as, as-left as left-as}
use Rattle.trace_acts.proofs.Public.{begins-start as start-begins, way-begun as begun-way}
use Rattle.trace_acts.proofs.Public.{way-begins as begins-way, way-front as front-way}
use Rattle.trace_acts.proofs.Public.{way-start as start-way}
use Rattle.lan_schedule.specs.World.{World}
use Rattle.lan_schedule.specs.Acts.{Act, BeginsAt, seq, perform, Goes, IsOnWay, rules}
use Rattle.lan_schedule.specs.Answers.{answer}
use Rattle.lan_schedule.specs.Lines.{performed, performed_all}
use Rattle.lan_schedule.specs.Reports.{reports}
use Rattle.lan_schedule.specs.Ends.{Begins, reported}
use Rattle.lan_schedule.proofs.Racing.{shown-begins, race-begins}

-- an act from a world comes to where another does from its world, by whatever that comes by, and its parts
-- begin wherever that one's do
abbrev pub IsAs : Act → World → Act → World → Type 0
IsAs f w g v = IsAsBy rules f w g v

pub as-self : (f : Act) (w : World) → IsAs f w f w
as-self f w = (refl, λ u on. on, λ u begins. begins)

-- behind its first part an act is what is left of it
pub as-left : (f g : Act) (w v : World) → perform f w ≡ Goes v → IsAs (seq f g) w g v
as-left f g w v goes = left-as rules f g w v goes

pub as-append : (xs ys : List (List ℕ)) (w : World)
    → IsAs (performed_all (xs ++ ys)) w (seq (performed_all xs) (performed_all ys)) w
as-append xs ys w = append-as rules performed xs ys w

-- ---- where it begins

pub way-start : (act : Act) (w : World) → IsOnWay act w w
way-start act w = start-way rules act w

pub begins-start : (act : Act) (w : World) → BeginsAt act w w
begins-start act w = start-begins rules act w

-- where a part begins is on the way
pub way-begun : (act : Act) (w v : World) → BeginsAt act w v → IsOnWay act w v
way-begun act w v begins = begun-way rules act w v begins

-- where the first lines come to is on the way of all
pub way-front : (xs ys : List (List ℕ)) (w v : World) → perform (performed_all xs) w ≡ Goes v
    → IsOnWay (performed_all (xs ++ ys)) w v
way-front xs ys w v goes = front-way rules performed xs ys w v goes

-- ---- what was shown stays

stays : Stays rules reports
stays = record {
  happens = λ w event. shown-begins w event (answer w event);
  beside = race-begins;
}

pub grows : (act : Act) (w : World) → Begins (reports w.run) (reported (perform act w))
grows act w = grows-by stays act w

-- on the way of an act a front was shown of what it shows
pub way-begins : (act : Act) (w v : World) → IsOnWay act w v
    → Begins (reports v.run) (reported (perform act w))
way-begins act w v on = begins-way stays act w v on
