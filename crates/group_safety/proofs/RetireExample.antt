-- A legal run in which a key is retired: alice, who began her second key, ticks on, says her hello, and
-- retires the first one 30 ticks after that beginning.
use Rattle.std.proofs.Common.{refl, ℕ, zero, suc, ◌+◌, List, [], ◌∷◌, true, false, None, Some, arith}
use Rattle.lan_base.specs.declared.association_number.AssociationNumber.TheVariants.{An0, An1}
use Rattle.mkpdu_codec.specs.declared.announcement.Announcement.{Announcement}
use Rattle.mka_station.specs.Lives.{Entry, ticked, sent}
use Rattle.lan_core.specs.declared.event.Event.TheVariants as events
use Rattle.lan_core.specs.declared.fact.Fact.TheVariants as facts
use Rattle.lan_core.specs.Run.{Run, happened}
use Rattle.lan_core.specs.Legal.{IsLegal, none_ahead}
use Rattle.group_safety.specs.worked.Group.{settings, alice, id}
use Rattle.group_safety.proofs.example.Scene.{IsSayable, Lives, Scene}
use Rattle.group_safety.proofs.example.Moves.{tick-moves, sends, sends-short, none-short}
use Rattle.group_safety.proofs.example.Run.{users, use_of, one_use, says, peers, frames, run, alice9}
use Rattle.group_safety.proofs.example.Sayable.{sayable}
use Rattle.group_safety.proofs.example.Steps.{opens, goes, both, l21, whole}
use Rattle.group_safety.proofs.Examples.{bob_starts}

-- ---- what is said

-- as before
abbrev a6 : Announcement
a6 = says alice 1 6 true (peers 3 2) []
    (Some (record { latest = use_of 2 An1 true; old = use_of 1 An0 false })) None

-- the first key is held no more
abbrev a7 : Announcement
a7 = says alice 1 7 true (peers 3 2) [] (one_use (use_of 2 An1 true)) None

good_a6 : IsSayable a6
good_a6 = sayable a6 refl (tt, tt)

good_a7 : IsSayable a7
good_a7 = sayable a7 refl (tt, tt)

-- ---- the run

-- so many ticks more, of which the first has this number
abbrev waits : ℕ → List Entry → List Entry
waits zero p = p
waits (suc n) p = ticked ∷ waits n p

abbrev idle : ℕ → ℕ → Run → Run
idle first zero r = r
idle first (suc n) r = happened (events.Tick 0 3) (facts.Ticked 0 (first + n) 3 ∷ []) ∷ idle first n r

abbrev alone : ℕ → List Entry → Lives → Lives
alone zero p ls = ls
alone (suc n) p ls = goes 0 (waits (suc n) p) (alone n p ls)

-- to her hello
abbrev greets : Run
greets =
    happened (events.Tick 0 3) (facts.Ticked 0 25 3 ∷ frames 10 0 alice a6 ∷ []) ∷ idle 6 19 run

abbrev alice10 : List Entry
alice10 = sent a6 ∷ ticked ∷ waits 19 alice9

abbrev l22 : Lives
l22 = goes 0 alice10 (alone 19 alice9 l21)

-- and to the tick that retires the first key
abbrev pub retiring : Run
retiring =
    happened (events.Tick 0 3)
    (facts.Ticked 0 35 3 ∷ facts.Retired 0 (id 1) An0 ∷ frames 11 0 alice a7 ∷ []) ∷ idle 26 9 greets

abbrev alice11 : List Entry
alice11 = sent a7 ∷ ticked ∷ waits 9 alice10

-- ---- each tick

t5 : Scene users both run l21
t5 = whole bob_starts

t6 : Scene users both (idle 6 1 run) (alone 1 alice9 l21)
unfolding opens
t6 =
    tick-moves users both (idle 6 0 run) (alone 0 alice9 l21) 0 3 _ (waits 1 alice9) [] t5
    (record { shows = refl; past = refl }) (omega arith) (omega arith, omega arith)
    (omega arith, omega arith) tt refl none-short refl refl (λ ahead. refl)

t7 : Scene users both (idle 6 2 run) (alone 2 alice9 l21)
unfolding opens
t7 =
    tick-moves users both (idle 6 1 run) (alone 1 alice9 l21) 0 3 _ (waits 2 alice9) [] t6
    (record { shows = refl; past = refl }) (omega arith) (omega arith, omega arith)
    (omega arith, omega arith) tt refl none-short refl refl (λ ahead. refl)

t8 : Scene users both (idle 6 3 run) (alone 3 alice9 l21)
unfolding opens
t8 =
    tick-moves users both (idle 6 2 run) (alone 2 alice9 l21) 0 3 _ (waits 3 alice9) [] t7
    (record { shows = refl; past = refl }) (omega arith) (omega arith, omega arith)
    (omega arith, omega arith) tt refl none-short refl refl (λ ahead. refl)

t9 : Scene users both (idle 6 4 run) (alone 4 alice9 l21)
unfolding opens
t9 =
    tick-moves users both (idle 6 3 run) (alone 3 alice9 l21) 0 3 _ (waits 4 alice9) [] t8
    (record { shows = refl; past = refl }) (omega arith) (omega arith, omega arith)
    (omega arith, omega arith) tt refl none-short refl refl (λ ahead. refl)

t10 : Scene users both (idle 6 5 run) (alone 5 alice9 l21)
unfolding opens
t10 =
    tick-moves users both (idle 6 4 run) (alone 4 alice9 l21) 0 3 _ (waits 5 alice9) [] t9
    (record { shows = refl; past = refl }) (omega arith) (omega arith, omega arith)
    (omega arith, omega arith) tt refl none-short refl refl (λ ahead. refl)

t11 : Scene users both (idle 6 6 run) (alone 6 alice9 l21)
unfolding opens
t11 =
    tick-moves users both (idle 6 5 run) (alone 5 alice9 l21) 0 3 _ (waits 6 alice9) [] t10
    (record { shows = refl; past = refl }) (omega arith) (omega arith, omega arith)
    (omega arith, omega arith) tt refl none-short refl refl (λ ahead. refl)

t12 : Scene users both (idle 6 7 run) (alone 7 alice9 l21)
unfolding opens
t12 =
    tick-moves users both (idle 6 6 run) (alone 6 alice9 l21) 0 3 _ (waits 7 alice9) [] t11
    (record { shows = refl; past = refl }) (omega arith) (omega arith, omega arith)
    (omega arith, omega arith) tt refl none-short refl refl (λ ahead. refl)

t13 : Scene users both (idle 6 8 run) (alone 8 alice9 l21)
unfolding opens
t13 =
    tick-moves users both (idle 6 7 run) (alone 7 alice9 l21) 0 3 _ (waits 8 alice9) [] t12
    (record { shows = refl; past = refl }) (omega arith) (omega arith, omega arith)
    (omega arith, omega arith) tt refl none-short refl refl (λ ahead. refl)

t14 : Scene users both (idle 6 9 run) (alone 9 alice9 l21)
unfolding opens
t14 =
    tick-moves users both (idle 6 8 run) (alone 8 alice9 l21) 0 3 _ (waits 9 alice9) [] t13
    (record { shows = refl; past = refl }) (omega arith) (omega arith, omega arith)
    (omega arith, omega arith) tt refl none-short refl refl (λ ahead. refl)

t15 : Scene users both (idle 6 10 run) (alone 10 alice9 l21)
unfolding opens
t15 =
    tick-moves users both (idle 6 9 run) (alone 9 alice9 l21) 0 3 _ (waits 10 alice9) [] t14
    (record { shows = refl; past = refl }) (omega arith) (omega arith, omega arith)
    (omega arith, omega arith) tt refl none-short refl refl (λ ahead. refl)

t16 : Scene users both (idle 6 11 run) (alone 11 alice9 l21)
unfolding opens
t16 =
    tick-moves users both (idle 6 10 run) (alone 10 alice9 l21) 0 3 _ (waits 11 alice9) [] t15
    (record { shows = refl; past = refl }) (omega arith) (omega arith, omega arith)
    (omega arith, omega arith) tt refl none-short refl refl (λ ahead. refl)

t17 : Scene users both (idle 6 12 run) (alone 12 alice9 l21)
unfolding opens
t17 =
    tick-moves users both (idle 6 11 run) (alone 11 alice9 l21) 0 3 _ (waits 12 alice9) [] t16
    (record { shows = refl; past = refl }) (omega arith) (omega arith, omega arith)
    (omega arith, omega arith) tt refl none-short refl refl (λ ahead. refl)

t18 : Scene users both (idle 6 13 run) (alone 13 alice9 l21)
unfolding opens
t18 =
    tick-moves users both (idle 6 12 run) (alone 12 alice9 l21) 0 3 _ (waits 13 alice9) [] t17
    (record { shows = refl; past = refl }) (omega arith) (omega arith, omega arith)
    (omega arith, omega arith) tt refl none-short refl refl (λ ahead. refl)

t19 : Scene users both (idle 6 14 run) (alone 14 alice9 l21)
unfolding opens
t19 =
    tick-moves users both (idle 6 13 run) (alone 13 alice9 l21) 0 3 _ (waits 14 alice9) [] t18
    (record { shows = refl; past = refl }) (omega arith) (omega arith, omega arith)
    (omega arith, omega arith) tt refl none-short refl refl (λ ahead. refl)

t20 : Scene users both (idle 6 15 run) (alone 15 alice9 l21)
unfolding opens
t20 =
    tick-moves users both (idle 6 14 run) (alone 14 alice9 l21) 0 3 _ (waits 15 alice9) [] t19
    (record { shows = refl; past = refl }) (omega arith) (omega arith, omega arith)
    (omega arith, omega arith) tt refl none-short refl refl (λ ahead. refl)

t21 : Scene users both (idle 6 16 run) (alone 16 alice9 l21)
unfolding opens
t21 =
    tick-moves users both (idle 6 15 run) (alone 15 alice9 l21) 0 3 _ (waits 16 alice9) [] t20
    (record { shows = refl; past = refl }) (omega arith) (omega arith, omega arith)
    (omega arith, omega arith) tt refl none-short refl refl (λ ahead. refl)

t22 : Scene users both (idle 6 17 run) (alone 17 alice9 l21)
unfolding opens
t22 =
    tick-moves users both (idle 6 16 run) (alone 16 alice9 l21) 0 3 _ (waits 17 alice9) [] t21
    (record { shows = refl; past = refl }) (omega arith) (omega arith, omega arith)
    (omega arith, omega arith) tt refl none-short refl refl (λ ahead. refl)

t23 : Scene users both (idle 6 18 run) (alone 18 alice9 l21)
unfolding opens
t23 =
    tick-moves users both (idle 6 17 run) (alone 17 alice9 l21) 0 3 _ (waits 18 alice9) [] t22
    (record { shows = refl; past = refl }) (omega arith) (omega arith, omega arith)
    (omega arith, omega arith) tt refl none-short refl refl (λ ahead. refl)

t24 : Scene users both (idle 6 19 run) (alone 19 alice9 l21)
unfolding opens
t24 =
    tick-moves users both (idle 6 18 run) (alone 18 alice9 l21) 0 3 _ (waits 19 alice9) [] t23
    (record { shows = refl; past = refl }) (omega arith) (omega arith, omega arith)
    (omega arith, omega arith) tt refl none-short refl refl (λ ahead. refl)

t25 : Scene users both greets l22
unfolding opens
t25 =
    tick-moves users both (idle 6 19 run) (alone 19 alice9 l21) 0 3 _ alice10 (sends 10 0 alice a6) t24
    (record { shows = refl; past = refl }) (omega arith) (omega arith, omega arith)
    (omega arith, omega arith) tt refl (sends-short 10 0 alice a6 good_a6) refl refl (λ ahead. refl)

t26 : Scene users both (idle 26 1 greets) (alone 1 alice10 l22)
unfolding opens
t26 =
    tick-moves users both (idle 26 0 greets) (alone 0 alice10 l22) 0 3 _ (waits 1 alice10) [] t25
    (record { shows = refl; past = refl }) (omega arith) (omega arith, omega arith)
    (omega arith, omega arith) tt refl none-short refl refl (λ ahead. refl)

t27 : Scene users both (idle 26 2 greets) (alone 2 alice10 l22)
unfolding opens
t27 =
    tick-moves users both (idle 26 1 greets) (alone 1 alice10 l22) 0 3 _ (waits 2 alice10) [] t26
    (record { shows = refl; past = refl }) (omega arith) (omega arith, omega arith)
    (omega arith, omega arith) tt refl none-short refl refl (λ ahead. refl)

t28 : Scene users both (idle 26 3 greets) (alone 3 alice10 l22)
unfolding opens
t28 =
    tick-moves users both (idle 26 2 greets) (alone 2 alice10 l22) 0 3 _ (waits 3 alice10) [] t27
    (record { shows = refl; past = refl }) (omega arith) (omega arith, omega arith)
    (omega arith, omega arith) tt refl none-short refl refl (λ ahead. refl)

t29 : Scene users both (idle 26 4 greets) (alone 4 alice10 l22)
unfolding opens
t29 =
    tick-moves users both (idle 26 3 greets) (alone 3 alice10 l22) 0 3 _ (waits 4 alice10) [] t28
    (record { shows = refl; past = refl }) (omega arith) (omega arith, omega arith)
    (omega arith, omega arith) tt refl none-short refl refl (λ ahead. refl)

t30 : Scene users both (idle 26 5 greets) (alone 5 alice10 l22)
unfolding opens
t30 =
    tick-moves users both (idle 26 4 greets) (alone 4 alice10 l22) 0 3 _ (waits 5 alice10) [] t29
    (record { shows = refl; past = refl }) (omega arith) (omega arith, omega arith)
    (omega arith, omega arith) tt refl none-short refl refl (λ ahead. refl)

t31 : Scene users both (idle 26 6 greets) (alone 6 alice10 l22)
unfolding opens
t31 =
    tick-moves users both (idle 26 5 greets) (alone 5 alice10 l22) 0 3 _ (waits 6 alice10) [] t30
    (record { shows = refl; past = refl }) (omega arith) (omega arith, omega arith)
    (omega arith, omega arith) tt refl none-short refl refl (λ ahead. refl)

t32 : Scene users both (idle 26 7 greets) (alone 7 alice10 l22)
unfolding opens
t32 =
    tick-moves users both (idle 26 6 greets) (alone 6 alice10 l22) 0 3 _ (waits 7 alice10) [] t31
    (record { shows = refl; past = refl }) (omega arith) (omega arith, omega arith)
    (omega arith, omega arith) tt refl none-short refl refl (λ ahead. refl)

t33 : Scene users both (idle 26 8 greets) (alone 8 alice10 l22)
unfolding opens
t33 =
    tick-moves users both (idle 26 7 greets) (alone 7 alice10 l22) 0 3 _ (waits 8 alice10) [] t32
    (record { shows = refl; past = refl }) (omega arith) (omega arith, omega arith)
    (omega arith, omega arith) tt refl none-short refl refl (λ ahead. refl)

t34 : Scene users both (idle 26 9 greets) (alone 9 alice10 l22)
unfolding opens
t34 =
    tick-moves users both (idle 26 8 greets) (alone 8 alice10 l22) 0 3 _ (waits 9 alice10) [] t33
    (record { shows = refl; past = refl }) (omega arith) (omega arith, omega arith)
    (omega arith, omega arith) tt refl none-short refl refl (λ ahead. refl)

t35 : Scene users both retiring (goes 0 alice11 (alone 9 alice10 l22))
unfolding opens
t35 =
    tick-moves users both (idle 26 9 greets) (alone 9 alice10 l22) 0 3 _ alice11 (sends 11 0 alice a7) t34
    (record { shows = refl; past = refl }) (omega arith) (omega arith, omega arith)
    (omega arith, omega arith) tt refl (sends-short 11 0 alice a7 good_a7) refl refl (λ ahead. refl)

-- the run is legal
pub retires : IsLegal settings users retiring
retires = record { stepped = t35.stepped; excused = t35.excused none_ahead }
