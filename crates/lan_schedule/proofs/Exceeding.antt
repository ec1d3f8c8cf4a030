-- Which limit bursts would pass first.
use Rattle.std.proofs.Common.{◌≡◌, ◌<◌, ◌≤◌, ℕ, zero, suc, ◌+◌, ◌-◌, Bool, true, false, List, [], ◌∷◌, length, Some, None, refl, sym, ap, ◌∙◌, inl, inr, arith, drop}
use Rattle.std.specs.Prelude.{option_map, not, nat_lt}
use Rattle.std.proofs.lemmas.Bool.{cases_Bool}
use Rattle.std.proofs.lemmas.List.{length-map}
use Rattle.lan_base.specs.Ranges.{most_frames}
use Rattle.lan_core.specs.Ledgers.{air}
use Rattle.lan_core.specs.Order.{most_octets}
use Rattle.lan_core.specs.declared.stop.Which.TheVariants.{Frames, Octets}
use Rattle.lan_schedule.specs.declared.frames.Put.{Put}
use Rattle.lan_schedule.specs.declared.stage.Stage.{Stage}
use Rattle.lan_schedule.specs.Races.{Burst, frames_asked, limit_of, octets_asked}
use Rattle.lan_schedule.specs.World.{Flow, World, air_octets}
use Rattle.lan_schedule.specs.Lines.{air_excess}
use Rattle.lan_schedule.specs.Ends.{IsReached}
use Rattle.lan_schedule.specs.Stages.{StandsFor}
use Rattle.lan_schedule.proofs.LinesCome.{lt-true, lt-false, numbers-length}

pub lt-is : (a b : ℕ) → a < b → nat_lt a b ≡ true
lt-is a b lt = grind arith

pub ge-is : (a b : ℕ) → b ≤ a → nat_lt a b ≡ false
ge-is a b le = grind arith

-- what is asked against what is left is all against the limit
same-lt : (most taken asked : ℕ) → taken ≤ most
    → nat_lt most (taken + asked) ≡ nat_lt (most - taken) asked
same-lt most taken asked le = elim (cases_Bool (nat_lt most (taken + asked))) [
  | inl more ↦ (let lt = lt-true most (taken + asked) more in
      more ∙ sym (lt-is (most - taken) asked (omega (arith, lt, le))))
  | inr less ↦ (let ge = lt-false most (taken + asked) less in
      less ∙ sym (ge-is (most - taken) asked (omega (arith, ge))))
]

unnot : (a b : Bool) → a ≡ not b → b ≡ not a
unnot true true e = absurd (cc e)
unnot true false e = refl
unnot false true e = refl
unnot false false e = absurd (cc e)

-- the frames of the air are those that flow rounds look at
air-frames : (w : World) (stage : Stage) → IsReached StandsFor w stage
    → length (air w.run) ≡ length stage.frames.frames
air-frames w stage reached =
    sym (numbers-length (air w.run))
    ∙ ap (λ (l : List ℕ). length l) (sym reached.tidy.frames)
    ∙ length-map w.kept.frames (λ (put : Put). put.number)
    ∙ ap (λ (f : Flow). length f.frames) (sym reached.stands.flow)

frames-test : (bursts : List Burst) (w : World) (stage : Stage) (fits : Bool)
    → IsReached StandsFor w stage
    → fits ≡ not (nat_lt (most_frames - length stage.frames.frames) (frames_asked bursts))
    → nat_lt most_frames (length (air w.run) + frames_asked bursts) ≡ not fits
frames-test bursts w stage fits reached is =
    let many = air-frames w stage reached in
    same-lt most_frames (length (air w.run)) (frames_asked bursts) reached.tidy.within.frames
    ∙ ap (λ (n : ℕ). nat_lt (most_frames - n) (frames_asked bursts)) many ∙ unnot fits _ is

octets-test : (bursts : List Burst) (w : World) (stage : Stage) (octets : ℕ) (fits : Bool)
    → IsReached StandsFor w stage → octets ≡ air_octets w.run
    → fits ≡ not (nat_lt (most_octets - octets) (octets_asked bursts))
    → nat_lt most_octets (air_octets w.run + octets_asked bursts) ≡ not fits
octets-test bursts w stage octets fits reached have is =
    same-lt most_octets (air_octets w.run) (octets_asked bursts) reached.tidy.within.octets
    ∙ ap (λ (n : ℕ). nat_lt (most_octets - n) (octets_asked bursts)) (sym have)
    ∙ unnot fits _ is

pub too-many-frames : (bursts : List Burst) (w : World) (stage : Stage) (fits : Bool)
    → IsReached StandsFor w stage
    → fits ≡ not (nat_lt (most_frames - length stage.frames.frames) (frames_asked bursts))
    → fits ≡ false → Some Frames ≡ option_map limit_of (air_excess bursts w)
too-many-frames bursts w stage fits reached is none =
    let test = frames-test bursts w stage fits reached is ∙ ap not none in rw test refl

pub too-many-octets : (bursts : List Burst) (w : World) (stage : Stage) (octets : ℕ) (fits leaves : Bool)
    → IsReached StandsFor w stage → octets ≡ air_octets w.run
    → fits ≡ not (nat_lt (most_frames - length stage.frames.frames) (frames_asked bursts))
    → fits ≡ true
    → leaves ≡ not (nat_lt (most_octets - octets) (octets_asked bursts))
    → leaves ≡ false → Some Octets ≡ option_map limit_of (air_excess bursts w)
too-many-octets bursts w stage octets fits leaves reached have is some at none =
    let frames = frames-test bursts w stage fits reached is ∙ ap not some in
    let light = octets-test bursts w stage octets leaves reached have at ∙ ap not none in
    rw frames (rw light refl)

pub few-enough : (bursts : List Burst) (w : World) (stage : Stage) (octets : ℕ) (fits leaves : Bool)
    → IsReached StandsFor w stage → octets ≡ air_octets w.run
    → fits ≡ not (nat_lt (most_frames - length stage.frames.frames) (frames_asked bursts))
    → fits ≡ true
    → leaves ≡ not (nat_lt (most_octets - octets) (octets_asked bursts))
    → leaves ≡ true → None ≡ option_map limit_of (air_excess bursts w)
few-enough bursts w stage octets fits leaves reached have is some at all =
    let frames = frames-test bursts w stage fits reached is ∙ ap not some in
    let light = octets-test bursts w stage octets leaves reached have at ∙ ap not all in
    rw frames (rw light refl)

-- ---- what is asked, one after the other

past-all : {A : Type 0} (xs : List A) (i : ℕ) → length xs ≤ i → drop i xs ≡ []
past-all [] zero past = refl
past-all [] (suc i) past = refl
past-all (x ∷ xs) zero past = absurd (omega arith)
past-all (x ∷ xs) (suc i) past = past-all xs i (omega arith)
