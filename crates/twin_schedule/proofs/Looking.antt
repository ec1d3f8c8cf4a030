-- Acts that look at the world, begun from the groups at work.
use Rattle.std.proofs.Common.{◌≡◌, ◌<◌, ◌≤◌, ℕ, zero, suc, ◌+◌, ◌-◌, List, [], ◌∷◌, ◌++◌, length}
use Rattle.std.proofs.Common.{sym, ap, ◌∙◌, nat_eq, arith}
use Rattle.std.specs.Prelude.{◌^◌, Result}
use Rattle.std.specs.List.{position_or_len, range_with_len}
use Rattle.std.specs.Cmp.Lexicographic.{pointwise}
use Rattle.std.proofs.lemmas.List.{length-map}
use Rattle.lan_core.specs.Ledgers.{air}
use Rattle.lan_base.specs.declared.frame.UserFrame.{UserFrame}
use Rattle.lan_base.specs.Ranges.{most_frames}
use Rattle.lan_core.specs.declared.settings.Settings.{Settings}
use Rattle.lan_core.specs.Legal.{IsStepped}
use Rattle.lan_core.specs.Run.{Profile, Run, stations}
use Rattle.cak_roll.specs.declared.event.GroupNumber.{GroupNumber}
use Rattle.cak_roll.specs.declared.event.GroupNumber.TheVariants.{First, Second}
use Rattle.cak_roll.specs.Twin.{of_group, run_of, setting_of}
use Rattle.cak_roll.proofs.Public.{few-stations, twin-stepped}
use Rattle.trace_acts.specs.declared.halt.Halt.{Halt}
use Rattle.lan_base.specs.declared.sink.Unwritten.{Unwritten}
use Rattle.twin_schedule.specs.declared.party.Party.{Party}
use Rattle.twin_schedule.specs.declared.stage.Stage.{Stage}
use Rattle.twin_schedule.specs.World.{World, Kept, pair_of, count, place, frames, spread_in}
use Rattle.twin_schedule.specs.World.{has_spread}
use Rattle.twin_schedule.specs.Acts.{Act, change, look, seq, span}
use Rattle.twin_schedule.specs.Lines.{spread, spread_group}
use Rattle.twin_schedule.specs.Reports.{Report}
use Rattle.twin_schedule.specs.Ends.{Moment, IsReached}
use Rattle.twin_schedule.specs.Stages.{StandsFor, IsParty}
use Rattle.twin_schedule.specs.inside.Doing.{Did}
use Rattle.twin_schedule.proofs.Doing.{Leads, look-does, look-leads}
use Rattle.twin_schedule.proofs.Told.{senders-length}

-- how many stations there are
pub stations-count : (w : World) (stage : Stage) → StandsFor w stage
    → length stage.first.names.items ≡ count w
stations-count w stage stands =
    ap (λ (l : List (List ℕ)). length l) stands.first_party.names
    ∙ length-map (stations (run_of First w.run)) (λ (p : Profile). p.name)

pub stations-few : (w : World) (stage : Stage) → IsReached StandsFor w stage
    → length stage.first.names.items ≤ 16
stations-few w stage reached =
    let e = stations-count w stage reached.stands in
    let few : count w ≤ 16 = few-stations (pair_of w).first w.kept.users (run_of First w.run)
    (twin-stepped (pair_of w) w.kept.users w.run First reached.tidy.legal) in
    omega arith

-- a count of stations
abbrev pub Counts : Stage → ℕ → Type 0
Counts stage n = length stage.first.names.items ≤ 255 → n ≡ length stage.first.names.items

pub count-is : (w : World) (stage : Stage) (n : ℕ) → IsReached StandsFor w stage → Counts stage n
    → n ≡ count w
count-is w stage n reached is =
    let few = stations-few w stage reached in
    is (omega arith) ∙ stations-count w stage reached.stands

-- the place that a name has among those of the groups at work
abbrev pub Places : Stage → List ℕ → ℕ → Type 0
Places stage name s = length stage.first.names.items ≤ 255
    → s ≡ position_or_len (pointwise nat_eq name) stage.first.names.items

pub place-is : (w : World) (stage : Stage) (name : List ℕ) (s : ℕ) → IsReached StandsFor w stage
    → Places stage name s → s ≡ place w name
place-is w stage name s reached is =
    let few = stations-few w stage reached in
    is (omega arith)
    ∙ ap (λ (names : List (List ℕ)). position_or_len (pointwise nat_eq name) names)
    reached.stands.first_party.names

module _ {K : Type 0} {Took : K → Report → K → Type 0} {Broke : K → Report → K → Unwritten → Type 0}
  where
    -- an act for each station
    pub stations-leads : (f : ℕ → Act) (n : ℕ) (now : Moment Stage K) → Counts now.value n
        → Leads StandsFor Took Broke (look (λ w. span f 0 (count w))) now (span f 0 (n - 0)) now
    stations-leads f n now is =
        let e : n - 0 ≡ n = omega arith in
        rw e (look-leads (λ w. span f 0 (count w)) (span f 0 n) now
        (λ w reached. ap (λ (k : ℕ). span f 0 k) (count-is w now.value n reached is)))

-- what is kept beside changes, and of a group only what was spread
pub party-kept : (g : GroupNumber) (w : World) (kept : Kept) (party : Party)
    → spread_in g kept ≡ spread_in g w.kept → IsParty g w party
    → IsParty g (record w { kept = kept }) party
party-kept g w kept party same is =
    record { names = is.names; senders = is.senders; spread = is.spread ∙ sym same }

-- how many frames a group has
pub frames-count : (g : GroupNumber) (w : World) (party : Party) → IsParty g w party
    → length party.senders.items ≡ frames g w.run
frames-count g w party is =
    ap (λ (l : List ℕ). length l) is.senders ∙ senders-length (air (run_of g w.run))

-- what is kept of a group
pub party-of : (g : GroupNumber) (w : World) (stage : Stage) → StandsFor w stage
    → IsParty g w (of_group g stage.first stage.second)
party-of First w stage stands = stands.first_party
party-of Second w stage stands = stands.second_party

-- a group has no more frames than the limit
few-frames : (settings : Settings) (users : List UserFrame) (r : Run)
    → IsStepped settings users r → length (air r) ≤ most_frames
unfolding air
few-frames settings users [] stepped = omega arith
few-frames settings users (x ∷ r) (step, before) = step.within.frames

frames-few : (g : GroupNumber) (w : World) (stage : Stage) → IsReached StandsFor w stage
    → frames g w.run ≤ most_frames
frames-few g w stage reached =
    few-frames (setting_of (pair_of w) g) w.kept.users (run_of g w.run)
    (twin-stepped (pair_of w) w.kept.users w.run g reached.tidy.legal)

-- what a group has to spread is what is asked for
spreads-here : (g : GroupNumber) (w : World) (stage : Stage) (first some : ℕ)
    → IsReached StandsFor w stage → first ≡ (of_group g stage.first stage.second).spread
    → (length (of_group g stage.first stage.second).senders.items < 2 ^ 32
    → some ≡ length (of_group g stage.first stage.second).senders.items)
    → seq (span (λ place. spread g (place + 1)) first (some - first)) (change (has_spread g some))
    ≡ seq (span (λ place. spread g (place + 1)) (spread_in g w.kept)
    (frames g w.run - spread_in g w.kept)) (change (has_spread g (frames g w.run)))
spreads-here g w stage first some reached is_first is_some =
    let party = party-of g w stage reached.stands in
    let a : first ≡ spread_in g w.kept = is_first ∙ party.spread in
    let all = frames-count g w (of_group g stage.first stage.second) party in
    let few = frames-few g w stage reached in
    let b : some ≡ frames g w.run = is_some (omega (arith, all, few)) ∙ all in
    ap (λ (n : ℕ). seq (span (λ place. spread g (place + 1)) n (some - n)) (change (has_spread g some)))
    a
    ∙ ap (λ (n : ℕ). seq (span (λ place. spread g (place + 1)) (spread_in g w.kept)
    (n - spread_in g w.kept)) (change (has_spread g n))) b

module _ {K : Type 0} {Took : K → Report → K → Type 0} {Broke : K → Report → K → Unwritten → Type 0}
  where
    -- it is spread where what is asked for is
    pub spread-does : (g : GroupNumber) (first some : ℕ) (old new : Moment Stage K)
        (r : Result (Unit {0}) Halt) → first ≡ (of_group g old.value.first old.value.second).spread
        → (length (of_group g old.value.first old.value.second).senders.items < 2 ^ 32
        → some ≡ length (of_group g old.value.first old.value.second).senders.items)
        → Did Took Broke (seq (span (λ place. spread g (place + 1)) first (some - first))
        (change (has_spread g some))) old new r
        → Did Took Broke (spread_group g) old new r
    spread-does g first some old new r is_first is_some d =
        look-does
        (λ w. seq (span (λ place. spread g (place + 1)) (spread_in g w.kept)
        (frames g w.run - spread_in g w.kept)) (change (has_spread g (frames g w.run))))
        (seq (span (λ place. spread g (place + 1)) first (some - first)) (change (has_spread g some)))
        old new r (λ w reached. spreads-here g w old.value first some reached is_first is_some) d

-- so many numbers, and one more
range-more : (a n : ℕ) → range_with_len a (n + 1) ≡ range_with_len a n ++ (a + n) ∷ []
range-more a zero = let e : a ≡ a + 0 = omega arith in ap (λ k. k ∷ []) e
range-more a (suc n) =
    let e : suc n + 1 ≡ suc (n + 1) = omega arith in
    let f : a + 1 + n ≡ a + suc n = omega arith in
    ap (λ k. range_with_len a k) e
    ∙ ap (λ l. a ∷ l) (range-more (a + 1) n ∙ ap (λ k. range_with_len (a + 1) n ++ k ∷ []) f)

pub places-more : (n : ℕ) → range_with_len 0 (n + 1) ≡ range_with_len 0 n ++ n ∷ []
places-more n =
    let e : 0 + n ≡ n = omega arith in
    range-more 0 n ∙ ap (λ k. range_with_len 0 n ++ k ∷ []) e
